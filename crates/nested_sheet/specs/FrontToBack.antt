-- Document 02, Point 7: "reading the sheet from its front, the first number at fault decides between 12 and 20, 12 if both". Definitions only.
-- A number is at fault by itself and by what stands before it: which number comes next, and the runs around it, is what the numbers before it say.
use Rattle.std.specs.Prelude.{◌≡◌, ◌⊎◌, true, cond, List, [], ◌∷◌, ◌++◌, map, ℕ, zero, suc, ◌-◌, ◌≤◌, ◌<◌, eqb, length}
use Rattle.model.specs.Lists.{mem}
use Rattle.sheet.specs.Sheet.{Sheet, longest_path}
use Rattle.nested_sheet.specs.NestedSheet.{deepest}

-- a run that a place of the sheet lies within: its task, the length of its path, how many runs of its list are still to begin, and the point of the
-- last one that began, (0, 0) before the first
pub record Around : Type 0 where
  pub task : ℕ
  pub long : ℕ
  pub left : ℕ
  pub position : ℕ
  pub done : ℕ

-- which number comes next, and the runs around it, the innermost first
pub data Next : Type 0 where
  a_task : List Around → Next
  a_length : (task : ℕ) → List Around → Next
  -- a block, after which this many come
  a_block : (task long left : ℕ) → List Around → Next
  a_count : (task long : ℕ) → List Around → Next
  a_position : Around → List Around → Next
  a_done : (position : ℕ) → Around → List Around → Next
  -- the sheet is at its end
  no_number : Next

-- the tasks of the runs around
abbrev pub tasks_of : List Around → List ℕ
tasks_of around = map (λ (a : Around). a.task) around

-- a sheet begins with the task of the outer run
abbrev pub at_front : Next
at_front = a_task []

-- where a run or a list begins or ends: the next run of the innermost list that has one left
abbrev pub going_on : List Around → Next
going_on [] = no_number
going_on (a ∷ around) = cond (eqb a.left 0) (going_on around) (a_position a around)

-- what comes after a number
abbrev pub after : Next → ℕ → Next
after (a_task around) x = a_length x around
after (a_length j around) x = a_block j x (x - 1) around
after (a_block j long zero around) x = a_count j long around
after (a_block j long (suc left) around) x = a_block j long left around
after (a_count j long around) x = going_on (record { task = j; long = long; left = x; position = 0; done = 0 } ∷ around)
after (a_position a around) x = a_done x a around
after (a_done i a around) x = a_task (record { task = a.task; long = a.long; left = a.left - 1; position = i; done = x } ∷ around)
after no_number x = no_number

abbrev pub after_all : Next → List ℕ → Next
after_all e [] = e
after_all e (x ∷ xs) = after_all (after e x) xs

-- ---- the faults

-- the number is against check 12: "a length, count, task or point against the rules", "run sheet .. too long"
abbrev pub Against12 : ℕ → Next → ℕ → Type 0
Against12 t (a_task around) x = t ≤ x
Against12 t (a_length j around) x = (x ≡ 0) ⊎ (longest_path < x)
Against12 t (a_block j long left around) x = ⊥
Against12 t (a_count j long around) x = 16 < x
Against12 t (a_position a around) x = (a.long ≤ x) ⊎ (x < a.position)
Against12 t (a_done i a around) x = (i ≡ a.position) × (x < a.done)
Against12 t no_number x = Unit {0}

-- the number is against check 20: "a count above 0 at depth 7 (the outer run has depth 0) or a task within itself"
abbrev pub Against20 : Next → ℕ → Type 0
Against20 (a_task around) x = mem eqb x (tasks_of around) ≡ true
Against20 (a_length j around) x = ⊥
Against20 (a_block j long left around) x = ⊥
Against20 (a_count j long around) x = (0 < x) × (length around ≡ deepest)
Against20 (a_position a around) x = ⊥
Against20 (a_done i a around) x = ⊥
Against20 no_number x = ⊥

-- no number of the list is at fault, each by those before it
abbrev pub NoFault : ℕ → Next → List ℕ → Type 0
NoFault t e [] = Unit {0}
NoFault t e (x ∷ xs) = (Against12 t e x → ⊥) × (Against20 e x → ⊥) × NoFault t (after e x) xs

-- where e comes next, the first number at fault of the list is against a check: no number before it is at fault
pub record FirstAgainst (t : ℕ) (Against : Next → ℕ → Type 0) (e : Next) (xs : List ℕ) : Type 0 where
  pub before : List ℕ
  pub number : ℕ
  pub behind : List ℕ
  pub stands : xs ≡ before ++ (number ∷ behind)
  pub none_before : NoFault t e before
  pub against : Against (after_all e before) number

-- "run sheet short": no number is at fault, and one is missing
pub record TooShort (t : ℕ) (sheet : Sheet) : Type 0 where
  pub none : NoFault t at_front sheet
  pub missing : after_all at_front sheet ≡ no_number → ⊥

-- check 12 of a nested sheet, in a file of t tasks
abbrev pub Nested12 : ℕ → Sheet → Type 0
Nested12 t sheet = FirstAgainst t (Against12 t) at_front sheet ⊎ TooShort t sheet

-- check 20; "12 if both"
abbrev pub Nested20 : ℕ → Sheet → Type 0
Nested20 t sheet = FirstAgainst t (λ (e : Next) (x : ℕ). Against20 e x × (Against12 t e x → ⊥)) at_front sheet
