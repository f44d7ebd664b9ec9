-- Document 01, "Numbers of the checks": the checks of a call as one list, in the order of the call, and the verdict of such a list, in the document's words
-- and computed. Definitions only. A check is one entry: which check, its test (computed), its fault (in the document's words) and the task it names.
use Rattle.std.specs.Prelude.{◌≡◌, ◌⊎◌, ◌↔◌, Bool, true, false, cond, List, [], ◌∷◌, map, ℕ, suc, ◌<◌, length, get_or, Result, Ok, Err, ⊤}
use Rattle.project.specs.declared.answers.Check.{Check}
use Rattle.project.specs.declared.answers.Check.TheVariants.{ListLength, FileLength, WrongMark, WrongEdition, CacheBlocks, TaskCount, WrongContents, BrokenLayout, OffPath, TooManyStates, SheetRules, WrongPath, OutLength, NoSuchTask, MaskedPoint, OutOfBounds, SameTasks, SheetLength, TooDeep, WrongTimes}
use Rattle.project.specs.declared.answers.Refusal.{Refusal}

-- ---- the checks and what they answer

-- the document's numbers of the checks; document 02, Point 5: "so 10 is never given any more"
abbrev pub number_of : Check → ℕ
number_of ListLength = 1
number_of FileLength = 2
number_of WrongMark = 3
number_of WrongEdition = 4
number_of CacheBlocks = 5
number_of TaskCount = 6
number_of WrongContents = 7
number_of BrokenLayout = 8
number_of OffPath = 9
number_of TooManyStates = 11
number_of SheetRules = 12
number_of WrongPath = 13
number_of OutLength = 14
number_of NoSuchTask = 15
number_of MaskedPoint = 16
number_of OutOfBounds = 17
number_of SameTasks = 18
number_of SheetLength = 19
number_of TooDeep = 20
number_of WrongTimes = 21

-- "others 255": the task that a check names which is about no task
abbrev pub no_task : ℕ
no_task = 255

-- the check that fails first and the task that it names
abbrev pub refusal : Check → ℕ → Refusal
refusal c a = record { check = c; task = a }

-- what some checks say: all pass, or the refusal
abbrev pub Checked : Type 0
Checked = Result ⊤ Refusal

-- what a call answers by what its checks say: x where they pass, else the refusal
abbrev pub answered : {A : Type 0} → Checked → A → Result A Refusal
answered (Ok passed) x = Ok x
answered (Err r) x = Err r

-- what a lent place holds after a call, by what its checks say: the new contents where they pass, else the old
abbrev pub left_by : {A : Type 0} → Checked → A → A → A
left_by (Ok passed) new old = new
left_by (Err r) new old = old

-- ---- a list of checks

pub data Entry : Type 1 where
  -- a check that names one task: the check, the task named, test, fault
  one : Check → ℕ → Bool → Type 0 → Entry
  -- a check over tasks that names the lowest task at fault: the check, the test of each task from task 0 on, the fault of each task
  each : Check → List Bool → (ℕ → Type 0) → Entry

abbrev pub number : Entry → ℕ
number (one c a test Fault) = number_of c
number (each c tests Fault) = number_of c

-- the numbers of the checks, in the order of the call
abbrev pub numbers : List Entry → List ℕ
numbers es = map number es

-- the fault of the element numbered j of a list, where there is one
abbrev pub Of : {A : Type 0} → (A → Type 0) → A → List A → ℕ → Type 0
Of Fault default l j = (j < length l) × Fault (get_or l j default)

-- ---- in the document's words

-- "the lowest task at fault"
abbrev pub Lowest : (ℕ → Type 0) → ℕ → Type 0
Lowest Fault j = Fault j × ((i : ℕ) → i < j → Fault i → ⊥)

-- the check fails: it has the number c and names the task a
abbrev pub Fails : Entry → ℕ → ℕ → Type 0
Fails (one check named test Fault) c a = (c ≡ number_of check) × (a ≡ named) × Fault
Fails (each check tests Fault) c a = (c ≡ number_of check) × Lowest Fault a

-- the check passes, for all tasks
abbrev pub Passes : Entry → Type 0
Passes (one c a test Fault) = Fault → ⊥
Passes (each c tests Fault) = (j : ℕ) → Fault j → ⊥

abbrev pub AllPass : List Entry → Type 0
AllPass [] = Unit {0}
AllPass (e ∷ es) = Passes e × AllPass es

-- the first check of the list that fails has the number c and names the task a
abbrev pub FirstFault : List Entry → ℕ → ℕ → Type 0
FirstFault [] c a = ⊥
FirstFault (e ∷ es) c a = Fails e c a ⊎ (Passes e × FirstFault es c a)

-- "each passes for all tasks before the next"
abbrev pub Verdict : List Entry → Checked → Type 0
Verdict es (Ok passed) = AllPass es
Verdict es (Err r) = FirstFault es (number_of r.check) r.task

-- ---- computed

-- some checks, and then the others
abbrev pub and_then : Checked → Checked → Checked
and_then (Ok passed) next = next
and_then (Err r) next = Err r

-- check c, which names the task a where its test holds
abbrev pub unless : Check → ℕ → Bool → Checked
unless c a true = Err (refusal c a)
unless c a false = Ok tt

-- check c, which names the lowest task whose test holds, from task j on
abbrev pub lowest : Check → ℕ → List Bool → Checked
lowest c j [] = Ok tt
lowest c j (test ∷ tests) = cond test (Err (refusal c j)) (lowest c (suc j) tests)

abbrev pub outcome : Entry → Checked
outcome (one c a test Fault) = unless c a test
outcome (each c tests Fault) = lowest c 0 tests

abbrev pub verdict_of : List Entry → Checked
verdict_of [] = Ok tt
verdict_of (e ∷ es) = and_then (outcome e) (verdict_of es)

-- ---- their agreement

-- the test holds exactly when the fault is there; for a check over tasks, of each task
abbrev pub Agrees : Entry → Type 0
Agrees (one c a test Fault) = (test ≡ true) ↔ Fault
Agrees (each c tests Fault) = (j : ℕ) → (get_or tests j false ≡ true) ↔ Fault j

-- each check agrees where those before it pass
abbrev pub Agreeing : List Entry → Type 0
Agreeing [] = Unit {0}
Agreeing (e ∷ es) = Agrees e × (Passes e → Agreeing es)
