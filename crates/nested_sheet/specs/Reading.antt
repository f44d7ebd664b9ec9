-- Checks 12 and 20 of a nested sheet, computed: number by number, as the definitions say it, and run by run, as the code reads it. Proofs show that they
-- agree.
use Rattle.std.specs.Prelude.{⊤, Result, Ok, Err, Bool, ◌&&◌, cond, List, [], ◌∷◌, ℕ, zero, suc, ◌+◌, ◌^◌, ◌≤◌, eqb, ltb, leb, length, get_or, drop}
use Rattle.std.specs.Int.Bits.{bit_or}
use Rattle.cache.specs.Sets.{in_set}
use Rattle.model.specs.Lists.{mem}
use Rattle.sheet.specs.Sheet.{Sheet, longest_path}
use Rattle.sheet.specs.Parsed.{path_test, not_before}
use Rattle.nested_sheet.specs.NestedSheet.{deepest}
use Rattle.nested_sheet.specs.FrontToBack.{Next, a_task, a_length, a_block, a_count, a_position, a_done, no_number, tasks_of, at_front, after}
use Rattle.nested_sheet.specs.declared.rules.SheetFault.{SheetFault}
use Rattle.nested_sheet.specs.declared.rules.SheetFault.TheVariants.{Rules, Nesting}

-- ---- number by number

-- the check that a number is against, or 0
abbrev pub check_of : ℕ → Next → ℕ → ℕ
check_of t (a_task around) x = cond (ltb x t) (cond (mem eqb x (tasks_of around)) 20 0) 12
check_of t (a_length j around) x = cond (leb 1 x && leb x longest_path) 0 12
check_of t (a_block j long left around) x = 0
check_of t (a_count j long around) x = cond (leb x 16) (cond (leb 1 x && eqb (length around) deepest) 20 0) 12
check_of t (a_position a around) x = cond (ltb x a.long && leb a.position x) 0 12
check_of t (a_done i a around) x = cond (eqb i a.position && ltb x a.done) 12 0
check_of t no_number x = 12

-- the first of two numbers that isn't 0
abbrev pub first_of : ℕ → ℕ → ℕ
first_of zero d = d
first_of (suc c) d = suc c

-- 12 where the numbers end and one is missing
abbrev pub missing : Next → ℕ
missing (a_task around) = 12
missing (a_length j around) = 12
missing (a_block j long left around) = 12
missing (a_count j long around) = 12
missing (a_position a around) = 12
missing (a_done i a around) = 12
missing no_number = 0

-- the check of the first number at fault, or 0 where there is none
abbrev pub first_fault : ℕ → Next → List ℕ → ℕ
first_fault t e [] = missing e
first_fault t e (x ∷ xs) = first_of (check_of t e x) (first_fault t (after e x) xs)

-- the same of a whole sheet
abbrev pub sheet_fault : ℕ → Sheet → ℕ
sheet_fault t sheet = first_fault t at_front sheet

-- ---- run by run

-- the number of a check
abbrev pub fault_number : SheetFault → ℕ
fault_number Rules = 12
fault_number Nesting = 20

-- where a run or a list ends: the place after it, or the check that its first number at fault is against
abbrev pub End : Type 0
End = Result ℕ SheetFault

-- what comes after a run or a list that ends
abbrev pub onwards : End → (ℕ → End) → End
onwards (Err c) go = Err c
onwards (Ok next) go = go next

-- the first four parts of the run that begins at `at`: task, path length, blocks and count; the set `around` has the tasks of the runs around it
abbrev pub head_end : ℕ → ℕ → Sheet → ℕ → End
head_end t around s at =
    cond (ltb at (length s) && ltb (get_or s at 0) t)
    (cond (in_set around (get_or s at 0)) (Err Nesting)
    (cond (ltb (at + 1) (length s) && path_test (get_or s (at + 1) 0) (drop (at + 2) s)
    && (ltb (at + 2 + get_or s (at + 1) 0) (length s) && leb (get_or s (at + 2 + get_or s (at + 1) 0) 0) 16))
    (Ok (at + 3 + get_or s (at + 1) 0)) (Err Rules)))
    (Err Rules)

-- the run that begins at `at`, whose list `list` reads: by the path's length, the count, the point (0, 0) and where the list begins
abbrev pub run_by : (ℕ → ℕ → ℕ → ℕ → ℕ → End) → ℕ → ℕ → Sheet → ℕ → End
run_by list t around s at = onwards (head_end t around s at) (λ next. list (get_or s (at + 1) 0) (get_or s (at + 2 + get_or s (at + 1) 0) 0) 0 0 next)

-- a point stands at `at`, in a path of `long` blocks, and doesn't come before the point (i, d)
abbrev pub point_test : Sheet → ℕ → ℕ → ℕ → ℕ → Bool
point_test s long i d at = leb (at + 2) (length s) && (ltb (get_or s at 0) long && not_before i d (get_or s at 0) (get_or s (at + 1) 0))

-- `left` runs with their points, each of which `one` reads
abbrev pub runs_by : (ℕ → End) → Sheet → ℕ → ℕ → ℕ → ℕ → ℕ → End
runs_by one s long zero i d at = Ok at
runs_by one s long (suc left) i d at =
    cond (point_test s long i d at) (onwards (one (at + 2)) (λ next. runs_by one s long left (get_or s at 0) (get_or s (at + 1) 0) next)) (Err Rules)

-- a list of `left` runs that begins at `at`, in a path of `long` blocks, after the point (i, d); `deep` runs may lie one within the other
unfoldable pub list_end : ℕ → ℕ → ℕ → Sheet → ℕ → ℕ → ℕ → ℕ → ℕ → End
list_end t zero around s long zero i d at = Ok at
list_end t zero around s long (suc left) i d at = Err Nesting
list_end t (suc deep) around s long left i d at =
    runs_by (λ x. run_by (list_end t deep (bit_or around (2 ^ get_or s x 0)) s) t around s x) s long left i d at

-- the run that begins at `at`; the set `around` has the tasks of the runs around it
abbrev pub run_end : ℕ → ℕ → ℕ → Sheet → ℕ → End
run_end t deep around s at = run_by (list_end t deep (bit_or around (2 ^ get_or s at 0)) s) t around s at

-- the end lies between `at` and the end of the sheet
abbrev pub EndsIn : Sheet → ℕ → End → Type 0
EndsIn s at (Err c) = Unit {0}
EndsIn s at (Ok next) = (at ≤ next) × (next ≤ length s)

-- the sheet ends with its outer run
abbrev pub whole_fault : Sheet → End → ℕ
whole_fault s (Err c) = fault_number c
whole_fault s (Ok next) = cond (eqb next (length s)) 0 12

-- the number of the check that a sheet is against, or 0 where there is none
abbrev pub told_fault : Result ⊤ SheetFault → ℕ
told_fault (Ok passed) = 0
told_fault (Err c) = fault_number c
