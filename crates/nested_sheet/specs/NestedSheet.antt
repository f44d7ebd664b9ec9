-- Document 02, Point 7: the nested sheet, its rules, and checks 13 and 16 over all its runs. Definitions only.
use Rattle.std.specs.Prelude.{◌≡◌, List, [], ◌∷◌, ◌++◌, ℕ, zero, suc, ◌≤◌, ◌<◌, length, get_or}
use Rattle.model.specs.Tasks.{Task, block, Unmasked, Done, Path, Complete, task}
use Rattle.model.specs.Nested.{RunList, no_run, a_run, RiseFrom, Outside, NestedRun}
use Rattle.sheet.specs.Sheet.{Sheet, path_numbers, PathInBounds, longest_path}

-- what a nested sheet says: a task, its path, and the runs within
pub record NestedSheetRun : Type 0 where
  pub p : ℕ
  pub path : Path
  pub runs : RunList

-- the runs of a list itself, without those within them
abbrev pub how_many : RunList → ℕ
how_many no_run = 0
how_many (a_run i d by path own rest) = suc (how_many rest)

-- ---- the numbers

-- a run: task, path length, the blocks, the count, and then the numbers of its list
abbrev pub with_head : ℕ → Path → ℕ → List ℕ → List ℕ
with_head p path count list = p ∷ (path_numbers path ++ (count ∷ list))

-- for each run of a list the point and the run: "each preempting path is followed by that run's own count and list"
abbrev pub list_numbers : RunList → List ℕ
list_numbers no_run = []
list_numbers (a_run i d by path own rest) = i ∷ d ∷ (with_head by path (how_many own) (list_numbers own) ++ list_numbers rest)

abbrev pub nested_numbers : NestedSheetRun → Sheet
nested_numbers r = with_head r.p r.path (how_many r.runs) (list_numbers r.runs)

-- ---- the rules of checks 12 and 20

-- check 12's rules of one run, in a file of t tasks
pub record RunInRules (t p : ℕ) (path : Path) (own : RunList) : Type 0 where
  pub there : p < t
  pub bounds : PathInBounds path
  pub few : how_many own ≤ 16
  pub rising : RiseFrom 0 0 own

-- of all runs of the list of a run, whose path has `long` blocks, and of those within them: "Points lie in the path", and the rules of each run
abbrev pub ListInRules : ℕ → ℕ → RunList → Type 0
ListInRules t long no_run = Unit {0}
ListInRules t long (a_run i d by path own rest) = (i < long) × RunInRules t by path own × ListInRules t (length path) own × ListInRules t long rest

-- check 20's rules of the same, within runs of the tasks `around`, where `left` runs more may lie one within the other: "down to depth 7; no task
-- occurs inside itself"
abbrev pub ListWithin : ℕ → List ℕ → RunList → Type 0
ListWithin left around no_run = Unit {0}
ListWithin zero around (a_run i d by path own rest) = ⊥
ListWithin (suc left) around (a_run i d by path own rest) = Outside by around × ListWithin left (by ∷ around) own × ListWithin (suc left) around rest

-- "down to depth 7 (the outer run has depth 0)"
abbrev pub deepest : ℕ
deepest = 7

-- the rules of checks 12 and 20
pub record NestedInRules (t : ℕ) (r : NestedSheetRun) : Type 0 where
  pub run : RunInRules t r.p r.path r.runs
  pub list : ListInRules t (length r.path) r.runs
  pub within : ListWithin deepest (r.p ∷ []) r.runs

-- the sheet is the numbers of a nested run that keeps these rules
abbrev pub KeepsNested : ℕ → Sheet → Type 0
KeepsNested t sheet = (r : NestedSheetRun) × NestedInRules t r × (sheet ≡ nested_numbers r)

-- ---- checks 13 and 16, "each over all runs"

-- at each point of the list of a run of the task t the number of references done is right, the paths of its runs are complete, and so in those within
abbrev pub ListRight : List Task → Task → Path → RunList → Type 0
ListRight ts t path no_run = Unit {0}
ListRight ts t path (a_run i d by own inner rest) =
    Done (block t (get_or path i 0)).references d × Complete (task ts by) own × ListRight ts (task ts by) own inner × ListRight ts t path rest

-- the points lie in unmasked blocks, each of the run that is preempted there
abbrev pub ListUnmasked : List Task → Task → Path → RunList → Type 0
ListUnmasked ts t path no_run = Unit {0}
ListUnmasked ts t path (a_run i d by own inner rest) =
    Unmasked t (get_or path i 0) × ListUnmasked ts (task ts by) own inner × ListUnmasked ts t path rest

-- check 13 of a nested sheet: some path isn't complete, or some number of references done is wrong
abbrev pub Nested13 : List Task → Sheet → Type 0
Nested13 ts sheet =
    (r : NestedSheetRun) × NestedInRules (length ts) r × (sheet ≡ nested_numbers r)
    × (Complete (task ts r.p) r.path × ListRight ts (task ts r.p) r.path r.runs → ⊥)

-- check 16 of a nested sheet: some preemption comes in a masked block
abbrev pub Nested16 : List Task → Sheet → Type 0
Nested16 ts sheet =
    (r : NestedSheetRun) × NestedInRules (length ts) r × (sheet ≡ nested_numbers r) × (ListUnmasked ts (task ts r.p) r.path r.runs → ⊥)

-- ---- what a sheet can hold

-- a run's path and list: "path length 1 to 64" (see `longest_path`), "preemption count 0 to 16", "down to depth 7"
abbrev pub ListFits : ℕ → RunList → Type 0
ListFits left no_run = Unit {0}
ListFits zero (a_run i d by path own rest) = ⊥
ListFits (suc left) (a_run i d by path own rest) = (length path ≤ longest_path) × (how_many own ≤ 16) × ListFits left own × ListFits (suc left) rest

pub record NestedFits (ts : List Task) (run : NestedRun ts) : Type 0 where
  pub short : length run.path ≤ longest_path
  pub few : how_many run.runs ≤ 16
  pub each : ListFits deepest run.runs

-- the sheet of a nested run
abbrev pub nested_sheet_run : (ts : List Task) → NestedRun ts → NestedSheetRun
nested_sheet_run ts run = record { p = run.p; path = run.path; runs = run.runs }

abbrev pub nested_sheet : (ts : List Task) → NestedRun ts → Sheet
nested_sheet ts run = nested_numbers (nested_sheet_run ts run)
