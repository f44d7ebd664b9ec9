-- The nested run that a sheet is the numbers of, by the places of its numbers, and checks 13 and 16 over all its runs, computed; proofs show that they agree
-- with `NestedSheet`.
use Rattle.std.specs.Prelude.{Bool, true, ◌&&◌, ℕ, zero, suc, ◌+◌, List, get_or, take, drop}
use Rattle.model.specs.Tasks.{Task, Path, block, task}
use Rattle.model.specs.Computed.{unmasked}
use Rattle.model.specs.Nested.{RunList, no_run, a_run}
use Rattle.sheet.specs.Sheet.{Sheet}
use Rattle.sheet.specs.Parsed.{complete_path, right_done}
use Rattle.nested_sheet.specs.NestedSheet.{NestedSheetRun, deepest}

-- ---- the run that begins at a place of a sheet

abbrev pub task_at : Sheet → ℕ → ℕ
task_at s at = get_or s at 0

abbrev pub path_at : Sheet → ℕ → Path
path_at s at = take (get_or s (at + 1) 0) (drop (at + 2) s)

abbrev pub count_at : Sheet → ℕ → ℕ
count_at s at = get_or s (at + 2 + get_or s (at + 1) 0) 0

-- where its list begins
abbrev pub list_start : Sheet → ℕ → ℕ
list_start s at = at + 3 + get_or s (at + 1) 0

-- ---- its list

-- the runs of a list, and the place after them
pub record ListAt : Type 0 where
  pub runs : RunList
  pub next : ℕ

abbrev pub list_at : RunList → ℕ → ListAt
list_at runs next = record { runs = runs; next = next }

-- the run at x with its point at `at`, where `own` is its list and `rest` the list after it
abbrev pub with_run : Sheet → ℕ → ListAt → ListAt → ListAt
with_run s at own rest = list_at (a_run (get_or s at 0) (get_or s (at + 1) 0) (task_at s (at + 2)) (path_at s (at + 2)) own.runs rest.runs) rest.next

-- `left` runs, of which `list` reads the own lists, by count and place
abbrev pub runs_of : (ℕ → ℕ → ListAt) → Sheet → ℕ → ℕ → ListAt
runs_of list s zero at = list_at no_run at
runs_of list s (suc left) at =
    with_run s at (list (count_at s (at + 2)) (list_start s (at + 2))) (runs_of list s left (list (count_at s (at + 2)) (list_start s (at + 2))).next)

-- the list of `left` runs that begins at `at`; `deep` runs lie one within the other, and deeper ones are not read
unfoldable pub list_of : ℕ → Sheet → ℕ → ℕ → ListAt
list_of zero s left at = list_at no_run at
list_of (suc deep) s left at = runs_of (list_of deep s) s left at

-- the list of the run that begins at `at`
abbrev pub own_list : ℕ → Sheet → ℕ → ListAt
own_list deep s at = list_of deep s (count_at s at) (list_start s at)

-- the nested run of a sheet
abbrev pub nested_run_of : Sheet → NestedSheetRun
nested_run_of s = record { p = task_at s 0; path = path_at s 0; runs = (own_list deepest s 0).runs }

-- ---- checks 13 and 16

-- the points of a list are right, the paths of its runs are complete, and so in those within
abbrev pub list_right : List Task → Task → Path → RunList → Bool
list_right ts t path no_run = true
list_right ts t path (a_run i d by own inner rest) =
    right_done (block t (get_or path i 0)).references d
    && ((complete_path (task ts by) own && list_right ts (task ts by) own inner) && list_right ts t path rest)

-- a run's path is complete, and its list is right
abbrev pub run_right : List Task → ℕ → Path → RunList → Bool
run_right ts p path xs = complete_path (task ts p) path && list_right ts (task ts p) path xs

-- the points of a list, and of those within, lie in unmasked blocks
abbrev pub list_unmasked : List Task → Task → Path → RunList → Bool
list_unmasked ts t path no_run = true
list_unmasked ts t path (a_run i d by own inner rest) =
    unmasked t (get_or path i 0) && (list_unmasked ts (task ts by) own inner && list_unmasked ts t path rest)

-- of the run of a sheet
abbrev pub nested_right : List Task → NestedSheetRun → Bool
nested_right ts r = run_right ts r.p r.path r.runs

abbrev pub nested_unmasked : List Task → NestedSheetRun → Bool
nested_unmasked ts r = list_unmasked ts (task ts r.p) r.path r.runs
