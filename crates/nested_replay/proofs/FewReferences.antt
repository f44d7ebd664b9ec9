-- A run has at most `most_references` references, `references-few`, so that its misses fit into eight bytes.
-- The idea: a run's references are those of its path, at most 16 to a block, and those of the at most sixteen runs of its list; by induction on the
-- lists, down to the depth that is left.
use mathlib.Core.Path.{◌≡◌, refl, ap}
use mathlib.Core.Bool.{true}
use mathlib.Core.List.{List, ◌++◌}
use Prim.Native.Nat.{ℕ, zero, suc, ◌+◌, ◌*◌, ◌≤◌}
use native.Mathlib.Nat.{mul-suc, mul-le-mul_left}
use native.Mathlib.Omega.{arith}
use lib.ListN.{length, length-append}
use Rattle.model.specs.Tasks.{Task, task}
use Rattle.model.specs.Nested.{RunList, no_run, a_run, all_references, RiseFrom}
use Rattle.body.specs.Layout.{InBounds}
use Rattle.project.specs.File.{File, task_count}
use Rattle.project.specs.Reading.{reading_of}
use Rattle.project.specs.Bodies.{accepted}
use Rattle.project.specs.Tasks.{tasks_of}
use Rattle.reader.proofs.TaskBodies.{task-bounds}
use Rattle.sheet.specs.Sheet.{Sheet, PathInBounds}
use Rattle.runs.specs.Parts.{references_at, part_of, last_point}
use Rattle.runs.specs.declared.part.PathPoint.{PathPoint}
use Rattle.runs.proofs.PathCounts.{part_few}
use Rattle.runs.proofs.PartLaws.{between_join}
use Rattle.runs.proofs.PartTurns.{before_last}
use Rattle.runs.proofs.Segments.{done_le}
use Rattle.nested_sheet.specs.NestedSheet.{how_many, RunInRules, ListInRules, ListRight}
use Rattle.nested_sheet.specs.NestedRuns.{task_at, path_at, count_at, list_start, ListAt, runs_of, list_of, own_list}
use Rattle.nested_replay.specs.Passes.{RunReplays, rest_references, references_from, most_references}
use Rattle.nested_replay.proofs.Rests.{rests_all}

-- ---- own references, and those of the runs of the list

-- all references of the runs of a list
abbrev within : List Task → RunList → ℕ
within ts no_run = 0
within ts (a_run i d by path own rest) = length (all_references ts by path own) + within ts rest

module _ (ts : List Task) (t : Task) (path : List ℕ) (n : ℕ) where
  rest-length : (from : PathPoint) (xs : RunList) → RiseFrom from.position from.done xs → ListInRules n (length path) xs → ListRight ts t path xs
      → length (rest_references ts t path from xs) ≡ length (part_of t path from (last_point t path)) + within ts xs
  rest-length from no_run u h r = omega arith
  rest-length from (a_run i d by own inner rest) u h r =
      let to : PathPoint = record { position = i; done = d } in
      let last = last_point t path in
      let later = before_last t path to h.0 (done_le (references_at t path i) d r.0) in
      let meet = ap length (between_join t path from.position from.done i d last.position last.done u.0 later) in
      omega (
        arith,
        meet,
        length-append (part_of t path from to) (part_of t path to last),
        length-append (part_of t path from to) (all_references ts by own inner ++ rest_references ts t path to rest),
        length-append (all_references ts by own inner) (rest_references ts t path to rest),
        rest-length to rest u.1 h.3 r.3,
      )

  -- of a whole run
  run_length : (xs : RunList) → InBounds t → PathInBounds path → RiseFrom 0 0 xs → ListInRules n (length path) xs → ListRight ts t path xs
      → length (rest_references ts t path (record { position = 0; done = 0 }) xs) ≤ 24576 + within ts xs
  run_length xs bounds long u h r =
      let last = last_point t path in
      omega (arith, rest-length (record { position = 0; done = 0 }) xs u h r, part_few t bounds path 0 0 last.position last.done, long.few)

-- ---- the depth

-- at most `deep` runs of the list lie one within the other
abbrev Deep : ℕ → RunList → Type 0
Deep deep no_run = Unit {0}
Deep zero (a_run i d by path own rest) = ⊥
Deep (suc deep) (a_run i d by path own rest) = Deep deep own × Deep (suc deep) rest

deep_each : (deep : ℕ) (list : ℕ → ℕ → ListAt) → ((left at : ℕ) → Deep deep (list left at).runs) → (s : Sheet) (left at : ℕ) → Deep (suc deep) (runs_of list s left at).runs
deep_each deep list h s zero at = tt
deep_each deep list h s (suc left) at =
    let own = list (count_at s (at + 2)) (list_start s (at + 2)) in
    (h (count_at s (at + 2)) (list_start s (at + 2)), deep_each deep list h s left own.next)

list_deep_in : (deep : ℕ) (s : Sheet) (left at : ℕ) → Deep deep (list_of deep s left at).runs
unfolding list_of
list_deep_in zero s left at = tt
list_deep_in (suc deep) s left at = deep_each deep (list_of deep s) (list_deep_in deep s) s left at

-- the most references of a run of a list in which `deep` runs lie one within the other
abbrev most_within : ℕ → ℕ
most_within zero = 0
most_within (suc deep) = most_references deep

most-is : (deep : ℕ) → 24576 + 16 * most_within deep ≡ most_references deep
most-is zero = omega arith
most-is (suc deep) = refl

-- ---- the bound

module _ (s : File) (file : accepted (reading_of s) ≡ true) where
  -- a run, where its list has no more than the bound
  one-few : (deep p : ℕ) (path : List ℕ) (xs : RunList) → RunInRules (task_count s) p path xs → ListInRules (task_count s) (length path) xs → ListRight (tasks_of s) (task (tasks_of s) p) path xs
      → within (tasks_of s) xs ≤ most_within deep * how_many xs → length (all_references (tasks_of s) p path xs) ≤ most_references deep
  one-few deep p path xs rule h r few =
      let t = task (tasks_of s) p in
      omega (
        arith,
        ap length (rests_all (tasks_of s) t path (task_count s) xs (omega (arith, rule.bounds.some)) rule.rising h r),
        run_length (tasks_of s) t path (task_count s) xs (task-bounds s p file rule.there) rule.bounds rule.rising h r,
        few,
        mul-le-mul_left {m = how_many xs} {n = 16} (most_within deep) rule.few,
        most-is deep,
      )

  within-few : (deep : ℕ) (t : Task) (path : List ℕ) (xs : RunList) → Deep deep xs → ListInRules (task_count s) (length path) xs → ListRight (tasks_of s) t path xs
      → within (tasks_of s) xs ≤ most_within deep * how_many xs
  within-few deep t path no_run e h r = omega arith
  within-few zero t path (a_run i d by own inner rest) e h r = absurd e
  within-few (suc deep) t path (a_run i d by own inner rest) e h r =
      omega (
        arith,
        one-few deep by own inner h.1 h.2 r.2 (within-few deep (task (tasks_of s) by) own inner e.0 h.2 r.2),
        within-few (suc deep) t path rest e.1 h.3 r.3,
        mul-suc (most_references deep) (how_many rest),
      )

  pub references-few : (sheet : Sheet) (deep at : ℕ) → RunReplays s sheet deep at → length (references_from s sheet deep at) ≤ most_references deep
  references-few sheet deep at x =
      let p = task_at sheet at in
      let path = path_at sheet at in
      let xs = (own_list deep sheet at).runs in
      one-few deep p path xs x.reads.run x.reads.list x.right
      (within-few deep (task (tasks_of s) p) path xs (list_deep_in deep sheet (count_at sheet at) (list_start sheet at)) x.reads.list x.right)
