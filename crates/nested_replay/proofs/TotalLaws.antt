-- The pass that makes all references, in the code's words: a part of a path, a run by its list, a list that ends, and a list by its first run.
-- The idea: references of two lists are made one list after the other, and the count grows by no more than there are references.
use mathlib.Core.Path.{◌≡◌, sym, ap, ap₂, subst, ◌∙◌}
use mathlib.Core.List.{List, ◌++◌}
use Prim.Native.Nat.{ℕ, ◌+◌, ◌*◌, ◌-◌, ◌^◌, ◌≤◌, ◌<◌}
use native.Mathlib.Omega.{arith}
use lib.ListN.{length, get_or, length-append}
use Rattle.cache.specs.References.{All}
use Rattle.cache.specs.Cache.{Cache, wide, direct, empty_row}
use Rattle.cache.specs.Shape.{shaped}
use Rattle.cache.specs.declared.blocks.CacheShape.{CacheShape}
use Rattle.model.specs.Tasks.{Task, task}
use Rattle.model.specs.Runs.{RowCount, own_references}
use Rattle.model.specs.Nested.{no_run}
use Rattle.model.proofs.RunEvents.{own_row}
use Rattle.model.proofs.Width.{misses-width}
use Rattle.body.specs.Decode.{decode, task_of}
use Rattle.project.specs.File.{File, cache_blocks, task_count, body_of}
use Rattle.project.specs.Tasks.{tasks_of, file_shape}
use Rattle.reader.proofs.TaskBodies.{TaskBody, task-body}
use Rattle.sheet.specs.Sheet.{Sheet}
use Rattle.sheet.proofs.CompletePaths.{complete_exact, complete-blocks}
use Rattle.runs.specs.Running.{row_count, PathIn}
use Rattle.runs.specs.Parts.{references_at, part_of, first_point, last_point, PartIn}
use Rattle.runs.specs.declared.part.PathPoint.{PathPoint}
use Rattle.runs.proofs.PathCounts.{own-misses, own-bound, own-append, part_few}
use Rattle.runs.proofs.PartTurns.{before_last}
use Rattle.runs.proofs.RunLaws.{walked}
use Rattle.runs.proofs.Segments.{done_le}
use Rattle.nested_sheet.specs.NestedRuns.{task_at, path_at, ListAt, list_at, with_run, list_of, own_list, nested_run_of}
use Rattle.nested_replay.specs.NestedReplay.{total_in}
use Rattle.task_maps.specs.declared.TaskMap.{TaskMap}
use Rattle.task_maps.specs.TaskMaps.{no_map, HasMaps}
use Rattle.nested_replay.specs.Passes.{RunReplays, ListReplays, rest_references, references_from}
use Rattle.nested_replay.proofs.Rests.{rests_all}
use Rattle.nested_replay.proofs.SheetLists.{list-next, list_grows}
use Rattle.nested_replay.proofs.RunParts.{path_part, part_path, its_list, run-stands, run-there, run-kept, run-task}
use Rattle.nested_replay.proofs.TaskTables.{map-is}
use Rattle.nested_replay.proofs.FewReferences.{references-few}

-- ---- a part of a path

-- the count from 0 on is added to the one so far
pub part_added : (k : Cache) (ms row : List ℕ) (old : ℕ) {own : RowCount} → own ≡ own_references k (row_count row 0) ms → row_count own.row (old + own.count) ≡ own_references k (row_count row old) ms
part_added k ms row old e =
    ap₂ row_count
    (ap (λ (c : RowCount). c.row) e ∙ own_row k (row_count row 0) ms ∙ sym (own_row k (row_count row old) ms))
    (omega (arith, ap (λ (c : RowCount). c.count) e, own-misses k ms (row_count row 0), own-misses k ms (row_count row old)))

-- the sum stays below a bound that the references keep
pub part_fits : (k : Cache) (ms row : List ℕ) (old top : ℕ) {own : RowCount} → own ≡ own_references k (row_count row 0) ms → old + length ms < top → old + own.count < top
part_fits k ms row old top e h = omega (arith, ap (λ (c : RowCount). c.count) e, own-bound k ms (row_count row 0))

-- the references of a part are few
pub part_short : (body starts path : List ℕ) → PathIn body starts path → length path ≤ 1536 → (from to : PathPoint) → length (part_of (task_of (decode body)) path from to) ≤ 24576
part_short body starts path h few from to =
    omega (arith, part_few (task_of (decode body)) (walked body starts h.runs.kept h.begin).bounds path from.position from.done to.position to.done)

-- the rest of a path is a part of it
pub rest_in : (t : Task) (path : List ℕ) (from : PathPoint) → from.position < length path → from.done ≤ length (references_at t path from.position) → PartIn t path from (last_point t path)
rest_in t path from h d = record { in_path = omega arith; order = before_last t path from h d; from_done = d; to_done = omega arith }

-- ---- a run, where y and m are the numbers of its task and of its path's length, n that of its count, and `body` is the body of its task

module _ (s : File) (sheet : Sheet) (deep at : ℕ) (x : RunReplays s sheet deep at) where
  module _ {y m n : ℕ} {body : List ℕ} (ey : y ≡ get_or sheet at 0) (em : m ≡ get_or sheet (at + 1) 0) (en : n ≡ get_or sheet (at + 2 + m) 0) (eb : body ≡ body_of s y) where
    same_task : task_of (decode body) ≡ task (tasks_of s) (task_at sheet at)
    same_task = run-task s sheet deep at x.reads ey eb

    same_path : path_part sheet at m ≡ path_at sheet at
    same_path = part_path sheet at em

    same_list_lem : list_of deep sheet n (at + 2 + m + 1) ≡ own_list deep sheet at
    same_list_lem = its_list sheet deep at em en

    -- where the blocks begin is told by the map of the run's task
    pub run_in_lem : (maps : List TaskMap) → HasMaps s maps → PathIn body (get_or maps y no_map).starts (path_part sheet at m)
    run_in_lem maps h = record {
      runs = record { kept = run-kept s sheet deep at x.reads ey eb; below = below same_task same_path };
      begin = (map-is s x.reads.file (run-there s sheet deep at x.reads ey) eb h).starts;
    }
      where
        below : {t : Task} {path : List ℕ} → t ≡ task (tasks_of s) (task_at sheet at) → path ≡ path_at sheet at → All (λ (b : ℕ). b < length t) path
        below et ep = rw (et, ep) (complete-blocks (task (tasks_of s) (task_at sheet at)) (path_at sheet at) ((complete_exact (task (tasks_of s) (task_at sheet at)) (path_at sheet at)).1 x.complete))

    -- its list, from the first point on
    pub run_replays : ListReplays s sheet (task_of (decode body)) (path_part sheet at m) first_point (list_of deep sheet n (at + 2 + m + 1))
    run_replays = moved same_task same_path same_list_lem
      where
        whole : ListReplays s sheet (task (tasks_of s) (task_at sheet at)) (path_at sheet at) first_point (own_list deep sheet at)
        whole = record {
          file = x.reads.file;
          short = x.reads.run.bounds.few;
          in_path = omega (arith, x.reads.run.bounds.some);
          from_done = omega arith;
          rules = x.reads.list;
          right = x.right;
          rising = x.reads.run.rising;
          ends = x.reads.ends;
        }

        moved : {t : Task} {path : List ℕ} {xs : ListAt} → t ≡ task (tasks_of s) (task_at sheet at) → path ≡ path_at sheet at → xs ≡ own_list deep sheet at → ListReplays s sheet t path first_point xs
        moved et ep el = rw (et, ep, el) whole

    -- and it makes all references of the run
    pub run_makes : rest_references (tasks_of s) (task_of (decode body)) (path_part sheet at m) first_point (list_of deep sheet n (at + 2 + m + 1)).runs ≡ references_from s sheet deep at
    run_makes =
        ap₂ (λ (t : Task) (path : List ℕ). rest_references (tasks_of s) t path first_point (list_of deep sheet n (at + 2 + m + 1)).runs) same_task same_path
        ∙ ap (λ (xs : ListAt). rest_references (tasks_of s) (task (tasks_of s) (task_at sheet at)) (path_at sheet at) first_point xs.runs) same_list_lem
        ∙ rests_all (tasks_of s) (task (tasks_of s) (task_at sheet at)) (path_at sheet at) (task_count s) (own_list deep sheet at).runs (omega (arith, x.reads.run.bounds.some)) x.reads.run.rising x.reads.list x.right

    pub run_fits : (old top : ℕ) → old + length (references_from s sheet deep at) < top
        → old + length (rest_references (tasks_of s) (task_of (decode body)) (path_part sheet at m) first_point (list_of deep sheet n (at + 2 + m + 1)).runs) < top
    run_fits old top h = omega (arith, ap length run_makes)

    pub run-next : (list_of deep sheet n (at + 2 + m + 1)).next ≡ (own_list deep sheet at).next
    run-next = ap (λ (xs : ListAt). xs.next) same_list_lem

-- ---- a list that ends

module _ (ts : List Task) (t : Task) (path : List ℕ) (from : PathPoint) {xs : ListAt} {at : ℕ} (e : xs ≡ list_at no_run at) where
  pub end_makes : part_of t path from (last_point t path) ≡ rest_references ts t path from xs.runs
  end_makes = ap (λ (l : ListAt). rest_references ts t path from l.runs) (sym e)

  pub end_fits : (old top : ℕ) → old + length (rest_references ts t path from xs.runs) < top → old + length (part_of t path from (last_point t path)) < top
  end_fits old top h = omega (arith, ap length end_makes)

  pub end-next : at ≡ xs.next
  end-next = ap (λ (l : ListAt). l.next) (sym e)

-- ---- a list by its first run

-- the point at a place of the sheet
abbrev point_at : Sheet → ℕ → PathPoint
point_at sheet at = record { position = get_or sheet at 0; done = get_or sheet (at + 1) 0 }

pub point_is : (sheet : Sheet) (at : ℕ) {i d : ℕ} → i ≡ get_or sheet at 0 → d ≡ get_or sheet (at + 1) 0 → ◌≡◌ {A = PathPoint} (record { position = i; done = d }) (point_at sheet at)
point_is sheet at ei ed = ap₂ (λ (i d : ℕ). record { position = i; done = d }) ei ed

module _ (s : File) (sheet : Sheet) (t : Task) (path : List ℕ) (from : PathPoint) (deep left at : ℕ) (x : ListReplays s sheet t path from (list_of deep sheet left at))
    (hl : left ≡ 0 → ⊥) (hd : deep ≡ 0 → ⊥) where
  -- the first run, and the rest
  abbrev own : ListAt
  own = own_list (deep - 1) sheet (at + 2)

  abbrev rest : ListAt
  rest = list_of deep sheet (left - 1) own.next

  split : list_of deep sheet left at ≡ with_run sheet at own rest
  split = list-next deep sheet left at hl hd

  parts : ListReplays s sheet t path from (with_run sheet at own rest)
  parts = subst (λ (l : ListAt). ListReplays s sheet t path from l) split x

  few-done : get_or sheet (at + 1) 0 ≤ length (references_at t path (get_or sheet at 0))
  few-done = done_le (references_at t path (get_or sheet at 0)) (get_or sheet (at + 1) 0) parts.right.0

  -- the list makes the references up to the point, those of the run, and what is left
  made : rest_references (tasks_of s) t path from (list_of deep sheet left at).runs
      ≡ part_of t path from (point_at sheet at) ++ (references_from s sheet (deep - 1) (at + 2) ++ rest_references (tasks_of s) t path (point_at sheet at) rest.runs)
  made = ap (λ (l : ListAt). rest_references (tasks_of s) t path from l.runs) split

  made_length : length (rest_references (tasks_of s) t path from (list_of deep sheet left at).runs)
      ≡ length (part_of t path from (point_at sheet at)) + (length (references_from s sheet (deep - 1) (at + 2)) + length (rest_references (tasks_of s) t path (point_at sheet at) rest.runs))
  made_length =
      ap length made
      ∙ length-append (part_of t path from (point_at sheet at)) (references_from s sheet (deep - 1) (at + 2) ++ rest_references (tasks_of s) t path (point_at sheet at) rest.runs)
      ∙ ap (λ (n : ℕ). length (part_of t path from (point_at sheet at)) + n)
      (length-append (references_from s sheet (deep - 1) (at + 2)) (rest_references (tasks_of s) t path (point_at sheet at) rest.runs))

  pub first_run : RunReplays s sheet (deep - 1) (at + 2)
  first_run = record {
    reads = record {
      file = x.file;
      run = parts.rules.1;
      list = parts.rules.2;
      ends = omega (arith, parts.ends, list_grows deep sheet (left - 1) own.next);
    };
    complete = parts.right.1;
    right = parts.right.2;
  }

  -- its point and its numbers lie in the sheet
  pub first-inside : at + 5 ≤ length sheet
  first-inside = omega (arith, run-stands s sheet (deep - 1) (at + 2) first_run.reads)

  -- `to` is the point that is reached next, old, own and inner are the counts before and after the part and after the run
  module _ (k : Cache) {to : PathPoint} (et : to ≡ point_at sheet at) where
    pub first_part : PartIn t path from to
    first_part = subst (λ (p : PathPoint). PartIn t path from p) (sym et) (record {
      in_path = parts.rules.0;
      order = parts.rising.0;
      from_done = x.from_done;
      to_done = few-done;
    })

    pub part_room : (old top : ℕ) → old + length (rest_references (tasks_of s) t path from (list_of deep sheet left at).runs) < top → old + length (part_of t path from to) < top
    part_room old top h = omega (arith, made_length, ap (λ (p : PathPoint). length (part_of t path from p)) et)

    module _ (c₀ : RowCount) {c₁ : RowCount} (e₁ : c₁ ≡ own_references k c₀ (part_of t path from to)) where
      part_grows : c₁.count ≤ c₀.count + length (part_of t path from (point_at sheet at))
      part_grows = omega (arith, ap (λ (c : RowCount). c.count) e₁, own-bound k (part_of t path from to) c₀, ap (λ (p : PathPoint). length (part_of t path from p)) et)

      pub run_room : (top : ℕ) → c₀.count + length (rest_references (tasks_of s) t path from (list_of deep sheet left at).runs) < top
          → c₁.count + length (references_from s sheet (deep - 1) (at + 2)) < top
      run_room top h = omega (arith, made_length, part_grows)

      -- the list that is left begins at `next`
      module _ {c₂ : RowCount} {next : ℕ} (e₂ : c₂ ≡ own_references k c₁ (references_from s sheet (deep - 1) (at + 2))) (en : next ≡ own.next) where
        pub rest_replays : ListReplays s sheet t path to (list_of deep sheet (left - 1) next)
        rest_replays = moved et en
          where
            moved : {p : PathPoint} {j : ℕ} → p ≡ point_at sheet at → j ≡ own.next → ListReplays s sheet t path p (list_of deep sheet (left - 1) j)
            moved ep ej = rw (ep, ej) record {
              file = x.file;
              short = x.short;
              in_path = parts.rules.0;
              from_done = few-done;
              rules = parts.rules.3;
              right = parts.right.3;
              rising = parts.rising.1;
              ends = parts.ends;
            }

        same_rest : rest_references (tasks_of s) t path to (list_of deep sheet (left - 1) next).runs ≡ rest_references (tasks_of s) t path (point_at sheet at) rest.runs
        same_rest = ap₂ (λ (p : PathPoint) (j : ℕ). rest_references (tasks_of s) t path p (list_of deep sheet (left - 1) j).runs) et en

        pub rest-room : (top : ℕ) → c₀.count + length (rest_references (tasks_of s) t path from (list_of deep sheet left at).runs) < top
            → c₂.count + length (rest_references (tasks_of s) t path to (list_of deep sheet (left - 1) next).runs) < top
        rest-room top h =
            omega (
              arith,
              made_length,
              part_grows,
              ap (λ (c : RowCount). c.count) e₂,
              own-bound k (references_from s sheet (deep - 1) (at + 2)) c₁,
              ap length same_rest,
            )

        pub list_makes : {c₃ : RowCount} → c₃ ≡ own_references k c₂ (rest_references (tasks_of s) t path to (list_of deep sheet (left - 1) next).runs)
            → c₃ ≡ own_references k c₀ (rest_references (tasks_of s) t path from (list_of deep sheet left at).runs)
        list_makes e₃ =
            let part = part_of t path from (point_at sheet at) in
            let run = references_from s sheet (deep - 1) (at + 2) in
            let left_over = rest_references (tasks_of s) t path (point_at sheet at) rest.runs in
            e₃ ∙ ap (own_references k c₂) same_rest
            ∙ ap (λ (c : RowCount). own_references k c left_over) (e₂ ∙ ap (λ (c : RowCount). own_references k c run) (e₁ ∙ ap (λ (p : PathPoint). own_references k c₀ (part_of t path from p)) et))
            ∙ sym (own-append k run left_over (own_references k c₀ part)) ∙ sym (own-append k part (run ++ left_over) c₀)
            ∙ ap (own_references k c₀) (sym made)

        pub list-ends : (list_of deep sheet (left - 1) next).next ≡ (list_of deep sheet left at).next
        list-ends = ap (λ (j : ℕ). (list_of deep sheet (left - 1) j).next) en ∙ ap (λ (l : ListAt). l.next) (sym split)

-- ---- the measures: depth first, and then what is left of the list, which is below 65,536

abbrev pub run_measure : ℕ → ℕ
run_measure deep = deep * 131072 + 65536

abbrev pub list_measure : ℕ → ℕ → ℕ
list_measure deep left = deep * 131072 + left

-- ---- the total

module _ (s : File) (sheet : Sheet) (x : RunReplays s sheet 7 0) where
  -- all references are few
  pub total-fits : 0 + length (references_from s sheet 7 0) < 2 ^ 64
  total-fits = omega (arith, references-few s x.reads.file sheet 7 0 x)

  of_task : TaskBody s (task_at sheet 0)
  of_task = task-body s x.reads.file (task_at sheet 0) x.reads.run.there

  -- from the empty row, of any width
  pub total-is : {shape : CacheShape} {row : List ℕ} {c : RowCount} → shape ≡ file_shape s → row ≡ empty_row (direct 32) → c ≡ own_references (shaped 32 shape) (row_count row 0) (references_from s sheet 7 0)
      → c.count ≡ total_in s (nested_run_of sheet)
  total-is es er e =
      let n = cache_blocks s in
      let all = references_from s sheet 7 0 in
      ap (λ (c : RowCount). c.count) (e ∙ ap₂ (λ (k : CacheShape) (r : List ℕ). own_references (shaped 32 k) (row_count r 0) all) es er)
      ∙ own-misses (wide 32 n) all (row_count (empty_row (direct 32)) 0) ∙ omega (arith, misses-width n 32 of_task.low (omega (arith, of_task.high)) all)
