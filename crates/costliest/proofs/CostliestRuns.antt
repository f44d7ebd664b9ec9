-- The run that the trails of found rows join to loses as many hits as the pair number: `joined-run`.
-- The idea: the trails are paths behind the rows, so that the lost hits of the run that they join to are what is useful and replaced in the rows; this is
-- the same in rows of every width.
use mathlib.Core.Path.{◌≡◌, refl, sym, ap, ap₂, subst, ◌∙◌}
use mathlib.Core.Logic.{◌≢◌, inl, inr}
use mathlib.Core.Bool.{Bool, true, false}
use mathlib.Core.List.{List, [], ◌∷◌, ◌++◌}
use Prim.Native.Nat.{ℕ, suc, ◌+◌, ◌*◌, ◌≤◌, ◌<◌}
use native.Mathlib.Omega.{arith}
use lib.Dec.{ltb}
use lib.ListN.{length, get_or, take, drop, length-append}
use borrow.Author.Tests.{ltb-true, ltb-false}
use Rattle.cache.specs.Cache.{Cache, empty_row, with_references, first_references}
use Rattle.cache.specs.Firsts.{firsts_over}
use Rattle.cache.specs.Sets.{useful_replaced}
use Rattle.cache.proofs.Rows.{with_references-append, firsts_over-append, first_references_fold}
use Rattle.model.specs.Tasks.{Task, block, SomeUnmasked, Allows, PathFrom, stay, PathTo, Complete, end, references, task, Rules}
use Rattle.model.specs.Runs.{Preemption, DisturbedRun, own_hits, lost_at_end}
use Rattle.model.specs.Computed.{pair_number}
use Rattle.model.proofs.Paths.{path-last, path_snoc}
use Rattle.model.proofs.Most.{masked_zero}
use Rattle.model.proofs.Width.{pair-width, lost-width}
use Rattle.model.proofs.Hits.{none-lost}
use Rattle.model.proofs.Demand.{block-before, inside-before, complete_through, once, split_lost}
use Rattle.std.specs.Prelude.{Ok}
use Rattle.project.specs.Writing.{Writing}
use Rattle.project.specs.File.{cache_blocks, task_count}
use Rattle.project.specs.Reading.{counts_of, reading_of}
use Rattle.project.specs.Bodies.{accepted}
use Rattle.project.specs.Tasks.{tasks_of, file_cache_in, file_cache, file_pair}
use Rattle.project.proofs.TaskFaults.{Bytes}
use Rattle.project.proofs.FileRules.{file-rules}
use Rattle.reader.proofs.TaskBodies.{reading, task-body, task-bounds, tasks_long}
use Rattle.rows.specs.Rows.{part_of}
use Rattle.rows.proofs.Parts.{rows-length}
use Rattle.gather.specs.Memory.{held_rows}
use Rattle.sheet.specs.Sheet.{SheetRun, longest_path, path_numbers, sheet_numbers, sheet_run}
use Rattle.trails.specs.Trails.{held_row, length_at}
use Rattle.task_trails.specs.TaskTrails.{PathTo as TrailTo, PathOn as TrailOn, ReachTrails, LiveTrails}
use Rattle.trails.proofs.WriteLaws.{length_to, length_back}
use Rattle.search.specs.declared.Found.{Found}
use Rattle.search.proofs.FoundNumbers.{row_before, Comes, MakesNumber}
use Rattle.costliest.specs.Costliest.{Costliest, WrittenRun}
use Rattle.run_sheet.specs.Joined.{path_to, way_on, costliest_sheet_length, HasTrail}
use Rattle.costliest.specs.Parts.{length_before, path_before, run_of_parts, HasTrailBefore}

module _ (s : List ℕ) (bytes : Bytes s) (ok : accepted (reading_of s) ≡ true) (w : ℕ) (room : cache_blocks s ≤ w) (i j : ℕ) (hi : i < task_count s) (hj : j < task_count s) (ne : j ≢ i) where
  abbrev ts : List Task
  ts = tasks_of s

  abbrev k : Cache
  k = file_cache_in w s

  rules : Rules ts
  rules = file-rules s bytes (counts_of s) (reading s ok)

  there : (a : ℕ) → a < task_count s → a < length ts
  there a h = rw (tasks_long s) h

  some-blocks : 0 < cache_blocks s
  some-blocks = omega (arith, (task-body s ok i hi).low)

  -- lost hits and pair numbers are those of the file's cache
  lost_same : (path : List ℕ) (xs : List Preemption) → lost_at_end k ts (task ts i) path xs ≡ lost_at_end (file_cache s) ts (task ts i) path xs
  lost_same path xs = lost-width (cache_blocks s) w some-blocks room ts (task ts i) path xs

  pair_same : pair_number k (task ts i) (task ts j) ≡ file_pair s i j
  pair_same = pair-width (cache_blocks s) w some-blocks room (task ts i) (task ts j)

  -- ---- the run along a path to a block and on from it

  module _ (before post q : List ℕ) (b : ℕ) (to : PathTo (task ts i) before b) (on : PathFrom (task ts i) b post (end (task ts i))) (by : PathFrom (task ts j) 0 q (end (task ts j)))
      (short : length (before ++ (b ∷ post)) ≤ longest_path) (few : suc (length q) ≤ longest_path) where
    abbrev path : List ℕ
    path = before ++ (b ∷ post)

    complete : Complete (task ts i) (before ++ (b ∷ post))
    complete = complete_through (task ts i) before post b to on

    inside-path : length before < length (before ++ (b ∷ post))
    inside-path = inside-before before post b

    -- preempted once, at a point of the block
    module _ (done : ℕ) (free : Allows (task ts i) b done) where
      point_free : Allows (task ts i) (get_or (before ++ (b ∷ post)) (length before) 0) done
      point_free = rw (block-before before post b) free

      abbrev once_run : DisturbedRun ts
      once_run = once k ts rules i j (there i hi) (there j hj) ne path (length before) done (0 ∷ q) complete inside-path point_free (refl, by)

      once-costliest : useful_replaced k (with_references k (empty_row k) (references (task ts i) before ++ take done (block (task ts i) b).references))
          (first_references k (drop done (block (task ts i) b).references ++ references (task ts i) post)) (with_references k (empty_row k) (references (task ts j) (0 ∷ q)))
          ≡ pair_number k (task ts i) (task ts j) → Costliest s i j once_run
      once-costliest e = record {
        preempted = refl;
        once = λ some. (record { position = length before; done = done; by = j; path = 0 ∷ q }, refl, refl);
        never = λ none. absurd (none (b, path-last (task ts i) to.1, free.0));
        fits = record { short = short; few = omega arith; each = (few, tt) };
        costs =
            sym (lost_same path once_run.preemptions)
            ∙ split_lost k ts rules i j (there i hi) (there j hj) ne before b post (0 ∷ q) done complete inside-path point_free (refl, by)
            ∙ (e ∙ pair_same);
      }

    -- not preempted, where all blocks are masked
    abbrev never_run : DisturbedRun ts
    never_run = record { p = i; path = path; preemptions = []; there = there i hi; complete = complete; each = tt; rising = tt }

    never-costliest : (SomeUnmasked (task ts i) → ⊥) → Costliest s i j never_run
    never-costliest none = record {
      preempted = refl;
      once = λ some. absurd (none some);
      never = λ m. refl;
      fits = record { short = short; few = omega arith; each = tt };
      costs = none-lost (own_hits (file_cache s) ts (task ts i) path []) ∙ sym (masked_zero (file_cache s) (task ts i) (task ts j) none);
    }

  -- ---- the run of found rows

  module _ {rows reached live lived others ended to on by : List ℕ} (reach : ReachTrails k (task ts i) rows reached to) (lives : LiveTrails k (task ts i) live lived on)
      (ends : ReachTrails k (task ts j) others ended by) (x : Found)
      (makes : MakesNumber k (task ts i) (task ts j) (held_rows w rows reached) (held_rows w live lived) (held_rows w others ended (end (task ts j))) x) where
    abbrev b : ℕ
    b = x.point.block

    abbrev at : ℕ
    at = 32 * x.point.before + x.point.reaching

    abbrev from : ℕ
    from = 32 * x.point.block + x.live

    abbrev last : ℕ
    last = 32 * end (task ts j) + x.ending

    inside : x.point.block < 24
    inside = omega (arith, makes.inside, (task-bounds s i ok hi).few)

    end-inside : end (task ts j) < 24
    end-inside = omega (arith, (task-bounds s j ok hj).few, (task-bounds s j ok hj).some)

    held-live : x.live < get_or lived x.point.block 0
    held-live = omega (arith, makes.live_row, rows-length w (get_or lived x.point.block 0) (part_of w live x.point.block))

    held-ending : x.ending < get_or ended (end (task ts j)) 0
    held-ending = omega (arith, makes.ending_row, rows-length w (get_or ended (end (task ts j)) 0) (part_of w others (end (task ts j))))

    way_on_lem : TrailOn k (task ts i) x.point.block (held_row w live lived x.point.block x.live) (way_on on from)
    way_on_lem = lives.each x.point.block x.live inside held-live

    by-path : TrailTo k (task ts j) (end (task ts j)) (held_row w others ended (end (task ts j)) x.ending) (path_to by last)
    by-path = ends.each (end (task ts j)) x.ending end-inside held-ending

    -- how long the trails are
    on_long_lem : length_at on from ≡ suc (length way_on_lem.path)
    on_long_lem = sym (length_back (length_at on from) on from) ∙ ap length way_on_lem.is

    by-long : length_at by last ≡ suc (length by-path.path)
    by-long = sym (length_to (length_at by last) by last) ∙ ap length by-path.is

    pub has_on : HasTrail on (32 * x.point.block + x.live)
    has_on = record {
      places = lives.places;
      inside = omega (arith, inside, held-live, lives.memory.few x.point.block inside);
      some = omega (arith, on_long_lem);
      few = lives.few x.point.block x.live inside held-live;
    }

    pub has_by : HasTrail by (32 * end (task ts j) + x.ending)
    has_by = record {
      places = ends.places;
      inside = omega (arith, end-inside, held-ending, ends.memory.few (end (task ts j)) end-inside);
      some = omega (arith, by-long);
      few = ends.few (end (task ts j)) x.ending end-inside held-ending;
    }

    -- the blocks before the block of the point, which its trail tells: a path to the block that leaves the row before it
    record WayBefore : Type 0 where
      blocks : List ℕ
      leads : PathTo (task ts i) blocks x.point.block
      is : blocks ≡ path_before x.point.first to at
      leaves : row_before k (held_rows w rows reached) x.point ≡ with_references k (empty_row k) (references (task ts i) blocks)
      has : HasTrailBefore x.point.first to at

    way_before : WayBefore
    way_before = go makes.comes
      where
        go : Comes (task ts i) (held_rows w rows reached) x.point → WayBefore
        go (inl (first, z, a, r)) = record {
          blocks = [];
          leads = rw z ([], stay {b = 0} (omega (arith, makes.inside)), refl);
          is = rw first;
          leaves = rw first;
          has = record { places = reach.places; inside = omega arith; few = rw first (omega arith) };
        }
        go (inr (first, low, h, m)) =
            let inside-before : x.point.before < 24 = omega (arith, low, (task-bounds s i ok hi).few) in
            let held : x.point.reaching < get_or reached x.point.before 0
            = omega (arith, h, rows-length w (get_or reached x.point.before 0) (part_of w rows x.point.before)) in
            let own = reach.each x.point.before x.point.reaching inside-before held in
            record {
              blocks = 0 ∷ own.path;
              leads = (own.path ++ (x.point.block ∷ []), path_snoc (task ts i) x.point.block own.leads m makes.inside, refl);
              is = rw first (sym own.is);
              leaves = rw first own.leaves;
              has = record {
                places = reach.places;
                inside = omega (arith, inside-before, held, reach.memory.few x.point.before inside-before);
                few = rw first (reach.few x.point.before x.point.reaching inside-before held);
              };
            }

    pub has_before : HasTrailBefore x.point.first to (32 * x.point.before + x.point.reaching)
    has_before = way_before.has

    before-long : length way_before.blocks ≡ length_before x.point.first to at
    before-long = ap length way_before.is ∙ length_to (length_before x.point.first to at) to at

    short : length (way_before.blocks ++ (x.point.block ∷ way_on_lem.path)) ≤ longest_path
    short = omega (arith, length-append way_before.blocks (x.point.block ∷ way_on_lem.path), before-long, on_long_lem, has_before.few, has_on.few)

    by-short : suc (length by-path.path) ≤ longest_path
    by-short = omega (arith, by-long, has_by.few)

    whole : way_before.blocks ++ (x.point.block ∷ way_on_lem.path) ≡ path_before x.point.first to at ++ way_on on from
    whole = ap₂ (λ (l r : List ℕ). l ++ r) way_before.is (sym way_on_lem.is)

    makes_it : SomeUnmasked (task ts i)
        → useful_replaced k (with_references k (empty_row k) (references (task ts i) way_before.blocks ++ take x.point.done (block (task ts i) x.point.block).references))
        (first_references k (drop x.point.done (block (task ts i) x.point.block).references ++ references (task ts i) way_on_lem.path))
        (with_references k (empty_row k) (references (task ts j) (0 ∷ by-path.path)))
        ≡ pair_number k (task ts i) (task ts j)
    makes_it some =
        let ms = (block (task ts i) x.point.block).references in
        let d = x.point.done in
        same_rows
        (ap (λ (r : List ℕ). with_references k r (take d ms)) way_before.leaves ∙ sym (with_references-append k (empty_row k) (references (task ts i) way_before.blocks) (take d ms)))
        (ap (firsts_over k (drop d ms)) (way_on_lem.refers ∙ first_references_fold k (references (task ts i) way_on_lem.path))
        ∙ sym (first_references_fold k (drop d ms ++ references (task ts i) way_on_lem.path) ∙ firsts_over-append k (drop d ms) (references (task ts i) way_on_lem.path) (empty_row k)))
        by-path.leaves (makes.number some)
      where
        same_rows : {r l f r' l' f' : List ℕ} → r ≡ r' → l ≡ l' → f ≡ f' → useful_replaced k r l f ≡ pair_number k (task ts i) (task ts j)
            → useful_replaced k r' l' f' ≡ pair_number k (task ts i) (task ts j)
        same_rows er el ef e = rw (← er, ← el, ← ef) e

    -- the run that is written, preempted where something is found
    pub joined-run : (preempted : Bool) → preempted ≡ ltb 0 x.cost
        → (run : DisturbedRun ts) × Costliest s i j run
        × (sheet_run ts run ≡ run_of_parts preempted i j x.point.first to (32 * x.point.before + x.point.reaching) x.point.done on (32 * x.point.block + x.live) by (32 * end (task ts j) + x.ending))
    joined-run true e =
        let some = makes.some.0 (ltb-true 0 x.cost (sym e)) in
        let free = makes.allowed some in (
          once_run way_before.blocks way_on_lem.path by-path.path x.point.block way_before.leads way_on_lem.leads by-path.leads short by-short x.point.done free,
          once-costliest way_before.blocks way_on_lem.path by-path.path x.point.block way_before.leads way_on_lem.leads by-path.leads short by-short x.point.done free
              (makes_it some),
          λ t. record { p = i; path = whole t; preemptions = record { position = before-long t; done = x.point.done; by = j; path = sym by-path.is t } ∷ [] },
        )
    joined-run false e = (
      never_run way_before.blocks way_on_lem.path by-path.path x.point.block way_before.leads way_on_lem.leads by-path.leads short by-short,
      never-costliest way_before.blocks way_on_lem.path by-path.path x.point.block way_before.leads way_on_lem.leads by-path.leads short by-short
          (λ some. omega (arith, makes.some.1 some, ltb-false 0 x.cost (sym e))),
      λ t. record { p = i; path = whole t; preemptions = [] },
    )

    -- the sheet is not longer than 2,311 numbers
    joined-few : (preempted : Bool) → length (sheet_numbers (run_of_parts preempted i j x.point.first to at x.point.done on from by last)) ≤ costliest_sheet_length
    joined-few true = omega (
      arith,
      length-append (path_before x.point.first to at ++ way_on on from) (1 ∷ length_before x.point.first to at ∷ x.point.done ∷ j ∷ (path_numbers (path_to by last) ++ [])),
      length-append (path_before x.point.first to at) (way_on on from),
      length-append (path_to by last) [],
      length_to (length_before x.point.first to at) to at,
      length_to (length_at by last) by last,
      length_back (length_at on from) on from,
      has_before.few,
      has_on.few,
      has_by.few,
    )
    joined-few false = omega (
      arith,
      length-append (path_before x.point.first to at ++ way_on on from) (0 ∷ []),
      length-append (path_before x.point.first to at) (way_on on from),
      length_to (length_before x.point.first to at) to at,
      length_back (length_at on from) on from,
      has_before.few,
      has_on.few,
    )

    -- the run of these rows, where the end row has the place `final`
    abbrev pub found_run : Bool → ℕ → SheetRun
    found_run preempted final =
        run_of_parts preempted i j x.point.first to (32 * x.point.before + x.point.reaching) x.point.done on (32 * x.point.block + x.live) by final

    -- the sheet of the run is what was written
    pub written_run : (preempted : Bool) → preempted ≡ ltb 0 x.cost → (final : ℕ) → final ≡ 32 * end (task ts j) + x.ending → {answer : ℕ} {old new : List ℕ}
        → answer ≡ length (sheet_numbers (found_run preempted final))
        → new ≡ sheet_numbers (found_run preempted final) ++ drop (length (sheet_numbers (found_run preempted final))) old → WrittenRun s i j old (Ok answer) new
    written_run preempted e final place {old = old} long is =
        let (run, costs, same) = joined-run preempted e in
        let run_is : found_run preempted final ≡ sheet_run ts run = ap (found_run preempted) place ∙ sym same in
        record {
          run = run;
          costliest = costs;
          few = subst (λ (r : SheetRun). length (sheet_numbers r) ≤ costliest_sheet_length) (sym same) (joined-few preempted);
          answered = ap {B = Writing} (λ (n : ℕ). Ok n) (long ∙ ap (λ (r : SheetRun). length (sheet_numbers r)) run_is);
          sheet = is ∙ ap (λ (r : SheetRun). sheet_numbers r ++ drop (length (sheet_numbers r)) old) run_is;
        }
