-- U, D and the lost hits in the code's words: a turn of the loop over the preemptions, and its end.
-- The idea: both runs from here on, by the segments that are left, give what the whole run gives from two empty caches.
use mathlib.Core.Path.{◌≡◌, refl, sym, ap, ap₂, subst, ◌∙◌}
use mathlib.Core.Bool.{true}
use mathlib.Core.List.{List, [], ◌∷◌}
use Prim.Native.Nat.{ℕ, suc, ◌+◌, ◌*◌, ◌-◌, ◌≤◌, ◌<◌}
use native.Mathlib.Omega.{arith}
use lib.ListN.{length, get_or, take, drop, length-append, length-drop}
use Rattle.cache.specs.References.{All}
use Rattle.cache.specs.Cache.{Cache, direct}
use Rattle.cache.specs.Shape.{shaped}
use Rattle.cache.specs.declared.blocks.CacheShape.{CacheShape}
use Rattle.model.specs.Lists.{Each}
use Rattle.model.specs.Tasks.{Task, Done, references, task}
use Rattle.model.specs.Runs.{Preemption, NotBefore, count_at_end, lost_at_end}
use Rattle.model.proofs.Events.{Event}
use Rattle.model.proofs.RunEvents.{position_of, done_of, all_of}
use Rattle.model.proofs.Membership.{both_left, both_right}
use Rattle.model.proofs.Width.{count-width, lost-width}
use Rattle.body.proofs.WalksParts.{part_is}
use Rattle.project.specs.File.{cache_blocks, task_count}
use Rattle.project.specs.Tasks.{tasks_of, file_shape}
use Rattle.reader.proofs.TaskBodies.{task-body}
use Rattle.sheet.specs.Sheet.{SheetRun, preemption_numbers, longest_path, PreemptionInRules}
use Rattle.sheet.specs.Parsed.{complete_path, each_passes, complete_by}
use Rattle.sheet.proofs.Places.{PreemptionPlaces, preemption_places, none_left}
use Rattle.sheet.proofs.CompletePaths.{complete-blocks, all_done_lem}
use Rattle.runs.specs.Running.{Both, both_first, CountsFit, own_both, preempted_both}
use Rattle.runs.specs.Parts.{references_at, part_of, first_point, last_point, PartIn}
use Rattle.runs.specs.declared.part.PathPoint.{PathPoint}
use Rattle.runs.proofs.PathCounts.{references-few}
use Rattle.runs.proofs.PartLaws.{between_join, between-all}
use Rattle.runs.proofs.PartTurns.{before_last}
use Rattle.runs.proofs.Segments.{Rises, rises-all, done_le, segments, InPath, segments_all}
use Rattle.runs.proofs.BothEvents.{both_events, events_refs, end-undisturbed, end-disturbed, end-lost}
use Rattle.runs.proofs.BothLaws.{counts_less, counts_after}
use Rattle.sheet_checks.specs.SheetChecks.{run_in, Passed13}
use Rattle.sheet_checks.proofs.SheetLaws.{SheetFacts}
use Rattle.sheet_checks.proofs.OwnPath.{own_task, own_facts, own-bounds}
use Rattle.replay.specs.declared.Counted.{Counted}
use Rattle.replay.specs.Replay.{counted, counted_in}

-- ---- points

-- that of a preemption
abbrev pub point_of : Preemption → PathPoint
point_of x = record { position = x.position; done = x.done }

-- ---- what is left of the run where the point `from` is reached and `at` is the next preemption

-- its events from the point (i, d) on, with the preemptions xs
abbrev events : List ℕ → List ℕ → List Preemption → ℕ → ℕ → List Event
events s sheet xs i d = segments position_of done_of (own_task s sheet) (run_in s sheet).path (all_of (tasks_of s)) xs i d

-- both runs to the end, by their segments
abbrev whole : List ℕ → List ℕ → CacheShape → Both
whole s sheet shape = both_events (shaped 32 shape) (both_first (shaped 32 shape)) (events s sheet (run_in s sheet).preemptions 0 0)

-- both runs from a point on, with the preemptions xs
abbrev on_from : List ℕ → List ℕ → CacheShape → Both → PathPoint → List Preemption → Both
on_from s sheet shape run from xs = both_events (shaped 32 shape) run (events s sheet xs from.position from.done)

-- the part of the own path between two points
abbrev own_part : List ℕ → List ℕ → PathPoint → PathPoint → List ℕ
own_part s sheet from to = part_of (own_task s sheet) (run_in s sheet).path from to

-- the last point of the own path
abbrev own_last : List ℕ → List ℕ → PathPoint
own_last s sheet = last_point (own_task s sheet) (run_in s sheet).path

pub record RunLeft (s sheet : List ℕ) (shape : CacheShape) (run : Both) (from : PathPoint) (at : ℕ) : Type 0 where
  pub left : List Preemption
  pub numbers-at : drop at sheet ≡ preemption_numbers left
  pub rules : Each (PreemptionInRules (task_count s) (run_in s sheet).p (length (run_in s sheet).path)) left
  pub complete : each_passes (complete_by (tasks_of s)) left ≡ true
  pub points : Each (InPath position_of done_of (own_task s sheet) (run_in s sheet).path) left
  pub rises : Rises position_of done_of from.position from.done left
  pub in_path : from.position < length (run_in s sheet).path
  pub done-few : from.done ≤ length (references_at (own_task s sheet) (run_in s sheet).path from.position)
  pub few : CountsFit run (length (own_part s sheet from (own_last s sheet)))
  pub same : on_from s sheet shape run from left ≡ whole s sheet shape

-- the next preemption
pub record RunNext (s sheet : List ℕ) (shape : CacheShape) (run : Both) (from : PathPoint) (at : ℕ) : Type 0 where
  pub first : Preemption
  pub rest : List Preemption
  pub places : PreemptionPlaces sheet at first rest
  pub rule : PreemptionInRules (task_count s) (run_in s sheet).p (length (run_in s sheet).path) first
  pub point : InPath position_of done_of (own_task s sheet) (run_in s sheet).path first
  pub order : NotBefore from.position from.done first.position first.done
  pub here : complete_path (task (tasks_of s) first.by) first.path ≡ true
  pub rules : Each (PreemptionInRules (task_count s) (run_in s sheet).p (length (run_in s sheet).path)) rest
  pub complete : each_passes (complete_by (tasks_of s)) rest ≡ true
  pub points : Each (InPath position_of done_of (own_task s sheet) (run_in s sheet).path) rest
  pub rises : Rises position_of done_of first.position first.done rest
  pub same : on_from s sheet shape run from (first ∷ rest) ≡ whole s sheet shape

-- the path of the preemption at `at`, of m blocks
abbrev pub by_part : List ℕ → ℕ → ℕ → List ℕ
by_part sheet at m = take (at + 4 + m - (at + 4)) (drop (at + 4) sheet)

-- the part of a path of the task t between two points can be run
pub record OwnRun (t : Task) (path : List ℕ) (run : Both) (from to : PathPoint) : Type 0 where
  pub part : PartIn t path from to
  pub few : CountsFit run (length (part_of t path from to))

-- the same, of an equal task, path and point
pub own_moved : {t u : Task} {path way : List ℕ} (run : Both) (from : PathPoint) {to end : PathPoint} → t ≡ u → path ≡ way → to ≡ end → OwnRun u way run from end → OwnRun t path run from to
own_moved run from et ep eq h = rw (et, ep, eq) h

pub ran_moved : (k : Cache) {t u : Task} {path way : List ℕ} (run : Both) (from : PathPoint) {to end : PathPoint} {own : Both} → t ≡ u → path ≡ way → to ≡ end
    → own ≡ own_both k run (part_of t path from to) → own ≡ own_both k run (part_of u way from end)
ran_moved k run from et ep eq e = rw (et, ep, eq) at e

-- the path of the preemption at `at`, of m blocks of the task y, can be run
pub record ByRun (s sheet : List ℕ) (at y m : ℕ) : Type 0 where
  pub there : y < task_count s
  pub within : at + 4 + m ≤ length sheet
  pub below : All (λ (b : ℕ). b < length (task (tasks_of s) y)) (by_part sheet at m)
  pub some : 0 < length (by_part sheet at m)
  pub few : length (by_part sheet at m) ≤ longest_path

module _ (s sheet : List ℕ) (shape : CacheShape) (h : Passed13 s sheet) (blocks : shape ≡ file_shape s) where
  abbrev k : Cache
  k = shaped 32 shape

  abbrev ts : List Task
  ts = tasks_of s

  abbrev r : SheetRun
  r = run_in s sheet

  abbrev tp : Task
  tp = own_task s sheet

  facts : SheetFacts s sheet
  facts = own_facts s sheet h.rules

  some : 0 < length r.path
  some = omega (arith, facts.rules.bounds.some)

  -- the points of all preemptions lie in the path
  all-points : Each (InPath position_of done_of tp r.path) r.preemptions
  all-points = go r.preemptions facts.rules.each ((all_done_lem ts r).0 h.done)
    where
      go : (xs : List Preemption) → Each (PreemptionInRules (task_count s) r.p (length r.path)) xs → Each (λ (x : Preemption). Done (references_at tp r.path x.position) x.done) xs
          → Each (InPath position_of done_of tp r.path) xs
      go [] e d = tt
      go (x ∷ xs) e d = ((e.0.in_path, d.0), go xs e.1 d.1)

  blocks-low : 0 < cache_blocks s
  blocks-low = (task-body s h.rules.file r.p facts.rules.there).low

  blocks_high : cache_blocks s ≤ 32
  blocks_high = omega (arith, (task-body s h.rules.file r.p facts.rules.there).high)

  -- both runs at the end have the counts of the definitions, in rows of as many places as cache blocks
  whole_counts : counted (whole s sheet shape).undisturbed.count (whole s sheet shape).disturbed.count (whole s sheet shape).lost ≡ counted_in s r
  whole_counts =
      ap (λ (es : List Event). of_both (both_events k (both_first k) es)) (segments_all position_of done_of tp r.path (all_of ts) r.preemptions some (rises-all r.preemptions facts.rules.rising) all-points)
      ∙ three (end-undisturbed k ts tp r.path r.preemptions) (end-disturbed k ts tp r.path r.preemptions) (end-lost k ts tp r.path r.preemptions)
      ∙ ap (λ (x : CacheShape). counted (count_at_end (shaped 32 x) ts tp r.path []) (count_at_end (shaped 32 x) ts tp r.path r.preemptions) (lost_at_end (shaped 32 x) ts tp r.path r.preemptions)) blocks
      ∙ three (count-width (cache_blocks s) 32 blocks-low blocks_high ts tp r.path []) (count-width (cache_blocks s) 32 blocks-low blocks_high ts tp r.path r.preemptions)
      (lost-width (cache_blocks s) 32 blocks-low blocks_high ts tp r.path r.preemptions)
    where
      of_both : Both → Counted
      of_both b = counted b.undisturbed.count b.disturbed.count b.lost

      three : {u u' d d' l l' : ℕ} → u ≡ u' → d ≡ d' → l ≡ l' → ◌≡◌ {A = Counted} (counted u d l) (counted u' d' l')
      three {u' = u'} {d' = d'} {l = l} eu ed el = ap₂ (λ (x y : ℕ). counted x y l) eu ed ∙ ap (counted u' d') el

  -- at first, where `long` is the number of the path's length
  pub run_start : {run : Both} {long : ℕ} → run ≡ both_first (direct 32) → long ≡ get_or sheet 1 0 → RunLeft s sheet shape run first_point (3 + long)
  run_start er e = record {
    left = r.preemptions;
    numbers-at = ap (λ l. drop (3 + l) sheet) (e ∙ facts.places.long-at) ∙ facts.places.list-at;
    rules = facts.rules.each;
    complete = both_right (complete_path tp r.path) (each_passes (complete_by ts) r.preemptions) h.complete;
    points = all-points;
    rises = rises-all r.preemptions facts.rules.rising;
    in_path = some;
    done-few = omega arith;
    few = rw er room;
    same = ap (λ (b : Both). on_from s sheet shape b first_point r.preemptions) er;
  }
    where
      small : length (own_part s sheet first_point (own_last s sheet)) ≤ 16 * longest_path
      small =
          let n : suc (length r.path - 1) ≡ length r.path = omega (arith, some) in
          omega (arith, ap length (between-all tp r.path (length r.path - 1) n), references-few tp (own-bounds s sheet h.rules) r.path, facts.rules.bounds.few)

      room : CountsFit (both_first (direct 32)) (length (own_part s sheet first_point (own_last s sheet)))
      room = (omega (arith, small), omega (arith, small), omega (arith, small))

  module _ (run : Both) (from : PathPoint) (at : ℕ) (x : RunLeft s sheet shape run from at) where
    pub run-next : at < length sheet → RunNext s sheet shape run from at
    run-next l = go x.left x.numbers-at x.rules x.complete x.points x.rises x.same
      where
        go : (xs : List Preemption) → drop at sheet ≡ preemption_numbers xs → Each (PreemptionInRules (task_count s) r.p (length r.path)) xs
            → each_passes (complete_by ts) xs ≡ true → Each (InPath position_of done_of tp r.path) xs → Rises position_of done_of from.position from.done xs
            → on_from s sheet shape run from xs ≡ whole s sheet shape → RunNext s sheet shape run from at
        go [] d rules c points rises same = absurd (omega (arith, ap length d, length-drop at sheet))
        go (y ∷ ys) d rules c points rises same = record {
          first = y;
          rest = ys;
          places = preemption_places sheet at y ys d;
          rule = rules.0;
          point = points.0;
          order = rises.0;
          here = both_left (complete_path (task ts y.by) y.path) _ c;
          rules = rules.1;
          complete = both_right (complete_path (task ts y.by) y.path) _ c;
          points = points.1;
          rises = rises.1;
          same = same;
        }

    -- ---- a turn

    module _ (z : RunNext s sheet shape run from at) where
      -- q and e are the numbers of the next point
      pub point_is : {q e : ℕ} → q ≡ get_or sheet at 0 → e ≡ get_or sheet (at + 1) 0 → ◌≡◌ {A = PathPoint} (record { position = q; done = e }) (point_of z.first)
      point_is eq ee = ap₂ (λ (i d : ℕ). record { position = i; done = d }) (eq ∙ z.places.position_at) (ee ∙ z.places.done_at)

      next-few : z.first.done ≤ length (references_at tp r.path z.first.position)
      next-few = done_le (references_at tp r.path z.first.position) z.first.done z.point.1

      -- the own references up to the point, and those after it
      joined : length (own_part s sheet from (point_of z.first)) + length (own_part s sheet (point_of z.first) (own_last s sheet)) ≡ length (own_part s sheet from (own_last s sheet))
      joined =
          sym (ap length (between_join tp r.path from.position from.done z.first.position z.first.done (own_last s sheet).position (own_last s sheet).done z.order
          (before_last tp r.path (point_of z.first) z.point.0 next-few))
          ∙ length-append (own_part s sheet from (point_of z.first)) (own_part s sheet (point_of z.first) (own_last s sheet)))

      pub own-run : OwnRun tp r.path run from (point_of z.first)
      own-run = record {
        part = record { in_path = z.point.0; order = z.order; from_done = x.done-few; to_done = next-few };
        few = counts_less run (length (own_part s sheet from (own_last s sheet))) (omega (arith, joined)) x.few;
      }

      -- y and m are the numbers of the preempting task and of its path's length
      module _ {y m : ℕ} (ey : y ≡ get_or sheet (at + 2) 0) (em : m ≡ get_or sheet (at + 3) 0) where
        by_part_lem : by_part sheet at m ≡ z.first.path
        by_part_lem = part_is sheet refl (em ∙ z.places.long-at) ∙ z.places.path-at

        by-task : task ts y ≡ task ts z.first.by
        by-task = ap (task ts) (ey ∙ z.places.task-at)

        pub by-run : ByRun s sheet at y m
        by-run = record {
          there = omega (arith, z.places.task-at, z.rule.there);
          within = omega (arith, z.places.long-at, z.places.within);
          below = rw (by-task, by_part_lem) (complete-blocks (task ts z.first.by) z.first.path z.here);
          some = omega (arith, ap length by_part_lem, z.rule.bounds.some);
          few = omega (arith, ap length by_part_lem, z.rule.bounds.few);
        }

        -- the own references up to the point, and then the preempting path
        turned : {own after : Both} → own ≡ own_both k run (own_part s sheet from (point_of z.first))
            → after ≡ preempted_both k own (references (task ts y) (by_part sheet at m)) → RunLeft s sheet shape after (point_of z.first) (at + 4 + m)
        turned {own} {after} e1 e2 = record {
          left = z.rest;
          numbers-at = ap (λ (j : ℕ). drop (at + 4 + j) sheet) (em ∙ z.places.long-at) ∙ z.places.rest_at;
          rules = z.rules;
          complete = z.complete;
          points = z.points;
          rises = z.rises;
          in_path = z.point.0;
          done-few = next-few;
          few = subst (λ (b : Both). CountsFit b (length (own_part s sheet (point_of z.first) (own_last s sheet)))) (sym e2) few-own;
          same = ap (λ (b : Both). on_from s sheet shape b (point_of z.first) z.rest) here ∙ sym (events_refs k (own_part s sheet from (point_of z.first)) run _) ∙ z.same;
        }
          where
            few-own : CountsFit own (length (own_part s sheet (point_of z.first) (own_last s sheet)))
            few-own =
                counts_after k (own_part s sheet from (point_of z.first)) run own (length (own_part s sheet from (own_last s sheet)))
                (length (own_part s sheet (point_of z.first) (own_last s sheet))) e1 (omega (arith, joined)) x.few

            here : after ≡ preempted_both k (own_both k run (own_part s sheet from (point_of z.first))) (all_of ts z.first)
            here = e2 ∙ ap₂ (λ (b : Both) (l : List ℕ). preempted_both k b l) e1 (ap₂ (λ (t : Task) (l : List ℕ). references t l) by-task by_part_lem)

        pub run_turn : {to : PathPoint} {own after : Both} → to ≡ point_of z.first → own ≡ own_both k run (own_part s sheet from (point_of z.first))
            → after ≡ preempted_both k own (references (task ts y) (by_part sheet at m)) → RunLeft s sheet shape after to (at + 4 + m)
        run_turn {after = after} et e1 e2 = subst (λ (p : PathPoint). RunLeft s sheet shape after p (at + 4 + m)) (sym et) (turned e1 e2)

    -- ---- the end

    pub end-run : OwnRun tp r.path run from (own_last s sheet)
    end-run = record {
      part = record {
        in_path = omega (arith, some);
        order = before_last tp r.path from x.in_path x.done-few;
        from_done = x.done-few;
        to_done = omega arith;
      };
      few = x.few;
    }

    pub run_end_lem : length sheet ≤ at → {end : Both} → end ≡ own_both k run (own_part s sheet from (own_last s sheet)) → counted end.undisturbed.count end.disturbed.count end.lost ≡ counted_in s r
    run_end_lem l e =
        let none = none_left sheet at x.left l x.numbers-at in
        ap (λ (b : Both). counted b.undisturbed.count b.disturbed.count b.lost) (
        e ∙ sym (events_refs k (own_part s sheet from (own_last s sheet)) run []) ∙ ap (on_from s sheet shape run from) (sym none) ∙ x.same)
        ∙ whole_counts
