-- The run that is lent is the run of its parts.
use mathlib.Core.Path.{◌≡◌, ap, ap₂, ◌∙◌}
use mathlib.Core.Bool.{Bool, cond}
use mathlib.Core.List.{List, ◌∷◌, ◌++◌, []}
use Prim.Native.Nat.{ℕ}
use Rattle.std.specs.Prelude.{Option, Some, None}
use Rattle.model.specs.Tasks.{Path}
use Rattle.model.specs.Runs.{Preemption as SheetPreemption}
use Rattle.trails.specs.declared.write.Place.{Place}
use Rattle.run_sheet.specs.declared.Preemption.{Preemption}
use Rattle.run_sheet.specs.declared.JoinedRun.{JoinedRun}
use Rattle.sheet.specs.Sheet.{SheetRun}
use Rattle.run_sheet.specs.Joined.{path_to, way_on, preemptions_at, HasTrail, HasPath, Joins}
use Rattle.run_sheet.specs.Joined.{length_before as lent_before}
use Rattle.run_sheet.specs.Joined.{path_before as lent_path}
use Rattle.costliest.specs.Parts.{length_before, path_before, run_of_parts, HasTrailBefore, BeforeIs, PreemptionIs}

module _ (first : Bool) (to : List ℕ) (at : ℕ) where
  before_is : (before : Option Place) → BeforeIs first to at before → lent_before before ≡ length_before first to at
  before_is None e = rw e
  before_is (Some place) (e, t, a) = rw (e, t, a)

  path_is : (before : Option Place) → BeforeIs first to at before → lent_path before ≡ path_before first to at
  path_is None e = rw e
  path_is (Some place) (e, t, a) = rw (e, t, a)

module _ (preempted : Bool) (j done : ℕ) (by : List ℕ) (end : ℕ) where
  preemptions_are : (position : ℕ) (p : Option Preemption) → PreemptionIs preempted j done by end p
      → preemptions_at position p ≡ cond preempted (record { position = position; done = done; by = j; path = path_to by end } ∷ []) []
  preemptions_are position None e = rw e
  preemptions_are position (Some p) (e, b, d, t, a) = rw (e, b, d, t, a)

  pub has_path : (p : Option Preemption) → PreemptionIs preempted j done by end p → HasTrail by end → HasPath p
  has_path None e h = tt
  has_path (Some p) (e, b, d, t, a) h = rw (t, a) h

module _ (preempted : Bool) (i j : ℕ) (first : Bool) (to : List ℕ) (at done : ℕ) (on : List ℕ) (from : ℕ) (by : List ℕ) (end : ℕ) where
  pub joined_is : (before : Option Place) (preemption : Option Preemption) → BeforeIs first to at before → PreemptionIs preempted j done by end preemption
      → ◌≡◌ {A = SheetRun} (record { p = i; path = lent_path before ++ way_on on from; preemptions = preemptions_at (lent_before before) preemption })
      (run_of_parts preempted i j first to at done on from by end)
  joined_is before preemption b p =
      ap₂ (λ (path : Path) (preemptions : List SheetPreemption). record { p = i; path = path ++ way_on on from; preemptions = preemptions })
      (path_is first to at before b)
      (ap (λ (n : ℕ). preemptions_at n preemption) (before_is first to at before b) ∙ preemptions_are preempted j done by end (length_before first to at) preemption p)

-- such a run fits its sheet
pub joins : (run : JoinedRun) (preempted : Bool) (j : ℕ) (first : Bool) (to : List ℕ) (at done : ℕ) (by : List ℕ) (end : ℕ) → BeforeIs first to at run.before
    → PreemptionIs preempted j done by end run.preemption → HasTrailBefore first to at → HasTrail run.on.trails.now run.on.at → HasTrail by end → Joins run
joins run preempted j first to at done by end before preemption b on p =
    record { few = rw (before_is first to at run.before before) b.few; on = on; by = has_path preempted j done by end run.preemption preemption p }
