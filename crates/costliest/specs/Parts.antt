-- The run that the found rows join to, by its parts: two flags, and places in lists of trails. Definitions only.
use Rattle.std.specs.Prelude.{◌≡◌, Bool, true, false, cond, List, [], ◌∷◌, ◌++◌, ℕ, ◌≤◌, ◌<◌, Option, Some, None}
use Rattle.model.specs.Tasks.{Path}
use Rattle.sheet.specs.Sheet.{SheetRun}
use Rattle.trails.specs.Trails.{length_at, Places, way_to}
use Rattle.trails.specs.declared.write.Place.{Place}
use Rattle.run_sheet.specs.declared.Preemption.{Preemption}
use Rattle.run_sheet.specs.Joined.{path_to, way_on}

-- how many blocks come before the block of the preemption: none where it is the first of the path, else those of the path to the place `at`
abbrev pub length_before : Bool → List ℕ → ℕ → ℕ
length_before first to at = cond first 0 (length_at to at)

-- the blocks before it
abbrev pub path_before : Bool → List ℕ → ℕ → Path
path_before first to at = way_to (length_before first to at) to at

-- the run of the task i along the blocks before the block of the preemption and the way on from the place `from`, which is one of that block;
-- preempted in it, where so many of its references are done, by the task j along the path to the place `end`, or not preempted
abbrev pub run_of_parts : Bool → ℕ → ℕ → Bool → List ℕ → ℕ → ℕ → List ℕ → ℕ → List ℕ → ℕ → SheetRun
run_of_parts preempted i j first to at done on from by end = record {
  p = i;
  path = path_before first to at ++ way_on on from;
  preemptions = cond preempted (record { position = length_before first to at; done = done; by = j; path = path_to by end } ∷ []) [];
}

-- a place whose trail gives 768 blocks at most before the block of the preemption; where that is the first of the path, it is any place
pub record HasTrailBefore (first : Bool) (trails : List ℕ) (at : ℕ) : Type 0 where
  pub places : Places trails
  pub inside : at < 768
  pub few : length_before first trails at ≤ 768

-- the place before the block, none where it is the first of the path
abbrev pub BeforeIs : Bool → List ℕ → ℕ → Option Place → Type 0
BeforeIs first to at None = first ≡ true
BeforeIs first to at (Some place) = (first ≡ false) × (place.trails.now ≡ to) × (place.at ≡ at)

-- the preemption by the task j, where so many references are done, along the path to the place `end`, or none
abbrev pub PreemptionIs : Bool → ℕ → ℕ → List ℕ → ℕ → Option Preemption → Type 0
PreemptionIs preempted j done by end None = preempted ≡ false
PreemptionIs preempted j done by end (Some p) = (preempted ≡ true) × (p.by ≡ j) × (p.done ≡ done) × (p.path.trails.now ≡ by) × (p.path.at ≡ end)
