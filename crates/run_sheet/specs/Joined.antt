-- Document 02, Points 3 and 6: the run that trails join to. Definitions only.
use Rattle.std.specs.Prelude.{List, [], ◌∷◌, ◌++◌, ℕ, ◌≤◌, ◌<◌, Option, Some, None}
use Rattle.model.specs.Tasks.{Path}
use Rattle.model.specs.Runs.{Preemption as SheetPreemption}
use Rattle.sheet.specs.Sheet.{SheetRun}
use Rattle.trails.specs.Trails.{length_at, Places, way_back, way_to}
use Rattle.trails.specs.declared.write.Place.{Place}
use Rattle.run_sheet.specs.declared.Preemption.{Preemption}
use Rattle.run_sheet.specs.declared.JoinedRun.{JoinedRun}

-- the path that leads to a place
abbrev pub path_to : List ℕ → ℕ → Path
path_to to at = way_to (length_at to at) to at

-- the way on from a place, from its block on
abbrev pub way_on : List ℕ → ℕ → Path
way_on on from = way_back (length_at on from) on from

-- how many blocks come before the block of the preemption: none where it is the first of the path, else those of the path to a place
abbrev pub length_before : Option Place → ℕ
length_before None = 0
length_before (Some place) = length_at place.trails.now place.at

-- the blocks before it
abbrev pub path_before : Option Place → Path
path_before None = []
path_before (Some place) = path_to place.trails.now place.at

-- the preemption at this position of the path, or none
abbrev pub preemptions_at : ℕ → Option Preemption → List SheetPreemption
preemptions_at position None = []
preemptions_at position (Some p) = record { position = position; done = p.done; by = p.by; path = path_to p.path.trails.now p.path.at } ∷ []

-- the run of a task along the blocks before the block of the preemption and the way on from a place of that block; preempted in it, where so many of its
-- references are done, by a task along the path to a place, or not preempted
abbrev pub joined_run : JoinedRun → SheetRun
joined_run run = record {
  p = run.task;
  path = path_before run.before ++ way_on run.on.trails.now run.on.at;
  preemptions = preemptions_at (length_before run.before) run.preemption;
}

-- document 02, Point 6: "the sheet of Point 3 grows to 2,311 numbers": task, length and 1,536 blocks at most, count, position, done, task, length and
-- 768 blocks at most
abbrev pub costliest_sheet_length : ℕ
costliest_sheet_length = 2311

-- a place with a trail of 1 to 768 blocks
pub record HasTrail (trails : List ℕ) (at : ℕ) : Type 0 where
  pub places : Places trails
  pub inside : at < 768
  pub some : 1 ≤ length_at trails at
  pub few : length_at trails at ≤ 768

-- a preemption along a path of at most so many blocks
abbrev pub HasPath : Option Preemption → Type 0
HasPath None = Unit {0}
HasPath (Some p) = HasTrail p.path.trails.now p.path.at

-- a run that fits a sheet of 2,311 numbers
pub record Joins (run : JoinedRun) : Type 0 where
  pub few : length_before run.before ≤ 768
  pub on : HasTrail run.on.trails.now run.on.at
  pub by : HasPath run.preemption
