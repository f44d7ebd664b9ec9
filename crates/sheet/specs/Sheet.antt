-- Document 01, "Calls": the run sheet of Replay, and checks 12 and 13 against it; document 02, Point 1: check 16, Point 3: the longest path of a
-- sheet, and Point 6: points of two numbers. Definitions only.
use Rattle.std.specs.Prelude.{◌≡◌, ◌≢◌, List, [], ◌∷◌, ◌++◌, ℕ, ◌≤◌, ◌<◌, length, get_or}
use Rattle.model.specs.Lists.{Each}
use Rattle.model.specs.Tasks.{Task, block, Unmasked, Done, Path, Complete, task}
use Rattle.model.specs.Runs.{Preemption, NeverFall, DisturbedRun}

-- what a run sheet says: task p, its path, and the preemptions
pub record SheetRun : Type 0 where
  pub p : ℕ
  pub path : Path
  pub preemptions : List Preemption

-- "path length ..; the blocks"
abbrev pub path_numbers : Path → List ℕ
path_numbers path = length path ∷ path

-- "for each the point .., the task, path length .., the blocks"; Point 6: "A point becomes two numbers: the position in the path, and how many
-- references of that block are done"
abbrev pub preemption_numbers : List Preemption → List ℕ
preemption_numbers [] = []
preemption_numbers (x ∷ xs) = x.position ∷ x.done ∷ x.by ∷ (path_numbers x.path ++ preemption_numbers xs)

-- the numbers of a run sheet
abbrev pub Sheet : Type 0
Sheet = List ℕ

-- "a run sheet of two-byte numbers: task p; path length 1 to 64; the blocks; preemption count 0 to 16; for each .." (see `longest_path`)
abbrev pub sheet_numbers : SheetRun → Sheet
sheet_numbers r = r.p ∷ (path_numbers r.path ++ (length r.preemptions ∷ preemption_numbers r.preemptions))

-- document 01: "path length 1 to 64"; document 02, Point 3: "Sheet paths may now have up to 1,536 blocks, which is enough for 24 blocks of 32
-- states.", p's and preempting ones
abbrev pub longest_path : ℕ
longest_path = 1536

-- "path length 1 to 64" (see `longest_path`)
pub record PathInBounds (path : Path) : Type 0 where
  pub some : 1 ≤ length path
  pub few : length path ≤ longest_path

-- a preemption of a path of `long` blocks of the task p, in a file of t tasks: "Points lie in the path ..."; "A preempting task isn't p."
pub record PreemptionInRules (t p long : ℕ) (x : Preemption) : Type 0 where
  pub in_path : x.position < long
  pub there : x.by < t
  pub other : x.by ≢ p
  pub bounds : PathInBounds x.path

-- the rules of a sheet, in a file of t tasks: "preemption count 0 to 16"; "Points .. never fall.", as pairs (Point 6)
pub record InRules (t : ℕ) (r : SheetRun) : Type 0 where
  pub there : r.p < t
  pub bounds : PathInBounds r.path
  pub few : length r.preemptions ≤ 16
  pub each : Each (PreemptionInRules t r.p (length r.path)) r.preemptions
  pub rising : NeverFall r.preemptions

-- the sheet is the numbers of a run that keeps the rules
abbrev pub Keeps : ℕ → Sheet → Type 0
Keeps t sheet = (r : SheetRun) × InRules t r × (sheet ≡ sheet_numbers r)

-- check 12: "run sheet short or too long, or a length, count, task or point against the rules"
abbrev pub Fault12 : ℕ → Sheet → Type 0
Fault12 t sheet = Keeps t sheet → ⊥

-- all paths of a run are complete
pub record AllComplete (ts : List Task) (r : SheetRun) : Type 0 where
  pub own : Complete (task ts r.p) r.path
  pub each : Each (λ (x : Preemption). Complete (task ts x.by) x.path) r.preemptions

-- document 02, Point 6: at each point as many references are done as the block of the path there allows, masked or not
abbrev pub RightDone : List Task → SheetRun → Type 0
RightDone ts r = Each (λ (x : Preemption). Done (block (task ts r.p) (get_or r.path x.position 0)).references x.done) r.preemptions

-- check 13: "a path in it isn't complete, or names a block that isn't there", of a sheet that keeps the rules; Point 6: "a wrong number of
-- references is check 13"
abbrev pub Fault13 : List Task → Sheet → Type 0
Fault13 ts sheet = (r : SheetRun) × InRules (length ts) r × (sheet ≡ sheet_numbers r) × (AllComplete ts r × RightDone ts r → ⊥)

-- document 02, Point 1: "preemptions avoid masked blocks (its path may pass them)": the block of the path at each point is unmasked
abbrev pub AvoidsMasked : List Task → SheetRun → Type 0
AvoidsMasked ts r = Each (λ (x : Preemption). Unmasked (task ts r.p) (get_or r.path x.position 0)) r.preemptions

-- check 16: "a preemption at a masked position", of a sheet that keeps the rules
abbrev pub Fault16 : List Task → Sheet → Type 0
Fault16 ts sheet = (r : SheetRun) × InRules (length ts) r × (sheet ≡ sheet_numbers r) × (AvoidsMasked ts r → ⊥)

-- what a sheet can hold: "path length 1 to 64", of which Point 3 of document 02 moved the 64 to `longest_path`, and "preemption count 0
-- to 16"
pub record Fits (ts : List Task) (run : DisturbedRun ts) : Type 0 where
  pub short : length run.path ≤ longest_path
  pub few : length run.preemptions ≤ 16
  pub each : Each (λ (x : Preemption). length x.path ≤ longest_path) run.preemptions

abbrev pub sheet_run : (ts : List Task) → DisturbedRun ts → SheetRun
sheet_run ts run = record { p = run.p; path = run.path; preemptions = run.preemptions }

-- the sheet of a disturbed run
abbrev pub run_numbers : (ts : List Task) → DisturbedRun ts → Sheet
run_numbers ts run = sheet_numbers (sheet_run ts run)
