-- `part::run_path` meets its contract: the blocks begin where the walk of the body found them, and the part from the first point to the last has all
-- references of the path. Assumes nothing.
use mathlib.Core.Path.{◌≡◌, sym, ap, subst, ◌∙◌}
use mathlib.Core.List.{List}
use Prim.Native.Nat.{ℕ, suc, ◌+◌, ◌*◌, ◌-◌, ◌^◌, ◌<◌}
use native.Mathlib.Omega.{arith}
use lib.ListN.{length}
use Rattle.cache.specs.Shape.{shaped}
use Rattle.model.specs.Tasks.{Task, references}
use Rattle.model.specs.Runs.{own_references}
use Rattle.body.specs.Layout.{InBounds}
use Rattle.body.specs.Decode.{decode, task_of}
use Rattle.runs.specs.Running.{held, RunsIn}
use Rattle.runs.specs.Parts.{part_of, last_point, PartIn}
use Rattle.runs.specs.declared.part.PathPoint.{PathPoint}
use Rattle.runs.proofs.PathCounts.{references-few}
use Rattle.runs.proofs.PartLaws.{between-all}
use Rattle.runs.proofs.PartTurns.{before_last}
use Rattle.runs.proofs.RunLaws.{walked}
use Rattle.runs.proofs.part.run_path.Goals as goal

abbrev first : PathPoint
first = record { position = 0; done = 0 }

module _ (t : Task) (path : List ℕ) (some : 0 < length path) where
  all : part_of t path first (last_point t path) ≡ references t path
  all = let n : suc (length path - 1) ≡ length path = omega arith in between-all t path (length path - 1) n

  part : PartIn t path first (last_point t path)
  part = record { in_path = omega arith; order = before_last t path first some (omega arith); from_done = omega arith; to_done = omega arith }

  room : InBounds t → (count : ℕ) → count + 16 * length path < 2 ^ 32 → count + length (part_of t path first (last_point t path)) < 2 ^ 32
  room h count few = omega (arith, ap length all, references-few t h path)

pub invariant_of-on : goal.invariant_of-on
invariant_of-on c =
    let w = c.kept_walk-walked.result in
    let runs = subst (λ b. RunsIn b c.args.path.now) (sym c.kept_walk-walked.ensures) c.requires.0 in
    record { there = record { runs = runs; begin = w.walked.2 } }

pub invariant_of-part : goal.invariant_of-part
invariant_of-part c =
    let t = task_of (decode c.kept_walk-walked.result.body.now) in
    let path = c.args.path.now in
    record { within = subst (λ (p : PathPoint). PartIn t path first p) (sym c.last_point-to.ensures) (part t path c.requires.2) }

pub after_part-requires : goal.after_part-requires
after_part-requires c =
    let w = c.kept_walk-walked.result in
    let t = task_of (decode w.body.now) in
    let path = c.args.path.now in
    let misses = c.args.cache.misses in
    let bounds = (walked w.body.now _ w.walked.0 w.walked.2).bounds in (
      c.requires.1,
      subst (λ (p : PathPoint). misses + length (part_of t path first p) < 2 ^ 32) (sym c.last_point-to.ensures) (room t path c.requires.2 bounds misses c.requires.3),
    )

pub returns : goal.returns
returns c =
    let w = c.kept_walk-walked.result in
    let t = task_of (decode w.body.now) in
    let path = c.args.path.now in
    c.after_part.ensures
    ∙ ap (own_references (shaped 32 c.args.shape) (held c.args.cache))
    (ap (part_of t path first) c.last_point-to.ensures ∙ all t path c.requires.2 ∙ ap (λ b. references (task_of (decode b)) path) c.kept_walk-walked.ensures)
