-- `totals::total_rest` meets its contract: the rest of a path is its part up to the last point. Assumes nothing.
use mathlib.Core.Path.{sym, ap, subst, ◌∙◌}
use Prim.Native.Nat.{◌+◌, ◌^◌, ◌<◌}
use native.Mathlib.Omega.{arith}
use lib.ListN.{length}
use Rattle.cache.specs.Shape.{shaped}
use Rattle.model.specs.Runs.{own_references}
use Rattle.body.specs.Decode.{decode, task_of}
use Rattle.runs.specs.Parts.{part_of, PartIn}
use Rattle.runs.specs.declared.part.PathPoint.{PathPoint}
use Rattle.nested_replay.specs.Passes.{held_total}
use Rattle.nested_replay.proofs.TotalLaws.{rest_in}
use Rattle.nested_replay.proofs.totals.total_rest.Goals as goal

pub last_point-to-requires : goal.last_point-to-requires
last_point-to-requires c = omega (arith, c.requires.0)

pub invariant_of-total_part : goal.invariant_of-total_part
invariant_of-total_part c =
    let on = c.args.on.now in
    let t = task_of (decode on.body.now) in
    record { within = subst (λ (p : PathPoint). PartIn t on.path.now c.args.from p) (sym c.last_point-to.ensures) (rest_in t on.path.now c.args.from c.requires.0 c.requires.1) }

pub total_part-requires : goal.total_part-requires
total_part-requires c =
    let on = c.args.on.now in
    let t = task_of (decode on.body.now) in (
      c.requires.2,
      c.requires.3,
      subst (λ (p : PathPoint). c.args.cache.misses + length (part_of t on.path.now c.args.from p) < 2 ^ 64) (sym c.last_point-to.ensures) c.requires.4,
    )

pub returns : goal.returns
returns c =
    let on = c.args.on.now in
    c.total_part.ensures
    ∙ ap (λ (p : PathPoint). own_references (shaped 32 c.args.shape) (held_total c.args.cache) (part_of (task_of (decode on.body.now)) on.path.now c.args.from p)) c.last_point-to.ensures
