-- A turn makes the references of the part in the next block; at the end none is left.
use Rattle.std.proofs.Common.{refl, ◌≤◌, ◌∙◌, arith}
use Rattle.cache.specs.Shape.{shaped}
use Rattle.body.specs.Decode.{decode, task_of}
use Rattle.runs.specs.Running.{held}
use Rattle.runs.proofs.PartTurns.{part_room, part_start}
use Rattle.runs.proofs.RunLaws.{own_part_turn, own_part_room, own_part_end}
use Rattle.runs.proofs.part.Part.refer_part.Goals as goal

pub refer_all-requires : goal.refer_all-requires
refer_all-requires c =
    let t = task_of (decode c.args.self.now.on.body.now) in
    let within : c.loop-x.x ≤ c.args.self.now.to.position = omega (arith, c.loop-x-test.true) in (
      c.requires.0,
      omega (arith, c.loop-x.invariant.0, part_room t c.args.self.now.on.path.now c.args.self.now.from c.args.self.now.to c.args.self.now.within c.loop-x.x c.loop-x.auto.x within c.part_on.result.now c.part_on.ensures),
    )

pub loop-x-preserved : goal.loop-x-preserved
loop-x-preserved c =
    let t = task_of (decode c.args.self.now.on.body.now) in
    let k = shaped 32 c.args.shape in
    let within : c.loop-x.x ≤ c.args.self.now.to.position = omega (arith, c.loop-x-test.true) in (
      own_part_room k t c.args.self.now.on.path.now c.args.self.now.from c.args.self.now.to c.loop-x.x (held c.loop-x.cache) c.part_on.result.now c.args.self.now.within c.loop-x.auto.x within c.part_on.ensures c.refer_all.ensures c.loop-x.invariant.0,
      own_part_turn k t c.args.self.now.on.path.now c.args.self.now.from c.args.self.now.to c.loop-x.x (held c.loop-x.cache) c.part_on.result.now c.args.self.now.within c.loop-x.auto.x within c.part_on.ensures c.refer_all.ensures ∙ c.loop-x.invariant.1,
    )

pub returns : goal.returns
returns c =
    own_part_end (shaped 32 c.args.shape) (task_of (decode c.args.self.now.on.body.now)) c.args.self.now.on.path.now c.args.self.now.from c.args.self.now.to c.loop-x.x (held c.loop-x.cache) c.loop-x-test.false ∙ c.loop-x.invariant.1

pub loop-x-init : goal.loop-x-init
loop-x-init c =
    let part = c.args.self.now in
    rw (part_start (task_of (decode part.on.body.now)) part.on.path.now part.from part.to) (c.requires.1, refl)
