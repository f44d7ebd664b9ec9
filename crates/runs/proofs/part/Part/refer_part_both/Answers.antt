-- A turn makes the references of the part in the next block in both runs; at the end none is left.
use Rattle.std.proofs.Common.{refl, ◌≤◌, ◌∙◌, arith, ◌+◌, length}
use Rattle.cache.specs.References.{numbers}
use Rattle.cache.specs.Shape.{shaped}
use Rattle.cache.proofs.NumberLaws.{length-numbers}
use Rattle.body.specs.Decode.{decode, task_of}
use Rattle.runs.specs.Running.{held, both}
use Rattle.runs.proofs.PartTurns.{part_left, part_room, part_start}
use Rattle.runs.proofs.BothLaws.{counts_less, counts_after, both_part_turn, both_part_end}
use Rattle.runs.proofs.part.Part.refer_part_both.Goals as goal

pub refer_both-so_far-requires : goal.refer_both-so_far-requires
refer_both-so_far-requires c =
    let t = task_of (decode c.args.self.now.on.body.now) in
    let now = both (held c.loop-x.undisturbed) (held c.loop-x.disturbed) c.loop-x.so_far in
    let within : c.loop-x.x ≤ c.args.self.now.to.position = omega (arith, c.loop-x-test.true) in
    let room = part_room t c.args.self.now.on.path.now c.args.self.now.from c.args.self.now.to c.args.self.now.within c.loop-x.x c.loop-x.auto.x within c.part_on.result.now c.part_on.ensures in
    (c.requires.0, counts_less now (length (part_left t c.args.self.now.on.path.now c.args.self.now.from c.args.self.now.to c.loop-x.x)) (omega (arith, room)) c.loop-x.invariant.0)

pub loop-x-preserved : goal.loop-x-preserved
loop-x-preserved c =
    let t = task_of (decode c.args.self.now.on.body.now) in
    let k = shaped 32 c.args.shape in
    let left = part_left t c.args.self.now.on.path.now c.args.self.now.from c.args.self.now.to in
    let now = both (held c.loop-x.undisturbed) (held c.loop-x.disturbed) c.loop-x.so_far in
    let next = both (held c.refer_both-so_far.new.undisturbed) (held c.refer_both-so_far.new.disturbed) c.refer_both-so_far.result in
    let within : c.loop-x.x ≤ c.args.self.now.to.position = omega (arith, c.loop-x-test.true) in
    let bytes = c.part_on.result.now in
    let room = part_room t c.args.self.now.on.path.now c.args.self.now.from c.args.self.now.to c.args.self.now.within c.loop-x.x c.loop-x.auto.x within bytes c.part_on.ensures in (
      counts_after k (numbers bytes) now next (length (left c.loop-x.x)) (length (left (c.loop-x.x + 1))) c.refer_both-so_far.ensures (omega (arith, room, length-numbers bytes)) c.loop-x.invariant.0,
      both_part_turn k t c.args.self.now.on.path.now c.args.self.now.from c.args.self.now.to c.loop-x.x now bytes c.args.self.now.within c.loop-x.auto.x within c.part_on.ensures c.refer_both-so_far.ensures ∙ c.loop-x.invariant.1,
    )

pub returns : goal.returns
returns c =
    let now = both (held c.loop-x.undisturbed) (held c.loop-x.disturbed) c.loop-x.so_far in
    both_part_end (shaped 32 c.args.shape) (task_of (decode c.args.self.now.on.body.now)) c.args.self.now.on.path.now c.args.self.now.from c.args.self.now.to c.loop-x.x now c.loop-x-test.false ∙ c.loop-x.invariant.1

pub loop-x-init : goal.loop-x-init
loop-x-init c =
    let part = c.args.self.now in
    rw (part_start (task_of (decode part.on.body.now)) part.on.path.now part.from part.to) (c.requires.1, refl)
