-- `path::BodyPath::references_on` meets its contract: the block's number is one of the task, and its references stand where the walk found the block. Assumes nothing.
use mathlib.Core.Path.{ap, ◌∙◌}
use Prim.Native.Nat.{◌<◌}
use native.Mathlib.Omega.{arith}
use lib.ListN.{length, get_or}
use Rattle.cache.specs.References.{numbers}
use Rattle.model.specs.Tasks.{block}
use Rattle.body.specs.Decode.{decode, task_of}
use Rattle.body.proofs.WalksParts.{BlockParts}
use Rattle.runs.proofs.RunLaws.{walked, all-at, starts-long}
use Rattle.runs.proofs.path.BodyPath.references_on.Goals as goal
use Rattle.runs.proofs.path.BodyPath.references_on.Goals.{After-from}

-- the block's number is one of the task
there : (c : After-from) → c.from.result < length (task_of (decode c.args.self.now.body.now))
there c =
    let start = c in
    let t = task_of (decode start.args.self.now.body.now) in
    omega (arith, c.from.ensures, all-at (λ b. b < length t) start.args.self.now.path.now start.args.self.now.there.runs.below start.args.i start.requires)

parts : (c : After-from)
    → let args = c.args in
    BlockParts args.self.now.body.now (get_or args.self.now.starts.now c.from.result 0) (block (task_of (decode args.self.now.body.now)) c.from.result)
parts c =
    let start = c in
    (walked start.args.self.now.body.now start.args.self.now.starts.now start.args.self.now.there.runs.kept start.args.self.now.there.begin).parts c.from.result (there c)

pub bounds-self-from : goal.bounds-self-from
bounds-self-from c =
    let start = c in
    omega (arith, there (goal.at.bounds-self-from c).After-from, starts-long start.args.self.now.body.now start.args.self.now.starts.now start.args.self.now.there.runs.kept start.args.self.now.there.begin)

pub references-requires : goal.references-requires
references-requires c = (parts (goal.at.references-requires c).After-from).references-within

pub returns : goal.returns
returns c =
    let k = c in
    let t = task_of (decode k.args.self.now.body.now) in
    ap numbers c.references.ensures ∙ (parts (goal.at.returns c).After-from).references ∙ ap (λ b. (block t b).references) k.from.ensures
