-- `part::Part::part_on` meets its contract: the bytes of the block's references, from two for each that is done where the part begins, up to two for each
-- that is done where it ends. Assumes nothing.
use mathlib.Core.Path.{◌≡◌}
use Prim.Native.Nat.{ℕ, ◌*◌, ◌≤◌}
use native.Mathlib.Omega.{arith}
use lib.ListN.{length, get_or}
use Rattle.model.specs.Tasks.{block}
use Rattle.body.specs.Decode.{decode, task_of}
use Rattle.runs.specs.Parts.{done_before}
use Rattle.body.proofs.Decoded.{few-references}
use Rattle.runs.proofs.RunLaws.{walked}
use Rattle.runs.proofs.PartTurns.{begins_here, begins-before, Ends, ends_here, ends-after, part_order, part_within, part_numbers}
use Rattle.runs.proofs.part.Part.part_on.Goals as goal
use Rattle.runs.proofs.part.Part.part_on.Goals.{After-row_known-2-1, Start, else-x-self, else-x-self-2, then-x-self, then-x-self-2}

few : (c : Start) (b : ℕ) → length (block (task_of (decode c.args.self.now.on.body.now)) b).references ≤ 16
few c b =
    few-references (task_of (decode c.args.self.now.on.body.now)) (walked c.args.self.now.on.body.now c.args.self.now.on.starts.now c.args.self.now.on.there.runs.kept c.args.self.now.on.there.begin).bounds b

pub overflow_mul-first : goal.overflow_mul-first
overflow_mul-first c =
    let start = c in
    omega (arith, start.args.self.now.within.from_done, few (goal.at.overflow_mul-first c).Start (get_or start.args.self.now.on.path.now start.args.self.now.from.position 0))

pub overflow_mul-end : goal.overflow_mul-end
overflow_mul-end c =
    let start = c in
    omega (arith, start.args.self.now.within.to_done, few (goal.at.overflow_mul-end c).Start (get_or start.args.self.now.on.path.now start.args.self.now.to.position 0))

-- where the part begins in the block, and where it ends
begin : (c : After-row_known-2-1)
    → let args = c.args in
    c.if-x-self.first ≡ 2 * done_before args.self.now.from args.x
begin c =
    let args = c.args in
    let t = task_of (decode args.self.now.on.body.now) in
    (elim c.if-x-self.branch [ then-x-self w ↦ begins_here t args.self.now.on.path.now args.self.now.from args.self.now.to args.x w.if-x-self.true w.first-is | else-x-self w ↦ begins-before t args.self.now.on.path.now args.self.now.from args.self.now.to args.x w.if-x-self.false w.first-is ])

end : (c : After-row_known-2-1)
    → let args = c.args in
    Ends (task_of (decode args.self.now.on.body.now)) args.self.now.on.path.now args.self.now.from args.self.now.to args.x c.references_on-bytes.result.now c.if-x-self-2.end
end c =
    let args = c.args in
    let t = task_of (decode args.self.now.on.body.now) in
    let bytes = c.references_on-bytes.result.now in
    (elim c.if-x-self-2.branch [ then-x-self-2 w ↦ ends_here t args.self.now.on.path.now args.self.now.from args.self.now.to args.x bytes w.if-x-self-2.true w.end-is | else-x-self-2 w ↦ ends-after t args.self.now.on.path.now args.self.now.from args.self.now.to args.x bytes w.if-x-self-2.false w.end-is ])

order : (c : After-row_known-2-1) → c.if-x-self.first ≤ c.if-x-self-2.end
order c =
    let start = c in
    let got = c.references_on-bytes in
    part_order (task_of (decode start.args.self.now.on.body.now)) start.args.self.now.on.path.now start.args.self.now.from start.args.self.now.to start.args.self.now.within start.args.x start.requires.0 start.requires.1 got.result.now got.ensures _ _ (begin c) (end c)

within : (c : After-row_known-2-1) → c.if-x-self-2.end ≤ length c.references_on-bytes.result.now
within c =
    let start = c in
    let got = c.references_on-bytes in
    part_within (task_of (decode start.args.self.now.on.body.now)) start.args.self.now.on.path.now start.args.self.now.from start.args.self.now.to start.args.self.now.within start.args.x start.requires.0 start.requires.1 got.result.now got.ensures _ _ (begin c) (end c)

pub slice_bounds-result-start : goal.slice_bounds-result-start
slice_bounds-result-start c = order (goal.at.slice_bounds-result-start c).After-row_known-2-1

pub slice_bounds-result-end : goal.slice_bounds-result-end
slice_bounds-result-end c = within (goal.at.slice_bounds-result-end c).After-row_known-2-1

pub returns : goal.returns
returns c =
    let start = c in
    let got = c.references_on-bytes in
    part_numbers (task_of (decode start.args.self.now.on.body.now)) start.args.self.now.on.path.now start.args.self.now.from start.args.self.now.to start.args.self.now.within start.args.x start.requires.0 start.requires.1 got.result.now got.ensures _ _ (begin (goal.at.returns c).After-row_known-2-1) (end (goal.at.returns c).After-row_known-2-1)

pub slice_bounds-result-count : goal.slice_bounds-result-count
slice_bounds-result-count c = order (goal.at.slice_bounds-result-count c).After-row_known-2-1
