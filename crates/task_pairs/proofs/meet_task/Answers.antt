-- `meet_task` meets its contract: after b turns the points of the unmasked ones among the first b blocks are met. Assumes nothing.
use mathlib.Core.Path.{◌≡◌, refl, sym, ap, ◌∙◌}
use Prim.Native.Nat.{ℕ, ◌+◌, ◌<◌}
use native.Mathlib.Omega.{arith}
use lib.ListN.{length, get_or}
use Rattle.cache.specs.Sets.{in_set}
use Rattle.cache.specs.Shape.{shaped}
use Rattle.cache.proofs.Members.{in_word, out_word}
use Rattle.model.specs.Tasks.{Task, block}
use Rattle.body.specs.Decode.{decode, task_of}
use Rattle.body.proofs.JumpLaws.{WalkedTask, kept_task, in_unmasked}
use Rattle.points.specs.Points.{predecessors_of}
use Rattle.pairs.specs.Pairs.{Met}
use Rattle.block_rows.proofs.Walks.{predecessors-are, references-are, block_parts, block_real}
use Rattle.block_rows.specs.BlockRows.{rows_by}
use Rattle.task_pairs.specs.TaskPairs.{task_most}
use Rattle.task_pairs.proofs.Meetings.{met_unmasked, met_masked}
use Rattle.task_pairs.proofs.meet_task.Goals as goal
use Rattle.task_pairs.proofs.meet_task.Goals.{After-predecessors-before, After-kept_walk-walked, else-unmasked-b-ne0, then-unmasked-b-ne0}

-- the task of the body
facts : (c : After-kept_walk-walked) → WalkedTask c.args.body.now c.kept_walk-walked.result.blocks c.kept_walk-walked.result.starts
facts c = kept_task c.kept_walk-walked.result c.kept_walk-walked.ensures

-- the predecessors of the block b
before-is : (c : After-predecessors-before) (b : ℕ) → get_or c.predecessors-before.result b 0 ≡ predecessors_of (task_of (decode c.args.body.now)) b
before-is c = predecessors-are _ _ _ (facts (goal.at.After-predecessors-before c).After-kept_walk-walked) _ (rw c.kept_walk-walked.ensures at c.jumps.ensures) _ c.predecessors-before.ensures

pub predecessors-before-requires : goal.predecessors-before-requires
predecessors-before-requires c = let f = facts (goal.at.predecessors-before-requires c).After-kept_walk-walked in omega (arith, f.long, f.bounds.few)

pub references-requires : goal.references-requires
references-requires c = let f = facts (goal.at.references-requires c).After-kept_walk-walked in (f.parts c.loop-b.b (omega (arith, f.long, c.loop-b-test.true))).references-within

pub invariant_of-block : goal.invariant_of-block
invariant_of-block c =
    let f = facts (goal.at.invariant_of-block c).After-kept_walk-walked in record {
      is = block_parts _ _ _ f c.loop-b.b _ c.loop-b-test.true c.references.ensures c.requires.1;
      real = block_real _ _ _ f c.loop-b.b _ c.loop-b-test.true c.references.ensures;
    }

pub loop-b-preserved : goal.loop-b-preserved
loop-b-preserved c =
    let at = c.loop-b in
    let args = c.args in
    let ends = args.ends.now in
    let k = shaped ends.w args.shape in
    let t = task_of (decode args.body.now) in
    let rs = rows_by args.reaching.now in
    let ls = rows_by args.live.now in
    let f = facts (goal.at.loop-b-preserved c).After-kept_walk-walked in
    let long = f.long ∙ ap length (sym f.same) in
    let low : at.b < 32 = omega (arith, f.long, f.bounds.few, c.loop-b-test.true) in
    let set = c.unmasked_blocks-unmasked.result in
    let marks = ap (λ (s : ℕ). in_set s at.b) c.unmasked_blocks-unmasked.ensures ∙ in_unmasked t at.b (omega (arith, long, c.loop-b-test.true)) in
    let next : Met (task_most k t rs ls (at.b + 1) 0) ends ends.tasks args.numbers.now c.if-unmasked-b-ne0.numbers
    = elim c.if-unmasked-b-ne0.branch [
      | then-unmasked-b-ne0 v ↦ rw v.numbers-is
          (met_unmasked ends ends.tasks k t rs ls at.b c.kept_walk-walked.result.blocks (get_or c.predecessors-before.result at.b 0)
          (sym marks ∙ in_word 32 set at.b low v.if-unmasked-b-ne0.true) long (before-is (goal.at.loop-b-preserved c).After-predecessors-before at.b)
          (references-are _ _ _ f at.b _ c.loop-b-test.true v.references.ensures ∙ ap (λ (u : Task). (block u at.b).references) (sym f.same))
          refl at.invariant.1 v.meet_block.ensures)
      | else-unmasked-b-ne0 v ↦ rw v.numbers-is
          (met_masked ends ends.tasks k t rs ls at.b (sym marks ∙ out_word 32 set at.b low v.if-unmasked-b-ne0.false) at.invariant.1)
    ] in
    (next.long ∙ c.requires.4, next)
