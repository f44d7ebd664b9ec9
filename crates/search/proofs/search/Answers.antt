-- `search` meets its contract: after b turns the first b blocks are searched where they are unmasked. Assumes nothing.
use mathlib.Core.Path.{◌≡◌, sym, ap, ◌∙◌}
use Prim.Native.Nat.{ℕ, ◌+◌, ◌<◌}
use native.Mathlib.Omega.{arith}
use lib.ListN.{length, get_or}
use Rattle.cache.specs.Sets.{in_set}
use Rattle.cache.specs.Shape.{shaped}
use Rattle.cache.proofs.Members.{in_word, out_word}
use Rattle.model.specs.Tasks.{Task, block}
use Rattle.body.specs.Decode.{decode, task_of}
use Rattle.body.proofs.JumpLaws.{WalkedTask, kept_task, in_unmasked}
use Rattle.points.specs.Points.{predecessors_of}
use Rattle.block_rows.proofs.Walks.{predecessors-are, references-are, block_parts, block_real}
use Rattle.block_rows.specs.BlockRows.{rows_by, listed}
use Rattle.search.specs.Search.{Raised, Below, AtBlock, none_found}
use Rattle.search.proofs.Raising.{block_more, block_out}
use Rattle.search.proofs.search.Goals as goal
use Rattle.search.proofs.search.Goals.{After-predecessors-before, After-kept_walk-walked, else-unmasked-b-ne0, then-unmasked-b-ne0}

-- the task of the body
facts : (c : After-kept_walk-walked) → WalkedTask c.args.body.now c.kept_walk-walked.result.blocks c.kept_walk-walked.result.starts
facts c = kept_task c.kept_walk-walked.result c.kept_walk-walked.ensures

-- the predecessors of the block b
before-is : (c : After-predecessors-before) (b : ℕ) → get_or c.predecessors-before.result b 0 ≡ predecessors_of (task_of (decode c.args.body.now)) b
before-is c = predecessors-are _ _ _ (facts (goal.at.After-predecessors-before c).After-kept_walk-walked) _ (rw c.kept_walk-walked.ensures at c.jumps.ensures) _ c.predecessors-before.ensures

pub predecessors-before-requires : goal.predecessors-before-requires
predecessors-before-requires c = let f = facts (goal.at.predecessors-before-requires c).After-kept_walk-walked in omega (arith, f.long, f.bounds.few)

pub references-requires : goal.references-requires
references-requires c = let f = facts (goal.at.references-requires c).After-kept_walk-walked in (f.parts c.loop-b.b (omega (arith, f.long, c.loop-b-test.true))).references-within

pub invariant_of-block : goal.invariant_of-block
invariant_of-block c =
    let f = facts (goal.at.invariant_of-block c).After-kept_walk-walked in record {
      is = block_parts _ _ _ f c.loop-b.b _ c.loop-b-test.true c.references.ensures c.requires.1;
      real = block_real _ _ _ f c.loop-b.b _ c.loop-b-test.true c.references.ensures;
    }

pub loop-b-preserved : goal.loop-b-preserved
loop-b-preserved c =
    let at = c.loop-b in
    let args = c.args in
    let k = shaped args.ends.now.w args.shape in
    let t = task_of (decode args.body.now) in
    let rs = rows_by args.reaching.now in
    let ls = rows_by args.live.now in
    let fs = listed args.ends.now in
    let f = facts (goal.at.loop-b-preserved c).After-kept_walk-walked in
    let long = f.long ∙ ap length (sym f.same) in
    let low : at.b < 32 = omega (arith, f.long, f.bounds.few, c.loop-b-test.true) in
    let set = c.unmasked_blocks-unmasked.result in
    let marks = ap (λ (s : ℕ). in_set s at.b) c.unmasked_blocks-unmasked.ensures ∙ in_unmasked t at.b (omega (arith, long, c.loop-b-test.true)) in
    let next : Raised (Below (λ x. x.point.block) (at.b + 1) (AtBlock k t rs ls fs)) none_found c.if-unmasked-b-ne0.found
    = elim c.if-unmasked-b-ne0.branch [
      | then-unmasked-b-ne0 v ↦ rw v.found-is
          (block_more k t rs ls fs at.b at.invariant (sym marks ∙ in_word 32 set at.b low v.if-unmasked-b-ne0.true) v.of_block.ensures.1
          (references-are _ _ _ f at.b _ c.loop-b-test.true v.references.ensures ∙ ap (λ (u : Task). (block u at.b).references) (sym f.same))
          (before-is (goal.at.loop-b-preserved c).After-predecessors-before at.b) long v.over_block-found.ensures)
      | else-unmasked-b-ne0 v ↦ rw v.found-is
          (block_out k t rs ls fs at.b at.invariant (sym marks ∙ out_word 32 set at.b low v.if-unmasked-b-ne0.false))
    ] in
    next
