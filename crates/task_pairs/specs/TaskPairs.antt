-- Document 02, Points 1, 5 and 6: the most cache blocks that are useful in one task and replaced by another, over the points of the one's unmasked
-- blocks, from gathered rows. Definitions only.
use Rattle.std.specs.Prelude.{◌≡◌, cond, List, ℕ, zero, suc, max, length, take}
use Rattle.cache.specs.Cache.{Cache, Row, with_references}
use Rattle.model.specs.Lists.{best}
use Rattle.model.specs.Tasks.{Task, block}
use Rattle.model.specs.Computed.{dones, unmasked}
use Rattle.points.specs.Points.{rest_of, Rests, predecessors_of, rows_before}
use Rattle.pairs.specs.Pairs.{point_most}
use Rattle.pairs.specs.declared.ends.Ends.{Ends}
use Rattle.pairs.specs.declared.lives.Lives.{Lives}
use Rattle.block_rows.specs.BlockRows.{cache_of, references_of}
use Rattle.block_rows.specs.declared.block.Block.{Block}

-- at the point where d of the references ms of a block are done, for a row before the block, the live rows ls of the block and the end rows fs
abbrev pub done_most : Cache → List ℕ → List Row → Row → List Row → ℕ → ℕ
done_most k ms ls row fs d = point_most (with_references k row (take d ms)) (rest_of k ms d) ls fs

-- over the points of the block: "how many references of that block are done, from 1 to all, or 0 where it has none"
abbrev pub before_most : Cache → List ℕ → List Row → Row → List Row → ℕ
before_most k ms ls row fs = best (λ (d : ℕ). done_most k ms ls row fs d) (dones ms)

-- over the rows before the block
abbrev pub block_most : Cache → List ℕ → List Row → List Row → List Row → ℕ
block_most k ms ls rows fs = best (λ (row : Row). before_most k ms ls row fs) rows

-- over those of `left` blocks of the task from b on that are unmasked, given the reaching and the live rows of each block
abbrev pub task_most : Cache → Task → (ℕ → List Row) → (ℕ → List Row) → ℕ → ℕ → List Row → ℕ
task_most k t rs ls zero b fs = 0
task_most k t rs ls (suc left) b fs =
    max (cond (unmasked t b) (block_most k (block t b).references (ls b) (rows_before k (length t) (predecessors_of t b) rs b) fs) 0) (task_most k t rs ls left (suc b) fs)

-- the points of a block: the rest rows of its references, its live rows and the end rows of each task, all in rows as wide as the block's
pub record PointRows (block : Block) (rests : List ℕ) (lives : Lives) (ends : Ends) : Type 0 where
  pub left : Rests (cache_of block) (references_of block) rests
  pub live_wide : lives.w ≡ block.w
  pub ends_wide : ends.w ≡ block.w
