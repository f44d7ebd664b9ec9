-- A block of a task, and the rows for each of its blocks, in the words of the model. Definitions only.
use Rattle.std.specs.Prelude.{List, ℕ}
use Rattle.cache.specs.Cache.{Cache, Row}
use Rattle.cache.specs.References.{numbers}
use Rattle.cache.specs.Shape.{shaped}
use Rattle.rows.specs.Rows.{rows_of}
use Rattle.gather.specs.Memory.{held_rows}
use Rattle.block_rows.specs.declared.block.Block.{Block}
use Rattle.block_rows.specs.declared.held.Held.{Held}
use Rattle.block_rows.specs.declared.row_list.RowList.{RowList}

-- the cache that gets the references of the block
abbrev pub cache_of : Block → Cache
cache_of block = shaped block.w block.shape

-- its references
abbrev pub references_of : Block → List ℕ
references_of block = numbers block.references.now

-- the rows of each block
abbrev pub rows_by : Held → ℕ → List Row
rows_by held b = held_rows held.w held.rows.now held.counts.now b

-- the rows of a list
abbrev pub listed : RowList → List Row
listed list = rows_of list.w list.count list.rows.now
