-- What judging one block of a body answers. Definitions only.
use Rattle.std.specs.Prelude.{Option, Some, None, Bool, ◌&&◌, cond, ℕ, ◌+◌, leb, length, get_or, drop}
use Rattle.body.specs.Layout.{Body}
use Rattle.body.specs.Decode.{block_test}
use Rattle.body.specs.Parts.{references_end}

-- the block at `at` in a body of B blocks keeps the layout: its first three bytes are there, and it passes the test of a block
abbrev pub kept_at : ℕ → ℕ → Body → Bool
kept_at B at s = leb (at + 3) (length s) && block_test B (get_or s at 0) (get_or s (at + 1) 0) (get_or s (at + 2) 0) (drop (at + 3) s)

-- a block ends with its references
unfoldable pub block_end : ℕ → ℕ → Body → Option ℕ
block_end B at s = cond (kept_at B at s) (Some (references_end at s)) None
