-- Where the parts of a block stand in a body. Definitions only.
use Rattle.std.specs.Prelude.{List, ℕ, ◌+◌, ◌*◌, get_or, take, drop}
use Rattle.body.specs.Layout.{Body}

-- where the successors and the references of the block at `at` end
abbrev pub successors_end : ℕ → Body → ℕ
successors_end at s = at + 3 + get_or s (at + 1) 0

abbrev pub references_end : ℕ → Body → ℕ
references_end at s = successors_end at s + 2 * get_or s (at + 2) 0

-- the bytes of its successors and of its references
abbrev pub successors_at : ℕ → Body → List ℕ
successors_at at s = take (get_or s (at + 1) 0) (drop (at + 3) s)

abbrev pub references_at : ℕ → Body → List ℕ
references_at at s = take (2 * get_or s (at + 2) 0) (drop (successors_end at s) s)
