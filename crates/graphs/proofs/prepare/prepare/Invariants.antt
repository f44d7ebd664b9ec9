-- `prepare::prepare` meets its contract: the rows of the blocks so far, and nothings. Assumes nothing.
-- The idea: each turn puts the two rows of one block, cut off after w places, after those of the blocks before it.
use mathlib.Core.Path.{◌≡◌}
use mathlib.Core.List.{List}
use Prim.Native.Nat.{ℕ, ◌*◌, ◌≤◌}
use lib.ListN.{length}
use Rattle.cache.specs.Cache.{Cache, empty_row, with_references, first_references}
use Rattle.cache.specs.Shape.{shaped}
use Rattle.model.specs.Tasks.{Block}
use Rattle.body.specs.Decode.{decode, task_of}
use Rattle.graphs.proofs.Prepared.{rows_to}
use Rattle.graphs.proofs.prepare.prepare.Given as goal

-- the two rows of a block
abbrev pub firsts : Cache → Block → List ℕ
firsts k x = first_references k x.references

abbrev pub lasts : Cache → Block → List ℕ
lasts k x = with_references k (empty_row k) x.references

abbrev pub invariant-loop-b : goal.invariant-loop-b
invariant-loop-b l =
    (l.b ≤ l.b-end) × (length l.first ≡ 24 * l.w) × (length l.last ≡ 24 * l.w) × (l.first ≡ rows_to l.w (firsts (shaped l.w l.shape)) (task_of (decode l.walk.body.now)) l.b)
    × (l.last ≡ rows_to l.w (lasts (shaped l.w l.shape)) (task_of (decode l.walk.body.now)) l.b)
