-- `before::refer_first` meets its contract: after i turns the first i references are done. Assumes nothing.
use mathlib.Core.Path.{◌≡◌}
use lib.ListN.{length, take}
use Rattle.cache.specs.References.{numbers}
use Rattle.cache.specs.Cache.{with_references}
use Rattle.cache.specs.Shape.{shaped}
use Rattle.search.proofs.before.refer_first.Given as goal

abbrev pub invariant-loop-i : goal.invariant-loop-i
invariant-loop-i l =
    (length l.row ≡ length l.initial.row) × (l.row ≡ with_references (shaped (length l.initial.row) l.shape) l.initial.row (take l.i (numbers l.references)))
