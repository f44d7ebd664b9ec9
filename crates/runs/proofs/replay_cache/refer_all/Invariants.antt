-- `replay_cache::refer_all` meets its contract, with a loop.
-- The invariant: what is left of the references, made from here, gives what all of them give from the start, and each one made added 1 at most.
use Rattle.std.specs.Prelude.{◌≡◌, ◌+◌, ◌≤◌, drop}
use Rattle.cache.specs.References.{numbers}
use Rattle.cache.specs.Shape.{shaped}
use Rattle.model.specs.Runs.{own_references}
use Rattle.runs.specs.Running.{held}
use Rattle.runs.proofs.replay_cache.refer_all.Given as goal

abbrev pub invariant-loop-i : goal.invariant-loop-i
invariant-loop-i l =
    (own_references (shaped 32 l.shape) (held l.cache) (drop l.i (numbers l.references)) ≡ own_references (shaped 32 l.shape) (held l.fn.cache) (numbers l.references))
    × (l.cache.misses ≤ l.fn.cache.misses + l.i)
