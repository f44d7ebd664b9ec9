-- `gather_trails::note` meets its contract: the blocks below the turn are noted. Assumes nothing.
use Prim.Native.Nat.{◌-◌, ◌≤◌}
use Rattle.trails.proofs.NoteLaws.{Noting}
use Rattle.trails.proofs.gather_trails.note.Given as goal

abbrev pub invariant-loop-s : goal.invariant-loop-s
invariant-loop-s l = (l.s ≤ 24) × Noting l.from l.long l.s l.before l.counts l.initial.trails l.trails

abbrev pub decreases-loop-s : goal.decreases-loop-s
decreases-loop-s l = 24 - l.s
