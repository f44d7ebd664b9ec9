-- `contents::contents` meets its contract. The loop's invariant: before task j the ends up to the begin of its body are there, and what is left of the contents
-- fits just where the whole does. Assumes nothing.
use mathlib.Core.Path.{◌≡◌}
use Prim.Native.Nat.{◌+◌, ◌*◌, ◌-◌, ◌≤◌}
use lib.ListN.{get_or, take}
use Rattle.project.specs.File.{edition, bodies_start}
use Rattle.project.specs.Reading.{contents_fit}
use Rattle.project.specs.Ends.{ends_from, nine}
use Rattle.project.proofs.contents.contents.Given as goal

abbrev pub invariant-loop-j : goal.invariant-loop-j
invariant-loop-j l =
    (l.j ≤ l.t)
    × (l.at ≤ 1028 + 4 * l.t + 65535 * l.j)
    × (l.at ≡ get_or (ends_from l.file l.t 0 (bodies_start (edition l.file) l.t)) l.j 0)
    × (l.ends ≡ nine (take (l.j + 1) (ends_from l.file l.t 0 (bodies_start (edition l.file) l.t))))
    × (contents_fit l.file (l.t - l.j) l.j l.at ≡ contents_fit l.file l.t 0 (bodies_start (edition l.file) l.t))

abbrev pub decreases-loop-j : goal.decreases-loop-j
decreases-loop-j l = l.t - l.j
