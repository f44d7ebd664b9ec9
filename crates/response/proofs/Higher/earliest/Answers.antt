-- `Higher::earliest` meets its contract. Assumes nothing.
use mathlib.Core.Path.{◌≡◌, refl}
use Prim.Native.Nat.{◌≤◌, ◌<◌, ◌-◌, ◌*◌}
use native.Mathlib.Omega.{arith}
use borrow.Author.Tests.{le-leb, lt-leb}
use Rattle.response.specs.Response.{ceil}
use Rattle.response.specs.Iteration.{load}
use Rattle.response.proofs.ResponseLaws.{below_full, below_shares}
use Rattle.response.proofs.Higher.earliest.Goals as goal

pub shares-taken-requires : goal.shares-taken-requires
shares-taken-requires c = c.requires.0

pub returns-then-taken-ge-WHOLE : goal.returns-then-taken-ge-WHOLE
returns-then-taken-ge-WHOLE c =
    let start = c in
    let args = start.args in
    let full : 1073741824 ≤ load args.self.now.periods args.self.now.costs args.self.now.count = omega (arith, c.shares-taken.ensures) in (
      rw (le-leb 1073741824 (load args.self.now.periods args.self.now.costs args.self.now.count) full) refl,
      below_full args.c args.self.now.periods args.self.now.costs args.self.now.count start.requires.0.some start.requires.1 full 1000001 (omega arith),
    )

pub releases-requires : goal.releases-requires
releases-requires c = (omega arith, omega (arith, c.requires.2), omega arith)

pub returns : goal.returns
returns c =
    let start = c in
    let args = start.args in
    let rest : load args.self.now.periods args.self.now.costs args.self.now.count < 1073741824 = omega (arith, c.shares-taken.ensures) in
    let first : c.releases.result ≡ ceil (args.c * 1073741824) (1073741824 - load args.self.now.periods args.self.now.costs args.self.now.count)
    = rw (← c.shares-taken.ensures) c.releases.ensures.0 in (
      rw (lt-leb 1073741824 (load args.self.now.periods args.self.now.costs args.self.now.count) rest) first,
      below_shares args.c args.self.now.periods args.self.now.costs args.self.now.count start.requires.0.some start.requires.1 rest c.releases.result first,
    )
