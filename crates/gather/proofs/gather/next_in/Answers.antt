-- `gather::next_in` meets its contract: the lowest bit of what is left once the bits below `from` are shifted out. Assumes nothing.
use mathlib.Core.Path.{refl}
use Prim.Native.Nat.{◌/◌, ◌^◌}
use native.Mathlib.Omega.{arith}
use lib.Count.{trailing_le}
use Rattle.gather.proofs.NextBlock.{next_in}
use Rattle.gather.proofs.gather.next_in.Goals as goal

pub overflow_cast-result-2 : goal.overflow_cast-result-2
overflow_cast-result-2 c = omega (arith, trailing_le 32 (c.args.set / 2 ^ c.args.from))

pub overflow_add-result : goal.overflow_add-result
overflow_add-result c = omega (arith, trailing_le 32 (c.args.set / 2 ^ c.args.from))

pub returns : goal.returns
returns c = next_in c.args.set c.args.from (omega arith) refl
