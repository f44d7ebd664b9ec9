-- `paths::closure` meets its contract: what is reached was led to, and each block that is done has added its set. Assumes nothing.
-- The measure falls since each turn has one block more done.
use Prim.Native.Nat.{◌<◌}
use native.Mathlib.Omega.{arith}
use lib.Bits.{bit_xor}
use lib.Count.{count_trailing_zeros}
use Rattle.body.proofs.Closures.{search_first, next-below, next_more, next_search, search_end}
use Rattle.body.proofs.paths.closure.Goals as goal
use Rattle.body.proofs.paths.closure.Goals.{In-loop-done}

pub loop-done-init : goal.loop-done-init
loop-done-init c = search_first c.args.sets c.args.first c.requires.0

-- the block that is taken
low : (c : In-loop-done) → count_trailing_zeros 32 (bit_xor c.loop-done.reached c.loop-done.done) < 24
low c =
    let at = c.loop-done in
    let start = c in
    next-below start.args.sets start.requires.1 start.args.first at.done at.reached at.invariant c.loop-done-test.true

pub overflow_cast-b : goal.overflow_cast-b
overflow_cast-b c = omega (arith, (let here : count_trailing_zeros 32 (bit_xor c.loop-done.reached c.loop-done.done) < 24 = let at = c.loop-done in let start = c in next-below start.args.sets start.requires.1 start.args.first at.done at.reached at.invariant c.loop-done-test.true in here))

pub overflow_cast-done : goal.overflow_cast-done
overflow_cast-done c = omega (arith, (let here : count_trailing_zeros 32 (bit_xor c.loop-done.reached c.loop-done.done) < 24 = let at = c.loop-done in let start = c in next-below start.args.sets start.requires.1 start.args.first at.done at.reached at.invariant c.loop-done-test.true in here))

pub overflow_shl-done : goal.overflow_shl-done
overflow_shl-done c = omega (arith, (let here : count_trailing_zeros 32 (bit_xor c.loop-done.reached c.loop-done.done) < 24 = let at = c.loop-done in let start = c in next-below start.args.sets start.requires.1 start.args.first at.done at.reached at.invariant c.loop-done-test.true in here))

pub offset_bounds-sets-b : goal.offset_bounds-sets-b
offset_bounds-sets-b c = omega (arith, (let here : count_trailing_zeros 32 (bit_xor c.loop-done.reached c.loop-done.done) < 24 = let at = c.loop-done in let start = c in next-below start.args.sets start.requires.1 start.args.first at.done at.reached at.invariant c.loop-done-test.true in here))

pub bounds-sets-b : goal.bounds-sets-b
bounds-sets-b c = (let here : count_trailing_zeros 32 (bit_xor c.loop-done.reached c.loop-done.done) < 24 = let at = c.loop-done in let start = c in next-below start.args.sets start.requires.1 start.args.first at.done at.reached at.invariant c.loop-done-test.true in here)

pub loop-done-smaller : goal.loop-done-smaller
loop-done-smaller c =
    let at = c.loop-done in
    let start = c in
    omega (arith, next_more start.args.sets start.requires.1 start.args.first at.done at.reached at.invariant c.loop-done-test.true, at.invariant.few)

pub loop-done-preserved : goal.loop-done-preserved
loop-done-preserved c =
    let at = c.loop-done in
    let start = c in
    next_search start.args.sets start.requires.1 start.args.first at.done at.reached at.invariant c.loop-done-test.true

pub returns : goal.returns
returns c = search_end _ _ _ _ c.loop-done.invariant c.loop-done-test.false
