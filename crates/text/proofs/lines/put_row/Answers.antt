-- `lines::put_row` meets its contract: the lines that are left, placed from here on, give what all of them give from the start. Assumes nothing.
use mathlib.Core.Path.{refl, ap, ◌∙◌}
use Prim.Native.Nat.{◌+◌, ◌-◌}
use native.Mathlib.Nat.{sub-zero}
use native.Mathlib.Omega.{arith}
use lib.ListN.{length, length-append}
use Rattle.text.specs.Text.{pair_text, row_text}
use Rattle.text.proofs.PutLaws.{placed_turn, placed_end}
use Rattle.text.proofs.TextLaws.{row_next, row-none}
use Rattle.text.proofs.lines.put_row.Goals as goal

pub loop-j-init : goal.loop-j-init
loop-j-init c = rw sub-zero (omega arith, refl, refl, refl)

pub put_entry-next-requires : goal.put_entry-next-requires
put_entry-next-requires c =
    let at = c.loop-j in
    let start = c in
    let args = start.args in
    let next = row_next args.numbers.now args.i args.t at.j (omega arith) in
    let long = length-append (pair_text args.numbers.now args.i at.j) (row_text args.numbers.now args.i (args.t - (at.j + 1)) (at.j + 1)) in
    (omega (arith, start.requires.0, at.invariant, ap length next, long), start.requires.1, omega arith, start.requires.3)

pub loop-j-preserved : goal.loop-j-preserved
loop-j-preserved c =
    let at = c.loop-j in
    let start = c in
    let args = start.args in
    let numbers = args.numbers.now in
    let rest = row_text numbers args.i (args.t - (at.j + 1)) (at.j + 1) in
    let turn =
    placed_turn at.out at.next (row_text numbers args.i (args.t - at.j) at.j) (pair_text numbers args.i at.j) rest
    (row_next numbers args.i args.t at.j (omega arith)) (omega (arith, start.requires.0, at.invariant)) c.put_entry-next.ensures at.invariant.2 at.invariant.3 in
    (omega arith, c.put_entry-next.auto.out ∙ at.invariant.1, turn.0, turn.1)

pub returns : goal.returns
returns c =
    let at = c.loop-j in
    let args = c.args in
    placed_end at.out at.next (row_text args.numbers.now args.i (args.t - at.j) at.j)
    (row-none args.numbers.now args.i args.t at.j (omega arith)) at.invariant.2 at.invariant.3
