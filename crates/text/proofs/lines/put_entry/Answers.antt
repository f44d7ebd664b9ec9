-- `lines::put_entry` meets its contract: nothing where the tasks are the same, else their line. Assumes nothing.
use mathlib.Core.Path.{sym, ap, subst}
use native.Mathlib.Omega.{arith}
use mathlib.Core.List.{List}
use Prim.Native.Nat.{ℕ}
use lib.ListN.{length}
use Rattle.text.specs.Text.{Placed}
use Rattle.text.proofs.PutLaws.{placed_none}
use Rattle.text.proofs.TextLaws.{entry_other, entry_same}
use Rattle.text.proofs.lines.put_entry.Goals as goal

pub returns-then-i-j : goal.returns-then-i-j
returns-then-i-j c =
    let args = c.args in
    placed_none args.out.now args.at (entry_same args.numbers.now args.i args.j c.if-i-j.true)

pub put_pair-requires : goal.put_pair-requires
put_pair-requires c =
    let start = c in
    omega (arith, start.requires.0, ap length (entry_other start.args.numbers.now start.args.i start.args.j c.if-i-j.false))

pub returns : goal.returns
returns c =
    let args = c.args in
    let line = entry_other args.numbers.now args.i args.j c.if-i-j.false in
    subst (λ (text : List ℕ). Placed args.out.now args.at text c.put_pair.new.out c.put_pair.result) (sym line) c.put_pair.ensures
