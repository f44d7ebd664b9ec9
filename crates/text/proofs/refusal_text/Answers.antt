-- `refusal_text` meets its contract: the line has two words, each with its number. Assumes nothing.
use mathlib.Core.Path.{◌≡◌, ap₂, subst}
use native.Mathlib.Omega.{arith}
use mathlib.Core.List.{List}
use Prim.Native.Nat.{ℕ}
use Rattle.text.specs.Text.{Placed, refusal_line, refused_word, task_word}
use Rattle.text.proofs.PutLaws.{placed_front}
use Rattle.text.proofs.TextLaws.{two_short}
use Rattle.text.proofs.refusal_text.Goals as goal

pub put_two-requires : goal.put_two-requires
put_two-requires c = let start = c in omega (arith, start.requires, two_short refused_word task_word c.byte_number.result c.byte_number-2.result)

pub returns : goal.returns
returns c =
    let start = c in
    let told : refusal_line c.byte_number.result c.byte_number-2.result ≡ refusal_line start.args.check start.args.task =
    ap₂ refusal_line c.byte_number.ensures.0 c.byte_number-2.ensures.0 in
    placed_front start.args.out.now (refusal_line start.args.check start.args.task) (omega (arith, two_short refused_word task_word start.args.check start.args.task))
    (subst (λ (text : List ℕ). Placed start.args.out.now 0 text c.put_two.new.out c.put_two.result) told c.put_two.ensures)
