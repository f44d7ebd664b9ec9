-- `lines::put_labelled` meets its contract: the word, and then the numeral. Assumes nothing.
use native.Mathlib.Omega.{arith}
use Rattle.text.specs.Text.{labelled, decimal}
use Rattle.text.proofs.PutLaws.{placed_more}
use Rattle.text.proofs.TextLaws.{labelled-long}
use Rattle.text.proofs.lines.put_labelled.Goals as goal

pub put_bytes-next-requires : goal.put_bytes-next-requires
put_bytes-next-requires c =
    let start = c in
    omega (arith, start.requires, labelled-long start.args.word.now start.args.x)

pub put_number-requires : goal.put_number-requires
put_number-requires c =
    let start = c in
    let word = c.put_bytes-next in
    omega (arith, start.requires, labelled-long start.args.word.now start.args.x, word.ensures.0, word.auto.out)

pub returns : goal.returns
unfolding labelled
returns c =
    let start = c in
    let room = labelled-long start.args.word.now start.args.x in
    placed_more start.args.out.now start.args.at start.args.word.now (decimal start.args.x) (omega (arith, start.requires, room))
    c.put_bytes-next.ensures c.put_number.ensures
