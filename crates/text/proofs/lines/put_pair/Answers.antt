-- `lines::put_pair` meets its contract: the two tasks and the number, each with its word, and the line's end. Assumes nothing.
use native.Mathlib.Omega.{arith}
use mathlib.Core.List.{◌++◌}
use lib.ListN.{length-append}
use Rattle.text.specs.Text.{decimal, labelled, pair_line, by_word, colon, line_end}
use Rattle.text.proofs.PutLaws.{placed_more}
use Rattle.text.proofs.TextLaws.{pair-long}
use Rattle.text.proofs.lines.put_pair.Goals as goal

pub put_number-by-requires : goal.put_number-by-requires
put_number-by-requires c =
    let start = c in
    omega (arith, start.requires, pair-long start.args.i start.args.j start.args.x)

pub put_labelled-next-requires : goal.put_labelled-next-requires
put_labelled-next-requires c =
    let start = c in
    let first = c.put_number-by in
    omega (arith, start.requires, pair-long start.args.i start.args.j start.args.x, first.ensures.0, first.auto.out)

pub put_labelled-end-requires : goal.put_labelled-end-requires
put_labelled-end-requires c =
    let start = c in
    let first = c.put_number-by in
    let second = c.put_labelled-next in
    omega (arith, start.requires, pair-long start.args.i start.args.j start.args.x, first.ensures.0, first.auto.out, second.ensures.0, second.auto.out)

pub put_bytes-requires : goal.put_bytes-requires
put_bytes-requires c =
    let start = c in
    let first = c.put_number-by in
    let second = c.put_labelled-next in
    let third = c.put_labelled-end in
    omega
    (arith, start.requires, pair-long start.args.i start.args.j start.args.x, first.ensures.0, first.auto.out, second.ensures.0, second.auto.out, third.ensures.0, third.auto.out)

pub returns : goal.returns
unfolding pair_line
returns c =
    let start = c in
    let args = start.args in
    let out = args.out.now in
    let a = decimal args.i in
    let b = labelled by_word args.j in
    let d = labelled colon args.x in
    let long = pair-long start.args.i start.args.j start.args.x in
    placed_more out args.at (a ++ b ++ d) line_end (omega (arith, start.requires, long, length-append a b, length-append (a ++ b) d))
    (placed_more out args.at (a ++ b) d (omega (arith, start.requires, long, length-append a b))
    (placed_more out args.at a b (omega (arith, start.requires, long)) c.put_number-by.ensures c.put_labelled-next.ensures)
    c.put_labelled-end.ensures)
    c.put_bytes.ensures
