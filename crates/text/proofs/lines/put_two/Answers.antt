-- `lines::put_two` meets its contract: the two words with their numbers, and the line's end. Assumes nothing.
use native.Mathlib.Omega.{arith}
use mathlib.Core.List.{◌++◌}
use lib.ListN.{length-append}
use Rattle.text.specs.Text.{labelled, two_labelled, line_end}
use Rattle.text.proofs.PutLaws.{placed_more}
use Rattle.text.proofs.TextLaws.{two_long}
use Rattle.text.proofs.lines.put_two.Goals as goal

pub put_labelled-next-requires : goal.put_labelled-next-requires
put_labelled-next-requires c =
    let start = c in
    omega (arith, start.requires, two_long start.args.first.now start.args.second.now start.args.x start.args.y)

pub put_labelled-end-requires : goal.put_labelled-end-requires
put_labelled-end-requires c =
    let start = c in
    let first = c.put_labelled-next in
    omega (arith, start.requires, two_long start.args.first.now start.args.second.now start.args.x start.args.y, first.ensures.0, first.auto.out)

pub put_bytes-requires : goal.put_bytes-requires
put_bytes-requires c =
    let start = c in
    let first = c.put_labelled-next in
    let second = c.put_labelled-end in
    omega (
      arith,
      start.requires,
      two_long start.args.first.now start.args.second.now start.args.x start.args.y,
      first.ensures.0,
      first.auto.out,
      second.ensures.0,
      second.auto.out,
    )

pub returns : goal.returns
unfolding two_labelled
returns c =
    let start = c in
    let a = labelled start.args.first.now start.args.x in
    let b = labelled start.args.second.now start.args.y in
    let out = start.args.out.now in
    let long = two_long start.args.first.now start.args.second.now start.args.x start.args.y in
    placed_more out 0 (a ++ b) line_end (omega (arith, start.requires, long, length-append a b))
    (placed_more out 0 a b (omega (arith, start.requires, long)) c.put_labelled-next.ensures c.put_labelled-end.ensures)
    c.put_bytes.ensures
