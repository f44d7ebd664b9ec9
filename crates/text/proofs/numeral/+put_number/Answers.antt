-- `numeral::put_number` meets its contract: the digits before the last are the numeral of x / 10, which the call of itself puts. Assumes nothing.
use Rattle.std.proofs.Common.{arith, length, ap}
use Rattle.text.proofs.TextLaws.{decimal_digit, front_room, number-one, number_more}
use Rattle.text.proofs.numeral.+put_number.Goals as goal

pub bounds-out-at : goal.bounds-out-at
bounds-out-at t c = omega (arith, c.requires, ap length (decimal_digit c.args.x c.if-x-lt10.true))

pub returns-then-x-lt10 : goal.returns-then-x-lt10
returns-then-x-lt10 t c = number-one c.args.out.now c.args.at c.args.x c.if-x-lt10.true c.requires c.last_digit-digit.ensures

pub put_number-last-requires : goal.put_number-last-requires
put_number-last-requires t c =
    let room = front_room c.args.x c.args.at (length c.args.out.now) c.if-x-lt10.false (omega arith) c.requires in
    (omega (arith, c.decreases), omega (arith, room))

pub bounds-out-last : goal.bounds-out-last
bounds-out-last t c =
    let room = front_room c.args.x c.args.at (length c.args.out.now) c.if-x-lt10.false (omega arith) c.requires in
    omega (arith, room, c.put_number-last.ensures.0, c.put_number-last.auto.out)

pub returns : goal.returns
returns t c =
    number_more c.args.out.now c.args.at c.args.x c.if-x-lt10.false (omega arith) c.requires
    c.last_digit-digit.ensures c.put_number-last.ensures.0 c.put_number-last.ensures.1
