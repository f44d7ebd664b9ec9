-- `left::rests` meets its contract: the room for one row is w nothings. Assumes nothing.
use Rattle.cache.specs.References.{numbers}
use Rattle.graphs.proofs.Gathered.{nothings}
use Rattle.points.proofs.Rests.{room-holds, room-width, room_empty, room-many, room_rests}
use Rattle.points.proofs.left.rests.Goals as goal

pub rests_in-requires : goal.rests_in-requires
rests_in-requires c =
    let start = c in
    let w = start.args.w in
    let room = nothings w 32 start.requires.2.narrow in (
      start.requires.0,
      room-holds w start.args.shape room start.requires.1,
      room-width w start.args.shape room start.requires.2,
      room_empty w start.args.shape room,
      room-many w start.args.shape room start.args.rests.now start.requires.3,
    )

pub returns : goal.returns
returns c =
    let start = c in
    let w = start.args.w in
    room_rests w start.args.shape (nothings w 32 start.requires.2.narrow) (numbers start.args.references.now) c.rests_in.new.rests c.rests_in.ensures.1
