-- `put::put_bytes` meets its contract: the bytes are copied into the part from `at` on that is as long as they are. Assumes nothing.
use mathlib.Core.Path.{ap, ◌∙◌}
use Prim.Native.Nat.{◌+◌, ◌-◌}
use lib.ListN.{length}
use borrow.Rule.Slice.PartMut.{put_mid}
use Rattle.writer.proofs.PutLaws.{bytes_copied}
use Rattle.writer.proofs.put.put_bytes.Goals as goal

pub returns : goal.returns
returns c =
    ap (put_mid c.args.at (c.args.at + length c.args.piece.now - c.args.at) c.args.out.now) c.copy_from_slice.ensures.after
    ∙ bytes_copied c.args.out.now c.args.piece.now c.args.at c.requires
