-- `put::put_file` meets its contract: the pieces, each put where the last one ended, are the file. Assumes nothing.
use mathlib.Core.Path.{refl, ap}
use Prim.Native.Nat.{ℕ, ◌+◌, ◌*◌}
use lib.ListN.{length}
use Rattle.writer.proofs.PutLaws.{file-put}
use Rattle.writer.proofs.put.put_file.Goals as goal

pub returns : goal.returns
returns c =
    let args = c.args in
    file-put args.edition args.n args.bodies.now args.lengths.now args.out.now (length args.lengths.now) c.requires.0 refl c.requires.4 c.requires.6
    (ap (λ (k : ℕ). 4 + 4 * k) c.byte_count.ensures.0)
    c.put_bytes.ensures c.put_bytes-2.ensures c.put_reserve.ensures c.put_contents.ensures c.put_bytes-3.ensures
