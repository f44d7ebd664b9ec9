-- `write_in` meets its contract: the file is put where all checks pass. Assumes nothing.
use mathlib.Core.Path.{sym, ◌∙◌}
use native.Mathlib.Omega.{arith}
use Rattle.writer.proofs.CheckLaws.{all-passed}
use Rattle.writer.proofs.write_in.Goals as goal

pub put_file-requires : goal.put_file-requires
put_file-requires c =
    let args = c.args in
    let p = all-passed args.edition args.n args.bodies.now args.lengths.now args.out.now (sym c.first_failed.ensures ∙ c.in_ok-first_failed.was) in
    (c.requires.0, c.requires.1, p.some, p.few, p.sum, omega arith, p.room)
