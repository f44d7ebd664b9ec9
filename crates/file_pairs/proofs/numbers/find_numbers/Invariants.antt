-- `numbers::find_numbers` meets its contract. The loop's invariant: the rows of the tasks below i are written, and none of them has too many states. Assumes nothing.
use mathlib.Core.Path.{◌≡◌}
use lib.ListN.{length}
use Rattle.cache.specs.Shape.{shaped}
use Rattle.rows.specs.Rows.{area_length}
use Rattle.file_pairs.proofs.TableLaws.{SoFar}
use Rattle.file_pairs.proofs.numbers.find_numbers.Given as goal

abbrev pub invariant-loop-i : goal.invariant-loop-i
invariant-loop-i l = (length l.area ≡ area_length l.ends.w) × SoFar l.file (shaped l.ends.w l.shape) l.i l.numbers
