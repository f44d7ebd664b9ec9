-- `rounds::none_new` meets its contract: the rows that are left are old ones just where all are. Assumes nothing.
use mathlib.Core.Path.{◌≡◌}
use Prim.Native.Nat.{◌-◌, ◌*◌, ◌≤◌}
use lib.ListN.{drop}
use Rattle.model.specs.Computed.{same_list, sub}
use Rattle.rows.specs.Rows.{rows_of}
use Rattle.uncovered.proofs.rounds.none_new.Given as goal

abbrev pub invariant-loop-k : goal.invariant-loop-k
invariant-loop-k l = (l.k ≤ l.count) × (sub same_list (rows_of l.w (l.count - l.k) (drop (l.w * l.k) l.part)) (rows_of l.w l.many l.old) ≡ sub same_list (rows_of l.w l.count l.part) (rows_of l.w l.many l.old))
