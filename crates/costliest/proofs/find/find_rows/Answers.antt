-- `find::find_rows` meets its contract: the search goes over the two parts of the area, and the end rows. Assumes nothing.
use mathlib.Core.Path.{sym, subst}
use mathlib.Core.List.{List}
use Prim.Native.Nat.{ℕ}
use Rattle.cache.specs.Shape.{shaped}
use Rattle.body.specs.Decode.{decode, task_of}
use Rattle.rows.specs.Rows.{kind_length}
use Rattle.rows.proofs.Parts.{lent_first, lent_second}
use Rattle.gather.specs.Memory.{Memory}
use Rattle.block_rows.specs.BlockRows.{listed}
use Rattle.costliest.proofs.FindLaws.{searched_parts}
use Rattle.costliest.proofs.find.find_rows.Goals as goal

pub invariant_of-reaching : goal.invariant_of-reaching
invariant_of-reaching c =
    let w = c.args.ends.now.w in
    record { are = subst (λ (l : List ℕ). Memory w l c.args.own.now.reached) (sym (lent_first (kind_length w) c.args.area.now)) c.requires.3 }

pub invariant_of-live : goal.invariant_of-live
invariant_of-live c =
    let w = c.args.ends.now.w in
    record { are = subst (λ (l : List ℕ). Memory w l c.args.own.now.lived) (sym (lent_second (kind_length w) c.args.area.now)) c.requires.4 }

pub returns : goal.returns
returns c =
    let ends = c.args.ends.now in
    let own = c.args.own.now in
    let kind = kind_length ends.w in
    searched_parts (shaped ends.w c.args.shape) (task_of (decode c.args.body.now)) ends.w own.reached own.lived (listed ends) c.search.result
    (lent_first kind c.args.area.now) (lent_second kind c.args.area.now) c.search.ensures
