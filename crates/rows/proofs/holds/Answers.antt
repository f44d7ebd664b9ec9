-- `rows::holds` meets its contract: the row is among the rows that are left just where it is among all. Assumes nothing.
use mathlib.Core.Path.{refl, sym, ◌∙◌}
use Prim.Native.Nat.{◌*◌}
use native.Mathlib.Omega.{arith}
use lib.ListN.{drop}
use Rattle.rows.proofs.Chunks.{same_chunks}
use Rattle.rows.proofs.Parts.{search_start, search_at, search_end}
use Rattle.rows.proofs.holds.Goals as goal

pub loop-k-init : goal.loop-k-init
loop-k-init g c = (omega arith, search_start g.row.N c.args.count c.args.part.now c.args.row)

pub returns-then-eq : goal.returns-then-eq
returns-then-eq g c =
    let at = c.loop-k in
    let args = c.args in
    let found = same_chunks args.row _ (sym c.if-eq.true ∙ c.eq.ensures) refl c.chunk_at.ensures in
    sym (search_at g.row.N args.count at.k args.part.now args.row (omega arith) found) ∙ at.invariant.1

pub loop-k-preserved : goal.loop-k-preserved
loop-k-preserved g c =
    let at = c.loop-k in
    let args = c.args in
    let other = same_chunks args.row _ (sym c.if-eq.false ∙ c.eq.ensures) refl c.chunk_at.ensures in
    (omega arith, sym (search_at g.row.N args.count at.k args.part.now args.row (omega arith) other) ∙ at.invariant.1)

pub returns : goal.returns
returns g c =
    let at = c.loop-k in
    sym (search_end g.row.N c.args.count at.k (drop (g.row.N * at.k) c.args.part.now) c.args.row (omega arith)) ∙ at.invariant.1
