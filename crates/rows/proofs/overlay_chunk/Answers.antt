-- `rows::overlay_chunk` meets its contract: after c turns the row is overlaid by the first c places. Assumes nothing.
use mathlib.Core.Path.{sym, ap, ◌∙◌}
use mathlib.Core.List.{List}
use Prim.Native.Nat.{ℕ}
use native.Mathlib.Omega.{arith}
use borrow.Author.Rules.{rules}
use lib.ListN.{set, length-set}
use lib.Seq.{set-get_or}
use Rattle.rows.proofs.Overlay.{overlay-none, overlay_in, overlay_out, overlay-all}
use Rattle.rows.proofs.overlay_chunk.Goals as goal
use Rattle.rows.proofs.overlay_chunk.Goals.{else-m, then-m}

pub loop-c-init : goal.loop-c-init
loop-c-init c = (omega arith, search rules, sym (overlay-none c.args.row))

pub loop-c-preserved : goal.loop-c-preserved
loop-c-preserved c =
    let at = c.loop-c in
    let args = c.args in
    let stored : ℕ → List ℕ = λ x. set at.held at.c x in (
      omega arith,
      length-set at.held at.c c.if-m.held ∙ at.invariant.1,
      (elim c.if-m.branch [ then-m w ↦ overlay_out args.row args.over.now at.c (omega arith) at.invariant.2 w.if-m.true (ap stored w.held-is ∙ set-get_or at.held at.c 0) | else-m w ↦ overlay_in args.row args.over.now at.c (omega arith) at.invariant.2 w.if-m.false (ap stored w.held-is) ]),
    )

pub returns : goal.returns
returns c =
    let at = c.loop-c in
    let args = c.args in
    overlay-all args.row args.over.now at.c (omega arith) at.invariant.2
