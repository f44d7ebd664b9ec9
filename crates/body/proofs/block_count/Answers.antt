-- `block_count` meets its contract: the first byte of a body that keeps its layout is the number of its blocks. Assumes nothing.
use mathlib.Core.Path.{◌≡◌, ap, sym, ◌∙◌}
use mathlib.Core.Bool.{true}
use mathlib.Core.List.{List}
use Prim.Native.Nat.{ℕ, ◌≤◌}
use native.Mathlib.Omega.{arith}
use lib.ListN.{length, get_or}
use Rattle.model.specs.Tasks.{Task}
use Rattle.body.specs.Decode.{decode, task_of}
use Rattle.body.specs.Walk.{kept_of}
use Rattle.body.proofs.Decoded.{decoded-bounds, first_byte}
use Rattle.body.proofs.WalksParts.{kept-decoded}
use Rattle.body.proofs.block_count.Goals as goal

record Counted (s : List ℕ) : Type 0 where
  there : 1 ≤ length s
  count : get_or s 0 0 ≡ length (task_of (decode s))
  some : 1 ≤ length (task_of (decode s))
  few : length (task_of (decode s)) ≤ 24

counted : (s : List ℕ) → kept_of (decode s) ≡ true → Counted s
counted s k =
    let (t, e) = kept-decoded (decode s) k in
    let same : length (task_of (decode s)) ≡ length t = ap (λ (u : Task). length u) (ap task_of e) in
    let b = decoded-bounds s t e in
    let f = first_byte s t e in
    record { there = f.there; count = f.count ∙ sym same; some = omega (arith, same, b.some); few = omega (arith, same, b.few) }

pub bounds-body-0 : goal.bounds-body-0
bounds-body-0 c = (counted c.args.body.now c.requires).there

pub returns : goal.returns
returns c =
    let start = c in
    let n = counted start.args.body.now start.requires in
    let e = c.from.ensures ∙ n.count in
    (e, omega (arith, e, n.some), omega (arith, e, n.few))
