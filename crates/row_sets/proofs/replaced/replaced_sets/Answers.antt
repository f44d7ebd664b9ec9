-- `replaced::replaced_sets` meets its contract: after k turns the sets of the first k end rows are stored, and their union is found. Assumes nothing.
use mathlib.Core.Path.{◌≡◌, refl, sym, ap, ◌∙◌}
use mathlib.Core.Bool.{false}
use Prim.Native.Nat.{ℕ, ◌+◌, ◌*◌, ◌-◌, ◌≤◌}
use native.Mathlib.Omega.{arith}
use lib.ListN.{length, take, drop, length-set}
use Rattle.cache.specs.Sets.{replaces, bits}
use Rattle.cache.proofs.Masks.{bits_none}
use Rattle.rows.proofs.Parts.{row_within, lent_long}
use Rattle.row_sets.specs.Sets.{replaced_set}
use Rattle.row_sets.proofs.ReplacedSets.{stored_more, union_more, after-new}
use Rattle.row_sets.proofs.replaced.replaced_sets.Goals as goal
use Rattle.row_sets.proofs.replaced.replaced_sets.Goals.{In-loop-k}

-- where the end row numbered k ends
inside : (c : In-loop-k) → let w = length c.args.row.now in (w * c.loop-k.k + w ≤ 32 * w) × (w ≤ 32)
inside c =
    let start = c in
    (omega (arith, row_within (length start.args.row.now) c.loop-k.k 32 (omega arith)), start.requires.1.narrow)

pub loop-k-init : goal.loop-k-init
loop-k-init c =
    let start = c in
    (omega arith, start.requires.3, refl, refl, sym (bits_none (length start.args.row.now) (λ c. false) (λ c h. refl)))

pub overflow_mul-at : goal.overflow_mul-at
overflow_mul-at c = omega (arith, inside c)

pub overflow_add-at : goal.overflow_add-at
overflow_add-at c = omega (arith, inside c)

pub offset_bounds-ends-at : goal.offset_bounds-ends-at
offset_bounds-ends-at c = omega (arith, inside c)

pub replaced-set-requires : goal.replaced-set-requires
replaced-set-requires c =
    let start = c in
    let w = length start.args.row.now in
    let long = lent_long w c.loop-k.k 32 start.args.ends.now (omega arith) start.requires.2 in
    (omega (arith, long, start.requires.1.chunks), omega (arith, long, start.requires.1.narrow), omega (arith, long))

pub loop-k-preserved : goal.loop-k-preserved
loop-k-preserved c =
    let at = c.loop-k in
    let start = c in
    let row = start.args.row.now in
    let ends = start.args.ends.now in
    let w = length row in
    let long = lent_long w at.k 32 ends (omega arith) start.requires.2 in
    let f = take (w * at.k + w - w * at.k) (drop (w * at.k) ends) in
    let is : c.replaced-set.result ≡ bits w (replaces f row) = c.replaced-set.ensures ∙ ap (λ (n : ℕ). bits n (replaces f row)) long in (
      omega arith,
      simp length-set (omega arith),
      stored_more (λ f. replaced_set f row) w at.k ends at.sets (omega arith) at.invariant.2 is,
      after-new start.args.sets.now at.sets at.k c.replaced-set.result at.invariant.3,
      union_more (λ f. replaces f row) w at.k ends at.invariant.4 is refl,
    )

pub returns : goal.returns
returns c =
    let at = c.loop-k in
    let args = c.args in
    let end : at.k ≡ args.count = omega arith in
    (at.invariant.1, rw (← end) at.invariant.2, rw (← end) at.invariant.3, rw (← end) at.invariant.4)
