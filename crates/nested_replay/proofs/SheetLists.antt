-- The list of a run by the places of its numbers: it is empty, or a run and then the rest of the list; and no list ends before it begins.
use mathlib.Core.Path.{◌≡◌, refl}
use Prim.Native.Nat.{ℕ, zero, suc, ◌+◌, ◌-◌, ◌≤◌}
use native.Mathlib.Numerals.{sub-one}
use native.Mathlib.Omega.{arith}
use Rattle.model.specs.Nested.{no_run}
use Rattle.sheet.specs.Sheet.{Sheet}
use Rattle.nested_sheet.specs.NestedRuns.{count_at, list_start, ListAt, list_at, with_run, runs_of, list_of, own_list}

pub list-none : (deep : ℕ) (s : Sheet) (at : ℕ) {left : ℕ} → left ≡ 0 → list_of deep s left at ≡ list_at no_run at
unfolding list_of
list-none zero s at e = refl
list-none (suc deep) s at e = rw e refl

pub list_deep : {deep : ℕ} (s : Sheet) (left at : ℕ) → deep ≡ 0 → list_of deep s left at ≡ list_at no_run at
unfolding list_of
list_deep s left at e = rw e refl

pub list-next : (deep : ℕ) (s : Sheet) (left at : ℕ) → (left ≡ 0 → ⊥) → (deep ≡ 0 → ⊥)
    → list_of deep s left at
    ≡ with_run s at (own_list (deep - 1) s (at + 2)) (list_of deep s (left - 1) (own_list (deep - 1) s (at + 2)).next)
unfolding list_of
list-next zero s left at hl hd = absurd (hd refl)
list-next (suc deep) s zero at hl hd = absurd (hl refl)
list-next (suc deep) s (suc left) at hl hd = rw (sub-one (suc left), sub-one (suc deep)) refl

runs_grow : (list : ℕ → ℕ → ListAt) → ((c at : ℕ) → at ≤ (list c at).next) → (s : Sheet) (left at : ℕ) → at ≤ (runs_of list s left at).next
runs_grow list h s zero at = omega arith
runs_grow list h s (suc left) at =
    let own = list (count_at s (at + 2)) (list_start s (at + 2)) in
    let a = h (count_at s (at + 2)) (list_start s (at + 2)) in
    let b = runs_grow list h s left own.next in
    omega (arith, a, b)

pub list_grows : (deep : ℕ) (s : Sheet) (left at : ℕ) → at ≤ (list_of deep s left at).next
unfolding list_of
list_grows zero s left at = omega arith
list_grows (suc deep) s left at = runs_grow (list_of deep s) (list_grows deep s) s left at
