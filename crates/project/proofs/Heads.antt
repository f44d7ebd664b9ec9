-- The mark's test as it is computed, and that of the zero bytes after byte 7.
-- The idea: a test that holds just where two lists are equal is the computed one.
use mathlib.Core.Path.{◌≡◌, refl, sym, ap, ◌∙◌}
use mathlib.Core.Bool.{Bool, true, false, ◌||◌}
use mathlib.Core.List.{List}
use Prim.Native.Nat.{ℕ, ◌≤◌, ◌<◌}
use lib.Dec.{eqb, ltb}
use lib.ListN.{length, take, drop, replicate}
use borrow.Author.Tests.{lt-ltb, le-ltb}
use Rattle.std.specs.List.{starts_with}
use Rattle.std.proofs.lemmas.Bool.Decides.{Decides-eqb}
use Rattle.std.proofs.lemmas.Slice.Eq.{slice_eq-Decides}
use Rattle.model.specs.Computed.{same_list}
use Rattle.model.proofs.Membership.{same_list_self, same_list_true}
use Rattle.project.specs.File.{reserve}

pub same_test : (r : Bool) (a b : List ℕ) → (r ≡ true → a ≡ b) → (a ≡ b → r ≡ true) → r ≡ same_list a b
same_test true a b f g = sym (ap (same_list a) (sym (f refl)) ∙ same_list_self a)
same_test false a b f g = go (same_list a b) (same_list_true a b)
  where
    go : (t : Bool) → (t ≡ true → a ≡ b) → false ≡ t
    go true h = g (h refl)
    go false h = refl

-- whether a list starts with another, as the computed test says it
pub starts_test : (s p : List ℕ) {r : Bool} → r ≡ starts_with eqb s p → r ≡ same_list (take (length p) s) p
starts_test s p {r} e =
    let d = slice_eq-Decides Decides-eqb p (take (length p) s) r e in
    same_test r (take (length p) s) p (λ t. sym (d.0 t)) (λ t. d.1 (sym t))

-- a number below its lower bound, and one that is not
pub below : (a b : ℕ) (t : Bool) → a < b → (ltb a b || t) ≡ true
below a b t h = rw (lt-ltb a b h)

pub not-below : (a b : ℕ) {t r : Bool} → b ≤ a → t ≡ r → (ltb a b || t) ≡ r
not-below a b h e = rw (le-ltb a b h) e

-- ---- the zero bytes after byte 7

module _ (s : List ℕ) (k : ℕ) where
  abbrev Reserved : Bool → Type 0
  Reserved r = r ≡ same_list (take (reserve k) (drop 8 s)) (replicate (reserve k) 0)

  -- four in edition 2
  pub four_reserved : k ≡ 2 → {r : Bool} → r ≡ same_list (take 4 (drop 8 s)) (replicate 4 0) → Reserved r
  four_reserved e q = rw e q
