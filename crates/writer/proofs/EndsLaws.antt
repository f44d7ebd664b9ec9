-- The ends that the writer works out cut the joined bodies at their lengths.
-- The idea: each end is the sum of the lengths up to it.
use mathlib.Core.Path.{◌≡◌, refl, sym, ap, ap₂, ◌∙◌}
use mathlib.Core.Bool.{Bool, true, false}
use mathlib.Core.List.{List, [], ◌∷◌}
use Prim.Native.Nat.{ℕ, zero, suc, ◌+◌, ◌-◌, ◌≤◌, ◌<◌}
use native.Mathlib.Nat.{not-suc-le-zero}
use native.Mathlib.Numerals.{add-one}
use native.Mathlib.Omega.{arith}
use lib.Dec.{eqb}
use lib.ListN.{length, get_or, take, drop, replicate, drop_of_length-le}
use lib.Seq.{drop-cons, drop-drop}
use borrow.Author.Tests.{eqb-true}
use Rattle.std.specs.Prelude.{Some}
use Rattle.project.specs.Ends.{nine, between, InOrder}
use Rattle.project.specs.Writing.{total, cut}
use Rattle.project.proofs.ContentsLaws.{nine-at, none_not_some}
use Rattle.writer.specs.Pieces.{sums, cut_ends}

-- ---- the list of sums

pub length-sums : (at : ℕ) (ls : List ℕ) → length (sums at ls) ≡ suc (length ls)
length-sums at [] = refl
length-sums at (l ∷ ls) = ap suc (length-sums (at + l) ls)

pub sums_first : (at : ℕ) (ls : List ℕ) → get_or (sums at ls) 0 0 ≡ at
sums_first at [] = refl
sums_first at (l ∷ ls) = refl

sums_next : (at : ℕ) (ls : List ℕ) (j : ℕ) → j < length ls → get_or (sums at ls) (suc j) 0 ≡ get_or (sums at ls) j 0 + get_or ls j 0
sums_next at [] j h = absurd (not-suc-le-zero h)
sums_next at (l ∷ ls) zero h = sums_first (at + l) ls
sums_next at (l ∷ ls) (suc j) h = sums_next (at + l) ls j (omega arith)

sums-within : (at : ℕ) (ls : List ℕ) (j : ℕ) → j ≤ length ls → get_or (sums at ls) j 0 ≤ at + total ls
sums-within at [] zero h = omega arith
sums-within at [] (suc j) h = absurd (not-suc-le-zero h)
sums-within at (l ∷ ls) zero h = omega arith
sums-within at (l ∷ ls) (suc j) h = omega (arith, sums-within (at + l) ls j (omega arith))

-- ---- a turn of the loop over lengths, and the answers

pub sums_turn : (ls : List ℕ) (j : ℕ) {sum next : ℕ} → j < length ls → sum ≡ get_or (sums 0 ls) j 0 → next ≡ sum + get_or ls j 0 → next ≡ get_or (sums 0 ls) (j + 1) 0
sums_turn ls j h e q = q ∙ rw (e, add-one j) (sym (sums_next 0 ls j h))

pub sums_start : (ls : List ℕ) → replicate 9 0 ≡ nine (take (0 + 1) (sums 0 ls))
sums_start [] = refl
sums_start (l ∷ ls) = refl

pub answer_fit : (s ls : List ℕ) {ends : List ℕ} → eqb (total ls) (length s) ≡ true → ends ≡ nine (sums 0 ls) → Some ends ≡ cut_ends s ls
answer_fit s ls e q = rw (e, q)

-- ends that were found, and that none were
pub found-fit : (s ls : List ℕ) {ends : List ℕ} → cut_ends s ls ≡ Some ends → (eqb (total ls) (length s) ≡ true) × (ends ≡ nine (sums 0 ls))
found-fit s ls {ends} e = go (eqb (total ls) (length s)) refl
  where
    go : (b : Bool) → eqb (total ls) (length s) ≡ b → (eqb (total ls) (length s) ≡ true) × (ends ≡ nine (sums 0 ls))
    go true q = let told : Some (nine (sums 0 ls)) ≡ Some ends = rw q at e in (q, cc)
    go false q = absurd (none_not_some (rw q at e))

-- ---- what lies between the ends

module _ (s ls : List ℕ) (few : length ls ≤ 8) (fit : eqb (total ls) (length s) ≡ true) where
  abbrev ends : List ℕ
  ends = nine (sums 0 ls)

  end-at : (j : ℕ) → j ≤ length ls → get_or (ends) j 0 ≡ get_or (sums 0 ls) j 0
  end-at j h = nine-at (sums 0 ls) j (rw (length-sums 0 ls) (omega arith))

  end-next : (j : ℕ) → j < length ls → get_or (ends) (suc j) 0 ≡ get_or (ends) j 0 + get_or ls j 0
  end-next j h = end-at (suc j) h ∙ sums_next 0 ls j h ∙ ap (λ x. x + get_or ls j 0) (sym (end-at j (omega arith)))

  pub cut-order : InOrder s (ends) (length ls)
  cut-order = record {
    few = few;
    rise = λ j h. omega (arith, end-next j h);
    within = λ j h. omega (arith, end-at (suc j) h, sums-within 0 ls (suc j) h, eqb-true (total ls) (length s) fit);
  }

  between-from : (left j : ℕ) → left + j ≡ length ls → between s (ends) left j ≡ cut (drop (get_or (ends) j 0) s) (drop j ls)
  between-from zero j e = rw (drop_of_length-le ls {i = j} (omega arith))
  between-from (suc left) j e =
      let size : get_or (ends) (suc j) 0 - get_or (ends) j 0 ≡ get_or ls j 0 = omega (arith, end-next j (omega arith)) in
      let next : drop (get_or (ends) (suc j) 0) s ≡ drop (get_or ls j 0) (drop (get_or (ends) j 0) s)
      = ap (λ k. drop k s) (end-next j (omega arith)) ∙ sym (drop-drop (get_or ls j 0) (get_or (ends) j 0) s) in
      rw (drop-cons ls j 0 (omega arith))
      (ap₂ (λ (b : List ℕ) (bs : List (List ℕ)). b ∷ bs) (ap (λ k. take k (drop (get_or (ends) j 0) s)) size)
      (between-from left (suc j) (omega arith) ∙ ap (λ x. cut x (drop (suc j) ls)) next))

  pub between-cut : between s (ends) (length ls) 0 ≡ cut s ls
  between-cut = between-from (length ls) 0 (omega arith) ∙ ap (λ k. cut (drop k s) ls) (end-at 0 (omega arith) ∙ sums_first 0 ls)
