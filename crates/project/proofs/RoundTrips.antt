-- Files written and read: a file of an edition, n and bodies has these bodies in its contents, and the file of an accepted file's bodies is that file.
-- The idea: both go along the contents, four bytes a task, and along the bodies, which stand one after the other.
use mathlib.Core.Path.{◌≡◌, refl, sym, ap, ◌∙◌}
use mathlib.Core.Bool.{true}
use mathlib.Core.List.{List, [], ◌∷◌, ◌++◌}
use Prim.Native.Nat.{ℕ, zero, suc, ◌+◌, ◌*◌, ◌/◌, ◌%◌, ◌≤◌, ◌<◌}
use native.Mathlib.Nat.{div-add-mod, add-mul-div_left, add-mul-mod_self_left, add-zero}
use native.Mathlib.Omega.{arith}
use lib.Dec.{eqb}
use lib.ListN.{length, get_or, take, drop, length-append, length-drop, length-replicate, take-append-drop}
use lib.Seq.{drop-cons, drop-drop, take-append_seam, drop-append_seam, drop-length, drop_at, get_or-drop, length-take-le}
use borrow.Author.Tests.{eqb-true, eq-eqb}
use Rattle.cache.specs.References.{number_at}
use Rattle.model.proofs.Membership.{both_left, both_right}
use Rattle.body.specs.Layout.{two_bytes}
use Rattle.project.specs.File.{edition, reserve, contents_start, bodies_start, offset_of, size_of, body_of, bodies_from, bodies, joined, contents_of, head_of, file_in}
use Rattle.project.specs.Reading.{contents_fit}
use Rattle.project.proofs.TaskFaults.{Bytes}

-- ---- two-byte numbers

number_split : (m : ℕ) → m % 256 + 256 * (m / 256) ≡ m
number_split m = omega (arith, div-add-mod m 256)

low_byte : (a b : ℕ) → a < 256 → (a + 256 * b) % 256 ≡ a
low_byte a b h = add-mul-mod_self_left a 256 b ∙ native.Mathlib.Nat.mod-eq_of_lt h

high_byte : (a b : ℕ) → a < 256 → (a + 256 * b) / 256 ≡ b
high_byte a b h = add-mul-div_left a b {y = 256} (omega arith) ∙ omega (arith, native.Mathlib.Nat.div-eq_of_lt h)

-- ---- what stands in a list from a place on

pair-at : (s : List ℕ) (i a b : ℕ) (rest : List ℕ) → drop i s ≡ a ∷ b ∷ rest → number_at s i ≡ a + 256 * b
pair-at s i a b rest e =
    let x : get_or s i 0 ≡ a = ap (λ k. get_or s k 0) (sym (add-zero i)) ∙ sym (get_or-drop i s 0 0) ∙ ap (λ l. get_or l 0 0) e in
    let y : get_or s (i + 1) 0 ≡ b = sym (get_or-drop i s 1 0) ∙ ap (λ l. get_or l 1 0) e in
    rw (x, y)

further : (s : List ℕ) (i k : ℕ) (l : List ℕ) → drop i s ≡ l → drop (i + k) s ≡ drop k l
further s i k l e = sym (drop-drop k i s) ∙ ap (drop k) e

get_d_all : (s : List ℕ) → Bytes s → (k : ℕ) → get_or s k 0 < 256
get_d_all [] h k = omega arith
get_d_all (x ∷ s) h zero = h.0
get_d_all (x ∷ s) h (suc k) = get_d_all s h.1 k

four_bytes : (s : List ℕ) (i m k next last : ℕ) → k ≡ 4 + m → next ≡ i + 4 → last ≡ i + 3 → i + 4 ≤ length s
    → take k (drop i s) ≡ get_or s i 0 ∷ get_or s (i + 1) 0 ∷ get_or s (i + 2) 0 ∷ get_or s last 0 ∷ take m (drop next s)
four_bytes s i m k next last ek en el h =
    let k4 : k ≡ suc (suc (suc (suc m))) = omega arith in
    let n4 : next ≡ suc (suc (suc (suc i))) = omega arith in
    let l3 : last ≡ suc (suc (suc i)) = omega arith in
    let i1 : i + 1 ≡ suc i = omega arith in
    let i2 : i + 2 ≡ suc (suc i) = omega arith in
    rw (k4, n4, l3, i1, i2, drop-cons s i 0 (omega arith), drop-cons s (suc i) 0 (omega arith), drop-cons s (suc (suc i)) 0 (omega arith), drop-cons s (suc (suc (suc i))) 0 (omega arith))

-- four bytes of the contents are those of the numbers that they hold
contents_bytes : (a b c d at size : ℕ) (rest more : List ℕ) → a < 256 → c < 256 → at ≡ a + 256 * b → size ≡ c + 256 * d → rest ≡ more
    → a ∷ b ∷ c ∷ d ∷ rest ≡ two_bytes (at ∷ size ∷ []) ++ more
contents_bytes a b c d at size rest more ha hc ea ec er = rw (ea, ec, low_byte a b ha, high_byte a b ha, low_byte c d hc, high_byte c d hc, er)

-- where the contents of a file begin
abbrev start : List ℕ → ℕ
start s = contents_start (edition s)

-- ---- what is written is read

-- a list with the contents of bs at task j, and bs one after the other from `at` to its end, has fitting contents and these bodies
pub written_contents : (bs : List (List ℕ)) (s : List ℕ) (j at : ℕ) (rest : List ℕ) → drop (start s + 4 * j) s ≡ contents_of at bs ++ rest → drop at s ≡ joined bs
    → at + length (joined bs) ≡ length s → (contents_fit s (length bs) j at ≡ true) × (bodies_from s (length bs) j ≡ bs)
written_contents [] s j at rest c d e = (eq-eqb at (length s) (omega arith), refl)
written_contents (b ∷ bs) s j at rest c d e = go offset size (written_contents bs s (suc j) (at + length b) rest next_contents next-body next-end)
  where
    offset : offset_of s j ≡ at
    offset = pair-at s (start s + 4 * j) (at % 256) (at / 256) _ c ∙ number_split at

    size : size_of s j ≡ length b
    size = pair-at s (start s + 4 * j + 2) (length b % 256) (length b / 256) _ (further s (start s + 4 * j) 2 _ c) ∙ number_split (length b)

    four : start s + 4 * j + 4 ≡ start s + 4 * suc j
    four = omega arith

    next_contents : drop (start s + 4 * suc j) s ≡ contents_of (at + length b) bs ++ rest
    next_contents = rw (← four) (further s (start s + 4 * j) 4 _ c)

    next-body : drop (at + length b) s ≡ joined bs
    next-body = further s at (length b) (b ++ joined bs) d ∙ drop-append_seam b (joined bs)

    next-end : at + length b + length (joined bs) ≡ length s
    next-end = omega (arith, length-append b (joined bs))

    go : offset_of s j ≡ at → size_of s j ≡ length b → (contents_fit s (length bs) (suc j) (at + length b) ≡ true) × (bodies_from s (length bs) (suc j) ≡ bs)
        → (contents_fit s (length (b ∷ bs)) j at ≡ true) × (bodies_from s (length (b ∷ bs)) j ≡ b ∷ bs)
    go o z (f, g) = (
      rw (o, z, eq-eqb at at refl) f,
      rw (o, z, d, take-append_seam b (joined bs), g),
    )

length_contents : (bs : List (List ℕ)) (at : ℕ) → length (contents_of at bs) ≡ 4 * length bs
length_contents [] at = refl
length_contents (b ∷ bs) at = omega (arith, length_contents bs (at + length b))

pub length-bodies : (s : List ℕ) (left j : ℕ) → length (bodies_from s left j) ≡ left
length-bodies s zero j = refl
length-bodies s (suc left) j = ap suc (length-bodies s left (suc j))

-- what stands ahead of the contents ends where they begin
pub length_head : (e n t : ℕ) → 1 ≤ e → length (head_of e n t) ≡ contents_start e
length_head e n t some = omega (arith, length-replicate {A = ℕ} (reserve e) 0)

module _ (e n : ℕ) (bs : List (List ℕ)) (some : 1 ≤ e) where
  drop_head : drop (contents_start e) (file_in e n bs) ≡ contents_of (bodies_start e (length bs)) bs ++ joined bs
  drop_head = drop_at (head_of e n (length bs)) _ (contents_start e) (length_head e n (length bs) some)

  drop_contents : drop (bodies_start e (length bs)) (file_in e n bs) ≡ joined bs
  drop_contents =
      further (file_in e n bs) (contents_start e) (4 * length bs) (contents_of (bodies_start e (length bs)) bs ++ joined bs) drop_head
      ∙ drop_at (contents_of (bodies_start e (length bs)) bs) (joined bs) (4 * length bs) (length_contents bs (bodies_start e (length bs)))

  pub length-file : length (file_in e n bs) ≡ bodies_start e (length bs) + length (joined bs)
  length-file =
      omega (
        arith,
        length-append (head_of e n (length bs)) (contents_of (bodies_start e (length bs)) bs ++ joined bs),
        length_head e n (length bs) some,
        length-append (contents_of (bodies_start e (length bs)) bs) (joined bs),
        length_contents bs (bodies_start e (length bs)),
      )

  pub file_contents : (contents_fit (file_in e n bs) (length bs) 0 (bodies_start e (length bs)) ≡ true) × (bodies_from (file_in e n bs) (length bs) 0 ≡ bs)
  file_contents =
      let none : contents_start e + 4 * 0 ≡ contents_start e = omega arith in
      written_contents bs (file_in e n bs) 0 (bodies_start e (length bs)) (joined bs) (ap (λ k. drop k (file_in e n bs)) none ∙ drop_head) drop_contents (sym length-file)

  -- a file has the bodies that it was written from
  pub file-bodies : bodies (file_in e n bs) ≡ bs
  file-bodies = file_contents.1

-- ---- what is read is written again

-- the contents from task j on, and the bodies from `at` on, are those of the bodies that are read
pub read_contents : (left : ℕ) (s : List ℕ) (j at : ℕ) → Bytes s → contents_fit s left j at ≡ true → start s + 4 * (j + left) ≤ length s
    → (drop at s ≡ joined (bodies_from s left j)) × (take (4 * left) (drop (start s + 4 * j) s) ≡ contents_of at (bodies_from s left j)) × (at + length (joined (bodies_from s left j)) ≡ length s)
read_contents zero s j at h f l =
    let e : at ≡ length s = eqb-true at (length s) f in
    (rw e (drop-length s), refl, omega arith)
read_contents (suc left) s j at h f l =
    go (eqb-true (offset_of s j) at (both_left (eqb (offset_of s j) at) (contents_fit s left (suc j) (at + size_of s j)) f))
    (read_contents left s (suc j) (at + size_of s j) h (both_right (eqb (offset_of s j) at) (contents_fit s left (suc j) (at + size_of s j)) f) (omega arith))
  where
    byte : (k : ℕ) → get_or s k 0 < 256
    byte k = get_d_all s h k

    head4 : take (4 * suc left) (drop (start s + 4 * j) s)
        ≡ get_or s (start s + 4 * j) 0 ∷ get_or s (start s + 4 * j + 1) 0 ∷ get_or s (start s + 4 * j + 2) 0 ∷ get_or s (start s + 4 * j + 2 + 1) 0 ∷ take (4 * left) (drop (start s + 4 * suc j) s)
    head4 = four_bytes s (start s + 4 * j) (4 * left) (4 * suc left) (start s + 4 * suc j) (start s + 4 * j + 2 + 1) (omega arith) (omega arith) (omega arith) (omega arith)

    go : offset_of s j ≡ at
        → (drop (at + size_of s j) s ≡ joined (bodies_from s left (suc j)))
        × (take (4 * left) (drop (start s + 4 * suc j) s) ≡ contents_of (at + size_of s j) (bodies_from s left (suc j)))
        × (at + size_of s j + length (joined (bodies_from s left (suc j))) ≡ length s)
        → (drop at s ≡ joined (bodies_from s (suc left) j)) × (take (4 * suc left) (drop (start s + 4 * j) s) ≡ contents_of at (bodies_from s (suc left) j))
        × (at + length (joined (bodies_from s (suc left) j)) ≡ length s)
    go o (d, c, e) =
        let z : length (body_of s j) ≡ size_of s j = rw o (length-take-le (size_of s j) (drop at s) (simp length-drop (omega arith))) in
        let b : body_of s j ≡ take (size_of s j) (drop at s) = ap (λ x. take (size_of s j) (drop x s)) o in (
          sym (take-append-drop (size_of s j) (drop at s)) ∙ ap (λ x. take (size_of s j) (drop at s) ++ x) (drop-drop (size_of s j) at s ∙ d) ∙ ap (λ x. x ++ joined (bodies_from s left (suc j))) (sym b),
          head4 ∙ contents_bytes (get_or s (start s + 4 * j) 0) (get_or s (start s + 4 * j + 1) 0) (get_or s (start s + 4 * j + 2) 0) (get_or s (start s + 4 * j + 2 + 1) 0)
              at (length (body_of s j)) (take (4 * left) (drop (start s + 4 * suc j) s)) (contents_of (at + length (body_of s j)) (bodies_from s left (suc j)))
              (byte (start s + 4 * j)) (byte (start s + 4 * j + 2)) (sym o) z (c ∙ ap (λ x. contents_of (at + x) (bodies_from s left (suc j))) (sym z)),
          omega (arith, length-append (body_of s j) (joined (bodies_from s left (suc j)))),
        )
