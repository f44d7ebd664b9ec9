-- The pieces put one after the other are the file.
-- The idea: bytes put from a place on, and more from where they end, are all of them put from that place on.
use mathlib.Core.Path.{◌≡◌, refl, sym, ap, ap₂, ◌∙◌}
use mathlib.Core.List.{List, [], ◌∷◌, ◌++◌, append_assoc}
use Prim.Native.Nat.{ℕ, suc, ◌+◌, ◌*◌, ◌-◌, ◌≤◌, ◌<◌}
use native.Mathlib.Nat.{add-zero, add-suc, suc-add}
use native.Mathlib.Numerals.{add-one}
use native.Mathlib.Omega.{arith}
use lib.ListN.{length, get_or, take, drop, set, replicate, length-append, length-drop, length-replicate, take-append-drop, drop_of_length-le}
use lib.Seq.{drop-cons, drop-drop, length-take-le, sets, sets-eq}
use borrow.Rule.Slice.PartMut.{put_mid, post_of}
use Rattle.project.specs.File.{mark, reserve, contents_start, bodies_start, joined, contents_of, file_in}
use Rattle.project.specs.Writing.{total, cut, file_length}
use Rattle.writer.specs.Pieces.{entries}

-- ---- bytes put one after the other

pub sets-append : (vs ws l : List ℕ) (i : ℕ) → sets l i (vs ++ ws) ≡ sets (sets l i vs) (i + length vs) ws
sets-append [] ws l i = ap (λ k. sets l k ws) (sym (add-zero i))
sets-append (a ∷ vs) ws l i =
    sets-append vs ws (set l i a) (suc i) ∙ ap (λ k. sets (sets (set l i a) (suc i) vs) k ws) (suc-add i (length vs) ∙ sym (add-suc i (length vs)))

-- bytes copied into the part from `at` on that is as long as they are
pub bytes_copied : (out piece : List ℕ) (at : ℕ) → at + length piece ≤ length out → put_mid at (at + length piece - at) out piece ≡ sets out at piece
bytes_copied out piece at h =
    let k : at + length piece - at ≡ length piece = omega arith in
    let rest : post_of at (at + length piece - at) out ≡ drop (at + length piece) out = ap (λ (n : ℕ). post_of at n out) k ∙ drop-drop (length piece) at out in
    ap (λ (q : List ℕ). take at out ++ (piece ++ q)) rest ∙ sym (sets-eq piece out at h ∙ append_assoc (take at out) piece (drop (at + length piece) out))

pub total-step : (ls : List ℕ) (j : ℕ) → j < length ls → total (drop j ls) ≡ get_or ls j 0 + total (drop (j + 1) ls)
total-step ls j h = rw (drop-cons ls j 0 h, add-one j)

pub total-end : (ls : List ℕ) (j : ℕ) → length ls ≤ j → total (drop j ls) ≡ 0
total-end ls j h = rw (drop_of_length-le ls {i = j} h)

-- ---- the bodies that the joined bodies are cut into

pub length_cut : (s ls : List ℕ) → length (cut s ls) ≡ length ls
length_cut s [] = refl
length_cut s (l ∷ ls) = ap suc (length_cut (drop l s) ls)

pub joined-cut : (s ls : List ℕ) → total ls ≡ length s → joined (cut s ls) ≡ s
joined-cut [] [] e = refl
joined-cut (x ∷ s) [] e = absurd (omega arith)
joined-cut s (l ∷ ls) e = rw (joined-cut (drop l s) ls (simp length-drop (omega arith))) (take-append-drop l s)

pub contents_cut : (at : ℕ) (s ls : List ℕ) → total ls ≤ length s → contents_of at (cut s ls) ≡ entries at ls
contents_cut at s [] h = refl
contents_cut at s (l ∷ ls) h =
    rw (length-take-le l s (omega arith), contents_cut (at + l) (drop l s) ls (simp length-drop (omega arith)))

length-entries : (at : ℕ) (ls : List ℕ) → length (entries at ls) ≡ 4 * length ls
length-entries at [] = refl
length-entries at (l ∷ ls) = omega (arith, length-entries (at + l) ls)

-- ---- the whole file

module _ (k n : ℕ) (s ls out : List ℕ) (t : ℕ) (some : 1 ≤ k) (et : t ≡ length ls) (e : total ls ≡ length s) (room : file_length k s ls ≤ length out) where
  packed : List ℕ
  packed = mark ++ ((k ∷ n ∷ t ∷ 0 ∷ []) ++ (replicate (reserve k) 0 ++ (entries (bodies_start k t) ls ++ s)))

  file_packed : file_in k n (cut s ls) ≡ packed
  unfolding packed
  file_packed = rw (length_cut s ls, joined-cut s ls e, et, contents_cut (bodies_start k (length ls)) s ls (omega arith))

  length_packed : length packed ≡ file_length k s ls
  unfolding packed
  length_packed =
      rw et
      (omega (
        arith,
        length-append (replicate {A = ℕ} (reserve k) 0) (entries (bodies_start k (length ls)) ls ++ s),
        length-replicate {A = ℕ} (reserve k) 0,
        length-append (entries (bodies_start k (length ls)) ls) s,
        length-entries (bodies_start k (length ls)) ls,
      ))

  pieces : sets out 0 packed
      ≡ sets (sets (sets (sets (sets out 0 mark) 4 (k ∷ n ∷ t ∷ 0 ∷ [])) 8 (replicate (reserve k) 0)) (contents_start k) (entries (bodies_start k t) ls)) (bodies_start k t) s
  unfolding packed
  pieces =
      let head : List ℕ = k ∷ n ∷ t ∷ 0 ∷ [] in
      let zeros : List ℕ = replicate (reserve k) 0 in
      let rest = entries (bodies_start k t) ls in
      let o2 = sets (sets out 0 mark) 4 head in
      let o3 = sets o2 8 zeros in
      let start : 8 + length zeros ≡ contents_start k = omega (arith, length-replicate {A = ℕ} (reserve k) 0) in
      sets-append mark (head ++ (zeros ++ (rest ++ s))) out 0
      ∙ sets-append head (zeros ++ (rest ++ s)) (sets out 0 mark) 4
      ∙ sets-append zeros (rest ++ s) o2 8
      ∙ ap (λ i. sets o3 i (rest ++ s)) start
      ∙ sets-append rest s o3 (contents_start k)
      ∙ ap (λ i. sets (sets o3 (contents_start k) rest) i s) (omega (arith, length-entries (bodies_start k t) ls))

  -- the five pieces of the file, put one after the other
  pub file-put : {start : ℕ} {o1 o2 o3 o4 o5 : List ℕ} → start ≡ contents_start k → o1 ≡ sets out 0 mark → o2 ≡ sets o1 4 (k ∷ n ∷ t ∷ 0 ∷ [])
      → o3 ≡ sets o2 8 (replicate (reserve k) 0) → o4 ≡ sets o3 start (entries (start + 4 * t) ls) → o5 ≡ sets o4 (start + 4 * t) s
      → o5 ≡ file_in k n (cut s ls) ++ drop (file_length k s ls) out
  file-put es e1 e2 e3 e4 e5 =
      let long : 0 + length packed ≡ file_length k s ls = omega (arith, length_packed) in
      rw es at e5
      ∙ ap (λ o. sets o (bodies_start k t) s)
      (rw es at e4 ∙ ap (λ o. sets o (contents_start k) (entries (bodies_start k t) ls)) (e3 ∙ ap (λ o. sets o 8 (replicate (reserve k) 0)) (e2 ∙ ap (λ o. sets o 4 (k ∷ n ∷ t ∷ 0 ∷ [])) e1)))
      ∙ sym pieces
      ∙ sets-eq packed out 0 (omega (arith, length_packed))
      ∙ ap₂ (λ (p : List ℕ) (i : ℕ). p ++ drop i out) (sym file_packed) long
