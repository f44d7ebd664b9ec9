-- Bytes put from a place on, and more from where they end, are all of them put from that place on.
-- The idea: what was put ends the front that the next bytes leave alone.
use mathlib.Core.Path.{◌≡◌, sym, ap, ap₂, ◌∙◌}
use mathlib.Core.List.{List, [], ◌∷◌, ◌++◌, append_assoc}
use Prim.Native.Nat.{ℕ, ◌+◌, ◌≤◌, ◌<◌}
use native.Mathlib.Nat.{add-zero, zero-add}
use native.Mathlib.Numerals.{add-one}
use native.Mathlib.Omega.{arith}
use lib.ListN.{length, take, drop, set, length-append, take-append-drop}
use lib.Seq.{length-take-le, take_at, drop_at, drop-drop, set_split}
use Rattle.rows.specs.Append.{put}
use Rattle.text.specs.Text.{Placed}

module _ (l vs : List ℕ) (at : ℕ) (room : at + length vs ≤ length l) where
  put_front : length (take at l ++ vs) ≡ at + length vs
  put_front = length-append (take at l) vs ∙ ap (λ (k : ℕ). k + length vs) (length-take-le at l (omega arith))

  put_split : put l at vs ≡ take at l ++ vs ++ drop (at + length vs) l
  put_split = sym (append_assoc (take at l) vs (drop (at + length vs) l))

  pub take_put : take (at + length vs) (put l at vs) ≡ take at l ++ vs
  take_put = ap (take (at + length vs)) put_split ∙ take_at (take at l ++ vs) (drop (at + length vs) l) (at + length vs) put_front

  drop-put : drop (at + length vs) (put l at vs) ≡ drop (at + length vs) l
  drop-put = ap (drop (at + length vs)) put_split ∙ drop_at (take at l ++ vs) (drop (at + length vs) l) (at + length vs) put_front

  -- more bytes from where the last ones end
  pub put-put : (ws : List ℕ) → put (put l at vs) (at + length vs) ws ≡ put l at (vs ++ ws)
  put-put ws =
      let k = at + length vs in
      let m : k + length ws ≡ at + length (vs ++ ws) = omega (arith, length-append vs ws) in
      let rest : drop (k + length ws) (put l at vs) ≡ drop (at + length (vs ++ ws)) l =
      sym (drop-drop (length ws) k (put l at vs)) ∙ ap (drop (length ws)) drop-put ∙ drop-drop (length ws) k l ∙ ap (λ (x : ℕ). drop x l) m in
      ap₂ (λ (p q : List ℕ). p ++ (ws ++ q)) take_put rest
      ∙ append_assoc (take at l) vs (ws ++ drop (at + length (vs ++ ws)) l)
      ∙ ap (λ (q : List ℕ). take at l ++ q) (sym (append_assoc vs ws (drop (at + length (vs ++ ws)) l)))

-- one byte
pub put_one : (l : List ℕ) (at b : ℕ) → at < length l → set l at b ≡ put l at (b ∷ [])
put_one l at b h = set_split l at b h ∙ ap (λ (k : ℕ). take at l ++ (b ∷ drop k l)) (sym (add-one at))

-- no bytes
pub put-none : (l : List ℕ) (at : ℕ) → put l at [] ≡ l
put-none l at = ap (λ (k : ℕ). take at l ++ drop k l) (add-zero at) ∙ take-append-drop at l

-- text after text
pub placed_more : (l : List ℕ) (at : ℕ) (vs ws : List ℕ) {l1 l2 : List ℕ} {next end : ℕ} → at + length vs ≤ length l
    → Placed l at vs l1 next → Placed l1 next ws l2 end → Placed l at (vs ++ ws) l2 end
placed_more l at vs ws {l1} {l2} {next} {end} room (en, e1) (ee, e2) =
    (omega (arith, length-append vs ws), e2 ∙ ap₂ (λ (p : List ℕ) (k : ℕ). put p k ws) e1 en ∙ put-put l vs at room ws)

-- a turn of a loop over text: of what is left, `whole`, the first part is placed
pub placed_turn : (l : List ℕ) (at : ℕ) (whole v rest : List ℕ) {l1 : List ℕ} {next end : ℕ} {all : List ℕ} → whole ≡ v ++ rest → at + length whole ≤ length l
    → Placed l at v l1 next → at + length whole ≡ end → put l at whole ≡ all → (next + length rest ≡ end) × (put l1 next rest ≡ all)
placed_turn l at whole v rest e room (en, e1) ee ea =
    let long : length whole ≡ length v + length rest = ap length e ∙ length-append v rest in (
      omega arith,
      ap₂ (λ (p : List ℕ) (k : ℕ). put p k rest) e1 en ∙ put-put l v at (omega arith) rest ∙ ap (put l at) (sym e) ∙ ea,
    )

-- its end
pub placed_end : (l : List ℕ) (at : ℕ) (whole : List ℕ) {end : ℕ} {all : List ℕ} → whole ≡ [] → at + length whole ≡ end → put l at whole ≡ all
    → (at ≡ end) × (l ≡ all)
placed_end l at whole e ee ea = (omega (arith, ap length e), sym (put-none l at) ∙ ap (put l at) (sym e) ∙ ea)

-- nothing placed
pub placed_none : (l : List ℕ) (at : ℕ) {text : List ℕ} → text ≡ [] → Placed l at text l at
placed_none l at e = (omega (arith, ap length e), sym (put-none l at) ∙ ap (put l at) (sym e))

-- text placed at the front
pub placed_front : (l text : List ℕ) {l1 : List ℕ} {end : ℕ} → length text ≤ 2048 → Placed l 0 text l1 end
    → (end ≡ length text) × (end ≤ 2048) × (l1 ≡ text ++ drop (length text) l)
placed_front l text h (ee, e) = (omega arith, omega arith, e ∙ ap (λ (k : ℕ). text ++ drop k l) (zero-add (length text)))
