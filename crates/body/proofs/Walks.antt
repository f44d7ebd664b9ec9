-- Laws of the walk of a body: what the blocks passed so far and the bytes still to come say of the whole.
use mathlib.Core.Path.{◌≡◌, refl, sym, ap, ◌∙◌}
use mathlib.Core.Bool.{Bool, true, false, ◌&&◌, cond}
use mathlib.Core.List.{List, [], ◌∷◌, ◌++◌, append_assoc, append-nil}
use Prim.Native.Nat.{ℕ, suc, ◌+◌, ◌-◌, ◌*◌, ◌≤◌, ◌<◌}
use native.Mathlib.Nat.{sub-zero}
use native.Mathlib.Numerals.{add-one}
use native.Mathlib.Omega.{arith}
use lib.Dec.{eqb, leb}
use lib.ListN.{length, get_or, take, drop, set, replicate, length-append, length-drop, drop_of_length-le}
use lib.Seq.{drop-cons, drop-drop, length-take-le, set_at}
use borrow.Author.Tests.{eq-eqb, ne_eqb, le-leb, lt-leb, leb-true, leb-false}
use Rattle.model.specs.Tasks.{Block, Task}
use Rattle.model.proofs.Membership.{both_left, both_right}
use Rattle.body.specs.Layout.{block_bytes}
use Rattle.body.specs.Decode.{Decoded, broken, decoded, with_block, block_from, block_test, blocks_from, decode}
use Rattle.body.specs.Walk.{starts_from, kept_of, Walked}
use Rattle.body.specs.Parts.{references_end}
use Rattle.body.specs.BlockEnd.{kept_at, block_end}
use Rattle.std.specs.Prelude.{Some, None}
use Rattle.body.proofs.BlockParts.{length-numbers}
use Rattle.body.proofs.Decoded.{parts-long, fits}

-- the block that stands at `at` in a body
abbrev pub block_at : ℕ → List ℕ → Block
block_at at s = block_from (get_or s at 0) (get_or s (at + 1) 0) (get_or s (at + 2) 0) (drop (at + 3) s)

-- ---- one block

-- three bytes from `at` on are the head of a block
three : (at : ℕ) (s : List ℕ) → at + 3 ≤ length s → drop at s ≡ get_or s at 0 ∷ get_or s (at + 1) 0 ∷ get_or s (at + 2) 0 ∷ drop (at + 3) s
three at s h =
    let h0 : at < length s = omega arith in
    let h1 : suc at < length s = omega arith in
    let h2 : suc (suc at) < length s = omega arith in
    let e2 : at + 2 ≡ suc (suc at) = omega arith in
    let e3 : at + 3 ≡ suc (suc (suc at)) = omega arith in
    rw (drop-cons s at 0 h0, drop-cons s (suc at) 0 h1, drop-cons s (suc (suc at)) 0 h2, e3, e2, add-one at)

-- fewer than three bytes hold no block
cut : (B left : ℕ) (r : List ℕ) → length r < 3 → blocks_from B (suc left) r ≡ broken
unfolding blocks_from
cut B left [] h = refl
cut B left (f ∷ []) h = refl
cut B left (f ∷ sc ∷ []) h = refl
cut B left (f ∷ sc ∷ rc ∷ rest) h = absurd (omega arith)

-- the blocks from `at` on, where the head of the first is there
headed : (B left at : ℕ) (s : List ℕ) → at + 3 ≤ length s
    → blocks_from B (suc left) (drop at s)
    ≡ cond (block_test B (get_or s at 0) (get_or s (at + 1) 0) (get_or s (at + 2) 0) (drop (at + 3) s))
    (with_block (block_at at s) (blocks_from B left (drop (get_or s (at + 1) 0 + 2 * get_or s (at + 2) 0) (drop (at + 3) s))))
    broken
unfolding blocks_from
headed B left at s h = rw (three at s h)

-- a block that keeps the layout
pub record Kept (B at : ℕ) (s : List ℕ) : Type 0 where
  pub head : at + 3 ≤ length s
  pub test : block_test B (get_or s at 0) (get_or s (at + 1) 0) (get_or s (at + 2) 0) (drop (at + 3) s) ≡ true

pub keeps : (B at : ℕ) (s : List ℕ) → kept_at B at s ≡ true → Kept B at s
keeps B at s h =
    record { head = leb-true (at + 3) (length s) (both_left (leb (at + 3) (length s)) _ h); test = both_right (leb (at + 3) (length s)) _ h }

-- its successors and references are there
there : (B at : ℕ) (s : List ℕ) → Kept B at s → get_or s (at + 1) 0 + 2 * get_or s (at + 2) 0 ≤ length (drop (at + 3) s)
there B at s k = (fits B (get_or s at 0) (get_or s (at + 1) 0) (get_or s (at + 2) 0) (drop (at + 3) s) k.test).there

-- what judging a block answers
ended : (k : Bool) (at e : ℕ) → cond k (Some at) None ≡ Some e → (k ≡ true) × (at ≡ e)
ended true at e h = (refl, (cc))
ended false at e h = let z : ◌≡◌ {A = ℕ} 0 1 = cc in absurd (omega arith)

refused : (k : Bool) (at : ℕ) → cond k (Some at) None ≡ None → k ≡ false
refused true at h = let z : ◌≡◌ {A = ℕ} 0 1 = cc in absurd (omega arith)
refused false at h = refl

-- where a block ends, one was kept
ends-kept : (B at : ℕ) (s : List ℕ) {e : ℕ} → block_end B at s ≡ Some e → Kept B at s × (references_end at s ≡ e)
unfolding block_end
ends-kept B at s {e} h =
    let p = ended (kept_at B at s) (references_end at s) e h in
    (keeps B at s p.0, p.1)

-- a block that is not kept breaks the rest
pub broken-by : (B left at : ℕ) (s : List ℕ) → kept_at B at s ≡ false → blocks_from B (suc left) (drop at s) ≡ broken
broken-by B left at s f = go (leb (at + 3) (length s)) refl
  where
    go : (b : Bool) → leb (at + 3) (length s) ≡ b → blocks_from B (suc left) (drop at s) ≡ broken
    go true q = rw (headed B left at s (leb-true (at + 3) (length s) q), rw q at f)
    go false q = cut B left (drop at s) (simp length-drop (omega (arith, leb-false (at + 3) (length s) q)))

ends-broken : (B left at : ℕ) (s : List ℕ) → block_end B at s ≡ None → blocks_from B (suc left) (drop at s) ≡ broken
unfolding block_end
ends-broken B left at s h = broken-by B left at s (refused (kept_at B at s) (references_end at s) h)

-- ---- the length of a block

-- a block that is kept is as long as its counts say
pub end-behind : (B at : ℕ) (s : List ℕ) → Kept B at s → references_end at s ≡ at + length (block_bytes (block_at at s))
end-behind B at s k =
    let sc = get_or s (at + 1) 0 in
    let rc = get_or s (at + 2) 0 in
    let rest = drop (at + 3) s in
    let h = there B at s k in
    let bytes = length-take-le (2 * rc) (drop sc rest) (omega (arith, length-drop sc rest)) in
    let references = length-numbers (take (2 * rc) (drop sc rest)) rc bytes in
    omega (arith, parts-long (block_at at s), length-take-le sc rest (omega arith), references)

-- it ends in the body
pub end-within : (B at : ℕ) (s : List ℕ) → Kept B at s → references_end at s ≤ length s
end-within B at s k = omega (arith, k.head, simp length-drop at (there B at s k))

-- it is the first of the blocks from `at` on, and the others follow where it ends
pub kept_next : (B left at : ℕ) (s : List ℕ) → Kept B at s
    → blocks_from B (suc left) (drop at s) ≡ with_block (block_at at s) (blocks_from B left (drop (references_end at s) s))
kept_next B left at s k =
    let a : at + 3 + (get_or s (at + 1) 0 + 2 * get_or s (at + 2) 0) ≡ references_end at s = omega arith in
    rw (headed B left at s k.head, k.test, drop-drop (get_or s (at + 1) 0 + 2 * get_or s (at + 2) 0) (at + 3) s, a)

-- ---- the blocks passed

-- blocks put before those of a decoded task
abbrev pub onto : Task → Decoded → Decoded
onto p broken = broken
onto p (decoded t) = decoded (p ++ t)

onto_nothing : (d : Decoded) → d ≡ onto [] d
onto_nothing broken = refl
onto_nothing (decoded t) = refl

onto_block : (p : Task) (x : Block) (d : Decoded) → onto p (with_block x d) ≡ onto (p ++ (x ∷ [])) d
onto_block p x broken = refl
onto_block p x (decoded t) = ap decoded (sym (append_assoc p (x ∷ []) t))

-- a list with room for 24 starts, of which those of the blocks p are filled
abbrev pub filled : Task → List ℕ
filled p = starts_from 2 p ++ replicate (24 - length p) 0

pub length-starts : (at : ℕ) (p : Task) → length (starts_from at p) ≡ length p
length-starts at [] = refl
length-starts at (x ∷ p) = ap suc (length-starts (at + length (block_bytes x)) p)

-- where the blocks p end, if the first begins at `at`
abbrev pub behind : ℕ → Task → ℕ
behind at [] = at
behind at (x ∷ p) = behind (at + length (block_bytes x)) p

starts_more : (at : ℕ) (p : Task) (x : Block) → starts_from at (p ++ (x ∷ [])) ≡ starts_from at p ++ (behind at p ∷ [])
starts_more at [] x = refl
starts_more at (y ∷ p) x = ap (λ (l : List ℕ). at ∷ l) (starts_more (at + length (block_bytes y)) p x)

behind_more : (at : ℕ) (p : Task) (x : Block) → behind at (p ++ (x ∷ [])) ≡ behind at p + length (block_bytes x)
behind_more at [] x = refl
behind_more at (y ∷ p) x = behind_more (at + length (block_bytes y)) p x

-- the next start is filled in
filled_more : (p : Task) (x : Block) → length p < 24 → set (filled p) (length p) (behind 2 p) ≡ filled (p ++ (x ∷ []))
filled_more p x h =
    let e : 24 - length p ≡ suc (24 - (length p + 1)) = omega arith in
    let zeros : List ℕ = replicate (24 - (length p + 1)) 0 in
    let filled = set_at (starts_from 2 p) 0 zeros (behind 2 p) (length p) (length-starts 2 p) in
    rw (e, filled, starts_more 2 p x, length-append p (x ∷ []), append_assoc)

-- the walk of the body s has passed b of B blocks and stands at `at`
pub record Passed (s : List ℕ) (B b at : ℕ) (starts : List ℕ) : Type 0 where
  pub blocks : Task
  pub count : length blocks ≡ b
  pub here : behind 2 blocks ≡ at
  pub within : at ≤ length s
  pub filled : starts ≡ filled blocks
  pub whole : decode s ≡ onto blocks (blocks_from B (B - b) (drop at s))

one_fewer : (B b : ℕ) → b < B → B - b ≡ suc (B - (b + 1))
one_fewer B b h = omega arith

-- one more block is passed, and its start filled in
pub passed_turn : {s : List ℕ} {B b at e start : ℕ} {starts : List ℕ} → Passed s B b at starts → b < B → B ≤ 24 → block_end B at s ≡ Some e
    → start ≡ at → Passed s B (b + 1) e (set starts b start)
passed_turn {s} {B} {b} {at} {e} w l m h q =
    let k = ends-kept B at s h in
    let x = block_at at s in
    let rest = blocks_from B (B - (b + 1)) (drop e s) in
    record {
      blocks = w.blocks ++ (x ∷ []);
      count = omega (arith, length-append w.blocks (x ∷ []), w.count);
      here = behind_more 2 w.blocks x ∙ ap (λ (n : ℕ). n + length (block_bytes x)) w.here ∙ sym (end-behind B at s k.0) ∙ k.1;
      within = rw k.1 at (end-within B at s k.0);
      filled = cc (filled_more w.blocks x (omega (arith, w.count)), w.filled, w.count, w.here);
      whole = w.whole ∙ rw (one_fewer B b l, kept_next B (B - (b + 1)) at s k.0, k.1) (onto_block w.blocks x rest);
    }

-- the next block is refused
pub passed-broken : {s : List ℕ} {B b at : ℕ} {starts : List ℕ} → Passed s B b at starts → b < B → block_end B at s ≡ None
    → decode s ≡ broken
passed-broken {s} {B} {b} {at} w l h = w.whole ∙ rw (one_fewer B b l, ends-broken B (B - (b + 1)) at s h)

-- all blocks are passed, and bytes are left
pub passed_trailing : {s : List ℕ} {B b at : ℕ} {starts : List ℕ} → Passed s B b at starts → B ≤ b → at < length s
    → decode s ≡ broken
unfolding blocks_from
passed_trailing {s} {B} {b} {at} w l h =
    let z : B - b ≡ 0 = omega arith in
    w.whole ∙ rw (z, drop-cons s at 0 h)

-- all blocks are passed, and no bytes are left
passed-all : {s : List ℕ} {B b at : ℕ} {starts : List ℕ} (w : Passed s B b at starts) → B ≤ b → length s ≤ at
    → decode s ≡ decoded w.blocks
unfolding blocks_from
passed-all {s} {B} {b} {at} w l h =
    let z : B - b ≡ 0 = omega arith in
    w.whole ∙ rw (z, drop_of_length-le s h) (ap decoded (append-nil w.blocks))

-- ---- the answer

pub not-kept : (s : List ℕ) → decode s ≡ broken → kept_of (decode s) ≡ false
not-kept s h = ap kept_of h

pub all-walked : {s : List ℕ} {B b at all : ℕ} {starts : List ℕ} → Passed s B b at starts → B ≤ b → all ≡ b → length s ≤ at → Walked s all starts
all-walked w l e h = rw (passed-all w l h) (refl, e ∙ sym w.count, w.filled)

-- ---- the first two bytes

decode_headed : (s : List ℕ) → 2 ≤ length s
    → decode s
    ≡ cond (leb 1 (get_or s 0 0) && (leb (get_or s 0 0) 24 && eqb (get_or s 1 0) 0)) (blocks_from (get_or s 0 0) (get_or s 0 0) (drop 2 s)) broken
unfolding decode
decode_headed [] h = absurd (omega arith)
decode_headed (B ∷ []) h = absurd (omega arith)
decode_headed (B ∷ z ∷ s) h = refl

pub decode-short : (s : List ℕ) → length s < 2 → decode s ≡ broken
unfolding decode
decode-short [] h = refl
decode-short (B ∷ []) h = refl
decode-short (B ∷ z ∷ s) h = absurd (omega arith)

pub decode-none : (s : List ℕ) → 2 ≤ length s → get_or s 0 0 < 1 → decode s ≡ broken
decode-none s h l = rw (decode_headed s h, lt-leb 1 (get_or s 0 0) l)

pub decode-many : (s : List ℕ) → 2 ≤ length s → 1 ≤ get_or s 0 0 → 24 < get_or s 0 0 → decode s ≡ broken
decode-many s h l m = rw (decode_headed s h, le-leb 1 (get_or s 0 0) l, lt-leb (get_or s 0 0) 24 m)

module _ (s : List ℕ) (h : 2 ≤ length s) (l : 1 ≤ get_or s 0 0) (m : get_or s 0 0 ≤ 24) where
  pub decode_odd : (get_or s 1 0 ≡ 0 → ⊥) → decode s ≡ broken
  decode_odd z = rw (decode_headed s h, le-leb 1 (get_or s 0 0) l, le-leb (get_or s 0 0) 24 m, ne_eqb (get_or s 1 0) 0 z)

  decode_even : get_or s 1 0 ≡ 0 → decode s ≡ blocks_from (get_or s 0 0) (get_or s 0 0) (drop 2 s)
  decode_even z = rw (decode_headed s h, le-leb 1 (get_or s 0 0) l, le-leb (get_or s 0 0) 24 m, eq-eqb (get_or s 1 0) 0 z)

  -- no block is passed: the first begins behind the first two bytes
  pub passed_start : {at : ℕ} → get_or s 1 0 ≡ 0 → at ≡ 2 → Passed s (get_or s 0 0) 0 at (replicate 24 0)
  passed_start z e =
      record {
        blocks = [];
        count = refl;
        here = sym e;
        within = omega arith;
        filled = refl;
        whole = rw (decode_even z, e, sub-zero (get_or s 0 0)) (onto_nothing (blocks_from (get_or s 0 0) (get_or s 0 0) (drop 2 s)));
      }
