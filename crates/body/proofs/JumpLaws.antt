-- The sets of successors, block by block: a turn of the loop that gathers them, and that each is below 2 ^ 24.
-- The idea: the sets of the blocks so far, and zeros.
use mathlib.Core.Path.{◌≡◌, refl, sym, ap, ap₂, ◌∙◌, subst}
use mathlib.Core.Bool.{Bool, true, false, false≢true}
use mathlib.Core.List.{List, [], ◌∷◌, ◌++◌, map}
use Prim.Native.Nat.{ℕ, zero, suc, ◌+◌, ◌-◌, ◌≤◌, ◌<◌}
use native.Mathlib.Nat.{not-suc-le-zero}
use native.Mathlib.Numerals.{add-one}
use native.Mathlib.Omega.{arith}
use lib.Dec.{eqb, ltb}
use borrow.Author.Tests.{ltb-true, ltb-false}
use lib.ListN.{length, get_or, set, take, replicate}
use lib.Seq.{take_all}
use Rattle.cache.specs.References.{All}
use Rattle.cache.specs.Sets.{bits, in_set}
use Rattle.cache.proofs.Bits.{bits_lt}
use Rattle.cache.proofs.Masks.{bits_test}
use Rattle.cache.proofs.Members.{in_empty, in_below}
use Rattle.model.specs.Lists.{mem, Each}
use Rattle.model.specs.Tasks.{Block, Task, block}
use Rattle.model.specs.Computed.{unmasked}
use Rattle.model.proofs.Membership.{all_of_lem}
use Rattle.model.proofs.Paths.{successor_below}
use Rattle.body.specs.Layout.{BlockInBounds, InBounds}
use Rattle.body.specs.Decode.{decoded, decode, task_of}
use Rattle.body.specs.declared.BodyWalk.{BodyWalk}
use Rattle.body.specs.Walk.{kept_of, blocks_of, starts_of}
use Rattle.body.specs.Jumps.{set_of, jump_sets, unmasked_set}
use Rattle.body.proofs.Decoded.{decoded-bounds}
use Rattle.body.proofs.Turning.{no_set}
use Rattle.body.proofs.WalksParts.{BlockParts, kept-decoded, walked_parts}

-- the sets of the first b blocks, and zeros up to `all`
abbrev pub jumps_to : ℕ → Task → ℕ → List ℕ
jumps_to all t b = map (λ (x : Block). set_of x.successors) (take b t) ++ replicate (all - b) 0

turn : (all : ℕ) (t : Task) (b : ℕ) → b < length t → b < all → set (jumps_to all t b) b (set_of (block t b).successors) ≡ jumps_to all t (suc b)
turn all [] b l h = absurd (not-suc-le-zero l)
turn all (x ∷ t) zero l h = let e : all - 0 ≡ suc (all - 1) = omega arith in rw e
turn zero (x ∷ t) (suc b) l h = absurd (not-suc-le-zero h)
turn (suc all) (x ∷ t) (suc b) l h =
    let p : suc all - suc b ≡ all - b = omega arith in
    let q : suc all - suc (suc b) ≡ all - suc b = omega arith in
    rw (p, q) (ap (λ r. set_of x.successors ∷ r) (turn all t b (omega arith) (omega arith)))

pub jump_turn : (t : Task) (b : ℕ) {sets next v : List ℕ} {w : ℕ} → b < length t → length t ≤ 24 → sets ≡ jumps_to 24 t b → v ≡ (block t b).successors → w ≡ set_of v → next ≡ set sets b w
    → next ≡ jumps_to 24 t (b + 1)
jump_turn t b l h es ev ew en = rw (en, es, ew, ev, add-one b) (turn 24 t b l (omega arith))

pub jump_end : (t : Task) (b : ℕ) {sets : List ℕ} → b ≡ length t → sets ≡ jumps_to 24 t b → sets ≡ jump_sets t
jump_end t b e es = es ∙ ap₂ (λ (l : List Block) (n : ℕ). map (λ (x : Block). set_of x.successors) l ++ replicate (24 - n) 0) (take_all b t (omega arith)) e

pub jumps-below : (t : Task) → All (λ (x : ℕ). x < 16777216) (jump_sets t)
jumps-below t = go t
  where
    zeros : (n : ℕ) → All (λ (x : ℕ). x < 16777216) (replicate n 0)
    zeros zero = tt
    zeros (suc n) = (omega arith, zeros n)

    go : (u : Task) → All (λ (x : ℕ). x < 16777216) (map (λ (x : Block). set_of x.successors) u ++ replicate (24 - length t) 0)
    go [] = zeros (24 - length t)
    go (x ∷ u) = (bits_lt 24 (λ c. mem eqb c x.successors), go u)

-- the successors of a block are below 24
pub successors-below : (t : Task) → InBounds t → (b : ℕ) → All (λ (s : ℕ). s < 24) (block t b).successors
successors-below t h b = go t h.each b
  where
    wider : (l : List ℕ) → All (λ (s : ℕ). s < length t) l → All (λ (s : ℕ). s < 24) l
    wider [] a = tt
    wider (x ∷ l) a = (omega (arith, a.0, h.few), wider l a.1)

    go : (u : Task) → Each (BlockInBounds (length t)) u → (b : ℕ) → All (λ (s : ℕ). s < 24) (block u b).successors
    go [] e b = tt
    go (x ∷ u) e zero = wider x.successors e.0.below
    go (x ∷ u) e (suc b) = go u e.1 b

-- ---- the set of one block, and the blocks that it has

pub jump_at : (t : Task) (rest : List ℕ) (b : ℕ) → b < length t → get_or (map (λ (x : Block). set_of x.successors) t ++ rest) b 0 ≡ set_of (block t b).successors
jump_at [] rest b h = absurd (not-suc-le-zero h)
jump_at (x ∷ t) rest zero h = refl
jump_at (x ∷ t) rest (suc b) h = jump_at t rest b (omega arith)

-- a block that is not there has no successors
beyond : (t : Task) (k b : ℕ) → length t ≤ b → get_or (map (λ (x : Block). set_of x.successors) t ++ replicate k 0) b 0 ≡ 0
beyond [] k b h = no_set k b
beyond (x ∷ t) k zero h = absurd (omega arith)
beyond (x ∷ t) k (suc b) h = beyond t k b (omega arith)

module _ (t : Task) (b c : ℕ) where
  abbrev leads : ℕ → Bool
  leads d = mem eqb d (block t b).successors

  pub jump_has : c < 24 → leads c ≡ true → in_set (get_or (jump_sets t) b 0) c ≡ true
  jump_has h e = ap (λ (x : ℕ). in_set x c) (jump_at t (replicate (24 - length t) 0) b (successor_below t b c e)) ∙ bits_test 24 c leads h ∙ e

  pub jump_only : in_set (get_or (jump_sets t) b 0) c ≡ true → leads c ≡ true
  jump_only e = go (ltb b (length t)) refl
    where
      go : (x : Bool) → ltb b (length t) ≡ x → leads c ≡ true
      go true q =
          let has : in_set (bits 24 leads) c ≡ true = sym (ap (λ (x : ℕ). in_set x c) (jump_at t (replicate (24 - length t) 0) b (ltb-true b (length t) q))) ∙ e in
          sym (bits_test 24 c leads (in_below 24 (bits 24 leads) c (bits_lt 24 leads) has)) ∙ has
      go false q =
          absurd (false≢true (sym (in_empty c) ∙ sym (ap (λ (x : ℕ). in_set x c) (beyond t (24 - length t) b (ltb-false b (length t) q))) ∙ e))

-- ---- unmasked blocks

pub in_unmasked : (t : Task) (b : ℕ) → b < length t → in_set (unmasked_set t) b ≡ unmasked t b
in_unmasked t b h = bits_test (length t) b (unmasked t) h

each_below : (B : ℕ) (t : Task) → Each (BlockInBounds B) t → (b c : ℕ) → mem eqb c (block t b).successors ≡ true → c < B
each_below B [] h b c e = absurd (false≢true e)
each_below B (x ∷ t) h zero c e = all_of_lem (λ (s : ℕ). s < B) x.successors h.0.below c e
each_below B (x ∷ t) h (suc b) c e = each_below B t h.1 b c e

pub jumps-inside : (t : Task) → InBounds t → (b c : ℕ) → mem eqb c (block t b).successors ≡ true → c < length t
jumps-inside t h = each_below (length t) t h.each

-- ---- a body that was walked

pub record WalkedTask (s : List ℕ) (blocks : ℕ) (starts : List ℕ) : Type 0 where
  pub its : Task
  pub decodes : decode s ≡ decoded its
  pub same : task_of (decode s) ≡ its
  pub long : blocks ≡ length its
  pub bounds : InBounds its
  pub parts : (b : ℕ) → b < length its → BlockParts s (get_or starts b 0) (block its b)

pub walked_task : (s : List ℕ) (blocks : ℕ) (starts : List ℕ) → kept_of (decode s) ≡ true → blocks ≡ blocks_of (decode s) → starts ≡ starts_of (decode s) → WalkedTask s blocks starts
walked_task s blocks starts k eb es =
    let (t, q) = kept-decoded (decode s) k in
    record {
      its = t;
      decodes = q;
      same = ap task_of q;
      long = eb ∙ ap blocks_of q;
      bounds = decoded-bounds s t q;
      parts = λ b l. walked_parts s t b q l (ap (λ x. get_or x b 0) es);
    }

-- the task of a body that was walked
pub its_task : (w : BodyWalk) → WalkedTask w.body.now w.blocks w.starts
its_task w = walked_task _ _ _ w.walked.0 w.walked.1 w.walked.2

-- the same of the body that a walk is of
pub kept_task : {s : List ℕ} (w : BodyWalk) → w.body.now ≡ s → WalkedTask s w.blocks w.starts
kept_task w e = subst (λ x. WalkedTask x w.blocks w.starts) e (its_task w)
