-- Whether a path is complete, in the code's words: by the sets of successors, a turn of the loop along the path, and its answers.
-- The idea: what is left of the path leads to the end block just where the whole path is complete.
use mathlib.Core.Path.{◌≡◌, refl, sym, ap, ◌∙◌}
use mathlib.Core.Bool.{Bool, true, false, ◌&&◌}
use mathlib.Core.List.{List, [], ◌∷◌}
use Prim.Native.Nat.{ℕ, zero, suc, ◌+◌, ◌-◌, ◌*◌, ◌%◌, ◌^◌, ◌≤◌, ◌<◌}
use native.Mathlib.Omega.{arith}
use lib.Dec.{eqb, ltb}
use lib.Bits.{bit_and}
use lib.ListN.{length, get_or, drop, replicate, drop_of_length-le}
use borrow.Author.Tests.{eqb-true, ne_eqb, ltb-true, ltb-false, lt-ltb, le-ltb}
use Rattle.cache.specs.References.{All}
use Rattle.cache.specs.Sets.{in_set}
use Rattle.cache.proofs.Masks.{bits_test}
use Rattle.model.specs.Lists.{mem, Each}
use Rattle.model.specs.Tasks.{Task, block}
use Rattle.model.proofs.Membership.{all_of_lem}
use Rattle.body.specs.Layout.{BlockInBounds, InBounds}
use Rattle.body.specs.Jumps.{jump_sets}
use Rattle.cache.proofs.Members.{in_word, out_word}
use Rattle.body.proofs.JumpLaws.{jump_at}
use Rattle.sheet.specs.Parsed.{leads_to_end, complete_path, leads_by_sets, complete_by_sets}
use Rattle.sheet.proofs.RuleLaws.{head}

-- the successors of a block are blocks of the task
successor_there : (t : Task) → InBounds t → (b c : ℕ) → mem eqb c (block t b).successors ≡ true → c < length t
successor_there t h b c e = all_of_lem (λ (s : ℕ). s < length t) (block t b).successors (go t h.each b) c e
  where
    go : (u : Task) → Each (BlockInBounds (length t)) u → (b : ℕ) → All (λ (s : ℕ). s < length t) (block u b).successors
    go [] e b = tt
    go (x ∷ u) e zero = e.0.below
    go (x ∷ u) e (suc b) = go u e.1 b

-- a block that isn't there is no successor
no_successor : (t : Task) → InBounds t → (b c : ℕ) → length t ≤ c → mem eqb c (block t b).successors ≡ false
no_successor t h b c l = go (mem eqb c (block t b).successors) refl
  where
    go : (x : Bool) → mem eqb c (block t b).successors ≡ x → x ≡ false
    go false e = refl
    go true e = absurd (omega (arith, successor_there t h b c e))

-- the set of a block's successors has them, and nothing else
successor_in : (t : Task) → InBounds t → (b c : ℕ) → b < length t → c < length t → in_set (get_or (jump_sets t) b 0) c ≡ mem eqb c (block t b).successors
successor_in t h b c lb lc =
    ap (λ s. in_set s c) (jump_at t (replicate (24 - length t) 0) b lb) ∙ bits_test 24 c (λ s. mem eqb s (block t b).successors) (omega (arith, h.few))

-- by the sets of a task's jumps a path is complete just where it is one of the task
leads-by-sets : (t : Task) → InBounds t → (b : ℕ) (path : List ℕ) → b < length t → leads_by_sets (jump_sets t) (length t) b path ≡ leads_to_end t b path
leads-by-sets t h b [] lb = sym (rw (lt-ltb b (length t) lb))
leads-by-sets t h b (c ∷ path) lb = go (ltb c (length t)) refl (λ l. leads-by-sets t h c path l)
  where
    go : (x : Bool) → ltb c (length t) ≡ x → (c < length t → leads_by_sets (jump_sets t) (length t) c path ≡ leads_to_end t c path)
        → x && (in_set (get_or (jump_sets t) b 0) c && leads_by_sets (jump_sets t) (length t) c path) ≡ mem eqb c (block t b).successors && leads_to_end t c path
    go true e ih = let l = ltb-true c (length t) e in rw (successor_in t h b c lb l, ih l)
    go false e ih = rw (no_successor t h b c (ltb-false c (length t) e))

pub complete-by-sets : (t : Task) → InBounds t → (path : List ℕ) → complete_by_sets (jump_sets t) (length t) path ≡ complete_path t path
complete-by-sets t h [] = refl
complete-by-sets t h (b ∷ path) = go (eqb b 0) refl
  where
    go : (x : Bool) → eqb b 0 ≡ x → x && leads_by_sets (jump_sets t) (length t) b path ≡ x && leads_to_end t b path
    go true e = leads-by-sets t h b path (omega (arith, eqb-true b 0 e, h.some))
    go false e = refl

-- ---- along the path

module _ (sets : List ℕ) (blocks : ℕ) (path : List ℕ) where
  pub path-none : length path < 1 → false ≡ complete_by_sets sets blocks path
  path-none h = go path h
    where
      go : (path : List ℕ) → length path < 1 → false ≡ complete_by_sets sets blocks path
      go [] h = refl
      go (b ∷ path) h = absurd (omega arith)

  pub path_elsewhere : 1 ≤ length path → (get_or path 0 0 ≡ 0 → ⊥) → false ≡ complete_by_sets sets blocks path
  path_elsewhere h g = go path h g
    where
      go : (path : List ℕ) → 1 ≤ length path → (get_or path 0 0 ≡ 0 → ⊥) → false ≡ complete_by_sets sets blocks path
      go [] h g = absurd (omega arith)
      go (b ∷ path) h g = rw (ne_eqb b 0 g)

  pub path_start : 1 ≤ length path → get_or path 0 0 ≡ 0 → leads_by_sets sets blocks 0 (drop 1 path) ≡ complete_by_sets sets blocks path
  path_start h g = go path h g
    where
      go : (path : List ℕ) → 1 ≤ length path → get_or path 0 0 ≡ 0 → leads_by_sets sets blocks 0 (drop 1 path) ≡ complete_by_sets sets blocks path
      go [] h g = absurd (omega arith)
      go (b ∷ path) h g = rw g

  -- a step from the block b to the next one
  module _ (b i : ℕ) {next : ℕ} (inside : i < length path) (en : next ≡ get_or path i 0) where
    on : leads_by_sets sets blocks b (drop i path) ≡ ltb next blocks && (in_set (get_or sets b 0) next && leads_by_sets sets blocks next (drop (i + 1) path))
    on = rw (en, head path i inside)

    pub step-outside : blocks ≤ next → false ≡ leads_by_sets sets blocks b (drop i path)
    step-outside l = sym (on ∙ rw (le-ltb next blocks l))

    module _ (few : blocks ≤ 24) (l : next < blocks) where
      pub step_off : bit_and (get_or sets b 0) (1 * 2 ^ next % 2 ^ 32) ≡ 0 → false ≡ leads_by_sets sets blocks b (drop i path)
      step_off q = sym (on ∙ rw (lt-ltb next blocks l, out_word 32 (get_or sets b 0) next (omega arith) q))

      pub step_on : (bit_and (get_or sets b 0) (1 * 2 ^ next % 2 ^ 32) ≡ 0 → ⊥) → leads_by_sets sets blocks next (drop (i + 1) path) ≡ leads_by_sets sets blocks b (drop i path)
      step_on q = sym (on ∙ rw (lt-ltb next blocks l, in_word 32 (get_or sets b 0) next (omega arith) q))

  pub path-end : (b i : ℕ) → length path ≤ i → eqb b (blocks - 1) ≡ leads_by_sets sets blocks b (drop i path)
  path-end b i l = sym (rw (drop_of_length-le path {i = i} l))
