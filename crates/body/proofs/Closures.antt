-- The blocks that sets of blocks lead to: the search that finds them, for every 24 sets. Of a task's jumps they are the blocks that paths
-- lead to; of the jumps turned round, the blocks that paths lead from.
-- The idea: what is reached was led to, and a block that is done has its set reached.
use mathlib.Core.Path.{◌≡◌, refl, sym, ap₂, ◌∙◌}
use mathlib.Core.Logic.{◌↔◌, ◌⊎◌, inl, inr}
use mathlib.Core.Bool.{Bool, true, false, not, ◌&&◌, cond, false≢true}
use mathlib.Core.List.{List, [], ◌∷◌, ◌++◌}
use Prim.Native.Nat.{ℕ, zero, suc, ◌*◌, ◌-◌, ◌%◌, ◌^◌, ◌<◌}
use native.Mathlib.Nat.{pow-suc}
use native.Mathlib.Omega.{arith}
use lib.Dec.{eqb}
use lib.ListN.{length, get_or}
use lib.Bits.{bit_and, bit_or, bit_xor, xor_add_and, xor_lt, and_le_l, and_le_r, or_lt, or_disjoint}
use lib.Count.{count_trailing_zeros}
use lib.Pow.{pow_mono, pow_pos}
use borrow.Author.Tests.{eqb-true, eq-eqb}
use Rattle.cache.specs.References.{All}
use Rattle.cache.specs.Sets.{in_set}
use Rattle.cache.proofs.Masks.{one_at}
use Rattle.cache.proofs.Members.{in_and, in_or, in_xor, in_power, in_empty, Lowest, lowest}
use Rattle.model.specs.Lists.{mem}
use Rattle.model.specs.Tasks.{Task, end, PathFrom, stay, step}
use Rattle.model.specs.OnPath.{from_entry, to_end, on_path_below, all_on_path}
use Rattle.model.proofs.Membership.{or_cases, or_left, or_right}
use Rattle.model.proofs.Paths.{path_snoc, path-first}
use Rattle.model.proofs.OnPath.{Leads, from_entry_exact, to_end_exact}
use Rattle.body.specs.Layout.{InBounds}
use Rattle.body.specs.Jumps.{jump_sets, LedTo, begins, goes_on, Exactly, has_below}
use Rattle.body.specs.Turned.{turned}
use Rattle.body.proofs.JumpLaws.{jump_has, jump_only, jumps-inside}
use Rattle.body.proofs.Turning.{turned_has, turned_only}

-- ---- the search

-- the blocks reached so far, and those of them that have added their sets
pub record Search (sets : List ℕ) (first done reached : ℕ) : Type 0 where
  pub few : done < 16777216
  pub below : reached < 16777216
  pub start : in_set reached first ≡ true
  pub sound : (c : ℕ) → in_set reached c ≡ true → LedTo sets first c
  pub inside : (c : ℕ) → in_set done c ≡ true → in_set reached c ≡ true
  pub closed : (b c : ℕ) → in_set done b ≡ true → in_set (get_or sets b 0) c ≡ true → in_set reached c ≡ true

pow_lt : (c : ℕ) → c < 24 → 2 ^ c < 2 ^ 24
pow_lt c q = omega (arith, pow_mono {i = suc c} {j = 24} q, pow-suc 2 c, pow_pos c)

at-below : (l : List ℕ) (i n : ℕ) → 0 < n → All (λ (x : ℕ). x < n) l → get_or l i 0 < n
at-below [] i n z a = z
at-below (x ∷ l) zero n z a = a.0
at-below (x ∷ l) (suc i) n z a = at-below l i n z a.1

pub search_first : (sets : List ℕ) (first : ℕ) → first < 24 → Search sets first 0 (1 * 2 ^ first % 2 ^ 32)
search_first sets first h =
    rw (one_at 32 first (omega arith))
    (record {
      few = omega arith;
      below = pow_lt first h;
      start = in_power first first ∙ eq-eqb first first refl;
      sound = λ c e. alone c (eqb-true c first (sym (in_power first c) ∙ e));
      inside = λ c e. absurd (false≢true (sym (in_empty c) ∙ e));
      closed = λ b c e m. absurd (false≢true (sym (in_empty b) ∙ e));
    })
  where
    alone : (c : ℕ) → c ≡ first → LedTo sets first c
    alone c e = rw e begins

module _ (sets : List ℕ) (all : All (λ (x : ℕ). x < 16777216) sets) (first done reached : ℕ) (so_far : Search sets first done reached) (more : done ≡ reached → ⊥) where
  abbrev next : ℕ
  next = count_trailing_zeros 32 (bit_xor reached done)

  low : Lowest (bit_xor reached done) 24 next
  low =
      lowest 32 24 (bit_xor reached done) (omega arith) (xor_lt 24 reached done so_far.below so_far.few)
      (λ z. more (omega (arith, xor_add_and reached done, and_le_l reached done, and_le_r reached done)))

  -- the lowest block that is reached and not done
  pub next-below : next < 24
  next-below = low.below

  waits : (p q : Bool) → cond q (not p) p ≡ true → (q ≡ true → p ≡ true) → (p ≡ true) × (q ≡ false)
  waits true true e h = absurd (false≢true e)
  waits true false e h = (refl, refl)
  waits false true e h = absurd (false≢true (h refl))
  waits false false e h = absurd (false≢true e)

  waiting : (in_set reached next ≡ true) × (in_set done next ≡ false)
  waiting = waits (in_set reached next) (in_set done next) (sym (in_xor reached done next) ∙ low.member) (so_far.inside next)

  apart : (x : ℕ) → not (eqb x 0) ≡ false → x ≡ 0
  apart x e = go (eqb x 0) refl e
    where
      go : (b : Bool) → eqb x 0 ≡ b → not b ≡ false → x ≡ 0
      go true q h = eqb-true x 0 q
      go false q h = absurd (false≢true (sym h))

  word : 1 * 2 ^ next % 2 ^ 32 ≡ 2 ^ next
  word = one_at 32 next (omega (arith, low.below))

  pub next_more : done < bit_or done (1 * 2 ^ next % 2 ^ 32)
  next_more = rw (word, or_disjoint done (2 ^ next) (apart (bit_and done (2 ^ next)) waiting.1)) (omega (arith, pow_pos next))

  pub next_search : Search sets first (bit_or done (1 * 2 ^ next % 2 ^ 32)) (bit_or reached (get_or sets next 0))
  next_search =
      rw word
      (record {
        few = or_lt 24 done (2 ^ next) so_far.few (pow_lt next low.below);
        below = or_lt 24 reached (get_or sets next 0) so_far.below (at-below sets next 16777216 (omega arith) all);
        start = kept first so_far.start;
        sound = λ c e. led c (or_cases (in_set reached c) (in_set (get_or sets next 0) c) (sym (in_or reached (get_or sets next 0) c) ∙ e));
        inside = λ c e. kept c (was c (done_cases c e));
        closed = λ b c e m. adds b c (done_cases b e) m;
      })
    where
      kept : (c : ℕ) → in_set reached c ≡ true → in_set (bit_or reached (get_or sets next 0)) c ≡ true
      kept c e = in_or reached (get_or sets next 0) c ∙ or_left (in_set reached c) (in_set (get_or sets next 0) c) e

      led : (c : ℕ) → (in_set reached c ≡ true) ⊎ (in_set (get_or sets next 0) c ≡ true) → LedTo sets first c
      led c (inl e) = so_far.sound c e
      led c (inr e) = goes_on (so_far.sound next waiting.0) e

      done_cases : (c : ℕ) → in_set (bit_or done (2 ^ next)) c ≡ true → (in_set done c ≡ true) ⊎ (c ≡ next)
      done_cases c e = elim (or_cases (in_set done c) (in_set (2 ^ next) c) (sym (in_or done (2 ^ next) c) ∙ e))
          [ inl h ↦ inl h | inr h ↦ inr (eqb-true c next (sym (in_power next c) ∙ h)) ]

      was : (c : ℕ) → (in_set done c ≡ true) ⊎ (c ≡ next) → in_set reached c ≡ true
      was c (inl e) = so_far.inside c e
      was c (inr e) = rw e waiting.0

      adds : (b c : ℕ) → (in_set done b ≡ true) ⊎ (b ≡ next) → in_set (get_or sets b 0) c ≡ true → in_set (bit_or reached (get_or sets next 0)) c ≡ true
      adds b c (inl e) m = kept c (so_far.closed b c e m)
      adds b c (inr e) m = in_or reached (get_or sets next 0) c ∙ or_right (in_set reached c) (in_set (get_or sets next 0) c) (rw e at m)

-- all that is reached is done
pub search_end : (sets : List ℕ) (first done reached : ℕ) → Search sets first done reached → done ≡ reached → Exactly (LedTo sets first) reached
search_end sets first done reached p e = record { below = p.below; members = λ c. (p.sound c, along) }
  where
    along : {c : ℕ} → LedTo sets first c → in_set reached c ≡ true
    along begins = p.start
    along (goes_on {b = b} {c = c} r m) = p.closed b c (rw e (along r)) m

-- ---- the jumps of a task

module _ (t : Task) (bounds : InBounds t) where
  forward : {c : ℕ} → LedTo (jump_sets t) 0 c → Leads t 0 c
  forward begins = ([], stay bounds.some)
  forward (goes_on {b = b} {c = c} r m) =
      let (p, w) = forward r in
      let on = jump_only t b c m in
      (p ++ (c ∷ []), path_snoc t c w on (jumps-inside t bounds b c on))

  along_sets : {a c : ℕ} {p : List ℕ} → LedTo (jump_sets t) 0 a → PathFrom t a p c → LedTo (jump_sets t) 0 c
  along_sets r (stay l) = r
  along_sets {a} r (step {c = c} m w) = along_sets (goes_on r (jump_has t a c (omega (arith, path-first t w, bounds.few)) m)) w

  pub led_from_entry : (c : ℕ) → LedTo (jump_sets t) 0 c ↔ Leads t 0 c
  led_from_entry c = (forward, λ (p, w). along_sets begins w)

  abbrev back : List ℕ
  back = turned (jump_sets t) (length t)

  backward : {c : ℕ} → LedTo back (end t) c → Leads t c (end t)
  backward begins = ([], stay {b = end t} (omega (arith, bounds.some)))
  backward (goes_on {b = b} {c = c} r m) =
      let (p, w) = backward r in
      (b ∷ p, step (jump_only t c b (turned_only (jump_sets t) (length t) b c m).1) w)

  along_back : {a c : ℕ} {p : List ℕ} → c ≡ end t → PathFrom t a p c → LedTo back (end t) a
  along_back e (stay l) = rw e begins
  along_back {a} e (step {c = c} m w) =
      let lc = path-first t w in
      let la = path-first t (step m w) in
      goes_on (along_back e w) (turned_has (jump_sets t) (length t) c a lc la (jump_has t a c (omega (arith, bounds.few)) m))

  pub led_to_end : (c : ℕ) → LedTo back (end t) c ↔ Leads t c (end t)
  led_to_end c = (backward, λ (p, w). along_back refl w)

  -- ---- both together

  same_test : (a b : Bool) → (a ≡ true → b ≡ true) → (b ≡ true → a ≡ true) → a ≡ b
  same_test true b f g = sym (f refl)
  same_test false true f g = g refl
  same_test false false f g = refl

  module _ (from to : ℕ) (ahead : Exactly (LedTo (jump_sets t) 0) from) (behind : Exactly (LedTo back (end t)) to) where
    from_is : (b : ℕ) → in_set from b ≡ mem eqb b (from_entry t)
    from_is b =
        same_test (in_set from b) (mem eqb b (from_entry t)) (λ e. (from_entry_exact t b).1 ((led_from_entry b).0 ((ahead.members b).0 e)))
        (λ e. (ahead.members b).1 ((led_from_entry b).1 ((from_entry_exact t b).0 e)))

    to_is : (b : ℕ) → in_set to b ≡ mem eqb b (to_end t)
    to_is b =
        same_test (in_set to b) (mem eqb b (to_end t)) (λ e. (to_end_exact t b).1 ((led_to_end b).0 ((behind.members b).0 e)))
        (λ e. (behind.members b).1 ((led_to_end b).1 ((to_end_exact t b).0 e)))

    both_below : (n : ℕ) → has_below (bit_and from to) n ≡ on_path_below t n
    both_below zero = refl
    both_below (suc n) = ap₂ (λ (x y : Bool). x && y) (in_and from to n ∙ ap₂ (λ (x y : Bool). x && y) (from_is n) (to_is n)) (both_below n)

    pub all-below : has_below (bit_and from to) (length t) ≡ all_on_path t
    all-below = both_below (length t)

-- the same in the code's words
pub all-by-sets : (t : Task) → InBounds t → (sets before : List ℕ) (count from to : ℕ) → length t ≡ count → sets ≡ jump_sets t → before ≡ turned sets count
    → Exactly (LedTo sets 0) from → Exactly (LedTo before (count - 1)) to → has_below (bit_and from to) count ≡ all_on_path t
all-by-sets t bounds sets before count from to long jumps back ahead behind =
    rw (← long)
    (all-below t bounds from to (rw jumps at ahead) (rw (back, jumps, ← long) at behind))
