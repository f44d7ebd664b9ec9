-- What Table keeps are rows that stand for all states of each block, and its answer is check 11 of Point 9: where no block has more than 32 states these
-- are all states, and where one has they come by rounds.
-- The idea: where some round has 33 uncovered rows in a block, the block has 33 states.
use mathlib.Core.Path.{◌≡◌, refl, sym, ap, ◌∙◌}
use mathlib.Core.Logic.{◌↔◌, inl, inr}
use mathlib.Core.Bool.{Bool, true, false, true≢false, ◌||◌}
use mathlib.Core.List.{List}
use Prim.Native.Nat.{ℕ, suc, ◌+◌, ◌*◌, ◌≤◌, ◌<◌}
use native.Mathlib.Nat.{mul-le-mul_right}
use native.Mathlib.Omega.{arith}
use lib.ListN.{length, take}
use Rattle.cache.specs.References.{Real, All}
use Rattle.cache.specs.Cache.{Cache}
use Rattle.model.specs.Lists.{mem}
use Rattle.model.specs.Tasks.{Task, memory_blocks}
use Rattle.model.specs.States.{Reaches, Lives}
use Rattle.model.specs.Computed.{same_list, sorted, reaching, living}
use Rattle.model.proofs.Sorted.{sorted_has, sorted_only, reaching-rows, living-rows}
use Rattle.body.specs.Layout.{InBounds}
use Rattle.body.proofs.Decoded.{blocks-real}
use Rattle.body.proofs.JumpLaws.{jumps-inside}
use Rattle.rows.specs.Rows.{Width, kind_length}
use Rattle.gather.specs.Graph.{Graph, Listed, too_many}
use Rattle.gather.specs.Memory.{Memory, held_rows}
use Rattle.gather.specs.Gathered.{GatheredAs}
use Rattle.graphs.specs.Graphs.{reach_graph, live_graph}
use Rattle.graphs.proofs.Gathered.{held-sorted}
use Rattle.graphs.proofs.Listed.{reach_listed, live_listed}
use Rattle.covered.specs.Covered.{Stands}
use Rattle.covered.specs.Rounds.{reaching_exceeds, live_exceeds}
use Rattle.covered.proofs.Pairs.{all_stand}
use Rattle.covered.proofs.Check.{reaching_check, live_check, reaching-before, live-before}
use Rattle.uncovered.specs.Taken.{enough}
use Rattle.graphs.specs.TaskRows.{Both}
use lib.Dec.{ltb}
use borrow.Author.Tests.{ltb-true, ltb-false}
use Rattle.gather.proofs.Gathering.{many-before}
use Rattle.task_uncovered.specs.Standing.{Kept, AreaStands, kept_sizes}
use Rattle.task_uncovered.proofs.Listed.{reaching-rounds, live-rounds}

-- where no block has too many rows, each has few
pub few_rows : (all : ℕ → List (List ℕ)) → too_many all 24 ≡ false → (b : ℕ) → b < 24 → length (all b) ≤ 32
few_rows all none b h = go (ltb 32 (length (all b))) refl
  where
    go : (t : Bool) → ltb 32 (length (all b)) ≡ t → length (all b) ≤ 32
    go true q = absurd (true≢false (sym (many-before all b 24 h (ltb-true 32 (length (all b)) q)) ∙ none))
    go false q = ltb-false 32 (length (all b)) q

not_true : (b : Bool) → (b ≡ true → ⊥) → b ≡ false
not_true true h = absurd (h refl)
not_true false h = refl

-- ---- one kind of states

-- the answer is whether too many rows are met; where not, the rows of each block stand for its states
record KindStands (w blocks : ℕ) (State : ℕ → List ℕ → Type 0) (exceeds : Bool) (rows counts : List ℕ) (full : Bool) : Type 0 where
  answer : full ≡ exceeds
  memory : full ≡ false → Memory w rows counts
  stands : full ≡ false → (b : ℕ) → b < blocks → Stands (State b) (held_rows w rows counts b)

stand_for : (P : List ℕ → Type 0) (l all : List (List ℕ)) → ((r : List ℕ) → (mem same_list r all ≡ true) ↔ P r) → sorted l ≡ all → Stands P l
stand_for P l all is e = all_stand P l (λ r. (λ i. (is r).0 (rw (← e) (sorted_has l r i)), λ p. sorted_only l r (rw e ((is r).1 p))))

-- all rows of each block were gathered, `all b` for the block b
all_kind : (g : Graph) (blocks : ℕ) (State : ℕ → List ℕ → Type 0) (exceeds : Bool) (all : ℕ → List (List ℕ)) → Width g.width → blocks ≤ 24 → Listed g all
    → ((b : ℕ) (r : List ℕ) → (mem same_list r (all b) ≡ true) ↔ State b r) → (too_many all 24 ≡ false → exceeds ≡ false) → {rows counts : List ℕ} {full : Bool}
    → full ≡ false → GatheredAs g rows counts full → KindStands g.width blocks State exceeds rows counts full
all_kind g blocks State exceeds all width few listed is none {rows} {counts} {full} e h = record {
  answer = e ∙ sym (none passed);
  memory = λ q. record {
    width = width;
    long = h.long;
    many = h.many;
    few = λ b l. let few = few_rows all passed b l in omega (arith, (h.gathered e all listed b l).count, few);
  };
  stands = λ q b l. stand_for (State b) (held_rows g.width rows counts b) (all b) (is b) (held-sorted b (h.gathered e all listed b (omega arith)));
}
  where
    passed : too_many all 24 ≡ false
    passed = sym (h.answer all listed) ∙ e

told : (a b : Bool) → (a ≡ true → b ≡ true) → (a ≡ false → b ≡ true → ⊥) → a ≡ b
told true b f g = sym (f refl)
told false b f g = sym (not_true b (g refl))

-- ---- both kinds

module _ (k : Cache) (t : Task) (bounds : InBounds t) (width : Width k.width) where
  abbrev w : ℕ
  w = k.width

  real : All Real (memory_blocks t)
  real = blocks-real (length t) t bounds.each

  rounds-enough : length t * suc w ≤ enough w
  rounds-enough = let e : 24 * suc w ≡ 24 * (w + 1) = omega arith in omega (arith, mul-le-mul_right (suc w) bounds.few, e)

  reaching-stands : {rows counts : List ℕ} {full : Bool} → Kept (reach_graph k t) rows counts full → KindStands w (length t) (Reaches k t) (reaching_exceeds k t) rows counts full
  reaching-stands (inl (e, h)) =
      all_kind (reach_graph k t) (length t) (Reaches k t) (reaching_exceeds k t) (reaching k t) width bounds.few
      (reach_listed k t bounds.few bounds.some real (jumps-inside t bounds)) (reaching-rows k t) none e h
    where
      none : too_many (reaching k t) 24 ≡ false → reaching_exceeds k t ≡ false
      none e = not_true (reaching_exceeds k t) (λ q. true≢false (sym (reaching-before k t 24 bounds.few ((reaching_check k t).0 q)) ∙ e))
  reaching-stands {rows} {counts} {full} (inr h) =
      let d = reaching-rounds k t bounds.few bounds.some real (jumps-inside t bounds) (enough w) (held_rows w rows counts) full (omega (arith, rounds-enough)) h.rounds in
      record {
        answer = told full (reaching_exceeds k t) (λ e. (reaching_check k t).1 (d.0 e)) (λ e q. d.1 e ((reaching_check k t).0 q));
        memory = λ q. h.memory;
        stands = d.2;
      }

  live-stands : {rows counts : List ℕ} {full : Bool} → Kept (live_graph k t) rows counts full → KindStands w (length t) (Lives k t) (live_exceeds k t) rows counts full
  live-stands (inl (e, h)) =
      all_kind (live_graph k t) (length t) (Lives k t) (live_exceeds k t) (living k t) width bounds.few
      (live_listed k t bounds.few bounds.some real (jumps-inside t bounds)) (living-rows k t) none e h
    where
      none : too_many (living k t) 24 ≡ false → live_exceeds k t ≡ false
      none e = not_true (live_exceeds k t) (λ q. true≢false (sym (live-before k t 24 bounds.few ((live_check k t).0 q)) ∙ e))
  live-stands {rows} {counts} {full} (inr h) =
      let d = live-rounds k t bounds.few bounds.some real (jumps-inside t bounds) (enough w) (held_rows w rows counts) full rounds-enough h.rounds in
      record {
        answer = told full (live_exceeds k t) (λ e. (live_check k t).1 (d.0 e)) (λ e q. d.1 e ((live_check k t).0 q));
        memory = λ q. h.memory;
        stands = d.2;
      }

  module _ {area reached lived : List ℕ} {full : Bool} (h : Both Kept (reach_graph k t) (live_graph k t) area reached lived full) where
    first_kind : KindStands w (length t) (Reaches k t) (reaching_exceeds k t) (take (kind_length w) area) reached h.first
    first_kind = reaching-stands h.reaching

    by_first : (b : Bool) → h.first ≡ b → AreaStands k t area reached lived full
    by_first true e =
        let no : full ≡ false → ⊥ = λ q. true≢false (sym (h.stopped e) ∙ q) in
        record {
          long = h.long;
          reached_many = (kept_sizes (reach_graph k t) _ reached h.first h.reaching).1;
          lived_many = h.many;
          answer = h.stopped e ∙ ap (λ (x : Bool). x || live_exceeds k t) (sym e ∙ first_kind.answer);
          reaching_memory = λ q. absurd (no q);
          live_memory = λ q. absurd (no q);
          reaching = λ q. absurd (no q);
          live = λ q. absurd (no q);
        }
    by_first false e =
        let second-kind = live-stands (h.live e) in
        record {
          long = h.long;
          reached_many = (kept_sizes (reach_graph k t) _ reached h.first h.reaching).1;
          lived_many = h.many;
          answer = second-kind.answer ∙ ap (λ (x : Bool). x || live_exceeds k t) (sym e ∙ first_kind.answer);
          reaching_memory = λ q. first_kind.memory e;
          live_memory = second-kind.memory;
          reaching = λ q. first_kind.stands e;
          live = second-kind.stands;
        }

  -- in the code's words
  pub stands_told : {area reached lived : List ℕ} {full : Bool} → Both Kept (reach_graph k t) (live_graph k t) area reached lived full → AreaStands k t area reached lived full
  stands_told h = by_first h h.first refl
