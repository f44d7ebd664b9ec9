-- The numbers of a task against all tasks are its pair numbers: `numbers-few`.
-- The idea: what was gathered in the work area are the states of the task, and they were met by the end rows of each task.
use mathlib.Core.Path.{◌≡◌, refl, sym, ap, ◌∙◌}
use mathlib.Core.Bool.{Bool, true, false, true≢false}
use mathlib.Core.List.{List}
use Prim.Native.Nat.{ℕ, ◌<◌, max}
use native.Mathlib.Omega.{arith}
use lib.ListN.{length, get_or, take, drop}
use Rattle.cache.specs.Cache.{Cache}
use Rattle.model.specs.Tasks.{Task, task}
use Rattle.model.specs.Computed.{reaching, living, pair_number}
use Rattle.body.specs.Layout.{InBounds}
use Rattle.body.proofs.Decoded.{blocks-real}
use Rattle.rows.specs.Rows.{Width, kind_length}
use Rattle.gather.specs.Graph.{too_many}
use Rattle.gather.specs.Memory.{held_rows, Memory}
use Rattle.gather.specs.Gathered.{GatheredRows}
use Rattle.graphs.specs.TaskRows.{test11, AreaRows}
use Rattle.graphs.proofs.Gathered.{held-sorted}
use Rattle.project.proofs.Accepted.{or_false_left, or_false_right}
use Rattle.area.proofs.Areas.{few-rows}
use Rattle.pairs.specs.Pairs.{end_rows, Met}
use Rattle.pairs.specs.declared.ends.Ends.{Ends}
use Rattle.task_pairs.specs.TaskPairs.{task_most}
use Rattle.task_pairs.proofs.PairNumbers.{pair-number}
use Rattle.file_pairs.specs.Found.{Few, AllFound, NumbersFound}

gathered-memory : {w : ℕ} (all : ℕ → List (List ℕ)) {rows counts : List ℕ} → Width w → length rows ≡ kind_length w → length counts ≡ 24 → too_many all 24 ≡ false
    → ((b : ℕ) → b < 24 → GatheredRows w all rows counts b) → Memory w rows counts
gathered-memory all width long many none g =
    record { width = width; long = long; many = many; few = λ b l. let few = few-rows all none b l in omega (arith, (g b l).count, few) }

-- rows and live are the rows of each kind
module _ (k : Cache) (t : Task) {area reached lived : List ℕ} {full : Bool} (h : AreaRows k t area reached lived full) where
  -- a block has too many states
  pub numbers_full : (ts : List Task) (tasks : ℕ) {numbers : List ℕ} → full ≡ true → length numbers ≡ 8 → NumbersFound k ts tasks t numbers numbers true
  numbers_full ts tasks e long =
      record {
        long = long;
        answer = sym e ∙ h.rows.answer;
        found = λ q. absurd (true≢false q);
        rest = λ q. absurd (true≢false q);
        refused = λ q. refl;
      }

  module _ (few : full ≡ false) where
    none : test11 k t ≡ false
    none = sym h.rows.answer ∙ few

    module _ {rows live : List ℕ} (first : rows ≡ take (kind_length k.width) area) (second : live ≡ take (kind_length k.width) (drop (kind_length k.width) area)) where
      pub reaching-memory : Width k.width → Memory k.width rows reached
      reaching-memory width =
          rw first
          (gathered-memory (reaching k t) width h.rows.reaching_long h.rows.reaching_many (or_false_left (too_many (reaching k t) 24) (too_many (living k t) 24) none) (h.rows.reached few))

      pub live-memory : Width k.width → Memory k.width live lived
      live-memory width =
          rw second
          (gathered-memory (living k t) width h.rows.live_long h.rows.live_many (or_false_right (too_many (reaching k t) 24) (too_many (living k t) 24) none) (h.rows.lived few))

      pub numbers-few : (ts : List Task) (ends : Ends) → ends.w ≡ k.width → {old new : List ℕ} → InBounds t → length old ≡ 8 → AllFound k ts ends
          → Met (task_most k t (held_rows k.width rows reached) (held_rows k.width live lived) (length t) 0) ends ends.tasks old new
          → NumbersFound k ts ends.tasks t old new false
      numbers-few ts ends wide {old} {new} bounds long found met =
          record {
            long = met.long ∙ long;
            answer = sym none;
            found = λ q j l f. met.each j l ∙ ap (max (get_or old j 0)) (number j l f);
            rest = λ q j l. met.rest j l;
            refused = λ q. absurd (true≢false (sym q));
          }
        where
          number : (j : ℕ) → j < ends.tasks → Few k (task ts j)
              → task_most k t (held_rows k.width rows reached) (held_rows k.width live lived) (length t) 0 (end_rows ends j) ≡ pair_number k t (task ts j)
          number j l f =
              pair-number k t (task ts j) (held_rows k.width rows reached) (held_rows k.width live lived) (end_rows ends j) bounds.few
              (blocks-real (length t) t bounds.each)
              (λ b i. rw first (held-sorted b (h.rows.reached few b (omega (arith, bounds.few))))) (λ b i. rw second (held-sorted b (h.rows.lived few b (omega (arith, bounds.few)))))
              (rw wide (found.found j l f))
