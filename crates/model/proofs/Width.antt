-- Rows may be wider than the cache has blocks: the states are the same rows with nothings after them, so that a block has as many, and pair numbers,
-- misses, counts of runs and lost hits are the same.
-- The idea: a reference goes to a place below n, so the places from n on keep their nothing; two nothings are never useful.
use mathlib.Core.Path.{◌≡◌, refl, sym, ap, ◌∙◌}
use mathlib.Core.Bool.{◌&&◌}
use mathlib.Core.List.{List, ◌++◌}
use Prim.Native.Nat.{ℕ, zero, suc, ◌+◌, ◌-◌, ◌≤◌, ◌<◌, ◌%◌}
use native.Mathlib.Nat.{mod-lt, add-suc, add-zero}
use native.Mathlib.Omega.{arith}
use lib.Dec.{eqb}
use lib.ListN.{length, replicate, get_or-replicate, replicate-append-replicate, get_or-append}
use lib.Seq.{set-append_left, get_or-append-add}
use borrow.Author.Tests.{eq-eqb}
use Rattle.cache.specs.Sum.{bit, sum}
use Rattle.cache.specs.References.{nothing}
use Rattle.cache.specs.Cache.{Cache, one_line, wide, direct, held, empty_row, misses}
use Rattle.cache.specs.Sets.{useful, replaces, useful_replaced}
use Rattle.cache.proofs.Sums.{sum_cong}
use Rattle.model.specs.Tasks.{Task}
use Rattle.model.specs.Runs.{Preemption, points, count_at_end, lost_at_end}
use Rattle.model.specs.Computed.{reaching, living, pair_number}
use Rattle.model.proofs.Policies.{one_lawful}
use Rattle.model.proofs.RunEvents.{run_events}
use Rattle.model.proofs.Hits.{lost_events}
use Rattle.model.proofs.Wider.{Wider, count-reaching_wider, count-living_wider, number_wider, misses_wider, count_wider, lost_wider}

module _ (n : ℕ) (pos : 0 < n) (d : ℕ) where
  abbrev narrow : Cache
  narrow = direct n

  abbrev broad : Cache
  broad = wide (n + d) n

  abbrev rest : List ℕ
  rest = replicate d nothing

  held_inner : (row : List ℕ) (c : ℕ) → length row ≡ n → c < n → held (row ++ rest) c ≡ held row c
  held_inner row c e h = get_or-append row rest nothing c (rw e h)

  held_outer : (row : List ℕ) (c : ℕ) → length row ≡ n → c < d → held (row ++ rest) (n + c) ≡ nothing
  held_outer row c e h = rw (← e) (get_or-append-add row rest c nothing ∙ get_or-replicate d c nothing nothing h)

  pub wider : Wider (one_line (direct n)) (one_line (wide (n + d) n)) (replicate d nothing)
  wider = record {
    narrow_lawful = one_lawful narrow;
    broad_lawful = one_lawful broad;
    first_same = sym (replicate-append-replicate n d nothing);
    refer_same = λ row m e. set-append_left row rest (m % n) m (rw e (mod-lt m pos));
    found_same = λ row m e. ap (λ (x : ℕ). eqb x m) (held_inner row (m % n) e (mod-lt m pos));
  }

  sum_outer : (m : ℕ) (f : ℕ → ℕ) → ((c : ℕ) → c < m → f (n + c) ≡ 0) → sum (n + m) f ≡ sum n f
  sum_outer zero f h = ap (λ x. sum x f) (add-zero n)
  sum_outer (suc m) f h = ap (λ x. sum x f) (add-suc n m) ∙ omega (arith, sum_outer m f (λ c l. h c (omega arith)), h m (omega arith))

  same_count : (r l f : List ℕ) → length r ≡ n → length l ≡ n → length f ≡ n → useful_replaced broad (r ++ rest) (l ++ rest) (f ++ rest) ≡ useful_replaced narrow r l f
  same_count r l f er el ef =
      sum_outer d (λ c. bit (useful (r ++ rest) (l ++ rest) c && replaces (f ++ rest) (r ++ rest) c))
      (λ c h. rw (held_outer r c er h, held_outer l c el h, eq-eqb nothing nothing refl))
      ∙ sum_cong n _ _ (λ c h. rw (held_inner r c er h, held_inner l c el h, held_inner f c ef h))

module _ (n w : ℕ) (pos : 0 < n) (h : n ≤ w) where
  abbrev more : w ≡ n + (w - n)
  more = omega arith

  -- the pair number: it depends on n and the two tasks alone
  pub pair-width : (i j : Task) → pair_number (wide w n) i j ≡ pair_number (direct n) i j
  pair-width i j = rw more (number_wider (wider n pos (w - n)) (useful_replaced (direct n)) (useful_replaced (wide (n + (w - n)) n)) (same_count n pos (w - n)) i j)

  -- how many states a block has
  pub count-reaching : (t : Task) (b : ℕ) → length (reaching (wide w n) t b) ≡ length (reaching (direct n) t b)
  count-reaching t b = rw more (count-reaching_wider (wider n pos (w - n)) t b)

  pub count-living : (t : Task) (b : ℕ) → length (living (wide w n) t b) ≡ length (living (direct n) t b)
  count-living t b = rw more (count-living_wider (wider n pos (w - n)) t b)

  -- the misses of references, U and D, and the lost hits
  pub misses-width : (ms : List ℕ) → misses (wide w n) (empty_row (wide w n)) ms ≡ misses (direct n) (empty_row (direct n)) ms
  misses-width ms = rw more (misses_wider (wider n pos (w - n)) ms)

  pub count-width : (ts : List Task) (t : Task) (path : List ℕ) (xs : List Preemption) → count_at_end (wide w n) ts t path xs ≡ count_at_end (direct n) ts t path xs
  count-width ts t path xs = rw more (count_wider (wider n pos (w - n)) ts t path xs)

  pub lost-width : (ts : List Task) (t : Task) (path : List ℕ) (xs : List Preemption) → lost_at_end (wide w n) ts t path xs ≡ lost_at_end (direct n) ts t path xs
  lost-width ts t path xs =
      lost_events (wide w n) ts t path xs
      ∙ rw more (lost_wider (wider n pos (w - n)) (run_events ts xs (points t 0 path)))
      ∙ sym (lost_events (direct n) ts t path xs)
