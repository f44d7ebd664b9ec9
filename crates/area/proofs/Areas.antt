-- The counts of an area, and one kind of its rows as gathering leaves them: no block has too many rows or a row twice.
-- The idea: sorted, block by block, the rows of a block are those of the definition, and so is their count.
use mathlib.Core.Path.{◌≡◌, refl, sym, ap, ◌∙◌}
use mathlib.Core.Bool.{Bool, true, false, true≢false}
use mathlib.Core.List.{List}
use Prim.Native.Nat.{ℕ, zero, suc, ◌+◌, ◌≤◌, ◌<◌}
use native.Mathlib.Omega.{arith}
use lib.Dec.{ltb}
use lib.ListN.{length, get_or}
use lib.Seq.{ext_get_or}
use borrow.Author.Tests.{ltb-true, ltb-false}
use Rattle.model.specs.Computed.{sorted}
use Rattle.rows.specs.Rows.{Width, rows_of, part_of, kind_length}
use Rattle.gather.specs.Graph.{too_many}
use Rattle.gather.specs.Gathered.{GatheredRows}
use Rattle.gather.proofs.Gathering.{many-before}
use Rattle.area.specs.Area.{block_parts, counts_from}
use Rattle.area.specs.Kinds.{sorted_rows, Distinct}
use Rattle.area.proofs.Blocks.{parts_same}

-- ---- the counts of several blocks

pub length_counts : (all : ℕ → List (List ℕ)) (n b : ℕ) → length (counts_from all n b) ≡ n
length_counts all zero b = refl
length_counts all (suc n) b = ap suc (length_counts all n (suc b))

pub counts_at : (all : ℕ → List (List ℕ)) (n b i : ℕ) → i < n → get_or (counts_from all n b) i 0 ≡ length (all (b + i))
counts_at all zero b i h = absurd (omega arith)
counts_at all (suc n) b zero h = let e : b ≡ b + 0 = omega arith in ap (λ (k : ℕ). length (all k)) e
counts_at all (suc n) b (suc i) h =
    let e : suc b + i ≡ b + suc i = omega arith in
    counts_at all n (suc b) i (omega arith) ∙ ap (λ (k : ℕ). length (all k)) e

pub few-rows : (all : ℕ → List (List ℕ)) → too_many all 24 ≡ false → (b : ℕ) → b < 24 → length (all b) ≤ 32
few-rows all none b h = go (ltb 32 (length (all b))) refl
  where
    go : (t : Bool) → ltb 32 (length (all b)) ≡ t → length (all b) ≤ 32
    go true q = absurd (true≢false (sym (many-before all b 24 h (ltb-true 32 (length (all b)) q)) ∙ none))
    go false q = ltb-false 32 (length (all b)) q

-- ---- one kind of rows

pub record Held (w : ℕ) (all : ℕ → List (List ℕ)) (rows counts : List ℕ) : Type 0 where
  pub width : Width w
  pub long : length rows ≡ kind_length w
  pub many : length counts ≡ 24
  pub none : too_many all 24 ≡ false
  pub each : (b : ℕ) → b < 24 → GatheredRows w all rows counts b

module _ {w : ℕ} (all : ℕ → List (List ℕ)) (rows counts : List ℕ) (held : Held w all rows counts) where
  sorted_all : (b : ℕ) → b < 24 → sorted_rows w rows counts b ≡ all b
  sorted_all b h = ap (λ (k : ℕ). sorted (rows_of w k (part_of w rows b))) (held.each b h).count ∙ (held.each b h).list

  pub kind_distinct : Distinct w rows counts
  kind_distinct =
      record {
        width = held.width;
        long = held.long;
        counts24 = record { many = held.many; few = λ b h. omega (arith, few-rows all held.none b h, (held.each b h).count) };
        once = λ b h. ap length (sorted_all b h) ∙ sym (held.each b h).count;
      }

  pub kind_parts : block_parts w (sorted_rows w rows counts) 24 0 ≡ block_parts w all 24 0
  kind_parts = parts_same w (sorted_rows w rows counts) all 24 0 (λ b h. sorted_all b (omega arith))

  pub kind_counts : counts ≡ counts_from all 24 0
  kind_counts =
      ext_get_or 0 counts (counts_from all 24 0) (held.many ∙ sym (length_counts all 24 0))
      (λ i h. let low : i < 24 = omega arith in let e : i ≡ 0 + i = omega arith in
      (held.each i low).count ∙ ap (λ (k : ℕ). length (all k)) e ∙ sym (counts_at all 24 0 i low))
