-- After an accepting call the rows of a block in the area are exactly those that paths make, in dictionary order.
-- The idea, for rows of every width: the area is made of parts of known length, so each block's rows and count are read where they were put.
use mathlib.Core.Path.{◌≡◌, sym, ap, ap₂, subst, ◌∙◌}
use mathlib.Core.Logic.{◌↔◌}
use mathlib.Core.Bool.{Bool, true, false, cond}
use mathlib.Core.List.{List, ◌∷◌, ◌++◌, append_assoc}
use Prim.Native.Nat.{ℕ, zero, suc, ◌+◌, ◌-◌, ◌*◌, ◌<◌}
use native.Mathlib.Nat.{mul-zero}
use native.Mathlib.Omega.{arith}
use lib.Dec.{leb}
use lib.ListN.{length, get_or, take, drop, replicate, get_or-append}
use lib.Seq.{take_at, drop_at, drop-drop, get_or-append-add}
use Rattle.cache.specs.Cache.{Cache, empty_row}
use Rattle.cache.specs.References.{nothing}
use Rattle.cache.proofs.Rows.{length-empty_row, length-with_references, length-firsts_over, first_references_fold}
use Rattle.model.specs.Lists.{mem}
use Rattle.model.specs.Tasks.{Task, task, references}
use Rattle.model.specs.States.{Reaches, Lives}
use Rattle.model.specs.Order.{Rising}
use Rattle.model.specs.Computed.{same_list, reaching, living}
use Rattle.model.proofs.Membership.{each_of}
use Rattle.model.proofs.Sorted.{reaching-rows, living-rows, reaching-rising, living-rising}
use Rattle.rows.specs.Rows.{rows_of, part_of, flat, kind_length, count_start}
use Rattle.rows.proofs.Parts.{after_first}
use Rattle.gather.specs.Graph.{too_many}
use Rattle.graphs.specs.TaskRows.{test11}
use Rattle.std.specs.Prelude.{Ok}
use Rattle.project.specs.declared.answers.Check.TheVariants.{ListLength, TooManyStates, NoSuchTask}
use Rattle.project.specs.File.{task_count}
use Rattle.project.specs.Checklist.{no_task}
use Rattle.project.specs.Reading.{file_check}
use Rattle.project.specs.Tasks.{tasks_of, file_cache_in}
use Rattle.project.proofs.Accepted.{unless-passed, then_passed, or_false_left, or_false_right}
use Rattle.sort.specs.Sorting.{block_part}
use Rattle.area.specs.Area.{block_parts, counts_from, area_of}
use Rattle.states.specs.Filling.{task_check, test1, filling_of, area_after}
use Rattle.states.proofs.Fillings.{task-parts}
use Rattle.area.specs.RowPart.{kind_start, count_in, rows_in}
use Rattle.sort.proofs.Sorted.{Wide, rows-flat}
use Rattle.area.proofs.Blocks.{part_length, parts-length}
use Rattle.area.proofs.Areas.{few-rows, length_counts, counts_at}

-- ---- the part of one block among the parts of several

part_at : (w : ℕ) (f : ℕ → List (List ℕ)) (n b i : ℕ) (rest : List ℕ) → i < n → ((j : ℕ) → j < b + n → length (block_part w (f j)) ≡ 32 * w)
    → take (32 * w) (drop (32 * w * i) (block_parts w f n b ++ rest)) ≡ block_part w (f (b + i))
part_at w f zero b i rest h long = absurd (omega arith)
part_at w f (suc n) b zero rest h long =
    let e : b ≡ b + 0 = omega arith in
    ap (λ (k : ℕ). take (32 * w) (drop k (block_parts w f (suc n) b ++ rest))) (mul-zero (32 * w))
    ∙ ap (take (32 * w)) (append_assoc (block_part w (f b)) (block_parts w f n (suc b)) rest)
    ∙ take_at (block_part w (f b)) (block_parts w f n (suc b) ++ rest) (32 * w) (long b (omega arith))
    ∙ ap (λ (k : ℕ). block_part w (f k)) e
part_at w f (suc n) b (suc i) rest h long =
    let g : suc b + i ≡ b + suc i = omega arith in
    ap (λ (k : ℕ). take (32 * w) (drop k (block_parts w f (suc n) b ++ rest))) (after_first (32 * w) i)
    ∙ ap (take (32 * w)) (sym (drop-drop (32 * w * i) (32 * w) (block_parts w f (suc n) b ++ rest)))
    ∙ ap (λ (x : List ℕ). take (32 * w) (drop (32 * w * i) (drop (32 * w) x))) (append_assoc (block_part w (f b)) (block_parts w f n (suc b)) rest)
    ∙ ap (λ (x : List ℕ). take (32 * w) (drop (32 * w * i) x)) (drop_at (block_part w (f b)) (block_parts w f n (suc b) ++ rest) (32 * w) (long b (omega arith)))
    ∙ part_at w f n (suc b) i rest (omega arith) (λ k l. long k (omega arith))
    ∙ ap (λ (k : ℕ). block_part w (f k)) g

-- ---- rows that paths make have the cache's width

reaching-wide : (k : Cache) (t : Task) (b : ℕ) → Wide k.width (reaching k t b)
reaching-wide k t b =
    each_of (λ (r : List ℕ). length r ≡ k.width) (reaching k t b)
    (λ row e. let (p, path, q) = (reaching-rows k t b row).0 e in ap length q ∙ length-with_references k (references t (0 ∷ p)) (empty_row k) (length-empty_row k))

living-wide : (k : Cache) (t : Task) (b : ℕ) → Wide k.width (living k t b)
living-wide k t b =
    each_of (λ (r : List ℕ). length r ≡ k.width) (living k t b)
    (λ row e. let (p, path, q) = (living-rows k t b row).0 e in
    ap length (q ∙ first_references_fold k (references t p)) ∙ length-firsts_over k (references t p) (empty_row k) (length-empty_row k))

-- ---- an area of the definitions, none of whose blocks has too many rows

module _ (w : ℕ) (r l : ℕ → List (List ℕ)) (rwide : (b : ℕ) → Wide w (r b)) (lwide : (b : ℕ) → Wide w (l b)) (rfew : too_many r 24 ≡ false) (lfew : too_many l 24 ≡ false) where
  abbrev counts : List ℕ
  counts = counts_from r 24 0 ++ (counts_from l 24 0 ++ replicate 208 0)

  abbrev whole : List ℕ
  whole = block_parts w r 24 0 ++ (block_parts w l 24 0 ++ counts)

  r_part : (j : ℕ) → j < 24 → length (block_part w (r j)) ≡ 32 * w
  r_part j h = part_length w (r j) (rwide j) (few-rows r rfew j h)

  l_part : (j : ℕ) → j < 24 → length (block_part w (l j)) ≡ 32 * w
  l_part j h = part_length w (l j) (lwide j) (few-rows l lfew j h)

  r_long : length (block_parts w r 24 0) ≡ kind_length w
  r_long = parts-length w r 24 0 (λ j h. r_part j (omega arith)) ∙ omega arith

  l_long : length (block_parts w l 24 0) ≡ kind_length w
  l_long = parts-length w l 24 0 (λ j h. l_part j (omega arith)) ∙ omega arith

  live-from : drop (kind_length w) whole ≡ block_parts w l 24 0 ++ counts
  live-from = drop_at (block_parts w r 24 0) (block_parts w l 24 0 ++ counts) (kind_length w) r_long

  -- a number after both kinds of rows
  after-rows : (i : ℕ) → get_or whole (count_start w + i) 0 ≡ get_or counts i 0
  after-rows i =
      let e : count_start w + i ≡ length (block_parts w r 24 0) + (length (block_parts w l 24 0) + i) = omega (arith, r_long, l_long) in
      ap (λ (k : ℕ). get_or whole k 0) e
      ∙ get_or-append-add (block_parts w r 24 0) (block_parts w l 24 0 ++ counts) (length (block_parts w l 24 0) + i) 0
      ∙ get_or-append-add (block_parts w l 24 0) counts i 0

  module _ (b : ℕ) (inside : b < 24) where
    zeroth : 0 + b ≡ b
    zeroth = omega arith

    -- the count of the block's rows, live or reaching, and its part
    count_of : (live : Bool) → count_in w whole live b ≡ length (cond live (l b) (r b))
    count_of false =
        after-rows b ∙ get_or-append (counts_from r 24 0) (counts_from l 24 0 ++ replicate 208 0) 0 b (omega (arith, length_counts r 24 0))
        ∙ counts_at r 24 0 b inside ∙ ap (λ (k : ℕ). length (r k)) zeroth
    count_of true =
        let e : count_start w + 24 + b ≡ count_start w + (24 + b) = omega arith in
        let g : 24 + b ≡ length (counts_from r 24 0) + b = omega (arith, length_counts r 24 0) in
        ap (λ (k : ℕ). get_or whole k 0) e ∙ after-rows (24 + b)
        ∙ ap (λ (k : ℕ). get_or counts k 0) g
        ∙ get_or-append-add (counts_from r 24 0) (counts_from l 24 0 ++ replicate 208 0) b 0
        ∙ get_or-append (counts_from l 24 0) (replicate 208 0) 0 b (omega (arith, length_counts l 24 0))
        ∙ counts_at l 24 0 b inside ∙ ap (λ (k : ℕ). length (l k)) zeroth

    part_of_lem : (live : Bool) → part_of w (drop (kind_start w live) whole) b ≡ block_part w (cond live (l b) (r b))
    part_of_lem false = part_at w r 24 0 b (block_parts w l 24 0 ++ counts) inside (λ j h. r_part j (omega arith)) ∙ ap (λ (k : ℕ). block_part w (r k)) zeroth
    part_of_lem true =
        ap (λ (x : List ℕ). part_of w x b) live-from ∙ part_at w l 24 0 b counts inside (λ j h. l_part j (omega arith)) ∙ ap (λ (k : ℕ). block_part w (l k)) zeroth

-- ---- an accepting call

module _ (w : ℕ) (s : List ℕ) (j : ℕ) (area : List ℕ) (ok : filling_of w s j area ≡ Ok tt) where
  abbrev its : Task
  its = task (tasks_of s) j

  abbrev k : Cache
  k = file_cache_in w s

  pub filled_area : area_after w s j area ≡ area_of k its
  unfolding filling_of area_after
  filled_area = let (t, c) = unless-passed ListLength no_task (test1 w area) (task_check w s j) ok in rw (t, c)

  -- the file is accepted, and check 11 of the task passes
  filled-passed : (file_check s ≡ Ok tt) × (test11 k its ≡ false)
  unfolding filling_of
  filled-passed =
      let (f, r) = then_passed (file_check s) _ (sym (task-parts w s j) ∙ (unless-passed ListLength no_task (test1 w area) (task_check w s j) ok).1) in
      (f, (unless-passed TooManyStates j (test11 k its) (Ok tt) (unless-passed NoSuchTask no_task (leb (task_count s) j) _ r).1).0)

  pub filled-file : file_check s ≡ Ok tt
  filled-file = filled-passed.0

  none-reaching : too_many (reaching k its) 24 ≡ false
  none-reaching = or_false_left (too_many (reaching k its) 24) (too_many (living k its) 24) filled-passed.1

  none-living : too_many (living k its) 24 ≡ false
  none-living = or_false_right (too_many (reaching k its) 24) (too_many (living k its) 24) filled-passed.1

  module _ (b : ℕ) (inside : b < 24) where
    -- the states of the block: the live ones, or the reaching ones
    abbrev pub states_of : Bool → List (List ℕ)
    states_of live = cond live (living k its b) (reaching k its b)

    pub states-wide : (live : Bool) → Wide w (states_of live)
    states-wide true = living-wide k its b
    states-wide false = reaching-wide k its b

    -- their count and their part, where they stand in the area
    pub count_at_lem : (live : Bool) → count_in w (area_after w s j area) live b ≡ length (states_of live)
    count_at_lem live = rw filled_area (count_of w (reaching k its) (living k its) (reaching-wide k its) (living-wide k its) none-reaching none-living b inside live)

    pub part_at-place : (live : Bool) → part_of w (drop (kind_start w live) (area_after w s j area)) b ≡ block_part w (states_of live)
    part_at-place live = rw filled_area (part_of_lem w (reaching k its) (living k its) (reaching-wide k its) (living-wide k its) none-reaching none-living b inside live)

    pub states_in : (live : Bool) → rows_in w (area_after w s j area) live b ≡ states_of live
    states_in live = ap₂ (rows_of w) (count_at_lem live) (part_at-place live) ∙ rows-flat w (states_of live) (replicate (32 * w - length (flat (states_of live))) nothing) (states-wide live)

    -- a row is among the reaching rows of the block exactly when some path makes it
    pub area_reaching : (row : List ℕ) → (mem same_list row (rows_in w (area_after w s j area) false b) ≡ true) ↔ Reaches k its b row
    area_reaching row =
        subst (λ (x : List (List ℕ)). (mem same_list row x ≡ true) ↔ Reaches k its b row) (sym (states_in false)) (reaching-rows k its b row)

    -- and among the live rows exactly when it is live on some way on
    pub area_living : (row : List ℕ) → (mem same_list row (rows_in w (area_after w s j area) true b) ≡ true) ↔ Lives k its b row
    area_living row =
        subst (λ (x : List (List ℕ)). (mem same_list row x ≡ true) ↔ Lives k its b row) (sym (states_in true)) (living-rows k its b row)

    -- both in dictionary order, no row twice
    pub area_rising : Rising (rows_in w (area_after w s j area) false b) × Rising (rows_in w (area_after w s j area) true b)
    area_rising = (subst Rising (sym (states_in false)) (reaching-rising k its b), subst Rising (sym (states_in true)) (living-rising k its b))
