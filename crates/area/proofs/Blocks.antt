-- The rows of 24 blocks sorted part by part, and the counts written beside them.
-- The parts of the first b blocks are done and 32 w b numbers long; the part of block b is the one that is lent next.
use mathlib.Core.Path.{◌≡◌, refl, sym, ap, ap₂, subst, ◌∙◌}
use mathlib.Core.List.{List, [], ◌++◌, append-nil, append_assoc}
use Prim.Native.Nat.{ℕ, zero, suc, ◌+◌, ◌-◌, ◌*◌, ◌≤◌, ◌<◌}
use native.Mathlib.Nat.{sub-zero, mul-zero, mul-le-mul_left}
use native.Mathlib.Numerals.{add-one}
use native.Mathlib.Omega.{arith}
use lib.ListN.{length, get_or, take, drop, replicate, length-append, length-drop, length-replicate, take-append-drop, drop_of_length-le}
use lib.Seq.{drop-drop, length-take-le}
use borrow.Rule.Slice.PartMut.{put_mid}
use Rattle.cache.specs.References.{nothing}
use Rattle.model.specs.Computed.{sorted}
use Rattle.rows.specs.Rows.{Width, rows_of, part_of, flat, kind_length, count_start, area_length}
use Rattle.rows.proofs.Parts.{next_row, after_first, row_within}
use Rattle.gather.specs.Memory.{held_rows}
use Rattle.sort.specs.Sorting.{block_part}
use Rattle.area.specs.Area.{block_parts}
use Rattle.area.specs.Kinds.{sorted_rows, Distinct, sorted_area}
use Rattle.sort.proofs.Sorted.{mid_lent, mid_back, Wide, rows-wide, sorted-wide, flat-length}
use Rattle.sort.proofs.Insertion.{lent_part}

-- ---- a list that is done up to `at`, whose next part is lent and comes back as `new`

module _ (front l : List ℕ) (at size next : ℕ) (long : length front ≡ at) (fits : next ≤ length l) (to : next ≡ at + size) {now : List ℕ} (is : now ≡ front ++ drop at l) where
  part_size : length (take size (drop at l)) ≡ size
  part_size = length-take-le size (drop at l) (simp length-drop (omega arith))

  three : now ≡ front ++ (take size (drop at l) ++ drop next l)
  three = is ∙ ap (λ (x : List ℕ). front ++ x) (rw (to, ← drop-drop size at l) (sym (take-append-drop size (drop at l))))

  pub next_lent : take size (drop at now) ≡ take size (drop at l)
  next_lent = mid_lent front (take size (drop at l)) (drop next l) at size long part_size three

  pub next_back : {new made : List ℕ} → new ≡ made → put_mid at size now new ≡ (front ++ made) ++ drop next l
  next_back {new} {made} e =
      mid_back front (take size (drop at l)) (drop next l) at size long part_size three new
      ∙ sym (append_assoc front new (drop next l)) ∙ ap (λ (x : List ℕ). (front ++ x) ++ drop next l) e

-- ---- the parts of several blocks

pub part_length : (w : ℕ) (rows : List (List ℕ)) → Wide w rows → length rows ≤ 32 → length (block_part w rows) ≡ 32 * w
part_length w rows s h =
    let few : w * length rows ≤ w * 32 = mul-le-mul_left w h in
    length-append (flat rows) (replicate (32 * w - length (flat rows)) nothing) ∙ rw (length-replicate (32 * w - length (flat rows)) nothing) (omega (arith, flat-length w rows s))

pub parts-length : (w : ℕ) (f : ℕ → List (List ℕ)) (n b : ℕ) → ((j : ℕ) → j < b + n → length (block_part w (f j)) ≡ 32 * w) → length (block_parts w f n b) ≡ 32 * w * n
parts-length w f zero b h = sym (mul-zero (32 * w))
parts-length w f (suc n) b h =
    length-append (block_part w (f b)) (block_parts w f n (suc b)) ∙ omega (arith, h b (omega arith), parts-length w f n (suc b) (λ j l. h j (omega arith)), after_first (32 * w) n)

parts_snoc : (w : ℕ) (f : ℕ → List (List ℕ)) (n b : ℕ) → block_parts w f (suc n) b ≡ block_parts w f n b ++ block_part w (f (b + n))
parts_snoc w f zero b = let e : b + 0 ≡ b = omega arith in append-nil (block_part w (f b)) ∙ ap (λ (j : ℕ). block_part w (f j)) (sym e)
parts_snoc w f (suc n) b =
    let e : suc b + n ≡ b + suc n = omega arith in
    ap (λ (x : List ℕ). block_part w (f b) ++ x) (parts_snoc w f n (suc b) ∙ ap (λ (j : ℕ). block_parts w f n (suc b) ++ block_part w (f j)) e)
    ∙ sym (append_assoc (block_part w (f b)) (block_parts w f n (suc b)) (block_part w (f (b + suc n))))

-- parts of the same rows are the same
pub parts_same : (w : ℕ) (f g : ℕ → List (List ℕ)) (n b : ℕ) → ((j : ℕ) → j < b + n → f j ≡ g j) → block_parts w f n b ≡ block_parts w g n b
parts_same w f g zero b h = refl
parts_same w f g (suc n) b h =
    ap₂ (λ (x y : List ℕ). x ++ y) (ap (block_part w) (h b (omega arith))) (parts_same w f g n (suc b) (λ j l. h j (omega arith)))

-- ---- the loop over the blocks

-- the parts of b blocks are sorted
abbrev pub blocks_done : ℕ → List ℕ → List ℕ → ℕ → List ℕ
blocks_done w rows counts b = block_parts w (sorted_rows w rows counts) b 0 ++ drop (32 * w * b) rows

pub blocks_start : (w : ℕ) (rows counts : List ℕ) → rows ≡ blocks_done w rows counts 0
blocks_start w rows counts = rw (mul-zero (32 * w))

module _ {w : ℕ} (rows counts : List ℕ) (input : Distinct w rows counts) where
  -- the part of block b ends within the rows
  pub part_ends : (b : ℕ) → b < 24 → 32 * w * b + 32 * w ≤ length rows
  part_ends b h = omega (arith, row_within (32 * w) b 24 h, input.long)

  held_part : (b : ℕ) → b < 24 → length (part_of w rows b) ≡ 32 * w
  held_part b h = length-take-le (32 * w) (drop (32 * w * b) rows) (simp length-drop (omega (arith, part_ends b h)))

  done_part : (b : ℕ) → b < 24 → length (block_part w (sorted_rows w rows counts b)) ≡ 32 * w
  done_part b h =
      let few : w * get_or counts b 0 ≤ w * 32 = mul-le-mul_left w (input.counts24.few b h) in
      part_length w (sorted_rows w rows counts b)
      (sorted-wide w (held_rows w rows counts b) (rows-wide w (get_or counts b 0) (part_of w rows b) (omega (arith, held_part b h))))
      (omega (arith, input.once b h, input.counts24.few b h))

  module _ (b : ℕ) (inside : b < 24) {now : List ℕ} (is : now ≡ blocks_done w rows counts b) where
    abbrev at : ℕ
    at = 32 * w * b

    front_long : length (block_parts w (sorted_rows w rows counts) b 0) ≡ at
    front_long = parts-length w (sorted_rows w rows counts) b 0 (λ j l. done_part j (omega arith))

    next : 32 * w * (b + 1) ≡ at + (at + 32 * w - at)
    next = omega (arith, next_row (32 * w) b)

    ends : 32 * w * (b + 1) ≤ length rows
    ends = omega (arith, part_ends b inside, next_row (32 * w) b)

    block_lent : take (at + 32 * w - at) (drop at now) ≡ part_of w rows b
    block_lent = next_lent (block_parts w (sorted_rows w rows counts) b 0) rows at (at + 32 * w - at) (32 * w * (b + 1)) front_long ends next is ∙ lent_part at (32 * w) rows

    -- what sorting the lent part asks for
    pub lent_rows : Width w × (length (take (at + 32 * w - at) (drop at now)) ≡ 32 * w) × (get_or counts b 0 ≤ 32)
        × (length (sorted (rows_of w (get_or counts b 0) (take (at + 32 * w - at) (drop at now)))) ≡ get_or counts b 0)
    lent_rows = (
      input.width,
      ap length block_lent ∙ held_part b inside,
      input.counts24.few b inside,
      ap (λ (x : List ℕ). length (sorted (rows_of w (get_or counts b 0) x))) block_lent ∙ input.once b inside,
    )

    pub block_turn : {new : List ℕ} → new ≡ block_part w (sorted (rows_of w (get_or counts b 0) (take (at + 32 * w - at) (drop at now))))
        → put_mid at (at + 32 * w - at) now new ≡ blocks_done w rows counts (b + 1)
    block_turn e =
        let zeroth : 0 + b ≡ b = omega arith in
        let more : block_parts w (sorted_rows w rows counts) (b + 1) 0 ≡ block_parts w (sorted_rows w rows counts) b 0 ++ block_part w (sorted_rows w rows counts b) =
        ap (λ (k : ℕ). block_parts w (sorted_rows w rows counts) k 0) (add-one b) ∙ parts_snoc w (sorted_rows w rows counts) b 0
        ∙ ap (λ (k : ℕ). block_parts w (sorted_rows w rows counts) b 0 ++ block_part w (sorted_rows w rows counts k)) zeroth in
        next_back (block_parts w (sorted_rows w rows counts) b 0) rows at (at + 32 * w - at) (32 * w * (b + 1)) front_long ends next is
        (e ∙ ap (λ (x : List ℕ). block_part w (sorted (rows_of w (get_or counts b 0) x))) block_lent)
        ∙ ap (λ (x : List ℕ). x ++ drop (32 * w * (b + 1)) rows) (sym more)

  pub blocks-length : length (block_parts w (sorted_rows w rows counts) 24 0) ≡ kind_length w
  blocks-length = parts-length w (sorted_rows w rows counts) 24 0 (λ j l. done_part j (omega arith)) ∙ omega arith

  pub blocks_end : (b : ℕ) → b ≡ 24 → {now : List ℕ} → now ≡ blocks_done w rows counts b → now ≡ block_parts w (sorted_rows w rows counts) 24 0
  blocks_end b e q =
      q ∙ rw (e, drop_of_length-le rows {i = 32 * w * 24} (omega (arith, input.long))) (append-nil (block_parts w (sorted_rows w rows counts) 24 0))

-- ---- the counts

module _ (part reaching live : List ℕ) (long : length part ≡ 256) (r : length reaching ≡ 24) (l : length live ≡ 24) where
  abbrev one : List ℕ → List ℕ
  one a = put_mid 0 24 part a

  abbrev two : List ℕ → List ℕ → List ℕ
  two a b = put_mid 24 24 (one a) b

  one-done : {a : List ℕ} → a ≡ reaching → one a ≡ reaching ++ drop 24 part
  one-done e = next_back [] part 0 24 24 refl (omega arith) refl refl e

  two_done : {a b : List ℕ} → a ≡ reaching → b ≡ live → two a b ≡ (reaching ++ live) ++ drop 48 part
  two_done e f = next_back reaching part 24 24 48 r (omega arith) refl (one-done e) f

  -- the three parts that were lent: the numbers of the kinds, and zeros
  pub counts_written : {a b z : List ℕ} → a ≡ reaching → b ≡ live → z ≡ replicate (length (take 208 (drop 48 (two a b)))) 0
      → put_mid 48 208 (two a b) z ≡ reaching ++ (live ++ replicate 208 0)
  counts_written {a} {b} {z} e f q =
      let both : length (reaching ++ live) ≡ 48 = length-append reaching live ∙ omega arith in
      let lent : take 208 (drop 48 (two a b)) ≡ take 208 (drop 48 part) = next_lent (reaching ++ live) part 48 208 256 both (omega arith) refl (two_done e f) in
      let size : length (take 208 (drop 48 part)) ≡ 208 = length-take-le 208 (drop 48 part) (simp length-drop (omega arith)) in
      next_back (reaching ++ live) part 48 208 256 both (omega arith) refl (two_done e f) (q ∙ ap (λ (n : ℕ). replicate n 0) (ap length lent ∙ size))
      ∙ rw (drop_of_length-le part {i = 256} (omega arith), append-nil (reaching ++ live ++ replicate 208 0)) (append_assoc reaching live (replicate 208 0))

-- ---- the whole area

module _ {w : ℕ} (area reaching live : List ℕ) (long : length area ≡ area_length w)
    (r : Distinct w (take (kind_length w) area) reaching) (l : Distinct w (take (kind_length w) (drop (kind_length w) area)) live) where
  abbrev kind : ℕ
  kind = kind_length w

  abbrev counts : ℕ
  counts = count_start w

  abbrev reached : List ℕ
  reached = block_parts w (sorted_rows w (take kind area) reaching) 24 0

  abbrev lived : List ℕ
  lived = block_parts w (sorted_rows w (take kind (drop kind area)) live) 24 0

  pub reaching_distinct : Distinct w (take (kind - 0) (drop 0 area)) reaching
  reaching_distinct = rw (sub-zero kind) r

  -- the reaching rows have come back as a
  module _ {a : List ℕ} (e : a ≡ block_parts w (sorted_rows w (take (kind - 0) (drop 0 area)) reaching) 24 0) where
    abbrev first : List ℕ
    first = put_mid 0 (kind - 0) area a

    first_done : first ≡ reached ++ drop kind area
    first_done =
        let made : a ≡ reached = e ∙ rw (sub-zero kind) in
        next_back [] area 0 (kind - 0) kind refl (omega arith) (omega arith) refl made

    live_lent : take (counts - kind) (drop kind first) ≡ take kind (drop kind area)
    live_lent =
        let size : counts - kind ≡ kind = omega arith in
        next_lent reached area kind (counts - kind) counts (blocks-length (take kind area) reaching r) (omega arith) (omega arith) first_done ∙ rw size

    pub live_distinct : Distinct w (take (counts - kind) (drop kind first)) live
    live_distinct = subst (λ (x : List ℕ). Distinct w x live) (sym live_lent) l

    -- the live rows have come back as b
    module _ {b : List ℕ} (f : b ≡ block_parts w (sorted_rows w (take (counts - kind) (drop kind first)) live) 24 0) where
      abbrev second : List ℕ
      second = put_mid kind (counts - kind) first b

      second_done : second ≡ (reached ++ lived) ++ drop counts area
      second_done =
          next_back reached area kind (counts - kind) counts (blocks-length (take kind area) reaching r) (omega arith) (omega arith) first_done
          (f ∙ ap (λ (x : List ℕ). block_parts w (sorted_rows w x live) 24 0) live_lent)

      both : length (reached ++ lived) ≡ counts
      both = length-append reached lived ∙ omega (arith, blocks-length (take kind area) reaching r, blocks-length (take kind (drop kind area)) live l)

      pub counts_lent : length (take (counts + 256 - counts) (drop counts second)) ≡ 256
      counts_lent =
          let size : counts + 256 - counts ≡ 256 = omega arith in
          ap length (next_lent (reached ++ lived) area counts (counts + 256 - counts) (area_length w) both (omega arith) (omega arith) second_done)
          ∙ rw size (length-take-le 256 (drop counts area) (simp length-drop (omega arith)))

      pub area_sorted : {z : List ℕ} → z ≡ reaching ++ (live ++ replicate 208 0) → put_mid counts (counts + 256 - counts) second z ≡ sorted_area w area reaching live
      unfolding sorted_area
      area_sorted q =
          next_back (reached ++ lived) area counts (counts + 256 - counts) (area_length w) both (omega arith) (omega arith) second_done q
          ∙ rw (drop_of_length-le area {i = area_length w} (omega arith), append-nil (reached ++ lived ++ (reaching ++ (live ++ replicate 208 0)))) (append_assoc reached lived (reaching ++ (live ++ replicate 208 0)))
