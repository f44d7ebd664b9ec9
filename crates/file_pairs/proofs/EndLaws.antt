-- The end rows of a task are those gathered at its end block, and those of each task stand in a part of their own.
-- The idea: rows that are copied are the same rows; a part that is replaced leaves the others.
use mathlib.Core.Path.{◌≡◌, refl, sym, ap, ap₂, ◌∙◌}
use mathlib.Core.Logic.{◌≢◌}
use mathlib.Core.Bool.{Bool, true, false, true≢false}
use mathlib.Core.List.{List, ◌∷◌, ◌++◌}
use Prim.Native.Nat.{ℕ, zero, suc, ◌+◌, ◌*◌, ◌-◌, ◌%◌, ◌≤◌, ◌<◌}
use native.Mathlib.Nat.{not-suc-le-zero, mul-zero}
use native.Mathlib.Omega.{arith}
use lib.Dec.{eqb, ltb}
use lib.ListN.{length, get_or, set, take, drop, replicate, length-set, length-replicate, length-append, length-drop}
use lib.Seq.{get_or-set_same, get_or-set_other, length-take-le, take-take}
use borrow.Author.Tests.{eqb-true, eqb-false, ltb-true, ltb-false}
use borrow.Rule.Slice.PartMut.{put_mid}
use Rattle.cache.specs.Cache.{Cache}
use Rattle.model.specs.Tasks.{Task, end, task}
use Rattle.model.specs.Computed.{sorted, reaching}
use Rattle.rows.specs.Rows.{Width, rows_of, part_of}
use Rattle.rows.proofs.Parts.{after_first, row_within, replaced_length, replaced_here, replaced_before, replaced_after, lent_back, lent_first, lent_front, part_of_part}
use Rattle.gather.specs.Gathered.{GatheredRows}
use Rattle.graphs.specs.TaskRows.{KindRows}
use Rattle.area.proofs.Areas.{few-rows}
use Rattle.row_sets.specs.Sets.{Joined}
use Rattle.pairs.specs.Ends.{ends_of, one_of, ends_length}
use Rattle.file_pairs.specs.Found.{Few, AllEnds, TaskEnds, OneStored, EndsFound, NoOthers}

-- ---- rows that were copied

-- the first n rows are those of the first w n numbers
rows-first : (w n : ℕ) (l m : List ℕ) → take (w * n) l ≡ take (w * n) m → rows_of w n l ≡ rows_of w n m
rows-first w zero l m e = refl
rows-first w (suc n) l m e =
    let s = after_first w n in
    let whole = w * suc n in
    ap₂ (λ (r : List ℕ) (rs : List (List ℕ)). r ∷ rs)
    (sym (take-take w whole l (omega (arith, s))) ∙ ap (take w) e ∙ take-take w whole m (omega (arith, s)))
    (rows-first w n (drop w l) (drop w m)
    (sym (part_of_part (w * n) w whole l (omega (arith, s))) ∙ ap (λ (x : List ℕ). take (w * n) (drop w x)) e ∙ part_of_part (w * n) w whole m (omega (arith, s))))

-- rows of whole chunks are whole chunks
pub rows-chunks : (w n : ℕ) → w % 16 ≡ 0 → w * n % 16 ≡ 0
rows-chunks w zero e = rw (mul-zero w) (omega arith)
rows-chunks w (suc n) e = omega (arith, after_first w n, rows-chunks w n e)

-- no more than 32 rows, from where the rows of block b of 24 begin
pub rows_fit : (w b n : ℕ) → b < 24 → n ≤ 32 → (32 * w * b + w * n ≤ 24 * (32 * w)) × (w * n ≤ 32 * w)
rows_fit w b n h few =
    let some : w * n ≤ 32 * w = omega (arith, row_within w n 33 (omega arith)) in
    (omega (arith, row_within (32 * w) b 24 h, some), some)

-- ---- no block has too many rows

pub counts_few : {w : ℕ} {all : ℕ → List (List ℕ)} {rows counts : List ℕ} {full : Bool} → KindRows w all rows counts full → full ≡ false → (b : ℕ) → b < 24 → get_or counts b 0 ≤ 32
counts_few {all = all} h q b l = let few = few-rows all (sym h.answer ∙ q) b l in omega (arith, (h.gathered q b l).count, few)

module _ (k : Cache) (t : Task) (rows counts ends : List ℕ) {full : Bool} (long : length ends ≡ 32 * k.width) (h : KindRows k.width (reaching k t) rows counts full) where
  -- none where a block has too many reaching states
  pub ends_full : full ≡ true → TaskEnds k t rows ends 0
  ends_full q = record { rows_long = h.long; ends_long = long; few = omega arith; found = λ f. absurd (true≢false (sym q ∙ h.answer ∙ f)); none = λ d. refl }

  -- else the rows gathered at the end block, which were copied to the front of the room
  module _ (q : full ≡ false) (blocks : ℕ) (e : blocks ≡ length t) (lo : 1 ≤ blocks) (hi : blocks ≤ 24) where
    abbrev last : ℕ
    last = blocks - 1

    abbrev count : ℕ
    count = get_or counts last 0

    abbrev first : ℕ
    first = 32 * k.width * last

    abbrev size : ℕ
    size = k.width * count

    few : count ≤ 32
    few = counts_few h q last (omega arith)

    pub lent_size : length (take (first + size - first) (drop first rows)) ≡ size
    lent_size =
        let s : first + size - first ≡ size = omega arith in
        rw s (length-take-le size (drop first rows) (rw length-drop (omega (arith, rows_fit k.width last count (omega arith) few, h.long))))

    module _ {copied : List ℕ} (c : copied ≡ take (first + size - first) (drop first rows)) where
      abbrev filled : List ℕ
      filled = put_mid 0 (size - 0) ends copied

      pub filled-long : length filled ≡ 32 * k.width
      filled-long =
          rw (length-append copied (drop (size - 0) ends), length-drop (size - 0) ends)
          (omega (arith, ap length c, lent_size, long, rows_fit k.width last count (omega arith) few))

      same : rows_of k.width count filled ≡ rows_of k.width count (part_of k.width rows last)
      same =
          let s : first + size - first ≡ size = omega arith in
          rows-first k.width count filled (part_of k.width rows last)
          (sym (lent_first size filled)
          ∙ lent_front size ends (take (first + size - first) (drop first rows)) c lent_size
          ∙ ap (λ (n : ℕ). take n (drop first rows)) s
          ∙ sym (take-take size (32 * k.width) (drop first rows) (rows_fit k.width last count (omega arith) few).1))

      pub ends-few : TaskEnds k t rows filled count
      ends-few =
          record {
            rows_long = h.long;
            ends_long = filled-long;
            few = few;
            found = λ x. ap sorted same ∙ at-end;
            none = λ d. absurd (d (sym h.answer ∙ q));
          }
        where
          g : GatheredRows k.width (reaching k t) rows counts last
          g = h.gathered q last (omega arith)

          at-end : sorted (rows_of k.width count (part_of k.width rows last)) ≡ reaching k t (end t)
          at-end = rw g.count (g.list ∙ ap (reaching k t) (ap (λ (x : ℕ). x - 1) e))

-- ---- a row for the end rows of a task is stored

-- the end rows of task j were lent as a part
pub part_long : (w j : ℕ) (ends : List ℕ) → j < 8 → length ends ≡ ends_length w → length (take (32 * w * j + 32 * w - 32 * w * j) (drop (32 * w * j) ends)) ≡ 32 * w
part_long w j ends h long =
    let s : 32 * w * j + 32 * w - 32 * w * j ≡ 32 * w = omega arith in
    rw s (length-take-le (32 * w) (drop (32 * w * j) ends) (rw length-drop (omega (arith, row_within (32 * w) j 8 h, long))))

module _ (w j count : ℕ) (old one : List ℕ) (inside : j < 8) (long : length old ≡ ends_length w) where
  abbrev place : ℕ
  place = 8 * (32 * w) + w * j

  abbrev first-end : ℕ
  first-end = 32 * w * j

  place-fits : place + w ≤ length old
  place-fits = omega (arith, long, row_within w j 8 inside)

  pub one_stored : {cells : ℕ} → Joined w (rows_of w count (take (first-end + 32 * w - first-end) (drop first-end old))) one cells
      → OneStored w j count old (put_mid place (place + w - place) old one) cells
  one_stored is =
      record {
        long = ap length back ∙ replaced_length old one place w place-fits wide;
        parts = λ i l. ap (λ (x : List ℕ). take (32 * w) (drop (32 * w * i) x)) back
            ∙ replaced_before old one place w place-fits wide (32 * w) (32 * w * i) (omega (arith, row_within (32 * w) i 8 l));
        others = λ i l d. ap (λ (x : List ℕ). take w (drop (8 * (32 * w) + w * i) x)) back ∙ other i d (ltb i j) refl;
        joined = rw (ap (λ (x : List ℕ). take w (drop place x)) back ∙ replaced_here old one place w place-fits wide) (rw part at is);
      }
    where
      wide : length one ≡ w
      wide = is.row.wide

      back : put_mid place (place + w - place) old one ≡ take place old ++ (one ++ drop (place + w) old)
      back = lent_back place w old one

      part : take (first-end + 32 * w - first-end) (drop first-end old) ≡ part_of w old j
      part =
          let s : first-end + 32 * w - first-end ≡ 32 * w = omega arith in
          ap (λ (n : ℕ). take n (drop first-end old)) s

      other : (i : ℕ) → i ≢ j → (b : Bool) → ltb i j ≡ b
          → take w (drop (8 * (32 * w) + w * i) (take place old ++ (one ++ drop (place + w) old))) ≡ take w (drop (8 * (32 * w) + w * i) old)
      other i d true e = replaced_before old one place w place-fits wide w (8 * (32 * w) + w * i) (omega (arith, row_within w i j (ltb-true i j e)))
      other i d false e =
          let after : j < i = omega (arith, ltb-false i j e, d) in
          replaced_after old one place w place-fits wide w (8 * (32 * w) + w * i) (omega (arith, row_within w j i after))

-- ---- the end rows of each task in a part of their own

module _ (k : Cache) (ts : List Task) (j : ℕ) (ends counts mixed part : List ℕ) (count : ℕ) (inside : j < 8) (so_far : EndsFound k ts j ends counts mixed)
    {rows : List ℕ} (new : TaskEnds k (task ts j) rows part count) where
  abbrev w : ℕ
  w = k.width

  abbrev at : ℕ
  at = 32 * w * j

  abbrev grown : List ℕ
  grown = put_mid at (at + 32 * w - at) ends part

  abbrev more : List ℕ
  more = set counts j count

  back : grown ≡ take at ends ++ (part ++ drop (at + 32 * w) ends)
  back = lent_back at (32 * w) ends part

  fits : at + 32 * w ≤ length ends
  fits = omega (arith, so_far.room.long, row_within (32 * w) j 8 inside)

  pub grown_ends : length grown ≡ ends_length w
  grown_ends = ap length back ∙ replaced_length ends part at (32 * w) fits new.ends_long ∙ so_far.room.long

  few_more : (i : ℕ) → i < 8 → get_or more i 0 ≤ 32
  few_more i l = go (eqb i j) refl
    where
      go : (b : Bool) → eqb i j ≡ b → get_or more i 0 ≤ 32
      go true e = rw (eqb-true i j e, get_or-set_same counts j count 0 (omega (arith, so_far.room.many))) new.few
      go false e = rw (get_or-set_other counts j i count 0 (eqb-false i j e)) (so_far.room.few i l)

  -- the end rows of task j are those found, and those of any other task are as before
  here : ends_of w grown more j ≡ rows_of w count part
  here =
      ap₂ (rows_of w) (get_or-set_same counts j count 0 (omega (arith, so_far.room.many)))
      (ap (λ (l : List ℕ). take (32 * w) (drop at l)) back ∙ replaced_here ends part at (32 * w) fits new.ends_long)

  elsewhere : (i : ℕ) → i ≢ j → ends_of w grown more i ≡ ends_of w ends counts i
  elsewhere i d =
      ap₂ (rows_of w) (get_or-set_other counts j i count 0 d)
      (ap (λ (l : List ℕ). take (32 * w) (drop (32 * w * i) l)) back ∙ go (ltb i j) refl)
    where
      go : (b : Bool) → ltb i j ≡ b → take (32 * w) (drop (32 * w * i) (take at ends ++ (part ++ drop (at + 32 * w) ends))) ≡ take (32 * w) (drop (32 * w * i) ends)
      go true e = replaced_before ends part at (32 * w) fits new.ends_long (32 * w) (32 * w * i) (omega (arith, row_within (32 * w) i j (ltb-true i j e)))
      go false e =
          let after : j < i = omega (arith, ltb-false i j e, d) in
          replaced_after ends part at (32 * w) fits new.ends_long (32 * w) (32 * w * i) (omega (arith, row_within (32 * w) j i after))

  -- with a row for them
  module _ (after : List ℕ) (cells : ℕ) (stored : OneStored w j count grown after cells) where
    kept : (i : ℕ) → i < 8 → ends_of w after more i ≡ ends_of w grown more i
    kept i l = ap (rows_of w (get_or more i 0)) (stored.parts i l)

    -- the row for any other task stays
    one_elsewhere : (i : ℕ) → i < 8 → i ≢ j → one_of w after i ≡ one_of w ends i
    one_elsewhere i l d =
        stored.others i l d
        ∙ ap (λ (x : List ℕ). take w (drop (8 * (32 * w) + w * i) x)) back
        ∙ replaced_after ends part at (32 * w) fits new.ends_long w (8 * (32 * w) + w * i) (omega (arith, row_within (32 * w) j 8 inside))

    pub ends_turn : EndsFound k ts (j + 1) after more (set mixed j cells)
    ends_turn =
        record {
          room =
              record {
                width = so_far.room.width;
                long = stored.long ∙ grown_ends;
                many = length-set counts j count ∙ so_far.room.many;
                each = length-set mixed j cells ∙ so_far.room.each;
                few = few_more;
                joined = λ i l. joined i l (eqb i j) refl;
                inside = omega arith;
              };
          found = λ i l f. rw (kept i (omega arith)) (found i l f (eqb i j) refl);
        }
      where
        joined : (i : ℕ) → i < j + 1 → (b : Bool) → eqb i j ≡ b → Joined w (ends_of w after more i) (one_of w after i) (get_or (set mixed j cells) i 0)
        joined i l true e =
            let mine : ends_of w after more j ≡ rows_of w count (part_of w grown j) =
            kept j inside ∙ ap (λ (n : ℕ). rows_of w n (part_of w grown j)) (get_or-set_same counts j count 0 (omega (arith, so_far.room.many))) in
            rw (eqb-true i j e, mine, get_or-set_same mixed j cells 0 (omega (arith, so_far.room.each))) stored.joined
        joined i l false e =
            let d = eqb-false i j e in
            let low : i < 8 = omega arith in
            rw (kept i low, elsewhere i d, one_elsewhere i low d, get_or-set_other mixed j i cells 0 d) (so_far.room.joined i (omega (arith, d)))

        found : (i : ℕ) → i < j + 1 → Few k (task ts i) → (b : Bool) → eqb i j ≡ b → AllEnds k (task ts i) (ends_of w grown more i)
        found i l f true e = rw (eqb-true i j e, here) (new.found (rw (eqb-true i j e) at f))
        found i l f false e =
            let d = eqb-false i j e in
            rw (elsewhere i d) (so_far.found i (omega arith) f)

  pub others_turn : NoOthers k ts j counts → NoOthers k ts (j + 1) more
  others_turn others i d = go (eqb i j) refl
    where
      go : (b : Bool) → eqb i j ≡ b → get_or more i 0 ≡ 0
      go true e =
          let same = eqb-true i j e in
          rw (same, get_or-set_same counts j count 0 (omega (arith, so_far.room.many))) (new.none (λ f. (rw same at d) (omega arith) f))
      go false e = get_or-set_other counts j i count 0 (eqb-false i j e) ∙ others i (λ l. d (omega arith))

-- ---- the tasks of an accepted file

pub get_d_zeros : (k i : ℕ) → get_or {A = ℕ} (replicate k 0) i 0 ≡ 0
get_d_zeros zero i = refl
get_d_zeros (suc k) zero = refl
get_d_zeros (suc k) (suc i) = get_d_zeros k i

-- no end rows yet
pub ends-none : (k : Cache) (ts : List Task) {ends counts mixed : List ℕ} → Width k.width → length ends ≡ ends_length k.width → counts ≡ replicate 8 0
    → mixed ≡ replicate 8 0 → EndsFound k ts 0 ends counts mixed
ends-none k ts {ends} {counts} {mixed} width long zeros none =
    record {
      room =
          record {
            width = width;
            long = long;
            many = ap length zeros ∙ length-replicate {A = ℕ} 8 0;
            each = ap length none ∙ length-replicate {A = ℕ} 8 0;
            few = λ j l. rw (zeros, get_d_zeros 8 j) (omega arith);
            joined = λ j l. absurd (not-suc-le-zero l);
            inside = omega arith;
          };
      found = λ j l. absurd (not-suc-le-zero l);
    }

pub others-none : (k : Cache) (ts : List Task) {counts : List ℕ} → counts ≡ replicate 8 0 → NoOthers k ts 0 counts
others-none k ts zeros j d = rw zeros (get_d_zeros 8 j)
