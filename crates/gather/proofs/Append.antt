-- A row appended to the rows of a block in memory: what each answer says of the memory.
-- A row stored after the others is the last of one row more, and no other block's part is touched.
use mathlib.Core.Path.{◌≡◌, refl, sym, ap₂, ◌∙◌}
use mathlib.Core.Logic.{◌≢◌}
use mathlib.Core.Bool.{Bool, true, false, true≢false, false≢true}
use mathlib.Core.List.{List, [], ◌∷◌, ◌++◌}
use Prim.Native.Nat.{ℕ, ◌+◌, ◌-◌, ◌*◌, ◌≤◌, ◌<◌}
use native.Mathlib.Omega.{arith}
use lib.Dec.{eqb, ltb}
use lib.ListN.{length, get_or, take, drop, set, length-set, length-drop, take-append-drop}
use lib.Seq.{get_or-set_same, get_or-set_other, length-take-le, drop-drop}
use borrow.Author.Tests.{eqb-true, eqb-false, ltb-true, ltb-false}
use borrow.Rule.Slice.PartMut.{put_mid}
use Rattle.model.specs.Lists.{mem}
use Rattle.model.specs.Computed.{same_list}
use Rattle.rows.specs.Rows.{rows_of, part_of}
use Rattle.rows.specs.Append.{put, appended, part_after}
use Rattle.gather.specs.Memory.{held_rows, Memory, AppendedTo}
use Rattle.rows.specs.declared.Appended.{Appended}
use Rattle.rows.specs.declared.Appended.TheVariants.{Present, Added, Full}
use Rattle.rows.proofs.Parts.{rows-put, length-put, replaced_length, replaced_here, replaced_before, replaced_after, lent_back, row_within}
use Rattle.rows.proofs.Answers.{is_present, is_full, is-added}

-- ---- the rows of block s in memory

module _ (s : ℕ) (row rows counts : List ℕ) (inside : s < 24) (memory : Memory (length row) rows counts) where
  abbrev w : ℕ
  w = length row

  present : mem same_list row (held_rows w rows counts s) ≡ true → AppendedTo w s row rows counts rows counts false
  present e =
      record {
        memory = memory;
        added = λ q. sym (rw e);
        new = λ q. absurd (false≢true q);
        count = λ q. absurd (false≢true q);
        kept = λ q. refl;
        others = λ b h d. refl;
      }

  full : mem same_list row (held_rows w rows counts s) ≡ false → 32 ≤ get_or counts s 0 → AppendedTo w s row rows counts rows counts true
  full e h =
      record {
        memory = memory;
        added = λ q. absurd (true≢false q);
        new = λ q. e;
        count = λ q. omega (arith, memory.few s inside);
        kept = λ q. refl;
        others = λ b l d. refl;
      }

  fits : 32 * w * s + 32 * w ≤ length rows
  fits = omega (arith, memory.long, row_within (32 * w) s 24 inside)

  part_long : length (part_of w rows s) ≡ 32 * w
  part_long = length-take-le (32 * w) (drop (32 * w * s) rows) (simp length-drop (omega (arith, fits)))

  abbrev grown : List ℕ
  grown = take (32 * w * s) rows ++ (put (part_of w rows s) (w * get_or counts s 0) row ++ drop (32 * w * s + 32 * w) rows)

  abbrev more : List ℕ
  more = set counts s (get_or counts s 0 + 1)

  module _ (room : get_or counts s 0 < 32) where
    within : w * get_or counts s 0 + w ≤ w * 32
    within = row_within w (get_or counts s 0) 32 room

    put-long : length (put (part_of w rows s) (w * get_or counts s 0) row) ≡ 32 * w
    put-long = length-put (part_of w rows s) (w * get_or counts s 0) row (omega (arith, part_long, within)) ∙ part_long

    grown_few : (b : ℕ) → b < 24 → get_or more b 0 ≤ 32
    grown_few b h = go (eqb b s) refl
      where
        go : (t : Bool) → eqb b s ≡ t → get_or more b 0 ≤ 32
        go true q = rw (eqb-true b s q, get_or-set_same counts s (get_or counts s 0 + 1) 0 (omega (arith, memory.many))) (omega arith)
        go false q = rw (get_or-set_other counts s b (get_or counts s 0 + 1) 0 (eqb-false b s q)) (memory.few b h)

    grown_memory : Memory w grown more
    grown_memory =
        record {
          width = memory.width;
          long = replaced_length rows (put (part_of w rows s) (w * get_or counts s 0) row) (32 * w * s) (32 * w) fits put-long ∙ memory.long;
          many = length-set counts s (get_or counts s 0 + 1) ∙ memory.many;
          few = grown_few;
        }

    grown_here : held_rows w grown more s ≡ held_rows w rows counts s ++ (row ∷ [])
    grown_here =
        ap₂ (rows_of w) (get_or-set_same counts s (get_or counts s 0 + 1) 0 (omega (arith, memory.many)))
        (replaced_here rows (put (part_of w rows s) (w * get_or counts s 0) row) (32 * w * s) (32 * w) fits put-long)
        ∙ rows-put w (get_or counts s 0) (part_of w rows s) row (omega (arith, part_long, within)) refl

    part_other : (b : ℕ) → b ≢ s → part_of w grown b ≡ part_of w rows b
    part_other b d = go (ltb b s) refl
      where
        go : (t : Bool) → ltb b s ≡ t → part_of w grown b ≡ part_of w rows b
        go true q =
            let h = ltb-true b s q in
            replaced_before rows (put (part_of w rows s) (w * get_or counts s 0) row) (32 * w * s) (32 * w) fits put-long (32 * w) (32 * w * b) (row_within (32 * w) b s h)
        go false q =
            let h = ltb-false b s q in
            let p : s < b = omega (arith, d) in
            replaced_after rows (put (part_of w rows s) (w * get_or counts s 0) row) (32 * w * s) (32 * w) fits put-long (32 * w) (32 * w * b) (row_within (32 * w) s b p)

    grown_others : (b : ℕ) → b < 24 → b ≢ s → held_rows w grown more b ≡ held_rows w rows counts b
    grown_others b h d = ap₂ (rows_of w) (get_or-set_other counts s b (get_or counts s 0 + 1) 0 d) (part_other b d)

    added : mem same_list row (held_rows w rows counts s) ≡ false → AppendedTo w s row rows counts grown more false
    added e =
        record {
          memory = grown_memory;
          added = λ q. grown_here ∙ sym (rw e);
          new = λ q. absurd (false≢true q);
          count = λ q. absurd (false≢true q);
          kept = λ q. absurd (false≢true q);
          others = grown_others;
        }

  -- ---- in the code's words: the part was lent from 32 w s to 32 w s + 32 w

  module _ {new : List ℕ} {r : Appended} (told : r ≡ appended (take (32 * w * s + 32 * w - 32 * w * s) (drop (32 * w * s) rows)) (get_or counts s 0) row)
      (left : new ≡ part_after r (take (32 * w * s + 32 * w - 32 * w * s) (drop (32 * w * s) rows)) (get_or counts s 0) row) where
    size : 32 * w * s + 32 * w - 32 * w * s ≡ 32 * w
    size = omega arith

    told' : r ≡ appended (part_of w rows s) (get_or counts s 0) row
    told' = rw size at told

    left' : new ≡ part_after r (part_of w rows s) (get_or counts s 0) row
    left' = rw size at left

    unchanged : new ≡ part_of w rows s → put_mid (32 * w * s) (32 * w * s + 32 * w - 32 * w * s) rows new ≡ rows
    unchanged e =
        lent_back (32 * w * s) (32 * w) rows new
        ∙ rw (e, ← drop-drop (32 * w) (32 * w * s) rows, take-append-drop (32 * w) (drop (32 * w * s) rows)) (take-append-drop (32 * w * s) rows)

    pub to_present : r ≡ Present → AppendedTo w s row rows counts (put_mid (32 * w * s) (32 * w * s + 32 * w - 32 * w * s) rows new) counts false
    to_present e = rw (unchanged (rw e at left')) (present (is_present (part_of w rows s) (get_or counts s 0) row (sym e ∙ told')))

    pub to_full : r ≡ Full → AppendedTo w s row rows counts (put_mid (32 * w * s) (32 * w * s + 32 * w - 32 * w * s) rows new) counts true
    to_full e =
        let t = is_full (part_of w rows s) (get_or counts s 0) row (sym e ∙ told') in
        rw (unchanged (rw e at left')) (full t.0 t.1)

    pub to_added : r ≡ Added
        → AppendedTo w s row rows counts (put_mid (32 * w * s) (32 * w * s + 32 * w - 32 * w * s) rows new) (set counts s (get_or counts s 0 + 1)) false
    to_added e =
        let t = is-added (part_of w rows s) (get_or counts s 0) row (sym e ∙ told') in
        let now : new ≡ put (part_of w rows s) (w * get_or counts s 0) row = rw e at left' in
        rw (lent_back (32 * w * s) (32 * w) rows new, now) (added t.1 t.0)
