-- A row handed on to the blocks of a set, block by block: a turn of the loop adds the next block.
-- A turn changes the rows of its own block alone, so what is known of the others stays.
use mathlib.Core.Path.{◌≡◌, refl, sym, ap, ap₂, ◌∙◌}
use mathlib.Core.Bool.{Bool, true, false, cond, true≢false, false≢true}
use mathlib.Core.List.{List, []}
use Prim.Native.Nat.{ℕ, ◌+◌, ◌-◌, ◌*◌, ◌≤◌, ◌<◌}
use native.Mathlib.Omega.{arith}
use lib.Dec.{eqb, ltb}
use lib.ListN.{length, get_or, take, drop}
use borrow.Author.Tests.{eqb-true, eqb-false, ltb-true, ltb-false}
use Rattle.cache.specs.Sets.{in_set}
use Rattle.rows.specs.Overlay.{overlay}
use Rattle.rows.specs.Rows.{part_of, rows_of}
use Rattle.gather.specs.Graph.{row_at}
use Rattle.gather.specs.Memory.{held_rows, Memory, with_row, AppendedTo, Handed, FullAt, HandedOn}
use lib.Seq.{drop-drop}
use Rattle.rows.proofs.Overlays.{length-overlay}
use Rattle.rows.proofs.Parts.{row_within, rows-length, rows_at, part_wide, part_of_part}

-- ---- rows in the code's words

-- the row of w numbers at s, lent as a part from w s to w s + w
pub part_at : (w s : ℕ) (over : List ℕ) → take (w * s + w - w * s) (drop (w * s) over) ≡ row_at w over s
part_at w s over = let n : w * s + w - w * s ≡ w = omega arith in rw n

-- the row numbered k of block b, lent as a part of the memory
pub row_lent : (w : ℕ) (rows counts : List ℕ) (b k : ℕ) → k < get_or counts b 0 → get_or counts b 0 ≤ 32
    → take (32 * w * b + w * k + w - (32 * w * b + w * k)) (drop (32 * w * b + w * k) rows) ≡ get_or (held_rows w rows counts b) k []
row_lent w rows counts b k h l =
    let n : 32 * w * b + w * k + w - (32 * w * b + w * k) ≡ w = omega arith in
    let inside : w * k + w ≤ 32 * w = omega (arith, row_within w k 32 (omega arith)) in
    rw n (sym (rows_at w (get_or counts b 0) k (part_of w rows b) h
    ∙ part_of_part w (w * k) (32 * w) (drop (32 * w * b) rows) inside ∙ ap (take w) (drop-drop (w * k) (32 * w * b) rows)))

-- the rows of block b, or the end rows of task b, were lent as a part from 32 w b to 32 w b + 32 w
pub held_at : (w : ℕ) (rows counts : List ℕ) (b : ℕ)
    → rows_of w (get_or counts b 0) (take (32 * w * b + 32 * w - 32 * w * b) (drop (32 * w * b) rows)) ≡ held_rows w rows counts b
held_at w rows counts b =
    let s : 32 * w * b + 32 * w - 32 * w * b ≡ 32 * w = omega arith in
    ap (λ (n : ℕ). rows_of w (get_or counts b 0) (take n (drop (32 * w * b) rows))) s

-- ---- the turns

module _ (w set : ℕ) (left : List ℕ) (blocks : ℕ) (entering rows counts : List ℕ) where
  pub handed-none : Memory w rows counts → Handed w set left entering 0 rows counts rows counts
  handed-none m = record { memory = m; below = λ b h l. absurd (omega arith); above = λ b h l. refl }

  -- blocks that are not in the set get no row
  pub handed_past : {now counts-now : List ℕ} (s r : ℕ) → s ≤ r → ((b : ℕ) → s ≤ b → b < r → in_set set b ≡ false) → Handed w set left entering s rows counts now counts-now
      → Handed w set left entering r rows counts now counts-now
  handed_past {now} {counts-now} s r up out handed = record { memory = handed.memory; below = λ b h l. at b h l (ltb b s) refl; above = λ b h l. handed.above b h (omega arith) }
    where
      at : (b : ℕ) → b < 24 → b < r → (t : Bool) → ltb b s ≡ t
          → held_rows w now counts-now b ≡ cond (in_set set b) (with_row (overlay left (row_at w entering b)) (held_rows w rows counts b)) (held_rows w rows counts b)
      at b h l true q = handed.below b h (ltb-true b s q)
      at b h l false q = let after = ltb-false b s q in handed.above b h after ∙ sym (rw (out b after l))

  module _ (s : ℕ) (inside : s < 24) {now counts-now : List ℕ} (handed : Handed w set left entering s rows counts now counts-now) where
    module _ {row next counts-next : List ℕ} {full : Bool} (is : row ≡ overlay left (row_at w entering s)) (member : in_set set s ≡ true)
        (appended : AppendedTo w s row now counts-now next counts-next full) where
      pub handed_in : full ≡ false → Handed w set left entering (s + 1) rows counts next counts-next
      handed_in room =
          record {
            memory = appended.memory;
            below = λ b h l. at b h l (eqb b s) refl;
            above = λ b h l. appended.others b h (λ e. absurd (omega arith)) ∙ handed.above b h (omega arith);
          }
        where
          at : (b : ℕ) → b < 24 → b < s + 1 → (t : Bool) → eqb b s ≡ t
              → held_rows w next counts-next b ≡ cond (in_set set b) (with_row (overlay left (row_at w entering b)) (held_rows w rows counts b)) (held_rows w rows counts b)
          at b h l true q =
              let e = eqb-true b s q in
              rw (e, member) (appended.added room ∙ rw (is, handed.above s inside (omega arith)))
          at b h l false q = appended.others b h (eqb-false b s q) ∙ handed.below b h (omega (arith, eqb-false b s q))

      pub handed_full : s < blocks → full ≡ true → FullAt w set left blocks entering rows counts next counts-next
      handed_full inside' stop =
          record {
            block = s;
            inside = inside';
            member = member;
            new = rw (is, handed.above s inside (omega arith)) at (appended.new stop);
            count = same_count ∙ appended.count stop;
            handed =
                record {
                  memory = appended.memory;
                  below = λ b h l. appended.others b h (λ e. absurd (omega arith)) ∙ handed.below b h l;
                  above = λ b h l. at b h l (eqb b s) refl;
                };
          }
        where
          same_count : get_or counts s 0 ≡ get_or counts-now s 0
          same_count = sym (rows-length w (get_or counts s 0) (part_of w rows s)) ∙ ap length (sym (handed.above s inside (omega arith))) ∙ rows-length w (get_or counts-now s 0) (part_of w now s)

          at : (b : ℕ) → b < 24 → s ≤ b → (t : Bool) → eqb b s ≡ t → held_rows w next counts-next b ≡ held_rows w rows counts b
          at b h l true q = let e = eqb-true b s q in rw e (appended.kept stop ∙ handed.above s inside (omega arith))
          at b h l false q = appended.others b h (eqb-false b s q) ∙ handed.above b h l

  pub handed-all : (s : ℕ) {now counts-now : List ℕ} → s ≡ blocks → Handed w set left entering s rows counts now counts-now
      → HandedOn w set left blocks entering rows counts now counts-now false
  handed-all s e h = record { all = λ q. rw e at h; stopped = λ q. absurd (false≢true q) }

  pub handed_stop : {now counts-now : List ℕ} → FullAt w set left blocks entering rows counts now counts-now → HandedOn w set left blocks entering rows counts now counts-now true
  handed_stop f = record { all = λ q. absurd (true≢false q); stopped = λ q. f }

-- ---- rows that were made in a room of their own

pub memory_for : {w v : ℕ} {rows counts : List ℕ} → v ≡ w → Memory w rows counts → Memory v rows counts
memory_for e m = rw e m

pub appended_as : (w s : ℕ) (made row rows counts : List ℕ) {now counts-now : List ℕ} {full : Bool} → made ≡ row → length row ≡ w
    → AppendedTo (length made) s made rows counts now counts-now full → AppendedTo w s row rows counts now counts-now full
appended_as w s made row rows counts e l a = rw (← l, ← e) a

-- the row numbered k of block b lies within the memory, and the row at b within a row for each block
pub within-memory : (w b k : ℕ) → b < 24 → k < 32 → 32 * w * b + w * k + w ≤ 24 * (32 * w)
within-memory w b k h l = omega (arith, row_within (32 * w) b 24 h, row_within w k 32 l)

pub within-rows : (w b : ℕ) → b < 24 → w * b + w ≤ 24 * w
within-rows w b h = omega (arith, row_within w b 24 h)

pub handed_as : (w set : ℕ) (made left : List ℕ) (blocks : ℕ) (entering rows counts : List ℕ) {now counts-now : List ℕ} {full : Bool} → made ≡ left → length left ≡ w
    → HandedOn (length made) set made blocks entering rows counts now counts-now full → HandedOn w set left blocks entering rows counts now counts-now full
handed_as w set made left blocks entering rows counts e l h = rw (← l, ← e) h

-- a row of the memory as it leaves its block, in the code's words: both rows are lent as parts
module _ (w : ℕ) (rows counts leaving : List ℕ) (b k : ℕ) (memory : Memory w rows counts) (each : length leaving ≡ 24 * w) (inside : b < 24) (there : k < get_or counts b 0)
    {made : List ℕ}
    (told : made ≡ overlay (take (32 * w * b + w * k + w - (32 * w * b + w * k)) (drop (32 * w * b + w * k) rows)) (take (w * b + w - w * b) (drop (w * b) leaving))) where
  pub left_is : made ≡ overlay (get_or (held_rows w rows counts b) k []) (row_at w leaving b)
  left_is = told ∙ ap₂ overlay (row_lent w rows counts b k there (memory.few b inside)) (part_at w b leaving)

  pub left-long : length made ≡ w
  left-long =
      let few = memory.few b inside in
      ap length told
      ∙ length-overlay (take (32 * w * b + w * k + w - (32 * w * b + w * k)) (drop (32 * w * b + w * k) rows)) (take (w * b + w - w * b) (drop (w * b) leaving))
      ∙ part_wide (32 * w * b + w * k) w rows (omega (arith, memory.long, within-memory w b k inside (omega (arith, few))))

  pub left-row : length (overlay (get_or (held_rows w rows counts b) k []) (row_at w leaving b)) ≡ w
  left-row = ap length (sym left_is) ∙ left-long
