-- The parts of a run's sheet, written one after the other into a list, are the sheet.
-- The idea: each part that is lent is as long as what is written into it; so the list is what is written up to a place, and from there on as it was.
use mathlib.Core.Path.{◌≡◌, refl, sym, ap, ap₂, ◌∙◌}
use mathlib.Core.List.{List, [], ◌∷◌, ◌++◌, append-nil, append_assoc}
use Prim.Native.Nat.{ℕ, zero, suc, ◌+◌, ◌-◌, ◌/◌, ◌≤◌, ◌<◌}
use native.Mathlib.Numerals.{add-one}
use native.Mathlib.Omega.{arith}
use lib.ListN.{length, get_or, take, drop, set, length-append}
use lib.Seq.{take_at, drop-append-add, drop-drop, drop-length, drop-cons, set_at}
use borrow.Rule.Slice.PartMut.{put_mid, mid_len, Post-is}
use Rattle.sheet.specs.Sheet.{path_numbers, sheet_numbers}
use Rattle.trails.specs.Trails.{parent_at, length_at, way_back, way_to}
use Rattle.trails.specs.declared.write.Place.{Place}
use Rattle.run_sheet.specs.declared.Preemption.{Preemption}
use Rattle.run_sheet.specs.declared.JoinedRun.{JoinedRun}
use Rattle.run_sheet.specs.Joined.{path_to, path_before, way_on, length_before, joined_run}
use Rattle.std.specs.Prelude.{Option, Some, None}
use Rattle.trails.proofs.WriteLaws.{length_to, length_back}

-- ---- how long the paths are

pub to_long_lem : (to : List ℕ) (at : ℕ) → length (path_to to at) ≡ length_at to at
to_long_lem to at = length_to (length_at to at) to at

pub before-long : (before : Option Place) → length (path_before before) ≡ length_before before
before-long None = refl
before-long (Some place) = to_long_lem place.trails.now place.at

pub own-long : (before : Option Place) (on : List ℕ) (from : ℕ) → length (path_before before ++ way_on on from) ≡ length_before before + length_at on from
own-long before on from =
    length-append (path_before before) (way_on on from) ∙ ap₂ (λ (m n : ℕ). m + n) (before-long before) (length_back (length_at on from) on from)

-- the way on begins with the block of its place
pub on_first : (on : List ℕ) (from : ℕ) → 1 ≤ length_at on from → from / 32 ∷ way_back (length_at on from - 1) on (parent_at on from) ≡ way_on on from
on_first on from h = go (length_at on from) h
  where
    go : (n : ℕ) → 1 ≤ n → from / 32 ∷ way_back (n - 1) on (parent_at on from) ≡ way_back n on from
    go zero h = absurd (omega arith)
    go (suc n) h =
        let e : suc n - 1 ≡ n = omega arith in
        rw e

-- ---- the blocks of a trail, written into a part that is as long

pub wrote_to : (to : List ℕ) (at : ℕ) (l : List ℕ) (a e n : ℕ) {new : List ℕ} → e ≤ length l → e - a ≡ n
    → new ≡ way_to (length (take (e - a) (drop a l))) to at → new ≡ way_to n to at
wrote_to to at l a e n h q s = s ∙ ap (λ (n : ℕ). way_to n to at) (mid_len a e l h ∙ q)

pub wrote_on : (on : List ℕ) (from : ℕ) (l : List ℕ) (a e n : ℕ) {new : List ℕ} → e ≤ length l → e - a ≡ n
    → new ≡ way_back (length (take (e - a) (drop a l))) on (parent_at on from) → new ≡ way_back n on (parent_at on from)
wrote_on on from l a e n h q s = s ∙ ap (λ (n : ℕ). way_back n on (parent_at on from)) (mid_len a e l h ∙ q)

-- ---- a list that is written up to a place

-- where it is written up to a, and the part from there to e is written too
part_written : (l done part : List ℕ) (a e : ℕ) {now new : List ℕ} → length done ≡ a → a + length part ≡ e → now ≡ done ++ drop a l → new ≡ part
    → put_mid a (e - a) now new ≡ (done ++ part) ++ drop e l
part_written l done part a e {now} {new} ea ee en ep =
    let front : take a now ≡ done = ap (take a) en ∙ take_at done (drop a l) a ea in
    let place : length done + length part ≡ e = omega arith in
    let after : drop e now ≡ drop e l =
    ap (drop e) en ∙ ap (λ (n : ℕ). drop n (done ++ drop a l)) (sym place) ∙ drop-append-add done (drop a l) (length part) ∙ drop-drop (length part) a l ∙ ap (λ (n : ℕ). drop n l) ee in
    ap (λ (x : List ℕ). take a now ++ (new ++ x)) (Post-is a e now (omega arith) ∙ after)
    ∙ ap₂ (λ (x y : List ℕ). x ++ (y ++ drop e l)) front ep
    ∙ sym (append_assoc done part (drop e l))

-- the number at a is written
number_written : (l done : List ℕ) (a v : ℕ) {now : List ℕ} → length done ≡ a → a < length l → now ≡ done ++ drop a l → set now a v ≡ (done ++ (v ∷ [])) ++ drop (a + 1) l
number_written l done a v ea h en =
    ap (λ (m : List ℕ). set m a v) (en ∙ ap (λ (r : List ℕ). done ++ r) (drop-cons l a 0 h))
    ∙ set_at done (get_or l a 0) (drop (suc a) l) v a ea
    ∙ ap (λ (n : ℕ). done ++ (v ∷ drop n l)) (sym (add-one a))
    ∙ sym (append_assoc done (v ∷ []) (drop (a + 1) l))

-- and where it is written to its end
all_written : (l done : List ℕ) {now : List ℕ} → length done ≡ length l → now ≡ done ++ drop (length l) l → now ≡ done
all_written l done e q = q ∙ ap (λ (x : List ℕ). done ++ x) (drop-length l) ∙ append-nil done

-- the numbers in front of a path
two_written : (l : List ℕ) (a b : ℕ) → 2 ≤ length l → set (set l 0 a) 1 b ≡ (a ∷ b ∷ []) ++ drop 2 l
two_written [] a b h = absurd (omega arith)
two_written (x ∷ []) a b h = absurd (omega arith)
two_written (x ∷ y ∷ l) a b h = refl

five_written : (l : List ℕ) (a b c d e : ℕ) → 5 ≤ length l → set (set (set (set (set l 0 a) 1 b) 2 c) 3 d) 4 e ≡ (a ∷ b ∷ c ∷ d ∷ e ∷ []) ++ drop 5 l
five_written [] a b c d e h = absurd (omega arith)
five_written (x ∷ []) a b c d e h = absurd (omega arith)
five_written (x ∷ y ∷ []) a b c d e h = absurd (omega arith)
five_written (x ∷ y ∷ z ∷ []) a b c d e h = absurd (omega arith)
five_written (x ∷ y ∷ z ∷ v ∷ []) a b c d e h = absurd (omega arith)
five_written (x ∷ y ∷ z ∷ v ∷ w ∷ l) a b c d e h = refl

-- ---- one preemption

pub by_written : (out path : List ℕ) (x position done j : ℕ) {new : List ℕ} → length out ≡ 5 + length path → new ≡ path
    → put_mid 5 (length out - 5) (set (set (set (set (set out 0 x) 1 position) 2 done) 3 j) 4 (length out - 5)) new ≡ x ∷ position ∷ done ∷ j ∷ path_numbers path
by_written out path x position done j e q =
    let long : length out - 5 ≡ length path = omega arith in
    all_written out (x ∷ position ∷ done ∷ j ∷ (length out - 5) ∷ path) (omega arith)
    (part_written out (x ∷ position ∷ done ∷ j ∷ (length out - 5) ∷ []) path 5 (length out) refl (sym e) (five_written out x position done j (length out - 5) (omega arith)) q)
    ∙ ap (λ (n : ℕ). x ∷ position ∷ done ∷ j ∷ n ∷ path) long

-- ---- the task and its path: n blocks, the block b, and the way on after it

pub own_written : (out p q : List ℕ) (i n b : ℕ) {first second : List ℕ} → length p ≡ n → length out ≡ 2 + length (p ++ (b ∷ q)) → first ≡ p → second ≡ q
    → put_mid (2 + n + 1) (length out - (2 + n + 1)) (set (put_mid 2 (2 + n - 2) (set (set out 0 i) 1 (length out - 2)) first) (2 + n) b) second
    ≡ i ∷ path_numbers (p ++ (b ∷ q))
own_written out p q i n b en e ep eq =
    let both = length-append p (b ∷ q) in
    let long : length out - 2 ≡ length (p ++ (b ∷ q)) = omega arith in
    let head : List ℕ = i ∷ (length out - 2) ∷ [] in
    let to : 2 + length p ≡ 2 + n = omega arith in
    let one : length ((head ++ p) ++ (b ∷ [])) ≡ 2 + n + 1 = length-append (head ++ p) (b ∷ []) ∙ omega arith in
    let on : 2 + n + 1 + length q ≡ length out = omega (arith, both) in
    let whole : (head ++ p) ++ (b ∷ []) ++ q ≡ head ++ (p ++ (b ∷ q)) = simp append_assoc in
    all_written out ((head ++ p) ++ (b ∷ []) ++ q) (ap length whole ∙ omega (arith, both))
    (part_written out ((head ++ p) ++ (b ∷ [])) q (2 + n + 1) (length out) one on
    (number_written out (head ++ p) (2 + n) b (omega arith) (omega (arith, both)) (part_written out head p 2 (2 + n) refl to (two_written out i (length out - 2) (omega arith)) ep)) eq)
    ∙ whole
    ∙ ap (λ (m : ℕ). i ∷ m ∷ (p ++ (b ∷ q))) long

-- ---- the sheet

-- what is to be answered and written, of a run with these numbers
abbrev Answered : List ℕ → List ℕ → ℕ → List ℕ → Type 0
Answered numbers sheet e now = (e ≡ length numbers) × (now ≡ numbers ++ drop (length numbers) sheet)

answered : (numbers sheet parts : List ℕ) (e : ℕ) {now : List ℕ} → numbers ≡ parts → length parts ≡ e → now ≡ parts ++ drop e sheet → Answered numbers sheet e now
answered numbers sheet parts e {now} q h g =
    let long : e ≡ length numbers = sym (ap length q ∙ h) in
    (long, g ∙ ap₂ (λ (l : List ℕ) (n : ℕ). l ++ drop n sheet) (sym q) long)

-- the parts that are lent for the task with its path and for the preemption
pub own_room : (before : Option Place) (on : List ℕ) (from : ℕ) (sheet : List ℕ) (n after : ℕ) → n ≡ length_before before → after ≡ length_at on from
    → 2 + n + after ≤ length sheet → length (take (2 + n + after - 0) sheet) ≡ 2 + length (path_before before ++ way_on on from)
own_room before on from sheet n after en ea h = mid_len 0 (2 + n + after) sheet h ∙ omega (arith, own-long before on from)

pub by-room : (by : List ℕ) (end : ℕ) (l : List ℕ) (a ended : ℕ) → ended ≡ length_at by end → a + 5 + ended ≤ length l
    → length (take (a + 5 + ended - a) (drop a l)) ≡ 5 + length (path_to by end)
by-room by end l a ended e h = mid_len a (a + 5 + ended) l h ∙ omega (arith, to_long_lem by end)

module _ (run : JoinedRun) (sheet : List ℕ) (n after : ℕ) {written : List ℕ} (en : n ≡ length_before run.before) (ea : after ≡ length_at run.on.trails.now run.on.at)
    (wrote : written ≡ run.task ∷ path_numbers (path_before run.before ++ way_on run.on.trails.now run.on.at)) where
  abbrev own : List ℕ
  own = run.task ∷ path_numbers (path_before run.before ++ way_on run.on.trails.now run.on.at)

  split : length own ≡ 2 + n + after
  split = omega (arith, own-long run.before run.on.trails.now run.on.at)

  own_part_lem : put_mid 0 (2 + n + after - 0) sheet written ≡ own ++ drop (2 + n + after) sheet
  own_part_lem = part_written sheet [] own 0 (2 + n + after) refl (omega (arith, split)) refl wrote

  -- with one preemption
  pub sheet-preempted : (p : Preemption) (ended : ℕ) {second : List ℕ} → run.preemption ≡ Some p → ended ≡ length_at p.path.trails.now p.path.at
      → second ≡ 1 ∷ n ∷ p.done ∷ p.by ∷ path_numbers (path_to p.path.trails.now p.path.at)
      → Answered (sheet_numbers (joined_run run)) sheet (2 + n + after + 5 + ended)
      (put_mid (2 + n + after) (2 + n + after + 5 + ended - (2 + n + after)) (put_mid 0 (2 + n + after - 0) sheet written) second)
  sheet-preempted p ended ep ee q =
      let by = path_to p.path.trails.now p.path.at in
      let preemption : List ℕ = 1 ∷ n ∷ p.done ∷ p.by ∷ path_numbers by in
      let numbers : sheet_numbers (joined_run run) ≡ own ++ preemption = rw (ep, en, append-nil by) in
      let long : 2 + n + after + length preemption ≡ 2 + n + after + 5 + ended = omega (arith, to_long_lem p.path.trails.now p.path.at) in
      answered (sheet_numbers (joined_run run)) sheet (own ++ preemption) (2 + n + after + 5 + ended) numbers
      (length-append own preemption ∙ omega (arith, split, long))
      (part_written sheet own preemption (2 + n + after) (2 + n + after + 5 + ended) split long own_part_lem q)

  -- with none
  pub sheet-whole : run.preemption ≡ None → 2 + n + after < length sheet
      → Answered (sheet_numbers (joined_run run)) sheet (2 + n + after + 1) (set (put_mid 0 (2 + n + after - 0) sheet written) (2 + n + after) 0)
  sheet-whole ep h =
      let a = 2 + n + after in
      let numbers : sheet_numbers (joined_run run) ≡ own ++ (0 ∷ []) = rw ep in
      answered (sheet_numbers (joined_run run)) sheet (own ++ (0 ∷ [])) (a + 1) numbers (length-append own (0 ∷ []) ∙ omega (arith, split))
      (number_written sheet own a 0 split h own_part_lem)
