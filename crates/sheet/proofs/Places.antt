-- Where the numbers of a run stand in its sheet: the task, the path, and each preemption.
-- The idea: what is left of the sheet from a preemption on is the numbers of what is left of the list.
use mathlib.Core.Path.{◌≡◌, refl, sym, ap, ◌∙◌}
use mathlib.Core.List.{List, [], ◌∷◌, ◌++◌}
use Prim.Native.Nat.{ℕ, suc, ◌+◌, ◌-◌, ◌≤◌, ◌<◌}
use native.Mathlib.Omega.{arith}
use lib.ListN.{length, get_or, take, drop, length-append, length-drop, drop_of_length-le, get_or-append}
use lib.Seq.{get_or-drop, take_at, drop_at, drop-drop, drop-append-add, drop-append-le, take-append-le}
use Rattle.model.specs.Runs.{Preemption}
use Rattle.sheet.specs.Sheet.{SheetRun, preemption_numbers, sheet_numbers}

-- ---- the task and the path

pub record SheetPlaces (s : List ℕ) (r : SheetRun) : Type 0 where
  pub task-at : get_or s 0 0 ≡ r.p
  pub long-at : get_or s 1 0 ≡ length r.path
  pub path-at : drop 2 s ≡ r.path ++ (length r.preemptions ∷ preemption_numbers r.preemptions)
  pub within : 3 + length r.path ≤ length s
  pub list-at : drop (3 + length r.path) s ≡ preemption_numbers r.preemptions

pub sheet-places : (s : List ℕ) (r : SheetRun) → s ≡ sheet_numbers r → SheetPlaces s r
sheet-places s r e =
    let rest = length r.preemptions ∷ preemption_numbers r.preemptions in
    let n : 3 + length r.path ≡ suc (suc (length r.path + 1)) = omega arith in
    rw e (record {
      task-at = refl;
      long-at = refl;
      path-at = refl;
      within = rw (length-append r.path rest) (omega arith);
      list-at = rw n (drop-append-add r.path rest 1);
    })

-- the blocks of the path from the position i up to j, as a part of the sheet
pub path_part_lem : (s : List ℕ) (r : SheetRun) → SheetPlaces s r → (i j : ℕ) → i ≤ j → j ≤ length r.path
    → take (2 + j - (2 + i)) (drop (2 + i) s) ≡ take (j - i) (drop i r.path)
path_part_lem s r h i j l m =
    let n : 2 + j - (2 + i) ≡ j - i = omega arith in
    let rest = length r.preemptions ∷ preemption_numbers r.preemptions in
    rw (n, ← (drop-drop i 2 s), h.path-at, drop-append-le i r.path rest (omega arith))
    (take-append-le (j - i) (drop i r.path) rest (omega (arith, length-drop i r.path)))

-- the block at the position i of the path
pub block_at : (s : List ℕ) (r : SheetRun) → SheetPlaces s r → (i : ℕ) → i < length r.path → get_or s (2 + i) 0 ≡ get_or r.path i 0
block_at s r h i l =
    sym (get_or-drop 2 s i 0) ∙ ap (λ m. get_or m i 0) h.path-at ∙ get_or-append r.path (length r.preemptions ∷ preemption_numbers r.preemptions) 0 i l

-- ---- a preemption that begins at `at`

pub record PreemptionPlaces (s : List ℕ) (at : ℕ) (x : Preemption) (xs : List Preemption) : Type 0 where
  pub position_at : get_or s at 0 ≡ x.position
  pub done_at : get_or s (at + 1) 0 ≡ x.done
  pub task-at : get_or s (at + 2) 0 ≡ x.by
  pub long-at : get_or s (at + 3) 0 ≡ length x.path
  pub path-at : take (length x.path) (drop (at + 4) s) ≡ x.path
  pub within : at + 4 + length x.path ≤ length s
  pub rest_at : drop (at + 4 + length x.path) s ≡ preemption_numbers xs

pub preemption_places : (s : List ℕ) (at : ℕ) (x : Preemption) (xs : List Preemption) → drop at s ≡ preemption_numbers (x ∷ xs) → PreemptionPlaces s at x xs
preemption_places s at x xs e =
    let nums = preemption_numbers xs in
    let z : at + 0 ≡ at = omega arith in
    let fourth : drop (at + 4) s ≡ x.path ++ nums = sym (drop-drop 4 at s) ∙ ap (drop 4) e in
    record {
      position_at = ap (λ i. get_or s i 0) (sym z) ∙ sym (get_or-drop at s 0 0) ∙ ap (λ l. get_or l 0 0) e;
      done_at = sym (get_or-drop at s 1 0) ∙ ap (λ l. get_or l 1 0) e;
      task-at = sym (get_or-drop at s 2 0) ∙ ap (λ l. get_or l 2 0) e;
      long-at = sym (get_or-drop at s 3 0) ∙ ap (λ l. get_or l 3 0) e;
      path-at = ap (take (length x.path)) fourth ∙ take_at x.path nums (length x.path) refl;
      within = omega (arith, ap length e, length-drop at s, length-append x.path nums);
      rest_at = sym (drop-drop (length x.path) (at + 4) s) ∙ ap (drop (length x.path)) fourth ∙ drop_at x.path nums (length x.path) refl;
    }

-- what is left of the list begins with a preemption at `at`
pub record NextPreemption (s : List ℕ) (at : ℕ) (xs : List Preemption) : Type 0 where
  pub first : Preemption
  pub rest : List Preemption
  pub same : xs ≡ first ∷ rest
  pub places : PreemptionPlaces s at first rest

pub next_preemption : (s : List ℕ) (at : ℕ) (xs : List Preemption) → at < length s → drop at s ≡ preemption_numbers xs → NextPreemption s at xs
next_preemption s at [] h e = absurd (omega (arith, ap length e, length-drop at s))
next_preemption s at (x ∷ xs) h e = record { first = x; rest = xs; same = refl; places = preemption_places s at x xs e }

pub none_left : (s : List ℕ) (at : ℕ) (xs : List Preemption) → length s ≤ at → drop at s ≡ preemption_numbers xs → xs ≡ []
none_left s at [] h e = refl
none_left s at (x ∷ xs) h e = let z : [] ≡ preemption_numbers (x ∷ xs) = sym (drop_of_length-le s {i = at} h) ∙ e in absurd (omega (arith, ap length z))
