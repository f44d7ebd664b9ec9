-- Checks 13 and 16 of the points in the code's words: where the block at a point stands, how many references may be done in it, and what the set of
-- the unmasked blocks says of it.
-- The idea: the paths are complete, so that the block at a point is one of the task, which its references and the set tell of.
use mathlib.Core.Path.{◌≡◌, refl, sym, ap, ap₂, ◌∙◌}
use mathlib.Core.Bool.{Bool, true, false}
use mathlib.Core.List.{List, [], ◌∷◌}
use Prim.Native.Nat.{ℕ, ◌+◌, ◌*◌, ◌%◌, ◌^◌, ◌<◌}
use native.Mathlib.Omega.{arith}
use lib.Bits.{bit_and}
use lib.Dec.{eqb, leb}
use lib.ListN.{length, get_or}
use borrow.Author.Tests.{ne_eqb, le-leb, lt-leb}
use Rattle.cache.specs.Sets.{in_set}
use Rattle.cache.proofs.Members.{in_word, out_word}
use Rattle.model.specs.Tasks.{Task, task}
use Rattle.model.specs.Runs.{Preemption}
use Rattle.model.specs.Computed.{unmasked}
use Rattle.model.proofs.Membership.{both_left}
use Rattle.model.proofs.Paths.{complete-inside}
use Rattle.body.specs.Jumps.{unmasked_set}
use Rattle.body.proofs.JumpLaws.{in_unmasked}
use Rattle.project.specs.Tasks.{tasks_of}
use Rattle.sheet.specs.Parsed.{complete_path, right_done, done_point, unmasked_point}
use Rattle.sheet.proofs.CompletePaths.{complete_exact}
use Rattle.sheet.proofs.Places.{block_at}
use Rattle.runs.specs.Parts.{references_at}
use Rattle.sheet_checks.specs.SheetChecks.{run_in, Passed12, Passed13}
use Rattle.sheet_checks.proofs.SheetLaws.{NextLeft}
use Rattle.sheet_checks.proofs.OwnPath.{own_task, own_facts, own-bounds}

-- ---- how many references may be done, by how many the block has

pub none_done : (ms : List ℕ) {d n : ℕ} {b : Bool} → n ≡ length ms → d ≡ 0 → b ≡ eqb n 0 → b ≡ right_done ms d
none_done ms {d} {n} en ed eb = eb ∙ ap (λ (x : ℕ). eqb x 0) en ∙ go ms ∙ ap (right_done ms) (sym ed)
  where
    go : (ms : List ℕ) → eqb (length ms) 0 ≡ right_done ms 0
    go [] = refl
    go (m ∷ ms) = ne_eqb (length (m ∷ ms)) 0 (λ e. omega arith)

pub some-done : (ms : List ℕ) {d n : ℕ} {b : Bool} → n ≡ length ms → (d ≡ 0 → ⊥) → b ≡ leb d n → b ≡ right_done ms d
some-done ms {d} en nd eb = eb ∙ ap (leb d) en ∙ go ms
  where
    go : (ms : List ℕ) → leb d (length ms) ≡ right_done ms d
    go [] = lt-leb d 0 (omega (arith, nd)) ∙ sym (ne_eqb d 0 nd)
    go (m ∷ ms) = rw (le-leb 1 d (omega (arith, nd)))

-- ---- the tests of the points of a run

abbrev pub done_test : List ℕ → List ℕ → Preemption → Bool
done_test s sheet = done_point (own_task s sheet) (run_in s sheet).path

abbrev pub mask_test : List ℕ → List ℕ → Preemption → Bool
mask_test s sheet = unmasked_point (own_task s sheet) (run_in s sheet).path

-- ---- the next preemption: q is the number of its position

module _ (test : Preemption → Bool) (s sheet : List ℕ) (rules : Passed12 s sheet) (at : ℕ) (n : NextLeft test s sheet at) {q : ℕ} (eq : q ≡ get_or sheet at 0) where
  position-is : q ≡ n.first.position
  position-is = eq ∙ n.places.position_at

  in_path_lem : q < length (run_in s sheet).path
  in_path_lem = omega (arith, position-is, n.rule.in_path)

  pub block-there : 2 + q < length sheet
  block-there = omega (arith, in_path_lem, (own_facts s sheet rules).places.within)

  block-is : get_or sheet (2 + q) 0 ≡ get_or (run_in s sheet).path n.first.position 0
  block-is = block_at sheet (run_in s sheet) (own_facts s sheet rules).places q in_path_lem ∙ ap (λ (i : ℕ). get_or (run_in s sheet).path i 0) position-is

-- ---- check 13: d is the number of references done, t the task and `path` the path

module _ (s sheet : List ℕ) (rules : Passed12 s sheet) (at : ℕ) (n : NextLeft (done_test s sheet) s sheet at) {q : ℕ} (eq : q ≡ get_or sheet at 0) where
  pub done_in : {path : List ℕ} → path ≡ (run_in s sheet).path → q < length path
  done_in ep = rw ep (in_path_lem (done_test s sheet) s sheet rules at n eq)

  pub done_told : (d : ℕ) {t : Task} {path : List ℕ} {b : Bool} → d ≡ get_or sheet (at + 1) 0 → t ≡ own_task s sheet → path ≡ (run_in s sheet).path
      → b ≡ right_done (references_at t path q) d → done_test s sheet n.first ≡ b
  done_told d ed et ep eb =
      sym (eb ∙ ap₂ (λ (t : Task) (path : List ℕ). right_done (references_at t path q) d) et ep
      ∙ ap₂ (λ (i c : ℕ). right_done (references_at (own_task s sheet) (run_in s sheet).path i) c) (position-is (done_test s sheet) s sheet rules at n eq) (ed ∙ n.places.done_at))

-- ---- check 16: b is the number of the block at the position

module _ (s sheet : List ℕ) (h : Passed13 s sheet) (at : ℕ) (n : NextLeft (mask_test s sheet) s sheet at) {q b : ℕ} (eq : q ≡ get_or sheet at 0) (eb : b ≡ get_or sheet (2 + q) 0) where
  its_block : b ≡ get_or (run_in s sheet).path n.first.position 0
  its_block = eb ∙ block-is (mask_test s sheet) s sheet h.rules at n eq

  inside : b < length (own_task s sheet)
  inside =
      let c = (complete_exact (own_task s sheet) (run_in s sheet).path).0 (both_left (complete_path (own_task s sheet) (run_in s sheet).path) _ h.complete) in
      omega (arith, its_block, complete-inside (own_task s sheet) (run_in s sheet).path n.first.position c n.rule.in_path)

  pub block-below : b < 24
  block-below = omega (arith, inside, (own-bounds s sheet h.rules).few)

  -- y is the number of the task, and `set` that of its unmasked blocks
  module _ {y set : ℕ} (ey : y ≡ get_or sheet 0 0) (es : set ≡ unmasked_set (task (tasks_of s) y)) where
    told : mask_test s sheet n.first ≡ in_set set b
    told =
        ap (unmasked (own_task s sheet)) (sym its_block) ∙ sym (in_unmasked (own_task s sheet) b inside)
        ∙ ap (λ (x : ℕ). in_set x b) (sym (es ∙ ap (λ (j : ℕ). unmasked_set (task (tasks_of s) j)) (ey ∙ (own_facts s sheet h.rules).places.task-at)))

    pub point_masked : bit_and set (1 * 2 ^ b % 2 ^ 32) ≡ 0 → mask_test s sheet n.first ≡ false
    point_masked z = told ∙ out_word 32 set b (omega (arith, block-below)) z

    pub point_unmasked : (bit_and set (1 * 2 ^ b % 2 ^ 32) ≡ 0 → ⊥) → mask_test s sheet n.first ≡ true
    point_unmasked z = told ∙ in_word 32 set b (omega (arith, block-below)) z
