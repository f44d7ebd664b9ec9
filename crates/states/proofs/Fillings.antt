-- States in the code's words: the answer and the area at each way out are those of the definitions.
-- The checks are passed in their order, for rows of any width; the first that fails is the answer, and the area is zeros.
use mathlib.Core.Path.{◌≡◌, refl, sym, ap, ◌∙◌}
use mathlib.Core.Bool.{Bool, true, false, true≢false, false≢true}
use mathlib.Core.List.{List}
use Prim.Native.Nat.{ℕ, ◌≤◌, ◌<◌}
use native.Mathlib.Omega.{arith}
use lib.ListN.{length, replicate}
use borrow.Author.Tests.{eq-eqb, ne_eqb, le-leb, lt-leb}
use Rattle.cache.specs.Shape.{shaped}
use Rattle.cache.specs.declared.blocks.CacheShape.{CacheShape}
use Rattle.model.specs.Tasks.{task}
use Rattle.body.specs.Decode.{decode, task_of}
use Rattle.std.specs.Prelude.{Ok, Err, is_err}
use Rattle.project.specs.declared.answers.Check.TheVariants.{ListLength, TooManyStates, NoSuchTask}
use Rattle.project.specs.declared.answers.Refusal.{Refusal}
use Rattle.project.specs.declared.answers.Accepted.{Accepted}
use Rattle.project.specs.File.{task_count, body_of}
use Rattle.project.specs.Checklist.{no_task, refusal, Checked, and_then, verdict_of}
use Rattle.project.specs.Reading.{file_checks, file_check, counts_of, reading_of}
use Rattle.project.specs.Bodies.{accepted}
use Rattle.project.specs.Tasks.{tasks_of, file_shape, file_cache_in}
use Rattle.project.proofs.Checklists.{verdict_append, ok-not-err}
use Rattle.project.proofs.Accepted.{accepted-passed}
use Rattle.reader.proofs.TaskBodies.{reading, task-body, refused_check}
use Rattle.rows.specs.Rows.{area_length}
use Rattle.graphs.specs.TaskRows.{test11}
use Rattle.states.specs.Filling.{asked_checks, task_check, filling_of, area_after, BodyStates, TaskStates}

-- the checks after 1: those of the file, and those on the task
pub task-parts : (w : ℕ) (s : List ℕ) (j : ℕ) → task_check w s j ≡ and_then (file_check s) (verdict_of (asked_checks w s j))
task-parts w s j = verdict_append (file_checks s) (asked_checks w s j)

-- ---- the checks after 1

module _ (w : ℕ) (s : List ℕ) (j : ℕ) where
  -- a check that fails leaves any area
  refused : {r : Refusal} {area : List ℕ} {answer : Checked} → length area ≡ area_length w → task_check w s j ≡ Err r → answer ≡ Err r → TaskStates w s j area answer
  refused long e q = record { long = long; told = q ∙ sym e; filled = λ f. absurd (ok-not-err (sym f ∙ q)) }

  pub unread : {r : Refusal} {area : List ℕ} {answer : Checked} → length area ≡ area_length w → reading_of s ≡ Err r → answer ≡ Err r → TaskStates w s j area answer
  unread long e q = refused long (task-parts w s j ∙ rw (refused_check s e)) q

  pub no_task_lem : {a : Accepted} {area : List ℕ} {r : Refusal} → length area ≡ area_length w → reading_of s ≡ Ok a → a.t ≤ j → r ≡ refusal NoSuchTask no_task
      → TaskStates w s j area (Err r)
  no_task_lem {a} long e h q =
      let (p, en, et) = accepted-passed s a e in
      refused long (task-parts w s j ∙ rw (p, le-leb (task_count s) j (omega arith))) (ap (λ (x : Refusal). Err x) q)

  -- the states of the body of a task, in the area `found`
  module _ (ok : accepted (reading_of s) ≡ true) (below : j < task_count s) {shape : CacheShape} {b : List ℕ} {full : Bool} {found : List ℕ} (same : b ≡ body_of s j)
      (is : shape ≡ file_shape s) (states : BodyStates (shaped w shape) (task_of (decode b)) found full) where
    passed : file_check s ≡ Ok tt
    passed = (accepted-passed s (counts_of s) (reading s ok)).0

    its : task_of (decode b) ≡ task (tasks_of s) j
    its = ap (λ (x : List ℕ). task_of (decode x)) same ∙ sym (task-body s ok j below).same

    told : full ≡ test11 (file_cache_in w s) (task (tasks_of s) j)
    told = states.answer ∙ (rw (is, its))

    pub too_many_lem : full ≡ true → TaskStates w s j found (Err (refusal TooManyStates j))
    too_many_lem f = refused states.long (task-parts w s j ∙ rw (passed, lt-leb (task_count s) j below, ← told, f)) refl

    pub task-filled : full ≡ false → TaskStates w s j found (Ok tt)
    task-filled f = record {
      long = states.long;
      told = sym (task-parts w s j ∙ rw (passed, lt-leb (task_count s) j below, ← told, f));
      filled = λ e. rw (is, its) at (states.filled f);
    }

-- ---- the call

module _ (w : ℕ) (s : List ℕ) (j : ℕ) (area : List ℕ) where
  -- what is answered and what the area holds afterwards
  abbrev pub Ends : Checked → List ℕ → Type 0
  Ends answer new = (answer ≡ filling_of w s j area) × (new ≡ area_after w s j area)

  -- check 1 changes nothing
  pub wrong-length : {r : Refusal} → r ≡ refusal ListLength no_task → (length area ≡ area_length w → ⊥) → Ends (Err r) area
  unfolding filling_of area_after
  wrong-length q h = (rw (q, ne_eqb (length area) (area_length w) h), rw (ne_eqb (length area) (area_length w) h))

  module _ (long : length area ≡ area_length w) {found : List ℕ} {answer : Checked} (states : TaskStates w s j found answer) where
    answered_lem : answer ≡ filling_of w s j area
    unfolding filling_of
    answered_lem = states.told ∙ rw (eq-eqb (length area) (area_length w) long)

    -- a check that fails leaves zeros, which stand where `found` did
    pub left-zeros : is_err answer ≡ true → {new : List ℕ} → new ≡ replicate (length found) 0 → Ends answer new
    unfolding area_after
    left-zeros e {new} z = (answered_lem, go answer refl)
      where
        go : (x : Checked) → answer ≡ x → new ≡ area_after w s j area
        go (Ok x) q = absurd (false≢true (rw q at e))
        go (Err r) q = z ∙ ap (λ (n : ℕ). replicate n 0) states.long ∙ rw (eq-eqb (length area) (area_length w) long, ← states.told, q)

    pub left-states : is_err answer ≡ false → Ends answer found
    unfolding area_after
    left-states e = (answered_lem, go answer refl)
      where
        go : (x : Checked) → answer ≡ x → found ≡ area_after w s j area
        go (Ok x) q = states.filled q ∙ rw (eq-eqb (length area) (area_length w) long, ← states.told, q)
        go (Err r) q = absurd (true≢false (rw q at e))
