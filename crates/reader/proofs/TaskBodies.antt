-- The body of a task of an accepted file: it keeps its layout, and its task is that of the file.
-- The idea: check 8 passed for each body, and the tasks of a file are those of its bodies.
use mathlib.Core.Path.{◌≡◌, refl, sym, ap, ◌∙◌}
use mathlib.Core.Bool.{true, false, false≢true}
use mathlib.Core.List.{List}
use Prim.Native.Nat.{ℕ, zero, suc, ◌+◌, ◌≤◌, ◌<◌}
use native.Mathlib.Nat.{not-suc-le-zero, zero-add, add-zero, add-suc, suc-add}
use native.Mathlib.Omega.{arith}
use lib.ListN.{length, length-map}
use borrow.Author.Tests.{not-false}
use Rattle.model.specs.Tasks.{task}
use Rattle.body.specs.Layout.{InBounds}
use Rattle.body.specs.Decode.{decode, task_of}
use Rattle.body.specs.Walk.{kept_of}
use Rattle.body.proofs.Decoded.{decoded-bounds}
use Rattle.body.proofs.WalksParts.{kept-decoded}
use Rattle.std.specs.Prelude.{Ok, Err}
use Rattle.project.specs.declared.answers.Refusal.{Refusal}
use Rattle.project.specs.File.{cache_blocks, task_count, body_of, bodies_from, bodies}
use Rattle.project.specs.Checks.{body}
use Rattle.project.specs.Reading.{test8, file_check, Reading, counts_of, reading_of}
use Rattle.project.specs.Checklist.{Checked, answered}
use Rattle.project.specs.Bodies.{accepted}
use Rattle.project.specs.Tasks.{tasks_of}
use Rattle.project.proofs.Checklists.{answered_err}
use Rattle.project.proofs.Accepted.{tasks_kept, passing, accepted-passed}
use Rattle.project.proofs.RoundTrips.{length-bodies}
use Rattle.project.proofs.FileRules.{each_at, task_in}
use Rattle.reader.proofs.ReadLaws.{InFile, body-inside}

-- the reading of an accepted file
pub reading : (s : List ℕ) → accepted (reading_of s) ≡ true → reading_of s ≡ Ok (counts_of s)
reading s h = go (reading_of s) refl
  where
    go : (r : Reading) → reading_of s ≡ r → reading_of s ≡ Ok (counts_of s)
    go (Err r) e = absurd (false≢true (rw e at h))
    go (Ok a) e = rw (accepted-passed s a e).0

-- a file whose checks pass is accepted
pub passing_accepted : (s : List ℕ) → file_check s ≡ Ok tt → accepted (reading_of s) ≡ true
passing_accepted s e = ap (λ (r : Checked). accepted (answered r (counts_of s))) e

body-from : (s : List ℕ) (left i j : ℕ) → j < left → body (bodies_from s left i) j ≡ body_of s (i + j)
body-from s zero i j l = absurd (not-suc-le-zero l)
body-from s (suc left) i zero l = ap (body_of s) (sym (add-zero i))
body-from s (suc left) i (suc j) l = body-from s left (suc i) j (omega arith) ∙ ap (body_of s) (suc-add i j ∙ sym (add-suc i j))

pub record TaskBody (s : List ℕ) (j : ℕ) : Type 0 where
  pub in_file : InFile s j
  pub kept : kept_of (decode (body_of s j)) ≡ true
  pub same : task (tasks_of s) j ≡ task_of (decode (body_of s j))
  pub low : 1 ≤ cache_blocks s
  pub high : cache_blocks s ≤ 16

pub task-body : (s : List ℕ) → accepted (reading_of s) ≡ true → (j : ℕ) → j < task_count s → TaskBody s j
task-body s h j l =
    let e = reading s h in
    let p = passing s (accepted-passed s (counts_of s) e).0 in
    let at : body (bodies s) j ≡ body_of s j = body-from s (task_count s) 0 j l ∙ ap (body_of s) (zero-add j) in
    let inside : j < length (bodies s) = rw (length-bodies s (task_count s) 0) l in
    let fine = each_at (λ (b : List ℕ). test8 b ≡ false) (bodies s) (tasks_kept (bodies s) p.tasks) j inside in
    record {
      in_file = body-inside s e j l;
      kept = not-false (kept_of (decode (body_of s j))) (rw at at fine);
      same = task_in (bodies s) j ∙ ap (λ (b : List ℕ). task_of (decode b)) at;
      low = p.n_low;
      high = omega (arith, p.n_high, p.k_high);
    }

-- a task of an accepted file is within the bounds
pub task-bounds : (s : List ℕ) (j : ℕ) → accepted (reading_of s) ≡ true → j < task_count s → InBounds (task (tasks_of s) j)
task-bounds s j h l =
    let b = task-body s h j l in
    let (t, q) = kept-decoded (decode (body_of s j)) b.kept in
    rw (b.same, q) (decoded-bounds (body_of s j) t q)

-- ---- a part of the file that is the body

pub body_kept : (s : List ℕ) (j : ℕ) → TaskBody s j → {b : List ℕ} → b ≡ body_of s j → kept_of (decode b) ≡ true
body_kept s j at e = ap (λ (b : List ℕ). kept_of (decode b)) e ∙ at.kept

pub body-task : (s : List ℕ) (j : ℕ) → TaskBody s j → {b : List ℕ} → b ≡ body_of s j → task_of (decode b) ≡ task (tasks_of s) j
body-task s j at e = ap (λ (b : List ℕ). task_of (decode b)) e ∙ sym at.same

-- ---- in the code's words: the part of the file where the contents say that the body stands

-- ---- all tasks

pub tasks_long : (s : List ℕ) → length (tasks_of s) ≡ task_count s
tasks_long s = rw length-map (length-bodies s (task_count s) 0)

-- a file that is refused fails the check that is named
pub refused_check : (s : List ℕ) {r : Refusal} → reading_of s ≡ Err r → file_check s ≡ Err r
refused_check s {r} e = answered_err (file_check s) (counts_of s) e
