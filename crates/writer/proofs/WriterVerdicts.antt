-- What the writer answers is the verdict on its checks: `writer_verdict`.
-- The idea: 5 to 7 compare numbers, 8 and 9 are those of bodies, and joined bodies of the right sum make a file of the length that is tested.
use mathlib.Core.Path.{◌≡◌, refl, sym}
use mathlib.Core.Logic.{◌↔◌}
use mathlib.Core.Bool.{Bool, true, false}
use mathlib.Core.List.{List, [], ◌∷◌}
use Prim.Native.Nat.{ℕ, zero, suc, ◌*◌, ◌≤◌, ◌<◌}
use native.Mathlib.Nat.{not-suc-le-zero}
use native.Mathlib.Omega.{arith}
use lib.Dec.{eqb, ltb}
use lib.ListN.{length}
use borrow.Author.Tests.{eqb-true, eqb-false, ltb-true, lt-ltb}
use Rattle.body.proofs.BlockParts.{all_take, all_drop}
use Rattle.std.specs.Prelude.{Ok, Err}
use Rattle.project.specs.declared.answers.Check.TheVariants.{OutLength}
use Rattle.project.specs.Checks.{body}
use Rattle.project.specs.Checklist.{one, no_task, numbers, Verdict, Agreeing, Checked, answered}
use Rattle.project.specs.Reading.{task_checks}
use Rattle.project.specs.Writing.{total, cut, file_length, SumFault, Fault14, writer_checks_in, writer_check_in, writing_in}
use Rattle.project.specs.Verdict.{WriterVerdict}
use Rattle.project.proofs.Checklists.{verdict_exact, agreeing_append}
use Rattle.project.proofs.TaskFaults.{Bytes, tasks_agreeing}
use Rattle.project.proofs.Verdicts.{outside_exact, differ_exact}
use Rattle.writer.proofs.CheckLaws.{all-passed}
use Rattle.writer.proofs.Trips.{length_written}

-- each body is made of the joined bytes
cut_bytes : (s ls : List ℕ) → Bytes s → (i : ℕ) → i < length (cut s ls) → Bytes (body (cut s ls) i)
cut_bytes s [] h i l = absurd (not-suc-le-zero l)
cut_bytes s (n ∷ ls) h zero l = all_take _ n s h
cut_bytes s (n ∷ ls) h (suc i) l = cut_bytes _ ls (all_drop _ n s h) i (omega arith)

module _ (k n : ℕ) (s ls out : List ℕ) (some : 1 ≤ k) where
  exact14 : total ls ≡ length s → (ltb (length out) (file_length k s ls) ≡ true) ↔ Fault14 k n s ls out
  exact14 e =
      let long = length_written k n s ls out some e in
      (λ q. omega (arith, ltb-true (length out) (file_length k s ls) q), λ f. lt-ltb (length out) (file_length k s ls) (omega (arith, f)))

  -- no fault of check 7: the lengths sum up to the joined length
  sum-right : (SumFault s ls → ⊥) → total ls ≡ length s
  sum-right none = go (eqb (total ls) (length s)) refl
    where
      go : (b : Bool) → eqb (total ls) (length s) ≡ b → total ls ≡ length s
      go true e = eqb-true (total ls) (length s) e
      go false e = absurd (none (eqb-false (total ls) (length s) e))

  pub writer_agreeing : Bytes s → Agreeing (writer_checks_in k n s ls out)
  writer_agreeing h = (
    outside_exact n 1 (16 * k) n,
    λ p5. (
      outside_exact (length ls) 1 8 (length ls),
      λ p6. (
        differ_exact (total ls) (length s),
        λ p7. agreeing_append (task_checks (cut s ls))
            (one OutLength no_task (ltb (length out) (file_length k s ls)) (Fault14 k n s ls out) ∷ []) (tasks_agreeing (cut s ls) (cut_bytes s ls h))
            (λ p9. (exact14 (sum-right p7), λ p14. tt)),
      ),
    ),
  )

  -- what the writer answers, for every n, list of bytes and lengths
  pub writer_verdict : Bytes s → WriterVerdict k n s ls out (writing_in k n s ls out)
  writer_verdict h = go (writer_check_in k n s ls out) refl (verdict_exact (writer_checks_in k n s ls out) (writer_agreeing h))
    where
      go : (r : Checked) → writer_check_in k n s ls out ≡ r → Verdict (writer_checks_in k n s ls out) r → WriterVerdict k n s ls out (answered r (file_length k s ls))
      go (Ok x) e v = (v, sym (length_written k n s ls out some (all-passed k n s ls out e).sum))
      go (Err x) e v = v

  -- "Writer checks 5, 6 .., 7 .., 8, 9, 10, 14."; without 10 (document 02, Point 5)
  pub writer_order : numbers (writer_checks_in k n s ls out) ≡ 5 ∷ 6 ∷ 7 ∷ 8 ∷ 9 ∷ 14 ∷ []
  writer_order = refl
