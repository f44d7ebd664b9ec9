-- The tasks of an accepted file keep the rules: `file-rules`. So demand 3 holds of them, and equal n and tasks give equal pair numbers.
-- The idea: checks 8 and 9 that pass are the rules, body by body.
use mathlib.Core.Path.{◌≡◌, refl, ap, ◌∙◌}
use mathlib.Core.Bool.{Bool, true, false}
use mathlib.Core.List.{List, [], ◌∷◌, map}
use Prim.Native.Nat.{ℕ, zero, suc, ◌≤◌, ◌<◌}
use native.Mathlib.Nat.{not-suc-le-zero}
use native.Mathlib.Omega.{arith}
use lib.Dec.{ltb}
use lib.ListN.{length, length-map, get_or-eq_default}
use borrow.Author.Tests.{ltb-true, ltb-false, not-false}
use Rattle.cache.specs.References.{Real, All}
use Rattle.model.specs.Lists.{Each}
use Rattle.model.specs.Tasks.{Task, OnCompletePath, memory_blocks, task, Rules}
use Rattle.model.specs.Demand.{Demand3}
use Rattle.model.specs.OnPath.{all_on_path}
use Rattle.model.proofs.OnPath.{all_on_path_exact}
use Rattle.model.proofs.Demand.{demand_3}
use Rattle.body.specs.Layout.{InBounds}
use Rattle.body.specs.Decode.{decoded, decode, task_of}
use Rattle.body.proofs.Decoded.{decoded-bounds, decoded-real}
use Rattle.std.specs.Prelude.{Ok}
use Rattle.project.specs.declared.answers.Check.TheVariants.{BrokenLayout, OffPath}
use Rattle.project.specs.declared.answers.Accepted.{Accepted}
use Rattle.project.specs.File.{cache_blocks, bodies}
use Rattle.project.specs.Checks.{body}
use Rattle.project.specs.Checklist.{lowest}
use Rattle.project.specs.Reading.{test8, test9, tasks_check, reading_of}
use Rattle.project.specs.Tasks.{tasks_in, tasks_of, file_cache, file_pair}
use Rattle.project.proofs.TaskFaults.{Bytes, kept-task}
use Rattle.project.proofs.Accepted.{then_passed, none-lowest, tasks_kept, passing, accepted-passed}

pub each_at : (P : List ℕ → Type 0) (bs : List (List ℕ)) → Each P bs → (j : ℕ) → j < length bs → P (body bs j)
each_at P [] h j l = absurd (not-suc-le-zero l)
each_at P (b ∷ bs) h zero l = h.0
each_at P (b ∷ bs) h (suc j) l = each_at P bs h.1 j (omega arith)

pub task_in : (bs : List (List ℕ)) (j : ℕ) → task (tasks_in bs) j ≡ task_of (decode (body bs j))
unfolding decode
task_in [] j = refl
task_in (b ∷ bs) zero = refl
task_in (b ∷ bs) (suc j) = task_in bs j

beyond : (bs : List (List ℕ)) (j : ℕ) → length bs ≤ j → task (tasks_in bs) j ≡ []
beyond bs j h = get_or-eq_default (tasks_in bs) [] {n = j} (rw length-map h)

module _ (bs : List (List ℕ)) (ok : tasks_check bs ≡ Ok tt) where
  kept : (j : ℕ) → j < length bs → test8 (body bs j) ≡ false
  kept = each_at (λ (b : List ℕ). test8 b ≡ false) bs (tasks_kept bs ok)

  on_path_lem : (j : ℕ) → j < length bs → test9 (body bs j) ≡ false
  on_path_lem =
      each_at (λ (b : List ℕ). test9 b ≡ false) bs
      (none-lowest OffPath 0 test9 bs (then_passed (lowest OffPath 0 (map test9 bs)) _ (then_passed (lowest BrokenLayout 0 (map test8 bs)) _ ok).1).0)

  -- the task of body j
  pub record At (j : ℕ) : Type 0 where
    pub its : Task
    pub decodes : decode (body bs j) ≡ decoded its
    pub same : task (tasks_in bs) j ≡ its
    pub bounds : InBounds its

  pub at : (j : ℕ) → j < length bs → At j
  at j l =
      let (t, q) = kept-task (body bs j) (kept j l) in
      record { its = t; decodes = q; same = task_in bs j ∙ ap task_of q; bounds = decoded-bounds (body bs j) t q }

  real : (j : ℕ) → All Real (memory_blocks (task (tasks_in bs) j))
  real j = go (ltb j (length bs)) refl
    where
      go : (s : Bool) → ltb j (length bs) ≡ s → All Real (memory_blocks (task (tasks_in bs) j))
      go true e = let a = at j (ltb-true j (length bs) e) in rw a.same (decoded-real (body bs j) a.its a.decodes)
      go false e = rw (beyond bs j (ltb-false j (length bs) e)) tt

  on_complete : (j b : ℕ) → j < length bs → b < length (task (tasks_in bs) j) → OnCompletePath (task (tasks_in bs) j) b
  on_complete j b l h = rw (task_in bs j) ((all_on_path_exact (task_of (decode (body bs j)))).0 (not-false (all_on_path (task_of (decode (body bs j)))) (on_path_lem j l)) b (rw (task_in bs j) at h))

  some : (j : ℕ) → j < length bs → 1 ≤ length (task (tasks_in bs) j)
  some j l = let a = at j l in rw a.same a.bounds.some

  pub bodies-rules : Rules (tasks_in bs)
  bodies-rules = record {
    some = λ j l. some j (rw length-map at l);
    complete = λ j b l h. on_complete j b (rw length-map at l) h;
    real = real;
  }

-- the tasks of an accepted file
pub file-rules : (s : List ℕ) → Bytes s → (a : Accepted) → reading_of s ≡ Ok a → Rules (tasks_of s)
file-rules s h a e = bodies-rules (bodies s) (passing s (accepted-passed s a e).0).tasks

-- demand 3 of an accepted file
pub file-demand_3 : (s : List ℕ) → Bytes s → (a : Accepted) → reading_of s ≡ Ok a → Demand3 (file_cache s) (tasks_of s)
file-demand_3 s h a e = demand_3 (file_cache s) (tasks_of s) (file-rules s h a e)

-- "two accepted files that agree in these agree in it"
pub pair_agrees : (r s : List ℕ) (i j k l : ℕ) → cache_blocks r ≡ cache_blocks s → task (tasks_of r) i ≡ task (tasks_of s) k → task (tasks_of r) j ≡ task (tasks_of s) l
    → file_pair r i j ≡ file_pair s k l
pair_agrees r s i j k l n a b = rw (n, a, b)
