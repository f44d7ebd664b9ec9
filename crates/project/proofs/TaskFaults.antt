-- The tests of checks 8 and 9 hold exactly when their faults are there, for each body: `tasks_agreeing`.
-- The idea: a body decodes exactly when it keeps its layout, and then to the task whose bytes it is.
use mathlib.Core.Path.{◌≡◌, refl, sym, ◌∙◌}
use mathlib.Core.Logic.{◌↔◌}
use mathlib.Core.Bool.{Bool, true, false, true≢false, false≢true}
use mathlib.Core.List.{List, [], map}
use Prim.Native.Nat.{ℕ, zero, suc, ◌<◌}
use native.Mathlib.Omega.{arith}
use lib.ListN.{length, get_or}
use borrow.Author.Tests.{not-true, not-false}
use Rattle.cache.specs.References.{All}
use Rattle.model.specs.Tasks.{Task, OnCompletePath}
use Rattle.model.specs.OnPath.{on_path, on_path_below, all_on_path}
use Rattle.model.proofs.OnPath.{on_path_exact, all_on_path_exact}
use Rattle.body.specs.Decode.{Decoded, broken, decoded, decode}
use Rattle.body.specs.Walk.{kept_of}
use Rattle.body.proofs.Decoded.{decode_bytes, decoded_layout, broken_no_layout}
use Rattle.project.specs.Checks.{body, Fault8, Fault9}
use Rattle.project.specs.Checklist.{Of, Agreeing}
use Rattle.project.specs.Reading.{test8, test9, task_checks}
use Rattle.project.proofs.Checklists.{of_exact}

abbrev pub Bytes : List ℕ → Type 0
Bytes s = All (λ (x : ℕ). x < 256) s

-- ---- check 8

pub kept-task : (b : List ℕ) → test8 b ≡ false → (t : Task) × (decode b ≡ decoded t)
kept-task b e = go (decode b) refl (not-false (kept_of (decode b)) e)
  where
    go : (d : Decoded) → decode b ≡ d → kept_of (decode b) ≡ true → (t : Task) × (decode b ≡ decoded t)
    go broken q k = absurd (false≢true (rw q at k))
    go (decoded t) q k = (t, q)

broken-body : (b : List ℕ) → test8 b ≡ true → decode b ≡ broken
broken-body b e = go (decode b) refl (not-true (kept_of (decode b)) e)
  where
    go : (d : Decoded) → decode b ≡ d → kept_of (decode b) ≡ false → decode b ≡ broken
    go broken q k = q
    go (decoded t) q k = absurd (true≢false (rw q at k))

pub exact8 : (b : List ℕ) → Bytes b → (test8 b ≡ true) ↔ Fault8 b
exact8 b h = (λ e. broken_no_layout b (broken-body b e), λ f. go f (test8 b) refl)
  where
    go : Fault8 b → (s : Bool) → test8 b ≡ s → test8 b ≡ true
    go f true e = e
    go f false e = let (t, q) = kept-task b e in let (i, z) = decoded_layout b t h q in absurd (f (t, i, z))

-- ---- check 9

-- a block below n that is on no complete path
off_path : (t : Task) (n : ℕ) → on_path_below t n ≡ false → (b : ℕ) × (b < n) × (OnCompletePath t b → ⊥)
off_path t zero e = absurd (true≢false e)
off_path t (suc n) e = go (on_path t n) refl (off_path t n)
  where
    go : (s : Bool) → on_path t n ≡ s → (on_path_below t n ≡ false → (b : ℕ) × (b < n) × (OnCompletePath t b → ⊥)) → (b : ℕ) × (b < suc n) × (OnCompletePath t b → ⊥)
    go true q ih = let (b, l, f) = ih (rw q at e) in (b, omega arith, f)
    go false q ih = (n, omega arith, λ p. true≢false (sym ((on_path_exact t n).1 p) ∙ q))

pub exact9 : (b : List ℕ) → Bytes b → test8 b ≡ false → (test9 b ≡ true) ↔ Fault9 b
exact9 b h k = (there, λ f. go f (test9 b) refl)
  where
    there : test9 b ≡ true → Fault9 b
    there e =
        let (t, q) = kept-task b k in
        let (i, z) = decoded_layout b t h q in
        let (n, m, f) = off_path t (length t) (not-true (all_on_path t) (rw q at e)) in
        (t, z, i, n, m, f)

    go : Fault9 b → (s : Bool) → test9 b ≡ s → test9 b ≡ true
    go f true e = e
    go (t, z, i, n, m, f) false e = absurd (f ((all_on_path_exact t).0 (not-false (all_on_path t) (rw (z, decode_bytes t i) at e)) n m))

-- ---- both checks

pub tasks_agreeing : (bs : List (List ℕ)) → ((i : ℕ) → i < length bs → Bytes (body bs i)) → Agreeing (task_checks bs)
tasks_agreeing bs h = (eight, λ p8. (nine (kept p8), λ p9. tt))
  where
    eight : (j : ℕ) → (get_or (map test8 bs) j false ≡ true) ↔ Of Fault8 [] bs j
    eight = of_exact test8 Fault8 [] bs (λ j l. exact8 (body bs j) (h j l))

    -- no fault of check 8 leaves each body kept
    kept : ((j : ℕ) → Of Fault8 [] bs j → ⊥) → (i : ℕ) → i < length bs → test8 (body bs i) ≡ false
    kept none i l = go (test8 (body bs i)) refl
      where
        go : (s : Bool) → test8 (body bs i) ≡ s → test8 (body bs i) ≡ false
        go true e = absurd (none i (l, (exact8 (body bs i) (h i l)).0 e))
        go false e = e

    nine : ((i : ℕ) → i < length bs → test8 (body bs i) ≡ false) → (j : ℕ) → (get_or (map test9 bs) j false ≡ true) ↔ Of Fault9 [] bs j
    nine k = of_exact test9 Fault9 [] bs (λ j l. exact9 (body bs j) (h j l) (k j l))
