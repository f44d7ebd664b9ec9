-- A row with some references done: one more, and all of them.
use mathlib.Core.Path.{◌≡◌, sym, ap, ◌∙◌}
use mathlib.Core.List.{List, [], ◌∷◌, ◌++◌}
use Prim.Native.Nat.{ℕ, ◌+◌, ◌<◌}
use native.Mathlib.Numerals.{add-one}
use lib.ListN.{length, get_or, take}
use lib.Seq.{take-suc, take-length}
use Rattle.cache.specs.Cache.{Cache, with_reference, with_references}
use Rattle.cache.proofs.Rows.{with_references-append}

-- one more reference is done
pub one-done : (k : Cache) (ms row : List ℕ) (i : ℕ) {now new : List ℕ} → i < length ms → now ≡ with_references k row (take i ms) → new ≡ with_reference k now (get_or ms i 0)
    → new ≡ with_references k row (take (i + 1) ms)
one-done k ms row i h e q =
    let more : take (i + 1) ms ≡ take i ms ++ (get_or ms i 0 ∷ []) = rw add-one (take-suc ms i 0 h) in
    q
    ∙ ap (λ (l : List ℕ). with_reference k l (get_or ms i 0)) e
    ∙ sym (ap (with_references k row) more ∙ with_references-append k row (take i ms) (get_or ms i 0 ∷ []))

pub all_done_lem : (k : Cache) (ms row : List ℕ) (i : ℕ) {now : List ℕ} → i ≡ length ms → now ≡ with_references k row (take i ms) → now ≡ with_references k row ms
all_done_lem k ms row i h e = e ∙ ap (with_references k row) (ap (λ (n : ℕ). take n ms) h ∙ take-length ms)
