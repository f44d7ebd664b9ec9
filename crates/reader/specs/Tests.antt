-- What it means that a call is the test of a body. Definitions only.
use Rattle.std.specs.Prelude.{◌≡◌, Bool, List, ℕ}
use Rattle.std.specs.Fn.{Shared}
use Rattle.std.specs.Borrow.{Bor}
use Rattle.body.specs.Layout.{Body}

-- each call of f at a body answers the test of the body
abbrev pub Tests : {F : Type 0} → Shared F (Bor (List ℕ) × Unit {0}) Bool → F → (Body → Bool) → Type 0
Tests g f test = (b : Bor (List ℕ)) (r : Bool) → g.post f (b, tt) r → r ≡ test b.now
