-- A false neighbour of the exact time, refuted.
-- The idea: one miss of one cycle at 3 kHz takes 333 microseconds and 1 / 3 of one more.
use mathlib.Core.Path.{◌≡◌, refl}
use Prim.Native.Nat.{ℕ, ◌*◌}
use native.Mathlib.Omega.{arith}
use Rattle.std.specs.Prelude.{Ok}
use Rattle.microseconds.specs.Microseconds.{timing_of}

-- "q × clock is the whole product"
pub not_without_remainder : ((number penalty clock q r : ℕ) → timing_of number penalty clock ≡ Ok (record { whole = q; remainder = r }) → q * clock ≡ number * penalty * 1000) → ⊥
not_without_remainder h = let e = h 1 1 3 333 1 refl in omega arith
