-- What is known of the input that was read. Definitions only.
use Rattle.std.specs.Prelude.{ℕ, ◌≤◌, Result, IfOk}

-- no more bytes were read than there is room for
abbrev pub Within : {E : Type 0} → Result ℕ E → ℕ → Type 0
Within read room = IfOk read (λ n. n ≤ room)
