-- Microseconds for C. Definitions only.
use Rattle.std.specs.Prelude.{List, ℕ}
use Rattle.microseconds.specs.Microseconds.{timing_of}
use Rattle.c_answers.specs.Timing.{timing_status, timing_left}

abbrev pub microseconds_status : ℕ → ℕ → ℕ → List ℕ → ℕ
microseconds_status number penalty clock answer = timing_status answer (timing_of number penalty clock)

abbrev pub microseconds_left : ℕ → ℕ → ℕ → List ℕ → List ℕ
microseconds_left number penalty clock answer = timing_left answer (timing_of number penalty clock)
