-- Costliest run for C. Definitions only.
use Rattle.std.specs.Prelude.{◌≡◌, Bool, true, false, List, ℕ, length}
use Rattle.project.specs.File.{File}
use Rattle.project.specs.Writing.{Writing}
use Rattle.rows.specs.Rows.{Area}
use Rattle.sheet.specs.Sheet.{Sheet}
use Rattle.costliest.specs.Costliest.{costliest_check, CostliestAnswer}
use Rattle.c_answers.specs.Writing.{status_of_writing, numbers_of_writing}

-- an answer of the call, in numbers, and the sheet that it leaves; which run is written is left free, as in the call
pub record RunAnswered (file : File) (i j : ℕ) (first second : Area) (sheet : Sheet) (status : ℕ) (new : Sheet) (numbers : List ℕ) : Type 0 where
  pub writing : Writing
  pub answer : CostliestAnswer (costliest_check 16 file i j first second sheet) file i j sheet writing new
  pub status_is : status ≡ status_of_writing writing
  pub numbers_are : numbers ≡ numbers_of_writing writing

-- the status, the areas, the sheet and the list for the answer afterwards: a list for the answer of another length gives 1, and nothing is written
abbrev pub RunLeft : Bool → File → ℕ → ℕ → Area → Area → Sheet → List ℕ → ℕ → Area → Area → Sheet → List ℕ → Type 0
RunLeft true file i j first second sheet answer status first' second' sheet' answer' =
    RunAnswered file i j first second sheet status sheet' answer' × (length first' ≡ length first) × (length second' ≡ length second)
RunLeft false file i j first second sheet answer status first' second' sheet' answer' =
    (status ≡ 1) × (first' ≡ first) × (second' ≡ second) × (sheet' ≡ sheet) × (answer' ≡ answer)
