-- Where bodies end in a list of bytes: the layout of what the checks over tasks are handed. Definitions only.
use Rattle.std.specs.Prelude.{cond, List, [], ◌∷◌, ◌++◌, ℕ, zero, suc, ◌+◌, ◌-◌, ◌≤◌, ◌<◌, length, get_or, take, drop, replicate, Option, Some, None}
use Rattle.body.specs.Layout.{Body}
use Rattle.project.specs.File.{File, edition, bodies_start, size_of}
use Rattle.project.specs.Reading.{contents_fit}

-- where the first body begins, and where each of the bodies of the contents from task j on ends
abbrev pub ends_from : File → ℕ → ℕ → ℕ → List ℕ
ends_from s zero j at = at ∷ []
ends_from s (suc left) j at = at ∷ ends_from s left (suc j) (at + size_of s j)

-- nine numbers: those of the list, and zeros
abbrev pub nine : List ℕ → List ℕ
nine l = l ++ replicate (9 - length l) 0

-- the bytes between each end and the next, from the one numbered j on
abbrev pub between : List ℕ → List ℕ → ℕ → ℕ → List Body
between s ends zero j = []
between s ends (suc left) j = take (get_or ends (suc j) 0 - get_or ends j 0) (drop (get_or ends j 0) s) ∷ between s ends left (suc j)

-- the ends of the bodies of a file of t tasks, if its contents are as they should be
abbrev pub ends_of : File → ℕ → Option (List ℕ)
ends_of s t = cond (contents_fit s t 0 (bodies_start (edition s) t)) (Some (nine (ends_from s t 0 (bodies_start (edition s) t)))) None

-- at most eight bodies, each of which ends where or after it begins, within the bytes
pub record InOrder (s ends : List ℕ) (count : ℕ) : Type 0 where
  pub few : count ≤ 8
  pub rise : (j : ℕ) → j < count → get_or ends j 0 ≤ get_or ends (suc j) 0
  pub within : (j : ℕ) → j < count → get_or ends (suc j) 0 ≤ length s
