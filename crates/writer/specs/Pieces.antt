-- What the pieces of the writer work out: the contents from the lengths, and where the bodies end. Definitions only.
use Rattle.std.specs.Prelude.{cond, List, [], ◌∷◌, ◌++◌, ℕ, ◌+◌, eqb, length, Option, Some, None}
use Rattle.body.specs.Layout.{two_bytes}
use Rattle.project.specs.Ends.{nine}
use Rattle.project.specs.Writing.{total}

-- the contents of bodies of these lengths, the first of which stands at `at`
abbrev pub entries : ℕ → List ℕ → List ℕ
entries at [] = []
entries at (l ∷ ls) = two_bytes (at ∷ l ∷ []) ++ entries (at + l) ls

-- where the first body begins, and where each body ends
abbrev pub sums : ℕ → List ℕ → List ℕ
sums at [] = at ∷ []
sums at (l ∷ ls) = at ∷ sums (at + l) ls

-- the ends of the joined bodies, if their lengths sum up to the joined length
abbrev pub cut_ends : List ℕ → List ℕ → Option (List ℕ)
cut_ends s ls = cond (eqb (total ls) (length s)) (Some (nine (sums 0 ls))) None
