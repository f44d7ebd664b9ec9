-- Lists: membership, a property of each element, the elements that pass a test, the largest value. Definitions only.
use Rattle.std.specs.Prelude.{Bool, ◌||◌, false, cond, List, [], ◌∷◌, ℕ, max}

-- x is an element of the list, by the test eq
abbrev pub mem : {A : Type 0} → (A → A → Bool) → A → List A → Bool
mem eq x [] = false
mem eq x (y ∷ ys) = eq x y || mem eq x ys

-- each element has the property
abbrev pub Each : {A : Type 0} → (A → Type 0) → List A → Type 0
Each P [] = Unit {0}
Each P (x ∷ xs) = P x × Each P xs

-- the elements that pass the test, in order
abbrev pub keep : {A : Type 0} → (A → Bool) → List A → List A
keep test [] = []
keep test (x ∷ xs) = cond (test x) (x ∷ keep test xs) (keep test xs)

-- the largest value of f, or 0
abbrev pub best : {A : Type 0} → (A → ℕ) → List A → ℕ
best f [] = 0
best f (x ∷ xs) = max (f x) (best f xs)
