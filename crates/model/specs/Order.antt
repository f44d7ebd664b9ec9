-- Document 01, "Calls": "Rows rise in dictionary order with 65,535 for nothing". Definitions only.
use Rattle.std.specs.Prelude.{◌≡◌, Bool, true, false, ◌&&◌, ◌||◌, List, [], ◌∷◌, eqb, ltb}
use Rattle.cache.specs.Cache.{Row}

-- dictionary order: numbers compared place by place from cache block 0
abbrev pub before : Row → Row → Bool
before [] [] = false
before [] (y ∷ ys) = true
before (x ∷ xs) [] = false
before (x ∷ xs) (y ∷ ys) = ltb x y || (eqb x y && before xs ys)

-- the row stands before the first of the list, if there is one
abbrev pub BeforeFirst : Row → List Row → Type 0
BeforeFirst r [] = Unit {0}
BeforeFirst r (x ∷ xs) = before r x ≡ true

-- each row stands before the next; so no row is there twice
abbrev pub Rising : List Row → Type 0
Rising [] = Unit {0}
Rising (x ∷ xs) = BeforeFirst x xs × Rising xs
