-- Document 01, "Paths and cache", and document 02, Points 5 and 6: the sets of cache blocks that are useful in a row and replaced by end rows, and one
-- row for all end rows of a task. Definitions only.
use Rattle.std.specs.Prelude.{◌≡◌, Bool, true, false, not, ◌&&◌, ◌||◌, List, [], ◌∷◌, map, ℕ, ◌<◌, eqb, length}
use Rattle.cache.specs.Cache.{held}
use Rattle.cache.specs.Sets.{useful, used, replaces, bits}
use Rattle.rows.specs.Overlay.{overlay}

-- the useful set of a reaching and a live row
abbrev pub useful_set : List ℕ → List ℕ → ℕ
useful_set reaching live = bits (length reaching) (useful reaching live)

-- the useful sets of a reaching row at a point with each of some live rows of the block: `rest` holds the first references of what is left of the block
abbrev pub useful_sets : List ℕ → List ℕ → List (List ℕ) → List ℕ
useful_sets r rest ls = map (λ (l : List ℕ). useful_set r (overlay l rest)) ls

-- the cache blocks of a reaching row that can be useful at the point: those where the rest holds nothing or the same memory block
abbrev pub kept : List ℕ → List ℕ → ℕ → Bool
kept r rest c = used r c && not (replaces rest r c)

abbrev pub kept_set : List ℕ → List ℕ → ℕ
kept_set r rest = bits (length r) (kept r rest)

-- the cache blocks of a reaching row r where the end row f "holds something there other than" what r holds, and those of each of some end rows
abbrev pub replaced_set : List ℕ → List ℕ → ℕ
replaced_set f r = bits (length r) (replaces f r)

abbrev pub replaced_sets : List ℕ → List (List ℕ) → List ℕ
replaced_sets r fs = map (λ (f : List ℕ). replaced_set f r) fs

-- whether one of the rows passes the test
abbrev pub any_row : (List ℕ → Bool) → List (List ℕ) → Bool
any_row test [] = false
any_row test (f ∷ fs) = test f || any_row test fs

-- whether one of the end rows replaces what r holds at the cache block c, whether one of them uses c, and whether one of them holds m there
abbrev pub some_replaces : List (List ℕ) → List ℕ → ℕ → Bool
some_replaces fs r c = any_row (λ (f : List ℕ). replaces f r c) fs

abbrev pub some_uses : List (List ℕ) → ℕ → Bool
some_uses fs c = any_row (λ (f : List ℕ). used f c) fs

abbrev pub some_holds : List (List ℕ) → ℕ → ℕ → Bool
some_holds fs c m = any_row (λ (f : List ℕ). eqb (held f c) m) fs

-- the one row for some end rows: at a cache block that one of them uses it holds a memory block that one of them holds there, and at any other nothing
pub record OneOfThem (w : ℕ) (fs : List (List ℕ)) (one : List ℕ) : Type 0 where
  pub wide : length one ≡ w
  pub from : (c : ℕ) → used one c ≡ true → some_holds fs c (held one c) ≡ true
  pub all : (c : ℕ) → c < w → some_uses fs c ≡ true → used one c ≡ true

-- such a row, and `mixed`, the cache blocks where one of the end rows holds another memory block than it: where they hold more than one. These two say
-- what some end row replaces in whatever row (OneRow, `joined-replaces`)
pub record Joined (w : ℕ) (fs : List (List ℕ)) (one : List ℕ) (mixed : ℕ) : Type 0 where
  pub row : OneOfThem w fs one
  pub others : mixed ≡ bits w (some_replaces fs one)
