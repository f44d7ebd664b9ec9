-- A row overlaid by another. Definitions only.
use Rattle.std.specs.Prelude.{cond, [], ◌∷◌, eqb}
use Rattle.cache.specs.References.{nothing}
use Rattle.cache.specs.Cache.{Row}

-- the row, with what `over` holds at each place where that is not nothing
abbrev pub overlay : Row → Row → Row
overlay [] over = []
overlay (x ∷ row) [] = x ∷ row
overlay (x ∷ row) (y ∷ over) = cond (eqb y nothing) x y ∷ overlay row over
