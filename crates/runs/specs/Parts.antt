-- Document 02, Point 6: the references of a part of a path, from point to point. A point is a position in the path, and how many references of the
-- block there are done. Definitions only.
use Rattle.std.specs.Prelude.{cond, List, [], ◌∷◌, ◌++◌, ℕ, zero, suc, ◌-◌, ◌≤◌, ◌<◌, eqb, length, get_or, take, drop}
use Rattle.model.specs.Tasks.{Task, Path, block}
use Rattle.model.specs.Runs.{NotBefore}
use Rattle.runs.specs.declared.part.PathPoint.{PathPoint}

-- the references between the points (i, d) and (j, e) of a path: in one block those after the first d, up to e; else the rest of the block at i,
-- the blocks between, and the first e references of the block at j
abbrev pub between : Task → Path → ℕ → ℕ → ℕ → ℕ → List ℕ
between t [] i d j e = []
between t (b ∷ p) zero d zero e = take (e - d) (drop d (block t b).references)
between t (b ∷ p) zero d (suc j) e = drop d (block t b).references ++ between t p zero 0 j e
between t (b ∷ p) (suc i) d zero e = []
between t (b ∷ p) (suc i) d (suc j) e = between t p i d j e

-- the references of the block at the position x of a path
abbrev pub references_at : Task → Path → ℕ → List ℕ
references_at t path x = (block t (get_or path x 0)).references

-- the part of a path between two points
abbrev pub part_of : Task → Path → PathPoint → PathPoint → List ℕ
part_of t path from to = between t path from.position from.done to.position to.done

-- the first point of a path: no reference is done
abbrev pub first_point : PathPoint
first_point = record { position = 0; done = 0 }

-- the last point of a path: all references of its last block are done
abbrev pub last_point : Task → Path → PathPoint
last_point t path = record { position = length path - 1; done = length (references_at t path (length path - 1)) }

-- how many references of the block at the position x are done where the part begins in it, and where it ends in it
abbrev pub done_before : PathPoint → ℕ → ℕ
done_before from x = cond (eqb x from.position) from.done 0

abbrev pub done_after : Task → Path → PathPoint → ℕ → ℕ
done_after t path to x = cond (eqb x to.position) to.done (length (references_at t path x))

-- the references of the part in the block at the position x
abbrev pub part_at : Task → Path → PathPoint → PathPoint → ℕ → List ℕ
part_at t path from to x = between t path x (done_before from x) x (done_after t path to x)

-- two points of a path, in order; no more references are done than their blocks have
pub record PartIn (t : Task) (path : Path) (from to : PathPoint) : Type 0 where
  pub in_path : to.position < length path
  pub order : NotBefore from.position from.done to.position to.done
  pub from_done : from.done ≤ length (references_at t path from.position)
  pub to_done : to.done ≤ length (references_at t path to.position)
