-- `standing_rows` meets its contract: rows are kept along the two graphs of the body's task, and the area stays as they leave it. Assumes nothing.
use mathlib.Core.Path.{◌≡◌, subst}
use mathlib.Core.Bool.{Bool}
use mathlib.Core.List.{List}
use Prim.Native.Nat.{ℕ}
use native.Mathlib.Omega.{arith}
use lib.Seq.{set-get_or}
use Rattle.cache.specs.Cache.{Cache}
use Rattle.cache.specs.Shape.{shaped}
use Rattle.model.specs.Tasks.{Task}
use Rattle.body.specs.Decode.{decode, task_of}
use Rattle.graphs.proofs.Gathered.{kept-bounds}
use Rattle.task_uncovered.specs.Standing.{AreaStands}
use Rattle.task_uncovered.proofs.Standing.{stands_told}
use Rattle.task_uncovered.proofs.standing_rows.Goals as goal

-- the same rows in an equal area, as one in which a number was written back where it stood
in_area : {k : Cache} {t : Task} {area new reached lived : List ℕ} {full : Bool} → AreaStands k t area reached lived full → area ≡ new → AreaStands k t new reached lived full
in_area {k} {t} {reached = reached} {lived = lived} {full = full} h e = subst (λ (l : List ℕ). AreaStands k t l reached lived full) e h

pub returns : goal.returns
returns c =
    let args = c.args in
    rw c.is_err.ensures.value
    (in_area (stands_told (shaped args.w args.shape) (task_of (decode args.body.now)) (kept-bounds args.body.now c.requires.0) c.requires.2 c.task_kinds-kept.ensures)
    (grind (arith, set-get_or)))
