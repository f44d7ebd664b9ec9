-- That what a path or a part of it keeps is a proposition: there is one proof of it at most. This is asked of the facts that `BodyPath` and `Part` hold.
use Rattle.std.specs.Prelude.{◌≡◌, ◌≤◌, List, [], ◌∷◌, ℕ, ◌<◌}
use Rattle.std.specs.Coded.{×_prop, Unit-prop}
use Rattle.std.proofs.Props.{props}
use mathlib.Core.Logic.{inl, inr}
use mathlib.Core.Path.{ap}
use native.Mathlib.Omega.{arith}
use Rattle.cache.specs.References.{All}
use Rattle.model.specs.Tasks.{Task, Path}
use Rattle.model.specs.Runs.{NotBefore}
use Rattle.runs.specs.Running.{PathIn}
use Rattle.runs.specs.Parts.{PartIn}
use Rattle.runs.specs.declared.part.PathPoint.{PathPoint}

All-prop : {P : ℕ → Type 0} → ((m : ℕ) → IsProp (P m)) → (ms : List ℕ) → IsProp (All P ms)
All-prop h [] = Unit-prop
All-prop h (m ∷ ms) = ×_prop (h m) (All-prop h ms)

NotBefore-prop : (i d j e : ℕ) → IsProp (NotBefore i d j e)
NotBefore-prop i d j e (inl x) (inl y) = let p : IsProp (i < j) = hlevel props in ap inl (p x y)
NotBefore-prop i d j e (inl x) (inr y) = absurd (omega arith)
NotBefore-prop i d j e (inr x) (inl y) = absurd (omega arith)
NotBefore-prop i d j e (inr x) (inr y) = let p : IsProp ((i ≡ j) × (d ≤ e)) = hlevel props in ap inr (p x y)

pub PathIn-prop : (body starts : List ℕ) (path : Path) → IsProp (PathIn body starts path)
PathIn-prop body starts path = hlevel (props, All-prop)

pub PartIn-prop : (t : Task) (path : Path) (from to : PathPoint) → IsProp (PartIn t path from to)
PartIn-prop t path from to = hlevel (props, NotBefore-prop)
