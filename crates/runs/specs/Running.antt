-- A row and a count after a reference, and after references in both runs of a replay; what a run asks of a body and a path. Definitions only.
use Rattle.std.specs.Prelude.{◌≡◌, true, not, ◌&&◌, List, [], ◌∷◌, ℕ, ◌+◌, ◌^◌, ◌<◌, length}
use Rattle.cache.specs.Sum.{bit}
use Rattle.cache.specs.References.{All}
use Rattle.cache.specs.Cache.{Cache, Row, hits, with_reference, with_references}
use Rattle.model.specs.Tasks.{Path}
use Rattle.model.specs.Runs.{RowCount, at_first}
use Rattle.body.specs.Decode.{decode, task_of}
use Rattle.body.specs.Walk.{kept_of, starts_of}
use Rattle.runs.specs.declared.replay_cache.ReplayCache.{ReplayCache}
use Rattle.runs.specs.declared.both_runs.BothRuns.{BothRuns}

-- a row and a count, and those of the replay cache
abbrev pub row_count : Row → ℕ → RowCount
row_count row count = record { row = row; count = count }

abbrev pub held : ReplayCache → RowCount
held c = row_count c.cells c.misses

-- one reference, which adds 1 if it misses
abbrev pub with_own : Cache → RowCount → ℕ → RowCount
with_own k s m = record { row = with_reference k s.row m; count = s.count + bit (not (hits k s.row m)) }

-- a body that keeps its layout, and blocks of its task
pub record RunsIn (body : List ℕ) (path : Path) : Type 0 where
  pub kept : kept_of (decode body) ≡ true
  pub below : All (λ (b : ℕ). b < length (task_of (decode body))) path

-- the same, with where the blocks begin
pub record PathIn (body starts : List ℕ) (path : Path) : Type 0 where
  pub runs : RunsIn body path
  pub begin : starts ≡ starts_of (decode body)

-- ---- document 02, Point 5: "a third number, the hits of the undisturbed run that became misses"

-- the undisturbed and the disturbed run, and the hits of the one that are misses of the other
pub record Both : Type 0 where
  pub undisturbed : RowCount
  pub disturbed : RowCount
  pub lost : ℕ

abbrev pub both : RowCount → RowCount → ℕ → Both
both u d lost = record { undisturbed = u; disturbed = d; lost = lost }

abbrev pub held_both : BothRuns → Both
held_both c = both (held c.undisturbed) (held c.disturbed) c.lost

-- "both from an empty cache"
abbrev pub both_first : Cache → Both
both_first k = both (at_first k) (at_first k) 0

-- each of the three counts, and n more, stay below 2 ^ 32
abbrev pub CountsFit : Both → ℕ → Type 0
CountsFit s n = (s.undisturbed.count + n < 2 ^ 32) × (s.disturbed.count + n < 2 ^ 32) × (s.lost + n < 2 ^ 32)

-- one own reference, in both runs: it is a lost hit if it hits in the undisturbed run and misses in the disturbed one
abbrev pub with_both : Cache → Both → ℕ → Both
with_both k s m =
    both (with_own k s.undisturbed m) (with_own k s.disturbed m)
    (s.lost + bit (hits k s.undisturbed.row m && not (hits k s.disturbed.row m)))

-- own references in order
abbrev pub own_both : Cache → Both → List ℕ → Both
own_both k s [] = s
own_both k s (m ∷ ms) = own_both k (with_both k s m) ms

-- "A preemption makes all references of its path in order on the row as it stands and adds nothing.": in the disturbed run alone
abbrev pub preempted_both : Cache → Both → List ℕ → Both
preempted_both k s fs = both s.undisturbed (row_count (with_references k s.disturbed.row fs) s.disturbed.count) s.lost
