-- The references of a run from point to point, with those of the runs of its list, are all its references, `rests_all`.
-- The idea: a run with what comes in is a list of events; by points its references are `woven`, and by what comes in they are `rest_references`.
use mathlib.Core.Path.{◌≡◌, refl, sym, ap, ◌∙◌}
use mathlib.Core.List.{List, [], ◌∷◌, ◌++◌, append-nil, append_assoc}
use Prim.Native.Nat.{ℕ, ◌<◌}
use lib.ListN.{length}
use Rattle.model.specs.Lists.{Each}
use Rattle.model.specs.Tasks.{Task}
use Rattle.model.specs.Runs.{Point, points}
use Rattle.model.specs.Nested.{RunList, no_run, a_run, Coming, all_of, coming_at, woven, comings_of, all_references, RiseFrom}
use Rattle.model.proofs.Events.{Event, Ref, Preempt, refs}
use Rattle.model.proofs.Incoming.{comings, events_of}
use Rattle.runs.specs.Parts.{between, last_point}
use Rattle.runs.proofs.Segments.{Rises, InPath, segments, segments_all}
use Rattle.nested_sheet.specs.NestedSheet.{ListInRules, ListRight}
use Rattle.nested_replay.specs.Passes.{rest_references}

-- all references of events, those of the run and of what comes in
abbrev all_in : List Event → List ℕ
all_in [] = []
all_in (Ref m ∷ es) = m ∷ all_in es
all_in (Preempt fs ∷ es) = fs ++ all_in es

in_refs : (ms : List ℕ) (es : List Event) → all_in (refs ms es) ≡ ms ++ all_in es
in_refs [] es = refl
in_refs (m ∷ ms) es = ap (λ (l : List ℕ). m ∷ l) (in_refs ms es)

-- ---- by points

abbrev position_of : Coming → ℕ
position_of x = x.position

abbrev done_of : Coming → ℕ
done_of x = x.done

abbrev made_by : Coming → List ℕ
made_by x = x.all

in_comings : (ys : List Coming) (es : List Event) → all_in (comings position_of done_of made_by ys es) ≡ all_of ys ++ all_in es
in_comings [] es = refl
in_comings (y ∷ ys) es = ap (λ (l : List ℕ). y.all ++ l) (in_comings ys es) ∙ sym (append_assoc y.all (all_of ys) (all_in es))

in_events : (xs : List Coming) (ps : List Point) → all_in (events_of position_of done_of made_by xs ps) ≡ woven xs ps
in_events xs [] = refl
in_events xs (p ∷ ps) =
    in_refs p.reference _
    ∙ ap (λ (l : List ℕ). p.reference ++ l) (in_comings (coming_at p.position p.done xs) (events_of position_of done_of made_by xs ps)
    ∙ ap (λ (l : List ℕ). all_of (coming_at p.position p.done xs) ++ l) (in_events xs ps))

-- ---- by what comes in

module _ (ts : List Task) where
  rises_too : (i d : ℕ) (xs : RunList) → RiseFrom i d xs → Rises position_of done_of i d (comings_of ts xs)
  rises_too i d no_run h = tt
  rises_too i d (a_run j e by path own rest) h = (h.0, rises_too j e rest h.1)

  module _ (t : Task) (path : List ℕ) where
    points_in : (n : ℕ) (xs : RunList) → ListInRules n (length path) xs → ListRight ts t path xs → Each (InPath position_of done_of t path) (comings_of ts xs)
    points_in n no_run h r = tt
    points_in n (a_run i d by own inner rest) h r = ((h.0, r.0), points_in n rest h.3 r.3)

    in_segments : (i d : ℕ) (xs : RunList)
        → all_in (segments position_of done_of t path made_by (comings_of ts xs) i d) ≡ rest_references ts t path (record { position = i; done = d }) xs
    in_segments i d no_run =
        in_refs (between t path i d (last_point t path).position (last_point t path).done) []
        ∙ append-nil (between t path i d (last_point t path).position (last_point t path).done)
    in_segments i d (a_run j e by own inner rest) =
        in_refs (between t path i d j e) _
        ∙ ap (λ (l : List ℕ). between t path i d j e ++ (all_references ts by own inner ++ l)) (in_segments j e rest)

    -- from the first point on
    pub rests_all : (n : ℕ) (xs : RunList) → 0 < length path → RiseFrom 0 0 xs → ListInRules n (length path) xs → ListRight ts t path xs
        → rest_references ts t path (record { position = 0; done = 0 }) xs ≡ woven (comings_of ts xs) (points t 0 path)
    rests_all n xs some rising h r =
        sym (in_segments 0 0 xs)
        ∙ ap all_in (segments_all position_of done_of t path made_by (comings_of ts xs) some (rises_too 0 0 xs rising) (points_in n xs h r))
        ∙ in_events (comings_of ts xs) (points t 0 path)
