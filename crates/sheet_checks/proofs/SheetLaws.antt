-- Check 13 of the paths in the code's words: where the parts of a sheet stand, a turn of a loop over the preemptions, for any test of them, and the
-- paths.
-- The idea: what is left of the list passes the test just where the whole list does.
use mathlib.Core.Path.{◌≡◌, refl, sym, ap, ap₂, ◌∙◌}
use mathlib.Core.Bool.{Bool, true, false, ◌&&◌}
use mathlib.Core.List.{List, ◌∷◌}
use Prim.Native.Nat.{ℕ, ◌+◌, ◌-◌, ◌≤◌, ◌<◌}
use native.Mathlib.Omega.{arith}
use lib.ListN.{length, get_or, take, drop}
use lib.Seq.{take_at}
use Rattle.model.specs.Lists.{Each}
use Rattle.model.specs.Tasks.{Task, task}
use Rattle.model.specs.Runs.{Preemption}
use Rattle.body.proofs.WalksParts.{part_is}
use Rattle.project.specs.File.{task_count}
use Rattle.sheet.specs.Sheet.{preemption_numbers, PreemptionInRules, InRules}
use Rattle.sheet.specs.Parsed.{complete_path, each_passes, complete_by, complete_all}
use Rattle.sheet.proofs.Parsing.{kept_parses}
use Rattle.sheet.proofs.Places.{SheetPlaces, sheet-places, PreemptionPlaces, next_preemption, none_left}
use Rattle.sheet_checks.specs.SheetChecks.{run_in, Passed12}

-- what check 12 says of a sheet: its run keeps the rules, and where its numbers stand
pub record SheetFacts (s sheet : List ℕ) : Type 0 where
  pub rules : InRules (task_count s) (run_in s sheet)
  pub places : SheetPlaces sheet (run_in s sheet)

pub sheet_facts : (s sheet : List ℕ) → Passed12 s sheet → SheetFacts s sheet
sheet_facts s sheet h =
    let p = kept_parses (task_count s) sheet h.kept in
    record { rules = p.rules; places = sheet-places sheet (run_in s sheet) p.numbers }

-- ---- the own path: y and k are the numbers of its task and of its length

module _ (s sheet : List ℕ) (f : SheetFacts s sheet) {y k : ℕ} (ey : y ≡ get_or sheet 0 0) (ek : k ≡ get_or sheet 1 0) where
  pub own-there : y < task_count s
  own-there = omega (arith, f.places.task-at, f.rules.there)

  pub own-within : 3 + k ≤ length sheet
  own-within = omega (arith, f.places.long-at, f.places.within)

  pub own-path : take (2 + k - 2) (drop 2 sheet) ≡ (run_in s sheet).path
  own-path =
      let r = run_in s sheet in
      let n : 2 + k - 2 ≡ k = omega arith in
      rw (n, f.places.path-at) (take_at r.path (length r.preemptions ∷ preemption_numbers r.preemptions) k (sym (ek ∙ f.places.long-at)))

  module _ (ts : List Task) {b : Bool} (e : b ≡ complete_path (task ts y) (take (2 + k - 2) (drop 2 sheet))) where
    own_judged : complete_path (task ts (run_in s sheet).p) (run_in s sheet).path ≡ b
    own_judged = sym (e ∙ ap₂ (λ j. complete_path (task ts j)) (ey ∙ f.places.task-at) own-path)

    pub all-broken : b ≡ false → false ≡ complete_all ts (run_in s sheet)
    all-broken q = ap (λ x. x && each_passes (complete_by ts) (run_in s sheet).preemptions) (sym (own_judged ∙ q))

    pub all-by-each : {d : Bool} → b ≡ true → d ≡ each_passes (complete_by ts) (run_in s sheet).preemptions → d ≡ complete_all ts (run_in s sheet)
    all-by-each q g = g ∙ ap (λ x. x && each_passes (complete_by ts) (run_in s sheet).preemptions) (sym (own_judged ∙ q))

-- ---- the preemptions that are left from `at` on

-- a preemption of the run keeps the rules
abbrev RuleIn : List ℕ → List ℕ → Preemption → Type 0
RuleIn s sheet = PreemptionInRules (task_count s) (run_in s sheet).p (length (run_in s sheet).path)

-- they pass the test just where all do
pub record EachLeft (test : Preemption → Bool) (s sheet : List ℕ) (at : ℕ) : Type 0 where
  pub left : List Preemption
  pub numbers-at : drop at sheet ≡ preemption_numbers left
  pub rules : Each (RuleIn s sheet) left
  pub same : each_passes test left ≡ each_passes test (run_in s sheet).preemptions

-- the next of them
pub record NextLeft (test : Preemption → Bool) (s sheet : List ℕ) (at : ℕ) : Type 0 where
  pub first : Preemption
  pub rest : List Preemption
  pub places : PreemptionPlaces sheet at first rest
  pub rule : RuleIn s sheet first
  pub rules : Each (RuleIn s sheet) rest
  pub same : test first && each_passes test rest ≡ each_passes test (run_in s sheet).preemptions

module _ (test : Preemption → Bool) (s sheet : List ℕ) where
  -- at first all are left, after the path of k blocks
  pub each_start : SheetFacts s sheet → {k : ℕ} → k ≡ get_or sheet 1 0 → EachLeft test s sheet (3 + k)
  each_start f e = record {
    left = (run_in s sheet).preemptions;
    numbers-at = ap (λ k. drop (3 + k) sheet) (e ∙ f.places.long-at) ∙ f.places.list-at;
    rules = f.rules.each;
    same = refl;
  }

  module _ (at : ℕ) where
    pub next-left : EachLeft test s sheet at → at < length sheet → NextLeft test s sheet at
    next-left e h = go e.left e.numbers-at e.rules e.same
      where
        go : (xs : List Preemption) → drop at sheet ≡ preemption_numbers xs → Each (RuleIn s sheet) xs → each_passes test xs ≡ each_passes test (run_in s sheet).preemptions
            → NextLeft test s sheet at
        go xs d r q =
            let n = next_preemption sheet at xs h d in
            let (first, rest) = (rw n.same at r) in
            record { first = n.first; rest = n.rest; places = n.places; rule = first; rules = rest; same = ap (each_passes test) (sym n.same) ∙ q }

    pub each-end : EachLeft test s sheet at → length sheet ≤ at → true ≡ each_passes test (run_in s sheet).preemptions
    each-end e h = ap (each_passes test) (sym (none_left sheet at e.left h e.numbers-at)) ∙ e.same

    module _ (n : NextLeft test s sheet at) where
      pub each-broken : test n.first ≡ false → false ≡ each_passes test (run_in s sheet).preemptions
      each-broken q = ap (λ x. x && each_passes test n.rest) (sym q) ∙ n.same

      -- where k is the number of its path's length
      pub each_on : {k : ℕ} → k ≡ get_or sheet (at + 3) 0 → test n.first ≡ true → EachLeft test s sheet (at + 4 + k)
      each_on e q = record {
        left = n.rest;
        numbers-at = ap (λ i. drop (at + 4 + i) sheet) (e ∙ n.places.long-at) ∙ n.places.rest_at;
        rules = n.rules;
        same = ap (λ x. x && each_passes test n.rest) (sym q) ∙ n.same;
      }

-- ---- the path of the next preemption, where y and k are the numbers of its task and of its length

module _ (test : Preemption → Bool) (s sheet : List ℕ) (at : ℕ) (n : NextLeft test s sheet at) {y k : ℕ} (ey : y ≡ get_or sheet (at + 2) 0) (ek : k ≡ get_or sheet (at + 3) 0) where
  pub next-there : y < task_count s
  next-there = omega (arith, n.places.task-at, n.rule.there)

  next-path : take (at + 4 + k - (at + 4)) (drop (at + 4) sheet) ≡ n.first.path
  next-path = part_is sheet refl (ek ∙ n.places.long-at) ∙ n.places.path-at

  pub next_judged : (ts : List Task) {b : Bool} → b ≡ complete_path (task ts y) (take (at + 4 + k - (at + 4)) (drop (at + 4) sheet)) → complete_by ts n.first ≡ b
  next_judged ts e = sym (e ∙ ap₂ (λ j. complete_path (task ts j)) (ey ∙ n.places.task-at) next-path)
