-- Checks 13 and 16 over all runs in the code's words: what the pass asks of a run and of a list, and what it tells of them.
-- The idea: a list is told of by its first point, the run there and the rest, and a run by its path and its list.
use mathlib.Core.Path.{◌≡◌, refl, sym, ap, ap₂, subst, ◌∙◌}
use mathlib.Core.Bool.{Bool, true, false, ◌&&◌, false≢true}
use mathlib.Core.List.{List}
use Prim.Native.Nat.{ℕ, ◌+◌, ◌-◌, ◌≤◌, ◌<◌}
use native.Mathlib.Omega.{arith}
use lib.ListN.{length, get_or}
use Rattle.cache.specs.Sets.{in_set}
use Rattle.model.specs.Tasks.{Task, Path, task}
use Rattle.model.specs.Computed.{unmasked}
use Rattle.body.specs.Decode.{decode, task_of}
use Rattle.body.specs.Jumps.{unmasked_set}
use Rattle.body.specs.Walk.{starts_of}
use Rattle.body.proofs.BlockSets.{below_at}
use Rattle.body.proofs.Decoded.{decoded-bounds}
use Rattle.body.proofs.JumpLaws.{in_unmasked}
use Rattle.body.proofs.WalksParts.{kept-decoded}
use Rattle.project.specs.File.{task_count, body_of}
use Rattle.project.specs.Reading.{reading_of}
use Rattle.project.specs.Bodies.{accepted}
use Rattle.project.specs.Tasks.{tasks_of}
use Rattle.sheet.specs.Parsed.{complete_path, right_done}
use Rattle.runs.specs.Running.{PathIn}
use Rattle.runs.specs.Parts.{references_at}
use Rattle.sheet.proofs.CompletePaths.{complete-blocks}
use Rattle.nested_sheet.specs.NestedSheet.{ListInRules}
use Rattle.nested_sheet.specs.NestedRuns.{task_at, path_at, count_at, list_start, ListAt, with_run, list_of, own_list, run_right, list_right, list_unmasked}
use Rattle.std.specs.Prelude.{Option, Some, None}
use Rattle.nested_replay.specs.declared.checks.Right.{Right}
use Rattle.nested_replay.specs.Passes.{right_at, checked_of, with_first, checked_run, checked_list, RunReads}
use Rattle.nested_replay.proofs.SheetLists.{list-next, list_grows}
use Rattle.nested_replay.proofs.RunParts.{path_part, part_path, its_list, run-task, run-kept}

-- ---- two parts of a list

abbrev tag : Option Right → ℕ
tag None = 0
tag (Some r) = 1

pub told_right : (b u : Bool) (n : ℕ) {r : Right} → Some r ≡ checked_of b u n → (b ≡ true) × (r.unmasked ≡ u) × (r.next ≡ n)
told_right true u n {r} e = let q : r ≡ right_at n u = cc in (refl, ap (λ (x : Right). x.unmasked) q, ap (λ (x : Right). x.next) q)
told_right false u n e = absurd (omega (arith, ap tag e))

pub told_wrong : (b u : Bool) (n : ℕ) → None ≡ checked_of b u n → b ≡ false
told_wrong true u n e = absurd (omega (arith, ap tag e))
told_wrong false u n e = refl

-- the point's test d, and then what is told of the run there and of the rest, p and m being whether the point and the run's points lie in unmasked blocks
three_told : (d r : Bool) (p m : Bool) (q u : Bool) (n : ℕ) → d ≡ true → r ≡ true
    → with_first p (with_first m (checked_of q u n)) ≡ checked_of (d && (r && q)) (p && (m && u)) n
three_told true true p m true u n ed er = refl
three_told true true p m false u n ed er = refl
three_told true false p m q u n ed er = absurd (false≢true er)
three_told false r p m q u n ed er = absurd (false≢true ed)

-- ---- the block at a position of a path of the task of a body

module _ (body starts path : List ℕ) (h : PathIn body starts path) (q : ℕ) (l : q < length path) where
  block_inside : get_or path q 0 < length (task_of (decode body))
  block_inside = below_at path q (length (task_of (decode body))) h.runs.below l

  pub block-few : get_or path q 0 < 24
  block-few =
      let (t, e) = kept-decoded (decode body) h.runs.kept in
      let few : length (task_of (decode body)) ≤ 24 = rw e (decoded-bounds body t e).few in
      omega (arith, few, block_inside)

  pub point_told : {set : ℕ} {b : Bool} → set ≡ unmasked_set (task_of (decode body)) → b ≡ in_set set (get_or path q 0)
      → b ≡ unmasked (task_of (decode body)) (get_or path q 0)
  point_told es eb = eb ∙ ap (λ (x : ℕ). in_set x (get_or path q 0)) es ∙ in_unmasked (task_of (decode body)) (get_or path q 0) block_inside

-- ---- a list of `left` runs that begins at `at`, in a run of the task t along a path: a run comes first

pub record RunLeft (s sheet : List ℕ) (path : Path) (deep left at : ℕ) : Type 0 where
  pub file : accepted (reading_of s) ≡ true
  pub rules : ListInRules (task_count s) (length path) (list_of deep sheet left at).runs
  pub ends : (list_of deep sheet left at).next ≤ length sheet
  pub some : left ≡ 0 → ⊥
  pub depth : deep ≡ 0 → ⊥

module _ (s sheet : List ℕ) (t : Task) (path : Path) (deep left at : ℕ) (h : RunLeft s sheet path deep left at) where
  -- the list of its first run, and the rest
  abbrev own : ListAt
  own = own_list (deep - 1) sheet (at + 2)

  abbrev rest : ListAt
  rest = list_of deep sheet (left - 1) own.next

  parts : list_of deep sheet left at ≡ with_run sheet at own rest
  parts = list-next deep sheet left at h.some h.depth

  -- its task and its path
  abbrev by : ℕ
  by = task_at sheet (at + 2)

  abbrev path' : Path
  path' = path_at sheet (at + 2)

  -- what is told of the list, by the tests of its first point and of the run there
  abbrev told : Bool → Bool → Option Right
  told d r =
      checked_of (d && (r && list_right (tasks_of s) t path rest.runs))
      (unmasked t (get_or path (get_or sheet at 0) 0) && (list_unmasked (tasks_of s) (task (tasks_of s) by) path' own.runs && list_unmasked (tasks_of s) t path rest.runs))
      rest.next

  whole : checked_list s t path (list_of deep sheet left at)
      ≡ told (right_done (references_at t path (get_or sheet at 0)) (get_or sheet (at + 1) 0)) (run_right (tasks_of s) by path' own.runs)
  whole = ap (checked_list s t path) parts

  abbrev ListRules : ListAt → Type 0
  ListRules xs = ListInRules (task_count s) (length path) xs.runs

  first-rules : ListRules (with_run sheet at own rest)
  first-rules = subst ListRules parts h.rules

  rest-ends : rest.next ≤ length sheet
  rest-ends = omega (arith, h.ends, ap (λ (xs : ListAt). xs.next) parts)

  own-ends : own.next ≤ length sheet
  own-ends = omega (arith, rest-ends, list_grows deep sheet (left - 1) own.next)

  -- the numbers of its point stand in the sheet
  pub point_stands : at + 2 ≤ length sheet
  point_stands = omega (arith, own-ends, list_grows (deep - 1) sheet (count_at sheet (at + 2)) (list_start sheet (at + 2)))

  pub run-reads : RunReads s sheet (deep - 1) (at + 2)
  run-reads = record { file = h.file; run = first-rules.1; list = first-rules.2; ends = own-ends }

  module _ {q d : ℕ} (eq : q ≡ get_or sheet at 0) (ed : d ≡ get_or sheet (at + 1) 0) where
    pub point_in : q < length path
    point_in = omega (arith, eq, first-rules.0)

    module _ {b : Bool} (eb : b ≡ right_done (references_at t path q) d) where
      done_told : b ≡ right_done (references_at t path (get_or sheet at 0)) (get_or sheet (at + 1) 0)
      done_told = eb ∙ ap₂ (λ (x y : ℕ). right_done (references_at t path x) y) eq ed

      pub done-wrong : b ≡ false → None ≡ checked_list s t path (list_of deep sheet left at)
      done-wrong e = ap (λ (x : Bool). told x (run_right (tasks_of s) by path' own.runs)) (sym e ∙ done_told) ∙ sym whole

      module _ (e : b ≡ true) where
        right : right_done (references_at t path (get_or sheet at 0)) (get_or sheet (at + 1) 0) ≡ true
        right = sym done_told ∙ e

        pub run-wrong : None ≡ checked_run s sheet (deep - 1) (at + 2) → None ≡ checked_list s t path (list_of deep sheet left at)
        run-wrong w = ap₂ told (sym right) (sym (told_wrong (run_right (tasks_of s) by path' own.runs) _ _ w)) ∙ sym whole

        module _ {f : Right} (er : Some f ≡ checked_run s sheet (deep - 1) (at + 2)) where
          run_is : (run_right (tasks_of s) by path' own.runs ≡ true) × (f.unmasked ≡ list_unmasked (tasks_of s) (task (tasks_of s) by) path' own.runs) × (f.next ≡ own.next)
          run_is = told_right (run_right (tasks_of s) by path' own.runs) _ _ er

          pub rest-rules : ListInRules (task_count s) (length path) (list_of deep sheet (left - 1) f.next).runs
          rest-rules = rw run_is.2 first-rules.3

          pub rest-within : (list_of deep sheet (left - 1) f.next).next ≤ length sheet
          rest-within = rw run_is.2 rest-ends

          pub all_told : {p : Bool} {x y z : Option Right} → x ≡ checked_list s t path (list_of deep sheet (left - 1) f.next) → p ≡ unmasked t (get_or path q 0)
              → y ≡ with_first f.unmasked x → z ≡ with_first p y → z ≡ checked_list s t path (list_of deep sheet left at)
          all_told {p} ex ep ey ez =
              ez ∙ ap (with_first p) (ey ∙ ap (with_first f.unmasked) (ex ∙ ap (λ (n : ℕ). checked_list s t path (list_of deep sheet (left - 1) n)) run_is.2))
              ∙ ap₂ (λ (p m : Bool). with_first p (with_first m (checked_list s t path rest))) (ep ∙ ap (λ (x : ℕ). unmasked t (get_or path x 0)) eq) run_is.1
              ∙ three_told _ _ _ _ (list_right (tasks_of s) t path rest.runs) (list_unmasked (tasks_of s) t path rest.runs) rest.next right run_is.0
              ∙ sym whole

-- ---- a run that begins at `at`, where y and k are the numbers of its task and of its length, and `body` is the body of the task

module _ (s sheet : List ℕ) (deep at : ℕ) (h : RunReads s sheet deep at) {y k : ℕ} {body : List ℕ} (ey : y ≡ get_or sheet at 0) (ek : k ≡ get_or sheet (at + 1) 0) (eb : body ≡ body_of s y) where
  abbrev part : List ℕ
  part = path_part sheet at k

  -- what is told of the run, by the test of its path
  abbrev by-path : Bool → Option Right
  by-path x =
      checked_of (x && list_right (tasks_of s) (task (tasks_of s) (task_at sheet at)) (path_at sheet at) (own_list deep sheet at).runs)
      (list_unmasked (tasks_of s) (task (tasks_of s) (task_at sheet at)) (path_at sheet at) (own_list deep sheet at).runs) (own_list deep sheet at).next

  module _ {b : Bool} (ec : b ≡ complete_path (task_of (decode body)) part) where
    path_told : complete_path (task (tasks_of s) (task_at sheet at)) (path_at sheet at) ≡ b
    path_told = sym (ec ∙ ap₂ complete_path (run-task s sheet deep at h ey eb) (part_path sheet at ek))

    pub path-wrong : b ≡ false → None ≡ checked_run s sheet deep at
    path-wrong e = ap by-path (sym (path_told ∙ e))

    module _ (e : b ≡ true) where
      pub path_in : {starts : List ℕ} → starts ≡ starts_of (decode body) → PathIn body starts part
      path_in es = record { runs = record { kept = run-kept s sheet deep at h ey eb; below = complete-blocks (task_of (decode body)) part (sym ec ∙ e) }; begin = es }

      -- c is the number of its count
      module _ {c : ℕ} (en : c ≡ get_or sheet (at + 2 + k) 0) where
        pub list-rules : ListInRules (task_count s) (length part) (list_of deep sheet c (at + 2 + k + 1)).runs
        list-rules = rw (its_list sheet deep at ek en, part_path sheet at ek) h.list

        pub list-ends : (list_of deep sheet c (at + 2 + k + 1)).next ≤ length sheet
        list-ends = rw (its_list sheet deep at ek en) h.ends

        pub list_told : {x : Option Right} → x ≡ checked_list s (task_of (decode body)) part (list_of deep sheet c (at + 2 + k + 1)) → x ≡ checked_run s sheet deep at
        list_told ex =
            ex ∙ ap (checked_list s (task_of (decode body)) part) (its_list sheet deep at ek en)
            ∙ ap₂ (λ (t : Task) (path : Path). checked_list s t path (own_list deep sheet at)) (run-task s sheet deep at h ey eb) (part_path sheet at ek)
            ∙ ap by-path (sym (path_told ∙ e))
