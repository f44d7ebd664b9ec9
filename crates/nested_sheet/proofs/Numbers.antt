-- The numbers of a nested run that keeps the rules: read from the front none is at fault, `numbers_pass`, and the run that they say is that run, `run_of-numbers`.
-- The idea: an induction on the list of runs, with the runs around it.
use mathlib.Core.Path.{◌≡◌, refl, sym, ap, ap₂, ◌∙◌}
use mathlib.Core.Logic.{inl, inr, ◌≢◌}
use mathlib.Core.Bool.{false, and-false}
use mathlib.Core.List.{List, [], ◌∷◌, ◌++◌, append-nil, append_assoc}
use Prim.Native.Nat.{ℕ, zero, suc, ◌+◌, ◌-◌, ◌≤◌, ◌<◌}
use native.Mathlib.Numerals.{sub-one}
use native.Mathlib.Omega.{arith}
use lib.Dec.{eqb}
use lib.ListN.{length, get_or, take, drop, length-append}
use lib.Seq.{drop-append_seam, drop-drop, get_or-drop, take_at}
use borrow.Author.Tests.{ne_eqb, lt-ltb, le-ltb, le-leb}
use Rattle.model.specs.Lists.{mem}
use Rattle.model.specs.Runs.{NotBefore}
use Rattle.model.specs.Nested.{RunList, no_run, a_run, RiseFrom, Outside}
use Rattle.sheet.specs.Sheet.{Sheet, PathInBounds, longest_path}
use Rattle.nested_sheet.specs.NestedSheet.{NestedSheetRun, how_many, with_head, list_numbers, nested_numbers, ListInRules, ListWithin, NestedInRules, deepest}
use Rattle.nested_sheet.specs.FrontToBack.{Around, Next, a_task, a_length, a_block, a_count, a_position, a_done, tasks_of, going_on, after}
use Rattle.nested_sheet.specs.Reading.{check_of, first_of, first_fault, sheet_fault}
use Rattle.nested_sheet.specs.NestedRuns.{task_at, path_at, count_at, list_start, ListAt, list_at, with_run, runs_of, list_of, own_list, nested_run_of}

-- the run of a task along a path of `long` blocks, with `left` runs of its list to begin after the point (i, d)
abbrev pub frame : ℕ → ℕ → ℕ → ℕ → ℕ → Around
frame j long left i d = record { task = j; long = long; left = left; position = i; done = d }

-- what stands after a list stands after its numbers
pub head_apart : (p : ℕ) (path : List ℕ) (count : ℕ) (os rs zs : List ℕ) → (with_head p path count os ++ rs) ++ zs ≡ with_head p path count (os ++ (rs ++ zs))
head_apart p path count os rs zs =
    append_assoc (with_head p path count os) rs zs ∙ ap (λ (l : List ℕ). p ∷ length path ∷ l) (append_assoc path (count ∷ os) (rs ++ zs))

-- ---- read from the front

module _ (t : ℕ) where
  -- a number that is not at fault leads on
  leads_on : (e : Next) (x : ℕ) (xs : List ℕ) → check_of t e x ≡ 0 → first_fault t e (x ∷ xs) ≡ first_fault t (after e x) xs
  leads_on e x xs h = ap (λ (c : ℕ). first_of c (first_fault t (after e x) xs)) h

  -- no block is at fault
  blocks_lead_on : (j long left : ℕ) (around : List Around) (path rest : List ℕ) → length path ≡ suc left
      → first_fault t (a_block j long left around) (path ++ rest) ≡ first_fault t (a_count j long around) rest
  blocks_lead_on j long left around [] rest e = absurd (omega (arith, e))
  blocks_lead_on j long zero around (b ∷ []) rest e = refl
  blocks_lead_on j long zero around (b ∷ c ∷ path) rest e = absurd (omega (arith, e))
  blocks_lead_on j long (suc left) around (b ∷ path) rest e = blocks_lead_on j long left around path rest (omega (arith, e))

  outside-mem : (j : ℕ) (around : List ℕ) → Outside j around → mem eqb j around ≡ false
  outside-mem j [] h = refl
  outside-mem j (i ∷ around) h = rw (ne_eqb j i h.0, outside-mem j around h.1)

  -- the head of a run: its task, length, blocks and count
  module _ (around : List Around) (p : ℕ) (path : List ℕ) (count : ℕ) (rest : List ℕ) (there : p < t) (bounds : PathInBounds path) (few : count ≤ 16)
      (outside : Outside p (tasks_of around)) (shallow : (0 < count) → length around ≢ deepest) where
    count-right : check_of t (a_count p (length path) around) count ≡ 0
    count-right = go count few shallow
      where
        go : (c : ℕ) → c ≤ 16 → ((0 < c) → length around ≢ deepest) → check_of t (a_count p (length path) around) c ≡ 0
        go zero l h = refl
        go (suc c) l h = rw (le-leb (suc c) 16 l, ne_eqb (length around) deepest (h (omega arith)), and-false)

    head_leads_on : first_fault t (a_task around) (with_head p path count rest) ≡ first_fault t (going_on (frame p (length path) count 0 0 ∷ around)) rest
    head_leads_on =
        leads_on (a_task around) p (length path ∷ (path ++ (count ∷ rest))) (rw (lt-ltb p t there, outside-mem p (tasks_of around) outside))
        ∙ leads_on (a_length p around) (length path) (path ++ (count ∷ rest)) (rw (le-leb 1 (length path) bounds.some, le-leb (length path) longest_path bounds.few))
        ∙ blocks_lead_on p (length path) (length path - 1) around path (count ∷ rest) (omega (arith, bounds.some))
        ∙ leads_on (a_count p (length path) around) count rest count-right

  position-right : (a : Around) (around : List Around) (i d : ℕ) → i < a.long → NotBefore a.position a.done i d → check_of t (a_position a around) i ≡ 0
  position-right a around i d l n = rw (lt-ltb i a.long l, le-leb a.position i (low n))
    where
      low : NotBefore a.position a.done i d → a.position ≤ i
      low (inl h) = omega arith
      low (inr (h, k)) = omega arith

  done-right : (a : Around) (around : List Around) (i d : ℕ) → NotBefore a.position a.done i d → check_of t (a_done i a around) d ≡ 0
  done-right a around i d (inl h) = rw (ne_eqb i a.position (λ e. omega (arith, e, h)))
  done-right a around i d (inr (h, k)) = rw (le-ltb d a.done k, and-false)

  -- a list may have runs only where the depth allows it
  shallow_by : (left : ℕ) (tasks : List ℕ) (xs : RunList) (n : ℕ) → ListWithin left tasks xs → n + left ≡ deepest → 0 < how_many xs → n ≢ deepest
  shallow_by left tasks no_run n h e l z = omega (arith, l)
  shallow_by zero tasks (a_run i d by path own rest) n h e l z = absurd h
  shallow_by (suc left) tasks (a_run i d by path own rest) n h e l z = omega (arith, e, z)

  -- a list with a run left goes on with its point
  going_on_lem : (j long left i d : ℕ) (around : List Around) → going_on (frame j long (suc left) i d ∷ around) ≡ a_position (frame j long (suc left) i d) around
  going_on_lem j long left i d around = rw (ne_eqb (suc left) 0 (λ e. omega (arith, e)))

  list-leads_on : (xs : RunList) (deep j long i d : ℕ) (around : List Around) (zs : List ℕ) → ListInRules t long xs → ListWithin deep (j ∷ tasks_of around) xs → RiseFrom i d xs
      → length around + deep ≡ deepest → first_fault t (going_on (frame j long (how_many xs) i d ∷ around)) (list_numbers xs ++ zs) ≡ first_fault t (going_on around) zs
  list-leads_on no_run deep j long i d around zs r w u e = refl
  list-leads_on (a_run x y by path own rest) zero j long i d around zs r w u e = absurd w
  list-leads_on (a_run x y by path own rest) (suc deep) j long i d around zs (l, k, ro, rr) (o, wo, wr) (n, ur) e =
      let top = frame j long (suc (how_many rest)) i d in
      let on = frame j long (how_many rest) x y in
      let inside : Outside by (tasks_of (on ∷ around)) = o in
      let deeper : length (on ∷ around) + deep ≡ deepest = omega (arith, e) in
      let rest-numbers = (with_head by path (how_many own) (list_numbers own) ++ list_numbers rest) ++ zs in
      ap (λ (z : Next). first_fault t z (x ∷ y ∷ rest-numbers)) (going_on_lem j long (how_many rest) i d around)
      ∙ leads_on (a_position top around) x (y ∷ rest-numbers) (position-right top around x y l n)
      ∙ leads_on (a_done x top around) y rest-numbers (done-right top around x y n)
      ∙ ap (λ (a : Around). first_fault t (a_task (a ∷ around)) rest-numbers) (ap (λ (m : ℕ). frame j long m x y) (sub-one (suc (how_many rest))))
      ∙ ap (first_fault t (a_task (on ∷ around))) (head_apart by path (how_many own) (list_numbers own) (list_numbers rest) zs)
      ∙ head_leads_on (on ∷ around) by path (how_many own) (list_numbers own ++ (list_numbers rest ++ zs)) k.there k.bounds k.few inside (shallow_by deep (by ∷ tasks_of (on ∷ around)) own (length (on ∷ around)) wo deeper)
      ∙ list-leads_on own deep by (length path) 0 0 (on ∷ around) (list_numbers rest ++ zs) ro wo k.rising deeper
      ∙ list-leads_on rest (suc deep) j long x y around zs rr wr ur e

  -- no number of a nested run that keeps the rules is at fault, and none is missing
  pub numbers_pass : (r : NestedSheetRun) → NestedInRules t r → sheet_fault t (nested_numbers r) ≡ 0
  numbers_pass r h =
      head_leads_on [] r.p r.path (how_many r.runs) (list_numbers r.runs) h.run.there h.run.bounds h.run.few tt (λ l z. omega (arith, z))
      ∙ ap (first_fault t (going_on (frame r.p (length r.path) (how_many r.runs) 0 0 ∷ []))) (sym (append-nil (list_numbers r.runs)))
      ∙ list-leads_on r.runs deepest r.p (length r.path) 0 0 [] [] h.list h.within h.run.rising refl

-- ---- the run that the numbers say

module _ (s : Sheet) where
  first : {x : ℕ} {zs : List ℕ} (at : ℕ) → drop at s ≡ x ∷ zs → get_or s at 0 ≡ x
  first at e =
      let here : at ≡ at + 0 = omega arith in
      ap (λ (i : ℕ). get_or s i 0) here ∙ sym (get_or-drop at s 0 0) ∙ ap (λ (l : List ℕ). get_or l 0 0) e

  further : {zs : List ℕ} (at : ℕ) (ys : List ℕ) → drop at s ≡ ys ++ zs → drop (at + length ys) s ≡ zs
  further {zs} at ys e = sym (drop-drop (length ys) at s) ∙ ap (drop (length ys)) e ∙ drop-append_seam ys zs

  -- the parts of a run, where its numbers stand at a place
  record HeadAt (at p : ℕ) (path : List ℕ) (count : ℕ) (list : List ℕ) : Type 0 where
    pub is-task : task_at s at ≡ p
    pub is-path : path_at s at ≡ path
    pub is-count : count_at s at ≡ count
    pub start : list_start s at ≡ at + 3 + length path
    pub after_head : drop (list_start s at) s ≡ list

  head_at : (at p : ℕ) (path : List ℕ) (count : ℕ) (list : List ℕ) → drop at s ≡ with_head p path count list → HeadAt at p path count list
  head_at at p path count list e =
      let long : get_or s (at + 1) 0 ≡ length path = first (at + 1) (further at (p ∷ []) e) in
      let blocks : drop (at + 2) s ≡ path ++ (count ∷ list) = further at (p ∷ length path ∷ []) e in
      let on : drop (at + 2 + length path) s ≡ count ∷ list = further (at + 2) path blocks in
      let begins : at + 3 + get_or s (at + 1) 0 ≡ at + 2 + length path + 1 = omega (arith, long) in
      record {
        is-task = first at e;
        is-path = ap₂ take long blocks ∙ take_at path (count ∷ list) (length path) refl;
        is-count = ap (λ (x : ℕ). get_or s (at + 2 + x) 0) long ∙ first (at + 2 + length path) on;
        start = ap (λ (x : ℕ). at + 3 + x) long;
        after_head = ap (λ (x : ℕ). drop x s) begins ∙ further (at + 2 + length path) (count ∷ []) on;
      }

  list_of_lem : (xs : RunList) (deep at : ℕ) (around zs : List ℕ) → ListWithin deep around xs → drop at s ≡ list_numbers xs ++ zs
      → list_of deep s (how_many xs) at ≡ list_at xs (at + length (list_numbers xs))
  unfolding list_of
  list_of_lem no_run zero at around zs w e = ap (list_at no_run) (omega arith)
  list_of_lem no_run (suc deep) at around zs w e = ap (list_at no_run) (omega arith)
  list_of_lem (a_run x y by path own rest) zero at around zs w e = absurd w
  list_of_lem (a_run x y by path own rest) (suc deep) at around zs (o, wo, wr) e =
      let head = head_at (at + 2) by path (how_many own) (list_numbers own ++ (list_numbers rest ++ zs)) (further at (x ∷ y ∷ []) e ∙ head_apart by path (how_many own) (list_numbers own) (list_numbers rest) zs) in
      let begin = list_start s (at + 2) in
      let inner : list_of deep s (count_at s (at + 2)) begin ≡ list_at own (begin + length (list_numbers own))
      = ap (λ (c : ℕ). list_of deep s c begin) head.is-count ∙ list_of_lem own deep begin (by ∷ around) (list_numbers rest ++ zs) wo head.after_head in
      let outer = list_of_lem rest (suc deep) (begin + length (list_numbers own)) around zs wr (further begin (list_numbers own) head.after_head) in
      let ends : begin + length (list_numbers own) + length (list_numbers rest) ≡ at + length (list_numbers (a_run x y by path own rest))
      = omega (arith, head.start, length-append (with_head by path (how_many own) (list_numbers own)) (list_numbers rest), length-append path (how_many own ∷ list_numbers own)) in
      ap (λ (own' : ListAt). with_run s at own' (runs_of (list_of deep s) s (how_many rest) own'.next)) inner
      ∙ ap (with_run s at (list_at own (begin + length (list_numbers own)))) outer
      ∙ ap₂ (λ (a b : ℕ). list_at (a_run a b (task_at s (at + 2)) (path_at s (at + 2)) own rest) (begin + length (list_numbers own) + length (list_numbers rest))) (first at e) (first (at + 1) (further at (x ∷ []) e))
      ∙ ap₂ (λ (a : ℕ) (b : List ℕ). list_at (a_run x y a b own rest) (begin + length (list_numbers own) + length (list_numbers rest))) head.is-task head.is-path
      ∙ ap (list_at (a_run x y by path own rest)) ends

-- the run of the numbers of a run that keeps the rules
pub run_of-numbers : (t : ℕ) (r : NestedSheetRun) → NestedInRules t r → nested_run_of (nested_numbers r) ≡ r
run_of-numbers t r h =
    let s = nested_numbers r in
    let head = head_at s 0 r.p r.path (how_many r.runs) (list_numbers r.runs) refl in
    let list : own_list deepest s 0 ≡ list_at r.runs (list_start s 0 + length (list_numbers r.runs))
    = ap (λ (c : ℕ). list_of deepest s c (list_start s 0)) head.is-count
    ∙ list_of_lem s r.runs deepest (list_start s 0) (r.p ∷ []) [] h.within (head.after_head ∙ sym (append-nil (list_numbers r.runs))) in
    ap₂ (λ (p : ℕ) (path : List ℕ). record { p = p; path = path; runs = (own_list deepest s 0).runs }) head.is-task head.is-path
    ∙ ap (λ (x : ListAt). record { p = r.p; path = r.path; runs = x.runs }) list
