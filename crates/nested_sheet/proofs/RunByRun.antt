-- Reading a nested sheet run by run agrees with reading it number by number: both find the same first fault.
-- The idea: the numbers from a place on have the fault of the run or list that begins there, or, where that ends without one, the fault of the numbers
-- after it; an induction on the depth, and for each depth on the runs that are left of a list.
use mathlib.Core.Path.{◌≡◌, refl, sym, ap, ◌∙◌}
use mathlib.Core.Bool.{Bool, true, false, not, ◌&&◌, ◌||◌, cond, or_comm, and-false, and_assoc}
use mathlib.Core.List.{List, [], ◌∷◌}
use Prim.Native.Nat.{ℕ, zero, suc, ◌+◌, ◌-◌, ◌^◌}
use native.Mathlib.Omega.{arith}
use lib.Bits.{bit_or}
use lib.Dec.{eqb, ltb, leb, leb-suc-suc, eqb-suc-zero}
use lib.ListN.{length, get_or, drop, drop_of_length-le}
use lib.Seq.{drop-drop}
use borrow.Author.Tests.{ltb-true, ltb-false, leb-true, leb-false, eqb-true, eqb-false, le-leb, lt-leb, eq-eqb, ne_eqb}
use Rattle.cache.specs.Sets.{in_set}
use Rattle.cache.proofs.Members.{in_or, in_power, in_empty}
use Rattle.model.specs.Lists.{mem}
use Rattle.model.proofs.Membership.{both_left}
use Rattle.sheet.specs.Sheet.{Sheet, longest_path}
use Rattle.sheet.specs.Parsed.{path_test, not_before}
use Rattle.sheet.proofs.RuleLaws.{head}
use Rattle.nested_sheet.specs.NestedSheet.{deepest}
use Rattle.nested_sheet.specs.FrontToBack.{Around, a_task, a_length, a_block, a_count, a_position, no_number, tasks_of, going_on}
use Rattle.std.specs.Prelude.{Ok, Err}
use Rattle.nested_sheet.specs.declared.rules.SheetFault.{SheetFault}
use Rattle.nested_sheet.specs.declared.rules.SheetFault.TheVariants.{Rules, Nesting}
use Rattle.nested_sheet.specs.Reading.{End, fault_number, first_of, first_fault, sheet_fault, onwards, run_by, point_test, runs_by, list_end, run_end, EndsIn, whole_fault}
use Rattle.nested_sheet.proofs.Numbers.{frame}
use Rattle.nested_sheet.proofs.EndLaws.{run_ends}

-- the fault of a run or a list, or that of the numbers after it, which lie within the runs of the stack
abbrev pub continued : ℕ → Sheet → List Around → End → ℕ
continued t s stack (Err c) = fault_number c
continued t s stack (Ok next) = first_fault t (going_on stack) (drop next s)

-- the fault of a list and of the numbers after it; that of a list which lies too deep is its count's
abbrev pub list_fault : ℕ → Sheet → List Around → Around → ℕ → ℕ
list_fault t s stack a at = first_of (cond (leb 1 a.left && eqb (length stack) deepest) 20 0) (first_fault t (going_on (a ∷ stack)) (drop at s))

-- the set has the tasks of the stack, and no others
abbrev pub HasTasks : ℕ → List ℕ → Type 0
HasTasks around tasks = (j : ℕ) → in_set around j ≡ mem eqb j tasks

pub more_tasks : (around p : ℕ) (tasks : List ℕ) → HasTasks around tasks → HasTasks (bit_or around (2 ^ p)) (p ∷ tasks)
more_tasks around p tasks h j = in_or around (2 ^ p) j ∙ rw (in_power p j, h j) (or_comm (mem eqb j tasks) (eqb j p))

-- ---- what a test in front of the rest comes to

first_one : (a : Bool) (r : ℕ) → first_of (cond a 0 12) r ≡ cond a r 12
first_one true r = refl
first_one false r = refl

first_two : (a b : Bool) (r : ℕ) → first_of (cond a (cond b 20 0) 12) r ≡ cond a (cond b 20 r) 12
first_two true true r = refl
first_two true false r = refl
first_two false b r = refl

first_count : (a b : Bool) (r : ℕ) → first_of (cond a (cond b 20 0) 12) r ≡ cond a (first_of (cond b 20 0) r) 12
first_count true b r = refl
first_count false b r = refl

cond_both : (a b : Bool) (r : ℕ) → cond a (cond b r 12) 12 ≡ cond (a && b) r 12
cond_both true b r = refl
cond_both false b r = refl

-- the rest is read where the test holds
cond_when : (a : Bool) {r r' : ℕ} → (a ≡ true → r ≡ r') → cond a r 12 ≡ cond a r' 12
cond_when true h = h refl
cond_when false h = refl

-- ---- the head

module _ (t : ℕ) (s : List ℕ) (stack : List Around) where
  task_read : (at : ℕ) → first_fault t (a_task stack) (drop at s)
      ≡ cond (ltb at (length s) && ltb (get_or s at 0) t) (cond (mem eqb (get_or s at 0) (tasks_of stack)) 20 (first_fault t (a_length (get_or s at 0) stack) (drop (at + 1) s))) 12
  task_read at = go (ltb at (length s)) refl
    where
      go : (b : Bool) → ltb at (length s) ≡ b → first_fault t (a_task stack) (drop at s)
          ≡ cond (b && ltb (get_or s at 0) t) (cond (mem eqb (get_or s at 0) (tasks_of stack)) 20 (first_fault t (a_length (get_or s at 0) stack) (drop (at + 1) s))) 12
      go true e = rw (head s at (ltb-true at (length s) e)) (first_two (ltb (get_or s at 0) t) (mem eqb (get_or s at 0) (tasks_of stack)) _)
      go false e = rw (drop_of_length-le s {i = at} (ltb-false at (length s) e))

  blocks_read : (j long left : ℕ) (xs : List ℕ) → first_fault t (a_block j long left stack) xs ≡ cond (leb (suc left) (length xs)) (first_fault t (a_count j long stack) (drop (suc left) xs)) 12
  blocks_read j long left [] = rw (lt-leb (suc left) 0 (omega arith))
  blocks_read j long zero (x ∷ xs) = rw (le-leb 1 (suc (length xs)) (omega arith))
  blocks_read j long (suc left) (x ∷ xs) = blocks_read j long left xs ∙ ap (λ (b : Bool). cond b (first_fault t (a_count j long stack) (drop (suc left) xs)) 12) (sym (leb-suc-suc (suc left) (length xs)))

  length_read : (j at : ℕ) → first_fault t (a_length j stack) (drop (at + 1) s)
      ≡ cond (ltb (at + 1) (length s) && path_test (get_or s (at + 1) 0) (drop (at + 2) s)) (first_fault t (a_count j (get_or s (at + 1) 0) stack) (drop (at + 2 + get_or s (at + 1) 0) s)) 12
  length_read j at = go (ltb (at + 1) (length s)) refl
    where
      long : ℕ
      long = get_or s (at + 1) 0

      go : (b : Bool) → ltb (at + 1) (length s) ≡ b → first_fault t (a_length j stack) (drop (at + 1) s)
          ≡ cond (b && path_test long (drop (at + 2) s)) (first_fault t (a_count j long stack) (drop (at + 2 + long) s)) 12
      go true e =
          let n : at + 1 + 1 ≡ at + 2 = omega arith in
          let rest = drop (at + 2) s in
          let after = first_fault t (a_count j long stack) (drop (at + 2 + long) s) in
          let blocks : leb 1 long && leb long longest_path ≡ true → first_fault t (a_block j long (long - 1) stack) rest ≡ cond (leb long (length rest)) after 12 = λ q.
          let m : suc (long - 1) ≡ long = omega (arith, leb-true 1 long (both_left (leb 1 long) (leb long longest_path) q)) in
          rw (m, drop-drop long (at + 2) s) at (blocks_read j long (long - 1) rest) in
          rw (head s (at + 1) (ltb-true (at + 1) (length s) e), n)
          (first_one (leb 1 long && leb long longest_path) _ ∙ cond_when (leb 1 long && leb long longest_path) blocks
          ∙ cond_both (leb 1 long && leb long longest_path) (leb long (length rest)) after
          ∙ ap (λ (b : Bool). cond b after 12) (and_assoc (leb 1 long) (leb long longest_path) (leb long (length rest))))
      go false e = rw (drop_of_length-le s {i = at + 1} (ltb-false (at + 1) (length s) e))

  count_read : (j long at : ℕ) → first_fault t (a_count j long stack) (drop at s)
      ≡ cond (ltb at (length s) && leb (get_or s at 0) 16) (list_fault t s stack (frame j long (get_or s at 0) 0 0) (at + 1)) 12
  count_read j long at = go (ltb at (length s)) refl
    where
      go : (b : Bool) → ltb at (length s) ≡ b → first_fault t (a_count j long stack) (drop at s)
          ≡ cond (b && leb (get_or s at 0) 16) (list_fault t s stack (frame j long (get_or s at 0) 0 0) (at + 1)) 12
      go true e = rw (head s at (ltb-true at (length s) e)) (first_count (leb (get_or s at 0) 16) (leb 1 (get_or s at 0) && eqb (length stack) deepest) _)
      go false e = rw (drop_of_length-le s {i = at} (ltb-false at (length s) e))

  head_read : (at : ℕ) → first_fault t (a_task stack) (drop at s)
      ≡ cond (ltb at (length s) && ltb (get_or s at 0) t) (cond (mem eqb (get_or s at 0) (tasks_of stack)) 20
      (cond (ltb (at + 1) (length s) && path_test (get_or s (at + 1) 0) (drop (at + 2) s)
      && (ltb (at + 2 + get_or s (at + 1) 0) (length s) && leb (get_or s (at + 2 + get_or s (at + 1) 0) 0) 16))
      (list_fault t s stack (frame (get_or s at 0) (get_or s (at + 1) 0) (get_or s (at + 2 + get_or s (at + 1) 0) 0) 0 0) (at + 3 + get_or s (at + 1) 0)) 12)) 12
  head_read at =
      let j = get_or s at 0 in
      let long = get_or s (at + 1) 0 in
      let count = get_or s (at + 2 + long) 0 in
      let n : at + 2 + long + 1 ≡ at + 3 + long = omega arith in
      let first = ltb (at + 1) (length s) && path_test long (drop (at + 2) s) in
      let second = ltb (at + 2 + long) (length s) && leb count 16 in
      let list = list_fault t s stack (frame j long count 0 0) (at + 3 + long) in
      let counted : first_fault t (a_count j long stack) (drop (at + 2 + long) s) ≡ cond second list 12 = rw n at (count_read j long (at + 2 + long)) in
      task_read at
      ∙ ap (λ (x : ℕ). cond (ltb at (length s) && ltb j t) (cond (mem eqb j (tasks_of stack)) 20 x) 12)
      (length_read j at ∙ ap (λ (x : ℕ). cond first x 12) counted ∙ cond_both first second list)

-- ---- a run, where its list is read alike

run-from : (t around : ℕ) (s : List ℕ) (stack : List Around) (at : ℕ) (list : ℕ → ℕ → ℕ → ℕ → ℕ → End) → HasTasks around (tasks_of stack)
    → list_fault t s stack (frame (get_or s at 0) (get_or s (at + 1) 0) (get_or s (at + 2 + get_or s (at + 1) 0) 0) 0 0) (at + 3 + get_or s (at + 1) 0)
    ≡ continued t s stack (list (get_or s (at + 1) 0) (get_or s (at + 2 + get_or s (at + 1) 0) 0) 0 0 (at + 3 + get_or s (at + 1) 0))
    → first_fault t (a_task stack) (drop at s) ≡ continued t s stack (run_by list t around s at)
run-from t around s stack at list h e =
    let long = get_or s (at + 1) 0 in
    let count = get_or s (at + 2 + long) 0 in
    let rest = ltb (at + 1) (length s) && path_test long (drop (at + 2) s) && (ltb (at + 2 + long) (length s) && leb count 16) in
    head_read t s stack at ∙ rw (h (get_or s at 0))
    (go (ltb at (length s) && ltb (get_or s at 0) t) (mem eqb (get_or s at 0) (tasks_of stack)) rest (at + 3 + long) (λ next. list long count 0 0 next) e)
  where
    go : (a m c : Bool) {x : ℕ} (n : ℕ) (f : ℕ → End) → x ≡ continued t s stack (f n)
        → cond a (cond m 20 (cond c x 12)) 12 ≡ continued t s stack (onwards (cond a (cond m (Err Nesting) (cond c (Ok n) (Err Rules))) (Err Rules)) f)
    go false m c n f e = refl
    go true true c n f e = refl
    go true false false n f e = refl
    go true false true n f e = e

-- ---- a point

not_less : (d y : ℕ) → not (ltb y d) ≡ leb d y
not_less d y = go (ltb y d) refl
  where
    go : (b : Bool) → ltb y d ≡ b → not b ≡ leb d y
    go true e = sym (lt-leb d y (ltb-true y d e))
    go false e = sym (le-leb d y (ltb-false y d e))

-- the numbers of a point, one after the other, are not at fault just where it doesn't come before the point (i, d)
in_order : (i d x y : ℕ) → leb i x && not (eqb x i && ltb y d) ≡ not_before i d x y
in_order i d x y = go (ltb i x) refl (eqb i x) refl
  where
    go : (a : Bool) → ltb i x ≡ a → (b : Bool) → eqb i x ≡ b → leb i x && not (eqb x i && ltb y d) ≡ a || (b && leb d y)
    go true ea b eb = let l = ltb-true i x ea in rw (le-leb i x (omega arith), ne_eqb x i (omega arith))
    go false ea true eb = let e = eqb-true i x eb in rw (le-leb i x (omega arith), eq-eqb x i (sym e)) (not_less d y)
    go false ea false eb = rw (lt-leb i x (omega (arith, ltb-false i x ea, eqb-false i x eb)))

cond_point : (a b c : Bool) (r : ℕ) → first_of (cond (a && b) 0 12) (first_of (cond c 12 0) r) ≡ cond (a && (b && not c)) r 12
cond_point true true true r = refl
cond_point true true false r = refl
cond_point true false c r = refl
cond_point false b c r = refl

module _ (t : ℕ) (s : List ℕ) (stack : List Around) (j long left i d at : ℕ) where
  -- the numbers from the task of the first run on
  abbrev then_run : ℕ
  then_run = first_fault t (a_task (frame j long (left - 1) (get_or s at 0) (get_or s (at + 1) 0) ∷ stack)) (drop (at + 2) s)

  point_read : first_fault t (a_position (frame j long left i d) stack) (drop at s) ≡ cond (point_test s long i d at) then_run 12
  point_read = go (ltb at (length s)) refl (leb (at + 2) (length s)) refl
    where
      n : at + 1 + 1 ≡ at + 2
      n = omega arith

      go : (a : Bool) → ltb at (length s) ≡ a → (b : Bool) → leb (at + 2) (length s) ≡ b
          → first_fault t (a_position (frame j long left i d) stack) (drop at s)
          ≡ cond (b && (ltb (get_or s at 0) long && not_before i d (get_or s at 0) (get_or s (at + 1) 0))) then_run 12
      go false ea true eb = absurd (omega (arith, ltb-false at (length s) ea, leb-true (at + 2) (length s) eb))
      go false ea false eb = rw (drop_of_length-le s {i = at} (ltb-false at (length s) ea))
      go true ea false eb =
          let none = drop_of_length-le s {i = at + 1} (omega (arith, leb-false (at + 2) (length s) eb)) in
          rw (head s at (ltb-true at (length s) ea), none) (both_twelve (ltb (get_or s at 0) long && leb i (get_or s at 0)))
        where
          both_twelve : (b : Bool) → first_of (cond b 0 12) 12 ≡ 12
          both_twelve true = refl
          both_twelve false = refl
      go true ea true eb =
          let within = leb-true (at + 2) (length s) eb in
          rw (head s at (ltb-true at (length s) ea), head s (at + 1) (omega (arith, within)), n)
          (cond_point (ltb (get_or s at 0) long) (leb i (get_or s at 0)) (eqb (get_or s at 0) i && ltb (get_or s (at + 1) 0) d) _
          ∙ rw (in_order i d (get_or s at 0) (get_or s (at + 1) 0)))

-- ---- a list, where its runs are read alike

runs_agree : (t : ℕ) (s : List ℕ) (stack : List Around) (j long : ℕ) (one : ℕ → End)
    → ((left i d x : ℕ) → first_fault t (a_task (frame j long left i d ∷ stack)) (drop x s) ≡ continued t s (frame j long left i d ∷ stack) (one x))
    → (left i d at : ℕ) → first_fault t (going_on (frame j long left i d ∷ stack)) (drop at s) ≡ continued t s stack (runs_by one s long left i d at)
runs_agree t s stack j long one h zero i d at = refl
runs_agree t s stack j long one h (suc left) i d at =
    let fewer : suc left - 1 ≡ left = omega arith in
    rw (eqb-suc-zero left) (point_read t s stack j long (suc left) i d at
    ∙ rw (fewer, h left (get_or s at 0) (get_or s (at + 1) 0) (at + 2))
    (go (point_test s long i d at) (one (at + 2)) (runs_agree t s stack j long one h left (get_or s at 0) (get_or s (at + 1) 0))))
  where
    go : (b : Bool) (r : End)
        → ((next : ℕ) → first_fault t (going_on (frame j long left (get_or s at 0) (get_or s (at + 1) 0) ∷ stack)) (drop next s)
        ≡ continued t s stack (runs_by one s long left (get_or s at 0) (get_or s (at + 1) 0) next))
        → cond b (continued t s (frame j long left (get_or s at 0) (get_or s (at + 1) 0) ∷ stack) r) 12
        ≡ continued t s stack (cond b (onwards r (λ next. runs_by one s long left (get_or s at 0) (get_or s (at + 1) 0) next)) (Err Rules))
    go false r ih = refl
    go true (Err c) ih = refl
    go true (Ok next) ih = ih next

-- the law for a list, where the runs of the stack and the depth left make up the deepest run
list_agrees : (t deep around : ℕ) (s : List ℕ) (stack : List Around) (j long left i d at : ℕ) → HasTasks around (j ∷ tasks_of stack)
    → length stack + deep ≡ deepest → list_fault t s stack (frame j long left i d) at ≡ continued t s stack (list_end t deep around s long left i d at)
unfolding list_end
list_agrees t zero around s stack j long zero i d at h e = refl
list_agrees t zero around s stack j long (suc left) i d at h e = rw (le-leb 1 (suc left) (omega arith), eq-eqb (length stack) deepest (omega arith))
list_agrees t (suc deep) around s stack j long left i d at h e =
    rw (ne_eqb (length stack) deepest (omega arith), and-false (leb 1 left))
    (runs_agree t s stack j long (λ x. run_by (list_end t deep (bit_or around (2 ^ get_or s x 0)) s) t around s x) (λ left i d x. run-from t around s (frame j long left i d ∷ stack) x (list_end t deep (bit_or around (2 ^ get_or s x 0)) s) h
    (list_agrees t deep (bit_or around (2 ^ get_or s x 0)) s (frame j long left i d ∷ stack) (get_or s x 0) (get_or s (x + 1) 0) (get_or s (x + 2 + get_or s (x + 1) 0) 0) 0 0
    (x + 3 + get_or s (x + 1) 0) (more_tasks around (get_or s x 0) (j ∷ tasks_of stack) h) (omega arith))) left i d at)

-- the law for a run
pub run_agrees : (t deep around : ℕ) (s : List ℕ) (stack : List Around) (at : ℕ) → HasTasks around (tasks_of stack) → length stack + deep ≡ deepest
    → first_fault t (a_task stack) (drop at s) ≡ continued t s stack (run_end t deep around s at)
run_agrees t deep around s stack at h e =
    run-from t around s stack at (list_end t deep (bit_or around (2 ^ get_or s at 0)) s) h
    (list_agrees t deep (bit_or around (2 ^ get_or s at 0)) s stack (get_or s at 0) (get_or s (at + 1) 0) (get_or s (at + 2 + get_or s (at + 1) 0) 0) 0 0
    (at + 3 + get_or s (at + 1) 0) (more_tasks around (get_or s at 0) (tasks_of stack) h) e)

-- ---- the whole sheet

whole_is : (t : ℕ) (s : List ℕ) (r : End) → EndsIn s 0 r → continued t s [] r ≡ whole_fault s r
whole_is t s (Err c) w = refl
whole_is t s (Ok next) w = go (eqb next (length s)) refl
  where
    go : (b : Bool) → eqb next (length s) ≡ b → first_fault t no_number (drop next s) ≡ cond b 0 12
    go true e = rw (drop_of_length-le s {i = next} (omega (arith, eqb-true next (length s) e)))
    go false e = rw (head s next (omega (arith, eqb-false next (length s) e, w.1)))

pub sheet_agrees : (t : ℕ) (s : Sheet) → sheet_fault t s ≡ whole_fault s (run_end t deepest 0 s 0)
sheet_agrees t s = run_agrees t deepest 0 s [] 0 in_empty refl ∙ whole_is t s (run_end t deepest 0 s 0) (run_ends t deepest 0 s 0)

-- in the code's words, where r is the end of the outer run
module _ (t : ℕ) (s : Sheet) {r : End} (e : r ≡ run_end t deepest 0 s 0) where
  whole : whole_fault s r ≡ sheet_fault t s
  whole = rw e (sym (sheet_agrees t s))

  pub whole_fault_lem : {c : SheetFault} → r ≡ Err c → fault_number c ≡ sheet_fault t s
  whole_fault_lem q = rw q at whole

  module _ {next : ℕ} (q : r ≡ Ok next) where
    pub whole-kept : next ≡ length s → 0 ≡ sheet_fault t s
    whole-kept h = rw (q, eq-eqb next (length s) h) at whole

    pub whole_more : (next ≡ length s → ⊥) → 12 ≡ sheet_fault t s
    whole_more h = rw (q, ne_eqb next (length s) h) at whole

pub ruleset whole_laws = (sheet_agrees, whole_fault_lem, whole-kept, whole_more)
