-- A sheet in which no number is at fault and none is missing is the numbers of a nested run that keeps the rules, `kept-numbers`.
-- The idea: the code's reading, run by run, says of each run and list that ends what its numbers are; an induction on the depth, and on the runs left of a list.
use mathlib.Core.Path.{◌≡◌, refl, sym, ap, ◌∙◌}
use mathlib.Core.Logic.{◌≢◌}
use mathlib.Core.Bool.{Bool, true, false, cond, false≢true, true≢false}
use mathlib.Core.List.{List, [], ◌∷◌, ◌++◌, append-nil}
use Prim.Native.Nat.{ℕ, zero, suc, ◌+◌, ◌^◌, ◌≤◌}
use native.Mathlib.Omega.{arith}
use lib.Bits.{bit_or}
use lib.Dec.{eqb, ltb, leb}
use lib.ListN.{length, get_or, drop, take-append-drop, drop_of_length-le}
use lib.Seq.{drop-drop}
use borrow.Author.Tests.{eqb-true, ltb-true, leb-true, eq-eqb}
use Rattle.cache.proofs.Members.{in_empty}
use Rattle.model.specs.Lists.{mem}
use Rattle.model.specs.Nested.{RiseFrom, Outside}
use Rattle.model.proofs.Membership.{both_left, both_right, or_left, or_right}
use Rattle.sheet.proofs.RuleLaws.{head}
use Rattle.sheet.proofs.Parsing.{passes_not_before, path_read}
use Rattle.nested_sheet.specs.NestedSheet.{how_many, with_head, list_numbers, nested_numbers, RunInRules, ListInRules, ListWithin, NestedInRules, deepest}
use Rattle.std.specs.Prelude.{Ok, Err}
use Rattle.nested_sheet.specs.declared.rules.SheetFault.{SheetFault}
use Rattle.nested_sheet.specs.declared.rules.SheetFault.TheVariants.{Rules, Nesting}
use Rattle.nested_sheet.specs.Reading.{End, fault_number, head_end, onwards, point_test, runs_by, list_end, run_end, whole_fault, sheet_fault}
use Rattle.nested_sheet.specs.NestedRuns.{task_at, path_at, count_at, ListAt, runs_of, list_of, own_list, nested_run_of}
use Rattle.nested_sheet.proofs.Numbers.{head_apart}
use Rattle.nested_sheet.proofs.EndLaws.{is_at, place, HeadKept, head_says}
use Rattle.nested_sheet.proofs.RunByRun.{HasTasks, more_tasks, sheet_agrees}

-- ---- what stands at a place

-- a head that is kept
module _ {t around : ℕ} {s : List ℕ} {at next : ℕ} (h : HeadKept t around s at next) where
  head_stands : drop at s ≡ with_head (task_at s at) (path_at s at) (count_at s at) (drop next s)
  head_stands =
      let long = get_or s (at + 1) 0 in
      let path = path_read long (drop (at + 2) s) h.path in
      let two : at + 1 + 1 ≡ at + 2 = omega arith in
      let last : at + 2 + long + 1 ≡ next = omega (arith, h.ends) in
      head s at (omega (arith, h.within))
      ∙ ap (λ (l : List ℕ). task_at s at ∷ l) (head s (at + 1) (omega (arith, h.within)) ∙ ap (λ (x : ℕ). long ∷ drop x s) two)
      ∙ ap (λ (l : List ℕ). task_at s at ∷ long ∷ l)
      (sym (take-append-drop long (drop (at + 2) s))
      ∙ ap (λ (l : List ℕ). path_at s at ++ l) (drop-drop long (at + 2) s ∙ head s (at + 2 + long) (omega (arith, h.within)) ∙ ap (λ (x : ℕ). count_at s at ∷ drop x s) last))
      ∙ ap (λ (x : ℕ). task_at s at ∷ x ∷ (path_at s at ++ (count_at s at ∷ drop next s))) (sym path.long)

  outside_tasks : (tasks : List ℕ) → HasTasks around tasks → Outside (task_at s at) tasks
  outside_tasks tasks m = go tasks (sym (m (task_at s at)) ∙ h.outside)
    where
      go : (l : List ℕ) → mem eqb (task_at s at) l ≡ false → Outside (task_at s at) l
      go [] e = tt
      go (x ∷ l) e = (
        λ q. true≢false (sym (or_left (eqb (task_at s at) x) (mem eqb (task_at s at) l) (eq-eqb (task_at s at) x q)) ∙ e),
        go l (go_false (mem eqb (task_at s at) l) refl),
      )
        where
          go_false : (b : Bool) → mem eqb (task_at s at) l ≡ b → mem eqb (task_at s at) l ≡ false
          go_false true q = absurd (true≢false (sym (or_right (eqb (task_at s at) x) (mem eqb (task_at s at) l) q) ∙ e))
          go_false false q = q

-- ---- lists

-- what is known of the list that is read at a place, where it ends at `next`
record ListKept (t deep : ℕ) (tasks s : List ℕ) (long left i d at next : ℕ) (x : ListAt) : Type 0 where
  pub ends : x.next ≡ next
  pub many : how_many x.runs ≡ left
  pub rules : ListInRules t long x.runs
  pub rising : RiseFrom i d x.runs
  pub within : ListWithin deep tasks x.runs
  pub stands : drop at s ≡ list_numbers x.runs ++ drop next s

-- both parts of a reading that ends
ended : (r : End) (go : ℕ → End) (next : ℕ) → onwards r go ≡ Ok next → (m : ℕ) × (r ≡ Ok m) × (go m ≡ Ok next)
ended (Err c) go next e = absurd (false≢true (ap is_at e))
ended (Ok m) go next e = (m, refl, e)

module _ (t : ℕ) (s : List ℕ) where
  -- every list of this depth
  abbrev Known : ℕ → Type 0
  Known deep = (around : ℕ) (tasks : List ℕ) → HasTasks around tasks → (long left i d at next : ℕ) → list_end t deep around s long left i d at ≡ Ok next
      → ListKept t deep tasks s long left i d at next (list_of deep s left at)

  record RunKept (deep : ℕ) (tasks : List ℕ) (at next : ℕ) : Type 0 where
    pub run : RunInRules t (task_at s at) (path_at s at) (own_list deep s at).runs
    pub outside : Outside (task_at s at) tasks
    pub rules : ListInRules t (length (path_at s at)) (own_list deep s at).runs
    pub within : ListWithin deep (task_at s at ∷ tasks) (own_list deep s at).runs
    pub ends : (own_list deep s at).next ≡ next
    pub stands : drop at s ≡ with_head (task_at s at) (path_at s at) (how_many (own_list deep s at).runs) (list_numbers (own_list deep s at).runs ++ drop next s)

  run-kept : (deep : ℕ) → Known deep → (around : ℕ) (tasks : List ℕ) → HasTasks around tasks → (at next : ℕ) → run_end t deep around s at ≡ Ok next → RunKept deep tasks at next
  run-kept deep known around tasks m at next e =
      let (h, eh, el) = ended (head_end t around s at) _ next e in
      let says = head_says t around s at h eh in
      let own = rw says.ends at (known (bit_or around (2 ^ task_at s at)) (task_at s at ∷ tasks) (more_tasks around (task_at s at) tasks m) (get_or s (at + 1) 0) (count_at s at) 0 0 h next el) in
      let path = path_read (get_or s (at + 1) 0) (drop (at + 2) s) says.path in
      record {
        run = record { there = says.task; bounds = path.bounds; few = omega (arith, own.many, says.few); rising = own.rising };
        outside = outside_tasks says tasks m;
        rules = rw path.long own.rules;
        within = own.within;
        ends = own.ends;
        stands =
            rw says.ends at (head_stands says)
            ∙ ap (with_head (task_at s at) (path_at s at) (count_at s at)) own.stands
            ∙ ap (λ (c : ℕ). with_head (task_at s at) (path_at s at) c (list_numbers (own_list deep s at).runs ++ drop next s)) (sym own.many);
      }

  runs-kept : (deep : ℕ) → Known deep → (around : ℕ) (tasks : List ℕ) → HasTasks around tasks → (long left i d at next : ℕ)
      → runs_by (λ x. run_end t deep around s x) s long left i d at ≡ Ok next → ListKept t (suc deep) tasks s long left i d at next (runs_of (list_of deep s) s left at)
  runs-kept deep known around tasks m long zero i d at next e =
      record { ends = ap place e; many = refl; rules = tt; rising = tt; within = tt; stands = ap (λ (x : ℕ). drop x s) (ap place e) }
  runs-kept deep known around tasks m long (suc left) i d at next e = go (point_test s long i d at) refl e (λ x. runs-kept deep known around tasks m long left (get_or s at 0) (get_or s (at + 1) 0) x next)
    where
      go : (b : Bool) → point_test s long i d at ≡ b
          → cond b (onwards (run_end t deep around s (at + 2)) (λ x. runs_by (λ y. run_end t deep around s y) s long left (get_or s at 0) (get_or s (at + 1) 0) x)) (Err Rules) ≡ Ok next
          → ((x : ℕ) → runs_by (λ y. run_end t deep around s y) s long left (get_or s at 0) (get_or s (at + 1) 0) x ≡ Ok next
          → ListKept t (suc deep) tasks s long left (get_or s at 0) (get_or s (at + 1) 0) x next (runs_of (list_of deep s) s left x))
          → ListKept t (suc deep) tasks s long (suc left) i d at next (runs_of (list_of deep s) s (suc left) at)
      go false p e ih = absurd (false≢true (ap is_at e))
      go true p e ih =
          let (x, er, el) = ended (run_end t deep around s (at + 2)) _ next e in
          let one = run-kept deep known around tasks m (at + 2) x er in
          let rest : ListKept t (suc deep) tasks s long left (get_or s at 0) (get_or s (at + 1) 0) x next (runs_of (list_of deep s) s left (own_list deep s (at + 2)).next) = rw one.ends (ih x el) in
          let there : at + 2 ≤ length s = leb-true (at + 2) (length s) (both_left (leb (at + 2) (length s)) _ p) in
          let p1 = both_right (leb (at + 2) (length s)) _ p in
          let two : at + 1 + 1 ≡ at + 2 = omega arith in
          let own = (own_list deep s (at + 2)).runs in
          let others = (runs_of (list_of deep s) s left (own_list deep s (at + 2)).next).runs in
          record {
            ends = rest.ends;
            many = ap suc rest.many;
            rules = (ltb-true (get_or s at 0) long (both_left (ltb (get_or s at 0) long) _ p1), one.run, one.rules, rest.rules);
            rising = (passes_not_before i d (get_or s at 0) (get_or s (at + 1) 0) (both_right (ltb (get_or s at 0) long) _ p1), rest.rising);
            within = (one.outside, one.within, rest.within);
            stands =
                head s at (omega (arith, there))
                ∙ ap (λ (l : List ℕ). get_or s at 0 ∷ l) (head s (at + 1) (omega (arith, there)) ∙ ap (λ (y : ℕ). get_or s (at + 1) 0 ∷ drop y s) two)
                ∙ ap (λ (l : List ℕ). get_or s at 0 ∷ get_or s (at + 1) 0 ∷ l)
                (one.stands
                ∙ ap (λ (l : List ℕ). with_head (task_at s (at + 2)) (path_at s (at + 2)) (how_many own) (list_numbers own ++ l)) rest.stands
                ∙ sym (head_apart (task_at s (at + 2)) (path_at s (at + 2)) (how_many own) (list_numbers own) (list_numbers others) (drop next s)));
          }

  known : (deep : ℕ) → Known deep
  unfolding list_end list_of
  known zero around tasks m long zero i d at next e =
      record { ends = ap place e; many = refl; rules = tt; rising = tt; within = tt; stands = ap (λ (x : ℕ). drop x s) (ap place e) }
  known zero around tasks m long (suc left) i d at next e = absurd (false≢true (ap is_at e))
  known (suc deep) around tasks m long left i d at next e = runs-kept deep (known deep) around tasks m long left i d at next e

  -- ---- a fault has a number

  some_number : (c : SheetFault) → fault_number c ≢ 0
  some_number Rules e = absurd (omega (arith, e))
  some_number Nesting e = absurd (omega (arith, e))

  -- ---- the whole sheet

  pub record SheetKept : Type 0 where
    pub rules : NestedInRules t (nested_run_of s)
    pub numbers : s ≡ nested_numbers (nested_run_of s)
    pub ends : (own_list deepest s 0).next ≡ length s

  pub kept-numbers : sheet_fault t s ≡ 0 → SheetKept
  kept-numbers e = go (run_end t deepest 0 s 0) refl (sym (sheet_agrees t s) ∙ e)
    where
      whole : (next : ℕ) (b : Bool) → eqb next (length s) ≡ b → ◌≡◌ {A = ℕ} (cond b 0 12) 0 → next ≡ length s
      whole next true q z = eqb-true next (length s) q
      whole next false q z = absurd (omega (arith, z))

      go : (r : End) → run_end t deepest 0 s 0 ≡ r → whole_fault s r ≡ 0 → SheetKept
      go (Err c) q z = absurd (some_number c z)
      go (Ok next) q z =
          let one = run-kept deepest (known deepest) 0 [] in_empty 0 next q in
          let last : next ≡ length s = whole next (eqb next (length s)) refl z in
          record {
            rules = record { run = one.run; list = one.rules; within = one.within };
            numbers =
                one.stands
                ∙ ap (λ (l : List ℕ). with_head (task_at s 0) (path_at s 0) (how_many (own_list deepest s 0).runs) (list_numbers (own_list deepest s 0).runs ++ l)) (drop_of_length-le s {i = next} (omega (arith, last)))
                ∙ ap (with_head (task_at s 0) (path_at s 0) (how_many (own_list deepest s 0).runs)) (append-nil (list_numbers (own_list deepest s 0).runs));
            ends = one.ends ∙ last;
          }
