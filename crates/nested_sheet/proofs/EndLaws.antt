-- Where a run and a list end: what a kept head says, that the end lies in the sheet, and the answers of `run_end` and `list_end` in the code's words.
-- The idea: a list of runs is its first run and the list of the others, so the ends are inductions on the depth and on the runs that are left.
use mathlib.Core.Path.{◌≡◌, refl, sym, ap, ◌∙◌}
use mathlib.Core.Bool.{Bool, true, false, ◌&&◌, cond, false≢true}
use mathlib.Core.List.{List}
use Prim.Native.Nat.{ℕ, zero, suc, ◌+◌, ◌-◌, ◌*◌, ◌%◌, ◌^◌, ◌≤◌, ◌<◌}
use native.Mathlib.Omega.{arith}
use lib.Bits.{bit_or}
use lib.Dec.{ltb, leb}
use lib.ListN.{length, get_or, drop}
use borrow.Author.Tests.{ltb-true, leb-true}
use Rattle.cache.specs.Sets.{in_set}
use Rattle.cache.proofs.Masks.{one_at}
use Rattle.model.proofs.Membership.{both_left, both_right}
use Rattle.sheet.specs.Parsed.{path_test}
use Rattle.std.specs.Prelude.{Ok, Err}
use Rattle.nested_sheet.specs.declared.rules.SheetFault.{SheetFault}
use Rattle.nested_sheet.specs.declared.rules.SheetFault.TheVariants.{Rules, Nesting}
use Rattle.nested_sheet.specs.Reading.{End, head_end, onwards, run_by, point_test, runs_by, list_end, run_end, EndsIn}

abbrev pub place : End → ℕ
place (Ok next) = next
place (Err c) = 0

abbrev pub is_at : End → Bool
is_at (Ok next) = true
is_at (Err c) = false

-- ---- the head

-- what a head says that is kept, and ends at `next`
pub record HeadKept (t around : ℕ) (s : List ℕ) (at next : ℕ) : Type 0 where
  pub task : get_or s at 0 < t
  pub outside : in_set around (get_or s at 0) ≡ false
  pub path : path_test (get_or s (at + 1) 0) (drop (at + 2) s) ≡ true
  pub few : get_or s (at + 2 + get_or s (at + 1) 0) 0 ≤ 16
  pub within : at + 3 + get_or s (at + 1) 0 ≤ length s
  pub ends : next ≡ at + 3 + get_or s (at + 1) 0

pub head_says : (t around : ℕ) (s : List ℕ) (at next : ℕ) → head_end t around s at ≡ Ok next → HeadKept t around s at next
head_says t around s at next e =
    go (ltb at (length s) && ltb (get_or s at 0) t) refl (in_set around (get_or s at 0)) refl
    (ltb (at + 1) (length s) && path_test long (drop (at + 2) s) && (ltb (at + 2 + long) (length s) && leb count 16)) refl e
  where
    long : ℕ
    long = get_or s (at + 1) 0

    count : ℕ
    count = get_or s (at + 2 + long) 0

    go : (a : Bool) → ltb at (length s) && ltb (get_or s at 0) t ≡ a → (b : Bool) → in_set around (get_or s at 0) ≡ b
        → (c : Bool) → ltb (at + 1) (length s) && path_test long (drop (at + 2) s) && (ltb (at + 2 + long) (length s) && leb count 16) ≡ c
        → cond a (cond b (Err Nesting) (cond c (Ok (at + 3 + long)) (Err Rules))) (Err Rules) ≡ Ok next → HeadKept t around s at next
    go false ea b eb c ec e = absurd (false≢true (ap is_at e))
    go true ea true eb c ec e = absurd (false≢true (ap is_at e))
    go true ea false eb false ec e = absurd (false≢true (ap is_at e))
    go true ea false eb true ec e =
        let first = both_left (ltb (at + 1) (length s) && path_test long (drop (at + 2) s)) (ltb (at + 2 + long) (length s) && leb count 16) ec in
        let second = both_right (ltb (at + 1) (length s) && path_test long (drop (at + 2) s)) (ltb (at + 2 + long) (length s) && leb count 16) ec in
        let inside = ltb-true (at + 2 + long) (length s) (both_left (ltb (at + 2 + long) (length s)) (leb count 16) second) in
        record {
          task = ltb-true (get_or s at 0) t (both_right (ltb at (length s)) (ltb (get_or s at 0) t) ea);
          outside = eb;
          path = both_right (ltb (at + 1) (length s)) (path_test long (drop (at + 2) s)) first;
          few = leb-true count 16 (both_right (ltb (at + 2 + long) (length s)) (leb count 16) second);
          within = omega (arith, inside);
          ends = sym (ap place e);
        }

-- ---- the end lies in the sheet

head_ends : (t around : ℕ) (s : List ℕ) (at : ℕ) → EndsIn s at (head_end t around s at)
head_ends t around s at = go (head_end t around s at) refl
  where
    go : (r : End) → head_end t around s at ≡ r → EndsIn s at r
    go (Err c) e = tt
    go (Ok next) e = let h = head_says t around s at next e in (omega (arith, h.ends), omega (arith, h.ends, h.within))

onwards-end : (s : List ℕ) (at mid : ℕ) (r : End) (go : ℕ → End) → at ≤ mid → EndsIn s mid r
    → ((next : ℕ) → next ≤ length s → EndsIn s next (go next)) → EndsIn s at (onwards r go)
onwards-end s at mid (Err c) go h e f = tt
onwards-end s at mid (Ok next) go h e f = wider (go next) (f next e.1)
  where
    wider : (r : End) → EndsIn s next r → EndsIn s at r
    wider (Err c) w = tt
    wider (Ok x) w = (omega (arith, e.0, w.0), w.1)

run-by-end : (list : ℕ → ℕ → ℕ → ℕ → ℕ → End) (t around : ℕ) (s : List ℕ) (at : ℕ)
    → ((long left i d x : ℕ) → x ≤ length s → EndsIn s x (list long left i d x)) → EndsIn s at (run_by list t around s at)
run-by-end list t around s at f =
    onwards-end s at at (head_end t around s at) _ (omega arith) (head_ends t around s at)
    (λ next l. f (get_or s (at + 1) 0) (get_or s (at + 2 + get_or s (at + 1) 0) 0) 0 0 next l)

runs-by-end : (one : ℕ → End) (s : List ℕ) → ((x : ℕ) → EndsIn s x (one x))
    → (long left i d at : ℕ) → at ≤ length s → EndsIn s at (runs_by one s long left i d at)
runs-by-end one s f long zero i d at h = (omega arith, h)
runs-by-end one s f long (suc left) i d at h = go (point_test s long i d at) (runs-by-end one s f long left (get_or s at 0) (get_or s (at + 1) 0))
  where
    go : (b : Bool) → ((next : ℕ) → next ≤ length s → EndsIn s next (runs_by one s long left (get_or s at 0) (get_or s (at + 1) 0) next))
        → EndsIn s at (cond b (onwards (one (at + 2)) (λ next. runs_by one s long left (get_or s at 0) (get_or s (at + 1) 0) next)) (Err Rules))
    go false ih = tt
    go true ih = onwards-end s at (at + 2) (one (at + 2)) _ (omega arith) (f (at + 2)) ih

list-ends : (t deep around : ℕ) (s : List ℕ) (long left i d at : ℕ) → at ≤ length s → EndsIn s at (list_end t deep around s long left i d at)
unfolding list_end
list-ends t zero around s long zero i d at h = (omega arith, h)
list-ends t zero around s long (suc left) i d at h = tt
list-ends t (suc deep) around s long left i d at h =
    runs-by-end _ s (λ x. run-by-end (list_end t deep (bit_or around (2 ^ get_or s x 0)) s) t around s x
    (list-ends t deep (bit_or around (2 ^ get_or s x 0)) s)) long left i d at h

pub run_ends : (t deep around : ℕ) (s : List ℕ) (at : ℕ) → EndsIn s at (run_end t deep around s at)
run_ends t deep around s at =
    run-by-end (list_end t deep (bit_or around (2 ^ get_or s at 0)) s) t around s at
    (list-ends t deep (bit_or around (2 ^ get_or s at 0)) s)

-- what the code shows of an answer: it is that of the definition, and lies in the sheet
abbrev Ended : List ℕ → ℕ → End → End → Type 0
Ended s at e r = (r ≡ e) × EndsIn s at r

ended : (s : List ℕ) (at : ℕ) (e : End) {r : End} → EndsIn s at e → r ≡ e → Ended s at e r
ended s at e h q = (q, rw q h)

-- ---- the answers of `run_end`, where h is that of `head_end`

module _ (t deep around : ℕ) (s : List ℕ) (at : ℕ) {h : End} (eh : h ≡ head_end t around s at) where
  by_head : onwards h (λ next. list_end t deep (bit_or around (2 ^ get_or s at 0)) s (get_or s (at + 1) 0) (get_or s (at + 2 + get_or s (at + 1) 0) 0) 0 0 next)
      ≡ run_end t deep around s at
  by_head = rw eh

  pub run_fault : {c : SheetFault} → h ≡ Err c → Ended s at (run_end t deep around s at) (Err c)
  run_fault q = ended s at (run_end t deep around s at) (run_ends t deep around s at) (rw q at by_head)

  module _ {next : ℕ} (q : h ≡ Ok next) where
    pub run_head : HeadKept t around s at next
    run_head = head_says t around s at next (sym eh ∙ q)

    pub run-few : {count : ℕ} → count ≡ get_or s (next - 1) 0 → count ≤ 16
    run-few ec =
        let last : next - 1 ≡ at + 2 + get_or s (at + 1) 0 = omega (arith, run_head.ends) in
        omega (arith, rw last at ec, run_head.few)

    pub run-list : {p long count : ℕ} {r : End} → t ≤ 8 → p ≡ get_or s at 0 → long ≡ get_or s (at + 1) 0 → count ≡ get_or s (next - 1) 0
        → r ≡ list_end t deep (bit_or around (1 * 2 ^ p % 2 ^ 32)) s long count 0 0 next → Ended s at (run_end t deep around s at) r
    run-list few ep el ec e =
        let k = run_head in
        let word : 1 * 2 ^ get_or s at 0 % 2 ^ 32 ≡ 2 ^ get_or s at 0 = one_at 32 (get_or s at 0) (omega (arith, k.task)) in
        let last : next - 1 ≡ at + 2 + get_or s (at + 1) 0 = omega (arith, k.ends) in
        ended s at (run_end t deep around s at) (run_ends t deep around s at) (e ∙ rw (ep, el, ec, last, word) (rw q at by_head))

-- ---- a list: none left, too deep, or its first run and the list of the others

none_is : (t deep around : ℕ) (s : List ℕ) (long left i d at : ℕ) → left ≡ 0 → Ok at ≡ list_end t deep around s long left i d at
unfolding list_end
none_is t zero around s long zero i d at e = refl
none_is t (suc deep) around s long zero i d at e = refl
none_is t deep around s long (suc left) i d at e = absurd (omega arith)

deep_is : (t deep around : ℕ) (s : List ℕ) (long left i d at : ℕ) → (left ≡ 0 → ⊥) → deep ≡ 0 → Err Nesting ≡ list_end t deep around s long left i d at
unfolding list_end
deep_is t deep around s long zero i d at n e = absurd (n refl)
deep_is t zero around s long (suc left) i d at n e = refl
deep_is t (suc deep) around s long (suc left) i d at n e = absurd (omega arith)

first-is : (t deep around : ℕ) (s : List ℕ) (long left i d at : ℕ) → (left ≡ 0 → ⊥) → (deep ≡ 0 → ⊥)
    → list_end t deep around s long left i d at
    ≡ cond (point_test s long i d at) (onwards (run_end t (deep - 1) around s (at + 2))
    (λ next. list_end t deep around s long (left - 1) (get_or s at 0) (get_or s (at + 1) 0) next)) (Err Rules)
unfolding list_end
first-is t deep around s long zero i d at n m = absurd (n refl)
first-is t zero around s long (suc left) i d at n m = absurd (m refl)
first-is t (suc deep) around s long (suc left) i d at n m =
    let less : suc deep - 1 ≡ deep = omega arith in
    let fewer : suc left - 1 ≡ left = omega arith in
    rw (less, fewer)

-- ---- the answers of `list_end`

module _ (t deep around : ℕ) (s : List ℕ) (long left i d at : ℕ) (inside : at ≤ length s) where
  answer : {r : End} → r ≡ list_end t deep around s long left i d at → Ended s at (list_end t deep around s long left i d at) r
  answer = ended s at (list_end t deep around s long left i d at) (list-ends t deep around s long left i d at inside)

  pub list-none : left ≡ 0 → Ended s at (list_end t deep around s long left i d at) (Ok at)
  list-none e = answer (none_is t deep around s long left i d at e)

  module _ (some : left ≡ 0 → ⊥) where
    pub list_deep : deep ≡ 0 → Ended s at (list_end t deep around s long left i d at) (Err Nesting)
    list_deep e = answer (deep_is t deep around s long left i d at some e)

    module _ (room : deep ≡ 0 → ⊥) {b : Bool} (eb : b ≡ point_test s long i d at) where
      by_point : cond b (onwards (run_end t (deep - 1) around s (at + 2)) (λ next. list_end t deep around s long (left - 1) (get_or s at 0) (get_or s (at + 1) 0) next)) (Err Rules)
          ≡ list_end t deep around s long left i d at
      by_point = rw eb (sym (first-is t deep around s long left i d at some room))

      pub list_point : b ≡ false → Ended s at (list_end t deep around s long left i d at) (Err Rules)
      list_point q = answer (rw q at by_point)

      pub point_there : b ≡ true → at + 2 ≤ length s
      point_there q = leb-true (at + 2) (length s) (both_left (leb (at + 2) (length s)) _ (sym eb ∙ q))

      module _ (q : b ≡ true) {r : End} (er : r ≡ run_end t (deep - 1) around s (at + 2)) where
        by-run : onwards r (λ next. list_end t deep around s long (left - 1) (get_or s at 0) (get_or s (at + 1) 0) next) ≡ list_end t deep around s long left i d at
        by-run = rw er (rw q at by_point)

        pub list_fault_lem : {c : SheetFault} → r ≡ Err c → Ended s at (list_end t deep around s long left i d at) (Err c)
        list_fault_lem e = answer (rw e at by-run)

        pub list-next : {next j k : ℕ} {x : End} → r ≡ Ok next → j ≡ get_or s at 0 → k ≡ get_or s (at + 1) 0
            → x ≡ list_end t deep around s long (left - 1) j k next → Ended s at (list_end t deep around s long left i d at) x
        list-next e ej ek ex = answer (ex ∙ rw (ej, ek) (rw e at by-run))

-- what ends at `next` ends in the sheet
pub ends_at : (s : List ℕ) (at : ℕ) {next : ℕ} {r : End} → EndsIn s at r → r ≡ Ok next → next ≤ length s
ends_at s at w e = (rw e at w).1
