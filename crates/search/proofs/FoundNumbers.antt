-- What the search finds makes the pair number: `makes_number`.
-- The idea: the candidates are the rows that paths make at the points of unmasked blocks, so that the largest cost is one more than the pair number;
-- and an unmasked block has a candidate, since it has a reaching row and a live one.
use mathlib.Core.Path.{◌≡◌, refl, sym, ap, ap₂, subst, ◌∙◌}
use mathlib.Core.Logic.{◌⊎◌, inl, inr, ◌↔◌}
use mathlib.Core.Bool.{Bool, true, false, cond}
use mathlib.Core.List.{List, [], ◌∷◌}
use Prim.Native.Nat.{ℕ, zero, suc, ◌+◌, ◌≤◌, ◌<◌}
use native.Mathlib.Omega.{arith}
use lib.Dec.{eqb}
use lib.ListN.{length, get_or, take, drop, length-map, get_or-map}
use lib.Bits.{bit_and}
use lib.Count.{ones}
use borrow.Author.Tests.{eq-eqb}
use Rattle.cache.specs.References.{nothing, Real, All}
use Rattle.cache.specs.Cache.{Cache, Row, empty_row, with_references}
use Rattle.cache.specs.Firsts.{firsts_over}
use Rattle.cache.specs.Sets.{replaces, useful_replaced}
use Rattle.cache.proofs.Masks.{bits_none}
use Rattle.cache.proofs.Rows.{length-empty_row, length-with_references}
use Rattle.model.specs.Lists.{mem}
use Rattle.model.specs.Tasks.{Task, block, SomeUnmasked, Done, Allows, end, references, memory_blocks}
use Rattle.model.specs.States.{Reaches, Lives}
use Rattle.model.specs.Numbers.{Rows, counted}
use Rattle.model.specs.Computed.{sorted, reaching, living, pair_number}
use Rattle.model.proofs.Paths.{path-last}
use Rattle.model.proofs.Sorted.{sorted_has, sorted_only, reaching-rows, living-rows}
use Rattle.model.proofs.Entering.{Enters, EntersFrom, enters-first, enters_on, enters_cases, done_all_lem, at_point, live_point, point_before, point_after_lem, point_inside, point_reaches, point_lives}
use Rattle.model.proofs.Most.{most_unique, unmasked_exact, pair_is}
use Rattle.model.proofs.Policies.{lives-long}
use Rattle.body.specs.Jumps.{jump_sets}
use Rattle.body.proofs.BlockParts.{all_drop}
use Rattle.body.proofs.JumpLaws.{jump_has, jump_only}
use Rattle.body.proofs.Turning.{turned_has, turned_only}
use Rattle.rows.specs.Overlay.{overlay}
use Rattle.gather.proofs.Distinct.{mem_get_d, number_of}
use Rattle.graphs.proofs.Listed.{block-real}
use Rattle.points.specs.Points.{rest_of, left_rows, predecessors_of}
use Rattle.points.proofs.Rests.{overlay-rest}
use Rattle.row_sets.specs.Sets.{replaced_set, useful_set, replaced_sets}
use Rattle.row_sets.proofs.ReplacedSets.{counts_as}
use Rattle.search.specs.declared.Point.{Point}
use Rattle.search.specs.declared.Found.{Found}
use Rattle.search.specs.Search.{OfRow, first_point, point_after, OfBefore, fewest_done, OfTask, none_found, Searched}

-- ---- lists

-- the set that the end row numbered e replaces in a row; a row of no places replaces nothing
replaced_at : (r : List ℕ) (fs : List (List ℕ)) (e : ℕ) → get_or (replaced_sets r fs) e 0 ≡ replaced_set (get_or fs e []) r
replaced_at r fs e =
    ap (get_or (replaced_sets r fs) e) (sym (bits_none (length r) (replaces [] r) (λ c h. rw (eq-eqb nothing nothing refl))))
    ∙ get_or-map (λ (f : List ℕ). replaced_set f r) fs e []

-- the live row numbered l, overlaid by a rest
left_at : (rest : List ℕ) (ls : List (List ℕ)) (l : ℕ) → l < length ls → get_or (left_rows rest ls) l [] ≡ overlay (get_or ls l []) rest
left_at rest [] l h = absurd (omega arith)
left_at rest (x ∷ ls) zero h = refl
left_at rest (x ∷ ls) (suc l) h = left_at rest ls l (omega arith)

-- ---- how many references may be done, as the search counts them

done_range : (ms : List ℕ) (d : ℕ) → Done ms d → (fewest_done (length ms) ≤ d) × (d < length ms + 1)
done_range [] d h = (omega arith, omega arith)
done_range (m ∷ ms) d h = (h.0, omega (arith, h.1))

range_done : (ms : List ℕ) (d : ℕ) → fewest_done (length ms) ≤ d → d < length ms + 1 → Done ms d
range_done [] d l h = omega arith
range_done (m ∷ ms) d l h = (l, omega arith)

-- ---- what is found

-- the row before the block of a point
abbrev pub row_before : Cache → (ℕ → List Row) → Point → Row
row_before k rs p = cond p.first (empty_row k) (get_or (rs p.before) p.reaching [])

-- the block of the point is the first of a path, or comes after a predecessor with one of its rows
abbrev pub Comes : Task → (ℕ → List Row) → Point → Type 0
Comes i rs p =
    ((p.first ≡ true) × (p.block ≡ 0) × (p.before ≡ 0) × (p.reaching ≡ 0))
    ⊎ ((p.first ≡ false) × (p.before < length i) × (p.reaching < length (rs p.before)) × (mem eqb p.block (block i p.before).successors ≡ true))

-- the rows that are found are there; if the task i has an unmasked block, and only then, they cost something, a preemption may come at the point, and they
-- make the pair number
pub record MakesNumber (k : Cache) (i j : Task) (rs ls : ℕ → List Row) (fs : List Row) (x : Found) : Type 0 where
  pub inside : x.point.block < length i
  pub comes : Comes i rs x.point
  pub live_row : x.live < length (ls x.point.block)
  pub ending_row : x.ending < length fs
  pub few : x.point.done ≤ length (block i x.point.block).references
  pub some : (0 < x.cost) ↔ SomeUnmasked i
  pub allowed : SomeUnmasked i → Allows i x.point.block x.point.done
  pub number : SomeUnmasked i
      → useful_replaced k (with_references k (row_before k rs x.point) (take x.point.done (block i x.point.block).references))
      (firsts_over k (drop x.point.done (block i x.point.block).references) (get_or (ls x.point.block) x.live [])) (get_or fs x.ending [])
      ≡ pair_number k i j

module _ (k : Cache) (i j : Task) (rs ls : ℕ → List (List ℕ)) (fs : List (List ℕ)) (in_few : length i ≤ 24) (real : All Real (memory_blocks i))
    (reached : (b : ℕ) → b < length i → sorted (rs b) ≡ reaching k i b) (lived : (b : ℕ) → b < length i → sorted (ls b) ≡ living k i b)
    (ended : sorted fs ≡ reaching k j (end j)) where
  reach : (b r : ℕ) → b < length i → r < length (rs b) → Reaches k i b (get_or (rs b) r [])
  reach b r h l = (reaching-rows k i b (get_or (rs b) r [])).0 (rw (← reached b h) (sorted_has (rs b) (get_or (rs b) r []) (mem_get_d (rs b) r l)))

  live : (b l : ℕ) → b < length i → l < length (ls b) → Lives k i b (get_or (ls b) l [])
  live b l h m = (living-rows k i b (get_or (ls b) l [])).0 (rw (← lived b h) (sorted_has (ls b) (get_or (ls b) l []) (mem_get_d (ls b) l m)))

  ends : (e : ℕ) → e < length fs → Reaches k j (end j) (get_or fs e [])
  ends e h = (reaching-rows k j (end j) (get_or fs e [])).0 (rw (← ended) (sorted_has fs (get_or fs e []) (mem_get_d fs e h)))

  -- ---- the rows at a point, from the row before its block

  module _ (b d l e : ℕ) (row : List ℕ) (inside : b < length i) (live_row : l < length (ls b)) (ending_row : e < length fs) (enters : Enters k i b row) where
    abbrev ms : List ℕ
    ms = (block i b).references

    abbrev done_row : List ℕ
    done_row = with_references k row (take d ms)

    abbrev left_row : List ℕ
    left_row = firsts_over k (drop d ms) (get_or (ls b) l [])

    abbrev rows : Rows k i j
    rows = record {
      at = b;
      done = d;
      reaching = done_row;
      live = left_row;
      ending = get_or fs e [];
      reaches = at_point k i b d row enters;
      lives = live_point k i b d (get_or (ls b) l []) (live b l inside live_row);
      ends = ends e ending_row;
    }

    wide : length done_row ≡ k.width
    wide =
        length-with_references k (take d ms) row
        (ap length enters.2 ∙ length-with_references k (references i enters.0) (empty_row k) (length-empty_row k))

    left : get_or (left_rows (rest_of k ms d) (ls b)) l [] ≡ left_row
    left =
        left_at (rest_of k ms d) (ls b) l live_row
        ∙ overlay-rest k (drop d ms) (get_or (ls b) l []) (lives-long k i b (get_or (ls b) l []) (live b l inside live_row)) (all_drop Real d ms (block-real i real b))

    common : ones (bit_and (useful_set done_row (get_or (left_rows (rest_of k ms d) (ls b)) l [])) (get_or (replaced_sets done_row fs) e 0)) ≡ counted (useful_replaced k) rows
    common =
        ap₂ (λ (x : List ℕ) (v : ℕ). ones (bit_and (useful_set done_row x) v)) left (replaced_at done_row fs e)
        ∙ counts_as k done_row left_row (get_or fs e []) wide

    of_row : (p : Point) → OfRow p done_row (left_rows (rest_of k ms d) (ls b)) fs (record { point = p; live = l; ending = e; cost = counted (useful_replaced k) rows + 1 })
    of_row p = (rw length-map live_row, (rw length-map ending_row, ap (λ (n : ℕ). record { point = p; live = l; ending = e; cost = n + 1 }) (sym common)))

  module _ (found : Found) (searched : Searched k i rs ls fs found) where
    -- ---- no rows at a point of an unmasked block cost more

    met : (b d l e : ℕ) (row : List ℕ) (inside : b < length i) (live_row : l < length (ls b)) (ending_row : e < length fs) (enters : Enters k i b row) → Allows i b d
        → EntersFrom k i b row → counted (useful_replaced k) (rows b d l e row inside live_row ending_row enters) + 1 ≤ found.cost
    met b d l e row inside live_row ending_row enters (free, done) from = go from
      where
        range : (fewest_done (length (block i b).references) ≤ d) × (d < length (block i b).references + 1)
        range = done_range (block i b).references d done

        lefts : List (List ℕ)
        lefts = left_rows (rest_of k (block i b).references d) (ls b)

        cost : ℕ
        cost = counted (useful_replaced k) (rows b d l e row inside live_row ending_row enters) + 1

        point : Bool → ℕ → ℕ → Point
        point first a r = record { block = b; first = first; before = a; reaching = r; done = d }

        by : (first : Bool) (a r : ℕ)
            → OfBefore k (block i b).references b d (predecessors_of i b) (length i) rs lefts fs (record { point = point first a r; live = l; ending = e; cost = cost }) → cost ≤ found.cost
        by first a r of =
            searched.most (record { point = point first a r; live = l; ending = e; cost = cost }) (inside, ((unmasked_exact i b).1 free, (range.1, (range.0, of))))

        with_row : (p : Point) {row' : List ℕ} → row ≡ row'
            → OfRow p (with_references k row' (take d (block i b).references)) lefts fs (record { point = p; live = l; ending = e; cost = cost })
        with_row p q =
            subst (λ (r : List ℕ). OfRow p (with_references k r (take d (block i b).references)) lefts fs (record { point = p; live = l; ending = e; cost = cost })) q
            (of_row b d l e row inside live_row ending_row enters p)

        go : EntersFrom k i b row → cost ≤ found.cost
        go (inl (z, q)) = by true 0 0 (inl (z, with_row (first_point b d) q))
        go (inr (a, h, m)) =
            let low = path-last i h.1 in
            let (r, hr, er) = number_of row (rs a) (sorted_only (rs a) row (rw (reached a low) ((reaching-rows k i a row).1 h))) in
            by false a r
            (inr (low, (turned_has (jump_sets i) (length i) b a inside low (jump_has i a b (omega arith) m), (hr, with_row (point_after b d a r) (sym er)))))

    bound : (x : Rows k i j) → Allows i x.at x.done → counted (useful_replaced k) x + 1 ≤ found.cost
    bound x at =
        let inside = point_inside k i x.at x.done x.reaching x.reaches in
        let before = point_before k i x.at x.done x.reaching x.reaches in
        let after = point_after_lem k i x.at x.done x.live x.lives in
        let (l, hl, el) = number_of after.after (ls x.at) (sorted_only (ls x.at) after.after (rw (lived x.at inside) ((living-rows k i x.at after.after).1 after.lives))) in
        let (e, he, ee) = number_of x.ending fs (sorted_only fs x.ending (rw ended ((reaching-rows k j (end j) x.ending).1 x.ends))) in
        same_rows x.reaching x.live x.ending before.same (after.same ∙ ap (firsts_over k (drop x.done (block i x.at).references)) (sym el)) (sym ee)
        (met x.at x.done l e before.before inside hl he before.enters at (enters_cases k i x.at before.before before.enters))
      where
        same_rows : (r l f : List ℕ) {r' l' f' : List ℕ} → r ≡ r' → l ≡ l' → f ≡ f' → useful_replaced k r' l' f' + 1 ≤ found.cost → useful_replaced k r l f + 1 ≤ found.cost
        same_rows r l f er el ef h = rw (er, el, ef) h

    -- ---- a candidate that is found

    -- the row before its block
    record Before (x : Found) : Type 0 where
      row : List ℕ
      enters : Enters k i x.point.block row
      is : row ≡ row_before k rs x.point
      comes : Comes i rs x.point
      live_row : x.live < length (ls x.point.block)
      ending_row : x.ending < length fs
      cost : x.cost
          ≡ ones (bit_and (useful_set (with_references k row (take x.point.done (block i x.point.block).references))
          (get_or (left_rows (rest_of k (block i x.point.block).references x.point.done) (ls x.point.block)) x.live []))
          (get_or (replaced_sets (with_references k row (take x.point.done (block i x.point.block).references)) fs) x.ending 0))
          + 1

    of_before : (x : Found) → x.point.block < length i
        → OfBefore k (block i x.point.block).references x.point.block x.point.done (predecessors_of i x.point.block) (length i) rs
        (left_rows (rest_of k (block i x.point.block).references x.point.done) (ls x.point.block)) fs x → Before x
    of_before x inside (inl (z, s)) =
        let first : x.point.first ≡ true = ap (λ (y : Found). y.point.first) s.1.1 in
        record {
          row = empty_row k;
          enters = rw z (enters-first k i (omega arith));
          is = rw first;
          comes = inl (first, z, ap (λ (y : Found). y.point.before) s.1.1, ap (λ (y : Found). y.point.reaching) s.1.1);
          live_row = rw length-map at s.0;
          ending_row = rw length-map at s.1.0;
          cost = ap (λ (y : Found). y.cost) s.1.1;
        }
    of_before x inside (inr (low, (m, (hr, s)))) =
        let first : x.point.first ≡ false = ap (λ (y : Found). y.point.first) s.1.1 in
        let a = x.point.before in
        let led = jump_only i a x.point.block (turned_only (jump_sets i) (length i) x.point.block a m).1 in
        record {
          row = get_or (rs a) x.point.reaching [];
          enters = enters_on k i a x.point.block (get_or (rs a) x.point.reaching []) (reach a x.point.reaching low hr) led inside;
          is = rw first;
          comes = inr (first, low, hr, led);
          live_row = rw length-map at s.0;
          ending_row = rw length-map at s.1.0;
          cost = ap (λ (y : Found). y.cost) s.1.1;
        }

    module _ (c : OfTask k i rs ls fs found) where
      before : Before found
      before = of_before found c.0 c.1.1.1.1

      abbrev found_rows : Rows k i j
      found_rows = rows found.point.block found.point.done found.live found.ending before.row c.0 before.live_row before.ending_row before.enters

      found-allowed : Allows i found.point.block found.point.done
      found-allowed = (
        (unmasked_exact i found.point.block).0 c.1.0,
        range_done (block i found.point.block).references found.point.done c.1.1.1.0 c.1.1.0,
      )

      found-cost : found.cost ≡ counted (useful_replaced k) found_rows + 1
      found-cost =
          before.cost
          ∙ ap (λ (n : ℕ). n + 1)
          (common found.point.block found.point.done found.live found.ending before.row c.0 before.live_row before.ending_row before.enters)

      found_number : counted (useful_replaced k) found_rows ≡ pair_number k i j
      found_number =
          most_unique (useful_replaced k) k i j (Allows i) (counted (useful_replaced k) found_rows) (pair_number k i j)
          (record { bound = λ x at. omega (arith, bound x at, found-cost); attained = inr (found_rows, found-allowed, refl) }) (pair_is k i j)

      makes_candidate : MakesNumber k i j rs ls fs found
      makes_candidate = record {
        inside = c.0;
        comes = before.comes;
        live_row = before.live_row;
        ending_row = before.ending_row;
        few = omega (arith, c.1.1.0);
        some = (λ h. (found.point.block, c.0, found-allowed.0), λ s. omega (arith, found-cost));
        allowed = λ s. found-allowed;
        number = λ s. rw (← before.is) found_number;
      }

    module _ (some : 0 < length i) (some_reaching : (b : ℕ) → b < length i → 0 < length (rs b)) (some_live : (b : ℕ) → b < length i → 0 < length (ls b))
        (some_ending : 0 < length fs) where
      -- an unmasked block has a candidate: its rows at its end
      costs-some : SomeUnmasked i → 0 < found.cost
      costs-some (b, h, free) =
          let at-end : Rows k i j = record {
            at = b;
            done = length (block i b).references;
            reaching = get_or (rs b) 0 [];
            live = get_or (ls b) 0 [];
            ending = get_or fs 0 [];
            reaches = (point_reaches k i b (get_or (rs b) 0 [])).1 (reach b 0 h (some_reaching b h));
            lives = (point_lives k i b (get_or (ls b) 0 [])).1 (live b 0 h (some_live b h));
            ends = ends 0 some_ending;
          } in
          omega (arith, bound at-end (free, done_all_lem (block i b).references))

      -- nothing is found where all blocks are masked
      makes_none : (SomeUnmasked i → ⊥) → MakesNumber k i j rs ls fs none_found
      makes_none none = record {
        inside = some;
        comes = inl (refl, refl, refl, refl);
        live_row = some_live 0 some;
        ending_row = some_ending;
        few = omega arith;
        some = (λ h. absurd (omega arith), λ s. absurd (none s));
        allowed = λ s. absurd (none s);
        number = λ s. absurd (none s);
      }

      pub makes_number : MakesNumber k i j rs ls fs found
      makes_number = go searched.found
        where
          go : (found ≡ none_found) ⊎ OfTask k i rs ls fs found → MakesNumber k i j rs ls fs found
          go (inl e) = rw e (makes_none (λ s. omega (arith, costs-some s, ap (λ (y : Found). y.cost) e)))
          go (inr c) = makes_candidate c
