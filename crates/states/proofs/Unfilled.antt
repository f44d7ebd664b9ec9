-- What the area holds after an accepting call where no state stands: "places n to 15 and unfilled rows hold 65,535", and 0 counts for absent blocks.
-- The idea: a row of a state is one of n places with nothings after it, and a block's part is its rows with nothings after them. All for rows of w places.
use mathlib.Core.Path.{◌≡◌, refl, sym, ap, ap₂, subst, ◌∙◌}
use mathlib.Core.Bool.{Bool, true, false}
use mathlib.Core.List.{List, [], ◌∷◌, ◌++◌, append_assoc}
use Prim.Native.Nat.{ℕ, zero, suc, ◌+◌, ◌-◌, ◌*◌, ◌≤◌, ◌<◌}
use native.Mathlib.Nat.{mul-le-mul_left}
use native.Mathlib.Omega.{arith}
use lib.ListN.{length, get_or, drop, replicate, length-append, length-replicate, get_or-replicate, get_or-append}
use lib.Seq.{get_or-append-add, get_or-take, get_or-drop}
use Rattle.cache.specs.Cache.{Cache, wide}
use Rattle.cache.specs.References.{nothing}
use Rattle.model.specs.Lists.{mem, Each}
use Rattle.model.specs.Tasks.{Task, task}
use Rattle.model.specs.States.{Reaches, Lives}
use Rattle.model.specs.Computed.{same_list, reaching, living}
use Rattle.model.proofs.Membership.{or_left, same_list_self, each_of}
use Rattle.model.proofs.Paths.{path-first, path-last}
use Rattle.model.proofs.Sorted.{reaching-rows, living-rows}
use Rattle.model.proofs.Wider.{Behind, reaches-narrow, lives-narrow}
use Rattle.model.proofs.Width.{wider}
use Rattle.rows.specs.Rows.{part_of, flat}
use Rattle.rows.proofs.Parts.{after_first, row_within}
use Rattle.std.specs.Prelude.{Ok}
use Rattle.project.specs.File.{cache_blocks}
use Rattle.project.specs.Tasks.{tasks_of, file_cache_in}
use Rattle.project.proofs.Accepted.{passing}
use Rattle.sort.specs.Sorting.{block_part}
use Rattle.sort.proofs.Sorted.{Wide, flat-length}
use Rattle.area.specs.RowPart.{kind_start, count_in}
use Rattle.area.proofs.RowLaws.{place_is}
use Rattle.states.specs.Filling.{filling_of, area_after}
use Rattle.states.proofs.AreaStates.{filled-file, states_of, states-wide, count_at_lem, part_at-place}

-- ---- rows of n places with nothings after them, w in all

-- the places n to w of a row hold nothing
abbrev Beyond : ℕ → ℕ → List ℕ → Type 0
Beyond w n row = (length row ≡ w) × ((c : ℕ) → n ≤ c → c < w → get_or row c 0 ≡ nothing)

module _ (w n : ℕ) (low : 0 < n) (high : n ≤ w) where
  whole : w ≡ n + (w - n)
  whole = omega arith

  behind : (P : List ℕ → Type 0) (row : List ℕ) → Behind (wider n low (w - n)) P row → Beyond w n row
  behind P row h = (
    ap length h.same ∙ length-append h.inner (replicate (w - n) nothing) ∙ omega (arith, h.long, length-replicate (w - n) nothing),
    λ c l m. let e : c ≡ length h.inner + (c - n) = omega (arith, h.long) in
        ap (λ (r : List ℕ). get_or r c 0) h.same ∙ ap (λ (i : ℕ). get_or (h.inner ++ replicate (w - n) nothing) i 0) e
        ∙ get_or-append-add h.inner (replicate (w - n) nothing) (c - n) 0 ∙ get_or-replicate (w - n) (c - n) nothing 0 (omega arith),
  )

  reaches_beyond : (t : Task) (b : ℕ) (row : List ℕ) → Reaches (wide w n) t b row → Beyond w n row
  reaches_beyond t b row r =
      behind (Reaches (wide n n) t b) row (reaches-narrow (wider n low (w - n)) t b row (subst (λ (v : ℕ). Reaches (wide v n) t b row) whole r))

  lives_beyond : (t : Task) (b : ℕ) (row : List ℕ) → Lives (wide w n) t b row → Beyond w n row
  lives_beyond t b row r =
      behind (Lives (wide n n) t b) row (lives-narrow (wider n low (w - n)) t b row (subst (λ (v : ℕ). Lives (wide v n) t b row) whole r))

-- ---- a block's part, and where it stands

part_beyond : (w n : ℕ) (rows : List (List ℕ)) (rest k c : ℕ) → Each (Beyond w n) rows → n ≤ c → c < w → w * k + c < length (flat rows) + rest
    → get_or (flat rows ++ replicate rest nothing) (w * k + c) 0 ≡ nothing
part_beyond w n [] rest k c h l m i = get_or-replicate rest (w * k + c) nothing 0 (omega arith)
part_beyond w n (x ∷ xs) rest zero c h l m i =
    let e : w * 0 + c ≡ c = omega arith in
    ap₂ (λ (y : List ℕ) (p : ℕ). get_or y p 0) (append_assoc x (flat xs) (replicate rest nothing)) e
    ∙ get_or-append x (flat xs ++ replicate rest nothing) 0 c (omega (arith, h.0.0)) ∙ h.0.1 c l m
part_beyond w n (x ∷ xs) rest (suc k) c h l m i =
    let e : w * suc k + c ≡ length x + (w * k + c) = omega (arith, h.0.0, after_first w k) in
    ap₂ (λ (y : List ℕ) (p : ℕ). get_or y p 0) (append_assoc x (flat xs) (replicate rest nothing)) e
    ∙ get_or-append-add x (flat xs ++ replicate rest nothing) (w * k + c) 0
    ∙ part_beyond w n xs rest k c h.1 l m (omega (arith, e, length-append x (flat xs)))

part_unfilled : (w : ℕ) (rows : List (List ℕ)) (rest k c : ℕ) → Wide w rows → length rows ≤ k → w * k + c < length (flat rows) + rest
    → get_or (flat rows ++ replicate rest nothing) (w * k + c) 0 ≡ nothing
part_unfilled w rows rest k c h l i =
    let long = flat-length w rows h in
    let after : w * length rows ≤ w * k = mul-le-mul_left w l in
    let e : w * k + c ≡ length (flat rows) + (w * k + c - length (flat rows)) = omega arith in
    ap (λ (p : ℕ). get_or (flat rows ++ replicate rest nothing) p 0) e
    ∙ get_or-append-add (flat rows) (replicate rest nothing) (w * k + c - length (flat rows)) 0
    ∙ get_or-replicate rest (w * k + c - length (flat rows)) nothing 0 (omega arith)

place_at : (w : ℕ) (area : List ℕ) (from b k c : ℕ) → k < 32 → c < w → get_or area (from + (32 * b + k) * w + c) 0 ≡ get_or (part_of w (drop from area) b) (w * k + c) 0
place_at w area from b k c h l =
    let e : from + (32 * b + k) * w + c ≡ from + (32 * w * b + (w * k + c)) = omega (arith, place_is w b k) in
    ap (λ (p : ℕ). get_or area p 0) e
    ∙ sym
    (get_or-take (32 * w) (drop (32 * w * b) (drop from area)) (w * k + c) 0 (omega (arith, row_within w k 32 h))
    ∙ get_or-drop (32 * w * b) (drop from area) (w * k + c) 0 ∙ get_or-drop from area (32 * w * b + (w * k + c)) 0)

no_member : (rows : List (List ℕ)) → ((row : List ℕ) → mem same_list row rows ≡ true → ⊥) → length rows ≡ 0
no_member [] h = refl
no_member (x ∷ xs) h = absurd (h x (or_left (same_list x x) (mem same_list x xs) (same_list_self x)))

-- ---- after an accepting call

module _ (w : ℕ) (s : List ℕ) (j : ℕ) (area : List ℕ) (ok : filling_of w s j area ≡ Ok tt) (live : Bool) (b : ℕ) (inside : b < 24) where
  abbrev its : Task
  its = task (tasks_of s) j

  abbrev k : Cache
  k = file_cache_in w s

  abbrev n : ℕ
  n = cache_blocks s

  abbrev states : List (List ℕ)
  states = states_of w s j area ok b inside live

  -- the row numbered number ends within the block's part
  ends : (number c : ℕ) → number < 32 → c < w → w * number + c < length (flat states) + (32 * w - length (flat states))
  ends number c h l = omega (arith, row_within w number 32 h)

  in_part : (number c : ℕ) → number < 32 → c < w → get_or (area_after w s j area) (kind_start w live + (32 * b + number) * w + c) 0 ≡ get_or (block_part w states) (w * number + c) 0
  in_part number c h l = place_at w (area_after w s j area) (kind_start w live) b number c h l ∙ ap (λ (y : List ℕ). get_or y (w * number + c) 0) (part_at-place w s j area ok b inside live)

  -- "unfilled rows hold 65,535": the rows from the block's count on, at all places
  pub rows_unfilled : (number c : ℕ) → number < 32 → count_in w (area_after w s j area) live b ≤ number → c < w
      → get_or (area_after w s j area) (kind_start w live + (32 * b + number) * w + c) 0 ≡ 65535
  unfolding nothing
  rows_unfilled number c h l m =
      in_part number c h m
      ∙ part_unfilled w states (32 * w - length (flat states)) number c (states-wide w s j area ok b inside live) (omega (arith, count_at_lem w s j area ok b inside live)) (ends number c h m)

  states_beyond : n ≤ w → (x : Bool) → Each (Beyond w n) (states_of w s j area ok b inside x)
  states_beyond high x = go x (passing s (filled-file w s j area ok)).n_low
    where
      go : (x : Bool) → 0 < n → Each (Beyond w n) (states_of w s j area ok b inside x)
      go true low = each_of (Beyond w n) (living k its b) (λ row e. lives_beyond w n low high its b row ((living-rows k its b row).0 e))
      go false low = each_of (Beyond w n) (reaching k its b) (λ row e. reaches_beyond w n low high its b row ((reaching-rows k its b row).0 e))

  -- "places n to 15 .. hold 65,535", in every row of the block, filled or not
  pub places_beyond : n ≤ w → (number c : ℕ) → number < 32 → n ≤ c → c < w
      → get_or (area_after w s j area) (kind_start w live + (32 * b + number) * w + c) 0 ≡ 65535
  unfolding nothing
  places_beyond high number c h l m = in_part number c h m ∙ part_beyond w n states (32 * w - length (flat states)) number c (states_beyond high live) l m (ends number c h m)

  none_absent : (x : Bool) → length its ≤ b → length (states_of w s j area ok b inside x) ≡ 0
  none_absent true h = no_member (living k its b) (λ row e. let (p, path, q) = (living-rows k its b row).0 e in omega (arith, path-first its path))
  none_absent false h = no_member (reaching k its b) (λ row e. let (p, path, q) = (reaching-rows k its b row).0 e in omega (arith, path-last its path))

  -- "0 for absent blocks"
  pub counts_absent : length (task (tasks_of s) j) ≤ b → count_in w (area_after w s j area) live b ≡ 0
  counts_absent h = count_at_lem w s j area ok b inside live ∙ none_absent live h
