-- The rows that are found among the states of two tasks make the pair number: `found_makes`.
-- The idea: the states in the areas are those of the tasks, and since every block lies on a complete path, each has one of either kind.
use mathlib.Core.Path.{◌≡◌, refl, sym, subst, ◌∙◌}
use mathlib.Core.Bool.{true, false, false≢true}
use mathlib.Core.List.{List, [], ◌∷◌}
use Prim.Native.Nat.{ℕ, suc, ◌+◌, ◌*◌, ◌-◌, ◌≤◌, ◌<◌}
use native.Mathlib.Omega.{arith}
use lib.ListN.{length, get_or, take, drop}
use Rattle.cache.specs.Cache.{Cache, empty_row, with_references, first_references}
use Rattle.model.specs.Lists.{mem}
use Rattle.model.specs.Tasks.{Task, end, references, task, Rules}
use Rattle.model.specs.Computed.{same_list, reaching, living}
use Rattle.model.proofs.OnPath.{to_and_from}
use Rattle.model.proofs.Sorted.{reaching-rows, living-rows}
use Rattle.project.specs.File.{task_count}
use Rattle.project.specs.Reading.{counts_of, reading_of}
use Rattle.project.specs.Bodies.{accepted}
use Rattle.project.specs.Tasks.{tasks_of, file_cache_in}
use Rattle.project.proofs.TaskFaults.{Bytes}
use Rattle.project.proofs.FileRules.{file-rules}
use Rattle.project.proofs.Accepted.{passing, accepted-passed}
use Rattle.reader.proofs.TaskBodies.{reading, task-bounds, tasks_long}
use Rattle.rows.specs.Rows.{rows_of, part_of, kind_length}
use Rattle.rows.proofs.Parts.{rows-length, row_within, part_of_part}
use Rattle.gather.specs.Memory.{held_rows}
use Rattle.gather.specs.Gathered.{GatheredRows}
use Rattle.graphs.proofs.Gathered.{held-sorted}
use Rattle.task_trails.specs.TaskTrails.{AreaTrails}
use Rattle.search.specs.declared.Found.{Found}
use Rattle.search.specs.Search.{Searched}
use Rattle.search.proofs.FoundNumbers.{MakesNumber, makes_number}

some-row : (row : List ℕ) (l : List (List ℕ)) → mem same_list row l ≡ true → 0 < length l
some-row row [] e = absurd (false≢true e)
some-row row (x ∷ l) e = omega arith

-- as many rows are in memory as there are states
held-some : {w : ℕ} {all : ℕ → List (List ℕ)} {rows counts : List ℕ} (b : ℕ) → GatheredRows w all rows counts b → 0 < length (all b) → 0 < length (held_rows w rows counts b)
held-some {w} {all} {rows} {counts} b g h = rw (rows-length w (get_or counts b 0) (part_of w rows b), g.count) h

module _ (k : Cache) (ts : List Task) (rules : Rules ts) (a : ℕ) (there : a < length ts) (b : ℕ) (inside : b < length (task ts a)) where
  some-reaching : 0 < length (reaching k (task ts a) b)
  some-reaching =
      let (p, v) = (to_and_from (task ts a) b (rules.complete a b there inside)).0 in
      some-row _ (reaching k (task ts a) b) ((reaching-rows k (task ts a) b (with_references k (empty_row k) (references (task ts a) (0 ∷ p)))).1 (p, v, refl))

  some-live : 0 < length (living k (task ts a) b)
  some-live =
      let (q, v) = (to_and_from (task ts a) b (rules.complete a b there inside)).1 in
      some-row _ (living k (task ts a) b) ((living-rows k (task ts a) b (first_references k (references (task ts a) q))).1 (q, v, refl))

-- the rows of the end block, as the code cuts them out of an area
pub end_part : (w e : ℕ) (area : List ℕ) → e < 24 → take (32 * w) (drop (32 * w * e) area) ≡ part_of w (take (kind_length w) area) e
end_part w e area h = sym (part_of_part (32 * w) (32 * w * e) (kind_length w) area (omega (arith, row_within (32 * w) e 24 h)))

module _ (k : Cache) (ts : List Task) (rules : Rules ts) (i j : ℕ) (hi : i < length ts) (hj : j < length ts) (few-i : length (task ts i) ≤ 24) (few-j : length (task ts j) ≤ 24)
    {area reached lived to on others ended lived-j to_j on-j : List ℕ} (own : AreaTrails k (task ts i) area reached lived to on false)
    (other : AreaTrails k (task ts j) others ended lived-j to_j on-j false) where
  abbrev kind : ℕ
  kind = kind_length k.width

  end-inside : end (task ts j) < length (task ts j)
  end-inside = omega (arith, rules.some j hj)

  pub found_makes : (x : Found)
      → Searched k (task ts i) (held_rows k.width (take (kind_length k.width) area) reached)
      (held_rows k.width (take (kind_length k.width) (drop (kind_length k.width) area)) lived) (held_rows k.width (take (kind_length k.width) others) ended (end (task ts j))) x
      → MakesNumber k (task ts i) (task ts j) (held_rows k.width (take (kind_length k.width) area) reached)
      (held_rows k.width (take (kind_length k.width) (drop (kind_length k.width) area)) lived) (held_rows k.width (take (kind_length k.width) others) ended (end (task ts j))) x
  found_makes x searched =
      makes_number k (task ts i) (task ts j) (held_rows k.width (take kind area) reached) (held_rows k.width (take kind (drop kind area)) lived)
      (held_rows k.width (take kind others) ended (end (task ts j))) few-i (rules.real i)
      (λ b h. held-sorted b (own.rows.rows.reached refl b (omega arith)))
      (λ b h. held-sorted b (own.rows.rows.lived refl b (omega arith)))
      (held-sorted (end (task ts j)) (other.rows.rows.reached refl (end (task ts j)) (omega (arith, end-inside))))
      x searched (rules.some i hi)
      (λ b h. held-some b (own.rows.rows.reached refl b (omega arith)) (some-reaching k ts rules i hi b h))
      (λ b h. held-some b (own.rows.rows.lived refl b (omega arith)) (some-live k ts rules i hi b h))
      (held-some (end (task ts j)) (other.rows.rows.reached refl (end (task ts j)) (omega (arith, end-inside))) (some-reaching k ts rules j hj (end (task ts j)) end-inside))

-- ---- the same, over a file

-- each number of the file is a byte
pub all_bytes : (s : List ℕ) → ((a : ℕ) → get_or s a 0 < 256) → Bytes s
all_bytes [] h = tt
all_bytes (x ∷ s) h = (h 0, all_bytes s (λ a. h (suc a)))

module _ (s : List ℕ) (bytes : Bytes s) (ok : accepted (reading_of s) ≡ true) (w i j : ℕ) (hi : i < task_count s) (hj : j < task_count s) where
  -- the rows that the code finds, where t is the task i, k the cache in rows of w places, and `end-block` the end block of j
  pub file-found : {area reached lived to on others ended lived-j to_j on-j : List ℕ} → AreaTrails (file_cache_in w s) (task (tasks_of s) i) area reached lived to on false
      → AreaTrails (file_cache_in w s) (task (tasks_of s) j) others ended lived-j to_j on-j false → {k : Cache} {t : Task} {end-block : ℕ} {part : List ℕ} → k ≡ file_cache_in w s
      → t ≡ task (tasks_of s) i → end-block ≡ end (task (tasks_of s) j) → part ≡ take (32 * w) (drop (32 * w * end-block) others) → (x : Found)
      → Searched k t (held_rows w (take (kind_length w) area) reached) (held_rows w (take (kind_length w) (drop (kind_length w) area)) lived)
      (rows_of w (get_or ended end-block 0) part) x
      → MakesNumber (file_cache_in w s) (task (tasks_of s) i) (task (tasks_of s) j) (held_rows w (take (kind_length w) area) reached)
      (held_rows w (take (kind_length w) (drop (kind_length w) area)) lived) (held_rows w (take (kind_length w) others) ended (end (task (tasks_of s) j))) x
  file-found {area = area} {reached = reached} {lived = lived} {others = others} {ended = ended} own other {k} {t} {end-block = e} {part} cached is ends cut x searched =
      let rules = file-rules s bytes (counts_of s) (reading s ok) in
      let few = (task-bounds s j ok hj).few in
      let some = (task-bounds s j ok hj).some in
      let rows : part ≡ part_of w (take (kind_length w) others) e = cut ∙ end_part w e others (omega (arith, few, some, ends)) in
      let rs = held_rows w (take (kind_length w) area) reached in
      let ls = held_rows w (take (kind_length w) (drop (kind_length w) area)) lived in
      let found : Searched k t rs ls (held_rows w (take (kind_length w) others) ended (end (task (tasks_of s) j))) x = rw (rows, ends) at searched in
      found_makes (file_cache_in w s) (tasks_of s) rules i j (rw (tasks_long s) hi) (rw (tasks_long s) hj) (task-bounds s i ok hi).few few own other x
      (subst (λ (c : Cache). Searched c (task (tasks_of s) i) rs ls (held_rows w (take (kind_length w) others) ended (end (task (tasks_of s) j))) x) cached
      (subst (λ (u : Task). Searched k u rs ls (held_rows w (take (kind_length w) others) ended (end (task (tasks_of s) j))) x) is found))

-- a part that was lent, as the code cuts it
pub cut_part : (n a : ℕ) (l : List ℕ) → take (a + n - a) (drop a l) ≡ take n (drop a l)
cut_part n a l = let e : a + n - a ≡ n = omega arith in rw e

pub few_tasks : (s : List ℕ) → accepted (reading_of s) ≡ true → task_count s ≤ 8
few_tasks s ok = (passing s (accepted-passed s (counts_of s) (reading s ok)).0).t_high
