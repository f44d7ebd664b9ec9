-- Point 7 whole, over accepted files: `nested_whole`; the worked example, `three-answers`, and the false neighbours of the bound, over files.
-- The idea: an accepted file's tasks keep the rules of the bound; a nested sheet is the numbers of one nested run only.
use Rattle.claims.specs.Files.{accepted_as}
use Rattle.std.specs.Prelude.{Ok}
use mathlib.Core.Path.{◌≡◌, refl, sym, ap, ◌∙◌}
use mathlib.Core.List.{List, [], ◌∷◌, ◌++◌, append-nil, map}
use Prim.Native.Nat.{ℕ, ◌+◌, ◌≤◌}
use native.Mathlib.Omega.{arith}
use lib.ListN.{length, get_or, drop}
use Rattle.cache.specs.References.{nothing, numbers}
use Rattle.cache.specs.Cache.{Row, empty_row}
use Rattle.cache.proofs.Rows.{length-empty_row}
use Rattle.model.specs.Nested.{RunList, no_run, a_run, total_misses, alone, NestedRun, total}
use Rattle.model.specs.Figures.{tasks_three, tasks_around, tasks_filled}
use Rattle.model.proofs.NestedBound.{nested_bounded}
use Rattle.model.proofs.NestedNeighbours.{directly_around, nested_around, around_counts, alone_from, nested_filled, filled_counts}
use Rattle.body.specs.Layout.{body_bytes}
use Rattle.body.specs.Decode.{decode, blocks_from}
use Rattle.project.specs.File.{File, file_of}
use Rattle.project.specs.Reading.{reading_of}
use Rattle.project.specs.Bodies.{accepted}
use Rattle.project.specs.Tasks.{tasks_of, file_cache, file_pair}
use Rattle.project.proofs.TaskFaults.{Bytes}
use Rattle.project.proofs.FileRules.{file-rules}
use Rattle.nested_sheet.specs.NestedSheet.{NestedSheetRun, how_many, with_head, list_numbers, nested_numbers, nested_sheet_run, nested_sheet}
use Rattle.nested_sheet.specs.NestedRuns.{list_of}
use Rattle.nested_sheet.proofs.Numbers.{head_apart}
use Rattle.nested_replay.specs.NestedReplay.{nested_replaying_of}
use Rattle.nested_replay.proofs.NestedReplays.{replayed, nested_replayed, nested_two_bytes}
use Rattle.claims.specs.Nested.{file_total, NestedWhole}
use Rattle.claims.proofs.Sheets.{append_split}

-- ---- a nested sheet is the numbers of one nested run only

-- the parts of two equal heads
head_same : (p q : ℕ) (path other : List ℕ) (c d : ℕ) (xs ys : List ℕ) → with_head p path c xs ≡ with_head q other d ys → (p ≡ q) × (path ≡ other) × (c ≡ d) × (xs ≡ ys)
head_same p q path other c d xs ys e =
    let (same, rest) = append_split path (c ∷ xs) other (d ∷ ys) (ap (λ (l : List ℕ). get_or l 1 0) e) (ap (drop 2) e) in
    (ap (λ (l : List ℕ). get_or l 0 0) e, same, ap (λ (l : List ℕ). get_or l 0 0) rest, ap (drop 1) rest)

list_same : (xs ys : RunList) (zs ws : List ℕ) → how_many xs ≡ how_many ys → list_numbers xs ++ zs ≡ list_numbers ys ++ ws → (xs ≡ ys) × (zs ≡ ws)
list_same no_run no_run zs ws e q = (refl, q)
list_same no_run (a_run i d by path own rest) zs ws e q = absurd (omega (arith, e))
list_same (a_run i d by path own rest) no_run zs ws e q = absurd (omega (arith, e))
list_same (a_run i d by path own rest) (a_run j c to other inner more) zs ws e q =
    let (b, p, n, r) = head_same by to path other (how_many own) (how_many inner) (list_numbers own ++ (list_numbers rest ++ zs)) (list_numbers inner ++ (list_numbers more ++ ws))
    (sym (head_apart by path (how_many own) (list_numbers own) (list_numbers rest) zs) ∙ ap (drop 2) q ∙ head_apart to other (how_many inner) (list_numbers inner) (list_numbers more) ws) in
    let (o, f) = list_same own inner (list_numbers rest ++ zs) (list_numbers more ++ ws) n r in
    let (m, g) = list_same rest more zs ws (omega (arith, e)) f in
    (rw (ap (λ (l : List ℕ). get_or l 0 0) q, ap (λ (l : List ℕ). get_or l 1 0) q, b, p, o, m), g)

run_same : (r q : NestedSheetRun) → nested_numbers r ≡ nested_numbers q → (r.p ≡ q.p) × (r.path ≡ q.path) × (r.runs ≡ q.runs)
run_same r q e =
    let (a, b, n, l) = head_same r.p q.p r.path q.path (how_many r.runs) (how_many q.runs) (list_numbers r.runs) (list_numbers q.runs) e in
    (a, b, (list_same r.runs q.runs [] [] n (append-nil (list_numbers r.runs) ∙ l ∙ sym (append-nil (list_numbers q.runs)))).0)

-- what Nested replay answers to the sheet of a run is the total of that run, whichever run it is
of_the_run : (s : File) → Bytes s → (run : NestedRun (tasks_of s)) (x : ℕ) → nested_replaying_of s (nested_sheet (tasks_of s) run) ≡ Ok x → x ≡ file_total s run
of_the_run s h run x e =
    let y = replayed s h (nested_sheet (tasks_of s) run) x e in
    let (a, b, c) = run_same (nested_sheet_run (tasks_of s) run) (nested_sheet_run (tasks_of s) y.run) y.sheet_of_lem in
    y.counted ∙ totals run.p y.run.p run.path y.run.path run.runs y.run.runs a b c
  where
    totals : (p q : ℕ) (path other : List ℕ) (xs ys : RunList) → p ≡ q → path ≡ other → xs ≡ ys
        → total_misses (file_cache s) (tasks_of s) (empty_row (file_cache s)) q other ys ≡ total_misses (file_cache s) (tasks_of s) (empty_row (file_cache s)) p path xs
    totals p q path other xs ys a b c = rw (a, b, c)

-- Point 7 of every list of bytes that Reader accepts
pub nested_whole : (s : File) → Bytes s → (n t : ℕ) → reading_of s ≡ accepted_as n t → NestedWhole s
nested_whole s h n t e =
    let bounds = nested_bounded (file_cache s) (tasks_of s) (file-rules s h _ e) in
    record {
      bounds = bounds;
      described = replayed s h;
      answers = of_the_run s h;
      bounded = λ run x q. omega (arith, of_the_run s h run x q, bounds run (empty_row (file_cache s)) (length-empty_row (file_cache s)));
      sheets = λ run f. (nested_replayed s (ap accepted e) run f, nested_two_bytes s (ap accepted e) run f);
    }

-- ---- files of nested runs

abbrev three_file : File
three_file = file_of 2 (map body_bytes tasks_three)

abbrev around_file : File
around_file = file_of 1 (map body_bytes tasks_around)

abbrev filled_file : File
filled_file = file_of 1 (map body_bytes tasks_filled)

-- what Reader and Nested replay answer for them
pub nested_answers : (reading_of three_file ≡ accepted_as 2 3) × (reading_of around_file ≡ accepted_as 1 3) × (reading_of filled_file ≡ accepted_as 1 2)
    × (nested_replaying_of three_file (0 ∷ 2 ∷ 0 ∷ 0 ∷ 1 ∷ 0 ∷ 2 ∷ 1 ∷ 1 ∷ 0 ∷ 1 ∷ 0 ∷ 1 ∷ 2 ∷ 1 ∷ 0 ∷ 0 ∷ []) ≡ Ok 5)
    × (nested_replaying_of around_file (0 ∷ 1 ∷ 0 ∷ 1 ∷ 0 ∷ 1 ∷ 2 ∷ 1 ∷ 0 ∷ 1 ∷ 0 ∷ 0 ∷ 1 ∷ 1 ∷ 0 ∷ 0 ∷ []) ≡ Ok 3)
unfolding nothing numbers decode blocks_from list_of
nested_answers = (refl, refl, refl, refl, refl)

-- "only the run directly around counts"
pub not_directly_around : ((s : File) (n t : ℕ) → reading_of s ≡ accepted_as n t → (run : NestedRun (tasks_of s))
    → file_total s run ≤ alone (file_cache s) (tasks_of s) run.p run.path + directly_around (file_cache s) (tasks_of s) run.p run.runs) → ⊥
unfolding nothing numbers decode blocks_from
not_directly_around h = omega (arith, around_counts.0, around_counts.1, h around_file 1 3 nested_answers.1 nested_around)

-- "each run's misses alone are those from the first contents"
pub not-alone-from-first : ((s : File) (n t : ℕ) → reading_of s ≡ accepted_as n t → (run : NestedRun (tasks_of s)) (i d by : ℕ) (path : List ℕ) → run.runs ≡ a_run i d by path no_run no_run
    → (row : Row) → length row ≡ (file_cache s).width
    → total (file_cache s) row run ≤ alone_from (file_cache s) (tasks_of s) row run.p run.path + (alone_from (file_cache s) (tasks_of s) row by path + file_pair s run.p by)) → ⊥
unfolding nothing numbers decode blocks_from
not-alone-from-first h = omega (arith, filled_counts.0, filled_counts.1, h filled_file 1 2 nested_answers.2 nested_filled 0 0 1 (0 ∷ []) refl (4 ∷ []) refl)
