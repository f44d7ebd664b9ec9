-- The run that a sheet is the numbers of, whether its paths are complete, whether the numbers of references done are right and whether it avoids
-- masked blocks, computed; proofs show that they agree with `Sheet`.
use Rattle.std.specs.Prelude.{Bool, true, false, not, ◌&&◌, ◌||◌, cond, List, [], ◌∷◌, ℕ, zero, suc, ◌-◌, eqb, ltb, leb, length, get_or, take, drop}
use Rattle.cache.specs.Sets.{in_set}
use Rattle.model.specs.Lists.{mem}
use Rattle.model.specs.Tasks.{Task, Path, block, end, task}
use Rattle.model.specs.Runs.{Preemption}
use Rattle.model.specs.Computed.{unmasked}
use Rattle.sheet.specs.Sheet.{SheetRun, Sheet, longest_path}

-- preemptions, or none where the numbers break the rules
pub data ParsedList : Type 0 where
  broken_list : ParsedList
  parsed_list : List Preemption → ParsedList

abbrev pub with_preemption : Preemption → ParsedList → ParsedList
with_preemption x broken_list = broken_list
with_preemption x (parsed_list xs) = parsed_list (x ∷ xs)

-- a path of k blocks stands at the beginning of `rest`
abbrev pub path_test : ℕ → List ℕ → Bool
path_test k rest = leb 1 k && (leb k longest_path && leb k (length rest))

-- the point (j, e) doesn't come before the point (i, d)
abbrev pub not_before : ℕ → ℕ → ℕ → ℕ → Bool
not_before i d j e = ltb i j || (eqb i j && leb d e)

-- a preemption with these numbers keeps the rules, where the point before it is (low, lowDone)
abbrev pub preemption_test : ℕ → ℕ → ℕ → ℕ → ℕ → ℕ → ℕ → ℕ → ℕ → List ℕ → Bool
preemption_test t p long low low_done position done by k rest =
    not_before low low_done position done && (ltb position long && (ltb by t && (not (eqb by p) && path_test k rest)))

-- `left` preemptions, and no number after them
unfoldable pub preemptions_from : ℕ → ℕ → ℕ → ℕ → ℕ → ℕ → List ℕ → ParsedList
preemptions_from t p long zero low low_done [] = parsed_list []
preemptions_from t p long zero low low_done (x ∷ s) = broken_list
preemptions_from t p long (suc left) low low_done [] = broken_list
preemptions_from t p long (suc left) low low_done (position ∷ []) = broken_list
preemptions_from t p long (suc left) low low_done (position ∷ done ∷ []) = broken_list
preemptions_from t p long (suc left) low low_done (position ∷ done ∷ by ∷ []) = broken_list
preemptions_from t p long (suc left) low low_done (position ∷ done ∷ by ∷ k ∷ rest) =
    cond (preemption_test t p long low low_done position done by k rest)
    (with_preemption (record { position = position; done = done; by = by; path = take k rest }) (preemptions_from t p long left position done (drop k rest)))
    broken_list

-- a run, or none where the sheet breaks the rules
pub data Parsed : Type 0 where
  broken : Parsed
  parsed : SheetRun → Parsed

abbrev pub with_path : ℕ → Path → ParsedList → Parsed
with_path p path broken_list = broken
with_path p path (parsed_list xs) = parsed (record { p = p; path = path; preemptions = xs })

-- the numbers after the path of l blocks of the task p: the count, and the preemptions
unfoldable pub after_path : ℕ → ℕ → Path → List ℕ → Parsed
after_path t p path [] = broken
after_path t p path (count ∷ rest) = cond (leb count 16) (with_path p path (preemptions_from t p (length path) count 0 0 rest)) broken

unfoldable pub parse : ℕ → Sheet → Parsed
parse t [] = broken
parse t (p ∷ []) = broken
parse t (p ∷ l ∷ rest) = cond (ltb p t && path_test l rest) (after_path t p (take l rest) (drop l rest)) broken

-- check 12 passes
abbrev pub kept_list : ParsedList → Bool
kept_list broken_list = false
kept_list (parsed_list xs) = true

abbrev pub kept_sheet : Parsed → Bool
kept_sheet broken = false
kept_sheet (parsed r) = true

-- the numbers after a path of `long` blocks of the task p keep the rules
abbrev pub list_test : ℕ → ℕ → ℕ → List ℕ → Bool
list_test t p long [] = false
list_test t p long (count ∷ rest) = leb count 16 && kept_list (preemptions_from t p long count 0 0 rest)

-- the run of a sheet that keeps the rules
abbrev pub run_of : Parsed → SheetRun
run_of broken = record { p = 0; path = []; preemptions = [] }
run_of (parsed r) = r

-- ---- complete paths

-- a path from the block b over the blocks of the list to the end block
abbrev pub leads_to_end : Task → ℕ → Path → Bool
leads_to_end t b [] = ltb b (length t) && eqb b (end t)
leads_to_end t b (c ∷ path) = mem eqb c (block t b).successors && leads_to_end t c path

abbrev pub complete_path : Task → Path → Bool
complete_path t [] = false
complete_path t (b ∷ path) = eqb b 0 && leads_to_end t b path

-- the same by the set of each block's successors, in a task of this many blocks
abbrev pub leads_by_sets : List ℕ → ℕ → ℕ → Path → Bool
leads_by_sets sets blocks b [] = eqb b (blocks - 1)
leads_by_sets sets blocks b (c ∷ path) = ltb c blocks && (in_set (get_or sets b 0) c && leads_by_sets sets blocks c path)

abbrev pub complete_by_sets : List ℕ → ℕ → Path → Bool
complete_by_sets sets blocks [] = false
complete_by_sets sets blocks (b ∷ path) = eqb b 0 && leads_by_sets sets blocks b path

-- ---- all preemptions of a run

-- each preemption of the list passes the test
abbrev pub each_passes : (Preemption → Bool) → List Preemption → Bool
each_passes test [] = true
each_passes test (x ∷ xs) = test x && each_passes test xs

-- the path of a preemption is complete
abbrev pub complete_by : List Task → Preemption → Bool
complete_by ts x = complete_path (task ts x.by) x.path

-- all paths of a run are complete
abbrev pub complete_all : List Task → SheetRun → Bool
complete_all ts r = complete_path (task ts r.p) r.path && each_passes (complete_by ts) r.preemptions

-- so many references of a block may be done where a preemption comes
abbrev pub right_done : List ℕ → ℕ → Bool
right_done [] d = eqb d 0
right_done (m ∷ ms) d = leb 1 d && leb d (length (m ∷ ms))

-- a preemption of the path of a task has a right number of references done
abbrev pub done_point : Task → Path → Preemption → Bool
done_point t path x = right_done (block t (get_or path x.position 0)).references x.done

-- all preemptions of a run do
abbrev pub done_all : List Task → SheetRun → Bool
done_all ts r = each_passes (done_point (task ts r.p) r.path) r.preemptions

-- a preemption of the path of a task comes in an unmasked block
abbrev pub unmasked_point : Task → Path → Preemption → Bool
unmasked_point t path x = unmasked t (get_or path x.position 0)

-- all preemptions of a run do
abbrev pub unmasked_all : List Task → SheetRun → Bool
unmasked_all ts r = each_passes (unmasked_point (task ts r.p) r.path) r.preemptions
