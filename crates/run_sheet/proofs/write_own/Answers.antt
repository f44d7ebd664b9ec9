-- `write_own` meets its contract: two numbers, the blocks before, the block of the preemption and those after it. Assumes nothing.
use mathlib.Core.Path.{◌≡◌, sym, ap, ◌∙◌}
use mathlib.Core.List.{List, ◌∷◌, ◌++◌}
use Prim.Native.Nat.{ℕ, ◌+◌, ◌-◌}
use native.Mathlib.Omega.{arith}
use lib.ListN.{length, set, length-set}
use borrow.Rule.Slice.PartMut.{mid_of, put_mid, same_len_mid}
use Rattle.sheet.specs.Sheet.{path_numbers}
use Rattle.trails.specs.Trails.{parent_at, length_at, way_back}
use Rattle.run_sheet.specs.Joined.{path_before, length_before}
use Rattle.run_sheet.proofs.WriteLaws.{before-long, own-long, on_first, wrote_on, own_written}
use Rattle.run_sheet.proofs.write_own.Goals as goal
use Rattle.run_sheet.proofs.write_own.Goals.{Start}

-- how long the list is
long : (c : Start) → let run = c.args.run.now in length c.args.out.now ≡ 2 + (length_before run.before + length_at run.on.trails.now run.on.at)
long c = let run = c.args.run.now in c.requires.2 ∙ ap (λ (n : ℕ). 2 + n) (own-long run.before run.on.trails.now run.on.at)

-- the list with its first two numbers written, which is as long
abbrev two : List ℕ → ℕ → List ℕ
two out i = set (set out 0 i) 1 (length out - 2)

two-long : (out : List ℕ) (i : ℕ) → length (two out i) ≡ length out
two-long out i = length-set (set out 0 i) 1 (length out - 2) ∙ length-set out 0 i

-- the list with the blocks before written, which is still as long
abbrev three : List ℕ → ℕ → ℕ → List ℕ → List ℕ
three out i n blocks = put_mid 2 (2 + n - 2) (two out i) blocks

three-long : (out : List ℕ) (i n : ℕ) (blocks : List ℕ) → length blocks ≡ length (mid_of 2 (2 + n - 2) (two out i)) → length (three out i n blocks) ≡ length out
three-long out i n blocks e = same_len_mid 2 (2 + n - 2) (two out i) blocks e ∙ two-long out i

-- and with the block of the preemption
four-long : (out : List ℕ) (i n b : ℕ) (blocks : List ℕ) → length blocks ≡ length (mid_of 2 (2 + n - 2) (two out i)) → length (set (three out i n blocks) (2 + n) b) ≡ length out
four-long out i n b blocks e = length-set (three out i n blocks) (2 + n) b ∙ three-long out i n blocks e

pub overflow_cast-out : goal.overflow_cast-out
overflow_cast-out c = omega (arith, long (goal.at.overflow_cast-out c).Start, c.requires.0, c.requires.1.few)

pub slice_bounds-write_before-end : goal.slice_bounds-write_before-end
slice_bounds-write_before-end c = omega (arith, long (goal.at.slice_bounds-write_before-end c).Start, two-long c.args.out.now c.args.run.now.task, c.length_before-split.ensures)

pub bounds-out-split : goal.bounds-out-split
bounds-out-split c =
    omega (
      arith,
      long (goal.at.bounds-out-split c).Start,
      c.requires.1.some,
      c.length_before-split.ensures,
      three-long c.args.out.now c.args.run.now.task c.length_before-split.result c.write_before.new.out c.write_before.auto.out,
    )

pub slice_bounds-write_on-count : goal.slice_bounds-write_on-count
slice_bounds-write_on-count c = omega (arith, long (goal.at.slice_bounds-write_on-count c).Start, c.requires.1.some, c.length_before-split.ensures)

pub slice_bounds-write_on-start : goal.slice_bounds-write_on-start
slice_bounds-write_on-start c = omega (arith, long (goal.at.slice_bounds-write_on-start c).Start, c.requires.1.some, c.length_before-split.ensures)

pub returns : goal.returns
returns c =
    let run = c.args.run.now in
    let on = run.on.trails.now in
    let from = run.on.at in
    let out = c.args.out.now in
    let n = c.length_before-split.result in
    let count = c.length_before-split.ensures in
    let b = c.block.result in
    let rest = way_back (length_at on from - 1) on (parent_at on from) in
    let way = ap (λ (x : ℕ). x ∷ rest) c.block.ensures ∙ on_first on from c.requires.1.some in
    let path = path_before run.before in
    let l = set (three out run.task n c.write_before.new.out) (2 + n) b in
    let here = long (goal.at.returns c).Start in
    own_written out path rest run.task n b (before-long run.before ∙ sym count)
    (c.requires.2 ∙ ap (λ (q : List ℕ). 2 + length (path ++ q)) (sym way))
    c.write_before.ensures
    (wrote_on on from l (2 + n + 1) (length out) (length_at on from - 1) (omega (arith, four-long out run.task n b c.write_before.new.out c.write_before.auto.out))
    (omega (arith, here, count)) c.write_on.ensures)
    ∙ ap (λ (q : List ℕ). run.task ∷ path_numbers (path ++ q)) way
