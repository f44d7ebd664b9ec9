-- `table_text` meets its contract: the lines of the tasks that are left, placed from here on, give what all of them give after the head. Assumes nothing.
use mathlib.Core.Path.{◌≡◌, refl, ap, ap₂, subst, ◌∙◌}
use mathlib.Core.List.{List}
use Prim.Native.Nat.{ℕ, ◌+◌, ◌-◌, ◌≤◌}
use native.Mathlib.Nat.{sub-zero}
use native.Mathlib.Omega.{arith}
use lib.ListN.{length, length-append}
use Rattle.text.specs.Text.{Placed, row_text, rows_text, head_line, pair_lines, table_text, cache_word, tasks_word}
use Rattle.text.proofs.PutLaws.{placed_more, placed_turn, placed_end, placed_front}
use Rattle.text.proofs.TextLaws.{rows_next, rows_none, two_short, table_short}
use Rattle.text.proofs.table_text.Goals as goal

-- after the head there is room for all lines
room : (numbers : List ℕ) (n : ℕ) {t next size size1 : ℕ} → t ≤ 8 → size ≡ 2048 → next ≡ 0 + length (head_line n t) → size1 ≡ size
    → next + length (rows_text numbers t t 0) ≤ size1
room numbers n {t} h e en e1 = omega (arith, table_short n t numbers h, length-append (head_line n t) (rows_text numbers t t 0))

pub put_two-next-requires : goal.put_two-next-requires
put_two-next-requires c =
    let start = c in
    omega (arith, start.requires.2, two_short cache_word tasks_word c.byte_number.result c.byte_number-tasks.result)

pub loop-i-init : goal.loop-i-init
loop-i-init c = rw sub-zero (omega arith, refl, refl, refl)

pub put_row-next-requires : goal.put_row-next-requires
put_row-next-requires c =
    let at = c.loop-i in
    let start = c in
    let t = c.byte_number-tasks.result in
    let head = c.put_two-next in
    let rest = rows_text start.args.numbers.now t (t - (at.i + 1)) (at.i + 1) in (
      omega (
        arith,
        room start.args.numbers.now c.byte_number.result (omega (arith, start.requires.0)) start.requires.2 head.ensures.0 head.auto.out,
        at.invariant,
        ap length (rows_next start.args.numbers.now t at.i (omega arith)),
        length-append (row_text start.args.numbers.now at.i t 0) rest,
      ),
      omega (arith, start.requires.0),
      omega (arith, start.requires.0),
      start.requires.1,
    )

pub loop-i-preserved : goal.loop-i-preserved
loop-i-preserved c =
    let at = c.loop-i in
    let start = c in
    let numbers = start.args.numbers.now in
    let t = c.byte_number-tasks.result in
    let head = c.put_two-next in
    let space = room numbers c.byte_number.result (omega (arith, start.requires.0)) start.requires.2 head.ensures.0 head.auto.out in
    let turn =
    placed_turn at.out at.next (rows_text numbers t (t - at.i) at.i) (row_text numbers at.i t 0) (rows_text numbers t (t - (at.i + 1)) (at.i + 1))
    (rows_next numbers t at.i (omega arith)) (omega (arith, space, at.invariant)) c.put_row-next.ensures at.invariant.2 at.invariant.3 in
    (omega arith, c.put_row-next.auto.out ∙ at.invariant.1, turn.0, turn.1)

pub returns : goal.returns
returns c =
    let at = c.loop-i in
    let start = c in
    let args = start.args in
    let numbers = args.numbers.now in
    let n = c.byte_number in
    let t = c.byte_number-tasks in
    let head = c.put_two-next in
    let rows =
    placed_end at.out at.next (rows_text numbers t.result (t.result - at.i) at.i) (rows_none numbers t.result at.i (omega arith))
    at.invariant.2 at.invariant.3 in
    let short : length (head_line n.result t.result) ≤ 2048 = omega (arith, two_short cache_word tasks_word n.result t.result) in
    let all =
    placed_more args.out.now 0 (head_line n.result t.result) (pair_lines t.result numbers) (omega (arith, short, start.requires.2)) head.ensures rows in
    let told : table_text n.result t.result numbers ≡ table_text args.n args.t numbers =
    ap₂ (λ (x y : ℕ). table_text x y numbers) n.ensures.0 t.ensures.0 in
    placed_front args.out.now (table_text args.n args.t numbers) (table_short args.n args.t numbers start.requires.0)
    (subst (λ (text : List ℕ). Placed args.out.now 0 text at.out at.next) told all)
