-- `times_of` meets its contract: its first eight records are gathered, one in each turn. Assumes nothing.
use mathlib.Core.Path.{refl, ap, ◌∙◌}
use mathlib.Core.List.{List}
use Prim.Native.Nat.{◌+◌}
use native.Mathlib.Omega.{arith}
use lib.ListN.{length, take, drop}
use Rattle.response.specs.declared.Record.{Record}
use Rattle.response.specs.declared.Times.{Times}
use Rattle.response.specs.Times.{no_record, no_times}
use Rattle.responses.specs.Plan.{times_with}
use Rattle.responses.proofs.TimesLaws.{first_eight, times_turn, times_end}
use Rattle.responses.proofs.times_of.Goals as goal

pub loop-i-init : goal.loop-i-init
loop-i-init c =
    let xs = c.args.list.now in
    ap (λ (x : Times). times_with x 0 (take c.min.result xs)) c.none-times.ensures
    ∙ ap (λ (ys : List Record). times_with (no_times (length xs)) 0 ys) (first_eight xs c.min.ensures)

pub loop-i-preserved : goal.loop-i-preserved
loop-i-preserved c =
    let at = c.loop-i in
    let first = take c.min.result c.args.list.now in
    ap (λ (x : Times). times_with x (at.i + 1) (drop (at.i + 1) first)) c.set.ensures
    ∙ times_turn at.times at.i first no_record (omega arith) refl ∙ at.invariant

pub returns : goal.returns
returns c =
    let at = c.loop-i in
    times_end at.times at.i (take c.min.result c.args.list.now) (omega arith) ∙ at.invariant
