-- `report` meets its contract: each answer of Table is put as the text that is printed for it. Assumes nothing.
use mathlib.Core.Path.{refl, sym, ap, ◌∙◌}
use Prim.Native.Nat.{ℕ}
use native.Mathlib.Omega.{arith}
use lib.ListN.{replicate}
use Rattle.project.specs.File.{cache_blocks, task_count}
use Rattle.project.proofs.Accepted.{Passing}
use Rattle.text.specs.Text.{refusal_line, table_text}
use Rattle.report.proofs.Reports.{answer_is, printed-refused, filled_passing, printed-filled, at_front_lem}
use Rattle.report.proofs.report.Goals as goal
use Rattle.report.proofs.report.Goals.{In-Ok}

-- where the table is filled the file is accepted
accepted : (c : In-Ok) → Passing 1 c.args.file.now
accepted c = filled_passing c.args.file.now c.args.area.now (replicate 64 0) c.requires.0 refl c.table-answer.ensures.0 c.in-Ok.is

pub bounds-file-5 : goal.bounds-file-5
bounds-file-5 c = let p = accepted (goal.at.bounds-file-5 c).In-Ok in omega (arith, p.long)

pub bounds-file-6 : goal.bounds-file-6
bounds-file-6 c = let p = accepted (goal.at.bounds-file-6 c).In-Ok in omega (arith, p.long)

pub table_text-length-requires : goal.table_text-length-requires
table_text-length-requires c = ((accepted (goal.at.table_text-length-requires c).In-Ok).t_high, c.table-answer.auto.table, c.requires.1)

pub returns-in-Ok : goal.returns-in-Ok
returns-in-Ok c =
    let s = c.args.file.now in
    let told = c.table-answer.ensures in
    let front =
    at_front_lem s c.args.out.now (table_text (cache_blocks s) (task_count s) c.table-answer.new.table)
    (printed-filled s c.args.area.now (replicate 64 0) c.requires.0 refl told.0 c.in-Ok.is told.1) c.table_text-length.ensures in
    (answer_is s c.args.area.now (replicate 64 0) c.requires.0 refl told.0, front.0, front.1, front.2)

pub returns-in-Err : goal.returns-in-Err
returns-in-Err c =
    let s = c.args.file.now in
    let refused = c.in-Err.refusal in
    let told = c.table-answer.ensures.0 in
    let line = ap (λ (k : ℕ). refusal_line k refused.task) (sym c.number.ensures) in
    let front =
    at_front_lem s c.args.out.now (refusal_line c.number.result refused.task)
    (printed-refused s c.args.area.now (replicate 64 0) c.requires.0 refl told c.in-Err.is ∙ line) c.refusal_text-length.ensures in
    (sym c.in-Err.is ∙ answer_is s c.args.area.now (replicate 64 0) c.requires.0 refl told, front.0, front.1, front.2)
