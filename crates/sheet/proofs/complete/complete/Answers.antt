-- `complete::complete` meets its contract: the walk gives the blocks, and the jumps the sets of their successors. Assumes nothing.
use mathlib.Core.Path.{sym, ap, ap₂, ◌∙◌}
use native.Mathlib.Omega.{arith}
use Rattle.body.specs.Jumps.{jump_sets}
use Rattle.body.proofs.JumpLaws.{WalkedTask, kept_task}
use Rattle.sheet.specs.Parsed.{complete_path, complete_by_sets}
use Rattle.sheet.proofs.StepLaws.{complete-by-sets}
use borrow.Author.Rules.{rules}
use Rattle.sheet.proofs.complete.complete.Goals as goal
use Rattle.sheet.proofs.complete.complete.Goals.{After-kept_walk-walked}

facts : (c : After-kept_walk-walked) → let w = c.kept_walk-walked.result in WalkedTask c.args.body.now w.blocks w.starts
facts c = kept_task c.kept_walk-walked.result c.kept_walk-walked.ensures

pub steps_to_end-requires : goal.steps_to_end-requires
steps_to_end-requires c =
    let f = facts (goal.at.steps_to_end-requires c).After-kept_walk-walked in
    (omega (arith, f.long, f.bounds.some), omega (arith, f.long, f.bounds.few), search rules)

pub returns : goal.returns
returns c =
    let f = facts (goal.at.returns c).After-kept_walk-walked in
    let path = c.args.path.now in
    c.steps_to_end.ensures
    ∙ ap₂ (λ sets blocks. complete_by_sets sets blocks path) ((rw c.kept_walk-walked.ensures at c.jumps-sets.ensures) ∙ ap jump_sets f.same) f.long
    ∙ complete-by-sets f.its f.bounds path
    ∙ ap (λ t. complete_path t path) (sym f.same)
