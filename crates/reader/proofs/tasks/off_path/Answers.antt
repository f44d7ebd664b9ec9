-- `tasks::off_path` meets its contract: a body that keeps its layout is searched, another has no blocks. Assumes nothing.
use mathlib.Core.Path.{sym, ap, ◌∙◌}
use mathlib.Core.Bool.{not}
use Rattle.model.specs.OnPath.{all_on_path}
use Rattle.body.specs.Decode.{decode, task_of}
use Rattle.reader.proofs.tasks.off_path.Goals as goal

pub returns-in-Some : goal.returns-in-Some
returns-in-Some c = ap not (c.on_paths.ensures ∙ ap (λ s. all_on_path (task_of (decode s))) c.in-Some.ensures.same)
