-- `both_trails` meets its contract: each kind has its part of the area, and its trails. Assumes nothing.
use mathlib.Core.Path.{◌≡◌, refl}
use Prim.Native.Nat.{◌*◌}
use native.Mathlib.Omega.{arith}
use borrow.Author.Rules.{rules}
use lib.ListN.{length}
use Rattle.trails.specs.Trails.{no_trails}
use Rattle.graphs.proofs.Gathered.{first-wide, reach_input, live_input, half_live}
use Rattle.task_trails.proofs.both_trails.Goals as goal

pub reaching_trails-full-requires : goal.reaching_trails-full-requires
unfolding no_trails
reaching_trails-full-requires c =
    let args = c.args in
    let each : length args.sets ≡ 24 = search rules in
    (reach_input args.w args.blocks c.requires.0 c.requires.1 c.requires.2 each (first-wide (24 * (32 * args.w)) args.area.now (omega (arith, c.requires.5))) refl c.requires.4, refl)

pub live_trails-full-requires : goal.live_trails-full-requires
unfolding no_trails
live_trails-full-requires c =
    let args = c.args in
    let each : length args.sets ≡ 24 = search rules in (
      live_input args.w args.blocks c.requires.0 c.requires.1 c.requires.2 each
          (half_live (24 * (32 * args.w)) args.area.now c.reaching_trails-full.new.rows c.requires.5 c.reaching_trails-full.ensures.gathered.long) refl c.requires.3,
      refl,
    )
