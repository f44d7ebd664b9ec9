-- `releases` meets its contract. Assumes nothing.
use mathlib.Core.Path.{refl}
use native.Mathlib.Omega.{arith}
use Rattle.response.specs.Response.{ceil}
use Rattle.response.proofs.ResponseLaws.{ceil-bound}
use Rattle.response.proofs.releases.Goals as goal

pub returns : goal.returns
unfolding ceil
returns c =
    let args = c.args in
    (refl, omega (arith, ceil-bound args.r args.period c.requires.0))
