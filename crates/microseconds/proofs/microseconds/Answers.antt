-- `microseconds` meets its contract: where check 17 passes no product leaves its range and the clock is above 0. Assumes nothing.
use mathlib.Core.Path.{◌≡◌, sym, ◌∙◌}
use native.Mathlib.Omega.{arith}
use Rattle.std.specs.Prelude.{Ok}
use Rattle.project.proofs.Checklists.{refused_by}
use Rattle.microseconds.specs.Microseconds.{microseconds_check}
use Rattle.microseconds.proofs.BoundsLaws.{Within, within, cycles_le, answer-by}
use Rattle.microseconds.proofs.microseconds.Goals as goal
use Rattle.microseconds.proofs.microseconds.Goals.{In_ok-check_bounds}

-- check 17 passed, so what is asked for is within its bounds
passed :
    (c : In_ok-check_bounds) →
    microseconds_check c.args.number c.args.penalty c.args.clock ≡ Ok tt
passed c = sym c.check_bounds.ensures ∙ c.in_ok-check_bounds.was

in_bounds :
    (c : In_ok-check_bounds) →
    Within c.args.number c.args.penalty c.args.clock
in_bounds c = within _ _ _ (passed c)

pub overflow_mul-product : goal.overflow_mul-product
overflow_mul-product c = record { fits = omega (arith, cycles_le (in_bounds c)) }

pub overflow_mul-product-2 : goal.overflow_mul-product-2
overflow_mul-product-2 c = record { fits = omega (arith, cycles_le (in_bounds c)) }

pub nonzero_div-whole : goal.nonzero_div-whole
nonzero_div-whole c = (in_bounds c).clock_low

pub nonzero_rem-remainder : goal.nonzero_rem-remainder
nonzero_rem-remainder c = (in_bounds c).clock_low

pub returns-in_err-check_bounds : goal.returns-in_err-check_bounds
returns-in_err-check_bounds c =
    let args = c.args in
    refused_by c.from_residual.ensures ∙ answer-by args.number args.penalty args.clock (sym c.check_bounds.ensures ∙ c.in_err-check_bounds.was)

pub returns : goal.returns
returns c = answer-by c.args.number c.args.penalty c.args.clock (sym c.check_bounds.ensures ∙ c.in_ok-check_bounds.was)
