-- `body` meets its contract: the place lies in the file, and the part there is the body. Assumes nothing.
use mathlib.Core.Path.{refl, ap}
use Prim.Native.Nat.{ℕ, ◌+◌}
use native.Mathlib.Omega.{arith}
use borrow.Author.Rules.{rules}
use Rattle.reader.proofs.ReadLaws.{place_inside, place-body}
use Rattle.reader.proofs.body.Goals as goal

pub overflow_add-to : goal.overflow_add-to
overflow_add-to c =
    let args = c.args in
    omega (arith, place_inside 1 args.file.now args.task, c.place-found.ensures.0, c.place-found.ensures.1)

pub slice_bounds-result-end : goal.slice_bounds-result-end
slice_bounds-result-end c =
    let args = c.args in
    let l = place_inside 1 args.file.now args.task in
    let p = c.place-found.ensures.0 in
    let q = c.place-found.ensures.1 in
    search rules

pub returns : goal.returns
returns c =
    let args = c.args in
    let found = c.place-found in (
      place-body 1 args.file.now args.task found.ensures.0 (ap (λ (x : ℕ). found.result.start + x) found.ensures.1),
      refl,
      omega (arith, found.ensures.0),
    )
