-- `head::reserved` meets its contract: edition 1 has no bytes there, and edition 2 four. Assumes nothing.
use mathlib.Core.Path.{◌≡◌, ap, ◌∙◌}
use Prim.Native.Nat.{ℕ, ◌-◌}
use mathlib.Core.List.{List}
use native.Mathlib.Omega.{arith}
use lib.Dec.{eqb}
use lib.ListN.{length, take, drop, replicate, length-drop}
use lib.Seq.{take_all}
use Rattle.std.specs.List.{starts_with}
use Rattle.project.specs.File.{edition}
use Rattle.project.proofs.Heads.{starts_test, four_reserved}
use Rattle.project.proofs.head.reserved.Goals as goal

pub returns-else-file-eq1 : goal.returns-else-file-eq1
returns-else-file-eq1 c =
    let s = c.args.file.now in
    let second : edition s ≡ 2 = omega (arith, c.requires, c.if-file-eq1.false) in
    let rest : take (length s - 8) (drop 8 s) ≡ drop 8 s = take_all (length s - 8) (drop 8 s) (omega (arith, length-drop 8 s)) in
    four_reserved s _ second
    (starts_test (drop 8 s) (replicate 4 0) (c.starts_with.ensures.value ∙ ap (λ (l : List ℕ). starts_with eqb l (replicate 4 0)) rest))
