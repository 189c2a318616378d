-- `damped_step` meets its contract: the kept variables, into a clear array, their step, and its spread.
use Prim.Native.Nat.{ℕ, ◌≤◌}
use mathlib.Core.Path.{◌≡◌, refl}
use native.Mathlib.Omega.{arith}
use lib.Ieee.{of_bits}
use Rattle.run.proofs.ProblemLaws.{kept_few}
use Rattle.run.proofs.StepLaws.{prepared_by, end_spread}
use Rattle.run.proofs.step.damped_step.Goals as goal

-- the places are there
inside : {k n l : ℕ} → k ≤ n → n ≤ 12 → l ≡ 12 → k ≤ l
inside h j e = omega arith

pub kept_step-end-requires : goal.kept_step-end-requires
unfolding of_bits
kept_step-end-requires c =
    let p = c.requires in
    let few = kept_few _ _ c.keep-k.ensures in
    (omega (arith, few, p.0), p.2, record { delta_length = refl; lambda_length = p.3.lambda_length })

pub spread-requires : goal.spread-requires
spread-requires c =
    let p = c.requires in
    let k = c.keep-k in
    (p.3.delta_length, inside (kept_few _ _ k.ensures) p.0 k.auto.index)

pub returns : goal.returns
returns c =
    let k = c.kept_step-end in
    prepared_by _ _ _ _ _ _
    c.keep-k.ensures k.ensures (end_spread k.result _ _ _ c.spread.ensures)
