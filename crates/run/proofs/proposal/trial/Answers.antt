-- `trial` meets its contract: the places so far are chosen or clear, and the place that is read is still as it was.
use mathlib.Core.Path.{◌≡◌, refl, ap, ◌∙◌}
use Prim.Native.Nat.{ℕ, ◌+◌}
use native.Mathlib.Nat.{le_antisymm}
use native.Mathlib.Omega.{arith}
use lib.Dec.{ltb}
use Rattle.interval.specs.declared.Scalar.{Scalar}
use Rattle.interval.specs.Scalar.{zero_s, pick}
use Rattle.linear.specs.Choose.{choose_of}
use Rattle.linear.specs.Flat.{at}
use Rattle.run.specs.program.Proposal.{point_of}
use Rattle.run.specs.Rows.{constraints_of}
use Rattle.run.specs.Vectors.{fill_to, vector, chosen_of}
use Rattle.run.proofs.ProposalLaws.{trial_is, chosen_in_place}
use Rattle.run.proofs.VectorLaws.{fill_turn, at_next}
use borrow.Author.Rules.{rules}
use Rattle.run.proofs.proposal.trial.Goals as goal

pub loop-i-init : goal.loop-i-init
unfolding fill_to
loop-i-init c = (omega arith, refl, refl)

pub loop-i-preserved : goal.loop-i-preserved
loop-i-preserved c =
    let l = c.loop-i in
    let a = c.args in
    let f : ℕ → Scalar = λ j. pick (ltb j a.c.n) (choose_of (at a.delta.now j)) zero_s in
    let z : 0 + l.i ≡ l.i = omega arith in
    let v : c.choose_if.result ≡ f l.i = c.choose_if.ensures
    ∙ ap (λ (s : Scalar). pick (ltb l.i a.c.n) (choose_of s) zero_s)
    (c.at-d.ensures ∙ at_next a.delta.now f l.i l.invariant.2) in (
      search rules,
      search rules,
      c.put.ensures
          ∙ rw z at (fill_turn a.delta.now 0 f l.i l.invariant.2 v),
    )

pub returns : goal.returns
returns c lambda =
    let a = c.args in
    let e : c.loop-i.delta ≡ chosen_of vector a.delta.now 0 a.c.n =
    rw (le_antisymm c.loop-i.invariant.0
    c.loop-i-test.false) at c.loop-i.invariant.2
    ∙ chosen_in_place a.delta.now a.c.n c.requires.1 c.requires.0.few_variables in
    c.tried.ensures lambda ∙ trial_is (point_of a.c.n a.x.now (constraints_of a.c a.rows.now))
    a.delta.now c.loop-i.delta lambda e
