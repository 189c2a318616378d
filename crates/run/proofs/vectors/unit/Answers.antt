-- `unit` meets its contract: the places so far are filled.
use borrow.Author.Rules.{rules}
use mathlib.Core.Path.{refl, sym, ap, ◌∙◌}
use Rattle.interval.specs.Scalar.{div_of}
use Rattle.linear.specs.Choose.{choose_of}
use Rattle.linear.specs.Flat.{along}
use Rattle.linear.proofs.Sums.{along_row}
use Rattle.run.specs.Vectors.{fill_to, unit_at, or_zero}
use Rattle.run.proofs.VectorLaws.{fill_turn}
use Rattle.run.proofs.vectors.unit.Goals as goal

pub loop-p-init : goal.loop-p-init
unfolding fill_to
loop-p-init c = (search rules, refl, λ len e. refl)

pub loop-p-preserved : goal.loop-p-preserved
loop-p-preserved c =
    let l = c.loop-p in
    let a = c.args in
    let x = c.at-x.ensures ∙ sym (along_row a.v.now
    a.v0 l.p) in (
      search rules,
      search rules,
      λ len e.
          let d = c.quotient.ensures len e in
          let v = c.choose.ensures
          ∙ ap choose_of (c.or_zero.ensures ∙ ap or_zero (d ∙ ap
          (λ z. div_of z len) x)) in
          c.put.ensures ∙ fill_turn _ a.t0 (unit_at (along a.v.now a.v0 1) len) l.p
          (l.invariant.2 len e) v,
    )
