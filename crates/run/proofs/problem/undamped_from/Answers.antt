-- `undamped_from` meets its contract: the entry across the diagonal is the same where B's is.
use mathlib.Core.Path.{sym, ap, ◌∙◌}
use Rattle.interval.specs.declared.Scalar.{Scalar}
use Rattle.run.specs.program.Problem.{undamped_at}
use Rattle.run.proofs.Symmetry.{undamped_across}
use Rattle.run.proofs.problem.undamped_from.Goals as goal

pub returns-then-is_mirrored : goal.returns-then-is_mirrored
returns-then-is_mirrored c =
    let a = c.args in
    let p = c.requires in
    let m = c.is_mirrored.ensures c.if-is_mirrored.true in
    c.at.ensures
    ∙ p.2 m.0
    ∙ ap (λ (z : Scalar). undamped_at a.jr.now a.s z a.j a.i) (sym m.1)
    ∙ undamped_across a.jr.now a.s a.b a.i a.j m.0
