-- `free_part` meets its contract: the part of the array has the length asked, and the weights decide.
use Rattle.std.proofs.lemmas.Result.{err_from_is_err_and}
use Rattle.std.specs.Prelude.{Err, Ok, false}
use mathlib.Core.Path.{ap, ◌∙◌}
use Rattle.run.specs.program.Reduced.{curved, spanned}
use Rattle.run.proofs.ReducedLaws.{parted, unparted, parted_with}
use Rattle.run.proofs.Prefixes.{front_kept}
use Rattle.run.proofs.RowLaws.{short}
use Rattle.run.proofs.reduced.free_part.Goals as goal

pub returns-in_err-is_positive : goal.returns-in_err-is_positive
returns-in_err-is_positive c =
    let a = c.args in
    let e = err_from_is_err_and c.from_residual.result c.from_residual.ensures.1 in
    rw (e.1, e.2)
    (unparted (Err _) c.weigh.new.w a.delta.now (curved a.k a.h.now a.g.now) (spanned a.count a.z.now) (λ q. cc)
    ∙ parted _ _ _ _ _ _ c.force.ensures (rw c.in_err-is_positive.was at c.weigh.ensures))

pub returns-then-not-is_positive : goal.returns-then-not-is_positive
returns-then-not-is_positive c =
    let a = c.args in
    unparted (Ok false) c.weigh.new.w a.delta.now (curved a.k a.h.now a.g.now) (spanned a.count a.z.now) (λ q. cc)
    ∙ parted _ _ _ _ _ _ c.force.ensures
    (rw c.if-not-is_positive.true at (rw c.in_ok-is_positive.was at c.weigh.ensures))

pub returns : goal.returns
returns c =
    let e = c.in_ok-is_positive.was ∙ ap Ok c.if-not-is_positive.false in
    rw e
    at (parted_with _ _ _ _ _ _ c.force.ensures c.weigh.ensures e
    (front_kept _ c.weigh.new.w _ (short c.requires.1) c.weigh.auto.w) c.combine.ensures)
