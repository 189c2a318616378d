-- `prepare_kept` meets its contract: the basis, from clear arrays, and the factors that follows from it.
use Rattle.std.proofs.lemmas.Result.{err_from_is_err_and}
use mathlib.Core.Path.{ap, ◌∙◌}
use lib.ListN.{length}
use Rattle.run.proofs.BasisLaws.{rank_bound}
use Rattle.run.proofs.StepLaws.{kept_on, kept_refused, refused_few}
use Rattle.run.proofs.step.prepare_kept.Goals as goal

pub prepare_free-requires : goal.prepare_free-requires
prepare_free-requires c =
    let p =
    c.requires in
    let b =
    c.basis in
    let r = c.in_ok-r.was in
    record {
      few = record { variables = p.0; rows = p.1.0; independent = rank_bound _ (rw r at b.ensures) };
      vectors = b.auto.q;
      by_row = b.auto.coefficients;
      places = b.auto.order ∙ ap length p.1.1.0;
      clear = p.1.1.1;
    }

pub returns : goal.returns
returns c =
    let b =
    c.basis in
    let f = c.prepare_free in (
      (λ h g. kept_on _ _ _ _ _ b.result b.ensures
          c.in_ok-r.was
          (f.ensures.0 h g)),
      f.ensures.1,
    )

pub returns-in_err-r : goal.returns-in_err-r
returns-in_err-r c =
    let b = c.basis in
    let p = err_from_is_err_and c.from_residual.result c.from_residual.ensures.1 in
    rw (p.1, p.2) ((λ h g. kept_refused _ _ _ _ _ b.result b.ensures c.in_err-r.was), refused_few)
