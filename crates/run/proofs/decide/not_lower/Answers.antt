-- `not_lower` meets its contract: whether it is tried again decides.
use Prim.Native.Nat.{◌+◌}
use mathlib.Core.Bool.{Bool, true, false, not, ◌&&◌}
use mathlib.Core.List.{List}
use mathlib.Core.Path.{◌≡◌, refl, sym, ap, ◌∙◌}
use lib.Ieee.{Float}
use Rattle.interval.specs.Result.{Res}
use Rattle.interval.specs.declared.Scalar.{Scalar}
use Rattle.run.specs.Area.{Memory}
use Rattle.run.specs.Curvature.{learned_of}
use Rattle.run.specs.State.{searching, rejected_for, retried}
use Rattle.run.specs.declared.state.Rejection.TheVariants as why
use Rattle.run.specs.declared.state.Search.{Search}
use Rattle.run.specs.declared.state.State.{State}
use Rattle.run.specs.program.Area.{StandingKnown}
use Rattle.run.specs.program.Proposal.{curvature_for}
use Rattle.run.proofs.IterateLaws.{retries, turns_down}
use Rattle.run.proofs.MemoryLaws.{read_curvature, seeks_as}
use Rattle.run.proofs.decide.not_lower.Goals as goal

-- the state that is searched again, from what was rejected
again :
    (st : State) {x : Search} {t : State} → x ≡ rejected_for st.search why.NotLower →
    t ≡ searching st
    (record {
      mu = x.mu;
      radius = x.radius;
      turned_down = st.search.turned_down + 1;
      first = x.first;
      plain = true;
      rejected = x.rejected;
    }) →
    t ≡ searching st (retried (rejected_for st.search why.NotLower))
again st e f =
    f ∙ ap (λ (x : Search). searching st
    (record {
      mu = x.mu;
      radius = x.radius;
      turned_down = st.search.turned_down + 1;
      first = x.first;
      plain = true;
      rejected = x.rejected;
    })) e

-- whether it may be, by the curvature that is held
retry-read :
    (st : State) {standing : Res Scalar} {w : Memory} {a : List Float} {b : Bool} → StandingKnown st standing w a →
    b ≡ (not st.search.plain && learned_of st.sizes.n (curvature_for st.sizes false a)) →
    (not st.search.plain && learned_of st.sizes.n w.curvature) ≡ b
retry-read st h e = sym (rw (read_curvature h.within.holds h.standing_whole.curvature) at e)

pub returns-then-may_retry : goal.returns-then-may_retry
returns-then-may_retry c w h =
    let st = c.args.st in
    let t = c.with_search.ensures in
    retries st w (retry-read st h c.may_retry.ensures ∙ c.if-may_retry.true) refl refl
    (again st c.reject-y.ensures t) (c.search.ensures w (seeks_as t h))

pub returns : goal.returns
returns c w h =
    let st = c.args.st in
    turns_down st w (retry-read st h c.may_retry.ensures ∙ c.if-may_retry.false) (c.turn_down.ensures w h)
