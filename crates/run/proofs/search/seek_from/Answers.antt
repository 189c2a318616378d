-- `seek_from` meets its contract: at every turn the search that is left gives what the whole one gives, with fewer
-- dampings.
use Rattle.std.specs.Prelude.{Result}
use Rattle.linear.specs.declared.results.LinearError.{LinearError}
use mathlib.Core.List.{List}
use mathlib.Core.Path.{◌≡◌, refl, sym, ap, ◌∙◌}
use native.Mathlib.Omega.{arith}
use lib.Ieee.{Float}
use Rattle.interval.specs.declared.Scalar.{Scalar}
use Rattle.interval.specs.Result.{Res}
use Rattle.interval.proofs.Given.{yes}
use Rattle.run.specs.Limits.{DAMPINGS}
use Rattle.run.specs.Proposal.{Standing, Proposal, proposal_of}
use Rattle.run.specs.Search.{Found, follow, search_to, search_of}
use Rattle.run.specs.declared.proposal.Proposal as declared
use Rattle.run.specs.program.Proposal.{standing_in, proposal_result}
use Rattle.run.specs.program.Search.{turn_result}
use Rattle.run.specs.declared.search.Turn.{Turn}
use Rattle.run.specs.declared.search.Turn.TheVariants as t
use Rattle.run.specs.declared.state.Search.{Search}
use Rattle.run.proofs.SearchLaws.{Seeking, seeking, few, onward, followed, Grew, grew, seek_on}
use Rattle.run.proofs.search.seek_from.Goals as goal

-- how the question so far is followed, from what it stands on and what is written: delta, lambda and the next point
module _ (S : Standing) (max : Scalar) (here : Search) (p : Result declared.Proposal LinearError) {got : Turn}
    (delta lambda next : List Float)
    (follows : (on : Search → Found) (d l n : List Float) →
    turn_result got on d l n ≡ follow on S.e.constraints.count max here (proposal_result p d l n))
    (proposes : proposal_result p delta lambda next ≡ proposal_of S here.mu here.radius) where
  followed-as : (r : Turn) → got ≡ r → (on : Search → Found) →
      turn_result r on delta lambda next
      ≡ follow on S.e.constraints.count max here (proposal_of S here.mu here.radius)
  followed-as r e on =
      sym (ap (λ (r : Turn). turn_result r on delta lambda next) e)
      ∙ follows on delta lambda next
      ∙ ap (λ (p : Res Proposal). follow on S.e.constraints.count max here p) proposes

  grown-to : (y : Search) → got ≡ t.On y → Grew here y
  grown-to y e =
      grew S.e.constraints.count max here y (proposal_of S here.mu here.radius) (followed-as (t.On y) e)

  whole : (start : Search) (i : Seeking S max start here) (r : Turn) → got ≡ r →
      turn_result r (onward S max start i) delta lambda next ≡ search_to DAMPINGS S max start
  whole start i r e = followed-as r e (onward S max start i) ∙ followed S max start i

pub loop-left-init : goal.loop-left-init
loop-left-init c =
    let g = c.well_formed.1.1.1.1.1.0.1.1.0.1.1 in
    (refl, refl, seeking _ _ c.args.from (yes g.0.1, yes g.1.0.1) (yes c.requires.turned_down_bound.1))

pub follow-requires : goal.follow-requires
follow-requires c =
    let i = c.loop-left.invariant.2 in
    omega (arith, few _ _ _ i, i.later, c.requires.turned_down_bound.0)

pub loop-left-smaller : goal.loop-left-smaller
loop-left-smaller c =
    let a = c.args in
    let S : Standing = standing_in a.origin a.area.now in
    let i = c.loop-left.invariant.2 in
    let g = grown-to S a.origin.max_step c.loop-left.state _ _ _ _ c.follow.ensures c.propose-p.ensures _ c.in-On.is in
    omega (arith, g.one_more, i.later, few _ _ _ i)

pub loop-left-preserved : goal.loop-left-preserved
loop-left-preserved c =
    let a = c.args in
    let S : Standing = standing_in a.origin a.area.now in
    let i = c.loop-left.invariant in
    let l = c.propose-p.auto in
    let x = c.loop-left.state in
    let f = c.follow.ensures in
    let p = c.propose-p.ensures in
    let e = c.in-On.is in (
      l.delta ∙ i.0,
      l.lambda ∙ i.1,
      seek_on _ _ _ i.2 (grown-to S a.origin.max_step x _ _ _ _ f p _ e)
          (whole S a.origin.max_step x _ _ _ _ f p a.from i.2 _ e),
    )

pub returns : goal.returns
unfolding search_of
returns c =
    let a = c.args in
    let S : Standing = standing_in a.origin a.area.now in
    whole S a.origin.max_step c.loop-left.state _ _ _ _ c.follow.ensures c.propose-p.ensures a.from
    c.loop-left.invariant.2 _ c.in-Leave.is
