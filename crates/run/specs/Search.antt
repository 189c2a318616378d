-- The search for a proposal, over dampings: left at the first question or stop (PROTOCOL, An iteration).
use Rattle.std.specs.Prelude.{ℕ, zero, suc}
use Rattle.interval.specs.Result.{Res, ok, refused}
use Rattle.interval.specs.Scalar.{pick}
use Rattle.interval.specs.declared.Scalar.{Scalar}
use Rattle.run.specs.Damping.{damped}
use Rattle.run.specs.Limits.{DAMPINGS}
use Rattle.run.specs.Proposal.{Trial, Proposal, not_positive, no_drop, unresolved, no_change, ask, Standing}
use Rattle.run.specs.Proposal.{proposal_of}
use Rattle.run.specs.State.{rejected_for, with_radius}
use Rattle.run.specs.declared.state.Rejection.TheVariants as why
use Rattle.run.specs.declared.state.Search.{Search}
use Rattle.run.specs.declared.state.Stop.{Stop}
use Rattle.run.specs.declared.state.Stop.TheVariants as stop

-- where a search is left: with a question, a stop, or refusal 5 or 6
pub data Found : Type 0 where
  asks : Search → Trial → Found
  stops : Search → Stop → Found
  refuses : Search → ℕ → Found

-- no expected drop: Flat if first, with the number of independent rows among the m, else Damped
abbrev pub flat_or : Search → ℕ → ℕ → Stop
flat_or x independent m = pick x.first (stop.Flat independent m) (stop.Damped x.rejected)

-- what follows from a proposal: the search is left, or goes on with more damping
abbrev pub follow : (Search → Found) → ℕ → Scalar → Search → Res Proposal → Found
follow on m max x (refused k) = refuses x k
follow on m max x (ok (ask t)) = asks x t
follow on m max x (ok no_change) = stops x (stop.NoChange x.rejected)
follow on m max x (ok (no_drop r)) = stops x (flat_or x r m)
follow on m max x (ok unresolved) = damped on (λ y s. stops y s) (rejected_for (with_radius x max) why.Unresolved)
follow on m max x (ok not_positive) = damped on (λ y s. stops y s) (rejected_for x why.NotPositive)

-- at most so many dampings; the damping is not finite before they are used up
unfoldable pub search_to : ℕ → Standing → Scalar → Search → Found
search_to zero S max x = stops x (stop.Damped x.rejected)
search_to (suc t) S max x =
    follow (λ y. search_to t S max y) S.e.constraints.count max x (proposal_of S x.mu x.radius)

unfoldable pub search_of : Standing → Scalar → Search → Found
search_of S max x = search_to DAMPINGS S max x
