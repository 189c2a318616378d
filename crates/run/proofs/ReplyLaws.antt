-- A reply from its parts: what the program leaves as the definition's record, and the bounds that an accepted reply may
-- rely on.
use Rattle.std.specs.Prelude.{Some}
use mathlib.Core.Bool.{true}
use mathlib.Core.List.{List}
use mathlib.Core.Path.{◌≡◌, sym, ap, ◌∙◌}
use native.Mathlib.Omega.{arith}
use lib.Ieee.{Float}
use Rattle.run.specs.Endings.{AfterSlots}
use Rattle.run.specs.program.Endings.{Leaves, Bounded}
use Rattle.run.specs.Checks.{valid, phase_fits}
use Rattle.run.specs.Calls.{after_call, in_area}
use Rattle.run.specs.declared.state.Kind.{Kind}
use Rattle.run.specs.declared.state.Returned.{Returned}
use Rattle.run.specs.declared.state.State.{State}
use Rattle.run.proofs.CheckLaws.{bounds, open_mu}

pub leaves_left : (o : AfterSlots) (r : Returned) (a : List Float) → Leaves o r a → after_call r a ≡ in_area o
leaves_left o r a h = rw (h.state_is, h.event_is, h.held.is)

module _ (st : State) (k : Kind) (v : valid st ≡ true) (p : st.phase ≡ Some k) where
  pub reply_phase : phase_fits st (Some k) ≡ true
  reply_phase = ap (phase_fits st) (sym p) ∙ (bounds st v).phase

  pub reply_bounded : Bounded 1073741824 st
  reply_bounded =
      let b = bounds st v in
      let z = b.sizes in
      record {
        few_variables = z.n;
        few_standing = b.contents.standing;
        few_landed = b.contents.landed;
        few_sums = z.s;
        few_iterations = z.limit;
        within = b.iterations;
        few_corrections = omega (arith, b.corrections);
        few_questions = omega (arith, b.question, z.limit);
        few_turned = omega (arith, b.turned_down, b.iterations, z.limit);
        damping = open_mu st k v p;
      }
