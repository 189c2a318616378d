-- `sqrt` meets its contract: the test decides the refusal, and else the stepped roots of the ends enclose the root.
use Rattle.std.proofs.Common.{◌≡◌, sym, ap, ◌∙◌, subst}
use lib.Ieee.{of_bits}
use Rattle.interval.specs.Scalar.{sqrt_of, outward, clamped}
use Rattle.interval.specs.Root.{nearest_root}
use Rattle.interval.specs.Result.{ok}
use Rattle.interval.specs.Enclosure.{EnclosesRoot}
use Rattle.interval.proofs.Given.{yes}
use Rattle.interval.proofs.Results.{refused_ok, ok_inj}
use Rattle.interval.proofs.Enclosure.Sqrt.{sqrt_holds}
use Rattle.interval.proofs.Scalar.sqrt.Goals as goal

pub returns-then-self : goal.returns-then-self
unfolding sqrt_of of_bits
returns-then-self c = record { value = simp c.if-self.true; encloses = λ x e. absurd (refused_ok e) }

pub returns : goal.returns
unfolding sqrt_of of_bits
returns c =
    let x = c.args.self in
    let g = c.well_formed.0.1.1 in
    let m : record { lo = c.next_down.result; hi = c.next_up.result }
    ≡ outward (nearest_root (clamped x.lo)) (nearest_root x.hi) = cc in
    record {
      value = simp c.if-self.false (ap ok m);
      encloses = λ r e. subst (EnclosesRoot x) (sym m ∙ ok_inj e) (sqrt_holds x (yes g.0.1, yes g.1.0.1));
    }
