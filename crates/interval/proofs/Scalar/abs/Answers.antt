-- `abs` meets its contract: each branch is the definition's by its tests, and the size of a choice is enclosed.
use Rattle.std.proofs.Common.{◌≡◌, ◌^◌, T, sym, subst}
use lib.Ieee.{of_bits, binary64, fits}
use Rattle.interval.specs.declared.Scalar.{Scalar}
use Rattle.interval.specs.Scalar.{abs_of}
use Rattle.interval.specs.Enclosure.{Gives, EnclosesSize}
use Rattle.interval.proofs.Given.{yes}
use Rattle.interval.proofs.MinMax.{abs_is}
use Rattle.interval.proofs.Enclosure.Abs.{abs_holds}
use Rattle.interval.proofs.Scalar.abs.Goals as goal

gives : (x r : Scalar) → T (fits binary64 x.lo) → T (fits binary64 x.hi) → r ≡ abs_of x
    → Gives (abs_of x) (EnclosesSize x) r
gives x r l h e =
    record { value = e; encloses = subst (EnclosesSize x) (sym e) (λ f p k. abs_holds x (l, h) f p (2 ^ k)) }

pub returns-then-self : goal.returns-then-self
unfolding of_bits
returns-then-self c =
    let g = c.well_formed.0.1.1 in
    gives c.args.self _ (yes g.0.1) (yes g.1.0.1) (rw (abs_is, c.if-self.true))

pub returns-then-self-2 : goal.returns-then-self-2
unfolding of_bits
returns-then-self-2 c =
    let g = c.well_formed.0.1.1 in
    gives c.args.self _ (yes g.0.1) (yes g.1.0.1)
    (rw (abs_is, c.if-self.false, c.if-self-2.true))

pub returns : goal.returns
unfolding of_bits
returns c =
    let g = c.well_formed.0.1.1 in
    gives c.args.self _ (yes g.0.1) (yes g.1.0.1)
    (rw (abs_is, c.if-self.false, c.if-self-2.false, c.max_of.ensures))
