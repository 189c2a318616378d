-- `mul` meets its contract: the corners are the definition's, and the product encloses.
use Rattle.std.proofs.Common.{sym, subst}
use Rattle.interval.specs.Enclosure.{EnclosesProduct}
use Rattle.interval.proofs.Given.{yes}
use Rattle.interval.proofs.Enclosure.Mul.{mul_holds}
use Rattle.interval.proofs.Scalar.mul.Goals as goal

pub returns : goal.returns
returns c =
    let x = c.args.self in
    let y = c.args.other in
    let g = c.well_formed.0.1.1 in
    let h = c.well_formed.1.0.1.1 in
    record {
      value = c.spread_of.ensures;
      encloses = subst (EnclosesProduct x y) (sym c.spread_of.ensures)
          (mul_holds x y (yes g.0.1, yes g.1.0.1) (yes h.0.1, yes h.1.0.1));
    }
