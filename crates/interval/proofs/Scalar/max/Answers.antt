-- `max` meets its contract: the chosen ends joined are the definition's, and the greater of two choices is enclosed.
use Rattle.std.proofs.Common.{◌≡◌, sym, subst}
use Rattle.interval.specs.Enclosure.{Encloses, maxℤ}
use Rattle.interval.specs.Scalar.{max_of}
use Rattle.interval.proofs.Given.{yes}
use Rattle.interval.proofs.Enclosure.Max.{max_encloses}
use Rattle.interval.proofs.Scalar.max.Goals as goal

pub returns : goal.returns
returns c =
    let x = c.args.self in
    let y = c.args.other in
    let e : c.union_of.result ≡ max_of x y = cc in
    let g = c.well_formed.0.1.1 in
    let h = c.well_formed.1.0.1.1 in
    record {
      value = e;
      encloses = subst (Encloses maxℤ x y) (sym e)
          (max_encloses x y (yes g.0.1, yes g.1.0.1) (yes h.0.1, yes h.1.0.1));
    }
