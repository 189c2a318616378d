-- `sub` meets its contract: the ends are the definition's, and the difference encloses.
use Rattle.std.proofs.Common.{◌≡◌, ◌-ℤ◌, sym, subst}
use Rattle.interval.specs.Scalar.{sub_of}
use Rattle.interval.specs.Enclosure.{Encloses}
use Rattle.interval.proofs.Given.{yes}
use Rattle.interval.proofs.Enclosure.Neg.{sub_holds}
use Rattle.interval.proofs.Scalar.sub.Goals as goal

pub returns : goal.returns
returns c =
    let x = c.args.self in
    let y = c.args.other in
    let e : record { lo = c.next_down.result; hi = c.next_up.result } ≡ sub_of x y = cc in
    let g = c.well_formed.0.1.1 in
    let h = c.well_formed.1.0.1.1 in
    record {
      value = e;
      encloses = subst (Encloses ◌-ℤ◌ x y) (sym e)
          (sub_holds x y (yes g.0.1, yes g.1.0.1) (yes h.0.1, yes h.1.0.1));
    }
