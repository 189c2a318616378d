-- `neg` meets its contract.
use Rattle.std.proofs.Common.{◌^◌, refl}
use Rattle.interval.proofs.Enclosure.Neg.{neg_holds}
use Rattle.interval.proofs.Scalar.neg.Goals as goal

pub returns : goal.returns
returns c = record { value = refl; encloses = λ f p k h. neg_holds c.args.self p (2 ^ k) h }
