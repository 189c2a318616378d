-- What a function's entry says of its float parameters, as a truth.
use Rattle.std.proofs.Common.{◌≡◌, Bool, true, T, sym, subst}

pub yes : {b : Bool} → b ≡ true → T b
yes e = subst T (sym e) tt
