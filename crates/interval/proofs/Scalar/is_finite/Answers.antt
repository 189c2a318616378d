-- `is_finite` meets its contract: each branch is one side of `&&`.
use Rattle.interval.proofs.Tests.{same_finite}
use Rattle.interval.proofs.Scalar.is_finite.Goals as goal

pub returns-then-is_finite : goal.returns-then-is_finite
returns-then-is_finite c =
    let x = c.args.self in
    rw (← same_finite x.lo, ← same_finite x.hi, ← c.is_finite.ensures.value, c.if-is_finite.true)
    c.is_finite-then-is_finite.ensures.value

pub returns-else-is_finite : goal.returns-else-is_finite
returns-else-is_finite c =
    rw (← same_finite c.args.self.lo, ← c.is_finite.ensures.value, c.if-is_finite.false)
