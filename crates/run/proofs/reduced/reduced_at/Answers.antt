-- `reduced_at` meets its contract: zero above the diagonal, the sum of products, chosen, below.
use borrow.Author.Tests.{lt-ltb, le-ltb}
use lib.Ieee.{of_bits}
use Rattle.run.specs.program.Reduced.{lower_at}
use Rattle.run.proofs.reduced.reduced_at.Goals as goal

pub returns-then-i-j : goal.returns-then-i-j
unfolding lower_at of_bits
returns-then-i-j c = rw (lt-ltb _ _ c.if-i-j.true)

pub returns : goal.returns
unfolding lower_at
returns c = rw (le-ltb _ _ c.if-i-j.false) (rw c.row_dot.ensures at c.choose.ensures)
