-- `in_domain` meets its contract.
use borrow.Author.Rules.{rules}
use lib.Ieee.{nan_bits}
use Rattle.run.proofs.checks.in_domain.Goals as goal

pub float_from_bits-most : goal.float_from_bits-most
unfolding nan_bits
float_from_bits-most c = search rules
