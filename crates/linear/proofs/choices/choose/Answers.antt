-- `choose` meets its contract: the test decides which of the two is chosen.
use lib.Ieee.{of_bits}
use Rattle.linear.specs.Choose.{choose_of}
use Rattle.linear.proofs.choices.choose.Goals as goal

pub returns-then-could_be_equal : goal.returns-then-could_be_equal
unfolding choose_of of_bits
returns-then-could_be_equal c = rw (← c.could_be_equal.ensures, c.if-could_be_equal.true)

pub returns : goal.returns
unfolding choose_of of_bits
returns c = rw (← c.could_be_equal.ensures, c.if-could_be_equal.false) c.sharpen.ensures
