-- `numbers_fit` meets its contract: each comparison is the definition's.
use borrow.Author.Rules.{rules}
use Rattle.yadzvego.specs.CState.{numbers_fit}
use Rattle.yadzvego.proofs.c_state.numbers_fit.Goals as goal

pub returns-then-r-lt5 : goal.returns-then-r-lt5
unfolding numbers_fit
returns-then-r-lt5 c = search rules

pub returns-else-r-lt5 : goal.returns-else-r-lt5
unfolding numbers_fit
returns-else-r-lt5 c = search rules
