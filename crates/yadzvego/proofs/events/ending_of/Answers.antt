-- `ending_of` meets its contract: each arm is given the stop that it binds.
use borrow.Author.Rules.{rules}
use Rattle.yadzvego.proofs.events.ending_of.Goals as goal

pub returns-in-Infeasible : goal.returns-in-Infeasible
returns-in-Infeasible c = rw (c.in-Infeasible.is, c.ended.ensures)

pub returns-in-NoChange : goal.returns-in-NoChange
returns-in-NoChange c = rw (c.in-NoChange.is, c.ended-in-NoChange.ensures, c.rejection_number.ensures)

pub returns-in-Undecided : goal.returns-in-Undecided
returns-in-Undecided c = rw (c.in-Undecided.is, c.ended-in-Undecided.ensures)

pub returns-in-Flat : goal.returns-in-Flat
returns-in-Flat c = rw (c.in-Flat.is, c.ended-in-Flat.ensures)

pub returns-in-Damped : goal.returns-in-Damped
returns-in-Damped c = rw (c.in-Damped.is, c.ended-in-Damped.ensures, c.rejection_number-in-Damped.ensures)

pub returns-in-Budget : goal.returns-in-Budget
returns-in-Budget c = rw (c.in-Budget.is, c.ended-in-Budget.ensures)
