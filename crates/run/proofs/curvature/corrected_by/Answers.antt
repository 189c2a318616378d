-- `corrected_by` meets its contract: the test decides whether there is an update.
use lib.Ieee.{of_bits}
use Rattle.run.proofs.CurvatureLaws.{corrected, uncorrected}
use Rattle.run.proofs.curvature.corrected_by.Goals as goal

pub returns-then-definitely_not_equal : goal.returns-then-definitely_not_equal
unfolding of_bits
returns-then-definitely_not_equal c =
    let a = c.args in
    corrected a.n a.b.now a.y.now a.bs.now a.s.now
    c.less_chosen.ensures
    c.dot_of.ensures
    c.choose-vs.ensures
    c.definitely_not_equal.ensures
    c.if-definitely_not_equal.true c.rank_one.ensures

pub returns : goal.returns
unfolding of_bits
returns c =
    let a = c.args in
    uncorrected a.n a.b.now a.y.now a.bs.now a.s.now
    c.less_chosen.ensures
    c.dot_of.ensures c.choose-vs.ensures
    c.definitely_not_equal.ensures c.if-definitely_not_equal.false
