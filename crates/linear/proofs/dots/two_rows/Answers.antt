-- `two_rows` meets its contract: both ways give both sums.
use lib.Ieee.{of_bits}
use Rattle.linear.proofs.BoundLaws.{bounds_back}
use Rattle.linear.proofs.SumBounds.{anew, anew_inside, zero_bounds}
use Rattle.linear.proofs.dots.two_rows.Goals as goal

pub two_inside-requires : goal.two_inside-requires
unfolding of_bits
two_inside-requires c =
    let i = c.are_rows_inside.ensures c.if-are_rows_inside.true in
    let p = (zero_bounds c.bounds_of-zero.ensures).proper in
    let a = c.args in
    record {
      first = anew_inside a.a.now a.a0 1 a.k i.first;
      second = anew_inside a.a.now a.a1 1 a.k i.second;
      row = anew_inside a.b.now a.b0 1 a.k i.row;
      first_start = p;
      second_start = p;
    }

pub returns-then-are_rows_inside : goal.returns-then-are_rows_inside
unfolding of_bits
returns-then-are_rows_inside c = simp (anew, bounds_back c.bounds_of-zero.ensures) at c.two_inside.ensures
