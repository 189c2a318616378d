-- `all_in_domain` meets its contract: whether all so far are in the domain, each read inside the slice; where the count
-- goes beyond it, a NaN is among them.
use borrow.Author.Rules.{rules}
use borrow.Author.Tests.{lt-ltb}
use mathlib.Core.Path.{refl, sym}
use Prim.Native.Nat.{◌+◌, ◌*◌}
use native.Mathlib.Numerals.{add-one}
use native.Mathlib.Omega.{arith}
use lib.ListN.{length}
use Rattle.linear.proofs.FlatLaws.{at_inside}
use Rattle.run.specs.Vectors.{all_to}
use Rattle.run.proofs.Domains.{none_beyond}
use Rattle.run.proofs.checks.all_in_domain.Goals as goal

pub returns-then-count-xs : goal.returns-then-count-xs
returns-then-count-xs c = let a = c.args in sym (none_beyond a.xs.now a.count c.if-count-xs.true)

pub loop-i-init : goal.loop-i-init
unfolding all_to
loop-i-init c = (search rules, refl)

pub loop-i-preserved : goal.loop-i-preserved
unfolding all_to
loop-i-preserved c =
    let l = c.loop-i in
    let a = c.args in
    let inside = lt-ltb (2 * l.i + 1) (length a.xs.now) (omega arith) in
    (search rules, rw (add-one, c.in_domain-inside.ensures, at_inside a.xs.now l.i inside, l.invariant.1))
