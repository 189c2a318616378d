-- `scaled_cut` meets its contract: the places so far are filled, and each place is its run's, or outside the slice.
use mathlib.Core.Path.{refl, ◌∙◌}
use Prim.Native.Nat.{ℕ, ◌+◌, ◌≤◌, ◌<◌}
use native.Mathlib.Omega.{arith}
use borrow.Author.Rules.{rules}
use Rattle.linear.specs.Flat.{fill_to}
use Rattle.linear.specs.Scaled.{minus_scaled}
use Rattle.linear.proofs.FillLaws.{scaled_more, put_cut}
use Rattle.linear.proofs.Walks.{at_cut, cut_next, cut_size}
use Rattle.linear.proofs.scaled.scaled_cut.Goals as goal

counted : {k t : ℕ} → t < k → t + 1 ≤ k
counted h = omega arith

pub loop-init : goal.loop-init
unfolding minus_scaled fill_to
loop-init c = (search rules, refl, refl, omega arith, omega arith)

pub loop-preserved : goal.loop-preserved
loop-preserved c =
    let l = c.loop in
    let a = c.args in
    let here = cut_size l.invariant.3 l.invariant.1 in (
      counted c.loop-test.true,
      search rules,
      scaled_more _ _ _ _ _ l.counter _ l.invariant.2
          (c.at.ensures
          ∙ at_cut l.v here) (c.at-in-loop.ensures
          ∙ at_cut a.w.now l.invariant.4) (rw (
            c.choose.ensures,
            c.sub-x.ensures.value,
            c.mul.ensures.value,
          )) (c.put.ensures ∙ put_cut l.v _ here),
      cut_next a.v0 l.counter l.invariant.3 c.ahead-i.ensures (search rules),
      cut_next a.w0 l.counter l.invariant.4 c.ahead-j.ensures refl,
    )
