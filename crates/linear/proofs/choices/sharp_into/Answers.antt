-- `sharp_into` meets its contract: the slice starts with the scalars chosen so far, and is else as it was.
use mathlib.Core.Path.{sym, ◌∙◌}
use native.Mathlib.Omega.{arith}
use borrow.Author.Rules.{rules}
use Rattle.linear.specs.Flat.{at}
use Rattle.linear.specs.Choose.{choose_of, sharp_of}
use Rattle.linear.proofs.Lists.{list_to-none, list_to-more}
use Rattle.linear.proofs.choices.sharp_into.Goals as goal

pub loop-i-init : goal.loop-i-init
unfolding sharp_of
loop-i-init c = (search rules, search rules, sym (list_to-none _ _))

pub loop-i-preserved : goal.loop-i-preserved
unfolding sharp_of
loop-i-preserved c =
    let a = c.args in
    let e =
    rw (c.loop-i.invariant.2, c.choose.ensures, c.at.ensures) at
    c.put.ensures in (
      search rules,
      search rules,
      e ∙ list_to-more (λ j. choose_of (at a.v.now j)) c.loop-i.i a.out.now (omega arith),
    )
