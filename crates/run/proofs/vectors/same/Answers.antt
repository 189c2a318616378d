-- `same` meets its contract: all variables so far are not told apart, and one that is settles it.
use mathlib.Core.Bool.{Bool}
use mathlib.Core.List.{List}
use mathlib.Core.Path.{◌≡◌, refl, sym, ◌∙◌}
use Prim.Native.Nat.{ℕ}
use native.Mathlib.Nat.{le_antisymm}
use borrow.Author.Rules.{rules}
use lib.Ieee.{Float}
use Rattle.interval.specs.declared.Scalar.{Scalar}
use Rattle.interval.specs.Scalar.{could_be_equal}
use Rattle.linear.specs.Flat.{at}
use Rattle.run.specs.Vectors.{all_to}
use Rattle.run.specs.Vectors.{same_of}
use Rattle.run.proofs.VectorLaws.{all_turn, all_broke}
use Rattle.run.proofs.vectors.same.Goals as goal
use Rattle.run.proofs.vectors.same.Invariants.{alike}

told : (a b : List Float) (i : ℕ) {x y : Scalar} {r : Bool} → x ≡ at a i → y ≡ at b i → r ≡ could_be_equal x y
    → alike a b i ≡ r
told a b i ex ey er = rw (← ex, ← ey, ← er)

pub loop-i-init : goal.loop-i-init
unfolding all_to
loop-i-init c = (search rules, refl)

pub returns-then-not-could_be_equal : goal.returns-then-not-could_be_equal
unfolding same_of
returns-then-not-could_be_equal c =
    let a = c.args in
    sym (all_broke (alike a.a.now a.b.now) c.loop-i.i a.n
    c.loop-i-test.true
    c.loop-i.invariant.1
    (told a.a.now a.b.now c.loop-i.i
    c.at-v.ensures c.at.ensures
    c.could_be_equal.ensures ∙ c.if-not-could_be_equal.true))

pub loop-i-preserved : goal.loop-i-preserved
loop-i-preserved c =
    let a = c.args in (
      search rules,
      all_turn (alike a.a.now a.b.now) c.loop-i.i
          c.loop-i.invariant.1
          (told a.a.now a.b.now c.loop-i.i
          c.at-v.ensures c.at.ensures
          c.could_be_equal.ensures ∙ c.if-not-could_be_equal.false),
    )

pub returns : goal.returns
unfolding same_of
returns c = sym (rw (le_antisymm c.loop-i.invariant.0 c.loop-i-test.false) at c.loop-i.invariant.1)
