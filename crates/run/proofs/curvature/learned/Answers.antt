-- `learned` meets its contract: no entry so far was learned, and one that was settles it.
use mathlib.Core.Bool.{Bool, not, ◌||◌}
use mathlib.Core.List.{List}
use mathlib.Core.Path.{◌≡◌, refl, sym, ◌∙◌}
use Prim.Native.Nat.{ℕ, ◌*◌}
use native.Mathlib.Nat.{le_antisymm}
use borrow.Author.Rules.{rules}
use lib.Ieee.{Float}
use Rattle.interval.specs.declared.Scalar.{Scalar}
use Rattle.interval.specs.Scalar.{zero_s, is_sharp, definitely_not_equal}
use Rattle.linear.specs.Flat.{at}
use Rattle.run.specs.Vectors.{any_to}
use Rattle.run.specs.Curvature.{learned_of}
use Rattle.run.proofs.VectorLaws.{any_turn, any_broke}
use Rattle.run.proofs.curvature.learned.Invariants.{bent}
use Rattle.run.proofs.curvature.learned.Goals as goal

told :
    (b : List Float) (p : ℕ) {x : Scalar} {r : Bool} → x ≡ at b p →
    r ≡ (not (is_sharp x) || definitely_not_equal x zero_s) → bent b p ≡ r
told b p ex er = rw (← ex, ← er)

pub loop-p-init : goal.loop-p-init
unfolding any_to
loop-p-init c = (search rules, refl)

pub returns-then-bends : goal.returns-then-bends
unfolding learned_of
returns-then-bends c =
    let a = c.args in
    sym (any_broke (bent a.b.now) c.loop-p.p (a.n * a.n)
    c.loop-p-test.true c.loop-p.invariant.1
    (told a.b.now c.loop-p.p c.at.ensures
    c.bends.ensures ∙ c.if-bends.true))

pub loop-p-preserved : goal.loop-p-preserved
loop-p-preserved c =
    let b = c.args.b.now in
    let l = c.loop-p in
    let not-bent = told b l.p c.at.ensures c.bends.ensures ∙ c.if-bends.false in
    (search rules, any_turn (bent b) l.p l.invariant.1 not-bent)

pub returns : goal.returns
unfolding learned_of
returns c = sym (rw (le_antisymm c.loop-p.invariant.0 c.loop-p-test.false) at c.loop-p.invariant.1)
