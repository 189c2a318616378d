-- `less_chosen` meets its contract: the vector is filled so far.
use mathlib.Core.List.{List}
use mathlib.Core.Path.{◌≡◌, sym, ◌∙◌}
use Prim.Native.Nat.{ℕ}
use lib.Ieee.{Float}
use Rattle.interval.specs.declared.Scalar.{Scalar}
use Rattle.interval.specs.Scalar.{sub_of}
use Rattle.linear.specs.Choose.{choose_of}
use Rattle.linear.specs.Flat.{at}
use Rattle.run.specs.Vectors.{vector}
use Rattle.run.proofs.VectorLaws.{fill_none, fill_first}
use borrow.Author.Rules.{rules}
use Rattle.run.proofs.curvature.less_chosen.Invariants.{difference}
use Rattle.run.proofs.curvature.less_chosen.Goals as goal

value :
    (y bs : List Float) (i : ℕ) {a b d v : Scalar} → a ≡ at y i → b ≡ at bs i → d ≡ sub_of a b → v ≡ choose_of d →
    v ≡ difference y bs i
value y bs i ea eb ed ev = rw (ev, ed, ea, eb)

pub loop-i-init : goal.loop-i-init
loop-i-init c = (search rules, search rules, c.requires ∙ sym (fill_none _ _))

pub loop-i-preserved : goal.loop-i-preserved
loop-i-preserved c =
    let a = c.args in
    let l = c.loop-i in
    let v =
    value a.y.now a.bs.now l.i c.at-x.ensures
    c.at.ensures c.sub.ensures.value
    c.choose.ensures in
    let filled = c.put.ensures ∙ fill_first vector (difference a.y.now a.bs.now) l.i l.invariant.2
    v in
    (search rules, search rules, filled)
