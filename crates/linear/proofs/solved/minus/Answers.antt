-- `minus` meets its contract: the slice starts with the scalars stored so far, and is else as it was.
use mathlib.Core.Path.{◌≡◌, sym, ◌∙◌, ap}
use mathlib.Core.List.{◌++◌}
use Prim.Native.Nat.{ℕ, ◌+◌, ◌*◌, ◌/◌}
use native.Mathlib.Nat.{le_antisymm}
use native.Mathlib.Omega.{arith}
use borrow.Author.Rules.{rules}
use lib.ListN.{drop}
use Rattle.interval.specs.declared.Scalar.{Scalar}
use Rattle.linear.specs.Flat.{list_to}
use Rattle.linear.specs.Solved.{minus_at, minus_of}
use Rattle.linear.proofs.Lists.{list_to-none, list_to-more, list_to-two, list_to-all}
use Rattle.linear.proofs.solved.minus.Goals as goal

pub loop-h-init : goal.loop-h-init
loop-h-init c = (search rules, search rules, sym (list_to-none _ _))

pub loop-h-preserved : goal.loop-h-preserved
loop-h-preserved c =
    let l = c.loop-h in
    let a = c.args in
    let f : ℕ → Scalar = minus_at a.m a.n a.jc.now a.from.now a.k.now in
    let e : 2 * l.h + 2 ≡ 2 * (l.h + 1) = omega arith in
    let more = list_to-two f (2 * l.h) a.out.now
    (omega (arith, c.requires, c.loop-h-test.true)) in (
      search rules,
      search rules,
      (rw l.invariant.2 at c.minus_two.ensures) ∙ more ∙ ap
          (λ (i : ℕ). list_to f i ++ drop (2 * i) a.out.now) e,
    )

pub returns-then-i-n : goal.returns-then-i-n
unfolding minus_of
returns-then-i-n c =
    let l = c.loop-h in
    let a = c.args in
    let half = a.n / 2 in
    let f : ℕ → Scalar = minus_at a.m a.n a.jc.now a.from.now a.k.now in
    let e = rw (le_antisymm l.invariant.0 c.loop-h-test.false) at
    l.invariant.2 in
    let last : 2 * half + 1 ≡ a.n = omega (arith, c.if-i-n.true) in
    let more = list_to-more f (2 * half) a.out.now (omega (arith, c.requires, last)) in
    (rw (e, c.minus_at.ensures) at c.put.ensures) ∙ more
    ∙ ap (λ (i : ℕ). list_to f i ++ drop (2 * i) a.out.now) last ∙ list_to-all f a.n a.out.now c.requires.values

pub returns-else-i-n : goal.returns-else-i-n
unfolding minus_of
returns-else-i-n c =
    let l = c.loop-h in
    let a = c.args in
    let f : ℕ → Scalar = minus_at a.m a.n a.jc.now a.from.now a.k.now in
    let e = rw (le_antisymm l.invariant.0 c.loop-h-test.false) at l.invariant.2 in
    let last : 2 * (a.n / 2) ≡ a.n = omega (arith, c.if-i-n.false) in
    e ∙ ap (λ (i : ℕ). list_to f i ++ drop (2 * i) a.out.now) last
    ∙ list_to-all f a.n a.out.now c.requires.values
