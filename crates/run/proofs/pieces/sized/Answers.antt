-- `sized` meets its contract: the sizes and m decide the definition's first three checks, the count its last.
use mathlib.Core.Bool.{Bool, true}
use mathlib.Core.Path.{◌≡◌, sym, ◌∙◌}
use borrow.Author.Tests.{le-leb, lt-leb, eq-eqb, ne_eqb}
use Rattle.run.specs.Checks.{sizes_fit}
use Rattle.run.specs.Pieces.{sized_of}
use Rattle.run.specs.declared.rows.RowCounts.{RowCounts}
use Rattle.run.specs.declared.state.Sizes.{Sizes}
use Rattle.run.proofs.CheckLaws.{SizeBounds, size_bounds}
use Rattle.run.proofs.PieceLaws.{too_many}
use Rattle.run.proofs.pieces.sized.Goals as goal

abbrev sizes : RowCounts → Sizes
sizes c = record { n = c.n; s = c.s; limit = 0 }

-- sizes that passed
passed : (c : RowCounts) {b : Bool} → b ≡ sizes_fit (sizes c) → b ≡ true → SizeBounds (sizes c)
passed c e h = size_bounds (sizes c) (sym e ∙ h)

pub returns-then-not-sizes_fit : goal.returns-then-not-sizes_fit
returns-then-not-sizes_fit c =
    let a = c.args in
    too_many a.c a.count (sym c.sizes_fit.ensures ∙ c.if-not-sizes_fit.true)

pub returns-then-c-gt-CONSTRAINTS : goal.returns-then-c-gt-CONSTRAINTS
unfolding sized_of
returns-then-c-gt-CONSTRAINTS c =
    let b = passed c.args.c c.sizes_fit.ensures
    c.if-not-sizes_fit.false in
    rw (le-leb _ _ b.n, lt-leb _ _ c.if-c-gt-CONSTRAINTS.true)

pub returns-then-count-c : goal.returns-then-count-c
unfolding sized_of
returns-then-count-c c =
    let b = passed c.args.c
    c.sizes_fit.ensures
    c.if-not-sizes_fit.false in
    rw (
      le-leb _ _ b.n,
      le-leb _ _ c.if-c-gt-CONSTRAINTS.false,
      le-leb _ _ b.s,
      ne_eqb _ _
          c.if-count-c.true,
    )

pub returns : goal.returns
unfolding sized_of
returns c =
    let b = passed c.args.c
    c.sizes_fit.ensures
    c.if-not-sizes_fit.false in
    rw (
      le-leb _ _ b.n,
      le-leb _ _ c.if-c-gt-CONSTRAINTS.false,
      le-leb _ _ b.s,
      eq-eqb _ _
          c.if-count-c.false,
    )
