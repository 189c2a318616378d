-- `check_rows` meets its contract: a run with a question open is small, and so is m once it is checked, so the count of
-- the rows is one.
use native.Mathlib.Omega.{arith}
use mathlib.Core.Path.{◌∙◌, sym}
use borrow.Author.Tests.{le-leb, lt-leb, eq-eqb, ne_eqb}
use Rattle.run.specs.program.Checks.{check_rows_of}
use Rattle.run.proofs.CheckLaws.{open_sizes, compared_same, compared_other, few_scalars}
use Rattle.std.proofs.lemmas.Result.{err_from_is_err_and}
use Rattle.run.proofs.checks.check_rows.Goals as goal

pub returns-in_err-kind : goal.returns-in_err-kind
unfolding check_rows_of
returns-in_err-kind c =
    let p = err_from_is_err_and c.from_residual.result c.from_residual.ensures.1 in
    rw (p.1, p.2, ← c.check_open.ensures, c.in_err-kind.was)

pub returns-then-m-gt-CONSTRAINTS : goal.returns-then-m-gt-CONSTRAINTS
unfolding check_rows_of
returns-then-m-gt-CONSTRAINTS c = rw (
  ← c.check_open.ensures,
  c.in_ok-kind.was,
  lt-leb _ _
      c.if-m-gt-CONSTRAINTS.true,
)

pub returns-then-area-area_length : goal.returns-then-area-area_length
unfolding check_rows_of
returns-then-area-area_length c =
    rw (
      ← c.check_open.ensures,
      c.in_ok-kind.was,
      le-leb _ _ c.if-m-gt-CONSTRAINTS.false,
      compared_other c.area_length.ensures c.if-area-area_length.true,
    )

pub overflow_add-count : goal.overflow_add-count
overflow_add-count c =
    omega (arith, c.if-m-gt-CONSTRAINTS.false, (open_sizes c.args.st (sym c.check_open.ensures ∙ c.in_ok-kind.was)).s)

pub overflow_add-count-2 : goal.overflow_add-count-2
overflow_add-count-2 c = omega (arith, (open_sizes c.args.st (sym c.check_open.ensures ∙ c.in_ok-kind.was)).n)

pub overflow_mul-count : goal.overflow_mul-count
overflow_mul-count c =
    let b = open_sizes c.args.st (sym c.check_open.ensures ∙ c.in_ok-kind.was) in
    omega (arith, few_scalars b.n c.if-m-gt-CONSTRAINTS.false b.s)

pub overflow_mul-count-2 : goal.overflow_mul-count-2
overflow_mul-count-2 c =
    let b = open_sizes c.args.st (sym c.check_open.ensures ∙ c.in_ok-kind.was) in
    omega (arith, few_scalars b.n c.if-m-gt-CONSTRAINTS.false b.s)

pub returns-then-rows-count : goal.returns-then-rows-count
unfolding check_rows_of
returns-then-rows-count c =
    rw (
      ← c.check_open.ensures,
      c.in_ok-kind.was,
      le-leb _ _ c.if-m-gt-CONSTRAINTS.false,
      compared_same c.area_length.ensures c.if-area-area_length.false,
      ne_eqb _ _ c.if-rows-count.true,
    )

pub returns-then-not-all_in_domain : goal.returns-then-not-all_in_domain
unfolding check_rows_of
returns-then-not-all_in_domain c =
    rw (
      ← c.check_open.ensures,
      c.in_ok-kind.was,
      le-leb _ _ c.if-m-gt-CONSTRAINTS.false,
      compared_same c.area_length.ensures c.if-area-area_length.false,
      eq-eqb _ _ c.if-rows-count.false,
      sym c.all_in_domain.ensures ∙ c.if-not-all_in_domain.true,
    )

pub returns : goal.returns
unfolding check_rows_of
returns c =
    rw (
      ← c.check_open.ensures,
      c.in_ok-kind.was,
      le-leb _ _ c.if-m-gt-CONSTRAINTS.false,
      compared_same c.area_length.ensures c.if-area-area_length.false,
      eq-eqb _ _ c.if-rows-count.false,
      sym c.all_in_domain.ensures ∙ c.if-not-all_in_domain.false,
    )
