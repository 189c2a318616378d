-- `yadzvego_point_length` meets its contract: 0 where there is none, and 24 at most.
use mathlib.Core.Path.{◌∙◌, sym}
use native.Mathlib.Omega.{arith}
use borrow.Author.Tests.{not-true, not-false}
use Rattle.yadzvego.specs.Exports.{point_length}
use Rattle.yadzvego.proofs.ExportLaws.{few_variables}
use borrow.Author.Rules.{rules}
use Rattle.yadzvego.proofs.yadzvego_point_length.Goals as goal

pub returns-then-not-has_point : goal.returns-then-not-has_point
unfolding point_length
returns-then-not-has_point c = rw (sym c.has_point.ensures ∙ c.if-not-has_point.true)

pub overflow_mul-result : goal.overflow_mul-result
overflow_mul-result c = omega (
  arith,
  few_variables c.args.run _
      (sym c.has_point.ensures ∙ c.if-not-has_point.false),
)

pub returns : goal.returns
unfolding point_length
returns c = rw (sym c.has_point.ensures ∙ c.if-not-has_point.false)
