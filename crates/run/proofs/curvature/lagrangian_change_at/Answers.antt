-- `lagrangian_change_at` meets its contract: the definition's sum, from what each call gives.
use mathlib.Core.List.{List}
use mathlib.Core.Path.{◌≡◌}
use Prim.Native.Nat.{ℕ}
use lib.Ieee.{Float}
use Rattle.interval.specs.declared.Scalar.{Scalar}
use Rattle.interval.specs.Scalar.{add_of, sub_of}
use Rattle.run.specs.declared.rows.RowCounts.{RowCounts}
use Rattle.run.specs.declared.rows.RowSet.{RowSet}
use Rattle.run.specs.Rows.{rows_in, first_rows, constraint_set, sum_set, evaluation_of}
use Rattle.run.specs.Residuals.{transposed_at}
use Rattle.run.specs.Curvature.{lagrangian_change_at}
use Rattle.run.proofs.RowLaws.{constraints_small, first_small}
use Rattle.run.proofs.curvature.lagrangian_change_at.Goals as goal

value :
    (c d : RowCounts) (xs next lambda r : List Float) (j : ℕ) {e f g p q : RowSet} {t u v w a b y : Scalar} →
    e ≡ constraint_set d → ((zs : List Float) → rows_in zs f ≡ first_rows c.m (rows_in zs e)) →
    t ≡ transposed_at (rows_in next f) lambda j → g ≡ constraint_set c → u ≡ transposed_at (rows_in xs g) lambda j →
    a ≡ sub_of t u →
    p ≡ sum_set d → v ≡ transposed_at (rows_in next p) r j → b ≡ add_of a v →
    q ≡ sum_set c → w ≡ transposed_at (rows_in xs q) r j → y ≡ sub_of b w →
    y ≡ lagrangian_change_at (evaluation_of c xs) (evaluation_of d next) lambda r j
value c d xs next lambda r j ee ef et eg eu ea ep ev eb eq ew ey =
    rw (ey, eb, ea, et, eu, ev, ew, ef next, ee, eg, ep, eq)

pub transposed_at-held-requires : goal.transposed_at-held-requires
transposed_at-held-requires c =
    let p = c.requires in (
      first_small c.args.c.m c.first_rows.ensures
          (rw c.constraints.ensures (constraints_small p.1)),
      p.2,
    )

pub returns : goal.returns
returns c =
    let a = c.args in
    value a.c a.d a.xs.now a.next.now a.lambda.now a.r.now a.j
    c.constraints.ensures
    c.first_rows.ensures
    c.transposed_at-held.ensures
    c.constraints-2.ensures
    c.transposed_at.ensures
    c.sub-a.ensures.value
    c.sum.ensures
    c.transposed_at-2.ensures
    c.add-b.ensures.value c.sum-2.ensures
    c.transposed_at-3.ensures c.sub.ensures.value
