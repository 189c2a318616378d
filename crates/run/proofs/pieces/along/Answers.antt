-- `along` meets its contract: where the checks passed the counts and lengths fit.
use Prim.Native.Nat.{◌*◌}
use mathlib.Core.Path.{◌≡◌}
use native.Mathlib.Omega.{arith}
use borrow.Author.Tests.{eq-eqb, ne_eqb}
use lib.ListN.{length}
use Rattle.run.specs.Pieces.{along_reply}
use Rattle.run.proofs.PieceLaws.{finished, sized_passed, wants_passed}
use Rattle.std.proofs.lemmas.Result.{err_from_is_err_and}
use Rattle.run.proofs.pieces.along.Goals as goal

pub returns-in_err-wants : goal.returns-in_err-wants
unfolding along_reply
returns-in_err-wants c =
    let p = err_from_is_err_and c.from_residual.result c.from_residual.ensures.1 in
    rw (p.1, p.2, ← c.sized.ensures, ← c.wants.ensures, c.in_err-wants.was)

pub overflow_mul-c : goal.overflow_mul-c
overflow_mul-c c =
    let p = wants_passed _ _ _ (finished c.in_ok-wants.was)
    c.wants.ensures in
    omega (arith, (sized_passed p.0 c.sized.ensures).counts.few_variables)

pub returns-then-out-c : goal.returns-then-out-c
unfolding along_reply
returns-then-out-c c =
    rw (
      ← c.sized.ensures,
      ← c.wants.ensures,
      c.in_ok-wants.was,
      ne_eqb _ _
          c.if-out-c.true,
    )

pub along_constraints-requires : goal.along_constraints-requires
along_constraints-requires c =
    let p = wants_passed _ _ _ (finished c.in_ok-wants.was)
    c.wants.ensures in
    let z = (sized_passed p.0 c.sized.ensures).counts in
    record {
      few = z;
      enough = omega (arith, z.few_variables, p.1);
      values = c.if-out-c.false;
    }

pub returns : goal.returns
unfolding along_reply
returns c =
    let k = c.along_constraints in
    let n = c.args.c.n in
    let long = c.if-out-c.false in
    let size : length k.new.out ≡ 2 * n = omega (arith, k.auto, long) in
    rw (
      ← c.sized.ensures,
      ← c.wants.ensures,
      c.in_ok-wants.was,
      eq-eqb _ _ long,
      ← k.ensures,
    )
    (rw size at c.cleared.ensures)
