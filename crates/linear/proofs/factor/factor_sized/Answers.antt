-- `factor_sized` meets its contract: the rows from clear slices are the factor's entries (CholeskyRows), and a refusal
-- clears both slices again.
use mathlib.Core.Path.{◌≡◌, ◌∙◌}
use Prim.Native.Nat.{◌*◌}
use native.Mathlib.Omega.{arith}
use lib.ListN.{length}
use Rattle.linear.proofs.CholeskyRows.{rows_are_entries}
use Rattle.linear.proofs.Replied.{is_refused, is_done}
use Rattle.linear.proofs.factor.factor_sized.Goals as goal

pub returns-else-is_err : goal.returns-else-is_err
returns-else-is_err c =
    let k = c.factor_rows-end in
    let end = is_done k.result c.if-is_err.ensures.value in
    let l = rw c.requires.entries at c.clear.ensures in
    let left = rw c.requires.marks at (c.fill.ensures.after (λ _ e. e)) in
    let e = rw (end.1, l, left) at k.ensures ∙ rows_are_entries c.args.n c.args.a.now in
    rw (end.1, ← e)

pub returns-then-is_err : goal.returns-then-is_err
returns-then-is_err c =
    let k = c.factor_rows-end in
    let end = is_refused k.result c.if-is_err.ensures.value in
    let l = rw c.requires.entries at c.clear.ensures in
    let left = rw c.requires.marks at (c.fill.ensures.after (λ _ e. e)) in
    let e = rw (end.1, l, left) at k.ensures ∙ rows_are_entries c.args.n c.args.a.now in
    let size : length k.new.l ≡ 2 * (c.args.n * c.args.n) = omega (arith, k.auto, c.clear.auto) in
    let marks : length k.new.left_out ≡ c.args.n = omega (arith, k.auto, c.fill.auto) in
    rw (end.1, ← e, rw size at c.clear-then-is_err.ensures, rw marks at (c.fill-then-is_err.ensures.after (λ _ e. e)))
