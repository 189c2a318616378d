-- The public calls: the checks of counts, then of lengths, then the work (PROTOCOL, Refusals: 1 and 2, with nothing
-- written).
use Rattle.std.specs.Prelude.{ℕ, ◌*◌, Bool, false, List, leb, eqb, Float, length, replicate}
use Rattle.interval.specs.declared.Scalar.{Scalar}
use Rattle.interval.specs.Result.{Res, ok}
use Rattle.linear.specs.Flat.{at, zeros}
use Rattle.linear.specs.Dot.{dot_to}
use Rattle.linear.specs.Choose.{sharp_of}
use Rattle.linear.specs.Norm.{norm_of}
use Rattle.linear.specs.Cholesky.{Factor, cholesky_of}
use Rattle.linear.specs.Substitution.{solve_of}
use Rattle.linear.specs.Householder.{least_squares_of}
use Rattle.linear.specs.Solved.{minus_solved_of, gram_factor_of, minus_factored_of}
use Rattle.linear.specs.Replies.{Reply, reply_of, beside, checked, checked_value}

-- the greatest count of rows or columns
abbrev pub limit : ℕ
limit = 24

unfoldable pub dot_reply : ℕ → List Float → List Float → Res Scalar
dot_reply n a b =
    checked_value (leb n limit) 1
    (checked_value (eqb (length a) (2 * n)) 2
    (checked_value (eqb (length b) (2 * n)) 2
    (ok (dot_to (at a) (at b) n))))

unfoldable pub norm_reply : ℕ → List Float → Res Scalar
norm_reply n v =
    checked_value (leb n limit) 1
    (checked_value (eqb (length v) (2 * n)) 2
    (norm_of (at v) n))

unfoldable pub sharp_reply : ℕ → List Float → List Float → Reply (List Float)
sharp_reply n v out =
    checked (leb n limit) 1 out
    (checked (eqb (length v) (2 * n)) 2 out
    (checked (eqb (length out) (2 * n)) 2 out
    (reply_of (zeros (2 * n)) (ok (sharp_of v n)))))

abbrev pub blank : ℕ → Factor
blank n = record { l = zeros (2 * (n * n)); left_out = replicate n false }

unfoldable pub cholesky_reply : ℕ → List Float → Factor → Reply Factor
cholesky_reply n a f =
    checked (leb n limit) 1 f
    (checked (eqb (length a) (2 * (n * n))) 2 f
    (checked (eqb (length f.l) (2 * (n * n))) 2 f
    (checked (eqb (length f.left_out) n) 2 f
    (reply_of (blank n) (cholesky_of n a)))))

unfoldable pub solve_reply : ℕ → List Float → List Bool → List Float → List Float → Reply (List Float)
solve_reply n l left b x =
    checked (leb n limit) 1 x
    (checked (eqb (length l) (2 * (n * n))) 2 x
    (checked (eqb (length left) n) 2 x
    (checked (eqb (length b) (2 * n)) 2 x
    (checked (eqb (length x) (2 * n)) 2 x
    (reply_of (zeros (2 * n)) (solve_of n l left b))))))

unfoldable pub least_squares_reply : ℕ → ℕ → List Float → List Float → List Float → Reply (List Float)
least_squares_reply m r rows rhs y =
    checked (leb m limit) 1 y
    (checked (leb r limit) 1 y
    (checked (eqb (length rows) (2 * (m * r))) 2 y
    (checked (eqb (length rhs) (2 * m)) 2 y
    (checked (eqb (length y) (2 * r)) 2 y
    (reply_of (zeros (2 * r)) (least_squares_of m r rows rhs))))))

unfoldable pub minus_solved_reply : ℕ → ℕ → List Float → List Float → List Float → List Float → Reply (List Float)
minus_solved_reply m n jc rhs from out =
    checked (leb m limit) 1 out
    (checked (leb n limit) 1 out
    (checked (eqb (length jc) (2 * (m * n))) 2 out
    (checked (eqb (length rhs) (2 * m)) 2 out
    (checked (eqb (length from) (2 * n)) 2 out
    (checked (eqb (length out) (2 * n)) 2 out
    (reply_of (zeros (2 * n)) (minus_solved_of m n jc rhs from)))))))

-- g is scratch: it is clear afterwards, beside the factor
unfoldable pub gram_factor_reply : ℕ → ℕ → List Float → List Float → Factor → Reply (List Float × Factor)
gram_factor_reply m n jc g f =
    let lent : List Float × Factor = (g, f) in
    let clear = zeros (2 * (m * m)) in
    checked (leb m limit) 1 lent
    (checked (leb n limit) 1 lent
    (checked (eqb (length jc) (2 * (m * n))) 2 lent
    (checked (eqb (length g) (2 * (m * m))) 2 lent
    (checked (eqb (length f.l) (2 * (m * m))) 2 lent
    (checked (eqb (length f.left_out) m) 2 lent
    (reply_of (clear, blank m) (beside clear (gram_factor_of m n jc))))))))

unfoldable pub minus_factored_reply : ℕ → ℕ → List Float → Factor → List Float → List Float → List Float
    → Reply (List Float)
minus_factored_reply m n jc f rhs from out =
    checked (leb m limit) 1 out
    (checked (leb n limit) 1 out
    (checked (eqb (length jc) (2 * (m * n))) 2 out
    (checked (eqb (length f.l) (2 * (m * m))) 2 out
    (checked (eqb (length f.left_out) m) 2 out
    (checked (eqb (length rhs) (2 * m)) 2 out
    (checked (eqb (length from) (2 * n)) 2 out
    (checked (eqb (length out) (2 * n)) 2 out
    (reply_of (zeros (2 * n)) (minus_factored_of m n jc f rhs from)))))))))
