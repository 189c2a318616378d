-- Z, an orthonormal basis of what the constraints leave free: the unit directions with what is left of them after Q,
-- taken one at a time by the longest remainder.
use Rattle.std.specs.Prelude.{ℕ, ◌*◌, zero, suc, ◌+◌, ◌-◌, List, Float}
use Rattle.interval.specs.Result.{Res, ok}
use Rattle.interval.specs.Scalar.{one64, degenerate, pick, definitely_greater, zero_s, sqrt_of, sharpen}
use Rattle.interval.specs.declared.Scalar.{Scalar}
use Rattle.linear.specs.Choose.{choose_of}
use Rattle.linear.specs.Dot.{dot_to}
use Rattle.linear.specs.Flat.{put}
use Rattle.linear.specs.Results.{bind}
use Rattle.run.specs.Vectors.{row, minus_scaled, matrix, fill_to, unit_at}

-- row p without its part along row t of w
abbrev pub part_off : ℕ → List Float → ℕ → List Float → ℕ → List Float
part_off k w t left p = minus_scaled left (12 * p) (choose_of (dot_to (row left p) (row w t) k)) w (12 * t) k

-- row p without its parts along the first r of q, one after the other
unfoldable pub left_after : ℕ → List Float → List Float → ℕ → ℕ → List Float
left_after k q left p zero = left
left_after k q left p (suc t) = part_off k q t (left_after k q left p t) p

-- the first p unit directions, with what is left of them after Q
unfoldable pub remainders_to : ℕ → ℕ → List Float → ℕ → List Float
remainders_to k r q zero = matrix
remainders_to k r q (suc p) = left_after k q (put (remainders_to k r q p) (12 * p + p) (degenerate one64)) p r

-- the first p remainders without their parts along row t of z
unfoldable pub without_to : ℕ → List Float → ℕ → List Float → ℕ → List Float
without_to k z t left zero = left
without_to k z t left (suc p) = part_off k z t (without_to k z t left p) p

abbrev pub square_of : ℕ → List Float → ℕ → Scalar
square_of k left p = dot_to (row left p) (row left p) k

-- the longest of the remainders 0 to p: the choice changes only for one that is definitely longer than the choice so
-- far
unfoldable pub longest_to : ℕ → List Float → ℕ → ℕ
longest_to k left zero = 0
longest_to k left (suc p) =
    let best = longest_to k left p in
    pick (definitely_greater (square_of k left (suc p)) (square_of k left best)) (suc p) best

pub record Directions : Type 0 where
  pub count : ℕ
  pub z : List Float
  pub left : List Float

-- one more direction, or no more
pub data More : Type 0 where
  more : Directions → More
  enough : More

unfoldable pub take_longest : ℕ → Directions → Res More
unfolding bind
take_longest k d =
    let best = longest_to k d.left (k - 1) in
    bind (sqrt_of (square_of k d.left best))
    (λ l.
    let z = fill_to d.z (12 * d.count) (unit_at (row d.left best) (sharpen l)) k in
    ok (pick (definitely_greater (sharpen l) zero_s)
    (more (record { count = d.count + 1; z = z; left = without_to k z d.count d.left k })) enough))

abbrev pub go_on : (Directions → Res Directions) → Directions → More → Res Directions
go_on on d (more d') = on d'
go_on on d enough = ok d

-- at most so many more
unfoldable pub directions_to : ℕ → ℕ → Directions → Res Directions
unfolding bind
directions_to k zero d = ok d
directions_to k (suc t) d = bind (take_longest k d) (go_on (λ d'. directions_to k t d') d)

-- k - r directions at most, none where r > k
unfoldable pub directions_of : ℕ → ℕ → List Float → Res Directions
directions_of k r q = directions_to k (k - r) (record { count = 0; z = matrix; left = remainders_to k r q k })
