-- For private functions: the directions by their parts, and what the search for them answers.
use Rattle.linear.specs.declared.results.LinearError.{LinearError}
use Rattle.std.specs.Prelude.{Bool, ℕ, ◌+◌, List, Float, Err, Ok, Result, false, true}
use Rattle.interval.specs.Result.{Res, ok, refused}
use Rattle.linear.specs.LinearResult.{number_of}
use Rattle.linear.specs.Results.{bind}
use Rattle.run.specs.NullSpace.{Directions, square_of, longest_to, directions_to}
use Rattle.run.specs.Results.{count_of, map_r}
use Rattle.run.specs.Vectors.{matrix}
use Rattle.run.specs.declared.null_space.Remainder.{Remainder}

-- ---- what the program keeps and answers

abbrev pub directions_in : ℕ → List Float → List Float → Directions
directions_in count z left = record { count = count; z = z; left = left }

-- the longest of the remainders 0 to p, with its square
abbrev pub longest_in : ℕ → List Float → ℕ → Remainder
longest_in k left p = let best = longest_to k left p in record { place = best; square = square_of k left best }

-- the directions alone: nothing reads what is left after the last
unfoldable pub span_of : Res Directions → Res Directions
unfolding bind
span_of x = bind x (λ d. ok (directions_in d.count d.z matrix))

-- where one more was asked for, and at most t after it
abbrev pub next_of : ℕ → ℕ → Result Bool LinearError → ℕ → List Float → List Float → Res Directions
next_of k t (Ok true) count z left = span_of (directions_to k t (directions_in (count + 1) z left))
next_of k t (Ok false) count z left = ok (directions_in count z matrix)
next_of k t (Err e) count z left = refused (number_of e)

abbrev pub found_of : Result ℕ LinearError → List Float → Res Directions
found_of x z = map_r (λ count. directions_in count z matrix) (count_of x)
