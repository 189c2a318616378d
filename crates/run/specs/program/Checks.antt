-- For private functions: the checks of a begin, and those of a reply, the refusal or the kind of the question that is
-- answered.
use Rattle.std.specs.Prelude.{ℕ, ◌+◌, ◌*◌, ◌&&◌, List, eqb, Float, length, None, Option, Some, Result, Ok, Err}
use Rattle.interval.specs.Scalar.{pick}
use Rattle.interval.specs.declared.Scalar.{Scalar}
use Rattle.run.specs.Checks.{sizes_fit, constraints_fit, step_fits, valid, all_in_domain}
use Rattle.run.specs.Rows.{row_numbers, row_counts}
use Rattle.run.specs.declared.refusal.Refusal.{Refusal}
use Rattle.run.specs.declared.refusal.Refusal.TheVariants.{TooMany, WrongLength, OutsideDomain, Altered}
use Rattle.run.specs.declared.state.Kind.{Kind}
use Rattle.run.specs.declared.state.Sizes.{Sizes}
use Rattle.run.specs.declared.state.State.{State}
use Rattle.run.specs.Area.{area_length}

-- ---- the checks of a begin, with an area of that length

abbrev pub begin_check : Sizes → List Float → Scalar → ℕ → Result (Unit {0}) Refusal
begin_check z start max area =
    pick (sizes_fit z)
    (pick (eqb (length start) (2 * z.n) && eqb area (area_length z))
    (pick (all_in_domain start z.n && step_fits max) (Ok tt) (Err OutsideDomain)) (Err WrongLength)) (Err TooMany)

-- ---- the checks of a reply: the refusal, or the kind of the question that is answered

abbrev pub open_in : Option Kind → Result Kind Refusal
open_in None = Err Altered
open_in (Some k) = Ok k

unfoldable pub open_of : State → Result Kind Refusal
open_of st = pick (valid st) (open_in st.phase) (Err Altered)

abbrev pub then_check : Result Kind Refusal → (Kind → Result Kind Refusal) → Result Kind Refusal
then_check (Err k) next = Err k
then_check (Ok k) next = next k

-- of reply none, with an area of that length
abbrev pub area_check : Sizes → ℕ → Kind → Result Kind Refusal
area_check z area k = pick (eqb area (area_length z)) (Ok k) (Err WrongLength)

unfoldable pub check_of : State → ℕ → Result Kind Refusal
check_of st area = then_check (open_of st) (area_check st.sizes area)

-- of a reply with rows, m constraint rows among them
abbrev pub rows_check : Sizes → ℕ → ℕ → List Float → Kind → Result Kind Refusal
rows_check z area m rows k =
    let c = row_counts z m in
    pick (constraints_fit m)
    (pick (eqb area (area_length z) && eqb (length rows) (row_numbers c))
    (pick (all_in_domain rows ((c.m + c.s) * (c.n + 1))) (Ok k) (Err OutsideDomain)) (Err WrongLength)) (Err TooMany)

unfoldable pub check_rows_of : State → ℕ → ℕ → List Float → Result Kind Refusal
check_rows_of st area m rows = then_check (open_of st) (rows_check st.sizes area m rows)
