-- `point` meets its contract: where the run and the area fit, the point is within the area.
use mathlib.Core.Bool.{true}
use mathlib.Core.List.{List}
use mathlib.Core.Path.{◌≡◌, refl, sym, ◌∙◌}
use native.Mathlib.Omega.{arith}
use Prim.Native.Nat.{◌+◌, ◌*◌, ◌≤◌}
use lib.Ieee.{Float}
use lib.ListN.{length}
use Rattle.run.specs.Area.{HasRoom, point_at}
use Rattle.run.specs.Checks.{valid}
use Rattle.run.specs.declared.state.State.{State}
use Rattle.run.proofs.CheckLaws.{bounds, compared_other}
use Rattle.run.proofs.CallLaws.{point_at_lem, point_none, point_inside}
use Rattle.run.proofs.calls.point.Goals as goal

inside : (st : State) (a : List Float) → valid st ≡ true → HasRoom st.sizes a
    → point_at st.sizes st.phase + 2 * st.sizes.n ≤ length a
inside st a v room = point_inside st.sizes st.phase a room (bounds st v).sizes.n

pub returns-then-not-valid : goal.returns-then-not-valid
returns-then-not-valid c =
    point_none c.args.st c.args.area.now (rw (sym c.valid.ensures ∙ c.if-not-valid.true))

pub returns-then-area-area_length : goal.returns-then-area-area_length
returns-then-area-area_length c =
    let a = c.args in
    point_none a.st a.area.now
    (rw (
      sym c.valid.ensures ∙ c.if-not-valid.false,
      compared_other c.area_length.ensures c.if-area-area_length.true,
    ))

pub overflow_mul-st : goal.overflow_mul-st
overflow_mul-st c =
    let a = c.args in
    let room : HasRoom a.st.sizes a.area.now = c.if-area-area_length.false ∙ c.area_length.ensures in
    omega (arith, inside a.st a.area.now (sym c.valid.ensures ∙ c.if-not-valid.false) room, room)

pub part-requires : goal.part-requires
part-requires c =
    let a = c.args in
    let room : HasRoom a.st.sizes a.area.now = c.if-area-area_length.false ∙ c.area_length.ensures in
    omega (
      arith,
      inside a.st a.area.now (sym c.valid.ensures ∙ c.if-not-valid.false) room,
      c.point_place.ensures,
    )

pub returns : goal.returns
returns c =
    let a = c.args in
    let room : HasRoom a.st.sizes a.area.now = c.if-area-area_length.false ∙ c.area_length.ensures in
    rw c.point_place.ensures at c.part.ensures
    ∙ point_at_lem a.st a.area.now a.st.phase (sym c.valid.ensures ∙ c.if-not-valid.false) room refl
