-- `play` meets its contract: the loop keeps what is left to play, and where no code is left this is the fold, of which
-- demand 3 speaks.
use Prim.Native.Nat.{◌-◌}
use mathlib.Core.Path.{◌≡◌, refl}
use native.Mathlib.Omega.{arith}
use lib.ListN.{length}
use Rattle.call_list.specs.CallList.{call_result_of}
use Rattle.call_list.proofs.FoldLaws.{Playing, playing, play_more}
use Rattle.call_list.proofs.DemandLaws.{play_ends}
use Rattle.call_list.proofs.play.Goals as goal

pub begin-out-requires : goal.begin-out-requires
begin-out-requires c = tt

pub loop-i-init : goal.loop-i-init
loop-i-init c = (playing _ _ _ _, refl)

pub offset_bounds-codes-i : goal.offset_bounds-codes-i
offset_bounds-codes-i c = omega (
  arith,
  c.loop-i-test.true,
  c.well_formed,
)

pub bounds-codes-i : goal.bounds-codes-i
bounds-codes-i c = c.loop-i-test.true

pub end_of-end-requires : goal.end_of-end-requires
end_of-end-requires c = c.loop-i.invariant.0.within

pub constraints_of-requires : goal.constraints_of-requires
constraints_of-requires c = tt

pub offset_bounds-numbers-at : goal.offset_bounds-numbers-at
offset_bounds-numbers-at c = omega (
  arith,
  c.loop-i.invariant.0.within,
  c.well_formed,
)

pub slice_bounds-call-count : goal.slice_bounds-call-count
slice_bounds-call-count c = omega (arith, c.end_of-end.ensures)

pub call-out-requires : goal.call-out-requires
call-out-requires c = tt

pub overflow_add-i : goal.overflow_add-i
overflow_add-i c = omega (
  arith,
  c.loop-i-test.true,
  c.well_formed,
)

pub loop-i-smaller : goal.loop-i-smaller
loop-i-smaller c = omega (arith, c.loop-i-test.true)

pub loop-i-preserved : goal.loop-i-preserved
loop-i-preserved c = (
  play_more c.loop-i.invariant.0 _ _ _
      c.loop-i-test.true
      c.end_of-end.ensures
      c.constraints_of.ensures c.call-out.ensures,
  omega (
    arith,
    c.call-out.auto.area,
    c.loop-i.invariant.1,
  ),
)

pub shape_of-area : goal.shape_of-area
shape_of-area c =
    omega (arith, c.loop-i.invariant.1, c.begin-out.auto.area)

pub returns : goal.returns
returns c =
    let a = c.args in
    play_ends (record { n = a.n; s = a.s; limit = a.limit }) a.start.now
    a.max_step a.area.now a.codes.now a.ms.now a.numbers.now
    c.begin-out.result
    c.begin-out.new.area
    c.begin-out.ensures c.loop-i.invariant.0 c.loop-i-test.false
    c.type_inv.numbers
