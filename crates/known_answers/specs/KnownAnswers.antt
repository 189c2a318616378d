-- PROTOCOL, Known answers: P1 to P13 in one table, over the definitions that the contracts cite. Bit patterns are
-- hexadecimal.
use Rattle.std.specs.Prelude.{ℕ, ◌+◌, ◌*◌, ◌≡◌, true, false, List, [], ℤ, pos, negsuc, Float, length}
use Rattle.std.specs.Float.{inf, binary64}
use Rattle.std.specs.Float.Ieee.{of_bits, of_int}
use Rattle.interval.specs.declared.Scalar.{Scalar}
use Rattle.interval.specs.Step.{next_up, next_down}
use Rattle.interval.specs.Result.{ok, refused}
use Rattle.interval.specs.Scalar.{sqrt_of, could_be_equal, definitely_less, definitely_greater}
use Rattle.linear.specs.Choose.{choose_of}
use Rattle.linear.specs.Flat.{zeros}
use Rattle.run.specs.Area.{HasRoom}
use Rattle.run.specs.Rows.{row_numbers, row_counts}
use Rattle.run.specs.Calls.{AfterCall, Accepted, begin_of, reply_of, reply_none_of}
use Rattle.run.specs.Checks.{sizes_fit, constraints_fit, all_in_domain}
use Rattle.run.specs.Damping.{first_mu}
use Rattle.run.specs.declared.state.Event.{Event}
use Rattle.run.specs.declared.state.Event.TheVariants.{Finish}
use Rattle.run.specs.declared.state.Sizes.{Sizes}
use Rattle.run.specs.declared.state.Stop.TheVariants as stop

-- the float of these bits, the scalar whose ends they are, and the scalar between two whole numbers
abbrev pub float : ℕ → Float
float b = of_bits binary64 b

abbrev pub bits : ℕ → ℕ → Scalar
bits l h = record { lo = float l; hi = float h }

abbrev pub between : ℤ → ℤ → Scalar
between l h = record { lo = of_int binary64 l; hi = of_int binary64 h }

abbrev pub sizes : ℕ → ℕ → ℕ → Sizes
sizes n s limit = record { n = n; s = s; limit = limit }

-- what a begun run answers to the start's rows, m constraint rows among them, and to none
abbrev pub answer_to : AfterCall → ℕ → List Float → Event
answer_to b m rows = (reply_of b.state b.area m rows).event

abbrev pub answer_to_none : AfterCall → Event
answer_to_none b = (reply_none_of b.state b.area).event

-- of a scalar
pub record OfScalars : Type 0 where
  -- P1 `next_up`(−0) is bits 1
  pub p1 : next_up (float 0x8000_0000_0000_0000) ≡ float 1
  -- P2 `next_down`(+infinity) is 7FEFFFFFFFFFFFFF
  pub p2 : next_down (inf false) ≡ float 0x7FEF_FFFF_FFFF_FFFF
  -- P3 root of [4,4]: 3FFFFFFFFFFFFFFF, 4000000000000001
  pub p3 : sqrt_of (between (pos 4) (pos 4)) ≡ ok (bits 0x3FFF_FFFF_FFFF_FFFF 0x4000_0000_0000_0001)
  -- P4 root of [0,0]: 8000000000000001, 1
  pub p4 : sqrt_of (between (pos 0) (pos 0)) ≡ ok (bits 0x8000_0000_0000_0001 1)
  -- P5 root of [−1,4]: 8000000000000001, 4000000000000001
  pub p5 : sqrt_of (between (negsuc 0) (pos 4)) ≡ ok (bits 0x8000_0000_0000_0001 0x4000_0000_0000_0001)
  -- P6 root of [−2,−1]: refusal 5
  pub p6 : sqrt_of (between (negsuc 1) (negsuc 0)) ≡ refused 5
  -- P7 `choose` [0,2]: +0
  pub p7 : choose_of (between (pos 0) (pos 2)) ≡ bits 0 0
  -- P8 `choose` [1,3]: 2
  pub p8 : choose_of (between (pos 1) (pos 3)) ≡ between (pos 2) (pos 2)
  -- P9 [1,2] against [2,3]: could be equal, neither definitely
  pub p9 :
      let x = between (pos 1) (pos 2) in
      let y = between (pos 2) (pos 3) in
      (could_be_equal x y ≡ true) × ((definitely_less x y ≡ false) × (definitely_greater x y ≡ false))

-- of a begin
pub record OfBegin : Type 0 where
  -- runs begin: from zero, with steps up to 1, in any area that has room for them
  pub accepted :
      (n s limit : ℕ) (a : List Float) →
      sizes_fit (sizes n s limit) ≡ true → HasRoom (sizes n s limit) a
      → Accepted (begin_of (sizes n s limit) (zeros (2 * n)) (between (pos 1) (pos 1)) a)
  -- P10 first mu: ends 3F50624DD2F1A9FB, 3F50624DD2F1A9FD; it is the mu of every run that begins
  pub p10 :
      let mu = bits 0x3F50_624D_D2F1_A9FB 0x3F50_624D_D2F1_A9FD in
      (first_mu ≡ mu)
      × ((z : Sizes) (start : List Float) (max : Scalar) (a : List Float) →
      let b = begin_of z start max a in
      Accepted b → b.state.search.mu ≡ mu)

-- of the start's answer; `Finish` has the stop, the iterations, the turn-downs and the standing number
pub record OfReply : Type 0 where
  -- P11 start none, limit 0: Infeasible, 0, 0
  pub p11 :
      (n s : ℕ) (start : List Float) (max : Scalar) (a : List Float) →
      let b = begin_of (sizes n s 0) start max a in
      Accepted b → answer_to_none b ≡ Finish stop.Infeasible 0 0 0
  -- P12 start answered, limit 0: Budget; with all rows that are in the domain
  pub p12 :
      (n m s : ℕ) (start : List Float) (max : Scalar) (a rows : List Float) →
      let b = begin_of (sizes n s 0) start max a in
      Accepted b → constraints_fit m ≡ true →
      length rows ≡ row_numbers (row_counts (sizes n s 0) m) → all_in_domain rows ((m + s) * (n + 1)) ≡ true
      → answer_to b m rows ≡ Finish stop.Budget 0 0 0
  -- P13 n = m = s = 0, limit 5: Flat, 0 independent, 0 iterations
  pub p13 :
      (start : List Float) (max : Scalar) (a : List Float) →
      let b = begin_of (sizes 0 0 5) start max a in
      Accepted b → answer_to b 0 [] ≡ Finish (stop.Flat 0 0) 0 0 0

-- the table
pub record KnownAnswers : Type 0 where
  pub of_scalars : OfScalars
  pub of_begin : OfBegin
  pub of_reply : OfReply
