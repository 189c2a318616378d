-- `prepare_free` meets its contract: Q and the coefficients are copied, the correction and the directions are written
-- behind them, and how these two ended decides.
use Rattle.std.proofs.lemmas.Result.{err_from_is_err_and}
use mathlib.Core.Path.{◌≡◌, ap, ◌∙◌}
use Prim.Native.Nat.{ℕ, ◌≤◌}
use native.Mathlib.Omega.{arith}
use mathlib.Core.List.{List, [], ◌++◌}
use lib.Ieee.{Float}
use lib.ListN.{length, take, drop}
use Rattle.run.specs.declared.basis.Shape.{Shape}
use Rattle.run.specs.program.Basis.{basis_by, ForPreparing}
use Rattle.run.specs.program.Problem.{problem_in}
use Rattle.run.specs.Rows.{rows_in, value_at}
use Rattle.run.proofs.AreaLaws.{part_back, length_clear}
use Rattle.run.proofs.BasisLaws.{correction_reads}
use Rattle.run.proofs.Concatenation.{length_lent, four_written, fourth_clear}
use Rattle.run.proofs.EndingLaws.{cut_length}
use Rattle.run.proofs.StepLaws.{ready_uncorrected, ready_undirected, ready_framed, refused_few, ready_few}
use Rattle.run.proofs.step.prepare_free.Goals as goal

module _ {shape : Shape} {nq nc no : ℕ} {factors : List Float} (p : ForPreparing shape nq nc no factors) where
  few-independent : shape.r ≤ 12
  few-independent = omega (arith, p.few.rows, p.few.independent)

  clear-long : length factors ≡ 888
  clear-long = ap length p.clear ∙ length_clear 888

-- the correction, of which x are the factors before it is written in them
corrected : (x t : List Float) → length x ≡ 888 → length t ≡ length (take 24 (drop 576 x))
    → length t ≡ 24
corrected x t lx e = e ∙ cut_length 24 576 x (omega (arith, lx))

whole : (x t : List Float) → length x ≡ 888 → length t ≡ 24
    → length (take 576 x ++ (t ++ drop 24 (drop 576 x))) ≡ 888
whole x t lx lt = length_lent x t 576 24 lt (omega (arith, lx)) ∙ lx

pub free_directions-requires : goal.free_directions-requires
free_directions-requires c =
    let a = c.args in
    let p = c.requires in
    let x = c.write-2.new.area in
    let t = c.correction.new.delta in
    let lx : length x ≡ 888 = c.write-2.auto.area ∙ c.write.auto.area ∙ clear-long p in
    let lt : length t ≡ 24 = corrected x t lx c.correction.auto.delta in
    let e =
    fourth_clear a.factors.now a.q.now a.coefficients.now t p.vectors p.by_row lt c.write.ensures c.write-2.ensures
    (part_back x t 576 24 lt) p.clear in
    (p.few.variables, (few-independent p, e))

pub returns : goal.returns
returns c =
    let a = c.args in
    let p = c.requires in
    let f = c.free_directions in
    let x = c.write-2.new.area in
    let t = c.correction.new.delta in
    let lx : length x ≡ 888 = c.write-2.auto.area ∙ c.write.auto.area ∙ clear-long p in
    let lt : length t ≡ 24 = corrected x t lx c.correction.auto.delta in
    let y = take 576 x ++ (t ++ drop 24 (drop 576 x)) in
    let z = f.new.z in
    let lz : length z ≡ 288 = f.auto.z ∙ cut_length 288 600 y (omega (arith, whole x t lx lt)) in
    let e =
    four_written a.factors.now a.q.now a.coefficients.now t z p.vectors p.by_row lt lz (clear-long p)
    c.write.ensures c.write-2.ensures (part_back x t 576 24 lt) (part_back y z 600 288 lz) in
    let b = basis_by a.shape.r a.q.now [] a.coefficients.now a.dependent.now a.order.now in (
      (λ h g.
          let Q = problem_in a.shape.k a.shape.m (value_at (rows_in a.xs.now a.c)) [] [] h g in
          ready_framed Q b t z (c.correction.ensures ∙ correction_reads Q b) c.in_ok-correction.was f.ensures _
          c.in_ok-free.was p.vectors p.by_row lt lz e),
      ready_few a.shape.k a.shape.r a.q.now z p.few.variables (few-independent p) c.in_ok-free.was f.ensures,
    )

pub returns-in_err-correction : goal.returns-in_err-correction
returns-in_err-correction c =
    let a = c.args in
    let b = basis_by a.shape.r a.q.now [] a.coefficients.now a.dependent.now a.order.now in
    let p = err_from_is_err_and c.from_residual.result c.from_residual.ensures.1 in
    rw (p.1, p.2) (
      (λ h g.
          let Q = problem_in a.shape.k a.shape.m (value_at (rows_in a.xs.now a.c)) [] [] h g in
          ready_uncorrected Q b c.correction.new.delta [] (c.correction.ensures ∙ correction_reads Q b)
          c.in_err-correction.was),
      refused_few,
    )

pub returns-in_err-free : goal.returns-in_err-free
returns-in_err-free c =
    let a = c.args in
    let f = c.free_directions in
    let b = basis_by a.shape.r a.q.now [] a.coefficients.now a.dependent.now a.order.now in
    let p = err_from_is_err_and c.from_residual-in_err-free.result c.from_residual-in_err-free.ensures.1 in
    rw (p.1, p.2) (
      (λ h g.
          let Q = problem_in a.shape.k a.shape.m (value_at (rows_in a.xs.now a.c)) [] [] h g in
          ready_undirected Q b c.correction.new.delta f.new.z (c.correction.ensures ∙ correction_reads Q b)
          c.in_ok-correction.was f.ensures c.in_err-free.was),
      refused_few,
    )
