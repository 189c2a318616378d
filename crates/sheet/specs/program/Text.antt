-- What serves the reader's private functions: what was read with the place behind it, or the fault.
use Rattle.std.specs.Prelude.{ℕ, List, drop, Result, Ok, Err}
use Rattle.interval.specs.Result.{Res, ok, refused}
use Rattle.sheet.specs.Fault.{fault_number}
use Rattle.sheet.specs.Text.{Part, part}
use Rattle.sheet.specs.declared.fault.Fault.{Fault}

-- what stands from the place on
abbrev pub rest_at : List ℕ → Result ℕ Fault → Res (List ℕ)
rest_at text (Ok i) = ok (drop i text)
rest_at text (Err e) = refused (fault_number e)

-- what a value says, and what stands behind it in a text
abbrev pub read_by : {A B : Type 0} → (A → B) → List ℕ → Result (A × ℕ) Fault → Res (Part B)
read_by f text (Ok x) = ok (part (f x.0) (drop x.1 text))
read_by f text (Err e) = refused (fault_number e)

abbrev pub read_in : {A : Type 0} → List ℕ → Result (A × ℕ) Fault → Res (Part A)
read_in text (Ok x) = ok (part x.0 (drop x.1 text))
read_in text (Err e) = refused (fault_number e)
