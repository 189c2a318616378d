-- What serves the reader's private functions: what they return, in a text.
use Rattle.std.specs.Prelude.{ℕ, ◌*◌, List, ℤ, take, Result, Ok, Err}
use Rattle.interval.specs.Result.{Res, ok, refused}
use Rattle.sheet.specs.Fault.{fault_number}
use Rattle.sheet.specs.Sheet as definition
use Rattle.sheet.specs.Text.{Part, part}
use Rattle.sheet.specs.declared.fault.Fault.{Fault}
use Rattle.sheet.specs.declared.sheet.Kind.{Kind}
use Rattle.sheet.specs.declared.sheet.Points.{Points}
use Rattle.sheet.specs.declared.sheet.Rule.{Rule}
use Rattle.sheet.specs.declared.sheet.Rules.{Rules}
use Rattle.sheet.specs.declared.sheet.Sheet.{Sheet}
use Rattle.sheet.specs.program.Text.{read_by}

-- what is in use of an array
abbrev pub coordinates_in : Points → List ℤ
coordinates_in p = take (2 * p.count) p.coordinates

abbrev pub list_in : Rules → List Rule
list_in r = take r.count r.list

abbrev pub sheet_by : Sheet → definition.Sheet
sheet_by s = record {
  coordinates = coordinates_in s.points;
  limit = s.limit;
  reach = s.reach;
  rules = list_in s.rules;
}

-- with the place behind them
abbrev pub points_in : List ℕ → Result (Points × ℕ) Fault → Res (Part (List ℤ))
points_in = read_by coordinates_in

abbrev pub rules_in : List ℕ → Result (Rules × ℕ) Fault → Res (Part (List Rule))
rules_in = read_by list_in

abbrev pub sheet_in : List ℕ → Result (Sheet × ℕ) Fault → Res (Part definition.Sheet)
sheet_in = read_by sheet_by

-- without a place: the whole text was read
abbrev pub whole_sheet_in : Result Sheet Fault → Res definition.Sheet
whole_sheet_in (Ok s) = ok (sheet_by s)
whole_sheet_in (Err e) = refused (fault_number e)

-- a rule of the kind between two points, without a length
abbrev pub aligned_by : Kind → Part (ℕ × ℕ) → Res (Part Rule)
aligned_by kind p =
    ok (part (record { kind = kind; first = p.value.0; second = p.value.1; length = 0 }) p.rest)
