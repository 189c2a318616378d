-- The ranges of a sheet (request (i)): 1 to 6 points, coordinates of a size of at most 10,000,000, at most 200
-- iterations, a reach from 1 to 10,000,000, and at most 12 rules, each between two points that are present: spans with
-- a length from 1 to 10,000,000, and others without.
use Rattle.std.specs.Prelude.{ℕ, ◌*◌, ◌<◌, ◌≤◌, ◌≢◌, ◌≡◌, pos, nat_abs}
use Rattle.std.proofs.Math.ListN as list
use Rattle.sheet.specs.Rows.{rule_at}
use Rattle.sheet.specs.Sheet.{Sheet, most_points, most_iterations, most_rules, most_length}
use Rattle.sheet.specs.declared.sheet.Kind.TheVariants.{Span}
use Rattle.sheet.specs.declared.sheet.Rule.{Rule}

pub record RuleInRange (points : ℕ) (r : Rule) : Type 0 where
  pub first : r.first < points
  pub second : r.second < points
  pub distinct : r.first ≢ r.second
  pub length : r.length ≤ most_length
  pub some_length : r.kind ≡ Span → 1 ≤ r.length
  pub no_length : r.kind ≢ Span → r.length ≡ 0

pub record InRange (s : Sheet) : Type 0 where
  pub points : ℕ
  pub even : list.length s.coordinates ≡ 2 * points
  pub some_points : 1 ≤ points
  pub few_points : points ≤ most_points
  pub near : (i : ℕ) → i < list.length s.coordinates → nat_abs (list.get_or s.coordinates i (pos 0)) ≤ most_length
  pub few_iterations : s.limit ≤ most_iterations
  pub some_reach : 1 ≤ s.reach
  pub small_reach : s.reach ≤ most_length
  pub few_rules : list.length s.rules ≤ most_rules
  pub rules : (k : ℕ) → k < list.length s.rules → RuleInRange points (rule_at s.rules k)
