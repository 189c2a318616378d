-- What serves the functions over rows: rules that name two of at most 6 points, and lengths in range.
use Rattle.std.specs.Prelude.{ℕ, ◌<◌, ◌≤◌}
use Rattle.sheet.specs.Rows.{rule_at}
use Rattle.sheet.specs.Sheet.{most_points, most_rules, most_length}
use Rattle.sheet.specs.declared.sheet.Rule.{Rule}
use Rattle.sheet.specs.declared.sheet.Rules.{Rules}

pub record Near (r : Rule) : Type 0 where
  pub first : r.first < most_points
  pub second : r.second < most_points
  pub length : r.length ≤ most_length

-- at most as many rules as the array has, each of them near
pub record FewNear (rules : Rules) : Type 0 where
  pub few : rules.count ≤ most_rules
  pub near : (k : ℕ) → k < rules.count → Near (rule_at rules.list k)
