-- `behind_key` meets its contract: what is left of the key must stand at the place reached.
use mathlib.Core.Path.{◌≡◌}
use lib.ListN.{drop}
use Rattle.sheet.specs.Text.{behind_key}
use Rattle.sheet.proofs.text.behind_key.Given as goal

abbrev pub invariant-loop-b : goal.invariant-loop-b
invariant-loop-b l = behind_key l.key (drop l.at l.text) ≡ behind_key (drop l.b-index l.key) (drop l.place l.text)
