-- `decimal` meets its contract: the digits from the place `first` on are stored, and the rest has those before.
use Rattle.sheet.proofs.DecimalLaws.{Stored}
use Rattle.sheet.proofs.lines.decimal.Given as goal

abbrev pub invariant-loop-rest : goal.invariant-loop-rest
invariant-loop-rest l = Stored l.v l.digits l.rest l.first

abbrev pub decreases-loop-rest : goal.decreases-loop-rest
decreases-loop-rest l = l.first
