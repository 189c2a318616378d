-- `decompose` meets its contract: the fields of the pattern, a field of 0 counted as 1.
use Rattle.interval.proofs.RootBits.{parts_zero, parts_more}
use Rattle.interval.proofs.root.decompose.Goals as goal

pub returns-then-field-eq0 : goal.returns-then-field-eq0
returns-then-field-eq0 c = parts_zero c.args.b c.requires.0 c.if-field-eq0.true

pub returns : goal.returns
returns c = parts_more c.args.b c.requires.1 c.if-field-eq0.false
