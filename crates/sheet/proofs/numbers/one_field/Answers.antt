-- `one_field` meets its contract: a field that ends its line.
use Rattle.sheet.specs.Numbers.{one_of}
use Rattle.sheet.proofs.numbers.one_field.Goals as goal

pub returns : goal.returns
unfolding one_of
returns c = c.field.ensures
