-- `word_text` meets its contract: the digits from the i-th on are stored, and the rest has those before.
use mathlib.Core.Path.{refl}
use native.Mathlib.Omega.{arith}
use borrow.Author.Rules.{rules}
use Rattle.float_bits.proofs.WordLaws.{Stored, stored_none, stored_more, stored_all}
use Rattle.float_bits.proofs.word_text.Goals as goal

pub loop-i-init : goal.loop-i-init
loop-i-init c = stored_none _ _ refl refl

pub loop-i-preserved : goal.loop-i-preserved
loop-i-preserved c = stored_more c.loop-i.invariant (omega arith) c.digit.ensures

pub returns : goal.returns
returns c = stored_all c.loop-i.invariant (omega arith)
