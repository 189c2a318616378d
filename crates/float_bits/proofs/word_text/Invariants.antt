-- `word_text` meets its contract: the digits from the i-th on are stored, and the rest has those before.
use mathlib.Core.Path.{refl}
use native.Mathlib.Omega.{arith}
use borrow.Author.Rules.{rules}
use Rattle.float_bits.proofs.WordLaws.{Stored, stored_none, stored_more, stored_all}
use Rattle.float_bits.proofs.word_text.Given as goal

abbrev pub invariant-loop-i : goal.invariant-loop-i
invariant-loop-i l = Stored l.word l.text l.rest l.i

abbrev pub decreases-loop-i : goal.decreases-loop-i
decreases-loop-i l = l.i
