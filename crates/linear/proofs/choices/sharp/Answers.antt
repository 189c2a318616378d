-- `sharp` meets its contract: each check decides one of the definition's.
use borrow.Author.Tests.{le-leb, lt-leb, eq-eqb, ne_eqb}
use Rattle.linear.specs.Calls.{sharp_reply}
use Rattle.linear.proofs.choices.sharp.Goals as goal

pub returns-then-n-gt24 : goal.returns-then-n-gt24
unfolding sharp_reply
returns-then-n-gt24 c = rw (lt-leb _ _ c.if-n-gt24.true)

pub returns-then-v-n : goal.returns-then-v-n
unfolding sharp_reply
returns-then-v-n c = rw (le-leb _ _ c.if-n-gt24.false, ne_eqb _ _ c.if-v-n.true)

pub returns-then-out-n : goal.returns-then-out-n
unfolding sharp_reply
returns-then-out-n c =
    rw (le-leb _ _ c.if-n-gt24.false, eq-eqb _ _ c.if-v-n.false, ne_eqb _ _ c.if-out-n.true)

pub returns : goal.returns
unfolding sharp_reply
returns c =
    rw (
      le-leb _ _ c.if-n-gt24.false,
      eq-eqb _ _ c.if-v-n.false,
      eq-eqb _ _ c.if-out-n.false,
      ← c.sharp_into.ensures,
    )
