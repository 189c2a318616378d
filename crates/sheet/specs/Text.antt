-- A text as a list of bytes, and how it is read from its front (request (i)): a part is what was read and what follows
-- it.
use Rattle.std.specs.Prelude.{ℕ, List, [], ◌∷◌, eqb, get_or}
use Rattle.interval.specs.Result.{Res, ok, refused}
use Rattle.linear.specs.Replies.{checked_value}
use Rattle.linear.specs.Results.{bind}

pub record Part (A : Type 0) : Type 0 where
  pub value : A
  pub rest : List ℕ

abbrev pub part : {A : Type 0} → A → List ℕ → Part A
part value rest = record { value = value; rest = rest }

-- the refusal of a slice of the wrong length
abbrev pub wrong_length : ℕ
wrong_length = 2

-- error 7: a line missing, surplus or malformed
abbrev pub MALFORMED : ℕ
MALFORMED = 7

-- the first byte; at the end 0, which no sheet has
abbrev pub head : List ℕ → ℕ
head text = get_or text 0 0

-- behind a byte that must stand here
unfoldable pub behind : ℕ → List ℕ → Res (List ℕ)
behind b [] = refused MALFORMED
behind b (c ∷ text) = checked_value (eqb c b) MALFORMED (ok text)

-- behind a key, all of which must stand here
unfoldable pub behind_key : List ℕ → List ℕ → Res (List ℕ)
behind_key [] text = ok text
behind_key (b ∷ key) text = bind (behind b text) (behind_key key)
