use Rattle.known_answers.proofs.KnownAnswers.{known_answers}
use Rattle.known_answers.proofs.defined.Goals as goal

pub returns : goal.returns
returns c = known_answers
