use Rattle.candidate_executions.proofs.Vocabulary.{refl}
use Rattle.candidate_executions.proofs.laws.runs_show_their_marks.Goals as goal

pub returns : goal.returns
returns c = record { stores_wait = refl; in_turns = refl; own_store = refl; exchange = refl }
