use Rattle.tso_machine.proofs.Vocabulary.{start}
use Rattle.tso_machine.proofs.Avoided.{run_fenced, run_avoids}
use Rattle.tso_machine.proofs.laws.fences_are_avoided.Goals as goal

pub returns : goal.returns
returns c = λ p gaps labels last r. ((λ f. run_avoids p gaps labels (start p) last f), (λ a. run_fenced p gaps labels (start p) last r a))
