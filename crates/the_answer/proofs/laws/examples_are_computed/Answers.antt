use Rattle.the_answer.proofs.ExamplesComputed.{r_is_answered, n6_is_answered, observed_n6_is_answered, locked_exchange_is_answered, both_gaps}
use Rattle.the_answer.proofs.Vocabulary.{ap, total, [], ◌∷◌, ◌∙◌, total-these}
use Rattle.the_answer.proofs.laws.examples_are_computed.Goals as goal

pub returns : goal.returns
returns c = record {
  store_buffering = (both_gaps, ap (total (1 ∷ 1 ∷ [])) (both_gaps (1 ∷ 1 ∷ [])) ∙ total-these (1 ∷ 1 ∷ []) (0 ∷ 1 ∷ []));
  r = r_is_answered;
  n6 = n6_is_answered;
  observed_n6 = observed_n6_is_answered;
  locked_exchange = locked_exchange_is_answered;
}
