-- What is placed.
use Rattle.std.specs.Prelude.{◌≡◌, ℕ, List}
use Rattle.gap_sets.specs.Order.{total}
use Rattle.tso_program.specs.declared.question.Question.{Question}
use Rattle.tso_machine.specs.Outcomes.{Headline, IsTheAnswer}
use Rattle.cert_forest.specs.Certificates.{Certificate}
use Rattle.tree_laws.specs.Certificates.{names_of}
use Rattle.cert_check.specs.Headlines.{HeadlineOfAllowed}
use Rattle.search_core.specs.Answers.{the_answer, least_cost}
use Rattle.fence_place.specs.Proofs.{IsProof}
use Rattle.fence_place.specs.Recorded.{AreDistinct}

module _ (q : Question) (costs : List ℕ) where
  -- the names of the certificate's set are the answer, so the headline holds of them, and of its gaps among sets that have of each tie all or none; the certificate proves it, with its cost, and has each run once
  pub record IsPlacement (c : Certificate) : Type 0 where
    pub headline : Headline q costs (names_of q c)
    pub cost : c.cost ≡ total costs (names_of q c)
    pub best : names_of q c ≡ the_answer q costs
    pub least : c.cost ≡ least_cost q costs
    pub answer : IsTheAnswer q costs (names_of q c)
    pub fenced : HeadlineOfAllowed q costs c.gaps
    pub proof : IsProof q costs c
    pub once : AreDistinct c.runs
