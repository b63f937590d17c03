-- Which costs are ceilings.
use Rattle.search_core.proofs.Vocabulary.{ℕ, List, le_trans, total, Serving, IsServing, IsCeiling, TheLeastCostIsTheLeastCeiling, the_answer, answer_exists, none_costs_less}
use Rattle.search_core.proofs.OfProgram.{part, part_of_program, part_serves, part_costs_less}

-- what a serving set costs is a ceiling
pub costs_so : (s : Serving) (costs : List ℕ) → IsServing s → IsCeiling s.question costs (total costs s.gaps)
costs_so s costs serves = record {
  gaps = part s.question.program s.gaps;
  of_program = part_of_program s.question.program s.gaps;
  serves = part_serves s.question s.gaps serves.serves;
  within = part_costs_less s.question.program s.gaps costs;
}

-- what the answer costs is the least one
pub least_ceiling : TheLeastCostIsTheLeastCeiling
least_ceiling q costs cost forward = (
  (λ c. le_trans (none_costs_less q costs c.gaps forward c.of_program c.serves) c.within),
  (λ le. let is = answer_exists q costs forward in record { gaps = the_answer q costs; of_program = is.of_program; serves = is.serves; within = le }),
)
