use Rattle.sequential_states.proofs.Vocabulary.{◌∙◌, inr, subst, HasEach}
use Rattle.sequential_states.proofs.worklist.Worklist.is_enough.Goals as goal

pub returns-then-is_power_of_two-clause-enough : goal.returns-then-is_power_of_two-clause-enough
returns-then-is_power_of_two-clause-enough c = λ found. inr (subst (HasEach c.args.program.now) (c.as_slice.ensures.value ∙ c.self.view_is) (c.has_each.ensures found))
