use Rattle.hunt_board.proofs.Vocabulary.{◌≤◌, ℕ, List, Option, Some, None, IfSome, subst, Question, least_ceiling, goal_of, JumpForward, IsCeiling, problem}
use Rattle.hunt_board.proofs.word.CeilingWord.ceiling.Goals as goal

-- what isn't below the answer's cost is a ceiling
as_ceiling : (q : Question) (costs : List ℕ) (o : Option ℕ) → JumpForward q.program.threads → IfSome o (λ cost. goal_of (problem q costs) ≤ cost) → IfSome o (IsCeiling q costs)
as_ceiling q costs None forward above = above
as_ceiling q costs (Some cost) forward above = (least_ceiling q costs cost forward).1 above

pub at-requires : goal.at-requires
at-requires c =
    let q = c.args.question.now in
    as_ceiling q c.args.costs.now c.load.result c.recall_facts.ensures.within.shared.forward_jumps
    (subst (λ p. IfSome c.load.result (λ cost. goal_of p ≤ cost)) c.requires.problem c.load.ensures.goal)
