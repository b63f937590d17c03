use Rattle.hunt_board.proofs.Vocabulary.{◌≡◌, ◌≤◌, ◌∙◌, ap, sym, subst, IsWithinLimits, Serving, problem, goal_of, total, costs_so, least_ceiling}
use Rattle.hunt_board.proofs.word.CeilingWord.lower.Goals as goal

pub lower_to-requires-clause-goal : goal.lower_to-requires-clause-goal
lower_to-requires-clause-goal c =
    let s : Serving = c.args.served.now in
    let costs = c.args.costs.now in
    let within : IsWithinLimits s.question.program.threads s.question.program.memory = subst (λ p. IsWithinLimits p.threads p.memory) c.program-program.ensures.value c.recall_facts.ensures.within in
    let least : goal_of (problem s.question costs) ≤ total costs s.gaps =
    (least_ceiling s.question costs (total costs s.gaps) within.shared.forward_jumps).0 (costs_so s costs c.program-program.ensures.serving) in
    let to : c.total-to.result ≡ total costs s.gaps = c.total-to.ensures.value ∙ ap (total costs) c.set.ensures in
    subst (λ n. goal_of c.args.self.now.problem ≤ n) (sym to) (subst (λ k. goal_of k ≤ total costs s.gaps) (sym c.requires.problem) least)
