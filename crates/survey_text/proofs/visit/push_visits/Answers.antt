use Rattle.survey_text.proofs.Vocabulary.{◌+◌, List, ◌++◌, sym, subst, AreVisits, first_places, Visit}
use Rattle.survey_text.proofs.Visited.{next_visit}
use Rattle.survey_text.proofs.visit.push_visits.Goals as goal

pub loop-k-preserved : goal.loop-k-preserved
loop-k-preserved c = λ before are.
    subst (λ (visits : List Visit). AreVisits c.args.states.now (before ++ first_places c.args.t (c.loop-k.k + 1)) visits) (sym c.in_ok-push.ensures.items)
    (next_visit c.args.states.now before c.args.t c.loop-k.k c.in_ok-found.found c.loop-k.visits.items (c.loop-k.invariant before are) c.in_ok-found.ensures)
