use Rattle.survey_text.proofs.Vocabulary.{ℕ, List, ◌++◌, AreVisits, first_places}
use Rattle.survey_text.proofs.visit.push_visits.Given as goal

-- the instructions so far are added
abbrev pub invariant-loop-k : goal.invariant-loop-k
invariant-loop-k l = (before : List (ℕ × ℕ)) → AreVisits l.states before l.initial.visits.items → AreVisits l.states (before ++ first_places l.t l.k) l.visits.items
