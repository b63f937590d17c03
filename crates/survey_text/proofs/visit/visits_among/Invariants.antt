use Rattle.survey_text.proofs.Vocabulary.{flat_map, range_with_len, AreVisits, thread_places}
use Rattle.survey_text.proofs.visit.visits_among.Given as goal

-- the instructions of the threads so far are added
abbrev pub invariant-loop-t : goal.invariant-loop-t
invariant-loop-t l = AreVisits l.program (flat_map (thread_places l.program.threads) (range_with_len 0 l.t)) l.visits.items
