use Rattle.survey_text.proofs.Vocabulary.{ℕ, List, [], subst, flat_map, range_with_len, flat_range_more, AreVisits, thread_places}
use Rattle.survey_text.proofs.visit.visits_among.Goals as goal

pub loop-t-preserved : goal.loop-t-preserved
loop-t-preserved c =
    let p = c.args.program.now in
    let t = c.loop-t.t in
    let before = flat_map (thread_places p.threads) (range_with_len 0 t) in
    subst (λ (places : List (ℕ × ℕ)). AreVisits p places c.push_visits.new.visits.items) (flat_range_more (thread_places p.threads) [] t)
    (rw (c.requires, c.code_len.ensures) at (c.in_ok-push_visits.ensures before (rw c.requires c.loop-t.invariant)))
