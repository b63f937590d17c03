use Rattle.outcome_text.proofs.Vocabulary.{ℕ, List, ◌++◌, get_or, ap, ◌∙◌, texts, shown_item}
use Rattle.outcome_text.proofs.Joined.{flat_range_more}
use Rattle.outcome_text.proofs.outcome.Legend.push_locations.Goals as goal

pub loop-location-preserved : goal.loop-location-preserved
loop-location-preserved c =
    let items : ℕ → List (List ℕ) = λ l. shown_item c.args.self.now.names.now c.args.self.now.shown.now l (get_or c.args.memory.now l 0) in
    c.in_ok-push_location.ensures
    ∙ ap (λ (ts : List (List ℕ)). ts ++ items c.loop-location.location) c.loop-location.invariant
    ∙ flat_range_more items (texts c.args.items.now.items) c.loop-location.location
