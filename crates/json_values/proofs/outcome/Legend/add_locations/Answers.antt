use Rattle.json_values.proofs.Vocabulary.{ℕ, List, ◌++◌, get_or, ap, ◌∙◌, flat_range_more, location_value}
use Rattle.json_values.proofs.outcome.Legend.add_locations.Goals as goal

pub loop-location-preserved : goal.loop-location-preserved
loop-location-preserved c =
    let items : ℕ → List (List ℕ) = λ l. location_value c.args.self.now.names.now c.args.self.now.shown.now l (get_or c.args.memory.now l 0) in
    c.in_ok-add_location.ensures
    ∙ ap (λ (ts : List (List ℕ)). ts ++ items c.loop-location.location) c.loop-location.invariant
    ∙ flat_range_more items c.args.array.now c.loop-location.location
