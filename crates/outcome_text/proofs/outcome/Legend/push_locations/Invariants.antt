use Rattle.outcome_text.proofs.Vocabulary.{◌≡◌, ◌++◌, texts, location_items}
use Rattle.outcome_text.proofs.outcome.Legend.push_locations.Given as goal

-- the items of the locations so far
abbrev pub invariant-loop-location : goal.invariant-loop-location
invariant-loop-location l = texts l.items.items ≡ texts l.initial.items.items ++ location_items l.self.names.now l.self.shown.now l.memory l.location
