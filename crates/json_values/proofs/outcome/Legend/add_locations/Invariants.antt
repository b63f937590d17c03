use Rattle.json_values.proofs.Vocabulary.{◌≡◌, ◌++◌, location_values}
use Rattle.json_values.proofs.outcome.Legend.add_locations.Given as goal

-- the items of the locations so far
abbrev pub invariant-loop-location : goal.invariant-loop-location
invariant-loop-location l = l.array ≡ l.initial.array ++ location_values l.self.names.now l.self.shown.now l.memory l.location
