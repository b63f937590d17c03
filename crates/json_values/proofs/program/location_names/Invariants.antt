use Rattle.json_values.proofs.Vocabulary.{◌≡◌, map, take, quoted}
use Rattle.json_values.proofs.program.location_names.Given as goal

-- the names so far
abbrev pub invariant-loop-number : goal.invariant-loop-number
invariant-loop-number l = l.array ≡ map quoted (take l.number l.names.locations)
