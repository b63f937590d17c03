use Rattle.litmus_text.proofs.Vocabulary.{◌≡◌, ◌++◌, map, flat_map, range_with_len, text_of, entry_pieces, location_entry}
use Rattle.litmus_text.proofs.entries.push_locations.Given as goal

-- the locations so far
abbrev pub invariant-loop-location : goal.invariant-loop-location
invariant-loop-location l = l.out.items ≡ l.initial.out.items ++ text_of (flat_map entry_pieces (map (location_entry l.names.locations l.memory) (range_with_len 0 l.location)))
