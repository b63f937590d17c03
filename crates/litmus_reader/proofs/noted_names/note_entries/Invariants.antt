use Rattle.litmus_reader.proofs.Vocabulary.{◌≡◌, map, take, fold, entry_view, noted, entry_place}
use Rattle.litmus_reader.proofs.noted_names.note_entries.Given as goal

-- the places of the entries so far are noted
abbrev pub invariant-loop-entry : goal.invariant-loop-entry
invariant-loop-entry l = l.names ≡ fold noted l.initial.names (map entry_place (map entry_view (take l.entry-index l.entries)))
