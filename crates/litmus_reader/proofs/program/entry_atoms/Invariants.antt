use Rattle.litmus_reader.proofs.Vocabulary.{◌≡◌, map, take, entry_view, byte_in, entry_atoms}
use Rattle.litmus_reader.proofs.program.entry_atoms.Given as goal

-- what the entries so far say
abbrev pub invariant-loop-entry : goal.invariant-loop-entry
invariant-loop-entry l = l.atoms.items ≡ entry_atoms (byte_in l.names.locations) (map entry_view (take l.entry-index l.entries))
