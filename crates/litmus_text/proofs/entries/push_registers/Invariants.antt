use Rattle.litmus_text.proofs.Vocabulary.{◌≡◌, ◌++◌, drop, flat_map, text_of, entry_pieces, register_entries}
use Rattle.litmus_text.proofs.entries.push_registers.Given as goal

-- what is written and what is left are the whole
abbrev pub invariant-loop-t : goal.invariant-loop-t
invariant-loop-t l =
    l.out.items ++ text_of (flat_map entry_pieces (register_entries l.names l.t (drop l.t l.threads)))
    ≡ l.initial.out.items ++ text_of (flat_map entry_pieces (register_entries l.names 0 l.threads))
