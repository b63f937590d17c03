use Rattle.litmus_text.proofs.Vocabulary.{◌≡◌, ◌++◌, take, flat_map, text_of, all_registers, entry_pieces, named_entry}
use Rattle.litmus_text.proofs.entries.push_thread.Given as goal

-- the named registers so far
abbrev pub invariant-loop-register : goal.invariant-loop-register
invariant-loop-register l = l.out.items ≡ l.initial.out.items ++ text_of (flat_map entry_pieces (flat_map (named_entry l.names l.thread l.values) (take l.register-index all_registers)))
