use Rattle.json_text.proofs.Vocabulary.{◌≡◌, ◌++◌, take, flat_map, escaped}
use Rattle.json_text.proofs.escape.push_quoted.Given as goal

-- the bytes so far
abbrev pub invariant-loop-byte : goal.invariant-loop-byte
invariant-loop-byte l = l.out.items ≡ l.initial.out.items ++ flat_map escaped (take l.byte-index l.text)
