use Rattle.std.proofs.Common.{◌≡◌, take, map, length}
use Rattle.std.specs.Prelude.{filter, nat_lt, string_bytes}
use Rattle.program_streams.proofs.words.line_words.Given as goal

-- the words so far are the parts so far that are not empty
abbrev pub invariant-loop-part : goal.invariant-loop-part
invariant-loop-part l = map string_bytes l.words.items ≡ filter (λ word. nat_lt 0 (length word)) (map (λ part. part.now) (take l.part-index l.part-items))
