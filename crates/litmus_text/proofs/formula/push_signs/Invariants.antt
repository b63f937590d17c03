use Rattle.litmus_text.proofs.Vocabulary.{◌≡◌, ◌++◌, take, map, flat_map, text_of, sign_of_token, sign_pieces, sign_named}
use Rattle.litmus_text.proofs.formula.push_signs.Given as goal

-- the signs so far
abbrev pub invariant-loop-sign : goal.invariant-loop-sign
invariant-loop-sign l = l.out.items ≡ l.initial.out.items ++ text_of (flat_map sign_pieces (map (sign_named l.names.locations) (map sign_of_token (take l.sign-index l.signs))))
