use Rattle.litmus_reader.proofs.Vocabulary.{◌≡◌, map, take, sign_at_view, byte_in, numbered_signs}
use Rattle.conditions.specs.Tokens.{sign_of_token as token_sign}
use Rattle.litmus_reader.proofs.condition.numbered.Given as goal

-- the signs so far are numbered
abbrev pub invariant-loop-sign : goal.invariant-loop-sign
invariant-loop-sign l = map token_sign l.tokens.items ≡ numbered_signs (byte_in l.names.locations) (map sign_at_view (take l.sign-index l.signs))
