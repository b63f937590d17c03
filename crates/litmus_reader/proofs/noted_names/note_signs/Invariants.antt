use Rattle.litmus_reader.proofs.Vocabulary.{◌≡◌, map, take, fold, flat_map, sign_at_view, noted, sign_places}
use Rattle.litmus_reader.proofs.noted_names.note_signs.Given as goal

-- what the signs so far name is noted
abbrev pub invariant-loop-sign : goal.invariant-loop-sign
invariant-loop-sign l = l.names ≡ fold noted l.initial.names (flat_map sign_places (map sign_at_view (take l.sign-index l.signs)))
