use Rattle.litmus_reader.proofs.Vocabulary.{◌≡◌, map, take, fold, place_view, noted}
use Rattle.litmus_reader.proofs.noted_names.note_places.Given as goal

-- the places so far are noted
abbrev pub invariant-loop-place : goal.invariant-loop-place
invariant-loop-place l = l.names ≡ fold noted l.initial.names (map place_view (take l.place-index l.places))
