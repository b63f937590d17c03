use Rattle.litmus_reader.proofs.Vocabulary.{◌≡◌, map, take, place_view, observed_of, byte_in}
use Rattle.litmus_reader.proofs.observed.all_observed.Given as goal

-- the places so far
abbrev pub invariant-loop-place : goal.invariant-loop-place
invariant-loop-place l = l.shown.items ≡ map (observed_of (byte_in l.names.locations)) (map place_view (take l.place-index l.places))
