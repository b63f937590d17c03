use Rattle.litmus_reader.proofs.Vocabulary.{◌≡◌, drop, with_places}
use Rattle.litmus_reader.proofs.shown.with_places.Given as goal

-- the places that are left add themselves
abbrev pub invariant-loop-place : goal.invariant-loop-place
invariant-loop-place l = with_places l.all (drop l.place-index l.places) ≡ with_places l.fn.names l.places
