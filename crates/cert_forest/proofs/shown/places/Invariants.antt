use Rattle.cert_forest.proofs.Vocabulary.{◌≡◌, ◌-◌, ◌≤◌, PLACES, place_word_at, ascending_at}
use Rattle.std.specs.FinSet as set
use Rattle.cert_forest.proofs.shown.places.Given as goal

abbrev pub invariant-loop : goal.invariant-loop
invariant-loop l = record {
  told : ascending_at place_word_at (PLACES - l.counter) l.least l.found l.rest ≡ ascending_at place_word_at PLACES 0 set.empty l.bytes;
  least : l.least ≤ PLACES;
}
