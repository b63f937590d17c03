use Rattle.cert_forest.proofs.Vocabulary.{◌≡◌, ◌-◌, [], MAX_COUNT, run_labels_at}
use Rattle.cert_forest.proofs.runs.labels.Given as goal

abbrev pub invariant-loop : goal.invariant-loop
invariant-loop l = run_labels_at (MAX_COUNT - l.counter) l.found.items l.rest ≡ run_labels_at MAX_COUNT [] l.bytes
