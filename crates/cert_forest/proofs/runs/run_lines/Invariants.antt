use Rattle.cert_forest.proofs.Vocabulary.{◌≡◌, ◌-◌, [], repeat_at, run_at}
use Rattle.cert_forest.proofs.runs.run_lines.Given as goal

abbrev pub invariant-loop : goal.invariant-loop
invariant-loop l = repeat_at run_at (l.count - l.counter) l.found l.rest ≡ repeat_at run_at l.count [] l.bytes
