use Rattle.cert_forest.proofs.Vocabulary.{◌≡◌, ◌-◌, ◌≤◌, MAX_GAPS, gap_number_at, ascending_at}
use Rattle.std.specs.FinSet as set
use Rattle.cert_forest.proofs.reader.gaps.Given as goal

abbrev pub invariant-loop : goal.invariant-loop
invariant-loop l = record {
  told : ascending_at gap_number_at (MAX_GAPS - l.counter) l.least l.found l.rest ≡ ascending_at gap_number_at MAX_GAPS 0 set.empty l.bytes;
  least : l.least ≤ MAX_GAPS;
}
