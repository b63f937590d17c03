use Rattle.candidate_executions.proofs.{FromRuns.KnownValues.held_is_value, HeldReads.held_reads, HeldReads.each_has_a_held_value}
use Rattle.candidate_executions.proofs.laws.consistent_candidates_read_held_values.Goals as goal

pub returns : goal.returns
returns c = record { values = held_is_value; reads = held_reads; next = each_has_a_held_value }
