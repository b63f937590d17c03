use Rattle.litmus_reader.proofs.ExampleLaws.{means, first_line}
use Rattle.litmus_reader.proofs.laws.store_buffering_is_read.Goals as goal

pub returns : goal.returns
returns c = record { tokens = means; first_line = first_line }
