use Rattle.std.proofs.Common.{refl}
use Rattle.program_streams.specs.Words.{utf8_line, IsUtf8Refusal}
use Rattle.program_streams.proofs.Printed.{prints_line}
use Rattle.program_streams.proofs.output.refuse_words.Goals as goal

pub returns : goal.returns
returns g c = prints_line c.utf8_line.result 2 utf8_line IsUtf8Refusal _ _ c.print.result (refl, refl) c.utf8_line.ensures c.print.ensures
