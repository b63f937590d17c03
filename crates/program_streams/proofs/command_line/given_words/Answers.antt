use Rattle.program_streams.proofs.Printed.{prints_nothing}
use Rattle.program_streams.proofs.command_line.given_words.Goals as goal

pub returns-in-OutOfMemory-clause-refused : goal.returns-in-OutOfMemory-clause-refused
returns-in-OutOfMemory-clause-refused g c = prints_nothing _ _
