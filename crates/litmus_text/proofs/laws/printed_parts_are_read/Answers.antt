use Rattle.litmus_text.proofs.PrintedIsRead.{printed_is_read}
use Rattle.litmus_text.proofs.laws.printed_parts_are_read.Goals as goal

pub returns : goal.returns
returns c = printed_is_read
