use Rattle.litmus_syntax.proofs.SeenLaws.{nothing_seen}
use Rattle.litmus_syntax.proofs.seen.Seen.new.Goals as goal

pub returns : goal.returns
returns c = nothing_seen (record { names = c.new-names.result; registers = c.new-registers.result }) c.new-names.ensures.empty c.new-registers.ensures.empty
