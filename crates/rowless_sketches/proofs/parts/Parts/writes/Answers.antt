use Rattle.rowless_sketches.proofs.Vocabulary.{sym, ◌∙◌}
use Rattle.rowless_sketches.proofs.Ends.{writes_by, absent_writes}
use Rattle.rowless_sketches.proofs.parts.Parts.writes.Goals as goal

pub returns-in-Some : goal.returns-in-Some
returns-in-Some c = writes_by c.args.self.now c.args.event c.args.location c.in-Some.access c.is_write_to.result (sym c.access.ensures ∙ c.in-Some.is) c.is_write_to.ensures

pub returns-in-None : goal.returns-in-None
returns-in-None c = absent_writes c.args.self.now c.args.event c.args.location (sym c.access.ensures ∙ c.in-None.is)
