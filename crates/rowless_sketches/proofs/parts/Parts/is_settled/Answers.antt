use Rattle.rowless_sketches.proofs.Vocabulary.{mode_in, yes}
use Rattle.candidate_executions.specs.Settled.{IsSettled}
use Rattle.rowless_sketches.proofs.SettledReads.{settled_by, unread_is_settled}
use Rattle.rowless_sketches.proofs.parts.Parts.is_settled.Goals as goal

pub returns-in-Some : goal.returns-in-Some
returns-in-Some c = settled_by c.args.self.now c.args.read c.in-Some.location c.in-Some.value c.others_may_write.result c.in-Some.ensures c.others_may_write.ensures

pub returns-in-None : goal.returns-in-None
returns-in-None c = yes (IsSettled c.args.self.now.program (mode_in c.args.self.now) c.args.self.now.chosen c.args.read) (unread_is_settled c.args.self.now c.args.read c.in-None.ensures)
