use Rattle.cert_check.proofs.Vocabulary.{asked}
use Rattle.cert_check.proofs.Replayed.{AreReplayedBut}
use Rattle.cert_check.proofs.runs.replay_all.Given as goal

abbrev pub invariant-loop-run : goal.invariant-loop-run
invariant-loop-run l = AreReplayedBut (asked l.program l.shown) l.model l.runs l.run-iterator l.outcomes.items l.passed.items
