use Rattle.litmus_syntax.proofs.Vocabulary.{sym, ◌∙◌, arith}
use Rattle.litmus_syntax.proofs.BodyLaws.{one_more_there, there_at, all_there}
use Rattle.litmus_syntax.proofs.body.missing_thread.Goals as goal

pub loop-entry-preserved : goal.loop-entry-preserved
loop-entry-preserved c = one_more_there c.args.threads c.args.entries.now c.loop-entry.entry-index _ c.loop-entry-test.true c.loop-entry.invariant (c.has_thread.ensures.0 c.if-not-has_thread.false)

pub returns-then-not-has_thread-clause-some : goal.returns-then-not-has_thread-clause-some
returns-then-not-has_thread-clause-some c = λ h. let bad = sym c.if-not-has_thread.true ∙ c.has_thread.ensures.1 (there_at c.args.threads c.args.entries.now c.loop-entry.entry-index _ c.loop-entry-test.true h) in cc

pub returns-clause-none : goal.returns-clause-none
returns-clause-none c = all_there c.args.threads c.args.entries.now c.loop-entry.entry-index (omega arith) c.loop-entry.invariant
