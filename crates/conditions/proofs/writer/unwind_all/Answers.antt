use Rattle.conditions.proofs.Vocabulary.{arith, reverse}
use Rattle.conditions.proofs.Unwound.{tokens_end}
use Rattle.conditions.proofs.writer.unwind_all.Goals as goal

pub returns : goal.returns
returns c = λ f is.
    tokens_end c.args.nodes.now c.loop-left.left (reverse c.loop-left.waiting.items) (reverse c.loop-left.tokens.items) (reverse c.args.tokens.now.items) f (omega arith) c.loop-left.invariant.1 is
