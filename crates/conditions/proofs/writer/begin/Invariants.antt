use Rattle.conditions.proofs.Vocabulary.{◌≡◌, length, reverse, opened, left}
use Rattle.conditions.proofs.writer.begin.Given as goal

-- the tokens and what waits give what they gave at first
abbrev pub invariant-loop-next : goal.invariant-loop-next
invariant-loop-next l =
    (opened (reverse l.waiting.items) (reverse l.tokens.items) ≡ opened (reverse l.initial.waiting.items) (reverse l.initial.tokens.items))
    × (left (reverse l.waiting.items) ≡ left (reverse l.initial.waiting.items))

abbrev pub decreases-loop-next : goal.decreases-loop-next
decreases-loop-next l = length l.waiting.items
