use Rattle.cert_words.proofs.Vocabulary.{◌↔◌, CanBecome}
use Rattle.cert_words.proofs.CompletionLaws.{IsBetween}
use Rattle.cert_words.proofs.completions.can_become.Given as goal

-- some number of the wanted ones begins with the digits, where one of those from low to high does
abbrev pub invariant-loop-high : goal.invariant-loop-high
invariant-loop-high l = CanBecome l.number l.least l.greatest ↔ IsBetween l.number l.low l.high

abbrev pub decreases-loop-high : goal.decreases-loop-high
decreases-loop-high l = l.high
