use Rattle.cert_words.proofs.Vocabulary.{◌≡◌, true, false, arith}
use Rattle.cert_words.proofs.CompletionLaws.{zero_ends, none_between, as_between, from_between, between_past, between_on, between_back}
use Rattle.cert_words.proofs.completions.can_become.Goals as goal
use Rattle.cert_words.proofs.completions.can_become.Goals.{then-number-eq0-via-then-number-eq0, then-number-eq0-via-else-number-eq0+then-greatest-least}

pub returns-then-number-eq0 : goal.returns-then-number-eq0
returns-then-number-eq0 c = (
  λ t. let no : false ≡ true = t in absurd cc,
  λ b. absurd (elim c.then-number-eq0.branch [
    | then-number-eq0-via-then-number-eq0 w ↦ zero_ends c.args.number c.args.least c.args.greatest c.ranges.greatest.fits w.if-number-eq0.true b
    | then-number-eq0-via-else-number-eq0+then-greatest-least w ↦ none_between c.args.number c.args.least c.args.greatest w.if-greatest-least.true b
  ]),
)

pub loop-high-init : goal.loop-high-init
loop-high-init c = (
  λ b. as_between c.args.number c.args.least c.args.greatest c.ranges.number.fits c.ranges.greatest.fits b,
  λ b. from_between c.args.number c.args.least c.args.greatest (omega arith) c.if-greatest-least.false c.ranges.greatest.fits b,
)

pub loop-high-preserved : goal.loop-high-preserved
loop-high-preserved c = (
  λ b. between_on c.args.number c.loop-high.low c.loop-high.high c.if-low-number.false (c.loop-high.invariant.0 b),
  λ b. c.loop-high.invariant.1 (between_back c.args.number c.loop-high.low c.loop-high.high b),
)

pub returns : goal.returns
returns c = (
  λ t. let no : false ≡ true = t in absurd cc,
  λ b. absurd (between_past c.args.number c.loop-high.low c.loop-high.high c.loop-high-test.false (c.loop-high.invariant.0 b)),
)
