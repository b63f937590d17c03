use Rattle.cert_pages.proofs.PartLaws.{IsTextOf}
use Rattle.cert_pages.proofs.parts.joined.Given as goal

-- the text of the parts so far
abbrev pub invariant-loop-part : goal.invariant-loop-part
invariant-loop-part l = IsTextOf l.yielded l.text
