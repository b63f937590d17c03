use Rattle.cert_forest.proofs.Vocabulary.{◌≡◌, [], length, sym, ap, ◌∙◌, arith, inl, eqb-true, nil_from_length}
use Rattle.cert_forest.specs.declared.fault.CertFault.{TheVariants.Trailing}
use Rattle.cert_forest.proofs.WholeLaws.{found_whole, only_whole, never_none, some_behind, has_more, left_behind, more_is_read}
use Rattle.cert_forest.proofs.reader.read_cert.Goals as goal

pub returns-then-not-is_empty-clause-only : goal.returns-then-not-is_empty-clause-only
returns-then-not-is_empty-clause-only c = λ d is.
    absurd (some_behind c.in-Ok.rest.now (sym c.is_empty.ensures ∙ c.if-not-is_empty.true) (only_whole c.args.bytes.now c.in-Ok.rest.now c.in-Ok.certificate d c.in-Ok.ensures is).1)

pub returns-else-not-is_empty-clause-found : goal.returns-else-not-is_empty-clause-found
returns-else-not-is_empty-clause-found c =
    let none : c.in-Ok.rest.now ≡ [] = nil_from_length c.in-Ok.rest.now (eqb-true _ _ (sym c.is_empty.ensures ∙ c.if-not-is_empty.false)) in
    found_whole c.args.bytes.now c.in-Ok.rest.now c.in-Ok.certificate c.in-Ok.ensures none

pub returns-else-not-is_empty-clause-only : goal.returns-else-not-is_empty-clause-only
returns-else-not-is_empty-clause-only c = λ d is. (only_whole c.args.bytes.now c.in-Ok.rest.now c.in-Ok.certificate d c.in-Ok.ensures is).0

pub returns-in-Err-Refused-clause-only : goal.returns-in-Err-Refused-clause-only
returns-in-Err-Refused-clause-only c = λ d is. absurd (never_none c.args.bytes.now d (rw c.in-Err-Refused.field-0-is at c.in-Err-Refused.ensures) is)

pub returns-then-not-is_empty-clause-trailing : goal.returns-then-not-is_empty-clause-trailing
returns-then-not-is_empty-clause-trailing c = λ place is.
    has_more c.args.bytes.now c.in-Ok.rest.now c.in-Ok.certificate place c.in-Ok.ensures (sym c.is_empty.ensures ∙ c.if-not-is_empty.true)
    (let same : c.saturating_sub.result ≡ place = cc in sym same ∙ c.saturating_sub.ensures)

pub returns-then-not-is_empty-clause-more : goal.returns-then-not-is_empty-clause-more
returns-then-not-is_empty-clause-more c = λ place more.
    inl (ap Trailing (c.saturating_sub.ensures ∙ (left_behind c.args.bytes.now c.in-Ok.rest.now c.in-Ok.certificate place c.in-Ok.ensures more).0))

pub returns-else-not-is_empty-clause-more : goal.returns-else-not-is_empty-clause-more
returns-else-not-is_empty-clause-more c = λ place more.
    let none : c.in-Ok.rest.now ≡ [] = nil_from_length c.in-Ok.rest.now (eqb-true _ _ (sym c.is_empty.ensures ∙ c.if-not-is_empty.false)) in
    let empty : length c.in-Ok.rest.now ≡ 0 = ap length none in
    let some = (left_behind c.args.bytes.now c.in-Ok.rest.now c.in-Ok.certificate place c.in-Ok.ensures more).1 in
    omega arith

pub returns-in-Err-Refused-clause-more : goal.returns-in-Err-Refused-clause-more
returns-in-Err-Refused-clause-more c = λ place more. absurd (more_is_read c.args.bytes.now place (rw c.in-Err-Refused.field-0-is at c.in-Err-Refused.ensures) more)
