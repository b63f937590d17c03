use Rattle.fencecheck.proofs.Vocabulary.{◌+◌, ◌-◌, ◌≤◌, length, subst, arith, vec_len, IsReadFault, CERTIFICATE_LIMIT, IsCertificateStart, IsTooLongInput, ReadsEnough}
use Rattle.cert_check.proofs.Answered.{err_up}
use Rattle.fencecheck.proofs.Joined.{end_or_full, long_litmus, parts_read, reads_rest, rest_fault}
use Rattle.fencecheck.proofs.parts.read_joined.Given.{Over}
use Rattle.fencecheck.proofs.parts.read_joined.Goals.{After-read_rest_up_to}
use Rattle.fencecheck.proofs.parts.read_joined.Goals as goal

pub returns-then-start-gt-TEXT_LIMIT-clause-err : goal.returns-then-start-gt-TEXT_LIMIT-clause-err
returns-then-start-gt-TEXT_LIMIT-clause-err g c =
    let start = c.certificate_start-start.result in
    let found = c.certificate_start-start.ensures in
    long_litmus (g.R.Read.remaining c.args.input.now) (g.R.Read.remaining c.read_on.new.input) c.new-bytes.result.items c.read_on.new.bytes.items c.new-bytes.ensures.items c.in_ok-ended.ensures.more
    start (subst (λ xs. IsCertificateStart xs start) c.deref.ensures.value found.start) (subst (λ xs. start ≤ length xs) c.deref.ensures.value found.within) (omega (arith, c.if-start-gt-TEXT_LIMIT.true))
    (end_or_full c.in_ok-ended.ended c.in_ok-ended.ensures.end (λ e. omega (arith, c.read_on.new.bytes.ok.0, c.in_ok-ended.ensures.full e)))

pub returns-in_err-read_rest_up_to-clause-err : goal.returns-in_err-read_rest_up_to-clause-err
returns-in_err-read_rest_up_to-clause-err g c =
    let start = c.certificate_start-start.result in
    let old = g.R.Read.remaining c.args.input.now in
    let why = c.in_err-read_rest_up_to.field-0.0 in
    let full = c.in_ok-ended.ensures.full c.if-ended.false in
    err_up c.from_residual-in_err-read_rest_up_to.result why (IsReadFault (IsTooLongInput old)) c.from_residual-in_err-read_rest_up_to.ensures.1
    (rest_fault old (g.R.Read.remaining c.read_on.new.input) c.new-bytes.result.items c.read_on.new.bytes.items c.new-bytes.ensures.items c.in_ok-ended.ensures.more
    start (subst (λ xs. IsCertificateStart xs start) c.deref.ensures.value c.certificate_start-start.ensures.start) c.if-start-gt-TEXT_LIMIT.false (omega (arith, c.read_on.new.bytes.ok.0, full))
    (g.R.Read.remaining c.read_rest_up_to.new.input) (start + CERTIFICATE_LIMIT + 1 - vec_len c.read_on.new.bytes) why c.in_err-read_rest_up_to.ensures.err
    (omega (arith, c.read_on.new.bytes.ok.0, full)))

-- what is read, where the rest is
reads : (g : Over) (c : After-read_rest_up_to g) → ReadsEnough (g.R.Read.remaining c.args.input.now) (g.R.Read.remaining c.read_rest_up_to.new.input)
reads g c =
    let start = c.certificate_start-start.result in
    let full = c.in_ok-ended.ensures.full c.if-ended.false in
    reads_rest (g.R.Read.remaining c.args.input.now) (g.R.Read.remaining c.read_on.new.input) c.new-bytes.result.items c.read_on.new.bytes.items c.new-bytes.ensures.items c.in_ok-ended.ensures.more
    start (subst (λ xs. IsCertificateStart xs start) c.deref.ensures.value c.certificate_start-start.ensures.start) c.if-start-gt-TEXT_LIMIT.false (omega (arith, c.read_on.new.bytes.ok.0, full))
    (g.R.Read.remaining c.read_rest_up_to.new.input) (start + CERTIFICATE_LIMIT + 1 - vec_len c.read_on.new.bytes) c.read_rest_up_to.ensures.taken (omega (arith, c.read_on.new.bytes.ok.0, full))

pub returns-in_err-read_rest_up_to-clause-read : goal.returns-in_err-read_rest_up_to-clause-read
returns-in_err-read_rest_up_to-clause-read g c = reads g (goal.at.returns-in_err-read_rest_up_to-clause-read g c).After-read_rest_up_to

pub returns-clause-parts : goal.returns-clause-parts
returns-clause-parts g c =
    let start = c.certificate_start-start.result in
    let full = c.in_ok-ended.ensures.full c.if-ended.false in
    parts_read (g.R.Read.remaining c.args.input.now) (g.R.Read.remaining c.read_on.new.input) c.new-bytes.result.items c.read_on.new.bytes.items c.new-bytes.ensures.items c.in_ok-ended.ensures.more
    start (subst (λ xs. IsCertificateStart xs start) c.deref.ensures.value c.certificate_start-start.ensures.start) c.if-start-gt-TEXT_LIMIT.false (omega (arith, c.read_on.new.bytes.ok.0, full))
    c.read_rest_up_to.new.bytes.items c.in_ok-read_rest_up_to.ensures.whole (omega (arith, c.read_rest_up_to.new.bytes.ok.0, c.in_ok-read_rest_up_to.ensures.within))

pub returns-clause-read : goal.returns-clause-read
returns-clause-read g c = reads g (goal.at.returns-clause-read g c).After-read_rest_up_to
