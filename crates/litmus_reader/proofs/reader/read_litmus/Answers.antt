use Rattle.litmus_reader.proofs.Vocabulary.{◌∙◌, ap, Err, IsWithinLimits, first_fault, BreaksFirst, handed_on}
use Rattle.litmus_reader.proofs.{Numbered.program_limits, Fronts.nothing_only, Fronts.nothing_refused, Fronts.nothing_front, Fronts.no_front, Fronts.front_read, Meant.found, Meant.found_only, Meant.broken, Meant.broken_only}
use Rattle.litmus_reader.proofs.reader.read_litmus.Goals as goal

pub returns-in_err-read-clause-refused : goal.returns-in_err-read-clause-refused
returns-in_err-read-clause-refused c = rw (handed_on c.from_residual.result c.from_residual.ensures.1) (nothing_refused c.args.bytes.now c.in_err-read.field-0.0 (BreaksFirst first_fault c.args.bytes.now) c.in_err-read.ensures)

pub returns-in_err-read-clause-only : goal.returns-in_err-read-clause-only
returns-in_err-read-clause-only c litmus is = rw (handed_on c.from_residual.result c.from_residual.ensures.1) (nothing_only c.args.bytes.now c.in_err-read.field-0.0 litmus c.in_err-read.ensures is.0)

pub returns-in_err-program_of-clause-only : goal.returns-in_err-program_of-clause-only
returns-in_err-program_of-clause-only c litmus is =
    rw (handed_on c.from_residual-in_err-program_of.result c.from_residual-in_err-program_of.ensures.1)
    (broken_only c.args.bytes.now c.in_ok-read.read c.in_ok-read.ensures IsWithinLimits first_fault program_limits c.in_err-program_of.field-0.0 litmus c.in_err-program_of.ensures is)

pub returns-in_err-program_of-clause-refused : goal.returns-in_err-program_of-clause-refused
returns-in_err-program_of-clause-refused c =
    rw (handed_on c.from_residual-in_err-program_of.result c.from_residual-in_err-program_of.ensures.1)
    (broken c.args.bytes.now c.in_ok-read.read c.in_ok-read.ensures IsWithinLimits first_fault program_limits c.in_err-program_of.field-0.0 c.in_err-program_of.ensures)

pub returns-clause-found : goal.returns-clause-found
returns-clause-found c = found c.args.bytes.now c.in_ok-read.read c.in_ok-read.ensures IsWithinLimits first_fault program_limits c.in_ok-program_of.field-0 c.in_ok-program_of.ensures

pub returns-clause-only : goal.returns-clause-only
returns-clause-only c litmus is = found_only c.args.bytes.now c.in_ok-read.read c.in_ok-read.ensures IsWithinLimits first_fault program_limits c.in_ok-program_of.field-0 litmus c.in_ok-program_of.ensures is.0

pub returns-in_err-read-clause-front : goal.returns-in_err-read-clause-front
returns-in_err-read-clause-front c fault refused =
    handed_on c.from_residual.result c.from_residual.ensures.1 ∙ ap (λ f. Err f) (nothing_front c.args.bytes.now c.in_err-read.field-0.0 fault c.in_err-read.ensures refused)

pub returns-in_err-program_of-clause-front : goal.returns-in_err-program_of-clause-front
returns-in_err-program_of-clause-front c fault refused = absurd (no_front c.args.bytes.now fault refused (front_read c.args.bytes.now c.in_ok-read.read c.in_ok-read.ensures))

pub returns-clause-front : goal.returns-clause-front
returns-clause-front c fault refused = absurd (no_front c.args.bytes.now fault refused (front_read c.args.bytes.now c.in_ok-read.read c.in_ok-read.ensures))
