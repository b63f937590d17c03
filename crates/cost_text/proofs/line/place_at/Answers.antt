use Rattle.cost_text.proofs.Vocabulary.{sym}
use Rattle.cost_text.proofs.LineLaws.{rest_shorter}
use Rattle.cost_text.proofs.line.place_at.Goals as goal

pub returns-clause-shorter : goal.returns-clause-shorter
returns-clause-shorter c =
    rest_shorter c.args.bytes.now c.in_ok-thread.thread.now c.in_ok-thread.rest.now c.in_ok-after_colon.field-0.now c.in_ok-instruction.instruction.now c.in_ok-instruction.rest.now c.in_ok-rest.rest.now
    (sym c.in_ok-thread.ensures.value) (sym c.in_ok-after_colon.ensures) (sym c.in_ok-instruction.ensures.value) (sym c.in_ok-rest.ensures)
