use Rattle.placed_text.proofs.Vocabulary.{answer_line}
use Rattle.placed_text.proofs.ReasonTexts.{says_why}
use Rattle.placed_text.proofs.explaining.explained.Goals as goal

pub returns-clause-told : goal.returns-clause-told
returns-clause-told c =
    let problem = c.args.problem.now in
    let certificate = c.args.certificate.now in
    says_why problem.litmus problem.shown problem.costs certificate.gaps (answer_line problem.litmus.program problem.shown certificate.gaps certificate.cost) c.in_ok-reasons.reasons.lines.items _ _
    c.in_ok-reasons.reasons.runs c.in_ok-reasons.ensures (rw c.deref.ensures.value at c.in_ok-lines.ensures) (rw c.gaps_of-set.ensures at c.in_ok-why_document.ensures)
