use Rattle.placed_text.proofs.Vocabulary.{List, Label}
use Rattle.std.specs.Prelude.{Contains}
use Rattle.placed_text.specs.Verdicts.{Decides}
use Rattle.placed_text.proofs.Decided.{none_decides}
use Rattle.placed_text.proofs.verdict.verdict_of.Goals as goal

pub returns-in_ok-verdict_note : goal.returns-in_ok-verdict_note
returns-in_ok-verdict_note c = λ litmus costs kind is. (c.in_ok-some_decides.ensures.some c.if-branch.true, c.in_ok-verdict_note.ensures)

pub returns-else-branch : goal.returns-else-branch
returns-else-branch c = λ litmus costs kind is.
    let problem = c.args.problem.now in
    let certificate = c.args.certificate.now in
    let none : (labels : List Label) → Contains certificate.seq_runs labels → Decides problem.litmus labels → ⊥ = rw (← c.certificate.view_is) (rw c.deref.ensures at (c.in_ok-some_decides.ensures.none c.if-branch.false)) in
    none_decides litmus costs kind problem certificate is c.requires none
