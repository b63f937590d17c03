use Rattle.placed_text.proofs.Vocabulary.{◌≡◌, None, first_missing, subst, sym}
use Rattle.cert_forest.specs.Certificates.{Certificate}
use Rattle.placed_text.proofs.GapsThere.{none_missing}
use Rattle.placed_text.proofs.writing.answer_of.Goals as goal

pub write_answer-requires-clause-there : goal.write_answer-requires-clause-there
write_answer-requires-clause-there c =
    let p = c.args.problem.now.litmus.program in
    subst (λ (certificate : Certificate). first_missing p certificate.gaps ≡ None) (sym c.certificate.view_is) (none_missing p c.args.certificate.gaps c.requires.fenced.of_program)
