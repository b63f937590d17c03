use Rattle.placed_text.proofs.Vocabulary.{rules, ◌≡◌, None, first_missing}
use Rattle.placed_text.proofs.GapsThere.{none_missing}
use Rattle.placed_text.proofs.writing.write_placed.Goals as goal

pub write_answer-requires-clause-there : goal.write_answer-requires-clause-there
write_answer-requires-clause-there g c =
    let p = c.args.problem.now.litmus.program in
    let there : first_missing p c.args.certificate.gaps ≡ None = none_missing p c.args.certificate.gaps c.requires.fenced.of_program in
    search rules
