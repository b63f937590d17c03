use Rattle.oracle.proofs.Vocabulary.{sym, subst}
use Rattle.gap_sets.specs.Gaps.{SetOfGaps}
use Rattle.tso_machine.specs.Outcomes.{ArePassedNames}
use Rattle.tso_machine.proofs.NamesPassed.{names_of_passed}
use Rattle.oracle.proofs.foreign_run.ForeignRun.of.Goals as goal

pub invariant_of-result : goal.invariant_of-result
invariant_of-result c =
    let q = c.args.question in
    let labels = c.args.labels.items in
    record {
      foreign = c.requires.foreign;
      passed = subst (λ (names : SetOfGaps). ArePassedNames q labels names) (sym c.names_in-passed.ensures) (names_of_passed q labels c.args.ended.passed c.requires.passed);
    }

pub returns-clause-foreign : goal.returns-clause-foreign
returns-clause-foreign c =
    let q = c.args.question in
    let labels = c.args.labels.items in
    record {
      foreign = c.requires.foreign;
      passed = subst (λ (names : SetOfGaps). ArePassedNames q labels names) (sym c.names_in-passed.ensures) (names_of_passed q labels c.args.ended.passed c.requires.passed);
    }
