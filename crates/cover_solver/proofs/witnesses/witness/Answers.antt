use Rattle.cover_solver.proofs.Vocabulary.{machine_of_mode}
use Rattle.cover_solver.proofs.Witnessed.{no_witness, a_witness}
use Rattle.cover_solver.proofs.witnesses.witness.Goals as goal

pub returns-in-Complete-clause-found : goal.returns-in-Complete-clause-found
returns-in-Complete-clause-found c =
    let p = c.args.program.now in
    no_witness p (machine_of_mode p c.args.mode) c.args.truth c.args.formula.now c.in_ok-copy.field-0 c.in_ok-other.other c.in_ok-copy.ensures c.in_ok-other.ensures (rw c.in-Complete.is at c.in_ok-completeness_of.ensures)
