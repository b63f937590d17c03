use Rattle.cert_trees.specs.declared.rule.Rule.TheVariants.{Early}
use Rattle.cover_solver.specs.Sought.{question_of, machine_of}
use Rattle.cover_solver.proofs.NoOthers.{no_others}
use Rattle.cover_solver.proofs.proposed.Sought.are_all.Goals as goal

pub returns-in-Ok : goal.returns-in-Ok
returns-in-Ok c all =
    no_others Early (question_of c.args.self.now) (machine_of c.args.self.now) c.args.outcomes.now _ (c.a_valid_cover_tree_covers.ensures Early) c.a_valid_tree_lists_every_outcome.ensures.each c.recall_facts.ensures.within.shared.forward_jumps
    (rw c.in_ok-sketch.ensures at c.in-Ok.ensures.valid)
