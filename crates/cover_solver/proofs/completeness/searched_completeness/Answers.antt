use Rattle.cover_solver.proofs.Vocabulary.{asked, machine_of_mode}
use Rattle.cert_trees.specs.declared.rule.Rule.TheVariants.{Whole}
use Rattle.cover_solver.proofs.NoOthers.{no_others}
use Rattle.cover_solver.proofs.completeness.searched_completeness.Goals as goal

pub returns-in-Ok : goal.returns-in-Ok
returns-in-Ok c =
    let search = c.args.search.now in
    no_others Whole (asked search.program.now search.shown.now) (machine_of_mode search.program.now search.mode) c.args.outcomes.now _ (c.a_valid_cover_tree_covers.ensures Whole)
    c.a_valid_tree_lists_every_outcome.ensures.each c.recall_facts.ensures.within.shared.forward_jumps c.in-Ok.ensures.tree.valid

pub returns-in-Err-New : goal.returns-in-Err-New
returns-in-Err-New c = let (is_run, lacks) = rw c.in-Err-New.field-0-is at c.in-Err-New.ensures.stop in (c.in-Err-New.run'.outcome, is_run, lacks)
