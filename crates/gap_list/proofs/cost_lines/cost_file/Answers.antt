use Rattle.gap_list.proofs.Vocabulary.{List, ℕ, sym, subst, IsCostText, as_read}
use Rattle.std.proofs.lemmas.Result.{IfOk-weaker}
use Rattle.tso_program.specs.Listings.{gap_count}
use Rattle.gap_list.proofs.CostFileLaws.{cost_file_is_read}
use Rattle.gap_list.proofs.cost_lines.cost_file.Goals as goal

pub returns-clause-read : goal.returns-clause-read
returns-clause-read c =
    let program = c.args.program.now in
    let costs = c.args.costs.now in
    IfOk-weaker c.entries.result _ _
    (λ text is. subst (λ (bytes : List ℕ). IsCostText bytes program.threads (as_read (gap_count program.threads) costs)) (sym is)
    (cost_file_is_read program.threads program.memory costs c.recall_facts.ensures.within c.recall_facts-3.ensures c.requires c.recall_facts-2.ensures.limits))
    c.entries.ensures
