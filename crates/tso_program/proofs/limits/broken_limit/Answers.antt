use Rattle.tso_program.proofs.Vocabulary.{◌∙◌, sym}
use Rattle.tso_program.proofs.WithinLimits.{short_where_none, few_where_none}
use Rattle.tso_program.proofs.limits.broken_limit.Goals as goal

pub all_gaps-requires-clause-short : goal.all_gaps-requires-clause-short
all_gaps-requires-clause-short c = short_where_none c.args.threads.now c.args.memory.now (sym c.broken_shared_limit.ensures ∙ c.in_default.is)

pub all_gaps-requires-clause-few : goal.all_gaps-requires-clause-few
all_gaps-requires-clause-few c = few_where_none c.args.threads.now c.args.memory.now (sym c.broken_shared_limit.ensures ∙ c.in_default.is)
