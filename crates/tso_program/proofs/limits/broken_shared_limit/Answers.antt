use Rattle.tso_program.proofs.Vocabulary.{◌∙◌, sym, ap, is_some, MAX_FENCED_INSTRUCTIONS}
use Rattle.tso_program.proofs.WithinLimits.{all_short}
use Rattle.tso_program.proofs.limits.broken_shared_limit.Goals as goal

pub all_accesses-requires-clause-short : goal.all_accesses-requires-clause-short
all_accesses-requires-clause-short c = all_short c.args.longest MAX_FENCED_INSTRUCTIONS c.args.threads.now c.requires (ap is_some (sym c.first_long.ensures ∙ c.in_default.is))

pub first_backward-requires : goal.first_backward-requires
first_backward-requires c = all_short c.args.longest MAX_FENCED_INSTRUCTIONS c.args.threads.now c.requires (ap is_some (sym c.first_long.ensures ∙ c.in_default.is))

pub first_past_end-requires : goal.first_past_end-requires
first_past_end-requires c = all_short c.args.longest MAX_FENCED_INSTRUCTIONS c.args.threads.now c.requires (ap is_some (sym c.first_long.ensures ∙ c.in_default.is))
