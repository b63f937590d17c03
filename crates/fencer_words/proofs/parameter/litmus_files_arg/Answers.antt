use Rattle.fencer_words.proofs.Vocabulary.{rules, ◌≡◌, Some, usize_max}
use Rattle.fencer_words.proofs.Rules.{files_rule_of}
use Rattle.fencer_words.proofs.parameter.litmus_files_arg.Goals as goal

pub returns-clause-rule : goal.returns-clause-rule
returns-clause-rule c =
    let range_is : c.num_args.result.num_vals ≡ Some (record { start_inclusive = 1; end_inclusive = usize_max }) = search rules in
    files_rule_of c.named_arg.result c.num_args.result c.action.result c.required.result c.named_arg.ensures.rule c.num_args.ensures.0 range_is c.action.ensures c.required.ensures
