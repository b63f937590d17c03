use Rattle.fencer_words.proofs.Vocabulary.{rules, ◌≡◌, Some}
use Rattle.clap.specs.declared.builder.value_parser.ValueParser.{TheVariants.Names}
use Rattle.fencer_words.proofs.Rules.{trees_rule_of}
use Rattle.fencer_words.proofs.parameter.trees_arg.Goals as goal

pub returns-clause-rule : goal.returns-clause-rule
returns-clause-rule c =
    let parser_is : c.value_parser.result.value_parser ≡ Some (Names c.args.names) = search rules in
    trees_rule_of c.named_arg.result c.long.result c.value_parser.result _ c.args.names
    c.named_arg.ensures.rule c.long.ensures (search rules) c.value_parser.ensures.others parser_is
