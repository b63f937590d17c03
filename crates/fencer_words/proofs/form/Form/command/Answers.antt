use Rattle.fencer_words.proofs.Vocabulary.{rules, ◌∙◌, ◌≤◌, List, length, ap, sym, subst, fold, take_all, fold_more, App, new_app, name_of_form, with_parameter, IsBuiltAs}
use Rattle.fencer_words.specs.declared.parameter.Parameter.{Parameter}
use Rattle.fencer_words.proofs.Rules.{one_argument_more}
use Rattle.fencer_words.proofs.form.Form.command.Goals as goal

pub loop-parameter-init : goal.loop-parameter-init
loop-parameter-init c = record { shape = c.described_command-command.ensures.app ∙ ap new_app c.name.ensures; no_globals = c.described_command-command.ensures.local }

pub loop-parameter-preserved : goal.loop-parameter-preserved
loop-parameter-preserved c =
    let parameters = c.parameters-parameter-items.result.now in
    let next = c.in_ok-command.command in
    subst (λ (app : App). IsBuiltAs app next) (sym (fold_more (with_parameter c.args.names) (new_app (name_of_form c.args.self)) parameters c.loop-parameter.parameter-index _ c.loop-parameter-test.true))
    (one_argument_more c.loop-parameter.command next c.argument.result _ _ c.loop-parameter.invariant c.argument.ensures.rule c.argument.ensures.own c.in_ok-command.ensures)

pub returns : goal.returns
returns c =
    let command = c.loop-parameter.command in
    let parameters = c.parameters-parameter-items.result.now in
    let done : length parameters ≤ c.loop-parameter.parameter-index = search rules in
    subst (λ (ps : List Parameter). IsBuiltAs (fold (with_parameter c.args.names) (new_app (name_of_form c.args.self)) ps) command)
    (take_all c.loop-parameter.parameter-index parameters done ∙ c.parameters-parameter-items.ensures) c.loop-parameter.invariant
