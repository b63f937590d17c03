use Rattle.fencer_words.proofs.Vocabulary.{rules, ◌∙◌, ◌≤◌, List, length, sym, subst, fold, take_all, fold_more, App, commands_app, with_form, IsBuiltAs}
use Rattle.fencer_words.specs.declared.form.Form.{Form}
use Rattle.fencer_words.proofs.Rules.{one_command_more}
use Rattle.fencer_words.proofs.words.command.Goals as goal

pub loop-form-preserved : goal.loop-form-preserved
loop-form-preserved c =
    let next = c.in_ok-command-3.command in
    subst (λ (app : App). IsBuiltAs app next) (sym (fold_more (with_form c.choice_names-names.result) commands_app c.all-form-items.result.now c.loop-form.form-index _ c.loop-form-test.true))
    (one_command_more c.loop-form.command next c.in_ok-command-2.field-0 _ _ c.loop-form.invariant c.in_ok-command-2.ensures c.in_ok-command-3.ensures)

pub returns : goal.returns
returns c =
    let forms = c.all-form-items.result.now in
    let done : length forms ≤ c.loop-form.form-index = search rules in
    record {
      choices = c.choice_names-names.result;
      are_choices = c.choice_names-names.ensures;
      built = subst (λ (fs : List Form). IsBuiltAs (fold (with_form c.choice_names-names.result) commands_app fs) c.loop-form.command) (take_all c.loop-form.form-index forms done ∙ c.all-form-items.ensures) c.loop-form.invariant;
    }
