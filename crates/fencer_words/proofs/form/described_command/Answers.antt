use Rattle.fencer_words.proofs.Vocabulary.{ap, ◌∙◌, app_of_fields, Command, Command-F}
use Rattle.fencer_words.proofs.form.described_command.Goals as goal

pub returns-clause-app : goal.returns-clause-app
returns-clause-app c = ap app_of_fields c.after_help.ensures ∙ ap app_of_fields c.about.ensures ∙ c.new.ensures.app

pub returns-clause-local : goal.returns-clause-local
returns-clause-local c =
    ap (λ (fields : Command-F Command). fields.has_globals) c.after_help.ensures
    ∙ ap (λ (fields : Command-F Command). fields.has_globals) c.about.ensures
    ∙ c.new.ensures.local
