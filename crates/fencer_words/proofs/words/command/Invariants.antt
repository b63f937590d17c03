use Rattle.fencer_words.proofs.Vocabulary.{take, fold, commands_app, with_form, IsBuiltAs}
use Rattle.fencer_words.proofs.words.command.Given as goal

-- the command line has the commands so far
abbrev pub invariant-loop-form : goal.invariant-loop-form
invariant-loop-form l = IsBuiltAs (fold (with_form l.names) commands_app (take l.form-index l.form-items)) l.command
