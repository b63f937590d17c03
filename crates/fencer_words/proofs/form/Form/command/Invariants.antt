use Rattle.fencer_words.proofs.Vocabulary.{take, fold, new_app, name_of_form, with_parameter, IsBuiltAs}
use Rattle.fencer_words.proofs.form.Form.command.Given as goal

-- the command has the parameters so far
abbrev pub invariant-loop-parameter : goal.invariant-loop-parameter
invariant-loop-parameter l = IsBuiltAs (fold (with_parameter l.names) (new_app (name_of_form l.fn.self)) (take l.parameter-index l.parameter-items)) l.command
