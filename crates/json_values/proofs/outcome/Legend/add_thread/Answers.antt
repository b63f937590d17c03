use Rattle.json_values.proofs.Vocabulary.{List, ◌++◌, get_or, ap, ◌∙◌, ℕ, all_registers, register_value, flat_more}
use Rattle.tso_program.specs.declared.instruction.Reg.{TheVariants.Eax}
use Rattle.json_values.proofs.outcome.Legend.add_thread.Goals as goal

pub loop-register-preserved : goal.loop-register-preserved
loop-register-preserved c =
    let item = register_value c.args.self.now.names.now c.args.self.now.shown.now c.args.thread c.args.values in
    c.in_ok-add_register.ensures
    ∙ ap (λ (ts : List (List ℕ)). ts ++ item (get_or all_registers c.loop-register.register-index Eax)) c.loop-register.invariant
    ∙ flat_more item c.args.array.now all_registers c.loop-register.register-index Eax c.loop-register-test.true
