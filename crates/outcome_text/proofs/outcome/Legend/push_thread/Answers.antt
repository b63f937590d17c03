use Rattle.outcome_text.proofs.Vocabulary.{List, ◌++◌, get_or, ap, ◌∙◌, ℕ, Eax, texts, named_item, all_registers}
use Rattle.outcome_text.proofs.Joined.{flat_more}
use Rattle.outcome_text.proofs.outcome.Legend.push_thread.Goals as goal

pub loop-register-preserved : goal.loop-register-preserved
loop-register-preserved c =
    let item = named_item c.args.self.now.names.now c.args.self.now.shown.now c.args.thread c.args.values in
    c.in_ok-push_named.ensures
    ∙ ap (λ (ts : List (List ℕ)). ts ++ item (get_or all_registers c.loop-register.register-index Eax)) c.loop-register.invariant
    ∙ flat_more item (texts c.args.items.now.items) all_registers c.loop-register.register-index Eax c.loop-register-test.true
