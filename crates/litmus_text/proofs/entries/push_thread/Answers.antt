use Rattle.litmus_text.proofs.Vocabulary.{ℕ, List, ◌++◌, get_or, ap, ◌∙◌, flat_map, Eax, text_of, all_registers, entry_pieces, named_entry}
use Rattle.litmus_text.proofs.TextsGrow.{element_more}
use Rattle.litmus_text.proofs.entries.push_thread.Goals as goal

pub loop-register-preserved : goal.loop-register-preserved
loop-register-preserved c =
    let entry = named_entry c.args.names.now c.args.thread c.args.values in
    c.in_ok-push_named.ensures
    ∙ ap (λ (bs : List ℕ). bs ++ text_of (flat_map entry_pieces (entry (get_or all_registers c.loop-register.register-index Eax)))) c.loop-register.invariant
    ∙ element_more entry_pieces entry c.args.out.now.items all_registers c.loop-register.register-index Eax c.loop-register-test.true
