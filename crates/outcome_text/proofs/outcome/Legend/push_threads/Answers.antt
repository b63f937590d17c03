use Rattle.outcome_text.proofs.Vocabulary.{ℕ, List, [], ◌++◌, get_or, ap, ◌∙◌, texts, thread_items}
use Rattle.outcome_text.proofs.Joined.{flat_range_more}
use Rattle.outcome_text.proofs.outcome.Legend.push_threads.Goals as goal

pub loop-thread-preserved : goal.loop-thread-preserved
loop-thread-preserved c =
    let items : ℕ → List (List ℕ) = λ t. thread_items c.args.self.now.names.now c.args.self.now.shown.now t (get_or c.args.registers.now t []) in
    c.in_ok-push_thread.ensures
    ∙ ap (λ (ts : List (List ℕ)). ts ++ items c.loop-thread.thread) c.loop-thread.invariant
    ∙ flat_range_more items (texts c.args.items.now.items) c.loop-thread.thread
