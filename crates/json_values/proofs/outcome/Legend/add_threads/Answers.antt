use Rattle.json_values.proofs.Vocabulary.{ℕ, List, [], ◌++◌, get_or, ap, ◌∙◌, flat_range_more, thread_values}
use Rattle.json_values.proofs.outcome.Legend.add_threads.Goals as goal

pub loop-thread-preserved : goal.loop-thread-preserved
loop-thread-preserved c =
    let items : ℕ → List (List ℕ) = λ t. thread_values c.args.self.now.names.now c.args.self.now.shown.now t (get_or c.args.registers.now t []) in
    c.in_ok-add_thread.ensures
    ∙ ap (λ (ts : List (List ℕ)). ts ++ items c.loop-thread.thread) c.loop-thread.invariant
    ∙ flat_range_more items c.args.array.now c.loop-thread.thread
