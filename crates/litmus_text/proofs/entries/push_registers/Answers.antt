use Rattle.litmus_text.proofs.Vocabulary.{ℕ, List, ◌++◌, ◌+◌, drop, get_or, ap, ◌∙◌, append_assoc, flat_map, text_of, Thread, entry_pieces, thread_entries, register_entries}
use Rattle.litmus_text.proofs.TextsGrow.{thread_more}
use Rattle.litmus_text.proofs.entries.push_registers.Goals as goal

pub loop-t-preserved : goal.loop-t-preserved
loop-t-preserved c =
    let names = c.args.names.now in
    let threads = c.args.threads.now in
    let t = c.loop-t.t in
    let d = c.index-threads-t.result in
    let here : Thread → List ℕ = λ thread. text_of (flat_map entry_pieces (thread_entries names t thread.registers)) in
    let rest : List ℕ = text_of (flat_map entry_pieces (register_entries names (t + 1) (drop (t + 1) threads))) in
    ap (λ (bs : List ℕ). bs ++ rest) (c.in_ok-push_thread.ensures ∙ ap (λ (thread : Thread). c.loop-t.out.items ++ here thread) c.index-threads-t.is)
    ∙ append_assoc c.loop-t.out.items (here (get_or threads t d)) rest
    ∙ ap (λ (bs : List ℕ). c.loop-t.out.items ++ bs) (thread_more names threads t d c.loop-t-test.true)
    ∙ c.loop-t.invariant
