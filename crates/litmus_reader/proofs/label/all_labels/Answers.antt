use Rattle.litmus_reader.proofs.Vocabulary.{List, [], ◌∷◌, ◌++◌, map, sym, ap, ◌∙◌, arith, range_with_len, Vec, map-range_with_len_more, Cell, row_view, CodeLabel, thread_labels}
use Rattle.litmus_reader.proofs.label.all_labels.Goals as goal

pub loop-thread-preserved : goal.loop-thread-preserved
loop-thread-preserved c =
    let t = c.loop-thread.thread in
    let rows = map row_view c.args.body.now.rows.items in
    let own = c.of.ensures ∙ c.in_ok-own.ensures ∙ ap (λ (rs : List (Vec Cell)). thread_labels (map row_view rs) t) c.as_slice.ensures.value in
    c.in_ok-push.ensures.items
    ∙ ap (λ (ls : List (List CodeLabel)). ls ++ c.of.result ∷ []) c.loop-thread.invariant
    ∙ ap (λ (ls : List CodeLabel). map (thread_labels rows) (range_with_len 0 t) ++ ls ∷ []) own
    ∙ sym (map-range_with_len_more (thread_labels rows) 0 t t (omega arith))
