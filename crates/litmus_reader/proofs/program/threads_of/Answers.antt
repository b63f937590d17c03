use Rattle.litmus_reader.proofs.Vocabulary.{◌≡◌, ℕ, ◌∷◌, ◌++◌, [], List, map, get_or, replicate, sym, ap, ◌∙◌, arith, Option, unwrap_or, range_with_len, get_or_default, map-range_with_len_more, Thread, row_view, byte_in, byte_at, thread_in, code_in}
use Rattle.litmus_reader.proofs.program.threads_of.Goals as goal

pub loop-thread-preserved : goal.loop-thread-preserved
loop-thread-preserved c =
    let numbered = byte_in c.args.names.now.locations in
    let t = c.loop-thread.thread in
    let rows = map row_view c.args.body.now.rows.items in
    let targets = c.args.targets.now in
    let own : c.index-targets-thread.result ≡ get_or targets t [] = c.index-targets-thread.is ∙ get_or_default targets t c.index-targets-thread.result [] c.loop-thread-test.true in
    let code : c.of.result ≡ code_in numbered (byte_at (get_or targets t [])) rows t =
    c.of.ensures ∙ c.in_ok-code.ensures ∙ (λ i. code_in numbered (byte_at (own i)) (map row_view (c.as_slice.ensures.value i)) t) in
    let registers = c.unwrap_or.ensures ∙ ap (λ (o : Option (List ℕ)). unwrap_or o (replicate 6 0)) c.copied.ensures ∙ c.get.ensures.lookup.4 (omega arith) (replicate 6 0) in
    c.in_ok-push.ensures.items
    ∙ ap (λ (ts : List Thread). ts ++ record { code = c.of.result; registers = c.unwrap_or.result } ∷ []) c.loop-thread.invariant
    ∙ (λ i. map (thread_in numbered rows c.args.registers.now targets) (range_with_len 0 t) ++ record { code = code i; registers = registers i } ∷ [])
    ∙ sym (map-range_with_len_more (thread_in numbered rows c.args.registers.now targets) 0 t t (omega arith))
