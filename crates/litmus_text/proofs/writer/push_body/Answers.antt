use Rattle.litmus_text.proofs.Vocabulary.{◌≡◌, ℕ, List, ◌++◌, length, ap, ◌∙◌, flat_map, Piece, text_of, gaps_in, Listing, Thread, initial_pieces, header_pieces, row_pieces, entries_of, moved_labels, rows_of}
use Rattle.litmus_text.proofs.TextsGrow.{grown}
use Rattle.litmus_text.proofs.writer.push_body.Goals as goal

pub returns : goal.returns
returns c =
    let litmus = c.args.litmus.now in
    let fenced = c.args.fenced.now in
    let out = c.args.out.now.items in
    let given : Listing = record { threads = c.threads-threads.result.now; memory = c.memory.result.now } in
    let same : given ≡ fenced = λ i. record { threads = c.threads-threads.ensures.value i; memory = c.memory.ensures.value i } in
    let initial : List Piece = initial_pieces (entries_of litmus.names fenced) in
    let header : List Piece = header_pieces (length fenced.threads) in
    let rows : List Piece = flat_map row_pieces (rows_of litmus.names.locations (moved_labels (gaps_in litmus.program c.args.gaps.now) 0 litmus.labels) fenced.threads) in
    let begun = c.in_ok-push_initial.ensures ∙ ap (λ (p : Listing). out ++ text_of (initial_pieces (entries_of litmus.names p))) same in
    let headed = c.in_ok-push_header.ensures ∙ ap (λ (threads : List Thread). c.push_initial.new.out.items ++ text_of (header_pieces (length threads))) c.threads-threads.ensures.value ∙ ap (λ (bs : List ℕ). bs ++ text_of header) begun in
    c.in_ok-push_rows.ensures ∙ ap (λ (bs : List ℕ). bs ++ text_of rows) headed ∙ (grown (out ++ text_of initial) header rows ∙ grown out initial (header ++ rows))
