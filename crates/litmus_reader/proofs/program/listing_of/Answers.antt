use Rattle.litmus_reader.proofs.Vocabulary.{◌≡◌, List, map, ap, ◌∙◌, range_with_len, Atom, Entry, entry_view, body_view, byte_in, entry_atoms, memory_from, registers_from}
use Rattle.litmus_reader.proofs.Filled.{threads_filled}
use Rattle.litmus_reader.proofs.program.listing_of.Goals as goal

pub returns : goal.returns
returns c =
    let numbered = byte_in c.args.names.now.locations in
    let body = body_view c.args.body.now in
    let said : c.in_ok-atoms.atoms.items ≡ entry_atoms numbered body.entries =
    c.in_ok-atoms.ensures ∙ ap (λ (entries : List Entry). entry_atoms numbered (map entry_view entries)) c.as_slice.ensures.value in
    let table : c.as_slice-4.result.now ≡ map (registers_from c.in_ok-atoms.atoms.items) (range_with_len 0 body.threads) =
    c.as_slice-4.ensures.value ∙ c.in_ok-registers.ensures ∙ ap (λ (atoms : List Atom). map (registers_from atoms) (range_with_len 0 body.threads)) c.as_slice-3.ensures.value in
    let threads = c.of.ensures ∙ c.in_ok-threads.ensures ∙ threads_filled numbered body c.as_slice-4.result.now c.args.targets.now c.in_ok-atoms.atoms.items said table c.requires in
    let memory = c.of-2.ensures ∙ c.in_ok-memory.ensures ∙ (λ i. memory_from (c.locations.ensures i) ((c.as_slice-2.ensures.value ∙ said) i)) in
    λ i. record { threads = threads i; memory = memory i }
