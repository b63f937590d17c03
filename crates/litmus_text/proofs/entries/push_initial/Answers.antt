use Rattle.litmus_text.proofs.Vocabulary.{ℕ, List, ◌++◌, codes, ap, ◌∙◌, flat_map, text_of, entry_pieces, location_entries, register_entries}
use Rattle.litmus_text.proofs.TextsGrow.{braces}
use Rattle.litmus_text.proofs.entries.push_initial.Goals as goal

pub returns : goal.returns
returns c =
    let locations = location_entries c.args.names.now.locations c.args.memory.now in
    let registers = register_entries c.args.names.now 0 c.args.threads.now in
    c.in_ok-extend_from_slice.ensures.items
    ∙ ap (λ (bs : List ℕ). bs ++ codes " }\n") (c.in_ok-push_registers.ensures
    ∙ ap (λ (bs : List ℕ). bs ++ text_of (flat_map entry_pieces registers)) (c.in_ok-push_locations.ensures
    ∙ ap (λ (bs : List ℕ). bs ++ text_of (flat_map entry_pieces locations)) c.in_ok-push.ensures.items))
    ∙ braces c.args.out.now.items locations registers
