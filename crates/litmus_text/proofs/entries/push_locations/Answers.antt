use Rattle.litmus_text.proofs.Vocabulary.{ℕ, List, ◌++◌, ap, ◌∙◌, text_of, entry_pieces, location_entry}
use Rattle.litmus_text.proofs.TextsGrow.{number_more}
use Rattle.litmus_text.proofs.entries.push_locations.Goals as goal

pub loop-location-preserved : goal.loop-location-preserved
loop-location-preserved c =
    let entry = location_entry c.args.names.now.locations c.args.memory.now in
    c.in_ok-push_location.ensures
    ∙ ap (λ (bs : List ℕ). bs ++ text_of (entry_pieces (entry c.loop-location.location))) c.loop-location.invariant
    ∙ number_more entry_pieces entry c.args.out.now.items c.loop-location.location
