use Rattle.litmus_reader.proofs.Vocabulary.{List, map, fold, ap, ◌∙◌, flat_map, Vec, Entry, Cell, Place, place_view, entry_view, row_view, sign_at_view, noted, entry_place, row_places, sign_places}
use Rattle.litmus_syntax.specs.declared.formula.SignAt.{SignAt}
use Rattle.litmus_reader.proofs.Filled.{noted_parts}
use Rattle.litmus_reader.proofs.noted_names.note_all.Goals as goal

pub returns : goal.returns
returns c =
    noted_parts c.args.body.now.threads _ _ _ _ _ _ (flat_map sign_places (map sign_at_view c.args.ending.now.signs.signs.items))
    c.args.names.now c.note_entries.new.names c.note_rows.new.names c.note_places.new.names c.note_signs.new.names
    (ap (λ (entries : List Entry). map entry_place (map entry_view entries)) c.as_slice.ensures.value)
    (ap (λ (rows : List (Vec Cell)). flat_map row_places (map row_view rows)) c.as_slice-2.ensures.value)
    (ap (λ (places : List Place). map place_view places) c.as_slice-3.ensures.value)
    c.requires c.in_ok-note_entries.ensures c.in_ok-note_rows.ensures c.in_ok-note_places.ensures
    (c.in_ok-note_signs.ensures ∙ ap (λ (signs : List SignAt). fold noted c.note_places.new.names (flat_map sign_places (map sign_at_view signs))) c.as_slice-4.ensures.value)
