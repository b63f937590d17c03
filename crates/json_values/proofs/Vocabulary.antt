-- What many proofs of this crate speak of, imported once.
pub use Rattle.std.proofs.Common.{List, [], ap, arith, get_or, map, sym, take, ℕ, ◌++◌, ◌∙◌, ◌∷◌, ◌≡◌}
pub use Rattle.std.proofs.lemmas.List.{map-append, map_more}
pub use Rattle.std.specs.List.{flat_map}
pub use Rattle.json_text.specs.Texts.{quoted}
pub use Rattle.outcome_text.proofs.Joined.{flat_more, flat_range_more}
pub use Rattle.tso_machine.specs.RunTexts.{spelling}
pub use Rattle.tso_machine.specs.declared.label.Label.{Label}
pub use Rattle.json_values.specs.Gaps.{quoted_gap}
pub use Rattle.json_values.specs.Labels.{labels_array}
pub use Rattle.json_values.specs.Outcomes.{location_value, location_values, outcome_array, register_value, register_values, thread_values}
pub use Rattle.litmus_text.specs.Names.{all_registers}
