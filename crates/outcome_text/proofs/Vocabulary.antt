-- What many proofs of this crate speak of, imported once.
pub use Rattle.std.proofs.Common.{List, [], ap, append_assoc, arith, get_or, length, map, refl}
pub use Rattle.std.proofs.Common.{sym, take, ℕ, ◌++◌, ◌+◌, ◌<◌, ◌∙◌, ◌∷◌, ◌≡◌, ◌≤◌}
pub use Rattle.std.proofs.lemmas.List.{flat_map_more, length-map, length-take, map_more, take_more}
pub use Rattle.std.proofs.lemmas.List.Folds.{flat_map-map}
pub use Rattle.std.proofs.lemmas.List.FromFn.{map-range_with_len_more}
pub use Rattle.std.specs.Global.{Vec}
pub use Rattle.std.specs.List.{flat_map, join_with_byte, range_with_len}
pub use Rattle.litmus_reader.specs.Internal.Filling.{texts}
pub use Rattle.litmus_reader.specs.Names.{all_registers}
pub use Rattle.tso_program.specs.declared.instruction.Reg.{TheVariants.Eax}
pub use Rattle.outcome_text.specs.Outcomes.{location_items, named_item, register_items, shown_item, thread_items}
