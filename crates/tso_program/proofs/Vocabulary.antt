-- What many proofs of this crate speak of, imported once.
pub use Rattle.std.proofs.Common.{Bool, Decides, List, None, Option, Some, [], ap, append_assoc, arith, cond, drop, false, get_or, inl, inr, length, not, refl, rules, subst, suc, sym, take, tests}
pub use Rattle.std.proofs.Common.{true, true≢false, zero, ℕ, ◌%◌, ◌*◌, ◌++◌, ◌+◌, ◌-◌, ◌/◌, ◌<◌, ◌==◌, ◌∙◌, ◌∷◌, ◌≡◌, ◌≤◌, ◌⊎◌}
pub use Rattle.std.proofs.lemmas.Bool.{and_from, and_parts, cases_lt, le-ltb, leb-false, leb-true, lt-leb, ltb-false, ltb-true}
pub use Rattle.std.proofs.lemmas.Bool.Decides.{Decides-and, Decides-eqb, Decides-like, nat_tests}
pub use Rattle.std.proofs.lemmas.List.{append-nil, at_drop_all, ext_get_or, get_or_past, take_all}
pub use Rattle.std.proofs.lemmas.List.FromFn.{fill_by_all, get_or-map-range_with_len, length-map-range_with_len}
pub use Rattle.std.proofs.lemmas.List.Sums.{sum_by-cons}
pub use Rattle.std.proofs.lemmas.Option.{slice_get-get_or, slice_get_past}
pub use Rattle.std.proofs.lemmas.Slice.Eq.{slice_eq-Decides}
pub use Rattle.std.specs.Cmp.{Equal-is, IsTotalOrder, nat_cmp_total}
pub use Rattle.std.specs.Cmp.Lexicographic.{pointwise, slice_cmp}
pub use Rattle.std.specs.List.{AllByRecursion, enumerate_from, find, list_any, position_or_len, range_with_len}
pub use Rattle.std.specs.Option.{option_map, option_map_or}
pub use Rattle.std.specs.Ordering.{eq_by_cmp, is_eq, nat_cmp, ordering_reverse, ordering_then}
pub use Rattle.std.specs.Prelude.{IfSome, count_by, if◌then◌else◌, is_some, map, nat_eq, nat_le, nat_lt, option_and_then, position, slice_get, slice_index_or, sum_by, ◌&&◌, ◌||◌, ◌↔◌}
pub use Rattle.tso_program.specs.Actions.{IsLocated, act}
pub use Rattle.tso_program.specs.Fences.{FencingStaysWithinLimits, Gaps, fence, fenced_code, fenced_threads, gaps_in, moved, place_of}
pub use Rattle.tso_program.specs.Instructions.{location_of, number, target_of}
pub use Rattle.tso_program.specs.Internal.NamedNodes.{with_nodes}
pub use Rattle.tso_program.specs.Laws.{APartIsShownOfTheWhole, ATruthIsReadOffItsAtoms, EachIsPartOfAll, EachIsReadOffAll, EachPlaceIsNamed, EverythingShownIsTheOutcome, HaveOneShape, IsRegisterPlace}
pub use Rattle.tso_program.specs.Laws.{LocationPlacesAreDistinct, OtherLocationsAreZero, OtherRegistersAreZero, RegisterPlacesAreDistinct, RegistersLieApartFromLocations, ShowingTwiceIsShowingOnce}
pub use Rattle.tso_program.specs.Laws.{ShownLocationsAreKept, ShownRegistersAreKept, ShowsAtom, ShowsAtoms, ShowsPartOf, TruthsAreTold, WhatIsShownIsAlike, location_in, register_in}
pub use Rattle.tso_program.specs.Limits.{FencedLimitsAreTheRefusals, IsWithinFencedLimits, IsWithinLimits, IsWithinSharedLimits, ProgramLimitsAreTheRefusals, first_backward_in, first_fault}
pub use Rattle.tso_program.specs.Limits.{first_fenced_fault, first_found, first_long, first_past_end_in, first_true, is_astray, is_backward, is_past_end, shared_refusals, some_astray}
pub use Rattle.tso_program.specs.Listings.{accesses_of, code_of, gap_count, gap_number, gap_place, gaps_of_thread, instr_at, places_from}
pub use Rattle.tso_program.specs.Names.{ArePlaces, register_place}
pub use Rattle.tso_program.specs.Nodes.{formula_tree, nodes_of, tree_again}
pub use Rattle.tso_program.specs.Shown.{ShowsValues, show, show_memory, show_registers, shown_registers, shown_value, shown_values, shows_location, shows_register, told, value_if}
pub use Rattle.tso_program.specs.Tree.{KnownBy, Tree, truth_by}
pub use Rattle.tso_program.specs.Truth.{final_register, is_true_at, is_value, location_at, truth}
pub use Rattle.tso_program.specs.declared.atom.Atom.{Atom}
pub use Rattle.tso_program.specs.declared.instruction.Instr.{Instr}
pub use Rattle.tso_program.specs.declared.instruction.Instr.TheVariants.{CmpImm, CmpReg, Copy, Fence, Je, Jmp, Jne, Load, LoadImm, Store, StoreImm, Xchg}
pub use Rattle.tso_program.specs.declared.instruction.Reg.{Reg, TheVariants.Eax, TheVariants.Ebx, TheVariants.Ecx, TheVariants.Edi, TheVariants.Edx, TheVariants.Esi}
pub use Rattle.tso_program.specs.declared.instruction.TheConstants.{REGISTERS}
pub use Rattle.tso_program.specs.declared.limits.TheConstants.{MAX_ACCESSES, MAX_FENCED_INSTRUCTIONS, MAX_INSTRUCTIONS, MAX_LOCATIONS, MAX_THREADS}
pub use Rattle.tso_program.specs.declared.listing.Listing.{Listing}
pub use Rattle.tso_program.specs.declared.listing.Thread.{Thread}
pub use Rattle.tso_program.specs.declared.node.FormulaNode.{FormulaNode}
pub use Rattle.tso_program.specs.declared.outcome.Outcome.{Outcome}
pub use Rattle.tso_program.specs.declared.shown.Shown.{Shown, TheVariants.All, TheVariants.Only, TheVariants.Truth}
pub use Rattle.tso_program.specs.declared.shown.TheConstants.{PLACES, REGISTER_PLACES}
