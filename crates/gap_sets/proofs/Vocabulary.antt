-- What many proofs of this crate speak of, imported once.
pub use Rattle.std.proofs.Common.{All, Bool, IsTrue, List, None, Option, Some, [], ap, arith, cond, eq-eqb, eqb-true, false, get_or, inl, inr, length, min, nat_eq, nat_lt, not, position, refl, suc}
pub use Rattle.std.proofs.Common.{sum_by, sym, true, unwrap_or, zero, ℕ, ◌%◌, ◌&&◌, ◌*◌, ◌+◌, ◌/◌, ◌<◌, ◌==◌, ◌^◌, ◌||◌, ◌↔◌, ◌∙◌, ◌∷◌, ◌≡◌, ◌≢◌, ◌≤◌, ◌⊎◌}
pub use Rattle.std.proofs.lemmas.Bool.{cases_lt, false_from_ne_true}
pub use Rattle.std.proofs.lemmas.Bool.Decides.{eqb_tells, nat_tests}
pub use Rattle.std.proofs.lemmas.List.FromFn.{get_or-range_with_len, length-range_with_len}
pub use Rattle.std.proofs.lemmas.List.Sums.{count_by-le-length, fails_before_first, length-filter, prefix_len_is, sum_by-cons, sum_by-le}
pub use Rattle.std.proofs.lemmas.Nat.{and_le_l, or_lt, xor_lt}
pub use Rattle.std.proofs.lemmas.Nat.Bits.{bit_at-lt, bit_at-suc, bit_at-trailing_zeros, bit_at-zero, bit_at_above, bit_at_and, bit_at_clear_other, bit_at_clear_same, bit_at_lowest, bit_at_not, bit_at_or}
pub use Rattle.std.proofs.lemmas.Nat.Bits.{bit_at_set_other, bit_at_set_same, bit_at_xor, shr_and_one}
pub use Rattle.std.proofs.lemmas.Option.{slice_get_cases, unwrap_or-slice_get}
pub use Rattle.std.specs.Cmp.{nat_cmp_total}
pub use Rattle.std.specs.Int.{bit_at, bit_not, trailing_zeros, w128}
pub use Rattle.std.specs.Int.RustNames.{bit_and, bit_or, bit_xor}
unfoldable pub use Rattle.std.specs.Int.RustNames.{count_ones}
pub use Rattle.std.specs.List.{filter, list_any, position_or_len, range_with_len}
pub use Rattle.std.specs.Ordering.{eq_by_cmp, nat_cmp}
pub use Rattle.gap_sets.specs.CostLists.{CostLimitsAreTheRefusals, IsCostList, first_cost_fault, first_free, first_too_large}
pub use Rattle.gap_sets.specs.Gaps.{IsGapSet, SetOfGaps}
unfoldable pub use Rattle.gap_sets.specs.Gaps.{numbers_of_set}
pub use Rattle.gap_sets.specs.Internal.Bits.{bits_of, has_bit}
unfoldable pub use Rattle.gap_sets.specs.Internal.Bits.{gaps_of_bits, list_of}
pub use Rattle.gap_sets.specs.Internal.BitsLaws.{any-below, bits_of-gaps_of, contains-gaps_of, no_bit}
pub use Rattle.gap_sets.specs.Laws.{BetterIsTotal, BetterIsTransitive, NoSetIsBetterThanItself, ProperSubsetIsBetter, ThreeGapsOfCostOne, ones, these}
pub use Rattle.gap_sets.specs.Order.{HasLeastDifference, cost_of}
unfoldable pub use Rattle.gap_sets.specs.Order.{total}
pub use Rattle.gap_sets.specs.declared.costs.TheConstants.{MAX_COST}
pub use Rattle.gap_sets.specs.declared.gap_set.TheConstants.{MAX_GAPS}
