-- What many proofs of this crate speak of, imported once.
pub use Rattle.std.proofs.Common.{IsTrue, List, [], ap, arith, false, get_or, inl, inr, length, nat_eq, not, refl, replicate, set, subst, suc, sym, true, zero, ℕ, ◌%◌, ◌*◌, ◌++◌, ◌+◌, ◌-◌, ◌/◌, ◌<◌}
pub use Rattle.std.proofs.Common.{◌^◌, ◌↔◌, ◌∙◌, ◌∷◌, ◌≡◌, ◌≢◌, ◌≤◌, ◌⊎◌}
pub use Rattle.std.proofs.lemmas.Bool.{cases_eq, cases_lt}
pub use Rattle.std.proofs.lemmas.Nat.Bits.{bit_at-lt, bit_at-trailing_zeros, bit_at-zero, bit_at_above, bit_at_and, bit_at_cat_high, bit_at_cat_low, bit_at_clear_other, bit_at_clear_same, bit_at_not}
pub use Rattle.std.proofs.lemmas.Nat.Bits.{bit_at_or, bit_at_set_other, bit_at_set_same}
pub use Rattle.std.specs.Int.{bit_at, bit_not, trailing_zeros, w32}
pub use Rattle.std.specs.Int.RustNames.{bit_and, bit_or}
pub use Rattle.bit_rows.specs.Rows.{HasRound, IsIn, IsReach, IsTransitive, LeadsInto, Meets, Reaches, RowHas, RowsLead}
