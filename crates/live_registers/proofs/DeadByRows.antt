-- The tables of live registers give the dead loads.
use Rattle.std.proofs.Common.{◌≡◌, ◌↔◌, not, ℕ, ◌+◌, ◌<◌, Bool, true, false, List, [], ◌∷◌, length, Option, Some, refl, ap, ◌∙◌, arith, slice_index_or}
use Rattle.std.proofs.lemmas.Option.{slice_get_within}
use Rattle.tso_program.specs.declared.instruction.Instr.{Instr}
use Rattle.tso_program.specs.declared.instruction.Instr.TheVariants.{Load}
use Rattle.tso_program.specs.declared.listing.Listing.{Listing}
use Rattle.tso_program.specs.declared.shown.Shown.{Shown}
use Rattle.tso_program.specs.Instructions.{number}
use Rattle.tso_program.specs.Listings.{code_of, instr_at}
use Rattle.tso_program.proofs.{Found.thread_there, Registers.small_number}
use Rattle.dataflow_laws.specs.DeadLoads.{IsDeadLoad, AreAllDead}
use Rattle.live_registers.specs.LiveRows.{in_row, AreLiveTables}
use Rattle.live_registers.specs.DeadPlaces.{is_dead, dead_by}
use Rattle.live_registers.proofs.RowsStep.{not_of}

not_both : (b : Bool) → not b ≡ true → b ≡ true → ⊥
not_both true n e = cc
not_both false n e = cc

module _ (p : Listing) (shown : Shown) (tables : List (List (List Bool))) (are : AreLiveTables p shown tables) (t k : ℕ) where
  abbrev after : List Bool
  after = slice_index_or (slice_index_or tables t []) (k + 1) []

  dead : (o : Option Instr) → instr_at p.threads t k ≡ o → is_dead o after ≡ true → IsDeadLoad p shown t k
  dead (Some (Load r l)) at e =
      let exact = (are.each t (thread_there p.threads t k (Load r l) at)).exact in
      let within : k < length (code_of p.threads t) = slice_get_within (code_of p.threads t) k (Load r l) at in
      (r, l, at, λ live. not_both (in_row after (number r)) e ((exact (k + 1) (number r) (omega arith) (omega arith) (small_number r)).1 live))
  dead o at e = absurd cc

  back : IsDeadLoad p shown t k → is_dead (instr_at p.threads t k) after ≡ true
  back (r, l, at, none) =
      let exact = (are.each t (thread_there p.threads t k (Load r l) at)).exact in
      let within : k < length (code_of p.threads t) = slice_get_within (code_of p.threads t) k (Load r l) at in
      ap (λ o. is_dead o after) at ∙ not_of (in_row after (number r)) (λ b. none ((exact (k + 1) (number r) (omega arith) (omega arith) (small_number r)).0 b))

  pub dead_is : (dead_by p tables t k ≡ true) ↔ IsDeadLoad p shown t k
  dead_is = (λ e. dead (instr_at p.threads t k) refl e, back)

pub all_dead : (p : Listing) (shown : Shown) (tables : List (List (List Bool))) → AreLiveTables p shown tables → AreAllDead p shown (dead_by p tables)
all_dead p shown tables are t k = dead_is p shown tables are t k
