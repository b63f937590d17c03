-- Replays with no gap fenced.
use Rattle.tso_machine.proofs.Vocabulary.{◌≡◌, ℕ, List, Option, None, Some, false, nat_cmp, refl, ap, ◌∙◌, subst, fun_ext, option_map_or, SetOfGaps, Listing, Outcome, gap_number, gaps_in, Label, Model, StoreBufferMachine, no_gaps, IsRun, machine_of_model}
use Rattle.tso_machine.proofs.Vocabulary.{unfenced, ArePassed}
use Rattle.std.specs.FinSet as set
use Rattle.tso_program.specs.{declared.shown.Shown.Shown, Shown.show, Shown.asked}
use Rattle.tso_machine.specs.declared.label.Model.TheVariants as models
use Rattle.tso_machine.specs.Outcomes.{IsReplayOf}

-- the empty set has no gap
pub empty_fences_nothing : (p : Listing) → gaps_in p set.empty ≡ no_gaps
empty_fences_nothing p = fun_ext (λ t. fun_ext (λ k. none (gap_number p.threads t k)))
  where
    none : (o : Option ℕ) → option_map_or (set.contains (set.empty {R = nat_cmp})) o false ≡ false
    none None = refl
    none (Some gap) = set.contains-empty nat_cmp gap

-- so with the empty set fenced a model's machine is the one with no gap fenced
pub unfenced_is : (p : Listing) (model : Model) (empty : SetOfGaps) → empty ≡ set.empty → machine_of_model p empty model ≡ unfenced model
unfenced_is p models.Sequential empty same = refl
unfenced_is p models.Buffered empty same = ap StoreBufferMachine (ap (gaps_in p) same ∙ empty_fences_nothing p)

-- what a replay says of a run, where its outcome is as it is shown
pub replayed_is : (p : Listing) (model : Model) (labels : List Label) (empty : SetOfGaps) → empty ≡ set.empty → (shown : Shown) (whole part : Outcome) (passed : SetOfGaps) →
    IsRun p (machine_of_model p empty model) labels whole → ArePassed p (machine_of_model p empty model) labels passed → part ≡ show shown whole →
    IsReplayOf (asked p shown) model labels (record { outcome = part; passed = passed })
replayed_is p model labels empty is_empty shown whole part passed run are is = record {
  is_run = (whole, subst (λ m. IsRun p m labels whole) (unfenced_is p model empty is_empty) run, is);
  passed = subst (λ m. ArePassed p m labels passed) (unfenced_is p model empty is_empty) are;
}
