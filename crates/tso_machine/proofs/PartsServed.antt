-- What holds where more is shown holds where a part of it is.
use Rattle.std.proofs.Common.{Bool, refl, sym, ap, ◌∙◌, inl, inr}
use Rattle.tso_program.specs.declared.listing.Listing.{Listing}
use Rattle.tso_program.specs.declared.outcome.Outcome.{Outcome}
use Rattle.tso_program.specs.declared.shown.Shown.{Shown}
use Rattle.tso_program.specs.Fences.{gaps_in}
use Rattle.tso_machine.specs.Machine.{Machine, SequentialMachine, StoreBufferMachine}
use Rattle.tso_machine.specs.Outcomes.{AllowsShown, LeavesOutcome}
use Rattle.std.proofs.lemmas.Bool.{cases_lt}
use Rattle.gap_sets.specs.Order.{total}
use Rattle.tso_program.specs.Shown.{show, told, asked}
use Rattle.tso_machine.specs.FenceLaws.{WhatServesServesEachPart}
use Rattle.tso_machine.specs.FenceLaws.{WhatServesServesTheTruth, AnObservedAnswerCostsNoMore, ATruthsAnswerCostsNoMore, LeavesTruth, AServedTruthIsKept}
use Rattle.tso_program.specs.{declared.shown.Shown.TheVariants.Truth, declared.atom.Atom.Atom, Tree.Tree, Truth.truth, Laws.IsReadOff}
use Rattle.tso_program.proofs.ReadOff.{truth_read_off, told_apart}

module _ (p : Listing) (small large : Shown) (part : IsReadOff small large) where
  -- where one machine shows no more than another, it shows no more of a part
  pub parts_allowed : (mode other : Machine) → ((o : Outcome) → AllowsShown (asked p large) mode o → AllowsShown (asked p large) other o) →
      (o : Outcome) → AllowsShown (asked p small) mode o → AllowsShown (asked p small) other o
  parts_allowed mode other each o (labels, (whole, is_run, e)) =
      let (others, (found, is_other, same)) = each (show large whole) (labels, (whole, is_run, refl)) in
      (others, (found, is_other, e ∙ (sym (part whole) ∙ ap (show small) same ∙ part found)))

pub part_served : WhatServesServesEachPart
part_served p small large gaps part serves o = (
  parts_allowed p small large part (StoreBufferMachine (gaps_in p gaps)) SequentialMachine (λ shown. (serves shown).0) o,
  parts_allowed p small large part SequentialMachine (StoreBufferMachine (gaps_in p gaps)) (λ shown. (serves shown).1) o,
)

-- a cheaper set that serves for more would be better, and so leave an outcome of the part
pub no_more : AnObservedAnswerCostsNoMore
no_more p small large costs part whole inside one other =
    elim (cases_lt (total costs whole) (total costs part)) [
      | inl less ↦
          let left : LeavesOutcome (asked p small) whole = one.least whole other.of_program (inl less) in
          absurd (left.foreign ((part_served p small large whole inside other.serves left.outcome).0 left.left))
      | inr not_less ↦ not_less
    ]

pub truth_served : WhatServesServesTheTruth
truth_served p f shown gaps of named = part_served p (Truth f) shown gaps (truth_read_off f shown of named)

pub truth_no_more : ATruthsAnswerCostsNoMore
truth_no_more p f shown costs one other of named = no_more p (Truth f) shown costs one other (truth_read_off f shown of named)

-- ---- what serving for a truth says of runs

module _ (p : Listing) (f : Tree Atom) where
  -- where the one machine shows no more than the other, it leaves no other truth, and the other way round
  truths_forth : (mode other : Machine) → ((o : Outcome) → AllowsShown (asked p (Truth f)) mode o → AllowsShown (asked p (Truth f)) other o) →
      (b : Bool) → LeavesTruth p mode f b → LeavesTruth p other f b
  truths_forth mode other each b (labels, (o, is_run, e)) =
      let (others, (found, is_other, same)) = each (told b) (labels, (o, is_run, sym (ap told e))) in
      (others, (found, is_other, sym (told_apart b (truth found f) same)))

  truths_back : (mode other : Machine) → ((b : Bool) → LeavesTruth p mode f b → LeavesTruth p other f b) →
      (o : Outcome) → AllowsShown (asked p (Truth f)) mode o → AllowsShown (asked p (Truth f)) other o
  truths_back mode other each o (labels, (whole, is_run, e)) =
      let (others, (found, is_other, same)) = each (truth whole f) (labels, (whole, is_run, refl)) in
      (others, (found, is_other, e ∙ sym (ap told same)))

pub truth_kept : AServedTruthIsKept
truth_kept p f gaps = (
  λ serves b. (truths_forth p f (StoreBufferMachine (gaps_in p gaps)) SequentialMachine (λ o. (serves o).0) b, truths_forth p f SequentialMachine (StoreBufferMachine (gaps_in p gaps)) (λ o. (serves o).1) b),
  λ kept o. (truths_back p f (StoreBufferMachine (gaps_in p gaps)) SequentialMachine (λ b. (kept b).0) o, truths_back p f SequentialMachine (StoreBufferMachine (gaps_in p gaps)) (λ b. (kept b).1) o),
)
