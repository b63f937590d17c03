-- What serves for the values that a text names serves for the truth of its condition.
use Rattle.std.proofs.Common.{◌≡◌, ◌∙◌, ℕ, ◌<◌, ◌≤◌, Bool, true, not, List, Option, length, refl, sym, ap, inl, inr, arith}
use Rattle.std.specs.Prelude.{◌&&◌, ◌||◌, option_and_then, slice_get}
use Rattle.std.proofs.lemmas.Bool.{cases_lt}
use Rattle.std.proofs.lemmas.Option.{slice_get_past}
use Rattle.tso_program.specs.declared.listing.Listing.{Listing}
use Rattle.tso_program.specs.Tree.{Tree}
use Rattle.litmus_text.specs.TextLaws.{AConditionsAnswerCostsNoMore}
use Rattle.std.proofs.lemmas.List.FromFn.{length-map-range_with_len}
use Rattle.gap_sets.specs.{Gaps.SetOfGaps, Order.total}
use Rattle.tso_program.specs.{declared.instruction.Reg.Reg, declared.outcome.Outcome.Outcome, declared.shown.Shown.Shown, declared.shown.Shown.TheVariants.Truth, declared.atom.Atom.Atom}
use Rattle.tso_program.specs.{Instructions.number, Truth.truth, Truth.is_value, Named.MentionsRegister, Named.MentionsLocation}
use Rattle.tso_program.specs.{Shown.shows_register, Shown.shows_location, Shown.show_registers, Shown.show_memory, Shown.shown_values, Shown.show, Shown.told, Shown.asked, Limits.IsWithinLimits}
use Rattle.tso_program.specs.{Fences.gaps_in, declared.limits.TheConstants.MAX_THREADS, declared.limits.TheConstants.MAX_LOCATIONS}
use Rattle.tso_program.specs.declared.atom.Atom.TheVariants as atom
use Rattle.tso_program.specs.Tree as tree
use Rattle.tso_program.proofs.{Kept.memory_long, Kept.threads_long, ReadOff.atom_kept}
use Rattle.tso_machine.specs.{declared.label.Label.Label, Machine.Machine, Machine.SequentialMachine, Machine.StoreBufferMachine, Machine.IsRun}
use Rattle.tso_machine.specs.Outcomes.{AllowsShown, IsTheAnswer, LeavesOutcome, Serves}
use Rattle.litmus_reader.specs.{declared.observed.Observed.Observed, Shown.shown_by}
use Rattle.litmus_reader.proofs.ShownPlaces.{shows_registers, shows_locations}

-- ---- outcomes of programs within the limits

-- no more threads and locations than a program may have
pub record IsSmall (o : Outcome) : Type 0 where
  pub few_threads : length o.registers ≤ MAX_THREADS
  pub few_locations : length o.memory ≤ MAX_LOCATIONS

pub small : (p : Listing) (mode : Machine) (labels : List Label) (o : Outcome) → IsWithinLimits p.threads p.memory → IsRun p mode labels o → IsSmall o
small p mode labels o within (last, ran, ended, is) = record {
  few_threads = (let many = ap (λ (x : Outcome). length x.registers) is ∙ length-map-range_with_len (λ t. (last.locals t).registers) 0 (length p.threads) in
      let few = within.shared.few_threads in omega arith);
  few_locations = (let many = ap (λ (x : Outcome). length x.memory) is ∙ length-map-range_with_len last.memory 0 (length p.memory) in
      let few = within.shared.few_locations in omega arith);
}

-- ---- a truth, from the values that the formula names

-- what a formula mentions within the limits is shown
record ShowsNamed (shown : Shown) (f : Tree Atom) : Type 0 where
  registers : (t : ℕ) (r : Reg) → t < MAX_THREADS → MentionsRegister f t r → shows_register shown t (number r) ≡ true
  locations : (l : ℕ) → l < MAX_LOCATIONS → MentionsLocation f l → shows_location shown l ≡ true

module _ (shown : Shown) (o : Outcome) (few : IsSmall o) where
  no_thread : (t : ℕ) → MAX_THREADS ≤ t → slice_get (show_registers shown o.registers) t ≡ slice_get o.registers t
  no_thread t past =
      let long = threads_long shown o.registers in
      let most = few.few_threads in
      slice_get_past (show_registers shown o.registers) t (omega arith) ∙ sym (slice_get_past o.registers t (omega arith))

  no_location : (l : ℕ) → MAX_LOCATIONS ≤ l → slice_get (show_memory shown o.memory) l ≡ slice_get o.memory l
  no_location l past =
      let long = memory_long shown o.memory in
      let most = few.few_locations in
      slice_get_past (show_memory shown o.memory) l (omega arith) ∙ sym (slice_get_past o.memory l (omega arith))

  told_by_names : (f : Tree Atom) → ShowsNamed shown f → truth (shown_values shown o) f ≡ truth o f
  told_by_names (tree.Atom (atom.Register t r v)) named = elim (cases_lt t MAX_THREADS) [
    | inl h ↦ atom_kept shown o (atom.Register t r v) (named.registers t r h (refl, refl))
    | inr past ↦ ap (λ (x : Option (List ℕ)). is_value (option_and_then (λ registers. slice_get registers (number r)) x) v) (no_thread t past)
  ]
  told_by_names (tree.Atom (atom.Location l v)) named = elim (cases_lt l MAX_LOCATIONS) [
    | inl h ↦ atom_kept shown o (atom.Location l v) (named.locations l h refl)
    | inr past ↦ ap (λ (x : Option ℕ). is_value x v) (no_location l past)
  ]
  told_by_names (tree.Const b) named = refl
  told_by_names (tree.Not f) named = ap not (told_by_names f (record { registers = named.registers; locations = named.locations }))
  told_by_names (tree.And f g) named =
      ap (λ (b : Bool). b && truth (shown_values shown o) g) (told_by_names f (record { registers = λ t r h m. named.registers t r h (inl m); locations = λ l h m. named.locations l h (inl m) }))
      ∙ ap (λ (b : Bool). truth o f && b) (told_by_names g (record { registers = λ t r h m. named.registers t r h (inr m); locations = λ l h m. named.locations l h (inr m) }))
  told_by_names (tree.Or f g) named =
      ap (λ (b : Bool). b || truth (shown_values shown o) g) (told_by_names f (record { registers = λ t r h m. named.registers t r h (inl m); locations = λ l h m. named.locations l h (inl m) }))
      ∙ ap (λ (b : Bool). truth o f || b) (told_by_names g (record { registers = λ t r h m. named.registers t r h (inr m); locations = λ l h m. named.locations l h (inr m) }))

-- ---- a formula and observed places, and a program

named : (f : Tree Atom) (observed : List Observed) → ShowsNamed (shown_by f observed) f
named f observed = record {
  registers = λ t r h mentions. (shows_registers f observed t r h).1 (inl mentions);
  locations = λ l h mentions. (shows_locations f observed l h).1 (inl mentions);
}

-- outcomes whose named values are the same have the same truth
pub same_truth : (f : Tree Atom) (observed : List Observed) (whole other : Outcome) → IsSmall whole → IsSmall other → show (shown_by f observed) whole ≡ show (shown_by f observed) other
    → truth whole f ≡ truth other f
same_truth f observed whole other few few_others e =
    sym (told_by_names (shown_by f observed) whole few f (named f observed)) ∙ ap (λ (o : Outcome). truth o f) e ∙ told_by_names (shown_by f observed) other few_others f (named f observed)

module _ (p : Listing) (within : IsWithinLimits p.threads p.memory) (f : Tree Atom) (observed : List Observed) where
  abbrev names : Shown
  names = shown_by f observed

  -- where one machine shows no more of the names than another, it shows no more of the truth
  truths_allowed : (mode other : Machine) → ((o : Outcome) → AllowsShown (asked p names) mode o → AllowsShown (asked p names) other o) →
      (o : Outcome) → AllowsShown (asked p (Truth f)) mode o → AllowsShown (asked p (Truth f)) other o
  truths_allowed mode other each o (labels, (whole, is_run, e)) = from (each (show names whole) (labels, (whole, is_run, refl)))
    where
      from : AllowsShown (asked p names) other (show names whole) → AllowsShown (asked p (Truth f)) other o
      from (others, (found, is_other, same)) =
          (others, (found, is_other, e ∙ ap told (same_truth f observed whole found (small p mode labels whole within is_run) (small p other others found within is_other) same)))

  pub served : (gaps : SetOfGaps) → Serves (asked p names) gaps → Serves (asked p (Truth f)) gaps
  served gaps serves o = (
    truths_allowed (StoreBufferMachine (gaps_in p gaps)) SequentialMachine (λ shown. (serves shown).0) o,
    truths_allowed SequentialMachine (StoreBufferMachine (gaps_in p gaps)) (λ shown. (serves shown).1) o,
  )

  -- a cheaper set that serves for the names would be better, and so leave a truth
  no_more : (costs : List ℕ) (of_truth of_names : SetOfGaps) → IsTheAnswer (asked p (Truth f)) costs of_truth → IsTheAnswer (asked p names) costs of_names → total costs of_truth ≤ total costs of_names
  no_more costs of_truth of_names one other = elim (cases_lt (total costs of_names) (total costs of_truth)) [
    | inl less ↦
        let left : LeavesOutcome (asked p (Truth f)) of_names = one.least of_names other.of_program (inl less) in
        absurd (left.foreign ((served of_names other.serves left.outcome).0 left.left))
    | inr not_less ↦ not_less
  ]

pub condition_costs_no_more : AConditionsAnswerCostsNoMore
condition_costs_no_more text litmus costs of_truth of_names is one other = no_more litmus.program is.1 litmus.condition.formula litmus.observed costs of_truth of_names one other
