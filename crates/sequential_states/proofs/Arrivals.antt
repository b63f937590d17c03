-- The labels to a listed state, gathered from the last to the first.
use Rattle.sequential_states.proofs.Vocabulary.{◌≡◌, ℕ, ◌<◌, List, [], ◌∷◌, ◌++◌, Option, Some, None, length, get_or, reverse, reverse-append, refl, sym, ap, ◌∙◌, subst, option_and_then, slice_get, slice_get-get_or}
use Rattle.sequential_states.proofs.Vocabulary.{Listing, Label, Exec, SequentialMachine, step, run, state_of, first_shot, Arrival, Listed, AreReached, ArrivalsLeadBack, IsArrival, LeadTo}
use Rattle.sequential_states.proofs.Steps.{state_of_first}

pub lead_back : (p : Listing) (listed : List Listed) → AreReached p listed → ArrivalsLeadBack listed
lead_back p listed reached place entry arrival there e =
    let is : IsArrival p listed place entry.state (Some arrival) = subst (IsArrival p listed place entry.state) e (reached place entry there).arrival in
    let (from, from_is, before, made) = is in before

-- the labels that are gathered lead from the state at this place to the one that is asked for
abbrev pub LeadOn : List Listed → ℕ → List Label → ℕ → Type 0
LeadOn listed place labels at = (p : Listing) (here entry : Listed) → AreReached p listed → slice_get listed at ≡ Some here → slice_get listed place ≡ Some entry →
    run p SequentialMachine (state_of here.state) (reverse labels) ≡ Some (state_of entry.state)

pub lead_nowhere : (listed : List Listed) (place : ℕ) → LeadOn listed place [] place
lead_nowhere listed place p here entry reached there is =
    let same : here ≡ entry = (let z : Some here ≡ Some entry = sym there ∙ is in cc) in
    ap (λ (x : Listed). Some (state_of x.state)) same

module _ (listed : List Listed) (place at : ℕ) (labels : List Label) (o : Option Arrival) (inside : at < length listed) (found : (entry : Listed) → slice_get listed at ≡ Some entry → o ≡ entry.arrival) where
  -- what stands at the place
  there : (entry : Listed) × (slice_get listed at ≡ Some entry)
  there = go (slice_get listed at) refl
    where
      go : (x : Option Listed) → slice_get listed at ≡ x → (entry : Listed) × (slice_get listed at ≡ Some entry)
      go (Some entry) e = (entry, e)
      go None e = let d : Listed = record { state = record { locals = []; memory = [] }; arrival = None } in absurd (let z : None ≡ Some (get_or listed at d) = sym e ∙ slice_get-get_or listed at d inside in cc)

  pub before_it : (arrival : Arrival) → ArrivalsLeadBack listed → o ≡ Some arrival → arrival.from < at
  before_it arrival back e = back at there.0 arrival there.1 (sym (found there.0 there.1) ∙ e)

  pub lead_further : (arrival : Arrival) → o ≡ Some arrival → LeadOn listed place labels at → LeadOn listed place (labels ++ Exec arrival.thread ∷ []) arrival.from
  lead_further arrival e on p here entry reached from is =
      let (x, is_there) = there in
      let (before, before_is, earlier, made) = subst (IsArrival p listed at x.state) (sym (found x is_there) ∙ e) (reached at x is_there).arrival in
      let same : before ≡ here = (let z : Some before ≡ Some here = sym before_is ∙ from in cc) in
      let goes : step p SequentialMachine (state_of here.state) (Exec arrival.thread) ≡ Some (state_of x.state) = subst (λ (y : Listed). step p SequentialMachine (state_of y.state) (Exec arrival.thread) ≡ Some (state_of x.state)) same made in
      ap (run p SequentialMachine (state_of here.state)) (reverse-append labels (Exec arrival.thread ∷ []))
      ∙ ap (option_and_then (λ z. run p SequentialMachine z (reverse labels))) goes
      ∙ on p x entry reached is_there is

  pub lead_from_start : o ≡ None → LeadOn listed place labels at → LeadTo listed place (reverse labels)
  lead_from_start e on p entry reached is =
      let (x, is_there) = there in
      let first : x.state ≡ first_shot p = subst (IsArrival p listed at x.state) (sym (found x is_there) ∙ e) (reached at x is_there).arrival in
      subst (λ z. run p SequentialMachine z (reverse labels) ≡ Some (state_of entry.state)) (ap state_of first ∙ state_of_first p) (on p x entry reached is_there is)
