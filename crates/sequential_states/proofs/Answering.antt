-- What a list of states says of an instruction.
use Rattle.sequential_states.proofs.Vocabulary.{◌≡◌, inl, inr, cases_lt, length, code_of, slice_get_past, ℕ, Bool, true, false, List, ◌∷◌, Some, None, sym, ap, ◌∙◌, subst, Listing, Stop, act, action, instr_at, Exec, SequentialMachine, State, direct, run, start, outcome_at}
use Rattle.sequential_states.proofs.Vocabulary.{Shot, StandsAt, HasNoStep, IsThreadAtEnd, Listed, Walk, TellsAll, ArrivalsLeadBack, WalksOn, HasEach, IsLonger, IsPlaceAt, IsWalk, IsWalkOn, IsWalkTo, IsExecuted, IsRunThrough, state_of}
use Rattle.sequential_states.proofs.Steps.{at_end}
use Rattle.sequential_states.proofs.RunParts.{run_parted, first_step}
use Rattle.sequential_states.proofs.Explored.{is_next}
use Rattle.sequential_states.proofs.Arrivals.{lead_back}
use Rattle.sequential_states.proofs.Ending.{is_run, executes}
use Rattle.tso_machine.proofs.FencedActions.{stops_at_none}

module _ (p : Listing) (t k : ℕ) where
  -- what isn't there is not executed
  never_there : instr_at p.threads t k ≡ None → IsExecuted p t k → ⊥
  never_there none executed =
      let (labels, through) = executed in
      let (o, is, by) = through in
      let (last, ran, ended, shows) = is in
      let (middle, first, rest) = run_parted p (start p) last by.before (Exec t ∷ by.after) (subst (λ z. run p SequentialMachine (start p) z ≡ Some last) by.split ran) in
      let same : by.state ≡ middle = (let z : Some by.state ≡ Some middle = sym by.reached ∙ first in cc) in
      let (next, made, after) = first_step p middle last (Exec t) by.after rest in
      let place : (middle.locals t).place ≡ k = ap (λ (z : State). (z.locals t).place) (sym same) ∙ by.next in
      let stops : action p.threads t (middle.locals t) ≡ Stop = ap (λ n. act (instr_at p.threads t n) (middle.locals t)) place ∙ ap (λ i. act i (middle.locals t)) none in
      let z : None ≡ Some next = sym (ap (direct middle t) stops) ∙ made in
      cc

  -- where a thread stands at a place and has no step, no instruction stands there
  pub stands_still : (s : Shot) → StandsAt s t k → HasNoStep p s t → IsExecuted p t k → ⊥
  stands_still s stands none =
      never_there (stops_at_none (instr_at p.threads t k) ((state_of s).locals t) (ap (λ n. act (instr_at p.threads t n) ((state_of s).locals t)) (sym stands.next) ∙ at_end p s t none))

  pub still : (b : Bool) (w after : Walk) → WalksOn p w t after b → b ≡ false → HasNoStep p w.state t
  still false w after h e = h.1
  still true w after h e = absurd cc

  pub moved : (b : Bool) (w after : Walk) → WalksOn p w t after b → b ≡ true → IsLonger p w t after
  moved true w after h e = h
  moved false w after h e = absurd cc

  -- a run through the instruction
  pub through : (w next after : Walk) → IsWalk p w → StandsAt w.state t k → IsLonger p w t next → IsWalkOn p next after → ((u : ℕ) → IsThreadAtEnd p after.state u) → IsRunThrough p after.labels t k
  through w next after is stands longer on ended = (outcome_at p (state_of after.state), is_run p after on.walked ended, executes p w next after t k is stands.next longer on)

  module _ (listed : List Listed) (all : TellsAll p listed) where
    pub back : ArrivalsLeadBack listed
    back = lead_back p listed all.reached

    pub walk_is : (place : ℕ) (w : Walk) → IsPlaceAt listed t k place → IsWalkTo listed place w → IsWalk p w × StandsAt w.state t k
    walk_is place w at to = let (is, same) = to p at.found all.reached at.there in (is, subst (λ s. StandsAt s t k) (sym same) at.stands)

    -- where each instruction is next at some state, one that is next at none is not there
    missing : HasEach p listed → ((place : ℕ) → IsPlaceAt listed t k place → ⊥) → instr_at p.threads t k ≡ None
    missing each none = elim (cases_lt k (length (code_of p.threads t))) [
      | inl h ↦ absurd (let (place, at) = each t k h in none place at)
      | inr h ↦ slice_get_past (code_of p.threads t) k h
    ]

    -- an instruction that is next at no listed state is not executed
    pub nowhere : ((place : ℕ) → IsPlaceAt listed t k place → ⊥) → IsExecuted p t k → ⊥
    nowhere none executed = elim all.enough [
      | inl explored ↦ (let (place, at) = is_next p listed all.first all.reached explored t k executed in none place at)
      | inr each ↦ never_there (missing each none) executed
    ]
