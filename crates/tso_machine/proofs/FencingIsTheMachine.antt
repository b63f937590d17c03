-- The outcomes of a fenced program are those of the machine with the gaps fenced.
use Rattle.std.proofs.Common.{◌≡◌, ◌↔◌, ℕ, ◌+◌, Bool, true, false, List, [], Option, Some, None, refl, sym, ap, ◌∙◌, subst, inl, inr, map, length}
use Rattle.std.specs.List.{range_with_len}
use mathlib.Core.Path.{fun_ext}
use Rattle.tso_program.specs.declared.instruction.Instr.{Instr}
use Rattle.tso_program.specs.declared.listing.Listing.{Listing}
use Rattle.tso_program.specs.declared.action.Local.{Local}
use Rattle.tso_program.specs.declared.action.Action.{TheVariants.Stop}
use Rattle.tso_program.specs.declared.outcome.Outcome.{Outcome}
use Rattle.tso_program.specs.Actions.{act}
use Rattle.tso_program.specs.Fences.{Gaps, place_of, moved, fence}
use Rattle.tso_program.specs.declared.shown.Shown.{Shown}
use Rattle.tso_program.specs.Shown.{asked}
use Rattle.tso_program.specs.declared.question.Question.{Question}
use Rattle.tso_program.specs.Listings.{action, instr_at, start_of}
use Rattle.tso_machine.specs.Machine.{Machine, no_gaps, State, start, outcome_at, HasEnded, Allows}
use Rattle.tso_machine.specs.Outcomes.{AllowsShown, fenced_at}
use Rattle.tso_machine.specs.FenceLaws.{FencingIsTheMachineWithGaps}
use Rattle.tso_program.proofs.FencedPlaces.{first_of, same_registers, same_count}
use Rattle.tso_program.proofs.FencedPlaces.{instr_at_place, instr_after_fence}
use Rattle.tso_machine.proofs.{FencedActions.placed, FencedActions.stops_at_none, EitherMachine.mode_with, FencedSteps.with_locals, FencesInserted.Follow, FencesInserted.inserted}
use Rattle.tso_machine.proofs.FencesDropped.{AllStand, dropped}

-- where neither fence nor instruction stands there was no instruction
nothing_first : (gap : ℕ → Bool) (b : Bool) (o : Option Instr) → first_of gap b o ≡ None → o ≡ None
nothing_first gap b None e = refl
nothing_first gap true (Some x) e = absurd cc
nothing_first gap false (Some x) e = absurd cc

module _ (p : Listing) (gaps : Gaps) where
  -- the fenced program starts before the fences of the first instructions
  starts : (u : ℕ) → start_of (fence gaps p).threads u ≡ placed (gaps u) (start_of p.threads u)
  starts u = ap (λ (registers : List ℕ). record { place = 0; registers = registers; flag = false }) (same_registers gaps 0 u p.threads (record { code = []; registers = [] }))

  -- registers and memory are the same
  same_outcome : (s : State) (locals : ℕ → Local) → ((u : ℕ) → locals u ≡ placed (gaps u) (s.locals u)) → outcome_at (fence gaps p) (with_locals s locals) ≡ outcome_at p s
  same_outcome s locals follows = λ i. record {
    registers = map ((let same : (λ u. (locals u).registers) ≡ (λ u. (s.locals u).registers) = fun_ext (λ u. ap (λ (l : Local). l.registers) (follows u)) in same) i)
        (range_with_len 0 (same_count gaps 0 p.threads i));
    memory = map s.memory (range_with_len 0 (length p.memory));
  }

  -- where a thread is at its end, so is the fenced thread
  stops_too : (u : ℕ) (local : Local) → action p.threads u local ≡ Stop → action (fence gaps p).threads u (placed (gaps u) local) ≡ Stop
  stops_too u local e =
      let none : instr_at p.threads u local.place ≡ None = stops_at_none (instr_at p.threads u local.place) local e in
      ap (λ o. act o (placed (gaps u) local)) (instr_at_place gaps p.threads u local.place ∙ ap (first_of (gaps u) (gaps u local.place)) none)

  -- and the other way round
  stopped_too : (u : ℕ) (local : Local) → action (fence gaps p).threads u (placed (gaps u) local) ≡ Stop → action p.threads u local ≡ Stop
  stopped_too u local e =
      let none : instr_at (fence gaps p).threads u (place_of (gaps u) local.place) ≡ None = stops_at_none _ (placed (gaps u) local) e in
      ap (λ o. act o local) (nothing_first (gaps u) (gaps u local.place) (instr_at p.threads u local.place) (sym (instr_at_place gaps p.threads u local.place) ∙ none))

  -- at its end a thread is not between a fence of its own and the instruction after it
  ended_follow : (waits : Bool) (s : State) (locals : ℕ → Local) → HasEnded (fence gaps p) (with_locals s locals) → AllStand p gaps waits s locals → Follow p gaps waits s locals
  ended_follow waits s locals ended stand u = elim (stand u) [
    | inl stands ↦ stands
    | inr between ↦ (let k = (s.locals u).place in
        let none : instr_at (fence gaps p).threads u (locals u).place ≡ None = stops_at_none _ (locals u) (ended u).0 in
        let here : (locals u).place ≡ place_of (gaps u) k + 1 = ap (λ (l : Local). l.place) between.behind in
        let no : None ≡ Some (moved (gaps u) between.instruction) =
        sym none ∙ ap (instr_at (fence gaps p).threads u) here ∙ instr_after_fence gaps p.threads u k between.instruction between.fenced between.there in
        absurd cc)
  ]

  -- an outcome of the fenced program
  to_program : (waits : Bool) (o : Outcome) → Allows (fence gaps p) (mode_with waits no_gaps) o → Allows p (mode_with waits gaps) o
  to_program waits o (labels, (last, r, ended, e)) =
      let d = dropped p gaps waits labels (start p) last (start_of (fence gaps p).threads) (λ u. inl (starts u)) r in
      let ended' : HasEnded (fence gaps p) (with_locals d.end d.last_locals) = subst (HasEnded (fence gaps p)) d.same ended in
      let follows = ended_follow waits d.end d.last_locals ended' d.stand in (
        d.labels,
        (
          d.end,
          d.is_run,
          (λ u. (stopped_too u (d.end.locals u) (ap (action (fence gaps p).threads u) (sym (follows u)) ∙ (ended' u).0), (ended' u).1)),
          e ∙ ap (outcome_at (fence gaps p)) d.same ∙ same_outcome d.end d.last_locals follows,
        ),
      )

  -- an outcome of the program with the gaps fenced
  to_fenced : (waits : Bool) (o : Outcome) → Allows p (mode_with waits gaps) o → Allows (fence gaps p) (mode_with waits no_gaps) o
  to_fenced waits o (labels, (last, r, ended, e)) =
      let d = inserted p gaps waits labels (start p) last (start_of (fence gaps p).threads) starts r in (
        d.labels,
        (
          with_locals last d.last_locals,
          d.is_run,
          (λ u. (ap (action (fence gaps p).threads u) (d.follow u) ∙ stops_too u (last.locals u) (ended u).0, (ended u).1)),
          e ∙ sym (same_outcome last d.last_locals d.follow),
        ),
      )

-- where one program's outcomes are another's, those are shown
shown_too : (shown : Shown) (p other : Listing) (m n : Machine) (o : Outcome) → ((whole : Outcome) → Allows p m whole → Allows other n whole) →
    AllowsShown (asked p shown) m o → AllowsShown (asked other shown) n o
shown_too shown p other m n o also (labels, (whole, is_run, same)) = let (ls, is) = also whole (labels, is_run) in (ls, (whole, is, same))

pub both_ways : (q : Question) (gaps : Gaps) (waits : Bool) (o : Outcome) → AllowsShown (fenced_at gaps q) (mode_with waits no_gaps) o ↔ AllowsShown q (mode_with waits gaps) o
both_ways q gaps waits o = (
  shown_too q.shown (fence gaps q.program) q.program (mode_with waits no_gaps) (mode_with waits gaps) o (to_program q.program gaps waits),
  shown_too q.shown q.program (fence gaps q.program) (mode_with waits gaps) (mode_with waits no_gaps) o (to_fenced q.program gaps waits),
)

-- over store buffers
pub fencing_is_the_machine : FencingIsTheMachineWithGaps
fencing_is_the_machine q gaps o = both_ways q gaps true o
