-- Leaves: a sketch that must end as an outcome of the list, or has a cycle.
use Rattle.cover_search.proofs.Vocabulary.{◌≡◌, ℕ, Bool, true, false, List, Option, Some, None, Contains, map, refl, sym, subst, MatchOption, Outcome, Shown, asked, Event, Kind, ProgramSketch, mode_in, MustEndSo, IsSimpleCycle, AreFewAccesses, AccessId, Node}
use Rattle.cover_search.proofs.Vocabulary.{Cycle, event_of, MustEndAsNumber, IsEndNotListed, IsLeafAt, HasNumber, IsKnownCycle, Pushes}
use Rattle.cover_search.proofs.Neat.{neat_cycle}

-- the leaf of a cycle
pub cycle_leaf : (s : ProgramSketch) (shown : Shown) (outcomes : List Outcome) (kind : Kind) (accesses : List AccessId) (es : List Event) → map event_of accesses ≡ es → IsSimpleCycle s kind es → AreFewAccesses s es →
    IsLeafAt s shown outcomes (Cycle kind accesses)
cycle_leaf s shown outcomes kind accesses es same simple few = record {
  valid = subst (IsKnownCycle s.program (mode_in s) s.chosen kind) (sym same) simple.cycle;
  neat = neat_cycle s kind accesses es same simple few;
  leaf = refl;
}

-- the number of the outcome as which the sketch must end
pub known_number : (s : ProgramSketch) (shown : Shown) (outcomes : List Outcome) (end : Outcome) → MustEndSo s shown end → (found : Option ℕ) →
    MatchOption found (Contains outcomes end → ⊥) (λ number. HasNumber outcomes number end) →
    MatchOption found (IsEndNotListed s shown outcomes) (MustEndAsNumber (asked s.program shown) (mode_in s) outcomes s.chosen)
known_number s shown outcomes end must None lacks = λ acyclic o ends here. lacks (subst (Contains outcomes) (must.only acyclic o ends) here)
known_number s shown outcomes end must (Some number) is = record { outcome = end; is_outcome = is; must_end = must.must_end }
