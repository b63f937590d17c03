-- Where a search for cycles begins and ends.
use Rattle.known_edges.proofs.Vocabulary.{◌≡◌, List, [], ◌∷◌, Contains, refl, subst, arith, slice_get_within, Event, Initial, At, Kind, IsOfMode, IsAccess, IsKnownCycle, KnownEdgeOfMode, given_to, Sequential, Fenced, machine_of_mode, ProgramSketch, mode_in}
use Rattle.known_edges.proofs.Vocabulary.{IsLawful, HasNoCycle, SetOfGaps}
use Rattle.candidate_executions.specs.declared.event.Kind.TheVariants as union
use Rattle.candidate_executions.proofs.Candidates.NothingIntoInitial.{not_in_cycle, no_known_edge_into_initial}
use Rattle.known_edges.proofs.Cycles.{next_in_cycle}

-- every cycle is one of accesses
pub cycle_of_accesses : (s : ProgramSketch) (kind : Kind) (es : List Event) → IsLawful s → IsKnownCycle s.program (mode_in s) s.chosen kind es → (e : Event) → Contains es e → IsAccess s.program (mode_in s) (given_to s.chosen) e
cycle_of_accesses s kind es lawful cycle e has = stands e has (next_in_cycle (KnownEdgeOfMode s.program (mode_in s) s.chosen kind) es cycle e has)
  where
    stands : (e : Event) → Contains es e → ((f : Event) × Contains es f × KnownEdgeOfMode s.program (mode_in s) s.chosen kind e f) → IsAccess s.program (mode_in s) (given_to s.chosen) e
    stands (Initial l) has (f, g, r) = absurd (not_in_cycle (KnownEdgeOfMode s.program (mode_in s) s.chosen kind) (Initial l)
        (λ d q. no_known_edge_into_initial s.program (mode_in s) s.chosen kind d l lawful.is_sketch q.1) es cycle has)
    stands (At t i) has (f, g, r) = slice_get_within _ i r.1.0 r.1.2

pub kind_of : (s : ProgramSketch) (kind : Kind) (es : List Event) → IsKnownCycle s.program (mode_in s) s.chosen kind es → IsOfMode (mode_in s) kind
kind_of s kind [] h = absurd h
kind_of s kind (e ∷ es) h = (next_in_cycle (KnownEdgeOfMode s.program (mode_in s) s.chosen kind) (e ∷ es) h e (0, omega arith, refl)).2.0

-- if a mode's unions have no cycle, no cycle exists at all
pub none_sequential : (s : ProgramSketch) → s.mode ≡ Sequential → ((es : List Event) → IsKnownCycle s.program (mode_in s) s.chosen union.Sequential es → ⊥) → HasNoCycle s
none_sequential s e none union.Sequential es h = none es h
none_sequential s e none g es h = subst (λ m. IsOfMode (machine_of_mode s.program m) g) e (kind_of s g es h)

pub none_fenced : (s : ProgramSketch) (gaps : SetOfGaps) → s.mode ≡ Fenced gaps → ((es : List Event) → IsKnownCycle s.program (mode_in s) s.chosen union.Location es → ⊥) →
    ((es : List Event) → IsKnownCycle s.program (mode_in s) s.chosen union.Global es → ⊥) → HasNoCycle s
none_fenced s gaps e location global union.Sequential es h = subst (λ m. IsOfMode (machine_of_mode s.program m) union.Sequential) e (kind_of s union.Sequential es h)
none_fenced s gaps e location global union.Location es h = location es h
none_fenced s gaps e location global union.Global es h = global es h
