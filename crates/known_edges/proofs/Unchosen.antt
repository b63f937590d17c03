-- What is known where neither a source nor an order is chosen: program order, which has no cycle.
use Rattle.known_edges.proofs.Vocabulary.{◌⊎◌, suc, List, [], ◌∷◌, Contains, refl, ◌∙◌, subst, inl, inr, arith, Access, Event, Initial, At, Kind, Leads, Precedes, IsBefore, KnownRelates, KnownEdgeOfMode, IsKnownCycle, IsWhole, given_to, IsAccess}
use Rattle.known_edges.proofs.Vocabulary.{ProgramSketch, mode_in, IsLawful, HasValuesFirst, HasNoCycle, OrderPart, SourcePart}
use Rattle.candidate_executions.specs.declared.event.Kind.TheVariants as union
use Rattle.program_sketches.proofs.KnownParts.{of_relates}
use Rattle.known_edges.proofs.Found.{cycle_of_accesses}

-- the program order of a union is program order
pub order_precedes : (kind : Kind) (d : Event) (x : Access) (e : Event) (y : Access) → OrderPart kind d x e y → Precedes d e
order_precedes union.Sequential d x e y h = h
order_precedes kind d x e y h = h.0

pub precedes_then : (d e f : Event) → Precedes d e → Precedes e f → Precedes d f
precedes_then (At t i) (At u j) (Initial l) h k = absurd k
precedes_then (At t i) (At u j) (At v n) h k = (h.0 ∙ k.0, (let a = h.1 in let b = k.1 in omega arith))
precedes_then d e f h k = absurd h

pub not_itself : (e : Event) → Precedes e e → ⊥
not_itself (Initial l) h = h
not_itself (At t i) h = let n = h.1 in omega arith

module _ (s : ProgramSketch) (none : (d e : Event) → Contains s.chosen.sources (d, e) ⊎ Contains s.chosen.pairs (d, e) → ⊥) where
  no_source : (kind : Kind) (d e : Event) → SourcePart s.chosen kind d e → ⊥
  no_source union.Global d e h = none e d (inl h.0)
  no_source kind d e h = none e d (inl h)

  no_before : (d e : Event) (y : Access) → IsAccess s.program (mode_in s) (given_to s.chosen) d → IsBefore s.chosen d e y → ⊥
  no_before d e y there (inl h) = none d e (inr h)
  no_before d e y there (inr h) = subst (IsAccess s.program (mode_in s) (given_to s.chosen)) h.0 there

  -- from an access only program order leads on
  pub only_order : (kind : Kind) (d : Event) (x : Access) (e : Event) (y : Access) → IsAccess s.program (mode_in s) (given_to s.chosen) d → KnownRelates s.chosen kind d x e y → OrderPart kind d x e y
  only_order kind d x e y there r = elim (of_relates s.chosen kind d x e y r) [
    | inl o ↦ o
    | inr (inl h) ↦ absurd (no_source kind d e h)
    | inr (inr (inl h)) ↦ absurd (no_before d e y there h)
    | inr (inr (inr h)) ↦ absurd (none d h.0 (inl h.1))
  ]

  edge_precedes : (kind : Kind) (d e : Event) → IsAccess s.program (mode_in s) (given_to s.chosen) d → KnownEdgeOfMode s.program (mode_in s) s.chosen kind d e → Precedes d e
  edge_precedes kind d e there (m, (x, y, ad, ae, r)) = order_precedes kind d x e y (only_order kind d x e y there r)

  way_precedes : (kind : Kind) (d : Event) (es : List Event) (z : Event) → IsAccess s.program (mode_in s) (given_to s.chosen) d → ((e : Event) → Contains es e → IsAccess s.program (mode_in s) (given_to s.chosen) e) → Leads (KnownEdgeOfMode s.program (mode_in s) s.chosen kind) d es z → Precedes d z
  way_precedes kind d [] z there all h = edge_precedes kind d z there h
  way_precedes kind d (e ∷ es) z there all h = precedes_then d e z (edge_precedes kind d e there h.0)
      (way_precedes kind e es z (all e (0, omega arith, refl)) (λ f c. all f (suc c.0, (let l = c.1 in omega arith), c.2)) h.1)

  never_round : (kind : Kind) (es : List Event) → ((e : Event) → Contains es e → IsAccess s.program (mode_in s) (given_to s.chosen) e) → IsKnownCycle s.program (mode_in s) s.chosen kind es → ⊥
  never_round kind [] all h = h
  never_round kind (e ∷ es) all h = not_itself e (way_precedes kind e es e (all e (0, omega arith, refl)) (λ f c. all f (suc c.0, (let l = c.1 in omega arith), c.2)) h)

-- before each read has its value no known edges make a cycle
pub no_cycle_yet : (s : ProgramSketch) → IsLawful s → HasValuesFirst s → (IsWhole s.program (mode_in s) s.chosen → ⊥) → HasNoCycle s
no_cycle_yet s lawful first not_whole kind es cycle = never_round s (λ d e h. not_whole (first.whole d e h)) kind es (cycle_of_accesses s kind es lawful cycle) cycle
