-- A cycle of a relation is one of each wider relation.
use Rattle.candidate_executions.proofs.Vocabulary.{List, [], ◌∷◌, Event, Leads, IsCycle, IsAcyclic}
use Rattle.candidate_executions.proofs.Orders.AcyclicIsOrdered.{Ordered}

module _ (R S : Event → Event → Type 0) (wider : (d e : Event) → R d e → S d e) where
  leads_wider : (es : List Event) (d z : Event) → Leads R d es z → Leads S d es z
  leads_wider [] d z r = wider d z r
  leads_wider (e ∷ es) d z r = (wider d e r.0, leads_wider es e z r.1)

  pub cycle_wider : (es : List Event) → IsCycle R es → IsCycle S es
  cycle_wider [] h = h
  cycle_wider (e ∷ es) h = leads_wider es e e h

  pub acyclic_narrower : IsAcyclic S → IsAcyclic R
  acyclic_narrower h es c = h es (cycle_wider es c)

  pub ordered_narrower : (es : List Event) → Ordered S es → Ordered R es
  ordered_narrower [] h = tt
  ordered_narrower (e ∷ es) h = ((λ d i r. h.0 d i (wider d e r)), ordered_narrower es h.1)
