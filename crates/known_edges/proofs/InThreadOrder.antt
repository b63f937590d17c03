-- Accesses listed by thread and index.
use Rattle.known_edges.proofs.Vocabulary.{◌≡◌, ℕ, ◌<◌, List, [], Some, slice_get, get_or, sym, ◌∙◌, subst, arith, AllPairs, slice_get_within, get_or_from_slice_get, same_Some, RowHas, Event, Kind, Precedes, ComesBefore, ThreadTrace, InOrder, AreRowsOf}
use Rattle.known_edges.proofs.{Connected.order_precedes, Unchosen.not_itself}

-- nothing is listed
pub none_ordered : AllPairs ComesBefore []
none_ordered i j d h l = absurd (omega arith)

-- of two listed accesses the one at the earlier place comes before the other
pub before_in : (events : List Event) → AllPairs ComesBefore events → (i j : ℕ) (a b : Event) → i < j → slice_get events i ≡ Some a → slice_get events j ≡ Some b → ComesBefore a b
before_in events ordered i j a b less here there = subst (λ x. ComesBefore x b) (get_or_from_slice_get events i a a here)
    (subst (ComesBefore (get_or events i a)) (get_or_from_slice_get events j b a there) (ordered i j a less (slice_get_within events j b there)))

-- no access comes after itself
pub order_never_round : (thread_traces : List ThreadTrace) (kind : Kind) (events : List Event) (rows : List ℕ) → AreRowsOf events (InOrder thread_traces kind) rows → (d : ℕ) → RowHas rows d d → ⊥
order_never_round thread_traces kind events rows are d h =
    let (x, y, at_x, at_y, (a, b, of_x, of_y, o)) = (are d d).0 h in
    not_itself x (subst (Precedes x) (same_Some y x (sym at_y ∙ at_x)) (order_precedes kind x a y b o))
