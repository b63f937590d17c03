-- What the events of an order show: each read takes its value from its source, and each write reaches memory.
use Rattle.candidate_executions.proofs.Vocabulary.{◌≡◌, ℕ, List, [], ◌∷◌, ◌++◌, Option, Some, None, sym, ap, ◌∙◌, Access, Event, Candidate, option_map_or, Listing, Label, Machine, State, step, Origins, Mark, Takes, Arrives, origins_after, marks_at, marks}

-- one step, and then the rest
pub marks_step : (p : Listing) (mode : Machine) (l : Label) (labels : List Label) (s s' : State) (o o' : Origins) (ms : List Mark) → step p mode s l ≡ Some s' →
    origins_after p mode s o l ≡ o' → marks_at p mode s o l ≡ ms → marks p mode s o (l ∷ labels) ≡ ms ++ marks p mode s' o' labels
marks_step p mode l labels s s' o o' ms e f h =
    ap (λ x. marks_at p mode s o l ++ option_map_or (λ next. marks p mode next (origins_after p mode s o l) labels) x []) e ∙ (λ i. h i ++ marks p mode s' (f i) labels)

abbrev pub taken : Option ℕ → Event → Event → List Mark
taken None e d = []
taken (Some v) e d = Takes e v d ∷ []

abbrev pub arrived : Option ℕ → Event → List Mark
arrived None e = []
arrived (Some v) e = Arrives e ∷ []

abbrev pub shown_by : Candidate → Event → Option Access → List Mark
shown_by c e None = []
shown_by c e (Some x) = taken x.read e (c.source e) ++ arrived x.written e

abbrev pub shown_along : (Event → Option Access) → Candidate → List Event → List Mark
shown_along at c [] = []
shown_along at c (e ∷ es) = shown_by c e (at e) ++ shown_along at c es

-- by what the first event reads and writes
pub shown_first : (at : Event → Option Access) (c : Candidate) (e : Event) (es : List Event) (x : Access) (read written : Option ℕ) → at e ≡ Some x → x.read ≡ read → x.written ≡ written →
    (taken read e (c.source e) ++ arrived written e) ++ shown_along at c es ≡ shown_along at c (e ∷ es)
shown_first at c e es x read written a r w =
    (λ i. (taken (sym r i) e (c.source e) ++ arrived (sym w i) e) ++ shown_along at c es) ∙ ap (λ o. shown_by c e o ++ shown_along at c es) (sym a)
