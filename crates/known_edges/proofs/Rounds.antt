-- Cycles of known edges, seen in the rows.
use Rattle.known_edges.proofs.Vocabulary.{◌≡◌, ◌↔◌, ℕ, suc, List, [], ◌∷◌, Some, Contains, slice_get, refl, sym, ◌∙◌, subst, arith, same_Some, slice_get_within, Listing, Mode, Event, Kind, IsAccess, Leads, IsCycle, IsOfMode, KnownEdgeOfMode, IsKnownCycle}
use Rattle.known_edges.proofs.Vocabulary.{IsWhole, given_to, ThreadTrace, ProgramSketch, mode_in, view_of, HasValuesFirst, IsLawful, AreRowsOf, IsRepresented, union_rows, IsIn, RowHas, Reaches, HasRound, RowsLead as Path, AreRelated, HaveEvents, GoesOnIn}
use Rattle.bit_rows.proofs.Paths.{reaches_then}
use Rattle.known_edges.proofs.{Connected.HasNumber, Numbered.at_numbers, Numbered.rows_of_kind, Numbered.access_number, Found.cycle_of_accesses, Unchosen.no_cycle_yet}

module _ (R : Event → Event → Type 0) (events : List Event) (rows : List ℕ) (are : AreRowsOf events R rows) where
  path_down : (es : List Event) (x z : Event) (d k : ℕ) → slice_get events d ≡ Some x → slice_get events k ≡ Some z → Leads R x es z → ((e : Event) → Contains es e → HasNumber events e) →
      Reaches rows d k
  path_down [] x z d k at to_at h num = ([], (at_numbers events R rows d k x z are at to_at).1 h)
  path_down (e ∷ es) x z d k at to_at h num =
      let (m, at_m) = num e (0, omega arith, refl) in
      let rest = path_down es e z m k at_m to_at h.1 (λ f c. num f (suc c.0, (let l = c.1 in omega arith), c.2)) in
      (m ∷ rest.0, ((at_numbers events R rows d m x e are at at_m).1 h.0, rest.1))

  -- a cycle of events that have numbers leads a number back to itself
  pub cycle_down : (es : List Event) → IsCycle R es → ((e : Event) → Contains es e → HasNumber events e) → (d : ℕ) × Reaches rows d d
  cycle_down [] h num = absurd h
  cycle_down (e ∷ es) h num =
      let (d, at) = num e (0, omega arith, refl) in
      (d, path_down es e e d d at at h (λ f c. num f (suc c.0, (let l = c.1 in omega arith), c.2)))

  -- what is related is known, and has numbers
  related_by : (x y : Event) → AreRelated events rows x y → R x y
  related_by x y (d, e, at, to_at, h) = (at_numbers events R rows d e x y are at to_at).0 h

  pub have_events : HaveEvents events rows
  have_events d e h = let (x, y, at, to_at, r) = (are d e).0 h in (slice_get_within events d x at, slice_get_within events e y to_at)

  leads_by : (x : Event) (es : List Event) (z : Event) → Leads (AreRelated events rows) x es z → Leads R x es z
  leads_by x [] z h = related_by x z h
  leads_by x (e ∷ es) z h = (related_by x e h.0, leads_by e es z h.1)

  -- so a round is a cycle
  pub round_cycle : (es : List Event) → IsCycle (AreRelated events rows) es → IsCycle R es
  round_cycle [] h = h
  round_cycle (e ∷ es) h = leads_by e es e h

-- a number on a cycle is related to another one
next_on : (rows : List ℕ) (d : ℕ) → Reaches rows d d → (m : ℕ) × RowHas rows d m × Reaches rows m m
next_on rows d ([], h) = (d, h, ([], h))
next_on rows d (m ∷ es, h) = (m, h.0, reaches_then rows m d m (es, h.1) ([], h.0))

pub goes_on_in : (rows : List ℕ) (row : ℕ) → ((d : ℕ) → IsIn row d ↔ Reaches rows d d) → GoesOnIn rows row
goes_on_in rows row on d there = let (m, edge, reach) = next_on rows d ((on d).0 there) in (m, edge, (on m).1 reach)

-- a path of numbers is a way along edges
way_up : (R : Event → Event → Type 0) (events : List Event) (rows : List ℕ) → AreRowsOf events R rows → (d : ℕ) (ds : List ℕ) (k : ℕ) (x : Event) → slice_get events d ≡ Some x → Path rows d ds k →
    (z : Event) × (slice_get events k ≡ Some z) × ((es : List Event) × Leads R x es z)
way_up R events rows are d [] k x at h =
    let (a, z, at_a, at_z, r) = (are d k).0 h in
    (z, at_z, ([], subst (λ y. R y z) (same_Some a x (sym at_a ∙ at)) r))
way_up R events rows are d (m ∷ ds) k x at h =
    let (a, y, at_a, at_y, r) = (are d m).0 h.0 in
    let (z, at_z, (es, w)) = way_up R events rows are m ds k y at_y h.1 in
    (z, at_z, (y ∷ es, (subst (λ b. R b y) (same_Some a x (sym at_a ∙ at)) r, w)))

-- so a number that a path leads back to stands on a cycle
pub cycle_up : (R : Event → Event → Type 0) (events : List Event) (rows : List ℕ) → AreRowsOf events R rows → (d : ℕ) → Reaches rows d d → (es : List Event) × IsCycle R es
cycle_up R events rows are d (ds, h) =
    let (x, at) = first ds h in
    let (z, at_z, (es, w)) = way_up R events rows are d ds d x at h in
    (x ∷ es, subst (λ y. Leads R x es y) (same_Some z x (sym at_z ∙ at)) w)
  where
    first : (ds : List ℕ) → Path rows d ds d → (x : Event) × (slice_get events d ≡ Some x)
    first [] h = let (x, y, at_x, at_y, r) = (are d d).0 h in (x, at_x)
    first (m ∷ ds) h = let (x, y, at_x, at_y, r) = (are d m).0 h.0 in (x, at_x)

-- the rows of a union of the mode have its known edges
pub known_rows : (p : Listing) (mode : Mode) (thread_traces : List ThreadTrace) (events : List Event) (sources pairs : List (Event × Event)) (later main global : List ℕ) →
    IsRepresented p mode thread_traces events sources pairs later main global → (s : ProgramSketch) → view_of p mode thread_traces sources pairs ≡ s → (kind : Kind) → IsOfMode (mode_in s) kind →
    (rows : List ℕ) → rows ≡ union_rows kind main global → AreRowsOf events (KnownEdgeOfMode s.program (mode_in s) s.chosen kind) rows
known_rows p mode thread_traces events sources pairs later main global represented s view kind of_mode rows same =
    let parts : ProgramSketch = view_of p mode thread_traces sources pairs in
    let are = rows_of_kind p mode kind events (λ (kind : Kind). KnownEdgeOfMode parts.program (mode_in parts) parts.chosen kind) main global
    (subst (λ (s : ProgramSketch). IsOfMode (mode_in s) kind) (sym view) of_mode) represented.rows.main_rows represented.rows.global_rows in
    subst (λ (s : ProgramSketch). AreRowsOf events (KnownEdgeOfMode s.program (mode_in s) s.chosen kind) rows) view
    (subst (λ (xs : List ℕ). AreRowsOf events (KnownEdgeOfMode parts.program (mode_in parts) parts.chosen kind) xs) (sym same) are)

-- where they have no round, no known edges of the union make a cycle
pub no_round_no_cycle : (p : Listing) (mode : Mode) (thread_traces : List ThreadTrace) (events : List Event) (sources pairs : List (Event × Event)) (later main global : List ℕ) →
    IsRepresented p mode thread_traces events sources pairs later main global → (s : ProgramSketch) → view_of p mode thread_traces sources pairs ≡ s → (kind : Kind) → IsOfMode (mode_in s) kind →
    (rows : List ℕ) → rows ≡ union_rows kind main global → (HasRound rows → ⊥) → (es : List Event) → IsKnownCycle s.program (mode_in s) s.chosen kind es → ⊥
no_round_no_cycle p mode thread_traces events sources pairs later main global represented s view kind of_mode rows same none es cycle = no_cycle_yet s lawful first not_whole kind es cycle
  where
    lawful : IsLawful s
    lawful = subst (λ (s : ProgramSketch). IsLawful s) view represented.kept.lawful

    first : HasValuesFirst s
    first = subst (λ (s : ProgramSketch). HasValuesFirst s) view represented.values_first

    not_whole : IsWhole s.program (mode_in s) s.chosen → ⊥
    not_whole whole =
        let are = known_rows p mode thread_traces events sources pairs later main global represented s view kind of_mode rows same in
        let accesses = represented.rows.all (subst (λ (s : ProgramSketch). IsWhole s.program (mode_in s) s.chosen) (sym view) whole) in
        none (cycle_down (KnownEdgeOfMode s.program (mode_in s) s.chosen kind) events rows are es cycle
        (λ e has. access_number p mode thread_traces sources pairs represented.kept events accesses e
        (subst (λ (s : ProgramSketch). IsAccess s.program (mode_in s) (given_to s.chosen) e) (sym view) (cycle_of_accesses s kind es lawful cycle e has))))
