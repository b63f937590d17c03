-- What a choice adds to the known edges, and that the rows are brought up to date with it.
use Rattle.known_edges.proofs.Vocabulary.{◌≡◌, ◌≢◌, ◌↔◌, ◌⊎◌, ℕ, List, [], ◌∷◌, ◌++◌, Some, Contains, slice_get, refl, sym, ap, ◌∙◌, subst, inl, inr, Contains-append_left, Contains-push, Contains-push_cases, IsIn, RowHas, Listing, Access, Event, Kind}
use Rattle.known_edges.proofs.Vocabulary.{IsOfMode, SameThread, IsBefore, with_source, with_pair, KnownEdgeOfMode, Mode, Sequential, Fenced, machine_of_mode, ProgramSketch, mode_in, access_in, with_chosen, IsLawful, SourcePart, MayRead, MayFollow, IsRowOf}
use Rattle.known_edges.proofs.Vocabulary.{AreRowsOf, ReadsBut, main_kind}
use Rattle.candidate_executions.specs.declared.event.Kind.TheVariants as union
use Rattle.program_sketches.proofs.KnownParts.{Parts4, to_relates, of_relates}
use Rattle.candidate_executions.proofs.Sketches.KnownEdges.{each}
pub use Rattle.known_edges.proofs.Unchosen.{order_precedes}

-- the event has a number
abbrev pub HasNumber : List Event → Event → Type 0
HasNumber events x = (d : ℕ) × (slice_get events d ≡ Some x)

-- rows that are connected
pub connected : (events : List Event) (R S : Event → Event → Type 0) (A B : Event → Type 0) (from to : ℕ) (old new : List ℕ) → AreRowsOf events R old →
    IsRowOf events A from → IsRowOf events B to → ((d e : ℕ) → RowHas new d e ↔ (RowHas old d e ⊎ (IsIn from d × IsIn to e))) →
    ((x y : Event) → HasNumber events x → HasNumber events y → S x y ↔ (R x y ⊎ (A x × B y))) → AreRowsOf events S new
connected events R S A B from to old new rows of_from of_to each same d e = (
  λ h. elim ((each d e).0 h) [
    | inl p ↦ (let (x, y, at, to_at, r) = (rows d e).0 p in (x, y, at, to_at, (same x y (d, at) (e, to_at)).1 (inl r)))
    | inr p ↦ (let (x, at, a) = (of_from d).0 p.0 in
        let (y, to_at, b) = (of_to e).0 p.1 in
        (x, y, at, to_at, (same x y (d, at) (e, to_at)).1 (inr (a, b))))
  ],
  λ (x, y, at, to_at, r). (each d e).1 (elim ((same x y (d, at) (e, to_at)).0 r) [
    | inl q ↦ inl ((rows d e).1 (x, y, at, to_at, q))
    | inr q ↦ inr ((of_from d).1 (x, at, q.0), (of_to e).1 (y, to_at, q.1))
  ]),
)

-- the main union is one of the mode's
pub main_of_mode : (p : Listing) (mode : Mode) → IsOfMode (machine_of_mode p mode) (main_kind mode)
main_of_mode p Sequential = tt
main_of_mode p (Fenced gaps) = tt

-- the global union is one of each other mode than sequential consistency
pub global_of_mode : (p : Listing) (mode : Mode) → IsOfMode (machine_of_mode p mode) union.Global ↔ (mode ≡ Sequential → ⊥)
global_of_mode p Sequential = (λ h e. h, λ h. h refl)
global_of_mode p (Fenced gaps) = (λ h e. absurd cc, λ h. tt)

-- a pair of a list with one more is one of the list, or the new one
pushed : (pairs : List (Event × Event)) (a b d e : Event) → Contains (pairs ++ (a, b) ∷ []) (d, e) → Contains pairs (d, e) ⊎ ((d ≡ a) × (e ≡ b))
pushed pairs a b d e h = elim (Contains-push_cases pairs (a, b) (d, e) h) [
  | inl old ↦ inl old
  | inr q ↦ inr (sym (ap (λ (r : Event × Event). r.0) q), sym (ap (λ (r : Event × Event). r.1) q))
]

module _ (s : ProgramSketch) (lawful : IsLawful s) (first second : Event) (may : MayFollow s first second) where
  abbrev t : ProgramSketch
  t = with_chosen s (with_pair s.chosen first second)

  -- first, and the reads that have it as their source
  abbrev pub Earlier : Event → Type 0
  Earlier d = (d ≡ first) ⊎ ReadsBut s.chosen.sources first second d

  same_source : (kind : Kind) (d e : Event) → SourcePart t.chosen kind d e ↔ SourcePart s.chosen kind d e
  same_source union.Sequential d e = (λ h. h, λ h. h)
  same_source kind d e = (λ h. h, λ h. h)

  before_of : (d e : Event) (y : Access) → IsBefore t.chosen d e y → IsBefore s.chosen d e y ⊎ ((d ≡ first) × (e ≡ second))
  before_of d e y (inl h) = elim (pushed s.chosen.pairs first second d e h) [ inl a ↦ inl (inl a) | inr q ↦ inr q ]
  before_of d e y (inr h) = inl (inr h)

  before_kept : (d e : Event) (y : Access) → IsBefore s.chosen d e y → IsBefore t.chosen d e y
  before_kept d e y (inl h) = inl (Contains-append_left s.chosen.pairs ((first, second) ∷ []) (d, e) h)
  before_kept d e y (inr h) = inr h

  parts_of_pair : (kind : Kind) (d : Event) (x : Access) (e : Event) (y : Access) → Parts4 t.chosen kind d x e y → Parts4 s.chosen kind d x e y ⊎ (Earlier d × (e ≡ second))
  parts_of_pair kind d x e y (inl o) = inl (inl o)
  parts_of_pair kind d x e y (inr (inl h)) = inl (inr (inl ((same_source kind d e).0 h)))
  parts_of_pair kind d x e y (inr (inr (inl h))) = elim (before_of d e y h) [ inl b ↦ inl (inr (inr (inl b))) | inr q ↦ inr (inl q.0, q.1) ]
  parts_of_pair kind d x e y (inr (inr (inr (source, has, b, other)))) = elim (before_of source e y b) [
    | inl c ↦ inl (inr (inr (inr (source, has, c, other))))
    | inr q ↦ inr (inr (subst (λ z. Contains s.chosen.sources (d, z)) q.0 has, λ same. other (same ∙ sym q.1)), q.1)
  ]

  parts_kept : (kind : Kind) (d : Event) (x : Access) (e : Event) (y : Access) → Parts4 s.chosen kind d x e y → Parts4 t.chosen kind d x e y
  parts_kept kind d x e y h = each h (λ o. o) (same_source kind d e).1 (before_kept d e y) (λ (source, has, b, other). (source, has, before_kept source e y b, other))

  parts_new : (kind : Kind) (d : Event) (x : Access) (e : Event) (y : Access) → Earlier d → e ≡ second → Parts4 t.chosen kind d x e y
  parts_new kind d x e y (inl q) r = inr (inr (inl (inl (subst (λ z. Contains (s.chosen.pairs ++ (first, second) ∷ []) (z, e)) (sym q)
      (subst (λ z. Contains (s.chosen.pairs ++ (first, second) ∷ []) (first, z)) (sym r) (Contains-push s.chosen.pairs (first, second)))))))
  parts_new kind d x e y (inr q) r = inr (inr (inr (
    first,
    q.0,
    inl (subst (λ z. Contains (s.chosen.pairs ++ (first, second) ∷ []) (first, z)) (sym r) (Contains-push s.chosen.pairs (first, second))),
    λ same. q.1 (same ∙ r),
  )))

  there_first : (d : Event) → Earlier d → (x : Access) × (access_in s d ≡ Some x)
  there_first d (inl q) = let (l, v, u, w, w2, a, b) = may.is_pair.1 in (w.0, ap (access_in s) q ∙ w.1)
  there_first d (inr q) = let (x, v, at, r, ne, w) = lawful.is_sketch.sources d first q.0 in (x, at)

  -- one more pair adds edges from first, and from the reads that have it as their source, to second
  pub pair_edges : (kind : Kind) (d e : Event) → KnownEdgeOfMode t.program (mode_in t) t.chosen kind d e ↔ (KnownEdgeOfMode s.program (mode_in s) s.chosen kind d e ⊎ ((IsOfMode (mode_in s) kind × Earlier d) × (e ≡ second)))
  pair_edges kind d e = (
    λ (m, (x, y, ad, ae, r)). elim (parts_of_pair kind d x e y (of_relates t.chosen kind d x e y r)) [
      | inl p ↦ inl (m, (x, y, ad, ae, to_relates s.chosen kind d x e y p))
      | inr p ↦ inr ((m, p.0), p.1)
    ],
    λ h. elim h [
      | inl (m, (x, y, ad, ae, r)) ↦ (m, (x, y, ad, ae, to_relates t.chosen kind d x e y (parts_kept kind d x e y (of_relates s.chosen kind d x e y r))))
      | inr ((m, earlier), same) ↦
          (let (x, ad) = there_first d earlier in
          let (l, v, w, wr, y, a, b) = may.is_pair.1 in
          (m, (x, y.0, ad, ap (access_in s) same ∙ y.1, to_relates t.chosen kind d x e y.0 (parts_new kind d x e y.0 earlier same))))
    ],
  )

  pub pair_pairs : (d e : Event) → Contains t.chosen.pairs (d, e) ↔ (Contains s.chosen.pairs (d, e) ⊎ ((d ≡ first) × (e ≡ second)))
  pair_pairs d e = (
    λ h. pushed s.chosen.pairs first second d e h,
    λ h. elim h [
      | inl a ↦ Contains-append_left s.chosen.pairs ((first, second) ∷ []) (d, e) a
      | inr q ↦ subst (λ (r : Event × Event). Contains t.chosen.pairs r) (λ i. ((sym q.0) i, (sym q.1) i)) (Contains-push s.chosen.pairs (first, second))
    ],
  )

module _ (s : ProgramSketch) (lawful : IsLawful s) (read source : Event) (may : MayRead s read source) where
  abbrev u : ProgramSketch
  u = with_chosen s (with_source s.chosen read source)

  -- a write that is known to come after the source, and is not the read
  abbrev pub After : Event → Type 0
  After e = (y : Access) × (access_in s e ≡ Some y) × IsBefore s.chosen source e y × (read ≢ e)

  sources_of : (d e : Event) → Contains u.chosen.sources (e, d) → Contains s.chosen.sources (e, d) ⊎ ((d ≡ source) × (e ≡ read))
  sources_of d e h = elim (pushed s.chosen.sources read source e d h) [ inl a ↦ inl a | inr q ↦ inr (q.1, q.0) ]

  sources_kept : (d e : Event) → Contains s.chosen.sources (e, d) → Contains u.chosen.sources (e, d)
  sources_kept d e h = Contains-append_left s.chosen.sources ((read, source) ∷ []) (e, d) h

  sources_new : (d e : Event) → d ≡ source → e ≡ read → Contains u.chosen.sources (e, d)
  sources_new d e q r = subst (λ (p : Event × Event). Contains u.chosen.sources p) (λ i. ((sym r) i, (sym q) i)) (Contains-push s.chosen.sources (read, source))

  -- the new edge of a union from the source to its read
  abbrev pub Step : Kind → Event → Event → Type 0
  Step union.Global d e = ((SameThread source read → ⊥) × (d ≡ source)) × (e ≡ read)
  Step h d e = (d ≡ source) × (e ≡ read)

  step_of : (kind : Kind) (d e : Event) → SourcePart u.chosen kind d e → SourcePart s.chosen kind d e ⊎ Step kind d e
  step_of union.Global d e h = elim (sources_of d e h.0) [
    | inl a ↦ inl (a, h.1)
    | inr q ↦ inr ((λ same. h.1 (subst (λ z. SameThread z e) (sym q.0) (subst (λ z. SameThread source z) (sym q.1) same)), q.0), q.1)
  ]
  step_of kind d e h = sources_of d e h

  step_kept : (kind : Kind) (d e : Event) → SourcePart s.chosen kind d e → SourcePart u.chosen kind d e
  step_kept union.Global d e h = (sources_kept d e h.0, h.1)
  step_kept kind d e h = sources_kept d e h

  step_new : (kind : Kind) (d e : Event) → Step kind d e → SourcePart u.chosen kind d e
  step_new union.Global d e h = (sources_new d e h.0.1 h.1, λ same. h.0.0 (subst (λ z. SameThread z read) h.0.1 (subst (λ z. SameThread d z) h.1 same)))
  step_new kind d e h = sources_new d e h.0 h.1

  step_ends : (kind : Kind) (d e : Event) → Step kind d e → (d ≡ source) × (e ≡ read)
  step_ends union.Global d e h = (h.0.1, h.1)
  step_ends kind d e h = h

  parts_of_source : (kind : Kind) (d : Event) (x : Access) (e : Event) (y : Access) → access_in s e ≡ Some y → Parts4 u.chosen kind d x e y →
      Parts4 s.chosen kind d x e y ⊎ (Step kind d e ⊎ ((d ≡ read) × After e))
  parts_of_source kind d x e y ae (inl o) = inl (inl o)
  parts_of_source kind d x e y ae (inr (inl h)) = elim (step_of kind d e h) [ inl a ↦ inl (inr (inl a)) | inr q ↦ inr (inl q) ]
  parts_of_source kind d x e y ae (inr (inr (inl h))) = inl (inr (inr (inl h)))
  parts_of_source kind d x e y ae (inr (inr (inr (z, has, b, other)))) = elim (sources_of z d has) [
    | inl a ↦ inl (inr (inr (inr (z, a, b, other))))
    | inr q ↦ inr (inr (q.1, (y, ae, subst (λ w. IsBefore s.chosen w e y) q.0 b, λ same. other (q.1 ∙ same))))
  ]

  source_parts_kept : (kind : Kind) (d : Event) (x : Access) (e : Event) (y : Access) → Parts4 s.chosen kind d x e y → Parts4 u.chosen kind d x e y
  source_parts_kept kind d x e y h = each h (λ o. o) (step_kept kind d e) (λ b. b) (λ (z, has, b, other). (z, sources_kept z d has, b, other))

  there_read : (d : Event) → d ≡ read → (x : Access) × (access_in s d ≡ Some x)
  there_read d q = let (x, v, at, r, ne, w) = may.is_source in (x, ap (access_in s) q ∙ at)

  -- one more source adds the edge from it to its read, and edges from the read to the writes that come after it
  pub source_edges : (kind : Kind) (d e : Event) →
      KnownEdgeOfMode u.program (mode_in u) u.chosen kind d e ↔ (KnownEdgeOfMode s.program (mode_in s) s.chosen kind d e ⊎ ((IsOfMode (mode_in s) kind × Step kind d e) ⊎ ((IsOfMode (mode_in s) kind × (d ≡ read)) × After e)))
  source_edges kind d e = (
    λ (m, (x, y, ad, ae, r)). elim (parts_of_source kind d x e y ae (of_relates u.chosen kind d x e y r)) [
      | inl p ↦ inl (m, (x, y, ad, ae, to_relates s.chosen kind d x e y p))
      | inr (inl p) ↦ inr (inl (m, p))
      | inr (inr p) ↦ inr (inr ((m, p.0), p.1))
    ],
    λ h. elim h [
      | inl (m, (x, y, ad, ae, r)) ↦ (m, (x, y, ad, ae, to_relates u.chosen kind d x e y (source_parts_kept kind d x e y (of_relates s.chosen kind d x e y r))))
      | inr (inl (m, step)) ↦
          (let ends = step_ends kind d e step in
          let (z, v, at, r, ne, x) = may.is_source in
          let (y, ae) = there_read e ends.1 in
          (m, (x.0, y, ap (access_in s) ends.0 ∙ x.1, ae, to_relates u.chosen kind d x.0 e y (inr (inl (step_new kind d e step))))))
      | inr (inr ((m, q), (y, ae, b, other))) ↦
          (let (x, ad) = there_read d q in
          (m, (x, y, ad, ae, to_relates u.chosen kind d x e y (inr (inr (inr (source, sources_new source d refl q, b, λ same. other (sym q ∙ same))))))))
    ],
  )
