-- What is known of a sketch holds of each completion.
use Rattle.candidate_executions.proofs.Vocabulary.{◌⊎◌, ◌≡◌, ◌≢◌, ℕ, ◌<◌, List, ◌++◌, Some, IsSome, Contains, slice_get, refl, sym, ap, ◌∙◌, subst, inl, inr, arith, length, slice_index, same_Some, Listing, action, start_of, code_of, Machine, Access, Event}
use Rattle.candidate_executions.proofs.Vocabulary.{Initial, At, Kind, Candidate, access, access_by, Writes, IsCandidate, trace, fenced_gaps, Relates, Edge, IsCycle, WriteOrder, FromReads, Sketch, given_to, Completes, IsSketch, IsBefore, KnownRelates}
use Rattle.candidate_executions.proofs.Vocabulary.{KnownEdge, KnownFromReads, EveryCandidateCompletesEmpty, AKnownEdgeIsAnEdge, AKnownCycleIsACycle}
use Rattle.candidate_executions.specs.declared.event.Kind.TheVariants as union
use Rattle.candidate_executions.proofs.{Orders.WiderRelations.cycle_wider, Candidates.WrittenValues.stored_as, Candidates.WrittenValues.some_written, Sketches.MoreValues.trace_more}
use Rattle.candidate_executions.proofs.Sketches.GivenValues.{none_given}

-- each part of a union for one of another
pub each : {P R W F Q S X G : Type 0} → P ⊎ (R ⊎ (W ⊎ F)) → (P → Q) → (R → S) → (W → X) → (F → G) → Q ⊎ (S ⊎ (X ⊎ G))
each h p r w f = elim h [ inl a ↦ inl (p a) | inr (inl a) ↦ inr (inl (r a)) | inr (inr (inl a)) ↦ inr (inr (inl (w a))) | inr (inr (inr a)) ↦ inr (inr (inr (f a))) ]

module _ (p : Listing) (mode : Machine) (k : Sketch) (fits : IsSketch p mode k) (c : Candidate) (is : IsCandidate p mode c) (completes : Completes k c) where
  grows : (e : Event) (x : Access) → access_by p mode (given_to k) e ≡ Some x → access p mode c e ≡ Some x
  grows (Initial l) x a = a
  grows (At t i) x a = let (rest, q) = completes.given t in
      subst (λ g. slice_get (trace (action p.threads t) (fenced_gaps mode t) (length (code_of p.threads t)) 0 (start_of p.threads t) g).accesses i ≡ Some x) q
      (trace_more (action p.threads t) (fenced_gaps mode t) (length (code_of p.threads t)) 0 (start_of p.threads t) (given_to k t) rest i x a)

  before : (d e : Event) (y : Access) → access p mode c e ≡ Some y → IsBefore k d e y → (c.rank d < c.rank e) × IsSome y.written × ((v : ℕ) × Writes (access p mode c) d y.location v)
  before d e y b (inl q) =
      let (l, v, w, wd, we, di, ei) = (fits.pairs d e q).1 in
      let same : we.0 ≡ y = same_Some we.0 y (sym (grows e we.0 we.1) ∙ b) in (
        completes.pairs d e q,
        rw (← same) (rw we.3 refl),
        (v, (wd.0, grows d wd.0 wd.1, wd.2 ∙ (sym we.2 ∙ ap (λ (z : Access). z.location) same), wd.3)),
      )
  before d e y b (inr q) =
      let at_d : Writes (access p mode c) (Initial y.location) y.location (slice_index p.memory y.location) = (_, refl, refl, refl) in
      let le = is.initial e y.location (stored_as y.written) (y, b, refl, some_written y.written q.2) in
      let ne : c.rank (Initial y.location) ≢ c.rank e = λ r. q.1 (sym (q.0 ∙ is.ranks (Initial y.location) e y.location (slice_index p.memory y.location) (stored_as y.written) at_d (y, b, refl, some_written y.written q.2) r)) in
      (subst (λ z. c.rank z < c.rank e) (sym q.0) (omega arith), q.2, (slice_index p.memory y.location, subst (λ z. Writes (access p mode c) z y.location (slice_index p.memory y.location)) (sym q.0) at_d))

  write_order : (d e : Event) (x y : Access) → access p mode c d ≡ Some x → access p mode c e ≡ Some y → IsBefore k d e y → WriteOrder c d x e y
  write_order d e x y a b q =
      let (r, w, (v, f)) = before d e y b q in
      let same : f.0 ≡ x = same_Some f.0 x (sym f.1 ∙ a) in
      (sym (ap (λ (z : Access). z.location) same) ∙ f.2, rw (← same) (rw f.3 refl), w, r)

  from_reads : (d e : Event) (x y : Access) → access p mode c d ≡ Some x → access p mode c e ≡ Some y → KnownFromReads k d e y → FromReads c d x e y
  from_reads d e x y a b q =
      let (s, src, bef, ne) = q in
      let (r, w, (v, f)) = before s e y b bef in
      let (x', u, xa, xr, sn, sw) = fits.sources d s src in
      let same : x' ≡ x = same_Some x' x (sym (grows d x' xa) ∙ a) in
      let z : f.0 ≡ sw.0 = same_Some f.0 sw.0 (sym f.1 ∙ grows s sw.0 sw.1) in (
        sym (ap (λ (z : Access). z.location) same) ∙ (sym sw.2 ∙ (sym (ap (λ (z : Access). z.location) z) ∙ f.2)),
        rw (← same) (rw xr refl),
        w,
        ne,
        subst (λ z. c.rank z < c.rank e) (sym (completes.sources d s src)) r,
      )

  reads : (d e : Event) (y : Access) → access p mode c e ≡ Some y → Contains k.sources (e, d) → IsSome y.read × (c.source e ≡ d)
  reads d e y b q =
      let (x, v, xa, xr, ne, w) = fits.sources e d q in
      let same : x ≡ y = same_Some x y (sym (grows e x xa) ∙ b) in
      (rw (← same) (rw xr refl), completes.sources e d q)

  relates : (kind : Kind) (d e : Event) (x y : Access) → access p mode c d ≡ Some x → access p mode c e ≡ Some y → KnownRelates k kind d x e y → Relates c kind d x e y
  relates union.Sequential d e x y a b h = each h (λ r. r) (reads d e y b) (write_order d e x y a b) (from_reads d e x y a b)
  relates union.Location d e x y a b h = each h (λ r. r) (reads d e y b) (write_order d e x y a b) (from_reads d e x y a b)
  relates union.Global d e x y a b h = each h (λ r. r) (λ r. (reads d e y b r.0, r.1)) (write_order d e x y a b) (from_reads d e x y a b)

  -- a known edge is one of the completion
  pub known_edge : (kind : Kind) (d e : Event) → KnownEdge p mode k kind d e → Edge p mode c kind d e
  known_edge kind d e r = (r.0, r.1, grows d r.0 r.2, grows e r.1 r.3, relates kind d e r.0 r.1 (grows d r.0 r.2) (grows e r.1 r.3) r.4)

-- each candidate completes the empty sketch
pub completes_empty : EveryCandidateCompletesEmpty
completes_empty p c = record {
  given = λ t. (c.given t, ap (λ xs. xs ++ c.given t) (none_given p t));
  sources = λ e s h. absurd (let z = h.1 in omega arith);
  pairs = λ d e h. absurd (let z = h.1 in omega arith);
}

-- a cycle of known edges is one of each completion, which is then not consistent
module _ (p : Listing) (mode : Machine) (k : Sketch) (fits : IsSketch p mode k) (c : Candidate) (is : IsCandidate p mode c) (completes : Completes k c) where
  pub known_cycle : (kind : Kind) (es : List Event) → IsCycle (KnownEdge p mode k kind) es → IsCycle (Edge p mode c kind) es
  known_cycle kind = cycle_wider (KnownEdge p mode k kind) (Edge p mode c kind) (known_edge p mode k fits c is completes kind)

pub known_edge_is_an_edge : AKnownEdgeIsAnEdge
known_edge_is_an_edge p mode k c kind d e fits is completes h = known_edge p mode k fits c is completes kind d e h

pub known_cycle_is_a_cycle : AKnownCycleIsACycle
known_cycle_is_a_cycle p mode k c kind es fits is completes h = known_cycle p mode k fits c is completes kind es h
