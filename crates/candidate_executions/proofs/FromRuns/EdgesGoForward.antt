-- Edges go forward in moments, so a good history has no cycle.
use Rattle.candidate_executions.proofs.Vocabulary.{◌≡◌, ◌≢◌, ℕ, suc, ◌<◌, ◌≤◌, List, ◌⊎◌, Option, Some, None, IsSome, slice_get, refl, sym, ap, ◌∙◌, subst, inl, inr, arith, cases_order, Access, Event, Initial, At, Precedes, Relates, IsAcyclic, WriteOrder}
use Rattle.candidate_executions.proofs.Vocabulary.{FromReads}
use Rattle.candidate_executions.specs.declared.event.Kind.TheVariants as union
use Rattle.candidate_executions.proofs.{Orders.Lists.some_value, FromRuns.Histories.Entry, FromRuns.Histories.History, FromRuns.Histories.Holds, FromRuns.Histories.Visible, FromRuns.Histories.Good}
use Rattle.candidate_executions.proofs.Orders.ForwardIsAcyclic.{Less, near, nearer, acyclic_by}
use Rattle.candidate_executions.proofs.FromRuns.CandidateOfHistory.{moment_of_entry, moment_of, source_of_entry, source_of, candidate_with, key_of_entry, key_of, Shows, mapped}

module _ (init : ℕ → ℕ) (h : History) (good : Good init h) (at : Event → Option Access) (shows : Shows at h) where
  pub at_thread : (t i : ℕ) (x : Access) → at (At t i) ≡ Some x → (e : Entry) × Holds h t i e × (x ≡ e.access)
  at_thread t i x a = mapped (slice_get (h t) i) x (sym (shows.of_thread t i) ∙ a)

  pub moment_at : (t i : ℕ) (e : Entry) → Holds h t i e → moment_of h (At t i) ≡ e.moment
  moment_at t i e a = ap moment_of_entry a

  pub source_at : (t i : ℕ) (e : Entry) → Holds h t i e → source_of h (At t i) ≡ e.source
  source_at t i e a = ap source_of_entry a

  -- the source's moment
  pub seen_at : (t i : ℕ) (e : Entry) → Holds h t i e → IsSome e.access.read → moment_of h (source_of h (At t i)) ≡ e.seen
  seen_at t i e a r = let v = some_value e.access.read r in elim (good.source t i e v.0 a v.1) [
    | inl f ↦ ap (moment_of h) (source_at t i e a ∙ f.0) ∙ sym f.1
    | inr s ↦ ap (moment_of h) (source_at t i e a ∙ s.0.is_event) ∙ (moment_at s.0.thread s.0.index s.0.write s.0.holds ∙ sym s.0.at)
  ]

  -- from-reads goes forward in moments
  from_read : (t i u j : ℕ) (e w : Entry) → Holds h t i e → Holds h u j w → IsSome e.access.read → IsSome w.access.written →
      e.access.location ≡ w.access.location → At t i ≢ At u j → e.seen < w.moment → e.moment < w.moment
  from_read t i u j e w a b r s l n m =
      let p : e.moment ≡ e.exec = good.prompt t i e a r in
      elim (cases_order w.moment e.moment) [
        | inl q ↦ absurd (let z : (u ≡ t) × (j ≡ i) = good.apart u j t i w e b a q in let z0 : u ≡ t = z.0 in let z1 : j ≡ i = z.1 in n cc)
        | inr (inl q) ↦ absurd (let z : w.moment ≤ e.seen = good.latest u j t i w e b a r s (sym l) (inl (omega arith)) in omega arith)
        | inr (inr q) ↦ q
      ]

  -- an edge of write order or from-reads goes forward in moments
  memory_forward : (given : ℕ → List ℕ) (d e : Event) (x y : Access) → at d ≡ Some x → at e ≡ Some y →
      WriteOrder (candidate_with h given) d x e y ⊎ FromReads (candidate_with h given) d x e y → moment_of h d < moment_of h e
  memory_forward given d e x y a b (inl o) = o.3
  memory_forward given d e x y a b (inr f) = go d e a b f.0 f.2 f.1 f.3 f.4
    where
      go : (d e : Event) → at d ≡ Some x → at e ≡ Some y → x.location ≡ y.location → IsSome y.written → IsSome x.read → d ≢ e →
          moment_of h (source_of h d) < moment_of h e → moment_of h d < moment_of h e
      go (Initial l) e a b q w r n k = k
      go (At t i) (Initial l) a b q w r n k = absurd (omega arith)
      go (At t i) (At u j) a b q w r n k =
          let (f, fh, fx) = at_thread t i x a in
          let (g, gh, gy) = at_thread u j y b in
          let r' : IsSome f.access.read = rw fx at r in
          let w' : IsSome g.access.written = rw gy at w in
          let q' : f.access.location ≡ g.access.location = sym (ap (λ (z : Access). z.location) fx) ∙ (q ∙ ap (λ (z : Access). z.location) gy) in
          let k' : f.seen < g.moment = rw (seen_at t i f fh r', moment_at u j g gh) at k in
          rw (moment_at t i f fh, moment_at u j g gh) (from_read t i u j f g fh gh r' w' q' n k')

  -- of program order, by entries of one thread
  ordered_edge : (P : Event → Event → Type 0) (d e : Event) (x y : Access) → at d ≡ Some x → at e ≡ Some y → Precedes d e →
      ((t i j : ℕ) (f g : Entry) → Holds h t i f → Holds h t j g → i < j → x ≡ f.access → y ≡ g.access → P (At t i) (At t j)) → P d e
  ordered_edge P (At t i) (At u j) x y a b p each =
      let (f, fh, fx) = at_thread t i x a in
      let (g, gh, gy) = at_thread u j y b in
      subst (λ z. P (At z i) (At u j)) (sym p.0) (each u i j f g (subst (λ z. Holds h z i f) p.0 fh) gh p.1 fx gy)
  ordered_edge P d e x y a b p each = absurd p

  -- an edge from a read's source goes forward in moments, if it does where both are of one thread
  read_edge : (d e : Event) (y : Access) → at e ≡ Some y → IsSome y.read → source_of h e ≡ d →
      ((t i j : ℕ) (g w : Entry) → Holds h t i g → Holds h t j w → j < i → d ≡ At t j → e ≡ At t i → w.moment < g.moment) → moment_of h d < moment_of h e
  read_edge d (Initial l) y b r s own = absurd (let z = shows.of_initial l y b in let z0 : y.read ≡ None = z.0 in let bad : IsSome {T = ℕ} None = rw z0 at r in cc)
  read_edge d (At t i) y b r s own =
      let (g, gh, gy) = at_thread t i y b in
      let r' : IsSome g.access.read = rw gy at r in
      let v = some_value g.access.read r' in
      let m : g.moment ≡ g.exec = good.prompt t i g gh r' in
      let first : 0 < g.exec = good.first t i g gh in
      let s' : d ≡ g.source = sym s ∙ source_at t i g gh in
      rw (moment_at t i g gh) (elim (good.source t i g v.0 gh v.1) [
        | inl f ↦ rw (s' ∙ f.0) (omega arith)
        | inr w ↦ rw (s' ∙ w.0.is_event, moment_at w.0.thread w.0.index w.0.write w.0.holds) (elim w.1 [
          | inl q ↦ omega arith
          | inr q ↦ own t i w.0.index g w.0.write gh (subst (λ u. Holds h u w.0.index w.0.write) q.0 w.0.holds) q.1 (s' ∙ w.0.is_event ∙ ap (λ u. At u w.0.index) q.0) refl
        ])
      ])

  global_forward : (given : ℕ → List ℕ) (d e : Event) (x y : Access) → at d ≡ Some x → at e ≡ Some y →
      Relates (candidate_with h given) union.Global d x e y → moment_of h d < moment_of h e
  global_forward given d e x y a b (inl p) = ordered_edge (λ d e. moment_of h d < moment_of h e) d e x y a b p.0
      (λ t i j f g fh gh n fx gy. rw (moment_at t i f fh, moment_at t j g gh) (good.kept t i j f g fh gh n (rw (fx, gy) at p.1)))
  global_forward given d e x y a b (inr (inl r)) = read_edge d e y b r.0.0 r.0.1 (λ t i j g w gh wh n q s. absurd (r.1 (rw (q, s) refl)))
  global_forward given d e x y a b (inr (inr m)) = memory_forward given d e x y a b m

  -- a load has read, and what has not written is a load
  key_cases : (t i : ℕ) (e : Entry) → Holds h t i e →
      (IsSome e.access.written × (key_of h (At t i) ≡ (e.moment, 0))) ⊎ (IsSome e.access.read × (key_of h (At t i) ≡ (e.seen, suc e.exec)))
  key_cases t i e a = go e.access.written refl
    where
      go : (o : Option ℕ) → e.access.written ≡ o →
          (IsSome e.access.written × (key_of h (At t i) ≡ (e.moment, 0))) ⊎ (IsSome e.access.read × (key_of h (At t i) ≡ (e.seen, suc e.exec)))
      go (Some v) q = inl (rw q refl, ap key_of_entry a ∙ rw q refl)
      go None q = inr (elim (good.acts t i e a) [ inl r ↦ r | inr w ↦ (let bad : IsSome {T = ℕ} None = rw q at w in absurd cc) ], ap key_of_entry a ∙ rw q refl)

  -- of an earlier and a later access of one thread to one location
  place_forward : (t j i : ℕ) (d e : Entry) → Holds h t j d → Holds h t i e → j < i → d.access.location ≡ e.access.location →
      Less (key_of h (At t j)) (key_of h (At t i))
  place_forward t j i d e dh eh n l =
      let before : d.exec < e.exec = good.order t j i d e dh eh n in
      let late : e.exec ≤ e.moment = good.delay t i e eh in
      elim (key_cases t j d dh) [
        | inl dw ↦ elim (key_cases t i e eh) [
          | inl ew ↦ rw (dw.1, ew.1) (inl (good.kept t j i d e dh eh n (inr (inl ew.0))))
          | inr er ↦ (let m : d.moment ≤ e.seen = good.latest t j t i d e dh eh er.0 dw.0 l (inr (refl, n)) in
              rw (dw.1, er.1) (near d.moment e.seen e.exec m))
        ]
        | inr dr ↦ (let v = some_value d.access.read dr.0 in
            elim (key_cases t i e eh) [
              | inl ew ↦ (let goal : d.seen < e.moment = elim (good.source t j d v.0 dh v.1) [
                | inl f ↦ (let z = f.1 in let y = good.first t j d dh in omega arith)
                | inr s ↦ (let z = s.0.at in elim s.1 [
                  | inl q ↦ omega arith
                  | inr q ↦ (let same : Holds h t s.0.index s.0.write = subst (λ u. Holds h u s.0.index s.0.write) q.0 s.0.holds in
                      let k : s.0.write.moment < e.moment = good.kept t s.0.index i s.0.write e same eh (omega arith) (inr (inl ew.0)) in omega arith)
                ])
              ] in rw (dr.1, ew.1) (inl goal))
              | inr er ↦ (let goal : d.seen ≤ e.seen = elim (good.source t j d v.0 dh v.1) [
                | inl f ↦ (let z = f.1 in omega arith)
                | inr s ↦ (let z = s.0.at in
                    let w : IsSome s.0.write.access.written = rw s.0.written refl in
                    let vis : Visible s.0.thread s.0.index s.0.write.moment t i e.exec = elim s.1 [ inl q ↦ inl (omega arith) | inr q ↦ inr (q.0, omega arith) ] in
                    let k : s.0.write.moment ≤ e.seen = good.latest s.0.thread s.0.index t i s.0.write e s.0.holds eh er.0 w (s.0.location ∙ l) vis in omega arith)
              ] in rw (dr.1, er.1) (nearer d.seen e.seen (suc d.exec) (suc e.exec) goal (omega arith)))
            ])
      ]

  written_key : (t i : ℕ) (e : Entry) → Holds h t i e → IsSome e.access.written → key_of h (At t i) ≡ (e.moment, 0)
  written_key t i e a w = let v = some_value e.access.written w in ap key_of_entry a ∙ rw v.1 refl

  key_written : (d : Event) (x : Access) → at d ≡ Some x → IsSome x.written → key_of h d ≡ (moment_of h d, 0)
  key_written (Initial l) x a w = refl
  key_written (At t i) x a w =
      let (f, fh, fx) = at_thread t i x a in
      let w' : IsSome f.access.written = rw fx at w in
      written_key t i f fh w' ∙ rw (moment_at t i f fh) refl

  read_forward : (t i : ℕ) (e : Entry) → Holds h t i e → IsSome e.access.read → Less (key_of h (source_of h (At t i))) (key_of h (At t i))
  read_forward t i e eh r =
      let v = some_value e.access.read r in
      let first = good.first t i e eh in
      let late = good.delay t i e eh in
      elim (good.source t i e v.0 eh v.1) [
        | inl f ↦ rw (source_at t i e eh, f.0) (elim (key_cases t i e eh) [
          | inl w ↦ rw w.1 (inl (omega (arith, first, late)))
          | inr l ↦ rw l.1 (near 0 e.seen e.exec (omega arith))
        ])
        | inr s ↦ (let w' : IsSome s.0.write.access.written = rw s.0.written refl in
            let seen : e.seen ≡ s.0.write.moment = s.0.at in
            rw (source_at t i e eh, s.0.is_event, written_key s.0.thread s.0.index s.0.write s.0.holds w') (elim (key_cases t i e eh) [
              | inl w ↦ rw w.1 (inl (elim s.1 [
                | inl q ↦ omega (arith, late)
                | inr q ↦ (let same : Holds h t s.0.index s.0.write = subst (λ u. Holds h u s.0.index s.0.write) q.0 s.0.holds in
                    good.kept t s.0.index i s.0.write e same eh q.1 (inr (inl w.0)))
              ]))
              | inr l ↦ rw l.1 (near s.0.write.moment e.seen e.exec (omega arith))
            ]))
      ]

  location_forward : (given : ℕ → List ℕ) (d e : Event) (x y : Access) → at d ≡ Some x → at e ≡ Some y →
      Relates (candidate_with h given) union.Location d x e y → Less (key_of h d) (key_of h e)
  location_forward given d e x y a b (inl p) = ordered_edge (λ d e. Less (key_of h d) (key_of h e)) d e x y a b p.0
      (λ t i j f g fh gh n fx gy. place_forward t i j f g fh gh n (sym (ap (λ (z : Access). z.location) fx) ∙ (p.1 ∙ ap (λ (z : Access). z.location) gy)))
  location_forward given d e x y a b (inr (inl r)) = go d e b r.0 r.1
    where
      go : (d e : Event) → at e ≡ Some y → IsSome y.read → source_of h e ≡ d → Less (key_of h d) (key_of h e)
      go d (Initial l) b r s = let z = shows.of_initial l y b in let z0 : y.read ≡ None = z.0 in let bad : IsSome {T = ℕ} None = rw z0 at r in absurd cc
      go d (At t i) b r s =
          let (g, gh, gy) = at_thread t i y b in
          let r' : IsSome g.access.read = rw gy at r in
          subst (λ z. Less (key_of h z) (key_of h (At t i))) s (read_forward t i g gh r')
  location_forward given d e x y a b (inr (inr (inl o))) = rw (key_written d x a o.1, key_written e y b o.2) (inl o.3)
  location_forward given d e x y a b (inr (inr (inr f))) = rw (key_written e y b f.2) (go d a f.1 f.4 (memory_forward given d e x y a b (inr f)))
    where
      go : (d : Event) → at d ≡ Some x → IsSome x.read → moment_of h (source_of h d) < moment_of h e → moment_of h d < moment_of h e → Less (key_of h d) (moment_of h e, 0)
      go (Initial l) a r k n = inl n
      go (At t i) a r k n =
          let (f, fh, fx) = at_thread t i x a in
          let r' : IsSome f.access.read = rw fx at r in
          let k' : f.seen < moment_of h e = rw (seen_at t i f fh r') at k in
          let n' : f.moment < moment_of h e = rw (moment_at t i f fh) at n in
          elim (key_cases t i f fh) [ inl w ↦ rw w.1 (inl n') | inr l ↦ rw l.1 (inl k') ]

  pub global_acyclic : (given : ℕ → List ℕ) → IsAcyclic (λ d e. (x : Access) × (y : Access) × (at d ≡ Some x) × (at e ≡ Some y) × Relates (candidate_with h given) union.Global d x e y)
  global_acyclic given = acyclic_by _ (λ e. (moment_of h e, 0)) (λ d e r. inl (global_forward given d e r.0 r.1 r.2 r.3 r.4))

  pub location_acyclic : (given : ℕ → List ℕ) → IsAcyclic (λ d e. (x : Access) × (y : Access) × (at d ≡ Some x) × (at e ≡ Some y) × Relates (candidate_with h given) union.Location d x e y)
  location_acyclic given = acyclic_by _ (key_of h) (λ d e r. location_forward given d e r.0 r.1 r.2 r.3 r.4)

  -- where all program order goes forward in moments, so does each edge of the whole union
  module _ (all : (t j i : ℕ) (d e : Entry) → Holds h t j d → Holds h t i e → j < i → d.moment < e.moment) where
    whole_forward : (given : ℕ → List ℕ) (d e : Event) (x y : Access) → at d ≡ Some x → at e ≡ Some y →
        Relates (candidate_with h given) union.Sequential d x e y → moment_of h d < moment_of h e
    whole_forward given d e x y a b (inl p) = ordered_edge (λ d e. moment_of h d < moment_of h e) d e x y a b p
        (λ t i j f g fh gh n fx gy. rw (moment_at t i f fh, moment_at t j g gh) (all t i j f g fh gh n))
    whole_forward given d e x y a b (inr (inl r)) = read_edge d e y b r.0 r.1 (λ t i j g w gh wh n q s. all t j i w g wh gh n)
    whole_forward given d e x y a b (inr (inr m)) = memory_forward given d e x y a b m

    pub whole_acyclic : (given : ℕ → List ℕ) → IsAcyclic (λ d e. (x : Access) × (y : Access) × (at d ≡ Some x) × (at e ≡ Some y) × Relates (candidate_with h given) union.Sequential d x e y)
    whole_acyclic given = acyclic_by _ (λ e. (moment_of h e, 0)) (λ d e r. inl (whole_forward given d e r.0 r.1 r.2 r.3 r.4))
