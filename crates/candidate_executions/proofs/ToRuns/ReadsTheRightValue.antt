-- A read finds its source's value in memory or in its thread's buffer.
use Rattle.candidate_executions.proofs.Vocabulary.{◌≡◌, ◌≢◌, ℕ, ◌<◌, ◌≤◌, List, [], ◌∷◌, ◌⊎◌, Option, Some, None, option_map, slice_get, map, refl, sym, ap, ap₂, ◌∙◌, subst, inl, inr, arith, cases_eq, cases_order, same_Some, slice_get-map, Listing, Local}
use Rattle.candidate_executions.proofs.Vocabulary.{length, Gaps, StoreBufferMachine, newest, found, Pending, Access, Event, Initial, At, Candidate, IsCandidate, SameThread, KeepsOrder, Edge, IsAcyclic, found_write, length-map}
use Rattle.candidate_executions.specs.declared.event.Kind.TheVariants as union
use Rattle.candidate_executions.proofs.FromRuns.FoundWrites.{AreTagged, none_found, newest_found}
use Rattle.candidate_executions.proofs.{FromRuns.NewestStore.Found, FromRuns.NewestStore.newest_none, FromRuns.NewestStore.newest_some, Orders.AcyclicIsOrdered.In}
use Rattle.candidate_executions.proofs.Candidates.WrittenValues.{stored_as, store_of, in_or_not, get_mapped, some_written}
use Rattle.candidate_executions.proofs.ToRuns.Standing.{at, G, Lo, W, place_edge, write_g, same_value, two_lo, store, own, Stands, Has, Shared}

module _ (p : Listing) (gaps : Gaps) (c : Candidate) (is : IsCandidate p (StoreBufferMachine gaps) c) (loc : IsAcyclic (Edge p (StoreBufferMachine gaps) c union.Location)) where
  module _ (t i : ℕ) (rest : List Event) (y : Access) (here : at p gaps c is loc (At t i) ≡ Some y) (local : Local) (buffer : List Pending) (waits : List (ℕ × Event)) (count : ℕ) (memory : ℕ → ℕ) (origins : ℕ → Event) (fuel executed : ℕ)
      (mine : Stands p gaps c is loc t local buffer waits count (At t i ∷ rest) fuel executed) (shared : Shared p gaps c is loc memory origins (At t i ∷ rest)) where
    -- a store that waits and is kept before the event would stand before it in the order
    pub not_kept : (j : ℕ) (x : Access) → at p gaps c is loc (At t j) ≡ Some x → In (At t j) (At t i ∷ rest) → j < i → KeepsOrder x y → ⊥
    not_kept j x a b n k = elim b [
      | inl q ↦ (let z : j ≡ i = cc in omega arith)
      | inr m ↦ shared.ordered.0 (At t j) m (x, y, a, here, inl ((refl, n), k))
    ]

    -- so the buffer is empty where all are kept
    pub clear : mine.done ≤ i → ((x : Access) → x.section ≤ mine.section → KeepsOrder x y) → buffer ≡ []
    clear d k = go mine.queue refl
      where
        go : (q : List ℕ) → mine.queue ≡ q → buffer ≡ []
        go [] e = mine.buffer_is ∙ rw e refl
        go (j ∷ js) e =
            let (b, m) = mine.queued 0 j (rw e refl) in
            let (x, a) = shared.known t j m in
            absurd (not_kept j x a m (omega arith) (k x (mine.early j x a b m)))

    -- and so no store of the thread waits
    pub no_waits : buffer ≡ [] → waits ≡ []
    no_waits e = go mine.queue refl
      where
        go : (q : List ℕ) → mine.queue ≡ q → waits ≡ []
        go [] h = mine.waits_are ∙ ap (map (own p gaps c is loc t)) h
        go (j ∷ js) h = absurd (let z : [] ≡ store p gaps c is loc t j ∷ map (store p gaps c is loc t) js = sym e ∙ (mine.buffer_is ∙ ap (map (store p gaps c is loc t)) h) in cc)

    abbrev pub me : Event
    me = At t i

    -- the source of a read is in memory, or waits in the reader's own buffer
    module _ (v : ℕ) (reads : y.read ≡ Some v) (now : mine.done ≡ i) where
      abbrev pub from : Event
      from = c.source me

      not_me : from ≢ me
      not_me = (is.sources me y v here reads).0

      from_writes : W p gaps c is loc from y.location v
      from_writes = (is.sources me y v here reads).1

      source_cases : (In from (me ∷ rest) → ⊥) ⊎ ((m : ℕ) × (from ≡ At t m) × (m < i) × In (At t m) (me ∷ rest))
      source_cases = go from refl
        where
          go : (s : Event) → from ≡ s → (In s (me ∷ rest) → ⊥) ⊎ ((m : ℕ) × (s ≡ At t m) × (m < i) × In (At t m) (me ∷ rest))
          go (Initial l) e = inl (shared.initial l)
          go (At u m) e = elim (cases_eq u t) [
            | inl q ↦ elim (cases_order m i) [
              | inl r ↦ absurd (not_me (e ∙ ap₂ At q r))
              | inr (inl r) ↦ elim (in_or_not (At t m) (me ∷ rest)) [
                | inl k ↦ inr (m, ap (λ z. At z m) q, r, k)
                | inr k ↦ inl (λ z. k (subst (λ x. In (At x m) (me ∷ rest)) q z))
              ]
              | inr (inr r) ↦ absurd (
                  let f : from ≡ At t m = e ∙ ap (λ z. At z m) q in
                  let w : W p gaps c is loc (At t m) y.location v = subst (λ z. W p gaps c is loc z y.location v) f from_writes in
                  two_lo p gaps c is loc me (At t m) (place_edge p gaps c is loc t i m y w.0 here w.1 r (sym w.2)) (subst (λ z. Lo p gaps c is loc z me) f (from_writes.0, y, from_writes.1, here, inr (inl (rw reads refl, refl)))))
            ]
            | inr n ↦ inl (λ z. elim z [
              | inl q ↦ not_me (e ∙ q)
              | inr k ↦ shared.ordered.0 (At u m) k (subst (λ x. G p gaps c is loc x me) e
                  (from_writes.0, y, from_writes.1, here, inr (inl ((rw reads refl, refl), (λ same. n (subst (λ x. SameThread x me) e same))))))
            ])
          ]

      -- the newest store that waits in the buffer is the source
      is_newest : (q j : ℕ) → slice_get mine.queue q ≡ Some j → (x : Access) → at p gaps c is loc (At t j) ≡ Some x → x.location ≡ y.location →
          ((r m : ℕ) (z : Access) → slice_get mine.queue r ≡ Some m → at p gaps c is loc (At t m) ≡ Some z → z.location ≡ y.location → r ≤ q) → from ≡ At t j
      is_newest q j a x b l newer =
          let (before, waits) = mine.queued q j a in
          let (none, some) = mine.plain j x b before waits in
          let w : W p gaps c is loc (At t j) y.location (stored_as x.written) = (x, b, l, some_written x.written some) in
          elim (cases_order (c.rank from) (c.rank (At t j))) [
            | inl e ↦ is.ranks from (At t j) y.location v (stored_as x.written) from_writes w e
            | inr (inl o) ↦ absurd (two_lo p gaps c is loc me (At t j)
                (y, x, here, b, inr (inr (inr (sym l, rw reads refl, some, (λ e. let z : i ≡ j = cc in omega arith), o))))
                (place_edge p gaps c is loc t j i x y b here (omega arith) l))
            | inr (inr o) ↦ elim source_cases [
              | inl past ↦ absurd (shared.closed from (At t j) past waits (write_g p gaps c is loc (At t j) from y.location (stored_as x.written) v w from_writes o))
              | inr own ↦ (let (m, f, n, k) = own in
                  let fw : W p gaps c is loc (At t m) y.location v = subst (λ z. W p gaps c is loc z y.location v) f from_writes in
                  let (r, g) = mine.in_queue m (omega arith) k in
                  let le : r ≤ q = newer r m fw.0 g fw.1 fw.2 in
                  elim (cases_eq r q) [
                    | inl e ↦ (let z : m ≡ j = same_Some m j (sym g ∙ (ap (slice_get mine.queue) e ∙ a)) in f ∙ ap (At t) z)
                    | inr ne ↦ absurd (let lt : m < j = mine.rising r q m j (omega arith) g a in
                        two_lo p gaps c is loc (At t m) (At t j) (place_edge p gaps c is loc t m j fw.0 x fw.1 b lt (fw.2 ∙ sym l))
                        (subst (λ z. Lo p gaps c is loc (At t j) z) f (x, from_writes.0, b, from_writes.1, inr (inr (inl (l ∙ sym from_writes.2, some, rw from_writes.3 refl, o))))))
                  ])
            ]
          ]

      has : Has p gaps c is loc (me ∷ rest) y.location (memory y.location) (origins y.location)
      has = shared.has y.location

      -- none of the stores in the buffer is to the location
      abbrev None_waits : Type 0
      None_waits = (q j : ℕ) (x : Access) → slice_get mine.queue q ≡ Some j → at p gaps c is loc (At t j) ≡ Some x → x.location ≡ y.location → ⊥

      -- then the source is the write that memory has
      from_memory : None_waits → from ≡ has.event
      from_memory none = elim source_cases [
        | inl past ↦ (let le = has.last from v from_writes past in
            elim (cases_eq (c.rank from) (c.rank has.event)) [
              | inl e ↦ is.ranks from has.event y.location v (memory y.location) from_writes has.writes e
              | inr ne ↦ absurd (shared.closed has.event me has.past (inl refl)
                  (y, has.writes.0, here, has.writes.1, inr (inr (inr (sym has.writes.2, rw reads refl, rw has.writes.3 refl, (λ e. has.past (inl (sym e))), omega arith)))))
            ])
        | inr own ↦ absurd (let (m, f, n, k) = own in
            let fw : W p gaps c is loc (At t m) y.location v = subst (λ z. W p gaps c is loc z y.location v) f from_writes in
            let (r, g) = mine.in_queue m (omega arith) k in
            none r m fw.0 g fw.1 fw.2)
      ]

      at_place : (q j : ℕ) → slice_get mine.queue q ≡ Some j → slice_get buffer q ≡ Some (store p gaps c is loc t j)
      at_place q j a = rw mine.buffer_is (slice_get-map (store p gaps c is loc t) mine.queue q ∙ ap (option_map (store p gaps c is loc t)) a)

      -- each store that waits has its event
      tag_at : (q j : ℕ) (w : Pending) → slice_get mine.queue q ≡ Some j → store p gaps c is loc t j ≡ w → slice_get waits q ≡ Some (w.location, At t j)
      tag_at q j w a e =
          rw mine.waits_are (slice_get-map (own p gaps c is loc t) mine.queue q ∙ (ap (option_map (own p gaps c is loc t)) a ∙ ap (λ (z : Pending). Some (z.location, At t j)) e))

      tags : AreTagged buffer waits
      tags q w a = let (j, b, e) = get_mapped (store p gaps c is loc t) mine.queue q w (rw (← mine.buffer_is) a) in (At t j, tag_at q j w b e)

      long : length waits ≡ length buffer
      long = ap length mine.waits_are ∙ (length-map mine.queue (own p gaps c is loc t) ∙ (sym (length-map mine.queue (store p gaps c is loc t)) ∙ sym (ap length mine.buffer_is)))

      -- the source is in memory where none to the location waits
      not_waiting : newest y.location buffer ≡ None → from ≡ has.event
      not_waiting e = from_memory (λ q j x a b l. newest_none y.location buffer e q (store p gaps c is loc t j) (at_place q j a) (rw b l))

      -- and else the newest that waits
      waiting : (u : ℕ) (f : Found y.location buffer u) → (j : ℕ) × (slice_get mine.queue f.place ≡ Some j) × (store p gaps c is loc t j ≡ f.store) × (from ≡ At t j)
      waiting u f =
          let (j, a, g) = get_mapped (store p gaps c is loc t) mine.queue f.place f.store (rw (← mine.buffer_is) f.at) in
          let (x, b) = shared.known t j (mine.queued f.place j a).1 in
          let st : store_of (Some x) ≡ f.store = subst (λ z. store_of z ≡ f.store) b g in
          (j, a, g, is_newest f.place j a x b (ap (λ (z : Pending). z.location) st ∙ f.location) (λ r m z d h k. f.last r (store p gaps c is loc t m) (at_place r m d) (rw h k)))

      -- the write that the read finds is its source
      pub right_write : found_write y.location waits (origins y.location) ≡ from
      right_write = go (newest y.location buffer) refl
        where
          go : (o : Option ℕ) → newest y.location buffer ≡ o → found_write y.location waits (origins y.location) ≡ from
          go None e = none_found y.location buffer waits long tags (newest_none y.location buffer e) (origins y.location) ∙ (has.origin_is ∙ sym (not_waiting e))
          go (Some u) e =
              let f = newest_some y.location buffer u e in
              let (j, a, g, is_it) = waiting u f in
              newest_found y.location buffer waits f.place f.store (At t j) long tags f.at f.location f.last (tag_at f.place j f.store a g) (origins y.location) ∙ sym is_it

      pub right_value : found (newest y.location buffer) (memory y.location) ≡ v
      right_value = go (newest y.location buffer) refl
        where
          go : (o : Option ℕ) → newest y.location buffer ≡ o → found o (memory y.location) ≡ v
          go None e = same_value p gaps c is loc has.event y.location v (memory y.location) (subst (λ z. W p gaps c is loc z y.location v) (not_waiting e) from_writes) has.writes
          go (Some u) e =
              let f = newest_some y.location buffer u e in
              let (j, a, g, is_it) = waiting u f in
              let w : W p gaps c is loc (At t j) y.location v = subst (λ z. W p gaps c is loc z y.location v) is_it from_writes in
              sym f.value ∙ (ap (λ (z : Pending). z.value) (sym g ∙ ap store_of w.1) ∙ ap stored_as w.3)
