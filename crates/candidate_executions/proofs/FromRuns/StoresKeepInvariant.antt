-- A store keeps the invariant of a run.
use Rattle.candidate_executions.proofs.Vocabulary.{◌≡◌, ℕ, suc, ◌<◌, ◌≤◌, List, [], ◌∷◌, ◌++◌, Some, None, slice_get, refl, sym, ap, ◌∙◌, subst, inl, inr, arith, length, length-append, slice_get_within, put, Label, Exec, Pending, Event, Initial, At, Origins}
use Rattle.candidate_executions.proofs.Vocabulary.{with_made, with_waiting}
use Rattle.candidate_executions.proofs.FromRuns.Histories.{Entry, History, Holds}
use Rattle.candidate_executions.proofs.Orders.Lists.{put_same, get_end, get_front, get_cases, put_each, put_both}
use Rattle.candidate_executions.proofs.FromRuns.HistoriesGrow.{with_entry, held_new, Fits, good_more, each_held, held_old}
use Rattle.candidate_executions.proofs.FromRuns.FlushesDue.{due, due_late, due_sorted, due_apart}
use Rattle.candidate_executions.proofs.FromRuns.RunInvariant.{Stored, Waiting, Inv, one_more_made, latest_old, stored_old, free, tick, stored_as}

module _ (init : ℕ → ℕ) (h : History) (buffers : ℕ → List Pending) (memory : ℕ → ℕ) (o : Origins) (n : ℕ) (section : ℕ → ℕ) where
  -- a store takes effect when its flush is due
  module _ (t l v m : ℕ) (ls : List Label) (inv : Inv init h buffers memory o n section (Exec t ∷ ls))
      (at : slice_get (due t (suc n) ls) (length (buffers t)) ≡ Some m) where
    abbrev pub write_entry : Entry
    write_entry = record { access = record { section = section t; location = l; read = None; written = Some v }; exec = n; moment = m; source = Initial 0; seen = 0 }

    sooner : (j : ℕ) (d : Entry) → Holds h t j d → d.moment < m
    sooner j d a =
        let late : suc n ≤ m = due_late t (suc n) ls (length (buffers t)) m at in
        elim (free init h buffers memory o n section t ls inv t j d a) [
          | inl x ↦ omega arith
          | inr x ↦ (let w : Waiting (buffers t) (due t (suc n) ls) (section t) d = inv.waiting t j d a (omega arith) in
              due_sorted t (suc n) ls w.place (length (buffers t)) d.moment m (slice_get_within (buffers t) w.place w.store w.stored) w.at at)
        ]

    pub fits_write : Fits init h t write_entry
    fits_write = record {
      acts = inr refl;
      first = inv.positive;
      delay = let late : suc n ≤ m = due_late t (suc n) ls (length (buffers t)) m at in omega arith;
      prompt = λ r. absurd cc;
      source = λ u r. absurd cc;
      later = inv.early;
      kept = λ j d a k. sooner j d a;
      latest = λ u j d a r c q vis. absurd cc;
      apart = λ u j d a q. elim (free init h buffers memory o n section t ls inv u j d a) [
        | inl x ↦ (let late : suc n ≤ m = due_late t (suc n) ls (length (buffers t)) m at in omega arith)
        | inr x ↦ (let w : Waiting (buffers u) (due u (suc n) ls) (section u) d = inv.waiting u j d a (omega arith) in
            let same : u ≡ t = due_apart u t (suc n) ls w.place (length (buffers t)) m (w.at ∙ ap Some q) at in
            let z : d.moment < m = sooner j d (subst (λ z. Holds h z j d) same a) in omega arith)
      ];
    }

    -- the stores that wait, with their events
    abbrev pub waits : List (ℕ × Event)
    waits = o.waiting t ++ (l, At t (o.made t)) ∷ []

    pub inv_write : Inv init (with_entry h t write_entry) (put buffers t (buffers t ++ record { location = l; value = v } ∷ [])) memory (with_made (with_waiting o t waits) t) (suc n) section ls
    inv_write = record {
      good = good_more init h t write_entry inv.good fits_write;
      positive = omega arith;
      early = each_held h t write_entry (λ u i e. e.exec < suc n) (λ u i e a. let z = inv.early u i e a in omega arith) (omega arith);
      latest = λ k. latest_old init h t (suc n) write_entry k (memory k) (o.memory k) ((tick init h buffers memory o n section t ls inv).latest k)
          (λ a b c. absurd (let late : suc n ≤ m = due_late t (suc n) ls (length (buffers t)) m at in omega arith));
      stored = put_both (λ u tags buffer. (q : ℕ) (w : Pending) → slice_get buffer q ≡ Some w → Stored (with_entry h t write_entry) u tags (due u (suc n) ls) q w)
          o.waiting buffers t waits (buffers t ++ store ∷ []) at_t (λ u s q w a. stored_old h t write_entry u (o.waiting u) (due u (suc n) ls) q w (inv.stored u q w a));
      made = one_more_made h t write_entry o.made inv.made;
      long = put_both (λ u tags buffer. length tags ≡ length buffer) o.waiting buffers t waits (buffers t ++ store ∷ [])
          (let z = inv.long t in omega (arith, length-append (o.waiting t) ((l, At t (o.made t)) ∷ []), length-append (buffers t) (store ∷ []))) (λ u s. inv.long u);
      waiting = each_held h t write_entry (λ u i e. suc n ≤ e.moment → Waiting (put buffers t (buffers t ++ store ∷ []) u) (due u (suc n) ls) (section u) e)
          (λ u i e a b. longer u e (inv.waiting u i e a (omega arith))) (λ b. new);
    }
      where
        store : Pending
        store = record { location = l; value = v }

        at_t : (q : ℕ) (w : Pending) → slice_get (buffers t ++ store ∷ []) q ≡ Some w → Stored (with_entry h t write_entry) t waits (due t (suc n) ls) q w
        at_t q w a = elim (get_cases (buffers t) store q w a) [
          | inl x ↦ (let s : Stored h t (o.waiting t) (due t (suc n) ls) q w = inv.stored t q w x in
              stored_as s (held_old h t write_entry t s.index s.entry s.holds) s.at (get_front (o.waiting t) (l, At t (o.made t)) q (w.location, At t s.index) s.tag))
          | inr x ↦ (let here : Stored (with_entry h t write_entry) t waits (due t (suc n) ls) (length (buffers t)) store = record {
            index = length (h t);
            entry = write_entry;
            holds = held_new h t write_entry;
            location = refl;
            written = refl;
            at = at;
            tag = subst (λ z. slice_get waits z ≡ Some (l, At t (length (h t)))) (inv.long t) (get_end (o.waiting t) (l, At t (o.made t)) ∙ ap (λ z. Some (l, At t z)) (inv.made t));
          } in subst (λ z. Stored (with_entry h t write_entry) t waits (due t (suc n) ls) z w) (sym x.0)
              (subst (λ z. Stored (with_entry h t write_entry) t waits (due t (suc n) ls) (length (buffers t)) z) (sym x.1) here))
        ]

        longer : (u : ℕ) (e : Entry) → Waiting (buffers u) (due u (suc n) ls) (section u) e →
            Waiting (put buffers t (buffers t ++ store ∷ []) u) (due u (suc n) ls) (section u) e
        longer u e w = record {
          place = w.place;
          store = w.store;
          at = w.at;
          location = w.location;
          section_is = w.section_is;
          stored = put_each (λ u buffer. slice_get (buffers u) w.place ≡ Some w.store → slice_get buffer w.place ≡ Some w.store) buffers t (buffers t ++ store ∷ [])
              (λ a. get_front (buffers t) store w.place w.store a) (λ u s a. a) u w.stored;
        }

        new : Waiting (put buffers t (buffers t ++ store ∷ []) t) (due t (suc n) ls) (section t) write_entry
        new = record {
          place = length (buffers t);
          store = store;
          at = at;
          location = refl;
          section_is = refl;
          stored = rw put_same (get_end (buffers t) store);
        }
