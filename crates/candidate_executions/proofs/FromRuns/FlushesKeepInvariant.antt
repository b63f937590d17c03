-- A flush keeps the invariant of a run.
use Rattle.candidate_executions.proofs.Vocabulary.{◌≡◌, ℕ, suc, zero, ◌≤◌, List, [], ◌∷◌, ◌⊎◌, Some, slice_get, refl, sym, ap, ◌∙◌, subst, inl, inr, arith, length, eq-eqb, ne_eqb, cases_lt, same_Some, put, Label, Flush, Pending, Event, At, Origins}
use Rattle.candidate_executions.proofs.Vocabulary.{with_waiting, with_memory}
use Rattle.candidate_executions.proofs.{FromRuns.Histories.Entry, FromRuns.Histories.History, FromRuns.Histories.Holds, Orders.Lists.put_each, Orders.Lists.put_both}
use Rattle.candidate_executions.proofs.FromRuns.FlushesDue.{due, due_late}
use Rattle.candidate_executions.proofs.FromRuns.RunInvariant.{Latest, Stored, Waiting, Inv, latest_to, latest_now, stored_as}

module _ (init : ℕ → ℕ) (h : History) (buffers : ℕ → List Pending) (memory : ℕ → ℕ) (o : Origins) (n : ℕ) (section : ℕ → ℕ) where
  -- a flush
  due_same : (t : ℕ) (ls : List Label) → due t n (Flush t ∷ ls) ≡ n ∷ due t (suc n) ls
  due_same t ls = rw (eq-eqb t t refl) refl

  due_other : (t u : ℕ) (ls : List Label) → (u ≡ t → ⊥) → due u n (Flush t ∷ ls) ≡ due u (suc n) ls
  due_other t u ls q = rw (ne_eqb t u (λ e. q (sym e))) refl

  module _ (t : ℕ) (w : Pending) (ws : List Pending) (ls : List Label) (full : buffers t ≡ w ∷ ws) (inv : Inv init h buffers memory o n section (Flush t ∷ ls)) where
    pub head : Stored h t (o.waiting t) (n ∷ due t (suc n) ls) 0 w
    head = rw due_same at (inv.stored t 0 w (rw full refl))

    -- the stores that wait on
    pub others_wait : (xs : List (ℕ × Event)) × (o.waiting t ≡ (w.location, At t head.index) ∷ xs)
    others_wait = go (o.waiting t) head.tag
      where
        go : (es : List (ℕ × Event)) → slice_get es 0 ≡ Some (w.location, At t head.index) → (xs : List (ℕ × Event)) × (es ≡ (w.location, At t head.index) ∷ xs)
        go [] e = absurd cc
        go (x ∷ xs) e = (xs, ap (λ z. z ∷ xs) (same_Some x (w.location, At t head.index) e))

    abbrev pub after_it : Origins
    after_it = with_memory (with_waiting o t others_wait.0) w.location (At t head.index)

    waits : (u i : ℕ) (e : Entry) → Holds h u i e → n ≤ e.moment → ((u ≡ t) × (e.moment ≡ n) × (e.access.location ≡ w.location)) ⊎
        ((suc n ≤ e.moment) × Waiting (put buffers t ws u) (due u (suc n) ls) (section u) e)
    waits = put_each (λ u buffer. (i : ℕ) (e : Entry) → Holds h u i e → n ≤ e.moment → ((u ≡ t) × (e.moment ≡ n) × (e.access.location ≡ w.location)) ⊎
        ((suc n ≤ e.moment) × Waiting buffer (due u (suc n) ls) (section u) e)) buffers t ws
        (λ i e a b. let x = inv.waiting t i e a b in at_place e x.place x.store (rw full at x.stored) (rw due_same at x.at) x.location x.section_is)
        (λ u q i e a b. let x = rw (due_other t u ls q) at (inv.waiting u i e a b) in inr (due_late u (suc n) ls x.place e.moment x.at, x))
      where
        at_place : (e : Entry) (k : ℕ) (x : Pending) → slice_get (w ∷ ws) k ≡ Some x → slice_get (n ∷ due t (suc n) ls) k ≡ Some e.moment → e.access.location ≡ x.location →
            e.access.section ≡ section t →
            ((t ≡ t) × (e.moment ≡ n) × (e.access.location ≡ w.location)) ⊎ ((suc n ≤ e.moment) × Waiting ws (due t (suc n) ls) (section t) e)
        at_place e zero x f g l s = inl (refl, cc, l ∙ sym (ap (λ (z : Pending). z.location) (same_Some w x f)))
        at_place e (suc k) x f g l s = inr (due_late t (suc n) ls k e.moment g, record { place = k; store = x; stored = f; at = g; location = l; section_is = s })

    pub inv_flush : Inv init h (put buffers t ws) (put memory w.location w.value) after_it (suc n) section ls
    inv_flush = record {
      good = inv.good;
      positive = omega arith;
      early = λ u i e a. let z = inv.early u i e a in omega arith;
      latest = put_both (Latest init h (suc n)) memory o.memory w.location w.value (At t head.index)
          (latest_now refl head.holds head.location head.written (same_Some n head.entry.moment head.at)) (λ k q. before k q (inv.latest k));
      made = inv.made;
      long = put_both (λ u tags buffer. length tags ≡ length buffer) o.waiting buffers t others_wait.0 ws
          (let a = ap length others_wait.1 in let b = ap length full in let c = inv.long t in omega arith) (λ u s. inv.long u);
      stored = put_both (λ u tags buffer. (q : ℕ) (x : Pending) → slice_get buffer q ≡ Some x → Stored h u tags (due u (suc n) ls) q x) o.waiting buffers t others_wait.0 ws own
          (λ u s q x a. rw (due_other t u ls s) at (inv.stored u q x a));
      waiting = λ u i e a b. elim (waits u i e a (omega arith)) [ inl x ↦ absurd (let z = x.1 in omega arith) | inr x ↦ x.1 ];
    }
      where
        own : (q : ℕ) (x : Pending) → slice_get ws q ≡ Some x → Stored h t others_wait.0 (due t (suc n) ls) q x
        own q x a =
            let s : Stored h t (o.waiting t) (due t n (Flush t ∷ ls)) (suc q) x = inv.stored t (suc q) x (rw full a) in
            stored_as s s.holds (rw due_same at s.at) (subst (λ es. slice_get es (suc q) ≡ Some (x.location, At t s.index)) others_wait.1 s.tag)

        before : (k : ℕ) → (k ≡ w.location → ⊥) → Latest init h n k (memory k) (o.memory k) → Latest init h (suc n) k (memory k) (o.memory k)
        before k q m = latest_to m (λ w. w) (let z = m.before in omega arith) (λ u j d a b c z. elim (cases_lt d.moment n) [
          | inl y ↦ m.newest u j d a b c y
          | inr y ↦ elim (waits u j d a y) [ inl x ↦ absurd (q (sym b ∙ x.2)) | inr x ↦ absurd (let g = x.0 in omega arith) ]
        ])
