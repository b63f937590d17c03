-- What a load or an exchange finds is the newest write that it may see.
use Rattle.candidate_executions.proofs.Vocabulary.{◌≡◌, ℕ, suc, ◌≤◌, List, ◌∷◌, Option, Some, None, slice_get, refl, sym, ap, ◌∙◌, subst, inl, inr, arith, cases_lt, cases_eq, same_Some, slice_get_within, newest, found, Label, Exec, Pending, At, Origins}
use Rattle.candidate_executions.proofs.Vocabulary.{found_write}
use Rattle.candidate_executions.proofs.{FromRuns.Histories.History, FromRuns.Histories.wrote_by, FromRuns.FoundWrites.AreTagged, FromRuns.FoundWrites.none_found, FromRuns.FoundWrites.newest_found}
use Rattle.candidate_executions.proofs.FromRuns.FlushesDue.{due, due_late, due_sorted}
use Rattle.candidate_executions.proofs.FromRuns.NewestStore.{Found, newest_none, newest_some}
use Rattle.candidate_executions.proofs.FromRuns.RunInvariant.{Latest, Stored, Waiting, Inv, Seen}

module _ (init : ℕ → ℕ) (h : History) (buffers : ℕ → List Pending) (memory : ℕ → ℕ) (o : Origins) (n : ℕ) (section : ℕ → ℕ) where
  tags : (t : ℕ) (ls : List Label) → Inv init h buffers memory o n section (Exec t ∷ ls) → AreTagged (buffers t) (o.waiting t)
  tags t ls inv q w a = let s = inv.stored t q w a in (At t s.index, s.tag)

  pub seen_memory : (t l : ℕ) (ls : List Label) → Inv init h buffers memory o n section (Exec t ∷ ls) →
      newest l (buffers t) ≡ None → Seen init h t n l (memory l) (o.memory l)
  seen_memory t l ls inv none = record {
    event = m.event;
    found_is = m.held_is;
    moment = m.moment;
    origin = elim m.origin [ inl u ↦ inl u | inr w ↦ inr (w, inl (let z = w.at in let y = m.before in omega arith)) ];
    newest = λ u j d a b c vis. elim vis [
      | inl x ↦ m.newest u j d a b c x
      | inr x ↦ elim (cases_lt d.moment n) [
        | inl y ↦ m.newest u j d a b c y
        | inr y ↦ absurd (let w : Waiting (buffers u) (due u (suc n) ls) (section u) d = inv.waiting u j d a y in
            newest_none l (buffers t) none w.place w.store (subst (λ z. slice_get (buffers z) w.place ≡ Some w.store) x.0 w.stored) (sym w.location ∙ b))
      ]
    ];
  }
    where
      m : Latest init h n l (memory l) (o.memory l)
      m = inv.latest l

  pub seen_buffer : (t l v : ℕ) (ls : List Label) → Inv init h buffers memory o n section (Exec t ∷ ls) →
      newest l (buffers t) ≡ Some v → Seen init h t n l v (found_write l (o.waiting t) (o.memory l))
  seen_buffer t l v ls inv some = record {
    event = At t st.index;
    found_is = newest_found l (buffers t) (o.waiting t) f.place f.store (At t st.index) (inv.long t) (tags t ls inv) f.at f.location f.last st.tag (o.memory l);
    moment = st.entry.moment;
    origin = inr (wrote_by refl st.holds (st.location ∙ f.location) (st.written ∙ ap Some f.value) refl, inr (refl, slice_get_within (h t) st.index st.entry st.holds));
    newest = λ u j d a b c vis. elim vis [
      | inl x ↦ omega (arith, late)
      | inr x ↦ elim (cases_lt d.moment n) [
        | inl y ↦ omega (arith, late)
        | inr y ↦ (let w : Waiting (buffers u) (due u (suc n) ls) (section u) d = inv.waiting u j d a y in
            below w.place d.moment
            (f.last w.place w.store (subst (λ z. slice_get (buffers z) w.place ≡ Some w.store) x.0 w.stored) (sym w.location ∙ b))
            (subst (λ z. slice_get (due z (suc n) ls) w.place ≡ Some d.moment) x.0 w.at))
      ]
    ];
  }
    where
      f : Found l (buffers t) v
      f = newest_some l (buffers t) v some

      st : Stored h t (o.waiting t) (due t (suc n) ls) f.place f.store
      st = inv.stored t f.place f.store f.at

      late : suc n ≤ st.entry.moment
      late = due_late t (suc n) ls f.place st.entry.moment st.at

      below : (q m : ℕ) → q ≤ f.place → slice_get (due t (suc n) ls) q ≡ Some m → m ≤ st.entry.moment
      below q m o a = elim (cases_eq q f.place) [
        | inl e ↦ (let z : slice_get (due t (suc n) ls) f.place ≡ Some m = rw e at a in let y : m ≡ st.entry.moment = same_Some m st.entry.moment (sym z ∙ st.at) in omega arith)
        | inr e ↦ (let z = due_sorted t (suc n) ls q f.place m st.entry.moment (omega arith) a st.at in omega arith)
      ]

  pub seen_any : (t l : ℕ) (ls : List Label) → Inv init h buffers memory o n section (Exec t ∷ ls) →
      Seen init h t n l (found (newest l (buffers t)) (memory l)) (found_write l (o.waiting t) (o.memory l))
  seen_any t l ls inv = go (newest l (buffers t)) refl
    where
      go : (r : Option ℕ) → newest l (buffers t) ≡ r → Seen init h t n l (found r (memory l)) (found_write l (o.waiting t) (o.memory l))
      go None e = subst (λ z. Seen init h t n l (memory l) z) (sym (none_found l (buffers t) (o.waiting t) (inv.long t) (tags t ls inv) (newest_none l (buffers t) e) (o.memory l))) (seen_memory t l ls inv e)
      go (Some v) e = seen_buffer t l v ls inv e
