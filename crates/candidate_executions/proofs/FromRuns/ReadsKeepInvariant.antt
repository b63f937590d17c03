-- An access that reads keeps the invariant of a run.
use Rattle.candidate_executions.proofs.Vocabulary.{◌≡◌, ℕ, suc, ◌≤◌, List, [], ◌∷◌, ◌⊎◌, Option, Some, None, IsSome, refl, sym, ap, subst, inl, inr, arith, length, same_Some, put, Label, Exec, Pending, At, Event, Origins, with_made, with_memory, ◌<◌}
use Rattle.candidate_executions.proofs.{FromRuns.Histories.Entry, FromRuns.Histories.History, FromRuns.Histories.Source, FromRuns.Histories.First, Orders.Lists.put_both}
use Rattle.candidate_executions.proofs.FromRuns.HistoriesGrow.{with_entry, held_new, Fits, good_more, each_held}
use Rattle.candidate_executions.proofs.FromRuns.FlushesDue.{due}
use Rattle.candidate_executions.proofs.FromRuns.RunInvariant.{Latest, Waiting, Inv, Seen, none_waits, one_more_made, latest_old, latest_now, stored_old, free, tick}

module _ (init : ℕ → ℕ) (h : History) (buffers : ℕ → List Pending) (memory : ℕ → ℕ) (o : Origins) (n : ℕ) (section : ℕ → ℕ) where
  -- an entry that reads fits
  module _ (t l v : ℕ) (written : Option ℕ) (ls : List Label) (inv : Inv init h buffers memory o n section (Exec t ∷ ls)) (found : Event) (seen : Seen init h t n l v found)
      (quiet : (written ≡ None) ⊎ (buffers t ≡ [])) where
    abbrev pub read_entry : Entry
    read_entry = record { access = record { section = section t; location = l; read = Some v; written = written }; exec = n; moment = n; source = seen.event; seen = seen.moment }

    pub fits_read : Fits init h t read_entry
    fits_read = record {
      acts = inl refl;
      first = inv.positive;
      delay = omega arith;
      prompt = λ r. refl;
      source = λ u r. subst (λ u. First init read_entry u ⊎ Source h t (length (h t)) read_entry u) (same_Some v u r) seen.origin;
      later = inv.early;
      kept = λ j d a k. elim (free init h buffers memory o n section t ls inv t j d a) [
        | inl x ↦ x
        | inr x ↦ absurd (let w : Waiting (buffers t) (due t (suc n) ls) (section t) d = inv.waiting t j d a (omega arith) in
            elim k [
              | inl r ↦ (let z = inv.good.prompt t j d a r in let y = inv.early t j d a in omega arith)
              | inr (inl s) ↦ elim quiet [ inl q ↦ (let z : IsSome {T = ℕ} None = rw q at s in cc) | inr q ↦ none_waits w q ]
              | inr (inr c) ↦ c w.section_is
            ])
      ];
      latest = λ u j d a r c q vis. seen.newest u j d a q c vis;
      apart = λ u j d a q. elim (free init h buffers memory o n section t ls inv u j d a) [ inl x ↦ omega arith | inr x ↦ omega arith ];
    }

    pub inv_reads : (memory' : ℕ → ℕ) (held : ℕ → Event) → ((k : ℕ) → Latest init (with_entry h t read_entry) (suc n) k (memory' k) (held k)) →
        Inv init (with_entry h t read_entry) buffers memory' (record o { made = put o.made t (suc (o.made t)); memory = held }) (suc n) section ls
    inv_reads memory' held new = record {
      good = good_more init h t read_entry inv.good fits_read;
      positive = omega arith;
      early = each_held h t read_entry (λ u i e. e.exec < suc n) (λ u i e a. let z = inv.early u i e a in omega arith) (omega arith);
      latest = new;
      stored = λ u q w a. stored_old h t read_entry u (o.waiting u) (due u (suc n) ls) q w (inv.stored u q w a);
      made = one_more_made h t read_entry o.made inv.made;
      long = inv.long;
      waiting = each_held h t read_entry (λ u i e. suc n ≤ e.moment → Waiting (buffers u) (due u (suc n) ls) (section u) e) (λ u i e a b. inv.waiting u i e a (omega arith)) (λ b. absurd (omega arith));
    }

    -- a load leaves memory as it is
    pub inv_load : written ≡ None → Inv init (with_entry h t read_entry) buffers memory (with_made o t) (suc n) section ls
    inv_load none = inv_reads memory o.memory (λ k. latest_old init h t (suc n) read_entry k (memory k) (o.memory k) ((tick init h buffers memory o n section t ls inv).latest k)
        (λ a b c. absurd (let z : IsSome {T = ℕ} None = rw none at b in cc)))

    -- an exchange writes it
    pub inv_swap : (x : ℕ) → written ≡ Some x → Inv init (with_entry h t read_entry) buffers (put memory l x) (with_made (with_memory o l (At t (o.made t))) t) (suc n) section ls
    inv_swap x some = inv_reads (put memory l x) (put o.memory l (At t (o.made t))) (put_both (Latest init (with_entry h t read_entry) (suc n)) memory o.memory l x (At t (o.made t))
        (latest_now (ap (At t) (inv.made t)) (held_new h t read_entry) refl some refl)
        (λ k q. latest_old init h t (suc n) read_entry k (memory k) (o.memory k) ((tick init h buffers memory o n section t ls inv).latest k) (λ a b c. absurd (q (sym a)))))
