-- What joins the machine's buffers and memory to the history, along a run.
use Rattle.candidate_executions.proofs.Vocabulary.{◌≡◌, ℕ, suc, ◌<◌, ◌≤◌, List, [], ◌∷◌, ◌++◌, ◌⊎◌, Some, IsSome, slice_get, refl, subst, inl, inr, arith, length, length-append, cases_lt, put, Label, Exec, Pending, Event, At, Origins}
use Rattle.candidate_executions.proofs.FromRuns.Histories.{Entry, History, Holds, Visible, Wrote, wrote_by, Untouched, Good}
use Rattle.candidate_executions.proofs.Orders.Lists.{put_each, put_both}
use Rattle.candidate_executions.proofs.FromRuns.HistoriesGrow.{with_entry, held_old, wrote_old, each_held}
use Rattle.candidate_executions.proofs.FromRuns.FlushesDue.{due, due_late}

-- the write that memory has at the location: the latest before moment n
pub record Latest (init : ℕ → ℕ) (h : History) (n l v : ℕ) (held : Event) : Type 0 where
  pub event : Event
  pub held_is : held ≡ event
  pub moment : ℕ
  pub before : moment < n
  pub origin : Untouched init l v event moment ⊎ Wrote h l v event moment
  pub newest : (u j : ℕ) (d : Entry) → Holds h u j d → d.access.location ≡ l → IsSome d.access.written → d.moment < n → d.moment ≤ moment

-- the entry of a store that waits in a buffer
pub record Stored (h : History) (t : ℕ) (waits : List (ℕ × Event)) (dues : List ℕ) (q : ℕ) (w : Pending) : Type 0 where
  pub index : ℕ
  pub entry : Entry
  pub holds : Holds h t index entry
  pub location : entry.access.location ≡ w.location
  pub written : entry.access.written ≡ Some w.value
  pub at : slice_get dues q ≡ Some entry.moment
  pub tag : slice_get waits q ≡ Some (w.location, At t index)

-- the place in the buffer of an entry that is still to take effect
pub record Waiting (buffer : List Pending) (dues : List ℕ) (section : ℕ) (e : Entry) : Type 0 where
  pub place : ℕ
  pub store : Pending
  pub stored : slice_get buffer place ≡ Some store
  pub at : slice_get dues place ≡ Some e.moment
  pub location : e.access.location ≡ store.location
  pub section_is : e.access.section ≡ section

pub record Inv (init : ℕ → ℕ) (h : History) (buffers : ℕ → List Pending) (memory : ℕ → ℕ) (o : Origins) (n : ℕ) (section : ℕ → ℕ) (ls : List Label) : Type 0 where
  pub good : Good init h
  pub positive : 0 < n
  pub early : (t i : ℕ) (e : Entry) → Holds h t i e → e.exec < n
  pub latest : (l : ℕ) → Latest init h n l (memory l) (o.memory l)
  pub stored : (t q : ℕ) (w : Pending) → slice_get (buffers t) q ≡ Some w → Stored h t (o.waiting t) (due t n ls) q w
  pub made : (t : ℕ) → o.made t ≡ length (h t)
  pub long : (t : ℕ) → length (o.waiting t) ≡ length (buffers t)
  pub waiting : (t i : ℕ) (e : Entry) → Holds h t i e → n ≤ e.moment → Waiting (buffers t) (due t n ls) (section t) e

-- what a load or an exchange of thread t finds at the location
pub record Seen (init : ℕ → ℕ) (h : History) (t n l v : ℕ) (found : Event) : Type 0 where
  pub event : Event
  pub found_is : found ≡ event
  pub moment : ℕ
  pub origin : Untouched init l v event moment ⊎ ((w : Wrote h l v event moment) × Visible w.thread w.index w.write.moment t (length (h t)) n)
  pub newest : (u j : ℕ) (d : Entry) → Holds h u j d → d.access.location ≡ l → IsSome d.access.written →
      Visible u j d.moment t (length (h t)) n → d.moment ≤ moment

pub none_waits : {buffer : List Pending} {dues : List ℕ} {section : ℕ} {e : Entry} → Waiting buffer dues section e → buffer ≡ [] → ⊥
none_waits w b = let z : slice_get [] w.place ≡ Some w.store = rw b at w.stored in absurd cc

-- one access more
pub one_more_made : (h : History) (t : ℕ) (e : Entry) (made : ℕ → ℕ) → ((u : ℕ) → made u ≡ length (h u)) → (u : ℕ) → put made t (suc (made t)) u ≡ length (with_entry h t e u)
one_more_made h t e made is = put_both (λ u n es. n ≡ length es) made h t (suc (made t)) (h t ++ e ∷ [])
    (let z = is t in omega (arith, length-append (h t) (e ∷ []))) (λ u n. is u)

-- what memory has stays the latest at another moment, in a history that may hold more
pub latest_to : {init : ℕ → ℕ} {h later : History} {n k l v : ℕ} {held : Event} (m : Latest init h n l v held) → (Wrote h l v m.event m.moment → Wrote later l v m.event m.moment) → m.moment < k →
    ((u j : ℕ) (d : Entry) → Holds later u j d → d.access.location ≡ l → IsSome d.access.written → d.moment < k → d.moment ≤ m.moment) → Latest init later k l v held
latest_to m kept before newest = record {
  event = m.event;
  held_is = m.held_is;
  moment = m.moment;
  before = before;
  origin = elim m.origin [ inl u ↦ inl u | inr w ↦ inr (kept w) ];
  newest = newest;
}

-- where the new entry does not come after it
pub latest_old : (init : ℕ → ℕ) (h : History) (t n : ℕ) (e : Entry) (l v : ℕ) (held : Event) (m : Latest init h n l v held) →
    (e.access.location ≡ l → IsSome e.access.written → e.moment < n → e.moment ≤ m.moment) → Latest init (with_entry h t e) n l v held
latest_old init h t n e l v held m new = latest_to m (wrote_old h t e l v m.event m.moment) m.before
    (each_held h t e (λ u j d. d.access.location ≡ l → IsSome d.access.written → d.moment < n → d.moment ≤ m.moment) m.newest new)

-- a write of this moment is the latest
pub latest_now : {init : ℕ → ℕ} {h : History} {t i n l v : ℕ} {w : Entry} {held : Event} → held ≡ At t i → slice_get (h t) i ≡ Some w → w.access.location ≡ l → w.access.written ≡ Some v → n ≡ w.moment →
    Latest init h (suc n) l v held
latest_now {t} {i} {n} is_event holds location written at = record {
  event = At t i;
  held_is = is_event;
  moment = n;
  before = omega arith;
  origin = inr (wrote_by refl holds location written at);
  newest = λ u j d a b c k. omega arith;
}

-- a store waits on where its entry, its moment and its event are those at another place
pub stored_as : {h later : History} {t q r : ℕ} {waits others : List (ℕ × Event)} {dues moments : List ℕ} {w : Pending} → (s : Stored h t waits dues q w) → Holds later t s.index s.entry →
    slice_get moments r ≡ Some s.entry.moment → slice_get others r ≡ Some (w.location, At t s.index) → Stored later t others moments r w
stored_as s holds at tag = record {
  index = s.index;
  entry = s.entry;
  holds = holds;
  location = s.location;
  written = s.written;
  at = at;
  tag = tag;
}

pub stored_old : (h : History) (t : ℕ) (e : Entry) (u : ℕ) (waits : List (ℕ × Event)) (dues : List ℕ) (q : ℕ) (w : Pending) → Stored h u waits dues q w → Stored (with_entry h t e) u waits dues q w
stored_old h t e u waits dues q w s = stored_as s (held_old h t e u s.index s.entry s.holds) s.at s.tag

module _ (init : ℕ → ℕ) (h : History) (buffers : ℕ → List Pending) (memory : ℕ → ℕ) (o : Origins) (n : ℕ) (section : ℕ → ℕ) where
  -- the section of a thread may change while its buffer is empty
  pub inv_section : (ls : List Label) (t m : ℕ) → (section t ≡ m) ⊎ (buffers t ≡ []) →
      Inv init h buffers memory o n section ls → Inv init h buffers memory o n (put section t m) ls
  inv_section ls t m c inv = record {
    good = inv.good;
    positive = inv.positive;
    early = inv.early;
    latest = inv.latest;
    stored = inv.stored;
    made = inv.made;
    long = inv.long;
    waiting = put_each (λ u x. (i : ℕ) (e : Entry) → Holds h u i e → n ≤ e.moment → Waiting (buffers u) (due u n ls) x e) section t m
        (λ i e a b. let w = inv.waiting t i e a b in elim c [ inl s ↦ subst (λ x. Waiting (buffers t) (due t n ls) x e) s w | inr b ↦ absurd (none_waits w b) ])
        (λ u q. inv.waiting u);
  }

  -- at the execution of an instruction no entry has the moment
  pub free : (t : ℕ) (ls : List Label) → Inv init h buffers memory o n section (Exec t ∷ ls) →
      (u i : ℕ) (e : Entry) → Holds h u i e → (e.moment < n) ⊎ (suc n ≤ e.moment)
  free t ls inv u i e a = elim (cases_lt e.moment n) [
    | inl l ↦ inl l
    | inr g ↦ (let w = inv.waiting u i e a g in inr (due_late u (suc n) ls w.place e.moment w.at))
  ]

  -- time goes on
  pub tick : (t : ℕ) (ls : List Label) → Inv init h buffers memory o n section (Exec t ∷ ls) → Inv init h buffers memory o (suc n) section ls
  tick t ls inv = record {
    good = inv.good;
    positive = omega arith;
    early = λ u i e a. let z = inv.early u i e a in omega arith;
    latest = λ l. let m = inv.latest l in
        latest_to m (λ w. w) (let z = m.before in omega arith) (λ u j d a b c k. m.newest u j d a b c (elim (free t ls inv u j d a) [ inl x ↦ x | inr x ↦ absurd (omega arith) ]));
    stored = inv.stored;
    made = inv.made;
    long = inv.long;
    waiting = λ u i e a b. inv.waiting u i e a (omega arith);
  }
