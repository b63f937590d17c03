-- A good history stays good with one more entry that fits.
use Rattle.candidate_executions.proofs.Vocabulary.{◌≡◌, ◌≢◌, ℕ, ◌<◌, ◌≤◌, [], ◌∷◌, ◌++◌, ◌⊎◌, Some, IsSome, slice_get, sym, ◌∙◌, subst, inl, inr, arith, length, slice_get_within, put, KeepsOrder, Event, refl}
use Rattle.candidate_executions.proofs.FromRuns.Histories.{Entry, History, Holds, Visible, Wrote, wrote_by, Source, First, Good}
use Rattle.candidate_executions.proofs.Orders.Lists.{put_same, get_end, get_front, get_cases, put_each}

abbrev pub with_entry : History → ℕ → Entry → History
with_entry h t e = put h t (h t ++ e ∷ [])

pub held_old : (h : History) (t : ℕ) (e : Entry) (u j : ℕ) (d : Entry) → Holds h u j d → Holds (with_entry h t e) u j d
held_old h t e = put_each (λ u es. (j : ℕ) (d : Entry) → Holds h u j d → slice_get es j ≡ Some d) h t (h t ++ e ∷ []) (λ j d a. get_front (h t) e j d a) (λ u q j d a. a)

abbrev pub wrote_old : (h : History) (t : ℕ) (e : Entry) (l v : ℕ) (event : Event) (m : ℕ) → Wrote h l v event m → Wrote (with_entry h t e) l v event m
wrote_old h t e l v event m w = wrote_by w.is_event (held_old h t e w.thread w.index w.write w.holds) w.location w.written w.at

pub held_new : (h : History) (t : ℕ) (e : Entry) → Holds (with_entry h t e) t (length (h t)) e
held_new h t e = rw (put_same h t (h t ++ e ∷ [])) (get_end (h t) e)

-- what the longer history holds, it held before, or it is the new entry
pub held_cases : (h : History) (t : ℕ) (e : Entry) (u j : ℕ) (d : Entry) → Holds (with_entry h t e) u j d →
    Holds h u j d ⊎ ((u ≡ t) × (j ≡ length (h t)) × (d ≡ e))
held_cases h t e = put_each (λ u es. (j : ℕ) (d : Entry) → slice_get es j ≡ Some d → Holds h u j d ⊎ ((u ≡ t) × (j ≡ length (h t)) × (d ≡ e))) h t (h t ++ e ∷ [])
    (λ j d a. elim (get_cases (h t) e j d a) [ inl o ↦ inl o | inr n ↦ inr (refl, n.0, n.1) ]) (λ u q j d a. inl a)

-- the new entry, executed last, fits the history
pub record Fits (init : ℕ → ℕ) (h : History) (t : ℕ) (e : Entry) : Type 0 where
  pub acts : IsSome e.access.read ⊎ IsSome e.access.written
  pub first : 0 < e.exec
  pub delay : e.exec ≤ e.moment
  pub prompt : IsSome e.access.read → e.moment ≡ e.exec
  pub source : (v : ℕ) → e.access.read ≡ Some v → First init e v ⊎ Source h t (length (h t)) e v
  pub later : (u j : ℕ) (d : Entry) → Holds h u j d → d.exec < e.exec
  pub kept : (j : ℕ) (d : Entry) → Holds h t j d → KeepsOrder d.access e.access → d.moment < e.moment
  pub latest : (u j : ℕ) (d : Entry) → Holds h u j d → IsSome e.access.read → IsSome d.access.written →
      d.access.location ≡ e.access.location → Visible u j d.moment t (length (h t)) e.exec → d.moment ≤ e.seen
  pub apart : (u j : ℕ) (d : Entry) → Holds h u j d → d.moment ≢ e.moment

-- what holds of the new entry and of each old one, holds of each
pub each_held : (h : History) (t : ℕ) (e : Entry) (P : ℕ → ℕ → Entry → Type 0) → ((u j : ℕ) (d : Entry) → Holds h u j d → P u j d) → P t (length (h t)) e →
    (u j : ℕ) (d : Entry) → Holds (with_entry h t e) u j d → P u j d
each_held h t e P old new u j d a = elim (held_cases h t e u j d a) [
  | inl o ↦ old u j d o
  | inr n ↦ subst (λ z. P z j d) (sym n.0) (subst (λ z. P t z d) (sym n.1) (subst (λ z. P t (length (h t)) z) (sym n.2) new))
]

module _ (init : ℕ → ℕ) (h : History) (t : ℕ) (e : Entry) (good : Good init h) (fits : Fits init h t e) where
  within : (u j : ℕ) (d : Entry) → Holds h u j d → u ≡ t → j < length (h t)
  within u j d a q = slice_get_within (h t) j d (subst (λ z. Holds h z j d) q a)

  -- of two entries of one thread the earlier is old
  earlier_old : (u j i : ℕ) (d f : Entry) → Holds (with_entry h t e) u j d → Holds (with_entry h t e) u i f → j < i → Holds h u j d
  earlier_old u j i d f a b n = elim (held_cases h t e u j d a) [
    | inl x ↦ x
    | inr x ↦ absurd (elim (held_cases h t e u i f b) [ inl y ↦ (let z = within u i f y x.0 in let z1 = x.1 in omega arith) | inr y ↦ (let z1 = x.1 in let z2 = y.1 in omega arith) ])
  ]

  moved : (u j : ℕ) (d : Entry) (v : ℕ) → First init d v ⊎ Source h u j d v → First init d v ⊎ Source (with_entry h t e) u j d v
  moved u j d v (inl f) = inl f
  moved u j d v (inr s) = inr (wrote_old h t e d.access.location v d.source d.seen s.0, s.1)

  Latest : ℕ → ℕ → Entry → ℕ → ℕ → Entry → Type 0
  Latest u j d v i f = IsSome f.access.read → IsSome d.access.written → d.access.location ≡ f.access.location →
      Visible u j d.moment v i f.exec → d.moment ≤ f.seen

  pub good_more : Good init (with_entry h t e)
  unfolding Latest
  good_more = record {
    acts = each_held h t e (λ u j d. IsSome d.access.read ⊎ IsSome d.access.written) good.acts fits.acts;
    first = each_held h t e (λ u j d. 0 < d.exec) good.first fits.first;
    delay = each_held h t e (λ u j d. d.exec ≤ d.moment) good.delay fits.delay;
    prompt = each_held h t e (λ u j d. IsSome d.access.read → d.moment ≡ d.exec) good.prompt fits.prompt;
    source = λ u j d v a r. moved u j d v (each_held h t e (λ u j d. d.access.read ≡ Some v → First init d v ⊎ Source h u j d v)
        (λ u j d b. good.source u j d v b) (fits.source v) u j d a r);
    order = λ u j i d f a b n. let x = earlier_old u j i d f a b n in
        elim (held_cases h t e u i f b) [ inl y ↦ good.order u j i d f x y n | inr y ↦ rw y.2 (fits.later u j d x) ];
    kept = λ u j i d f a b n k. let x = earlier_old u j i d f a b n in elim (held_cases h t e u i f b) [
      | inl y ↦ good.kept u j i d f x y n k
      | inr y ↦ rw y.2 (fits.kept j d (subst (λ z. Holds h z j d) y.0 x) (rw y.2 at k))
    ];
    latest = λ u j v i d f a b. each_held h t e (λ v i f. Latest u j d v i f)
        (λ v i f y. each_held h t e (λ u j d. Latest u j d v i f) (λ u j d x. good.latest u j v i d f x y)
        (λ r w l z. absurd (let g = fits.later v i f y in let k = fits.delay in
        elim z [ inl q ↦ omega arith | inr q ↦ (let o = within v i f y (sym q.0) in let q1 = q.1 in omega arith) ])) u j d a)
        (each_held h t e (λ u j d. Latest u j d t (length (h t)) e) (λ u j d x. fits.latest u j d x)
        (λ r w l z. absurd (let k = fits.delay in elim z [ inl q ↦ omega arith | inr q ↦ omega arith ])) u j d a) v i f b;
    apart = λ u j v i d f a b q. elim (held_cases h t e u j d a) [
      | inl x ↦ elim (held_cases h t e v i f b) [ inl y ↦ good.apart u j v i d f x y q | inr y ↦ absurd (fits.apart u j d x (rw y.2 at q)) ]
      | inr x ↦ elim (held_cases h t e v i f b) [ inl y ↦ absurd (fits.apart v i f y (sym (rw x.2 at q))) | inr y ↦ (x.0 ∙ sym y.0, x.1 ∙ sym y.1) ]
    ];
  }
