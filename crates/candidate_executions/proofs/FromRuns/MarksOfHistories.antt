-- What a run shows of the history that it leaves.
use Rattle.candidate_executions.proofs.Vocabulary.{◌≡◌, ◌↔◌, ℕ, suc, zero, ◌+◌, ◌<◌, ◌≤◌, List, [], ◌∷◌, ◌++◌, ◌⊎◌, Some, None, IsSome, Contains, slice_get, refl, sym, ap, ◌∙◌, subst, inl, inr, arith, length, length-append, append_assoc, fun_ext, cases_eq}
use Rattle.candidate_executions.proofs.Vocabulary.{same_Some, Contains-append_left, Contains-append_right, Contains-append_cases, put, Event, At, Mark, Takes, Arrives}
use Rattle.candidate_executions.proofs.Orders.Lists.{put_same, put_other, get_end, get_front, get_cases, put_each, put_both, get_front_of, get_next_of}
use Rattle.candidate_executions.proofs.{FromRuns.Histories.Entry, FromRuns.Histories.History, FromRuns.Histories.Holds, FromRuns.HistoriesGrow.with_entry}
use Rattle.candidate_executions.proofs.FromRuns.CandidateOfHistory.{moment_of_entry, moment_of}
use Rattle.candidate_executions.proofs.FromRuns.PairsOfMarks.{PairsOf, none_in, first_in, later_in, pairs_append}

abbrev pub joined : History → History → History
joined past future = λ t. past t ++ future t

-- the entry that the future holds for an event
abbrev pub IsNew : History → History → Event → Entry → Type 0
IsNew past future x f = (u : ℕ) × (i : ℕ) × (x ≡ At u (length (past u) + i)) × Holds future u i f

abbrev pub NewRead : History → History → Event → ℕ → Event → Type 0
NewRead past future x v d = (f : Entry) × IsNew past future x f × (f.access.read ≡ Some v) × (f.source ≡ d)

abbrev pub NewWrite : History → History → Event → Type 0
NewWrite past future x = (f : Entry) × IsNew past future x f × IsSome f.access.written

-- a store that waits
abbrev pub Waits : (ℕ → List (ℕ × Event)) → Event → Type 0
Waits waiting x = (t : ℕ) × (q : ℕ) × (l : ℕ) × (slice_get (waiting t) q ≡ Some (l, x))

-- writes arrive as their moments come
abbrev pub Sooner : (Event → ℕ) → Mark → Mark → Type 0
Sooner moment (Arrives d) (Arrives e) = moment d < moment e
Sooner moment h g = Unit {0}

-- what is shown from moment n on
pub record Tells (past future : History) (waiting : ℕ → List (ℕ × Event)) (n : ℕ) (ms : List Mark) : Type 0 where
  pub takes : (x d : Event) (v : ℕ) → Contains ms (Takes x v d) ↔ NewRead past future x v d
  pub arrives : (x : Event) → Contains ms (Arrives x) ↔ (Waits waiting x ⊎ NewWrite past future x)
  pub late : (x : Event) → Contains ms (Arrives x) → n ≤ moment_of (joined past future) x
  pub sorted : PairsOf (Sooner (moment_of (joined past future))) ms

-- the moment of an entry of the past
pub moment_old : (past future : History) (t i : ℕ) (f : Entry) → Holds past t i f → moment_of (joined past future) (At t i) ≡ f.moment
moment_old past future t i f h = ap moment_of_entry (get_front_of (past t) (future t) i f h)

-- nothing is left to show
pub tells_end : (past : History) (waiting : ℕ → List (ℕ × Event)) (n : ℕ) → ((x : Event) → Waits waiting x → ⊥) → Tells past (λ t. []) waiting n []
tells_end past waiting n none = record {
  takes = λ x d v. ((λ h. absurd (none_in (Takes x v d) h)), λ (f, (u, i, q, h), r, k). absurd cc);
  arrives = λ x. ((λ h. absurd (none_in (Arrives x) h)), λ h. elim h [ inl w ↦ absurd (none x w) | inr (f, (u, i, q, a), r) ↦ absurd cc ]);
  late = λ x h. absurd (none_in (Arrives x) h);
  sorted = tt;
}

-- a step that shows nothing
pub tells_quiet : (past future : History) (waiting : ℕ → List (ℕ × Event)) (n : ℕ) (ms : List Mark) → Tells past future waiting (suc n) ms → Tells past future waiting n ms
tells_quiet past future waiting n ms s = record {
  takes = s.takes;
  arrives = s.arrives;
  late = λ x h. let z = s.late x h in omega arith;
  sorted = s.sorted;
}

-- a store that has waited arrives
pub tells_flush : (past future : History) (waiting others : ℕ → List (ℕ × Event)) (n : ℕ) (x : Event) (ms : List Mark) → ((y : Event) → Waits waiting y ↔ ((y ≡ x) ⊎ Waits others y)) →
    moment_of (joined past future) x ≡ n → Tells past future others (suc n) ms → Tells past future waiting n (Arrives x ∷ ms)
tells_flush past future waiting others n x ms waits now s = record {
  takes = λ y d v. (
    λ h. (s.takes y d v).0 (later (Takes y v d) h (λ q. cc)),
    λ h. later_in (Arrives x) ms (Takes y v d) ((s.takes y d v).1 h),
  );
  arrives = λ y. (
    λ h. arrived y h,
    λ h. elim h [
      | inl w ↦ elim ((waits y).0 w) [ inl q ↦ here y q | inr o ↦ later_in (Arrives x) ms (Arrives y) ((s.arrives y).1 (inl o)) ]
      | inr w ↦ later_in (Arrives x) ms (Arrives y) ((s.arrives y).1 (inr w))
    ],
  );
  late = λ y h. in_time y h;
  sorted = ((λ m h. sooner m h), s.sorted);
}
  where
    later : (m : Mark) → Contains (Arrives x ∷ ms) m → (Arrives x ≡ m → ⊥) → Contains ms m
    later m (zero, n, q) f = absurd (f q)
    later m (suc k, n, q) f = (k, omega arith, q)

    arrived : (y : Event) → Contains (Arrives x ∷ ms) (Arrives y) → Waits waiting y ⊎ NewWrite past future y
    arrived y (zero, n, q) = inl ((waits y).1 (inl (let z : y ≡ x = cc in z)))
    arrived y (suc k, n, q) = elim ((s.arrives y).0 (k, omega arith, q)) [ inl o ↦ inl ((waits y).1 (inr o)) | inr w ↦ inr w ]

    here : (y : Event) → y ≡ x → Contains (Arrives x ∷ ms) (Arrives y)
    here y q = subst (λ z. Contains (Arrives x ∷ ms) (Arrives z)) (sym q) (first_in (Arrives x) ms)

    in_time : (y : Event) → Contains (Arrives x ∷ ms) (Arrives y) → n ≤ moment_of (joined past future) y
    in_time y (zero, l, q) = let z : x ≡ y = cc in let w : moment_of (joined past future) y ≡ n = ap (moment_of (joined past future)) (sym z) ∙ now in omega arith
    in_time y (suc k, l, q) = let z = s.late y (k, omega arith, q) in omega arith

    sooner : (m : Mark) → Contains ms m → Sooner (moment_of (joined past future)) (Arrives x) m
    sooner (Takes y v d) h = tt
    sooner (Arrives y) h = let z = s.late y h in omega (arith, now)

-- the next access of thread t, which leaves the entry
module _ (past : History) (t : ℕ) (e : Entry) where
  abbrev pub next : Event
  next = At t (length (past t))

  -- an access shows these marks, and the stores that wait may be others after it
  pub record IsShownAs (waiting others : ℕ → List (ℕ × Event)) (n : ℕ) (ms : List Mark) : Type 0 where
    pub takes : (x d : Event) (v : ℕ) → Contains ms (Takes x v d) ↔ ((x ≡ next) × (e.access.read ≡ Some v) × (e.source ≡ d))
    pub arrives : (x : Event) → (Contains ms (Arrives x) ⊎ Waits others x) → Waits waiting x ⊎ ((x ≡ next) × IsSome e.access.written)
    pub arrives_all : (x : Event) → (Waits waiting x ⊎ ((x ≡ next) × IsSome e.access.written)) → Contains ms (Arrives x) ⊎ Waits others x
    pub now : (x : Event) → Contains ms (Arrives x) → (x ≡ next) × (e.moment ≡ n)
    pub alone : (moment : Event → ℕ) → PairsOf (Sooner moment) ms

  -- a load
  pub shown_load : (waiting : ℕ → List (ℕ × Event)) (n v : ℕ) → e.access.read ≡ Some v → e.access.written ≡ None → IsShownAs waiting waiting n (Takes next v e.source ∷ [])
  shown_load waiting n v r w = record {
    takes = λ x d u. ((λ h. took x d u h), λ (q, a, f). ((0, omega arith, λ i. Takes (sym q i) (same_Some v u (sym r ∙ a) i) (f i))));
    arrives = λ x h. elim h [ inl i ↦ absurd (none x i) | inr i ↦ inl i ];
    arrives_all = λ x h. elim h [ inl i ↦ inr i | inr i ↦ absurd (let z : IsSome {T = ℕ} None = subst IsSome w i.1 in cc) ];
    now = λ x h. absurd (none x h);
    alone = λ moment. ((λ y h. absurd (none_in y h)), tt);
  }
    where
      took : (x d : Event) (u : ℕ) → Contains (Takes next v e.source ∷ []) (Takes x u d) → (x ≡ next) × (e.access.read ≡ Some u) × (e.source ≡ d)
      took x d u (zero, n, q) = ((let z : x ≡ next = cc in z), r ∙ ap Some (let z : v ≡ u = cc in z), (let z : e.source ≡ d = cc in z))
      took x d u (suc k, n, q) = absurd (omega arith)

      none : (x : Event) → Contains (Takes next v e.source ∷ []) (Arrives x) → ⊥
      none x (zero, n, q) = cc
      none x (suc k, n, q) = omega arith

  -- an exchange
  pub shown_exchange : (waiting : ℕ → List (ℕ × Event)) (n v : ℕ) → e.access.read ≡ Some v → IsSome e.access.written → e.moment ≡ n → IsShownAs waiting waiting n (Takes next v e.source ∷ Arrives next ∷ [])
  shown_exchange waiting n v r w m = record {
    takes = λ x d u. ((λ h. took x d u h), λ (q, a, f). (0, omega arith, λ i. Takes (sym q i) (same_Some v u (sym r ∙ a) i) (f i)));
    arrives = λ x h. elim h [ inl i ↦ inr (arrived x i, w) | inr i ↦ inl i ];
    arrives_all = λ x h. elim h [ inl i ↦ inr i | inr i ↦ inl (1, omega arith, ap Arrives (sym i.0)) ];
    now = λ x h. (arrived x h, m);
    alone = λ moment. ((λ y h. tt), ((λ y h. absurd (none_in y h)), tt));
  }
    where
      took : (x d : Event) (u : ℕ) → Contains (Takes next v e.source ∷ Arrives next ∷ []) (Takes x u d) → (x ≡ next) × (e.access.read ≡ Some u) × (e.source ≡ d)
      took x d u (zero, n, q) = ((let z : x ≡ next = cc in z), r ∙ ap Some (let z : v ≡ u = cc in z), (let z : e.source ≡ d = cc in z))
      took x d u (suc zero, n, q) = absurd cc
      took x d u (suc (suc k), n, q) = absurd (omega arith)

      arrived : (x : Event) → Contains (Takes next v e.source ∷ Arrives next ∷ []) (Arrives x) → x ≡ next
      arrived x (zero, n, q) = absurd cc
      arrived x (suc zero, n, q) = cc
      arrived x (suc (suc k), n, q) = absurd (omega arith)

  -- a store
  pub shown_store : (waiting : ℕ → List (ℕ × Event)) (n l : ℕ) → e.access.read ≡ None → IsSome e.access.written → IsShownAs waiting (put waiting t (waiting t ++ (l, next) ∷ [])) n []
  shown_store waiting n l r w = record {
    takes = λ x d u. ((λ h. absurd (none_in (Takes x u d) h)), λ (q, a, f). absurd (let z : None ≡ Some u = sym r ∙ a in cc));
    arrives = λ x h. elim h [ inl i ↦ absurd (none_in (Arrives x) i) | inr i ↦ before x i ];
    arrives_all = λ x h. inr (elim h [ inl i ↦ still x i | inr i ↦ ((t, length (waiting t), l, rw (put_same waiting t (waiting t ++ (l, next) ∷ [])) (get_end (waiting t) (l, next) ∙ ap (λ z. Some (l, z)) (sym i.0)))) ]);
    now = λ x h. absurd (none_in (Arrives x) h);
    alone = λ moment. tt;
  }
    where
      waits : List (ℕ × Event)
      waits = waiting t ++ (l, next) ∷ []

      before : (x : Event) → Waits (put waiting t (waiting t ++ (l, next) ∷ [])) x → Waits waiting x ⊎ ((x ≡ next) × IsSome e.access.written)
      before x (u, q, m, a) = put_each (λ u tags. slice_get tags q ≡ Some (m, x) → Waits waiting x ⊎ ((x ≡ next) × IsSome e.access.written)) waiting t waits
          (λ b. elim (get_cases (waiting t) (l, next) q (m, x) b) [ inl k ↦ inl (t, q, m, k) | inr k ↦ inr (ap (λ (z : ℕ × Event). z.1) k.1, w) ]) (λ u d b. inl (u, q, m, b)) u a

      still : (x : Event) → Waits waiting x → Waits (put waiting t (waiting t ++ (l, next) ∷ [])) x
      still x (u, q, m, a) = (u, q, m, put_each (λ u tags. slice_get (waiting u) q ≡ Some (m, x) → slice_get tags q ≡ Some (m, x)) waiting t waits (get_front (waiting t) (l, next) q (m, x)) (λ u d b. b) u a)

-- the oldest store of a thread waits no more
pub waits_flush : (waiting : ℕ → List (ℕ × Event)) (t l : ℕ) (x : Event) (xs : List (ℕ × Event)) → waiting t ≡ (l, x) ∷ xs → (y : Event) → Waits waiting y ↔ ((y ≡ x) ⊎ Waits (put waiting t xs) y)
waits_flush waiting t l x xs full y = ((λ h. out h), λ h. elim h [ inl q ↦ (t, 0, l, ap (λ es. slice_get es 0) full ∙ ap (λ z. Some (l, z)) (sym q)) | inr o ↦ back o ])
  where
    out : Waits waiting y → (y ≡ x) ⊎ Waits (put waiting t xs) y
    out (u, q, m, a) = elim (cases_eq u t) [
      | inl s ↦ at_t q (ap (λ es. slice_get es q) (sym full) ∙ subst (λ z. slice_get (waiting z) q ≡ Some (m, y)) s a)
      | inr d ↦ inr (u, q, m, rw (put_other waiting t xs u d) a)
    ]
      where
        at_t : (q : ℕ) → slice_get ((l, x) ∷ xs) q ≡ Some (m, y) → (y ≡ x) ⊎ Waits (put waiting t xs) y
        at_t zero a = inl (sym (ap (λ (z : ℕ × Event). z.1) (same_Some (l, x) (m, y) a)))
        at_t (suc q) a = inr (t, q, m, rw (put_same waiting t xs) a)

    back : Waits (put waiting t xs) y → Waits waiting y
    back (u, q, m, a) = put_each (λ u tags. slice_get tags q ≡ Some (m, y) → Waits waiting y) waiting t xs (λ b. (t, suc q, m, ap (λ es. slice_get es (suc q)) full ∙ b)) (λ u d b. (u, q, m, b)) u a

module _ (past future : History) (t : ℕ) (e : Entry) where
  abbrev here : Event
  here = next past t e

  abbrev pub longer : History
  longer = put future t (e ∷ future t)

  pub same_joined : joined (with_entry past t e) future ≡ joined past longer
  same_joined = fun_ext (put_both (λ u old new. old ++ future u ≡ past u ++ new) past future t (past t ++ e ∷ []) (e ∷ future t) (append_assoc (past t) (e ∷ []) (future t)) (λ u q. refl))

  -- the entry is new, or it is held later
  new_cases : (x : Event) (f : Entry) → IsNew past longer x f → ((x ≡ here) × (f ≡ e)) ⊎ IsNew (with_entry past t e) future x f
  new_cases x f (u, i, q, h) = put_each (λ u es. x ≡ At u (length (past u) + i) → slice_get es i ≡ Some f → ((x ≡ here) × (f ≡ e)) ⊎ IsNew (with_entry past t e) future x f) future t (e ∷ future t)
      (at_t i) (λ u n q a. inr (u, i, q ∙ ap (λ es. At u (length es + i)) (sym (put_other past t (past t ++ e ∷ []) u n)), a)) u q h
    where
      at_t : (i : ℕ) → x ≡ At t (length (past t) + i) → slice_get (e ∷ future t) i ≡ Some f → ((x ≡ here) × (f ≡ e)) ⊎ IsNew (with_entry past t e) future x f
      at_t zero q a = inl (q ∙ ap (At t) (omega arith), sym (same_Some e f a))
      at_t (suc i) q a = inr (
        t,
        i,
        q ∙ ap (At t) (let long = ap length (put_same past t (past t ++ e ∷ [])) in omega (arith, length-append (past t) (e ∷ []))),
        a,
      )

  new_now : IsNew past longer here e
  new_now = (t, 0, ap (At t) (omega arith), rw (put_same future t (e ∷ future t)) refl)

  new_later : (x : Event) (f : Entry) → IsNew (with_entry past t e) future x f → IsNew past longer x f
  new_later x f (u, i, q, h) = put_each (λ u es. x ≡ At u (length es + i) → Holds future u i f → IsNew past longer x f) past t (past t ++ e ∷ [])
      (λ q a. (t, suc i, q ∙ ap (At t) (omega (arith, length-append (past t) (e ∷ []))), rw (put_same future t (e ∷ future t)) a))
      (λ u n q a. (u, i, q, rw (put_other future t (e ∷ future t) u n) a)) u q h

  pub tells_entry : (waiting others : ℕ → List (ℕ × Event)) (n : ℕ) (first ms : List Mark) → IsShownAs past t e waiting others n first → Tells (with_entry past t e) future others (suc n) ms →
      Tells past longer waiting n (first ++ ms)
  tells_entry waiting others n first ms a s = record {
    takes = λ x d v. (
      λ h. elim (Contains-append_cases first ms (Takes x v d) h) [
        | inl i ↦ (let (q, r, u) = (a.takes x d v).0 i in (e, subst (λ z. IsNew past longer z e) (sym q) new_now, r, u))
        | inr i ↦ (let (f, new, r, u) = (s.takes x d v).0 i in (f, new_later x f new, r, u))
      ],
      λ (f, new, r, u). elim (new_cases x f new) [
        | inl k ↦ Contains-append_left first ms (Takes x v d) ((a.takes x d v).1 (k.0, ap (λ (z : Entry). z.access.read) (sym k.1) ∙ r, ap (λ (z : Entry). z.source) (sym k.1) ∙ u))
        | inr k ↦ Contains-append_right first ms (Takes x v d) ((s.takes x d v).1 (f, k, r, u))
      ],
    );
    arrives = λ x. (
      λ h. elim (Contains-append_cases first ms (Arrives x) h) [
        | inl i ↦ of_here x (a.arrives x (inl i))
        | inr i ↦ elim ((s.arrives x).0 i) [ inl w ↦ of_here x (a.arrives x (inr w)) | inr k ↦ inr (k.0, new_later x k.0 k.1, k.2) ]
      ],
      λ h. elim h [
        | inl w ↦ of_now x (a.arrives_all x (inl w))
        | inr (f, new, w) ↦ elim (new_cases x f new) [
          | inl k ↦ of_now x (a.arrives_all x (inr (k.0, subst (λ (z : Entry). IsSome z.access.written) k.1 w)))
          | inr k ↦ Contains-append_right first ms (Arrives x) ((s.arrives x).1 (inr (f, k, w)))
        ]
      ],
    );
    late = λ x h. elim (Contains-append_cases first ms (Arrives x) h) [
      | inl i ↦ (let z : moment_of (joined past longer) x ≡ n = at_now x i in omega arith)
      | inr i ↦ (let z = late_after x i in omega arith)
    ];
    sorted = pairs_append (Sooner (moment_of (joined past longer))) first ms (a.alone (moment_of (joined past longer)))
        (subst (λ h. PairsOf (Sooner (moment_of h)) ms) same_joined s.sorted) (λ x y h i. sooner x y h i);
  }
    where
      of_here : (x : Event) → Waits waiting x ⊎ ((x ≡ here) × IsSome e.access.written) → Waits waiting x ⊎ NewWrite past longer x
      of_here x (inl w) = inl w
      of_here x (inr k) = inr (e, subst (λ z. IsNew past longer z e) (sym k.0) new_now, k.1)

      of_now : (x : Event) → Contains first (Arrives x) ⊎ Waits others x → Contains (first ++ ms) (Arrives x)
      of_now x (inl i) = Contains-append_left first ms (Arrives x) i
      of_now x (inr w) = Contains-append_right first ms (Arrives x) ((s.arrives x).1 (inl w))

      at_now : (x : Event) → Contains first (Arrives x) → moment_of (joined past longer) x ≡ n
      at_now x i = let (q, m) = a.now x i in ap (moment_of (joined past longer)) q ∙ ((ap moment_of_entry (ap (λ es. slice_get (past t ++ es) (length (past t))) (put_same future t (e ∷ future t)) ∙ get_next_of (past t) (future t) e)) ∙ m)

      late_after : (x : Event) → Contains ms (Arrives x) → suc n ≤ moment_of (joined past longer) x
      late_after x i = subst (λ h. suc n ≤ moment_of h x) same_joined (s.late x i)

      sooner : (x y : Mark) → Contains first x → Contains ms y → Sooner (moment_of (joined past longer)) x y
      sooner (Arrives x) (Arrives y) h i = let a = at_now x h in let b = late_after y i in omega arith
      sooner x y h i = tt
