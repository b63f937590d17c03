-- A sketch stays one by each choice, and each completion has made each choice in one of its ways.
use Rattle.candidate_executions.proofs.Vocabulary.{◌≡◌, ◌⊎◌, ℕ, ◌<◌, List, [], ◌∷◌, ◌++◌, Some, None, Contains, slice_get, length, refl, sym, ap, ◌∙◌, subst, inl, inr, arith, append_assoc, append-nil, length-set, length-map, fun_ext, cases_eq, cases_order}
use Rattle.candidate_executions.proofs.Vocabulary.{Contains-append_cases, Stop, Listing, action, start_of, code_of, JumpForward, Machine, Access, Event, Initial, At, IsValueOf, Trace, trace, trace_by, fenced_gaps, Candidate, access, access_by, Writes}
use Rattle.candidate_executions.proofs.Vocabulary.{IsCandidate, Sketch, given_to, IsPrefixOf, Completes, IsSketch, IsSourceOf, IsPair, with_value, with_source, with_pair, read_by, next_read, IsWhole, EmptyIsASketch, AValueKeepsASketch, ASourceKeepsASketch}
use Rattle.candidate_executions.proofs.Vocabulary.{APairKeepsASketch, EachCompletionHasAValue, EachCompletionHasTheValues, EachCompletionHasASource, EachCompletionHasAnOrder}
use Rattle.candidate_executions.proofs.Sketches.GivenValues.{none_given, given_same, given_other, longer, reads_there}
use Rattle.tso_machine.proofs.Advance.{advance}
use Rattle.candidate_executions.proofs.Sketches.MoreValues.{spare, Takes, trace_more, no_values, at_end, end_or_read, at_read}
use Rattle.candidate_executions.proofs.Orders.Lists.{first_or_later, none_here}

-- what holds of each pair of a list and of one more, holds of each with it
one_more : {A : Type 0} (P : A → Type 0) (xs : List A) (x : A) → ((y : A) → Contains xs y → P y) → P x → (y : A) → Contains (xs ++ x ∷ []) y → P y
one_more P xs x old new y h = elim (Contains-append_cases xs (x ∷ []) y h) [
  | inl i ↦ old y i
  | inr i ↦ elim (first_or_later x [] y i) [ inl q ↦ subst P q new | inr none ↦ absurd (none_here y none) ]
]

-- events keep what they read and write when values are added
pub keeps : (p : Listing) (mode : Machine) (given more : ℕ → List ℕ) → ((t : ℕ) → IsPrefixOf (given t) (more t)) → (e : Event) (x : Access) →
    access_by p mode given e ≡ Some x → access_by p mode more e ≡ Some x
keeps p mode given more h (Initial l) x a = a
keeps p mode given more h (At t i) x a = let (rest, q) = h t in
    subst (λ g. slice_get (trace (action p.threads t) (fenced_gaps mode t) (length (code_of p.threads t)) 0 (start_of p.threads t) g).accesses i ≡ Some x) q
    (trace_more (action p.threads t) (fenced_gaps mode t) (length (code_of p.threads t)) 0 (start_of p.threads t) (given t) rest i x a)

pub keeps_writes : (p : Listing) (mode : Machine) (given more : ℕ → List ℕ) → ((t : ℕ) → IsPrefixOf (given t) (more t)) → (e : Event) (l v : ℕ) →
    Writes (access_by p mode given) e l v → Writes (access_by p mode more) e l v
keeps_writes p mode given more h e l v w = (w.0, keeps p mode given more h e w.0 w.1, w.2, w.3)

pub empty_is_a_sketch : EmptyIsASketch
empty_is_a_sketch p mode = record {
  each_thread = length-map p.threads (λ thread. []);
  used = λ t. rw (none_given p t) (no_values (action p.threads t) (fenced_gaps mode t) (length (code_of p.threads t)) 0 (start_of p.threads t));
  sources = λ e s h. absurd (let z = h.1 in omega arith);
  pairs = λ d e h. absurd (let z = h.1 in omega arith);
}

-- a thread with a next read has its given values
there_by : (p : Listing) (mode : Machine) (k : Sketch) → IsSketch p mode k → (t l : ℕ) → next_read p mode k t ≡ Some l → t < length k.given
there_by p mode k fits t l next = let h = reads_there p mode k t l next in let many = fits.each_thread in omega arith

pub a_value_keeps_a_sketch : AValueKeepsASketch
a_value_keeps_a_sketch p mode k t l v forward fits next = let there = there_by p mode k fits t l next in record {
  each_thread = length-set k.given t (given_to k t ++ v ∷ []) ∙ fits.each_thread;
  used = λ u. elim (cases_eq u t) [
    | inl q ↦ subst (λ z. (trace_by p mode (given_to (with_value k t v)) z).unused ≡ []) (sym q) (rw (given_same k t v there)
        ((at_read (action p.threads t) (fenced_gaps mode t) (length (code_of p.threads t)) (λ s. advance p forward t s) (length (code_of p.threads t)) 0
        (start_of p.threads t) (given_to k t) [] v l (omega arith) next (fits.used t)).used refl))
    | inr q ↦ rw (given_other k t v u q) (fits.used u)
  ];
  sources = λ e s h. let (x, w, a, r, n, f) = fits.sources e s h in
      (x, w, keeps p mode (given_to k) (given_to (with_value k t v)) (longer k t v there) e x a, r, n, keeps_writes p mode (given_to k) (given_to (with_value k t v)) (longer k t v there) s x.location w f);
  pairs = λ d e h. let (n, (m, w, x, f, g, nd, ne)) = fits.pairs d e h in
      (n, (m, w, x, keeps_writes p mode (given_to k) (given_to (with_value k t v)) (longer k t v there) d m w f, keeps_writes p mode (given_to k) (given_to (with_value k t v)) (longer k t v there) e m x g, nd, ne));
}

pub a_source_keeps_a_sketch : ASourceKeepsASketch
a_source_keeps_a_sketch p mode k e s fits is = record {
  each_thread = fits.each_thread;
  used = fits.used;
  sources = λ f z h. one_more (λ (y : Event × Event). IsSourceOf p mode (with_source k e s) y.1 y.0) k.sources (e, s) (λ y. fits.sources y.0 y.1) is (f, z) h;
  pairs = fits.pairs;
}

pub a_pair_keeps_a_sketch : APairKeepsASketch
a_pair_keeps_a_sketch p mode k d e fits is = record {
  each_thread = fits.each_thread;
  used = fits.used;
  sources = fits.sources;
  pairs = λ f z h. one_more (λ (y : Event × Event). IsPair p mode (with_pair k d e) y.0 y.1) k.pairs (d, e) (λ y. fits.pairs y.0 y.1) is (f, z) h;
}

module _ (p : Listing) (mode : Machine) (k : Sketch) (c : Candidate) (fits : IsSketch p mode k) (is : IsCandidate p mode c) (completes : Completes k c) where
  -- one source more
  pub more_sources : (e s : Event) → c.source e ≡ s → Completes (with_source k e s) c
  more_sources e s q = record {
    given = completes.given;
    sources = λ f z h. one_more (λ (y : Event × Event). c.source y.0 ≡ y.1) k.sources (e, s) (λ y. completes.sources y.0 y.1) q (f, z) h;
    pairs = completes.pairs;
  }

  -- one pair more
  more_pairs : (d e : Event) → c.rank d < c.rank e → Completes (with_pair k d e) c
  more_pairs d e q = record {
    given = completes.given;
    sources = completes.sources;
    pairs = λ f z h. one_more (λ (y : Event × Event). c.rank y.0 < c.rank y.1) k.pairs (d, e) (λ y. completes.pairs y.0 y.1) q (f, z) h;
  }

  -- one value more
  more_values : (t v : ℕ) (rest : List ℕ) → t < length k.given → given_to k t ++ v ∷ rest ≡ c.given t → Completes (with_value k t v) c
  more_values t v rest there q = record {
    given = λ u. elim (cases_eq u t) [
      | inl e ↦ subst (λ z. IsPrefixOf (given_to (with_value k t v) z) (c.given z)) (sym e)
          (rest, rw (given_same k t v there) (append_assoc (given_to k t) (v ∷ []) rest ∙ q))
      | inr n ↦ rw (given_other k t v u n) (completes.given u)
    ];
    sources = completes.sources;
    pairs = completes.pairs;
  }

  order : (d e : Event) → IsPair p mode k d e → Completes (with_pair k d e) c ⊎ Completes (with_pair k e d) c
  order d e (n, (l, v, w, f, g, nd, ne)) = elim (cases_order (c.rank d) (c.rank e)) [
    | inl q ↦ absurd (n (is.ranks d e l v w (keeps_writes p mode (given_to k) c.given completes.given d l v f) (keeps_writes p mode (given_to k) c.given completes.given e l w g) q))
    | inr (inl q) ↦ inl (more_pairs d e q)
    | inr (inr q) ↦ inr (more_pairs e d q)
  ]

  module _ (forward : JumpForward p.threads) where
    abbrev plays : ℕ → List ℕ → Trace
    plays t given = trace (action p.threads t) (fenced_gaps mode t) (length (code_of p.threads t)) 0 (start_of p.threads t) given

    -- the next read's value, of which holds what does of each read's value
    pub value : (P : ℕ → ℕ → Type 0) → ((e : Event) (x : Access) (v : ℕ) → access p mode c e ≡ Some x → x.read ≡ Some v → P x.location v) →
        (t l : ℕ) → next_read p mode k t ≡ Some l → (v : ℕ) × P l v × Completes (with_value k t v) c
    value P of_reads t l next = let (rest, q) = completes.given t in go rest q
      where
        go : (rest : List ℕ) → given_to k t ++ rest ≡ c.given t → (v : ℕ) × P l v × Completes (with_value k t v) c
        go [] q = absurd (
            let same : given_to k t ≡ c.given t = sym (append-nil (given_to k t)) ∙ q in
            let reads : read_by (action p.threads t (plays t (c.given t)).last) ≡ Some l = subst (λ g. read_by (action p.threads t (plays t g).last) ≡ Some l) same next in
            let ends : read_by (action p.threads t (plays t (c.given t)).last) ≡ None = ap read_by (is.whole t).0 in
            let z : None ≡ Some l = sym ends ∙ reads in cc)
        go (v ∷ rest) q =
            let takes : Takes (plays t (given_to k t ++ v ∷ rest)) (length (plays t (given_to k t)).accesses) l v rest =
            at_read (action p.threads t) (fenced_gaps mode t) (length (code_of p.threads t)) (λ s. advance p forward t s) (length (code_of p.threads t)) 0
            (start_of p.threads t) (given_to k t) rest v l (omega arith) next (fits.used t) in
            let there : access p mode c (At t (length (plays t (given_to k t)).accesses)) ≡ Some takes.access =
            subst (λ g. slice_get (plays t g).accesses (length (plays t (given_to k t)).accesses) ≡ Some takes.access) q takes.there in (
              v,
              subst (λ z. P z v) takes.location (of_reads (At t (length (plays t (given_to k t)).accesses)) takes.access v there takes.value),
              more_values t v rest (there_by p mode k fits t l next) q,
            )

    -- the values of a thread each of whose reads has one
    pub given_whole : (t : ℕ) → next_read p mode k t ≡ None → c.given t ≡ given_to k t
    given_whole t whole =
        let (rest, q) = completes.given t in
        let ends : action p.threads t (plays t (given_to k t)).last ≡ Stop =
        end_or_read (action p.threads t) (fenced_gaps mode t) (length (code_of p.threads t)) (λ s. advance p forward t s) (length (code_of p.threads t)) 0
        (start_of p.threads t) (given_to k t) (omega arith) whole in
        let all : plays t (given_to k t ++ rest) ≡ spare (plays t (given_to k t)) rest =
        at_end (action p.threads t) (fenced_gaps mode t) (length (code_of p.threads t)) 0 (start_of p.threads t) (given_to k t) rest ends in
        let left : (plays t (c.given t)).unused ≡ (plays t (given_to k t)).unused ++ rest = subst (λ g. (plays t g).unused ≡ (plays t (given_to k t)).unused ++ rest) q (ap (λ (z : Trace). z.unused) all) in
        let none : rest ≡ [] = sym (ap (λ z. z ++ rest) (fits.used t)) ∙ (sym left ∙ (is.whole t).1) in
        sym q ∙ (ap (λ z. given_to k t ++ z) none ∙ append-nil (given_to k t))

    module _ (whole : IsWhole p mode k) where
      pub same_given : (t : ℕ) → c.given t ≡ given_to k t
      same_given t = given_whole t (whole t)

      pub all_given : c.given ≡ given_to k
      all_given = fun_ext same_given

      source : (e : Event) (x : Access) (v : ℕ) → access_by p mode (given_to k) e ≡ Some x → x.read ≡ Some v →
          IsSourceOf p mode k (c.source e) e × Completes (with_source k e (c.source e)) c
      source e x v a r =
          let b : access p mode c e ≡ Some x = subst (λ g. access_by p mode g e ≡ Some x) (sym all_given) a in
          let s = is.sources e x v b r in
          ((x, v, a, r, s.0, subst (λ g. Writes (access_by p mode g) (c.source e) x.location v) all_given s.1), more_sources e (c.source e) refl)

pub each_has_a_value : EachCompletionHasAValue
each_has_a_value p mode k c t l forward fits is completes next = value p mode k c fits is completes forward (IsValueOf p) is.values t l next

pub each_has_the_values : EachCompletionHasTheValues
each_has_the_values p mode k c forward fits is completes whole t = same_given p mode k c fits is completes forward whole t

pub each_has_a_source : EachCompletionHasASource
each_has_a_source p mode k c e x v forward fits is completes whole a r = source p mode k c fits is completes forward whole e x v a r

pub each_has_an_order : EachCompletionHasAnOrder
each_has_an_order p mode k c d e fits is completes pair = order p mode k c fits is completes d e pair
