-- What a sketch keeps holds at the start, and after each value that is given.
use Rattle.program_sketches.proofs.Vocabulary.{option_map, slice_get-map, unwrap_or, ◌≡◌, ◌≢◌, ◌⊎◌, ℕ, zero, suc, ◌<◌, List, [], ◌∷◌, ◌++◌, Some, None, IsSome, Contains, slice_get, set, map, length, refl, sym, ap, ◌∙◌, subst, inl, inr, arith, length-set, cases_eq}
use Rattle.program_sketches.proofs.Vocabulary.{length-map, slice_get_within, same_Some, Thread, Listing, IsWithinLimits, action, code_of, start_of, Access, Event, Initial, At, IsValueOf, trace, fenced_gaps, get_cases, get_set_same, get_set_other, Mode, ThreadTrace}
use Rattle.program_sketches.proofs.Vocabulary.{machine_of_mode, advance, ProgramSketch, trace_in, access_in, nothing_chosen, with_chosen, given_lists, given_in, view_of, KeepsTraces, IsLawful, HasValuesFirst, mode_in, some_value}
use Rattle.candidate_executions.proofs.Sketches.Choices.{a_value_keeps_a_sketch}
use Rattle.candidate_executions.specs.Sketches as sketches
use Rattle.thread_traces.specs.ThreadTraces.{IsThreadTraceOf}
use Rattle.program_sketches.proofs.GivenUsed.{Good, good_begin, good_more}

-- reads with their values, told by threads and by events
pub values_from : (s : ProgramSketch) → ((t : ℕ) → Good (IsValueOf s.program) (trace_in s t)) →
    (e : Event) (x : Access) (v : ℕ) → access_in s e ≡ Some x → x.read ≡ Some v → IsValueOf s.program x.location v
values_from s good (Initial l) x v a q = absurd (let h = sym (ap (λ (z : Access). z.read) (same_Some _ x a)) ∙ refl in let k = sym h ∙ q in cc)
values_from s good (At t i) x v a q = (good t).reads i x v a q

pub good_of : (s : ProgramSketch) → IsLawful s → (t : ℕ) → Good (IsValueOf s.program) (trace_in s t)
good_of s lawful t = record { used = lawful.is_sketch.used t; reads = λ i x v a q. lawful.values (At t i) x v a q }

-- nothing is contained in the empty list
pub none_in : {A : Type 0} (x : A) → Contains [] x → ⊥
none_in x h = let n = h.1 in omega arith

module _ (p : Listing) (mode : Mode) (thread_traces : List ThreadTrace) (within : IsWithinLimits p.threads p.memory) (many : length thread_traces ≡ length p.threads)
    (made : (k : ℕ) (c : ThreadTrace) → slice_get thread_traces k ≡ Some c → IsThreadTraceOf p (machine_of_mode p mode) k [] c) where
  given_none : (t : ℕ) → given_in thread_traces t ≡ []
  given_none t = go thread_traces t (λ c e. (made t c e).given_is)
    where
      go : (cs : List ThreadTrace) (t : ℕ) → ((c : ThreadTrace) → slice_get cs t ≡ Some c → c.given ≡ []) → given_in cs t ≡ []
      go [] t f = refl
      go (c ∷ cs) zero f = f c refl
      go (c ∷ cs) (suc t) f = go cs t f

  good : (t : ℕ) → Good (IsValueOf p) (trace_in (view_of p mode thread_traces [] []) t)
  good t = subst (λ given. Good (IsValueOf p) (trace (action p.threads t) (fenced_gaps (machine_of_mode p mode) t) (length (code_of p.threads t)) 0 (start_of p.threads t) given)) (sym (given_none t))
      (good_begin (IsValueOf p) (action p.threads t) (fenced_gaps (machine_of_mode p mode) t) (length (code_of p.threads t)) (advance p within.shared.forward_jumps t) (length (code_of p.threads t)) 0 (start_of p.threads t))

  -- a new sketch
  pub new_kept : KeepsTraces p mode thread_traces [] []
  new_kept = record {
    lawful = record {
      within = within;
      is_sketch = record {
        each_thread = length-map thread_traces (λ (c : ThreadTrace). c.given) ∙ many;
        used = λ t. (good t).used;
        sources = λ e s h. absurd (none_in _ h);
        pairs = λ d e h. absurd (none_in _ h);
      };
      values = values_from (view_of p mode thread_traces [] []) good;
      one_source = λ i j d h l. absurd (omega arith);
      one_order = λ i j d h l. absurd (omega arith);
    };
    one_each = many;
    traces_are = λ t c e. subst (λ given. IsThreadTraceOf p (machine_of_mode p mode) t given c) (sym (made t c e).given_is) (made t c e);
  }

all_none : (cs : List ThreadTrace) (threads : List Thread) → length cs ≡ length threads → ((k : ℕ) (c : ThreadTrace) → slice_get cs k ≡ Some c → c.given ≡ []) →
    given_lists cs ≡ map (λ thread. []) threads
all_none [] [] e f = refl
all_none (c ∷ cs) (x ∷ xs) e f =
    let here : c.given ≡ [] = f 0 c refl in
    let rest = all_none cs xs (omega arith) (λ k d h. f (suc k) d h) in
    (λ i. here i ∷ rest i)
all_none cs threads e f = absurd (omega arith)

-- is the sketch with nothing chosen
pub new_parts : (p : Listing) (mode : Mode) (thread_traces : List ThreadTrace) → length thread_traces ≡ length p.threads →
    ((k : ℕ) (c : ThreadTrace) → slice_get thread_traces k ≡ Some c → IsThreadTraceOf p (machine_of_mode p mode) k [] c) → view_of p mode thread_traces [] [] ≡ nothing_chosen p mode
new_parts p mode thread_traces many made = ap (λ given. record { program = p; mode = mode; chosen = record { given = given; sources = []; pairs = [] } })
    (all_none thread_traces p.threads many (λ k c e. (made k c e).given_is))

pub given_set : (cs : List ThreadTrace) (t : ℕ) (c : ThreadTrace) → given_lists (set cs t c) ≡ set (given_lists cs) t c.given
given_set (d ∷ cs) (suc t) c = ap (λ xs. d.given ∷ xs) (given_set cs t c)
given_set cs t c = refl

pub given_at : (cs : List ThreadTrace) (t : ℕ) (c : ThreadTrace) → slice_get cs t ≡ Some c → given_in cs t ≡ c.given
given_at cs t c e = ap (λ o. unwrap_or o []) (slice_get-map (λ (x : ThreadTrace). x.given) cs t ∙ ap (option_map (λ (x : ThreadTrace). x.given)) e)

module _ (p : Listing) (mode : Mode) (thread_traces : List ThreadTrace) (sources pairs : List (Event × Event)) (kept : KeepsTraces p mode thread_traces sources pairs)
    (t v : ℕ) (old new : ThreadTrace) (there : slice_get thread_traces t ≡ Some old) (is : IsThreadTraceOf p (machine_of_mode p mode) t (old.given ++ v ∷ []) new)
    (some : IsSome (sketches.next_read p (machine_of_mode p mode) (view_of p mode thread_traces sources pairs).chosen t))
    (fits : (l : ℕ) → sketches.next_read p (machine_of_mode p mode) (view_of p mode thread_traces sources pairs).chosen t ≡ Some l → IsValueOf p l v) where
  abbrev s : ProgramSketch
  s = view_of p mode thread_traces sources pairs

  abbrev s' : ProgramSketch
  s' = view_of p mode (set thread_traces t new) sources pairs

  within : t < length thread_traces
  within = slice_get_within thread_traces t old there

  given_same : given_in (set thread_traces t new) t ≡ given_in thread_traces t ++ v ∷ []
  given_same = given_at (set thread_traces t new) t new (get_set_same thread_traces t new within) ∙ is.given_is ∙ ap (λ xs. xs ++ v ∷ []) (sym (given_at thread_traces t old there))

  given_other : (u : ℕ) → u ≢ t → given_in (set thread_traces t new) u ≡ given_in thread_traces u
  given_other u ne = ap (λ (gs : List (List ℕ)). unwrap_or (slice_get gs u) []) (given_set thread_traces t new) ∙ ap (λ o. unwrap_or o []) (get_set_other (given_lists thread_traces) t new.given u ne)

  abbrev traced_with : ℕ → List ℕ → Type 0
  traced_with u given = Good (IsValueOf p) (trace (action p.threads u) (fenced_gaps (machine_of_mode p mode) u) (length (code_of p.threads u)) 0 (start_of p.threads u) given)

  good_by : (u : ℕ) → Good (IsValueOf p) (trace_in s' u)
  good_by u = elim (cases_eq u t) [
    | inl e ↦ (let here : traced_with t (given_in (set thread_traces t new) t) = subst (traced_with t) (sym given_same)
        (good_more (IsValueOf p) (action p.threads t) (fenced_gaps (machine_of_mode p mode) t) (length (code_of p.threads t)) (advance p kept.lawful.within.shared.forward_jumps t)
        (length (code_of p.threads t)) 0 (start_of p.threads t) (given_in thread_traces t) v (omega arith) (good_of s kept.lawful t) some fits) in
        subst (λ z. traced_with z (given_in (set thread_traces t new) z)) (sym e) here)
    | inr ne ↦ subst (traced_with u) (sym (given_other u ne)) (good_of s kept.lawful u)
  ]

  are : (u : ℕ) (c : ThreadTrace) → slice_get (set thread_traces t new) u ≡ Some c → IsThreadTraceOf p (machine_of_mode p mode) u c.given c
  are u c e = elim (cases_eq u t) [
    | inl q ↦ (let here : slice_get (set thread_traces t new) t ≡ Some c = subst (λ z. slice_get (set thread_traces t new) z ≡ Some c) q e in
        let same : new ≡ c = same_Some new c (sym (get_set_same thread_traces t new within) ∙ here) in
        let own : IsThreadTraceOf p (machine_of_mode p mode) t new.given new = subst (λ given. IsThreadTraceOf p (machine_of_mode p mode) t given new) (sym is.given_is) is in
        subst (λ z. IsThreadTraceOf p (machine_of_mode p mode) z c.given c) (sym q) (subst (λ (x : ThreadTrace). IsThreadTraceOf p (machine_of_mode p mode) t x.given x) same own))
    | inr ne ↦ kept.traces_are u c (sym (get_set_other thread_traces t new u ne) ∙ e)
  ]

  pub more_parts : s' ≡ with_chosen s (sketches.with_value s.chosen t v)
  more_parts = ap (λ given. record { program = p; mode = mode; chosen = record { given = given; sources = sources; pairs = pairs } })
      (given_set thread_traces t new ∙ ap (set (given_lists thread_traces) t) (is.given_is ∙ ap (λ xs. xs ++ v ∷ []) (sym (given_at thread_traces t old there))))

  -- what is chosen stays of the program
  is_sketch_by : sketches.IsSketch p (machine_of_mode p mode) s'.chosen
  is_sketch_by =
      let (l, next) = some_value (sketches.next_read p (machine_of_mode p mode) s.chosen t) some in
      subst (λ (k : ProgramSketch). sketches.IsSketch p (machine_of_mode p mode) k.chosen) (sym more_parts)
      (a_value_keeps_a_sketch p (machine_of_mode p mode) s.chosen t l v kept.lawful.within.shared.forward_jumps kept.lawful.is_sketch next)

  -- a sketch with one more value
  pub more_kept : KeepsTraces p mode (set thread_traces t new) sources pairs
  more_kept = record {
    lawful = record {
      within = kept.lawful.within;
      is_sketch = is_sketch_by;
      values = values_from s' good_by;
      one_source = kept.lawful.one_source;
      one_order = kept.lawful.one_order;
    };
    one_each = length-set thread_traces t new ∙ kept.one_each;
    traces_are = are;
  }

-- one thread more is made
pub made_more : (p : Listing) (mode : Mode) (cs : List ThreadTrace) (t : ℕ) (given : List ℕ) (new : ThreadTrace) → length cs ≡ t →
    ((k : ℕ) (c : ThreadTrace) → slice_get cs k ≡ Some c → IsThreadTraceOf p (machine_of_mode p mode) k [] c) → given ≡ [] → IsThreadTraceOf p (machine_of_mode p mode) t given new →
    (k : ℕ) (c : ThreadTrace) → slice_get (cs ++ new ∷ []) k ≡ Some c → IsThreadTraceOf p (machine_of_mode p mode) k [] c
made_more p mode cs t given new many made none is k c e = elim (get_cases cs new k c e) [
  | inl a ↦ made k c a
  | inr b ↦ (let here : IsThreadTraceOf p (machine_of_mode p mode) t [] new = subst (λ g. IsThreadTraceOf p (machine_of_mode p mode) t g new) none is in
      let at : IsThreadTraceOf p (machine_of_mode p mode) k [] new = subst (λ u. IsThreadTraceOf p (machine_of_mode p mode) u [] new) (sym many ∙ sym b.0) here in
      subst (λ (x : ThreadTrace). IsThreadTraceOf p (machine_of_mode p mode) k [] x) (sym b.1) at)
]

-- with a copy of the program, and no source and no pair
pub new_kept_by : (p q : Listing) (mode : Mode) (thread_traces : List ThreadTrace) (sources pairs : List (Event × Event)) → q ≡ p → sources ≡ [] → pairs ≡ [] →
    KeepsTraces p mode thread_traces [] [] → KeepsTraces q mode thread_traces sources pairs
new_kept_by p q mode thread_traces sources pairs e f g kept =
    subst (λ r. KeepsTraces r mode thread_traces sources pairs) (sym e) (subst (λ xs. KeepsTraces p mode thread_traces xs pairs) (sym f) (subst (λ xs. KeepsTraces p mode thread_traces [] xs) (sym g) kept))

-- where values come first, nothing else is chosen before each read has its value
pub unchosen : (s : ProgramSketch) → HasValuesFirst s → (t : ℕ) → IsSome (sketches.next_read s.program (mode_in s) s.chosen t) → (d e : Event) →
    Contains s.chosen.sources (d, e) ⊎ Contains s.chosen.pairs (d, e) → ⊥
unchosen s first t some d e h = let none = first.whole d e h t in let no : IsSome {T = ℕ} None = subst (λ o. IsSome o) none some in cc

-- nothing is chosen in empty lists
pub none_chosen : (sources pairs : List (Event × Event)) → sources ≡ [] → pairs ≡ [] → (d e : Event) → Contains sources (d, e) ⊎ Contains pairs (d, e) → ⊥
none_chosen sources pairs f g d e h = elim h [
  | inl a ↦ none_in (d, e) (subst (λ xs. Contains xs (d, e)) f a)
  | inr a ↦ none_in (d, e) (subst (λ xs. Contains xs (d, e)) g a)
]
