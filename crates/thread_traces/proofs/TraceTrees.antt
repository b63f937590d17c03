-- Trees of traces, as their nodes and the places of threads change.
use Rattle.thread_traces.proofs.Vocabulary.{◌≡◌, ◌≢◌, ℕ, ◌+◌, ◌<◌, ◌≤◌, List, [], ◌∷◌, ◌++◌, Option, Some, None, slice_get, set, length, refl, sym, ap, ◌∙◌, subst, inl, inr, arith, append-nil, length-append, length-set, cases_eq, eq-eqb, ne_eqb}
use Rattle.thread_traces.proofs.Vocabulary.{slice_get_within, same_Some, get_cases, cond, eqb, Listing, machine_of_mode, ThreadTrace, IsThreadTraceOf, get_or, drop, get_set_same, get_set_other, get_some, append_assoc, IfNone, OnErr, Result, Ok, Err, TraceNode}
use Rattle.thread_traces.proofs.Vocabulary.{TracePlace, AreNodes, AreNodesOf, IsTracePlace, IsTraceTree, IsGivenMore, IsChildOf, IsNextPlace}
use Rattle.tso_machine.specs.declared.mode.Mode.{Mode}
use Rattle.thread_traces.specs.declared.trace_tree.TraceTree.{TraceTree}

-- ---- lists

none_some : {A : Type 0} (o : Option A) (x : A) → o ≡ None → o ≡ Some x → ⊥
none_some o x n s = let gone : None ≡ Some x = sym n ∙ s in cc

pub in_none : {A P : Type 0} (o : Option A) → P → IfNone o P
in_none None p = p
in_none (Some x) p = tt

pub in_err : {A E P : Type 0} (r : Result A E) → P → OnErr r P
in_err (Ok x) p = tt
in_err (Err e) p = p

no_more : (more : List ℕ) → length more ≡ 0 → more ≡ []
no_more [] e = refl
no_more (x ∷ xs) e = absurd (omega (arith, e))

-- values without the last one
without_last : (base more earlier : List ℕ) (v : ℕ) → base ++ more ≡ earlier ++ v ∷ [] → 0 < length more → (fewer : List ℕ) × (length fewer + 1 ≡ length more) × (earlier ≡ base ++ fewer)
without_last [] more earlier v e h = (earlier, (let same = ap length e in let long = length-append earlier (v ∷ []) in omega arith), refl)
without_last (b ∷ base) more [] v e h =
    let same : length (base ++ more) ≡ 0 = ap (λ (xs : List ℕ). length (drop 1 xs)) e in
    let long = length-append base more in
    absurd (omega arith)
without_last (b ∷ base) more (y ∷ earlier) v e h =
    let rest = ap (λ (xs : List ℕ). drop 1 xs) e in
    let first : b ≡ y = ap (λ (xs : List ℕ). get_or xs 0 0) e in
    let (fewer, long, is) = without_last base more earlier v rest h in
    (fewer, long, (λ i. (sym first) i ∷ is i))

-- ---- labels: the thread and the values of each node, by its number

-- a function changed at one number
abbrev with_one : {A : Type 0} → (ℕ → A) → ℕ → A → ℕ → A
with_one f n a i = cond (eqb i n) a (f i)

one_here : {A : Type 0} (f : ℕ → A) (n : ℕ) (a : A) → with_one f n a n ≡ a
one_here f n a = rw (eq-eqb n n refl) refl

one_other : {A : Type 0} (f : ℕ → A) (n : ℕ) (a : A) (i : ℕ) → i < n → with_one f n a i ≡ f i
one_other f n a i h = rw (ne_eqb i n (λ e. (let below : n < n = subst (λ (k : ℕ). k < n) e h in omega arith))) refl

-- ---- nodes

pub nodes_twice : (a b c : List TraceNode) → AreNodesOf a None b → AreNodesOf b None c → AreNodesOf a None c
nodes_twice a b c first second = record {
  many = second.many ∙ first.many;
  each = λ i x at. (let (y, there, (parent, value, trace)) = second.each i x at in
      let (z, here, (parents, values, traces)) = first.each i y there in
      (z, here, (parent ∙ parents, value ∙ values, λ t e. elim (trace t e) [ inl h ↦ traces t h | inr none ↦ absurd (none_some None (i, t) refl none) ])));
}

pub nodes_same : (old new : List TraceNode) → new ≡ old → AreNodesOf old None new
nodes_same old new same = record {
  many = ap length same;
  each = λ i x at. (x, ap (λ (xs : List TraceNode). slice_get xs i) (sym same) ∙ at, (refl, refl, λ c e. inl e));
}

module _ (p : Listing) (mode : Mode) (threads : ℕ → ℕ) (values : ℕ → List ℕ) (old : List TraceNode) (are : AreNodes p mode threads values old) where
  -- nodes that stand for them, with a trace that is put back
  pub nodes_kept : (back : Option (ℕ × ThreadTrace)) (new : List TraceNode) → AreNodesOf old back new →
      ((n : ℕ) (c : ThreadTrace) → back ≡ Some (n, c) → IsThreadTraceOf p (machine_of_mode p mode) (threads n) (values n) c) → AreNodes p mode threads values new
  nodes_kept back new same is = record {
    traces = λ i x c at e. (let (y, there, (parent, value, trace)) = same.each i x at in elim (trace c e) [ inl h ↦ are.traces i y c there h | inr b ↦ is i c b ]);
    parents = λ i q x at e. (let (y, there, (parent, value, trace)) = same.each i x at in
        let (before, thread, given) = are.parents i q y there (sym parent ∙ e) in
        (before, thread, given ∙ ap (λ v. values q ++ v ∷ []) (sym value)));
  }

  -- and with one more node
  module _ (node : TraceNode) (parent : ℕ) (none : node.trace ≡ None) (under : node.parent ≡ Some parent) (below : parent < length old) where
    abbrev pub new_threads : ℕ → ℕ
    new_threads = with_one threads (length old) (threads parent)

    abbrev pub new_values : ℕ → List ℕ
    new_values = with_one values (length old) (values parent ++ node.value ∷ [])

    pub threads_other : (i : ℕ) → i < length old → new_threads i ≡ threads i
    threads_other i h = one_other threads (length old) (threads parent) i h

    pub values_other : (i : ℕ) → i < length old → new_values i ≡ values i
    values_other i h = one_other values (length old) (values parent ++ node.value ∷ []) i h

    pub threads_new : new_threads (length old) ≡ threads parent
    threads_new = one_here threads (length old) (threads parent)

    pub values_new : new_values (length old) ≡ values parent ++ node.value ∷ []
    values_new = one_here values (length old) (values parent ++ node.value ∷ [])

    pub nodes_more : AreNodes p mode new_threads new_values (old ++ node ∷ [])
    nodes_more = record {
      traces = λ i x c at e. elim (get_cases old node i x at) [
        | inl h ↦ (let low = slice_get_within old i x h in
            subst (λ (u : ℕ). IsThreadTraceOf p (machine_of_mode p mode) u (new_values i) c) (sym (threads_other i low))
            (subst (λ (g : List ℕ). IsThreadTraceOf p (machine_of_mode p mode) (threads i) g c) (sym (values_other i low)) (are.traces i x c h e)))
        | inr (last, same) ↦ absurd (none_some node.trace c none (ap (λ (y : TraceNode). y.trace) (sym same) ∙ e))
      ];
      parents = λ i q x at e. elim (get_cases old node i x at) [
        | inl h ↦ (let low = slice_get_within old i x h in
            let (before, thread, given) = are.parents i q x h e in
            let lower : q < length old = omega arith in
            (before, threads_other i low ∙ thread ∙ sym (threads_other q lower), values_other i low ∙ given ∙ ap (λ (g : List ℕ). g ++ x.value ∷ []) (sym (values_other q lower))))
        | inr (last, same) ↦ (let one : parent ≡ q = same_Some parent q (sym under ∙ ap (λ (y : TraceNode). y.parent) (sym same) ∙ e) in
            let here : q < length old = subst (λ (k : ℕ). k < length old) one below in (
              subst (λ (k : ℕ). q < k) (sym last) here,
              ap new_threads last ∙ threads_new ∙ ap threads one ∙ sym (threads_other q here),
              ap new_values last ∙ values_new ∙ ap (λ (v : ℕ). values parent ++ v ∷ []) (ap (λ (y : TraceNode). y.value) (sym same)) ∙ ap (λ (g : List ℕ). g ++ x.value ∷ []) (ap values one ∙ sym (values_other q here)),
            ))
      ];
    }

-- ---- places

-- a thread stays at its place, while nodes are added
at_later : (threads later : ℕ → ℕ) (values latest : ℕ → List ℕ) (many most t : ℕ) (given same : List ℕ) (place : TracePlace) → IsTracePlace threads values many t given place → many ≤ most →
    ((i : ℕ) → i < many → later i ≡ threads i) → ((i : ℕ) → i < many → latest i ≡ values i) → same ≡ given → IsTracePlace later latest most t same place
at_later threads later values latest many most t given same place is h first second e n at =
    let (below, thread, more, long, given_is) = is n at in
    (omega arith, first n below ∙ thread, more, long, e ∙ given_is ∙ ap (λ (g : List ℕ). g ++ more) (sym (second n below)))

-- one thread is put at another place
put_at : (At : ℕ → TracePlace → Type 0) (places : List TracePlace) (t : ℕ) (to : TracePlace) → ((u : ℕ) (place : TracePlace) → slice_get places u ≡ Some place → u ≢ t → At u place) →
    (t < length places → At t to) → (u : ℕ) (place : TracePlace) → slice_get (set places t to) u ≡ Some place → At u place
put_at At places t to others here u place at = elim (cases_eq u t) [
  | inl e ↦ (let there : slice_get (set places t to) t ≡ Some place = subst (λ (k : ℕ). slice_get (set places t to) k ≡ Some place) e at in
      let within : t < length places = (let low = slice_get_within (set places t to) t place there in let same = length-set places t to in omega arith) in
      let one : to ≡ place = same_Some to place (sym (get_set_same places t to within) ∙ there) in
      subst (λ (k : ℕ). At k place) (sym e) (subst (At t) one (here within)))
  | inr ne ↦ others u place (sym (get_set_other places t to u ne) ∙ at) ne
]

-- a thread that is not there is at no node
pub no_place : (places : List TracePlace) (t : ℕ) → slice_get places t ≡ None → (place : TracePlace) → slice_get places t ≡ Some place → place.node ≡ None
no_place places t none place at = absurd (none_some (slice_get places t) place none at)

pub one_place : (places : List TracePlace) (t : ℕ) (own : TracePlace) → slice_get places t ≡ Some own → own.node ≡ None → (place : TracePlace) → slice_get places t ≡ Some place → place.node ≡ None
one_place places t own there none place at = ap (λ (x : TracePlace). x.node) (same_Some place own (sym at ∙ there)) ∙ none

-- ---- trees

-- each thread at a node of its own
pub first_tree : (p : Listing) (mode : Mode) (given : ℕ → List ℕ) (tree : TraceTree) → length tree.nodes.items ≡ length tree.places.items →
    ((i : ℕ) (x : TraceNode) → slice_get tree.nodes.items i ≡ Some x → (x.trace ≡ None) × (x.parent ≡ None)) →
    ((t : ℕ) (place : TracePlace) → slice_get tree.places.items t ≡ Some place → (place.beyond ≡ 0) × ((n : ℕ) → place.node ≡ Some n → n ≡ t)) → IsTraceTree p mode given tree
first_tree p mode given tree many plain first = record {
  threads = λ i. i;
  values = given;
  nodes_are = record {
    traces = λ i x c at e. absurd (none_some x.trace c (plain i x at).0 e);
    parents = λ i q x at e. absurd (none_some x.parent q (plain i x at).1 e);
  };
  places_are = λ t place at n e. (let (beyond, own) = first t place at in
      let same : n ≡ t = own n e in
      let within = slice_get_within tree.places.items t place at in
      ((let below : t < length tree.nodes.items = omega arith in subst (λ (k : ℕ). k < length tree.nodes.items) (sym same) below), same, [], sym beyond, ap given (sym same) ∙ sym (append-nil (given n))));
}

module _ (p : Listing) (mode : Mode) (given : ℕ → List ℕ) (tree : TraceTree) (is : IsTraceTree p mode given tree) where
  abbrev nodes : List TraceNode
  nodes = tree.nodes.items

  -- with a thread at another place, and all nodes that were there
  moved : (t : ℕ) (next : ℕ → List ℕ) → ((u : ℕ) → u ≢ t → next u ≡ given u) → (later : ℕ → ℕ) (latest : ℕ → List ℕ) (after : TraceTree) (to : TracePlace) → AreNodes p mode later latest after.nodes.items →
      length nodes ≤ length after.nodes.items → ((i : ℕ) → i < length nodes → later i ≡ is.threads i) → ((i : ℕ) → i < length nodes → latest i ≡ is.values i) →
      after.places.items ≡ set tree.places.items t to → IsTracePlace later latest (length after.nodes.items) t (next t) to → IsTraceTree p mode next after
  moved t next others later latest after to are many first second places here = record {
    threads = later;
    values = latest;
    nodes_are = are;
    places_are = λ u place at. put_at (λ u to. IsTracePlace later latest (length after.nodes.items) u (next u) to) tree.places.items t to
        (λ u place at ne. at_later is.threads later is.values latest (length nodes) (length after.nodes.items) u (given u) (next u) place (is.places_are u place at) many first second (others u ne))
        (λ inside. here) u place (ap (λ (xs : List TracePlace). slice_get xs u) (sym places) ∙ at);
  }

  -- nodes that stand for the tree's
  pub same_tree : (after : TraceTree) → AreNodesOf tree.nodes.items None after.nodes.items → after.places.items ≡ tree.places.items → IsTraceTree p mode given after
  same_tree after same places = record {
    threads = is.threads;
    values = is.values;
    nodes_are = nodes_kept p mode is.threads is.values tree.nodes.items is.nodes_are None after.nodes.items same (λ n c e. absurd (none_some None (n, c) refl e));
    places_are = λ t place at. at_later is.threads is.threads is.values is.values (length tree.nodes.items) (length after.nodes.items) t (given t) (given t) place
        (is.places_are t place (ap (λ (xs : List TracePlace). slice_get xs t) (sym places) ∙ at)) (let many = same.many in omega arith) (λ i h. refl) (λ i h. refl) refl;
  }

  -- a thread that is at no node is given any values
  pub stays : (t : ℕ) (next : ℕ → List ℕ) → ((u : ℕ) → u ≢ t → next u ≡ given u) → ((place : TracePlace) → slice_get tree.places.items t ≡ Some place → place.node ≡ None) → IsTraceTree p mode next tree
  stays t next others none = record {
    threads = is.threads;
    values = is.values;
    nodes_are = is.nodes_are;
    places_are = λ u place at. elim (cases_eq u t) [
      | inl e ↦ λ n q. absurd (none_some place.node n (none place (subst (λ (k : ℕ). slice_get tree.places.items k ≡ Some place) e at)) q)
      | inr ne ↦ at_later is.threads is.threads is.values is.values (length nodes) (length nodes) u (given u) (next u) place (is.places_are u place at) (omega arith) (λ i h. refl) (λ i h. refl) (others u ne)
    ];
  }

  module _ (t : ℕ) (place : TracePlace) (there : slice_get tree.places.items t ≡ Some place) where
    -- the values of the node that a thread is at are the thread's
    node_is : (n : ℕ) → place.node ≡ Some n → place.beyond ≡ 0 → (n < length nodes) × (is.threads n ≡ t) × (given t ≡ is.values n)
    node_is n at zero_beyond = let (below, thread, more, long, given_is) = is.places_are t place there n at in
        (below, thread, given_is ∙ ap (λ (g : List ℕ). is.values n ++ g) (no_more more (long ∙ zero_beyond)) ∙ append-nil (is.values n))

    module _ (value parent child : ℕ) (at : place.node ≡ Some parent) (inside : place.beyond ≡ 0) (found : IsChildOf tree.nodes.items parent value child) where
      child_is : (child < length nodes) × (is.threads child ≡ t) × (is.values child ≡ given t ++ value ∷ [])
      child_is =
          let (x, here, under, value_is) = found in
          let (below, thread, given_is) = node_is parent at inside in
          let (before, same, values_are) = is.nodes_are.parents child parent x here under in
          (slice_get_within nodes child x here, same ∙ thread, values_are ∙ ap (λ (v : ℕ). is.values parent ++ v ∷ []) value_is ∙ ap (λ (g : List ℕ). g ++ value ∷ []) (sym given_is))

      -- the trace that is found is what the thread does
      pub taken_is : (trace : ThreadTrace) → ((x : TraceNode) → slice_get tree.nodes.items child ≡ Some x → x.trace ≡ Some trace) → IsThreadTraceOf p (machine_of_mode p mode) t (given t ++ value ∷ []) trace
      taken_is trace held =
          let (x, here, under, value_is) = found in
          let (low, thread, values_are) = child_is in
          subst (λ (g : List ℕ). IsThreadTraceOf p (machine_of_mode p mode) t g trace) values_are
          (subst (λ (u : ℕ). IsThreadTraceOf p (machine_of_mode p mode) u (is.values child) trace) thread (is.nodes_are.traces child x trace here (held x here)))

      -- and the thread is at the node where it was
      pub taken_tree : (next : ℕ → List ℕ) → IsGivenMore given t value next → (after : TraceTree) → AreNodesOf tree.nodes.items None after.nodes.items →
          after.places.items ≡ set tree.places.items t (record { node = Some child; beyond = 0 }) → IsTraceTree p mode next after
      taken_tree next more after same places = moved t next more.1 is.threads is.values after (record { node = Some child; beyond = 0 })
          (nodes_kept p mode is.threads is.values nodes is.nodes_are None after.nodes.items same (λ n c e. absurd (none_some None (n, c) refl e)))
          (let many = same.many in omega arith) (λ i h. refl) (λ i h. refl) places
          (λ n e. (let one : child ≡ n = same_Some child n e in
          let (low, thread, values_are) = child_is in
          let many = same.many in
          let lower : child < length after.nodes.items = omega arith in
          subst (λ (k : ℕ). (k < length after.nodes.items) × (is.threads k ≡ t) × (more : List ℕ) × (length more ≡ 0) × (next t ≡ is.values k ++ more)) one
          (lower, thread, [], refl, more.0 ∙ sym values_are ∙ sym (append-nil (is.values child)))))

    -- a value that no node is found for
    pub entered : (value : ℕ) (next : ℕ → List ℕ) → IsGivenMore given t value next → (after : TraceTree) (to : TracePlace) → IsNextPlace tree.nodes.items place value after.nodes.items to →
        after.places.items ≡ set tree.places.items t to → IsTraceTree p mode next after
    entered value next more after to (inl new) places =
        let (below, thread, given_is) = node_is new.parent new.was_at new.not_beyond in
        let node = new.pushed.node in
        let later : ℕ → ℕ = new_threads p mode is.threads is.values nodes is.nodes_are node new.parent new.pushed.no_trace new.pushed.parent_is below in
        let latest : ℕ → List ℕ = new_values p mode is.threads is.values nodes is.nodes_are node new.parent new.pushed.no_trace new.pushed.parent_is below in
        let all = nodes_more p mode is.threads is.values nodes is.nodes_are node new.parent new.pushed.no_trace new.pushed.parent_is below in
        let long = length-append nodes (node ∷ []) in
        let many = new.pushed.nodes.many in
        let one_more : length (node ∷ []) ≡ 1 = refl in
        moved t next more.1 later latest after to
        (nodes_kept p mode later latest (nodes ++ node ∷ []) all None after.nodes.items new.pushed.nodes (λ n c e. absurd (none_some None (n, c) refl e)))
        (omega arith)
        (threads_other p mode is.threads is.values nodes is.nodes_are node new.parent new.pushed.no_trace new.pushed.parent_is below)
        (values_other p mode is.threads is.values nodes is.nodes_are node new.parent new.pushed.no_trace new.pushed.parent_is below) places
        (λ n e. (let last : length nodes ≡ n = same_Some (length nodes) n (ap (λ (x : TracePlace). x.node) (sym new.is_at) ∙ e) in
        let low : length nodes < length after.nodes.items = omega arith in
        subst (λ (k : ℕ). (k < length after.nodes.items) × (later k ≡ t) × (more : List ℕ) × (length more ≡ to.beyond) × (next t ≡ latest k ++ more)) last (
          low,
          threads_new p mode is.threads is.values nodes is.nodes_are node new.parent new.pushed.no_trace new.pushed.parent_is below ∙ thread,
          [],
          ap (λ (x : TracePlace). x.beyond) (sym new.is_at),
          more.0 ∙ ap (λ (g : List ℕ). g ++ value ∷ []) given_is ∙ ap (λ (v : ℕ). is.values new.parent ++ v ∷ []) (sym new.pushed.is_value)
              ∙ sym (values_new p mode is.threads is.values nodes is.nodes_are node new.parent new.pushed.no_trace new.pushed.parent_is below) ∙ sym (append-nil (latest (length nodes))),
        )))
    entered value next more after to (inr (same, further)) places =
        let many = ap length same in
        moved t next more.1 is.threads is.values after to (subst (λ (xs : List TraceNode). AreNodes p mode is.threads is.values xs) (sym same) is.nodes_are) (omega arith) (λ i h. refl) (λ i h. refl) places
        (λ n e. (let (was, one) = further n e in
        let (below, thread, beyond, long, given_is) = is.places_are t place there n was in
        let longer = length-append beyond (value ∷ []) in
        let one_more : length (value ∷ []) ≡ 1 = refl in
        (omega arith, thread, beyond ++ value ∷ [], omega arith, more.0 ∙ ap (λ (g : List ℕ). g ++ value ∷ []) given_is ∙ append_assoc (is.values n) beyond (value ∷ []))))

    -- a value that is taken back, where the thread was beyond its node
    pub left_beyond : (value : ℕ) (earlier : ℕ → List ℕ) → IsGivenMore earlier t value given → 0 < place.beyond → (after : TraceTree) (to : TracePlace) → to.node ≡ place.node → to.beyond + 1 ≡ place.beyond →
        after.nodes.items ≡ tree.nodes.items → after.places.items ≡ set tree.places.items t to → IsTraceTree p mode earlier after
    left_beyond value earlier more some after to same_node fewer_beyond same places =
        let many = ap length same in
        moved t earlier (λ u ne. sym (more.1 u ne)) is.threads is.values after to (subst (λ (xs : List TraceNode). AreNodes p mode is.threads is.values xs) (sym same) is.nodes_are) (omega arith) (λ i h. refl) (λ i h. refl) places
        (λ n e. (let (below, thread, beyond, long, given_is) = is.places_are t place there n (sym same_node ∙ e) in
        let (fewer, short, earlier_is) = without_last (is.values n) beyond (earlier t) value (sym given_is ∙ more.0) (omega arith) in
        (omega arith, thread, fewer, omega arith, earlier_is)))

    -- and where it was at the node
    pub left_node : (value : ℕ) (earlier : ℕ → List ℕ) → IsGivenMore earlier t value given → place.beyond ≡ 0 → (n : ℕ) → place.node ≡ Some n → (trace : ThreadTrace) →
        IsThreadTraceOf p (machine_of_mode p mode) t (given t) trace → (after : TraceTree) (to : TracePlace) → to.beyond ≡ 0 → ((x : TraceNode) → slice_get tree.nodes.items n ≡ Some x → to.node ≡ x.parent) →
        AreNodesOf tree.nodes.items (Some (n, trace)) after.nodes.items → after.places.items ≡ set tree.places.items t to → IsTraceTree p mode earlier after
    left_node value earlier more inside n at trace own after to none parent_is same places =
        let (below, thread, given_is) = node_is n at inside in
        let many = same.many in
        let here : IsThreadTraceOf p (machine_of_mode p mode) (is.threads n) (is.values n) trace =
        subst (λ (u : ℕ). IsThreadTraceOf p (machine_of_mode p mode) u (is.values n) trace) (sym thread) (subst (λ (g : List ℕ). IsThreadTraceOf p (machine_of_mode p mode) t g trace) given_is own) in
        moved t earlier (λ u ne. sym (more.1 u ne)) is.threads is.values after to
        (nodes_kept p mode is.threads is.values nodes is.nodes_are (Some (n, trace)) after.nodes.items same
        (λ m c e. subst (λ (b : ℕ × ThreadTrace). IsThreadTraceOf p (machine_of_mode p mode) (is.threads b.0) (is.values b.0) b.1) (same_Some (n, trace) (m, c) e) here))
        (omega arith) (λ i h. refl) (λ i h. refl) places
        (λ q e. (let (x, found) = get_some nodes n below in
        let (before, same_thread, values_are) = is.nodes_are.parents n q x found (sym (parent_is x found) ∙ e) in
        let (fewer, short, earlier_is) = without_last (is.values q) (x.value ∷ []) (earlier t) value (sym values_are ∙ sym given_is ∙ more.0) (omega arith) in
        let short_too : length fewer + 1 ≡ 1 = short in
        (omega arith, sym same_thread ∙ thread, fewer, omega arith, earlier_is)))

-- ---- the first nodes and places

pub more_plain : (nodes more : List TraceNode) (node : TraceNode) → more ≡ nodes ++ node ∷ [] → ((i : ℕ) (x : TraceNode) → slice_get nodes i ≡ Some x → (x.trace ≡ None) × (x.parent ≡ None)) →
    node.trace ≡ None → node.parent ≡ None → (i : ℕ) (x : TraceNode) → slice_get more i ≡ Some x → (x.trace ≡ None) × (x.parent ≡ None)
more_plain nodes more node is plain no_trace no_parent i x at = elim (get_cases nodes node i x (ap (λ (xs : List TraceNode). slice_get xs i) (sym is) ∙ at)) [
  | inl h ↦ plain i x h
  | inr (last, same) ↦ (ap (λ (y : TraceNode). y.trace) same ∙ no_trace, ap (λ (y : TraceNode). y.parent) same ∙ no_parent)
]

pub more_first : (places more : List TracePlace) (place : TracePlace) → more ≡ places ++ place ∷ [] → (many : ℕ) → length places ≡ many →
    ((t : ℕ) (x : TracePlace) → slice_get places t ≡ Some x → (x.beyond ≡ 0) × ((n : ℕ) → x.node ≡ Some n → n ≡ t)) →
    place.beyond ≡ 0 → ((n : ℕ) → place.node ≡ Some n → n ≡ many) → (t : ℕ) (x : TracePlace) → slice_get more t ≡ Some x → (x.beyond ≡ 0) × ((n : ℕ) → x.node ≡ Some n → n ≡ t)
more_first places more place is many long first none own t x at = elim (get_cases places place t x (ap (λ (xs : List TracePlace). slice_get xs t) (sym is) ∙ at)) [
  | inl h ↦ first t x h
  | inr (last, same) ↦ (ap (λ (y : TracePlace). y.beyond) same ∙ none, λ n e. own n (ap (λ (y : TracePlace). y.node) (sym same) ∙ e) ∙ sym long ∙ sym last)
]
