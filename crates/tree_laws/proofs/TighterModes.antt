-- A cover tree that is valid in a mode is valid in each tighter one: of what is known of a sketch only sections change, and of two modes with gaps fenced they come no closer.
use Rattle.tree_laws.proofs.Vocabulary.{◌≡◌, ◌⊎◌, ℕ, ◌≤◌, Bool, List, [], ◌∷◌, Option, Some, slice_get, IsSome, map, length, sym, ap, ◌∙◌, subst, inl, inr, range_with_len, Local, Listing, Outcome, Machine, SequentialMachine, StoreBufferMachine, Access, Event, Initial, At}
use Rattle.tree_laws.proofs.Vocabulary.{Kind, access_by, Writes, Cover, Value, Source, Order, Cycle, Known, Covers, NoCover, MoreCovers, event_of, Choice, OpenChoice, Rule, Whole, Early, AllowsSource, AllowsOrder, AreChoicesBy, AreTwo, sketch_with, HasNextValuesBy, HasSourcesBy, HasNoOrderBy, IsValidCover, IsValidCoverBy, AreValidCoversBy, Truth, Question, show_registers, action}
use Rattle.tree_laws.proofs.Vocabulary.{start_of, code_of, Gaps, trace_by, Sketch, given_to, IsSourceOf, IsPair, IsSettled, MayStillWrite, read_by, next_read, IsWhole, MayBeLast, stopped, EndsInValues, KnownAtom, EndsAs, MustEndAs, IsBefore}
use Rattle.tree_laws.proofs.Vocabulary.{KnownFromReads, KnownRelates, KnownEdgeOfMode, IsKnownCycle, ATighterModeKeepsACover, ATighterModeKeepsTheValues, ATighterModeKeepsAWholeSketch, ATighterModeKeepsASettledRead, bare, threads_alike, also, writes}
use mathlib.Core.Path.{fun_ext}
use Rattle.tso_program.specs.{declared.shown.Shown.Shown, declared.atom.Atom.Atom, Truth.is_true_at}
use Rattle.tso_program.specs.declared.atom.Atom.TheVariants as atom
use Rattle.tso_program.proofs.KnownTruths.{known_more}
use Rattle.candidate_executions.specs.declared.event.Kind.TheVariants as union
use Rattle.tree_laws.specs.declared.choice.OpenChoice.TheVariants as left
use Rattle.candidate_executions.specs.Consistency.{Precedes, KeepsOrder, IsOfMode}
use Rattle.candidate_executions.proofs.Orders.WiderRelations.{cycle_wider}
use Rattle.tree_laws.specs.TighterModes.{AreGapsAmong, IsNoLooser, kind_in, changed, each_changed}
use Rattle.tree_laws.proofs.WiderTraces.{AreWider, still_apart, wider_trace}

module _ (p : Listing) (k : Sketch) where
  -- a source in a mode is one in each
  source : (mode other : Machine) (s e : Event) → IsSourceOf p mode k s e → IsSourceOf p other k s e
  source mode other s e (x, v, a, reads, differ, written) =
      let (y, b, q) = also p (given_to k) mode other e x a in (
        y,
        v,
        b,
        sym (ap (λ (z : Access). z.read) q) ∙ reads,
        differ,
        writes p (given_to k) mode other s y.location v (subst (λ (z : Access). Writes (access_by p mode (given_to k)) s z.location v) q written),
      )

  -- where one access keeps its order before another, it still does with more gaps fenced
  module _ (fewer more : Gaps) (among : AreGapsAmong fewer more) where
    wider : (t : ℕ) → AreWider 0 0 (trace_by p (StoreBufferMachine fewer) (given_to k) t).accesses (trace_by p (StoreBufferMachine more) (given_to k) t).accesses
    wider t = wider_trace (action p.threads t) (fewer t) (more t) (among t) (length (code_of p.threads t)) 0 0 (start_of p.threads t) (given_to k t)

    abbrev loosely : Event → Access → Type 0
    loosely e x = access_by p (StoreBufferMachine fewer) (given_to k) e ≡ Some x

    abbrev tightly : Event → Access → Type 0
    tightly e x = access_by p (StoreBufferMachine more) (given_to k) e ≡ Some x

    keeps_order : (d e : Event) (x y z w : Access) → Precedes d e → loosely d x → loosely e y → tightly d z → tightly e w →
        bare x ≡ bare z → bare y ≡ bare w → KeepsOrder x y → KeepsOrder z w
    keeps_order d e x y z w before a b c f q r (inl reads) = inl (subst (λ (u : Access). IsSome u.read) q reads)
    keeps_order d e x y z w before a b c f q r (inr (inl written)) = inr (inl (subst (λ (u : Access). IsSome u.written) r written))
    keeps_order (Initial l) e x y z w before a b c f q r (inr (inr apart)) = absurd before
    keeps_order (At t i) (Initial l) x y z w before a b c f q r (inr (inr apart)) = absurd before
    keeps_order (At t i) (At u j) x y z w before a b c f q r (inr (inr apart)) =
        inr (inr (still_apart 0 0 _ _ i j x y z w (wider t) before.1 a (of_one_thread fewer y b) c (of_one_thread more w f) apart))
      where
        of_one_thread : (gaps : Gaps) (v : Access) → access_by p (StoreBufferMachine gaps) (given_to k) (At u j) ≡ Some v → access_by p (StoreBufferMachine gaps) (given_to k) (At t j) ≡ Some v
        of_one_thread gaps v h = subst (λ (n : ℕ). access_by p (StoreBufferMachine gaps) (given_to k) (At n j) ≡ Some v) (sym before.0) h

    fenced_relates : (kind : Kind) (d e : Event) (x y z w : Access) → loosely d x → loosely e y → tightly d z → tightly e w → bare x ≡ bare z → bare y ≡ bare w →
        KnownRelates k kind d x e y → KnownRelates k kind d z e w
    fenced_relates union.Sequential d e x y z w a b c f q r h = subst (λ (u : Access). KnownRelates k union.Sequential d z e u) r h
    fenced_relates union.Location d e x y z w a b c f q r h =
        subst (λ (u : Access). KnownRelates k union.Location d (bare z) e u) r (subst (λ (u : Access). KnownRelates k union.Location d u e (bare y)) q h)
    fenced_relates union.Global d e x y z w a b c f q r (inl h) = inl (h.0, keeps_order d e x y z w h.0 a b c f q r h.1)
    fenced_relates union.Global d e x y z w a b c f q r (inr (inl h)) = inr (inl h)
    fenced_relates union.Global d e x y z w a b c f q r (inr (inr h)) = inr (inr (subst (λ (u : Access). IsBefore k d e u ⊎ KnownFromReads k d e u) r h))

  -- what a union relates, that of sequential consistency does
  sequentially : (kind : Kind) (d e : Event) (x y z w : Access) → bare y ≡ bare w → KnownRelates k kind d x e y → KnownRelates k union.Sequential d z e w
  sequentially kind d e x y z w r h = subst (λ (u : Access). KnownRelates k union.Sequential d z e u) r (by_kind kind h)
    where
      by_kind : (kind : Kind) → KnownRelates k kind d x e y → KnownRelates k union.Sequential d z e (bare y)
      by_kind union.Sequential h = h
      by_kind union.Location (inr h) = inr h
      by_kind union.Global (inr (inl h)) = inr (inl h.0)
      by_kind union.Global (inr (inr h)) = inr (inr h)
      by_kind kind (inl h) = inl h.0

module _ (p : Listing) (loose tight : Machine) (tighter : IsNoLooser loose tight) (k : Sketch) where
  pair_forth : (d e : Event) → IsPair p loose k d e → IsPair p tight k d e
  pair_forth d e (differ, (l, v, w, one, other, not_first, not_second)) =
      (differ, (l, v, w, writes p (given_to k) loose tight d l v one, writes p (given_to k) loose tight e l w other, not_first, not_second))

  same_next : (t : ℕ) → next_read p tight k t ≡ next_read p loose k t
  same_next t = ap (λ (s : Local). read_by (action p.threads t s)) (sym (threads_alike p (given_to k) loose tight t).last)

  whole_forth : IsWhole p loose k → IsWhole p tight k
  whole_forth whole t = same_next t ∙ whole t

  -- a thread stops where it did, so what it may still write stays the same
  still_writes : (u l v : ℕ) → MayStillWrite p tight k u l v → MayStillWrite p loose k u l v
  still_writes u l v may = record {
    goes_on = subst (λ (o : Option ℕ). IsSome o) (same_next u) may.goes_on;
    place = may.place;
    is_ahead = subst (λ (n : ℕ). n ≤ may.place) (sym (ap (λ (s : Local). s.place) (threads_alike p (given_to k) loose tight u).last)) may.is_ahead;
    instruction = may.instruction;
    is_there = may.is_there;
    may_store = may.may_store;
  }

  settled_forth : (e : Event) → IsSettled p loose k e → IsSettled p tight k e
  settled_forth e settled x v u there reads other may =
      let (y, is, same) = also p (given_to k) tight loose e x there in
      let still : MayStillWrite p loose k u y.location v = still_writes u y.location v (subst (λ (z : Access). MayStillWrite p tight k u z.location v) same may) in
      settled y v u is (sym (ap (λ (z : Access). z.read) same) ∙ reads) other still

  allowed_forth : (rule : Rule) (e : Event) → AllowsSource rule p loose k e → AllowsSource rule p tight k e
  allowed_forth Whole e whole = whole_forth whole
  allowed_forth Early e settled = settled_forth e settled

  order_allowed_forth : (rule : Rule) → AllowsOrder rule p loose k → AllowsOrder rule p tight k
  order_allowed_forth Whole whole = whole_forth whole
  order_allowed_forth Early always = always

  module _ (rule : Rule) where
    values_forth : (t : ℕ) (values : List ℕ) → HasNextValuesBy rule p loose k t values → HasNextValuesBy rule p tight k t values
    values_forth t values has = record { location = has.location; next = same_next t ∙ has.next; ascending = has.ascending; exact = has.exact }

    sources_forth : (e : Event) (sources : List Event) → HasSourcesBy rule p loose k e sources → HasSourcesBy rule p tight k e sources
    sources_forth e sources has =
        let (y, there, same) = also p (given_to k) loose tight e has.access has.is_access in record {
          allowed = allowed_forth rule e has.allowed;
          access = y;
          is_access = there;
          is_read = subst (λ (z : Access). IsSome z.read) same has.is_read;
          free = has.free;
          in_order = has.in_order;
          exact = λ s. ((λ here. source p k loose tight s e ((has.exact s).0 here)), (λ is. (has.exact s).1 (source p k tight loose s e is)));
        }

    order_forth : (d e : Event) → HasNoOrderBy rule p loose k d e → HasNoOrderBy rule p tight k d e
    order_forth d e has = record { allowed = order_allowed_forth rule has.allowed; is_pair = pair_forth d e has.is_pair; free = has.free }

    choices_forth : (next : OpenChoice) (choices : List Choice) → AreChoicesBy rule p loose k next choices → AreChoicesBy rule p tight k next choices
    choices_forth (left.Value t) choices are = record { values = are.values; next = values_forth t are.values are.next; each = are.each }
    choices_forth (left.Source read) choices are = record { sources = are.sources; next = sources_forth (event_of read) are.sources are.next; each = are.each }
    choices_forth (left.Order first second) choices are = record { free = order_forth (event_of first) (event_of second) are.free; both = are.both }

  written_back : (e : Event) (l v : ℕ) → Writes (access_by p tight (given_to k)) e l v → Writes (access_by p loose (given_to k)) e l v
  written_back = writes p (given_to k) tight loose

  last_back : (l : ℕ) (e : Event) → MayBeLast p tight k l e → MayBeLast p loose k l e
  last_back l e last = record { no_later = last.no_later; only_initial = λ q d v w. last.only_initial q d v (writes p (given_to k) loose tight d l v w) }

  edge_forth : (kind : Kind) (d e : Event) → KnownEdgeOfMode p loose k kind d e → KnownEdgeOfMode p tight k (kind_in tight kind) d e
  edge_forth kind d e (of_mode, (x, y, a, b, relates)) =
      let (z, c, q) = also p (given_to k) loose tight d x a in
      let (w, f, r) = also p (given_to k) loose tight e y b in
      by_modes loose tight tighter of_mode x y z w a b c f q r relates
    where
      by_modes : (loose tight : Machine) → IsNoLooser loose tight → IsOfMode loose kind → (x y z w : Access) →
          access_by p loose (given_to k) d ≡ Some x → access_by p loose (given_to k) e ≡ Some y →
          access_by p tight (given_to k) d ≡ Some z → access_by p tight (given_to k) e ≡ Some w → bare x ≡ bare z → bare y ≡ bare w →
          KnownRelates k kind d x e y → KnownEdgeOfMode p tight k (kind_in tight kind) d e
      by_modes (StoreBufferMachine fewer) (StoreBufferMachine more) among of_mode x y z w a b c f q r h =
          (of_mode, (z, w, c, f, fenced_relates p k fewer more among kind d e x y z w a b c f q r h))
      by_modes SequentialMachine (StoreBufferMachine more) tighter of_mode x y z w a b c f q r h = absurd tighter
      by_modes loose SequentialMachine tighter of_mode x y z w a b c f q r h = (tt, (z, w, c, f, sequentially p k kind d e x y z w r h))

  cycle_forth : (kind : Kind) (es : List Event) → IsKnownCycle p loose k kind es → IsKnownCycle p tight k (kind_in tight kind) es
  cycle_forth kind = cycle_wider (KnownEdgeOfMode p loose k kind) (KnownEdgeOfMode p tight k (kind_in tight kind)) (edge_forth kind)

-- what holds of two sketches
pub both_kept : (P Q R S : Sketch → Type 0) → ((k : Sketch) → P k → R k) → ((k : Sketch) → Q k → S k) → (ks : List Sketch) → AreTwo P Q ks → AreTwo R S ks
both_kept P Q R S first second (k ∷ (j ∷ [])) (one, other) = (first k one, second j other)
both_kept P Q R S first second ks both = absurd both

module _ (q : Question) (loose tight : Machine) (tighter : IsNoLooser loose tight) where
  abbrev p : Listing
  p = q.program

  module _ (k : Sketch) (o : Outcome) where
    same_stopped : stopped p tight k ≡ stopped p loose k
    same_stopped = sym (ap (λ f. map f (range_with_len 0 (length p.threads))) (fun_ext (λ t. ap (λ (s : Local). s.registers) (threads_alike p (given_to k) loose tight t).last)))

    values_kept : (shown : Shown) → EndsInValues p loose k shown o → EndsInValues p tight k shown o
    values_kept shown ends = record {
      registers = ends.registers ∙ sym (ap (show_registers shown) same_stopped);
      long = ends.long;
      memory = λ l v e within w last. ends.memory l v e within (written_back p loose tight tighter k e l v w) (last_back p loose tight tighter k l e last);
    }

    atom_kept : (b : Bool) (a : Atom) → KnownAtom p loose k b a → KnownAtom p tight k b a
    atom_kept b (atom.Register t r v) (none, known) = (
      same_next p loose tight tighter k t ∙ none,
      ap (λ (registers : List (List ℕ)). is_true_at (record { registers = registers; memory = [] }) (atom.Register t r v)) same_stopped ∙ known,
    )
    atom_kept b (atom.Location l v) (known, past) = (
      λ h. (
        whole_forth p loose tight tighter k (known h).0,
        λ w (e, writes, last). (known h).1 w (e, written_back p loose tight tighter k e l w writes, last_back p loose tight tighter k l e last),
      ),
      past,
    )

    ends_kept : (shown : Shown) → EndsAs p loose k shown o → EndsAs p tight k shown o
    ends_kept (Truth f) ends =
        record { truth = ends.truth; known = known_more (KnownAtom p loose k) (KnownAtom p tight k) atom_kept ends.truth f ends.known; is_told = ends.is_told }
    ends_kept shown (whole, ends) = (whole_forth p loose tight tighter k whole, values_kept shown ends)

  must_end : (k : Sketch) (o : Outcome) → MustEndAs q loose k o → MustEndAs q tight k o
  must_end k o must = ends_kept k o q.shown must

  -- with unions for cycles such that these stay cycles, and each outcome's number in another list
  module _ (rule : Rule) (kinds : Kind → Kind) (cycles : (k : Sketch) (kind : Kind) (es : List Event) → IsKnownCycle p loose k kind es → IsKnownCycle p tight k (kinds kind) es) (old new : List Outcome) (place : ℕ → ℕ)
      (moves : (n : ℕ) (o : Outcome) → slice_get old n ≡ Some o → slice_get new (place n) ≡ Some o) where
    mutual
      pub kept : (tree : Cover) (k : Sketch) → IsValidCoverBy rule q loose old tree k → IsValidCoverBy rule q tight new (changed kinds place tree) k
      kept (Value t children) k (choices, are, valid) = (choices, choices_forth p loose tight tighter k rule (left.Value t) choices are, each_kept children (map (sketch_with k) choices) valid)
      kept (Source read children) k (choices, are, valid) = (choices, choices_forth p loose tight tighter k rule (left.Source read) choices are, each_kept children (map (sketch_with k) choices) valid)
      kept (Order first second one other) k (choices, are, valid) = (
        choices,
        choices_forth p loose tight tighter k rule (left.Order first second) choices are,
        both_kept (IsValidCoverBy rule q loose old one) (IsValidCoverBy rule q loose old other) (IsValidCoverBy rule q tight new (changed kinds place one)) (IsValidCoverBy rule q tight new (changed kinds place other)) (kept one) (kept other) (map (sketch_with k) choices) valid,
      )
      kept (Cycle kind events) k cycle = cycles k kind (map event_of events) cycle
      kept (Known number) k must = record { outcome = must.outcome; is_outcome = moves number must.outcome must.is_outcome; must_end = must_end k must.outcome must.must_end }

      each_kept : (trees : Covers) (ks : List Sketch) → AreValidCoversBy rule q loose old trees ks → AreValidCoversBy rule q tight new (each_changed kinds place trees) ks
      each_kept NoCover [] valid = valid
      each_kept (MoreCovers tree trees) (k ∷ ks) (now, later) = (kept tree k now, each_kept trees ks later)
      each_kept trees ks valid = absurd valid

pub tighter_keeps_cover_by : (rule : Rule) → ATighterModeKeepsACover rule
tighter_keeps_cover_by rule q loose tight outcomes tree k tighter valid =
    kept q loose tight tighter rule (kind_in tight) (λ k. cycle_forth q.program loose tight tighter k) outcomes outcomes (λ number. number) (λ n o is. is) tree k valid

pub tighter_keeps_cover : ATighterModeKeepsACover Whole
tighter_keeps_cover = tighter_keeps_cover_by Whole

-- no mode is looser than itself
as_loose : (mode : Machine) → IsNoLooser mode mode
as_loose SequentialMachine = tt
as_loose (StoreBufferMachine gaps) = λ t i fenced. fenced

-- in the same mode, with other numbers
pub renumbered_is_valid : (q : Question) (mode : Machine) (old new : List Outcome) (place : ℕ → ℕ) → ((n : ℕ) (o : Outcome) → slice_get old n ≡ Some o → slice_get new (place n) ≡ Some o) →
    (tree : Cover) (k : Sketch) → IsValidCover q mode old tree k → IsValidCover q mode new (changed (λ kind. kind) place tree) k
renumbered_is_valid q mode = kept q mode mode (as_loose mode) Whole (λ kind. kind) (λ k kind es cycle. cycle)

pub tighter_keeps_values_by : (rule : Rule) → ATighterModeKeepsTheValues rule
tighter_keeps_values_by rule p loose tight k t values tighter has = values_forth p loose tight tighter k rule t values has

pub tighter_keeps_values : ATighterModeKeepsTheValues Whole
tighter_keeps_values = tighter_keeps_values_by Whole

pub tighter_keeps_whole : ATighterModeKeepsAWholeSketch
tighter_keeps_whole p loose tight k tighter whole = whole_forth p loose tight tighter k whole

pub tighter_keeps_settled : ATighterModeKeepsASettledRead
tighter_keeps_settled p loose tight k e tighter settled = settled_forth p loose tight tighter k e settled
