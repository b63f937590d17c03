-- Trees that show the outcome of each completion of a sketch: which choices there are, when the trees are valid, and what they mean (this project's own definitions; docs/definitions.md).
use Rattle.std.specs.Prelude.{◌≡◌, ◌↔◌, ◌⊎◌, ℕ, List, [], ◌∷◌, Some, IsSome, Contains, slice_get, map}
use Rattle.std.specs.List.{AllPairs}
use Rattle.std.specs.List.Sorted.{IsStrictlyIncreasing}
use Rattle.tso_program.specs.declared.listing.Listing.{Listing}
use Rattle.tso_program.specs.declared.outcome.Outcome.{Outcome}
use Rattle.tso_program.specs.declared.question.Question.{Question}
use Rattle.tso_machine.specs.Machine.{Machine}
use Rattle.candidate_executions.specs.declared.access.Access.{Access}
use Rattle.candidate_executions.specs.declared.event.Event.{Event, TheVariants.Access as At}
use Rattle.candidate_executions.specs.Events.{ComesBefore}
use Rattle.candidate_executions.specs.Values.{IsHeldValue, IsValueOf}
use Rattle.candidate_executions.specs.Candidates.{Candidate, access_by, HasShownOutcome}
use Rattle.candidate_executions.specs.Sketches.{Sketch, given_to, IsConsistentCompletion, IsSourceOf, IsPair, with_value, with_source, with_pair, next_read, IsWhole, MustEndAs, IsKnownCycle}
use Rattle.candidate_executions.specs.Settled.{IsSettled}
use Rattle.cert_forest.specs.AccessId.{AccessId}
use Rattle.cert_forest.specs.Trees.{Cover, Value, Source, Order, Cycle, Known, Covers, NoCover, MoreCovers}
use Rattle.tree_laws.specs.declared.choice.Choice.{Choice}
use Rattle.tree_laws.specs.declared.choice.Choice.TheVariants as choice
use Rattle.tree_laws.specs.declared.choice.OpenChoice.{OpenChoice}
use Rattle.tree_laws.specs.declared.choice.OpenChoice.TheVariants as left
use Rattle.cert_forest.specs.Rule.{Rule, TheVariants.Whole, TheVariants.Early}

abbrev pub event_of : AccessId → Event
event_of a = At a.thread a.access

-- the rule takes v as a value of the location: each of its values; early, each that it may hold
abbrev pub IsValueBy : Rule → Listing → ℕ → ℕ → Type 0
IsValueBy Whole p l v = IsValueOf p l v
IsValueBy Early p l v = IsHeldValue p l v

-- the rule lets the read e take a source in the sketch: once each read has its value; early, once no other thread may still write what e has read
abbrev pub AllowsSource : Rule → Listing → Machine → Sketch → Event → Type 0
AllowsSource Whole p mode k e = IsWhole p mode k
AllowsSource Early p mode k e = IsSettled p mode k e

-- the rule lets two writes take an order in the sketch: once each read has its value; early, always
abbrev pub AllowsOrder : Rule → Listing → Machine → Sketch → Type 0
AllowsOrder Whole p mode k = IsWhole p mode k
AllowsOrder Early p mode k = Unit {0}

module _ (rule : Rule) (p : Listing) (mode : Machine) where
  -- thread t has a next read, and these are its location's values, ascending
  pub record HasNextValuesBy (k : Sketch) (t : ℕ) (values : List ℕ) : Type 0 where
    pub location : ℕ
    pub next : next_read p mode k t ≡ Some location
    pub ascending : IsStrictlyIncreasing values
    pub exact : (v : ℕ) → Contains values v ↔ IsValueBy rule p location v

  -- e is a read that has its value, and no source, which it may take; and these are its sources: the initial write first, then by thread and index
  pub record HasSourcesBy (k : Sketch) (e : Event) (sources : List Event) : Type 0 where
    pub allowed : AllowsSource rule p mode k e
    pub access : Access
    pub is_access : access_by p mode (given_to k) e ≡ Some access
    pub is_read : IsSome access.read
    pub free : (s : Event) → ¬ Contains k.sources (e, s)
    pub in_order : AllPairs ComesBefore sources
    pub exact : (s : Event) → Contains sources s ↔ IsSourceOf p mode k s e

  -- d and e are two writes to one location, neither the initial one, in no order yet, which they may take
  pub record HasNoOrderBy (k : Sketch) (d e : Event) : Type 0 where
    pub allowed : AllowsOrder rule p mode k
    pub is_pair : IsPair p mode k d e
    pub free : ¬ (Contains k.pairs (d, e) ⊎ Contains k.pairs (e, d))

-- the sketch with the choice
abbrev pub sketch_with : Sketch → Choice → Sketch
sketch_with k (choice.Value t v) = with_value k t v
sketch_with k (choice.Source read source) = with_source k (event_of read) source
sketch_with k (choice.Order first second) = with_pair k (event_of first) (event_of second)

module _ (rule : Rule) (p : Listing) (mode : Machine) (k : Sketch) where
  -- these choices give thread t's next read its values, ascending
  pub record AreValueChoicesBy (t : ℕ) (choices : List Choice) : Type 0 where
    pub values : List ℕ
    pub next : HasNextValuesBy rule p mode k t values
    pub each : choices ≡ map (choice.Value t) values

  -- these choices give a read its sources, in their order
  pub record AreSourceChoicesBy (read : AccessId) (choices : List Choice) : Type 0 where
    pub sources : List Event
    pub next : HasSourcesBy rule p mode k (event_of read) sources
    pub each : choices ≡ map (choice.Source read) sources

  -- these choices are both orders of two writes that have none
  pub record AreOrderChoicesBy (first second : AccessId) (choices : List Choice) : Type 0 where
    pub free : HasNoOrderBy rule p mode k (event_of first) (event_of second)
    pub both : choices ≡ choice.Order first second ∷ choice.Order second first ∷ []

  -- it is left to be chosen, and these are its choices, in order
  abbrev pub AreChoicesBy : OpenChoice → List Choice → Type 0
  AreChoicesBy (left.Value t) choices = AreValueChoicesBy t choices
  AreChoicesBy (left.Source read) choices = AreSourceChoicesBy read choices
  AreChoicesBy (left.Order first second) choices = AreOrderChoicesBy first second choices

  -- it is left to be chosen, and the sketches after its choices, in order, have the property
  abbrev pub AfterChoicesBy : OpenChoice → (List Sketch → Type 0) → Type 0
  AfterChoicesBy next P = (choices : List Choice) × AreChoicesBy next choices × P (map (sketch_with k) choices)

-- of two sketches the first has the one property, and the second the other
abbrev pub AreTwo : (Sketch → Type 0) → (Sketch → Type 0) → List Sketch → Type 0
AreTwo P Q (k ∷ (j ∷ [])) = P k × Q j
AreTwo P Q ks = ⊥

module _ (q : Question) (mode : Machine) (outcomes : List Outcome) where
  -- the sketch must end as the outcome of this number
  pub record MustEndAsNumber (k : Sketch) (number : ℕ) : Type 0 where
    pub outcome : Outcome
    pub is_outcome : slice_get outcomes number ≡ Some outcome
    pub must_end : MustEndAs q mode k outcome

  -- what a valid tree means: of each consistent completion of the sketch an outcome of the list is shown
  abbrev pub IsCovered : Sketch → Type 0
  IsCovered k = (c : Candidate) → IsConsistentCompletion q.program mode k c → (o : Outcome) × Contains outcomes o × HasShownOutcome q mode c o

module _ (rule : Rule) (q : Question) (mode : Machine) (outcomes : List Outcome) where
  abbrev mutual
    -- The tree is valid at the sketch: a child for each choice of a value, a source or an order, valid after it; a cycle of
    -- known edges; or an outcome as which the sketch must end.
    pub IsValidCoverBy : Cover → Sketch → Type 0
    IsValidCoverBy (Value t children) k = AfterChoicesBy rule q.program mode k (left.Value t) (λ ks. AreValidCoversBy children ks)
    IsValidCoverBy (Source read children) k = AfterChoicesBy rule q.program mode k (left.Source read) (λ ks. AreValidCoversBy children ks)
    IsValidCoverBy (Order first second one other) k = AfterChoicesBy rule q.program mode k (left.Order first second) (AreTwo (λ j. IsValidCoverBy one j) (λ j. IsValidCoverBy other j))
    IsValidCoverBy (Cycle kind events) k = IsKnownCycle q.program mode k kind (map event_of events)
    IsValidCoverBy (Known number) k = MustEndAsNumber q mode outcomes k number

    -- as many trees as sketches, each valid at its own
    pub AreValidCoversBy : Covers → List Sketch → Type 0
    AreValidCoversBy NoCover [] = Unit {0}
    AreValidCoversBy NoCover (k ∷ ks) = ⊥
    AreValidCoversBy (MoreCovers tree trees) [] = ⊥
    AreValidCoversBy (MoreCovers tree trees) (k ∷ ks) = IsValidCoverBy tree k × AreValidCoversBy trees ks

-- the values that are next by the rule of whole sketches
abbrev pub HasNextValues : Listing → Machine → Sketch → ℕ → List ℕ → Type 0
HasNextValues = HasNextValuesBy Whole

abbrev pub HasSources : Listing → Machine → Sketch → Event → List Event → Type 0
HasSources = HasSourcesBy Whole

abbrev pub HasNoOrder : Listing → Machine → Sketch → Event → Event → Type 0
HasNoOrder = HasNoOrderBy Whole

abbrev pub AreValueChoices : Listing → Machine → Sketch → ℕ → List Choice → Type 0
AreValueChoices = AreValueChoicesBy Whole

abbrev pub AreSourceChoices : Listing → Machine → Sketch → AccessId → List Choice → Type 0
AreSourceChoices = AreSourceChoicesBy Whole

abbrev pub AreChoices : Listing → Machine → Sketch → OpenChoice → List Choice → Type 0
AreChoices = AreChoicesBy Whole

abbrev pub AfterChoices : Listing → Machine → Sketch → OpenChoice → (List Sketch → Type 0) → Type 0
AfterChoices = AfterChoicesBy Whole

abbrev pub IsValidCover : Question → Machine → List Outcome → Cover → Sketch → Type 0
IsValidCover = IsValidCoverBy Whole

abbrev pub AreValidCovers : Question → Machine → List Outcome → Covers → List Sketch → Type 0
AreValidCovers = AreValidCoversBy Whole
