-- The walk through the record of a search.
use Rattle.hunt_board.proofs.Vocabulary.{◌≡◌, ℕ, zero, suc, ◌+◌, ◌<◌, List, [], ◌∷◌, Option, Some, None, refl, sym, ap, ◌∙◌, subst, arith, length, slice_get, same_Some, slice_get_within, SetOfGaps, open_gaps, child_regions, with_gap, without_gap, Region}
use Rattle.hunt_board.proofs.Vocabulary.{Foreign, Entry, Status, Settled, facts_of, Outcome, finished_state, IsOutcome, IsEventOf, IsSettledAs, IsFirstChild, SettledEvent}
use Rattle.search_core.specs.declared.entry.Status.TheVariants as status
use Rattle.search_core.specs.declared.finished.SettledEvent.TheVariants as event

-- where no number is found
pub none_there : (found : Option ℕ) → ((x : ℕ) → found ≡ Some x → ⊥) → found ≡ None
none_there None none = refl
none_there (Some x) none = absurd (none x refl)

-- a node has a child for each gap
kid_there : (n : Region) (gaps : List ℕ) (i : ℕ) → i < length gaps → (c : Region) × (slice_get (child_regions n gaps) i ≡ Some c)
kid_there n [] i h = absurd (omega arith)
kid_there n (gap ∷ gaps) zero h = (with_gap n gap, refl)
kid_there n (gap ∷ gaps) (suc i) h = kid_there (without_gap n gap) gaps i (omega arith)

-- the children of a split node stand after it in the record
pub kids_there : (o : Outcome) → IsOutcome o → (place first number : ℕ) (e : Entry) (f : Foreign) → slice_get o.entries place ≡ Some e → e.status ≡ status.Split f first →
    number < length (open_gaps f.passed e.node.never) → (place < first + number) × (first + number < length o.entries)
kids_there o is place first number e f there split h =
    let at = (facts_of (finished_state o) is.reached).split place e f first there split in
    let kid = kid_there e.node (open_gaps f.passed e.node.never) number h in
    let has = at.kids number kid.0 kid.1 in
    let later : place < first = at.later in (
      omega arith,
      slice_get_within o.entries (first + number) has.here has.there,
    )

-- the record of a split says which run it was
pub split_event : (s : Status) (v : SettledEvent) (run : _) → v ≡ event.Split run → IsEventOf s v → (f : Foreign) × (first : ℕ) × (s ≡ status.Split f first) × (run.now ≡ f)
split_event s v run e h = by_status s (subst (λ (u : SettledEvent). IsEventOf s u) e h)
  where
    by_status : (t : Status) → IsEventOf t (event.Split run) → (f : Foreign) × (first : ℕ) × (t ≡ status.Split f first) × (run.now ≡ f)
    by_status (status.Split f first) h = (f, first, refl, h)
    by_status t h = absurd h

-- a split node's run
abbrev run_of : Foreign → Status → Foreign
run_of f (status.Split run first) = run
run_of f h = f

module _ (o : Outcome) (place : ℕ) (settled : Settled) (run : _) (is_split : settled.event ≡ event.Split run)
    (found : (e : Entry) × (slice_get o.entries place ≡ Some e) × IsSettledAs e settled) where
  -- it has a first child
  pub has_first : (first : ℕ) × IsFirstChild o.entries place first
  has_first = let said = split_event found.0.status settled.event run is_split found.2.is_event in (said.1, (found.0, found.1, said.0, said.2))

  -- the child of this number stands after it
  pub child_there : IsOutcome o → (first number : ℕ) (passed : SetOfGaps) → IsFirstChild o.entries place first → passed ≡ run.now.passed →
      number < length (open_gaps passed settled.node.never) → (place < first + number) × (first + number < length o.entries)
  child_there is first number passed (e, there, f, split) are h =
      let said = split_event found.0.status settled.event run is_split found.2.is_event in
      let same : found.0 ≡ e = same_Some found.0 e (sym found.1 ∙ there) in
      let runs : said.0 ≡ f = ap (run_of said.0) (sym said.2 ∙ ap (λ (x : Entry). x.status) same ∙ split) in
      let gaps : passed ≡ f.passed = are ∙ ap (λ (x : Foreign). x.passed) (said.3 ∙ runs) in
      let never : settled.node.never ≡ e.node.never = ap (λ (n : Region). n.never) (found.2.same_node ∙ ap (λ (x : Entry). x.node) same) in
      kids_there o is place first number e f there split (subst (λ (l : List ℕ). number < length l) (ap (λ (g : SetOfGaps). open_gaps g settled.node.never) gaps ∙ ap (open_gaps f.passed) never) h)
