-- What the record says of each node, and the runs of its splits.
use Rattle.fence_place.proofs.Vocabulary.{◌≡◌, ◌≢◌, ◌⊎◌, Contains, ℕ, zero, suc, ◌+◌, ◌<◌, true, List, [], ◌∷◌, ◌++◌, Some, length, refl, sym, ap, ◌∙◌, subst, inl, inr, arith, Contains-get_or, each_one, get_either, slice_get, same_Some, slice_get_within}
use Rattle.fence_place.proofs.Vocabulary.{open_gaps, Label, Gap, gap_trees_of, Foreign, Entry, Status, SettledEvent, facts_of, is_closed_status, Outcome, finished_state, IsOutcome, IsEventOf, IsSettledAs, IsFirstChild, get_longer, get_behind, AreNumbersOf}
use Rattle.fence_place.proofs.Vocabulary.{AreSplitRuns, AreDistinct, ListsRun, is_there, is_new, ListsEvent, IsRecorded, AreRecorded}
use Rattle.std.proofs.lemmas.List.Quantifiers.{all_pairs_push}
use Rattle.search_core.specs.declared.entry.Status.TheVariants as status
use Rattle.search_core.specs.declared.finished.SettledEvent.TheVariants as event
use Rattle.search_core.specs.declared.finished.Settled.{Settled}
use Rattle.hunt_board.proofs.Walks as walks
pub use Rattle.hunt_board.proofs.Walks.{split_event}

-- any other says that the node is closed
pub other_event : (s : Status) (v : SettledEvent) → ((run : _) → v ≡ event.Split run → ⊥) → IsEventOf s v → is_closed_status s ≡ true
other_event (status.Split f first) (event.Split run) other h = absurd (other run refl)
other_event status.Cut v other h = refl
other_event status.Confirmed v other h = refl
other_event s v other h = absurd h

-- in the front, or the last
get_last : {A : Type 0} (l : List A) (x : A) (k : ℕ) (a : A) → slice_get (l ++ x ∷ []) k ≡ Some a → (slice_get l k ≡ Some a) ⊎ ((k ≡ length l) × (x ≡ a))
get_last l x k a e = elim (get_either l (x ∷ []) k a e) [
  | inl front ↦ inl front
  | inr last ↦ inr ((let within = slice_get_within (x ∷ []) last.0 a last.1 in let at = last.2 in omega arith), each_one (λ y. x ≡ y) x refl last.0 a last.1)
]

-- where the children of a split node stand
pub kids_there : (o : Outcome) → IsOutcome o → (place first : ℕ) (e : Entry) (f : Foreign) → slice_get o.entries place ≡ Some e → e.status ≡ status.Split f first →
    (place < first) × ((i : ℕ) → i < length (open_gaps f.passed e.node.never) → first + i < length o.entries)
kids_there o is place first e f there split = (
  ((facts_of (finished_state o) is.reached).split place e f first there split).later,
  λ i h. (walks.kids_there o is place first i e f there split h).1,
)

-- one tree more
pub recorded_more : (entries : List Entry) (runs : List (List Label)) (ts : List Gap) (t : Gap) (first i : ℕ) → AreRecorded entries runs (gap_trees_of ts) first i → IsRecorded entries runs t (first + i) →
    AreRecorded entries runs (gap_trees_of (ts ++ t ∷ [])) first (i + 1)
recorded_more entries runs [] t first zero so h = (subst (IsRecorded entries runs t) (omega arith) h, tt)
recorded_more entries runs (x ∷ xs) t first (suc i) so h =
    let e : suc i + 1 ≡ suc (i + 1) = omega arith in
    subst (λ n. AreRecorded entries runs (gap_trees_of (x ∷ xs ++ t ∷ [])) first n) (sym e)
    (so.0, recorded_more entries runs xs t (first + 1) i so.1 (subst (IsRecorded entries runs t) (omega arith) h))
recorded_more entries runs ts t first i so h = absurd so

module _ (labels : List Label) (number : ℕ) (runs after : List (List Label)) where
  -- the runs so far stay
  stays : ListsRun labels number runs after → (k : ℕ) (l : List Label) → slice_get runs k ≡ Some l → slice_get after k ≡ Some l
  stays (is_there at same) k l h = subst (λ (r : List (List Label)). slice_get r k ≡ Some l) (sym same) h
  stays (is_new fresh last same) k l h = subst (λ (r : List (List Label)). slice_get r k ≡ Some l) (sym same) (get_longer runs (labels ∷ []) k l h)

  -- the run has its number
  has_number : ListsRun labels number runs after → slice_get after number ≡ Some labels
  has_number (is_there at same) = subst (λ (r : List (List Label)). slice_get r number ≡ Some labels) (sym same) at
  has_number (is_new fresh last same) =
      let behind : number ≡ length runs + 0 = omega arith in
      subst (λ (r : List (List Label)). slice_get r number ≡ Some labels) (sym same) (ap (slice_get (runs ++ labels ∷ [])) behind ∙ get_behind runs (labels ∷ []) 0)

  -- no other is new
  no_other : ListsRun labels number runs after → (k : ℕ) (l : List Label) → slice_get after k ≡ Some l → (slice_get runs k ≡ Some l) ⊎ (labels ≡ l)
  no_other (is_there at same) k l h = inl (subst (λ (r : List (List Label)). slice_get r k ≡ Some l) same h)
  no_other (is_new fresh last same) k l h =
      elim (get_last runs labels k l (subst (λ (r : List (List Label)). slice_get r k ≡ Some l) same h)) [ inl old ↦ inl old | inr new ↦ inr new.1 ]

  -- none is there twice
  once_more : ListsRun labels number runs after → AreDistinct runs → AreDistinct after
  once_more (is_there at same) once = subst AreDistinct (sym same) once
  once_more (is_new fresh last same) once =
      subst AreDistinct (sym same) (all_pairs_push (λ a b. a ≢ b) runs labels once (λ k d within is. fresh (subst (Contains runs) is (Contains-get_or runs k d within))))

pub still_distinct : (v : SettledEvent) (number : ℕ) (runs after : List (List Label)) → ListsEvent v number runs after → AreDistinct runs → AreDistinct after
still_distinct (event.Split run) number runs after h once = once_more run.now.labels number runs after h once
still_distinct v number runs after h once = subst AreDistinct (sym h) once

module _ (entries : List Entry) (runs after : List (List Label)) (numbers : List ℕ) (number : ℕ) (e : Entry) (settled : Settled) (there : slice_get entries (length numbers) ≡ Some e) (is : IsSettledAs e settled)
    (listed : ListsEvent settled.event number runs after) where
  event_stays : (v : SettledEvent) → ListsEvent v number runs after → (k : ℕ) (l : List Label) → slice_get runs k ≡ Some l → slice_get after k ≡ Some l
  event_stays (event.Split run) h k l at = stays run.now.labels number runs after h k l at
  event_stays v h k l at = subst (λ (r : List (List Label)). slice_get r k ≡ Some l) (sym h) at

  here_now : (s : Status) (v : SettledEvent) → ListsEvent v number runs after → IsEventOf s v → (f : Foreign) (first : ℕ) → s ≡ status.Split f first → slice_get after number ≡ Some f.labels
  here_now s (event.Split run) lists h f first split = let g : run.now ≡ f = subst (λ (t : Status). IsEventOf t (event.Split run)) split h in
      has_number run.now.labels number runs after lists ∙ ap (λ (x : Foreign). Some x.labels) g
  here_now s v lists h f first split = absurd (subst (λ (t : Status). IsEventOf t v) split h)

  pub numbered_more : AreNumbersOf entries runs numbers → AreNumbersOf entries after (numbers ++ number ∷ [])
  numbered_more so place k at = elim (get_last numbers number place k at) [
    | inl old ↦ record { runs_at = λ x f first h split. event_stays settled.event listed k f.labels ((so place k old).runs_at x f first h split) }
    | inr new ↦ record {
      runs_at = λ x f first h split. (let same : e ≡ x = same_Some e x (sym there ∙ ap (slice_get entries) (sym new.0) ∙ h) in
          subst (λ n. slice_get after n ≡ Some f.labels) new.1 (here_now e.status settled.event listed is.is_event f first (ap (λ (y : Entry). y.status) same ∙ split)));
    }
  ]

  pub of_nodes_more : AreSplitRuns entries runs → AreSplitRuns entries after
  of_nodes_more so = by_event settled.event listed is.is_event
    where
      by_event : (v : SettledEvent) → ListsEvent v number runs after → IsEventOf e.status v → AreSplitRuns entries after
      by_event (event.Split run) lists h = λ k labels at. elim (no_other run.now.labels number runs after lists k labels at) [
        | inl old ↦ so k labels old
        | inr new ↦ (let s = split_event e.status (event.Split run) run refl h in
            (length numbers, e, s.0, s.1, there, s.2, ap (λ (g : Foreign). g.labels) (sym s.3) ∙ new))
      ]
      by_event v lists h = subst (AreSplitRuns entries) (sym lists) so

-- what the readers say of a split node
pub split_facts : (o : Outcome) (place first : ℕ) (settled : Settled) (run : _) → (x : Entry) × (slice_get o.entries place ≡ Some x) × IsSettledAs x settled → settled.event ≡ event.Split run → IsFirstChild o.entries place first →
    (e : Entry) × (f : Foreign) × (slice_get o.entries place ≡ Some e) × (e.status ≡ status.Split f first) × (run.now ≡ f) × (settled.node ≡ e.node)
split_facts o place first settled run (e, there, is) split (e2, there2, f2, status2) =
    let s = split_event e.status settled.event run split is.is_event in
    let same : e2 ≡ e = same_Some e2 e (sym there2 ∙ there) in
    let both : status.Split s.0 s.1 ≡ status.Split f2 first = sym s.2 ∙ ap (λ (x : Entry). x.status) (sym same) ∙ status2 in
    let at : s.1 ≡ first = cc in
    (e, s.0, there, s.2 ∙ ap (status.Split s.0) at, s.3, is.same_node)
