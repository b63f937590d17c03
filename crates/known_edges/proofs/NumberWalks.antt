-- Walks from number to number: a walk that comes to an event again holds a round.
use Rattle.known_edges.proofs.Vocabulary.{◌≡◌, ◌≢◌, ◌↔◌, ◌⊎◌, ℕ, List, [], ◌∷◌, ◌++◌, Some, slice_get, get_or, drop, Contains, sym, subst, inl, inr, AllPairs, cases_eq, Contains-append_left, Contains-push, slice_get-get_or, IsIn, RowHas, Event, Initial}
use Rattle.known_edges.proofs.Vocabulary.{AreRelated, HaveEvents, IsRound}
use Rattle.thread_traces.proofs.Walks.{LeadsTo, path_more, path_drop, pairs_drop, round, distinct_more}

-- the event of a number
abbrev pub event_at : List Event → ℕ → Event
event_at events d = get_or events d (Initial 0)

-- a path with no event twice leads to a number whose event is new, and each other number of the row is open or its event on the path
pub record IsWalk (events : List Event) (rows : List ℕ) (row : ℕ) (path : List Event) (d open_numbers : ℕ) : Type 0 where
  pub leads : LeadsTo (AreRelated events rows) path (event_at events d)
  pub distinct : AllPairs (λ x y. x ≢ y) path
  pub is_new : Contains path (event_at events d) → ⊥
  pub here : IsIn row d
  pub is_open : IsIn open_numbers d
  pub covers : (k : ℕ) → IsIn row k → IsIn open_numbers k ⊎ Contains path (event_at events k)

module _ (events : List Event) (rows : List ℕ) (row : ℕ) (path : List Event) (d open_numbers next rest : ℕ) (numbered : HaveEvents events rows) (walk : IsWalk events rows row path d open_numbers)
    (edge : RowHas rows d next) where
  abbrev longer : List Event
  longer = path ++ event_at events d ∷ []

  related : AreRelated events rows (event_at events d) (event_at events next)
  related = let (low, high) = numbered d next edge in (d, next, slice_get-get_or events d (Initial 0) low, slice_get-get_or events next (Initial 0) high, edge)

  -- the walk comes back
  pub comes_back : (i : ℕ) → slice_get longer i ≡ Some (event_at events next) → IsRound events rows (drop i longer)
  comes_back i at = record {
    cycle = round (AreRelated events rows) longer i (event_at events next) at
        (path_drop (AreRelated events rows) longer i (event_at events next) (path_more (AreRelated events rows) path (event_at events d) (event_at events next) walk.leads related));
    distinct = pairs_drop longer i (distinct_more path (event_at events d) walk.distinct walk.is_new);
  }

  -- or goes on
  pub goes_on : IsIn row next → ((k : ℕ) → IsIn rest k ↔ (IsIn open_numbers k × (k ≢ d))) → (Contains longer (event_at events next) → ⊥) → IsWalk events rows row longer next rest
  goes_on there less new = record {
    leads = path_more (AreRelated events rows) path (event_at events d) (event_at events next) walk.leads related;
    distinct = distinct_more path (event_at events d) walk.distinct walk.is_new;
    is_new = new;
    here = there;
    is_open = elim (covers next there) [ inl o ↦ o | inr h ↦ absurd (new h) ];
    covers = covers;
  }
    where
      covers : (k : ℕ) → IsIn row k → IsIn rest k ⊎ Contains longer (event_at events k)
      covers k h = elim (cases_eq k d) [
        | inl same ↦ inr (subst (λ n. Contains longer (event_at events n)) (sym same) (Contains-push path (event_at events d)))
        | inr other ↦ elim (walk.covers k h) [
          | inl o ↦ inl ((less k).1 (o, other))
          | inr c ↦ inr (Contains-append_left path (event_at events d ∷ []) (event_at events k) c)
        ]
      ]
