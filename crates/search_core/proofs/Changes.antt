-- What stays where a live node changes its status and nodes are opened after the entries.
use Rattle.search_core.proofs.Vocabulary.{◌≡◌, ◌≢◌, ◌⊎◌, ◌==◌, ℕ, ◌+◌, ◌<◌, true, List, [], ◌∷◌, ◌++◌, Option, Some, zero, suc, refl, sym, ap, ◌∙◌, subst, inl, inr, length, set, slice_get, slice_get-map, same_Some, none-some, length-set, append-nil, and_parts}
use Rattle.search_core.proofs.Vocabulary.{SetOfGaps, IsInRegion, Region, Question, Foreign, Serving, IsForeignValue, PassesNoneOf, Entry, Status, Open, Held, Split, Cut, Confirmed, children, entry, is_live, is_live_status, is_open_status, is_held_status}
use Rattle.search_core.proofs.Vocabulary.{is_held_by, open_entries, IsLive, SearchState, IsHeldAt, IsEvent, takes, gives_back, splits, cuts, confirms, IsSettling, by_split, by_cut, by_confirm, option_map}
use native.Mathlib.Decide.{ℕ_discrete}
use Rattle.search_core.proofs.Places.{get_here, get_else, get_longer, get_behind, get_either, get_old, Each}

-- at the place stands the node
pub record HasNode (es : List Entry) (place : ℕ) (n : Region) : Type 0 where
  pub here : Entry
  pub there : slice_get es place ≡ Some here
  pub is_node : here.node ≡ n

-- the node is split by a foreign run of the question, and its children stand from a later place on
pub record IsSplitAt (q : Question) (es : List Entry) (place : ℕ) (n : Region) (f : Foreign) (first : ℕ) : Type 0 where
  pub of_question : f.question ≡ q
  pub foreign : IsForeignValue f
  pub passes_none : PassesNoneOf n.must f
  pub later : place < first
  pub kids : (j : ℕ) (c : Region) → slice_get (children n f.passed) j ≡ Some c → HasNode es (first + j) c

-- so it is where the status says that it is split
abbrev pub IsSplitAs : Question → List Entry → ℕ → Region → Status → Type 0
IsSplitAs q es place n (Split f first) = IsSplitAt q es place n f first
IsSplitAs q es place n status = Unit {0}

-- so it is with each split node
abbrev pub SplitsHold : Question → List Entry → Type 0
SplitsHold q es = (place : ℕ) (e : Entry) (f : Foreign) (first : ℕ) → slice_get es place ≡ Some e → e.status ≡ Split f first → IsSplitAt q es place e.node f first

-- what a seat holds is held
pub held_is : (seat : ℕ) (e : Entry) → is_held_by seat e ≡ true → is_held_status e.status ≡ true
held_is seat e h = (and_parts (is_held_status e.status) (e.seat == seat) h).0

pub held_live : (status : Status) → is_held_status status ≡ true → is_live_status status ≡ true
held_live Held h = refl
held_live status h = absurd cc

pub open_live : (status : Status) → is_open_status status ≡ true → is_live_status status ≡ true
open_live Open h = refl
open_live status h = absurd cc

-- nodes that are opened are open, and at their places
pub get_opened : (seat : ℕ) (ns : List Region) (k : ℕ) (y : Entry) → slice_get (open_entries seat ns) k ≡ Some y → (entry y.node seat Open ≡ y) × (slice_get ns k ≡ Some y.node)
get_opened seat [] k y e = absurd (none-some y e)
get_opened seat (n ∷ ns) zero y e = let is = same_Some (entry n seat Open) y e in (ap (λ (x : Entry). entry x.node seat Open) (sym is) ∙ is, ap (λ (x : Entry). Some x.node) is)
get_opened seat (n ∷ ns) (suc k) y e = get_opened seat ns k y e

-- a live node gets another status, and nodes are opened: its children, where a run has split it
pub record Change (es : List Entry) : Type 0 where
  pub place : ℕ
  pub before : Entry
  pub there : slice_get es place ≡ Some before
  pub live : is_live before ≡ true
  pub now : Entry
  pub same : now.node ≡ before.node
  pub seat : ℕ
  pub opened : List Region
  pub of_split : (j : ℕ) (n : Region) → slice_get opened j ≡ Some n → (f : Foreign) × (now.status ≡ Split f (length es)) × (slice_get (children now.node f.passed) j ≡ Some n)

module _ (es : List Entry) (c : Change es) where
  -- the entries after it
  abbrev pub changed : List Entry
  changed = set es c.place c.now ++ open_entries c.seat c.opened

  -- the changed node is there
  pub is_there : slice_get changed c.place ≡ Some c.now
  is_there = get_longer (set es c.place c.now) (open_entries c.seat c.opened) c.place c.now (get_here es c.place c.before c.now c.there)

  -- the other entries stay
  pub stays : (j : ℕ) (y : Entry) → j ≢ c.place → slice_get es j ≡ Some y → slice_get changed j ≡ Some y
  stays j y apart at = get_longer (set es c.place c.now) (open_entries c.seat c.opened) j y (get_else es c.place j c.now apart ∙ at)

  -- what stood at its place
  pub was : (j : ℕ) (y : Entry) → j ≡ c.place → slice_get es j ≡ Some y → y ≡ c.before
  was j y here at = same_Some y c.before (sym at ∙ ap (slice_get es) here ∙ c.there)

  -- the opened nodes follow the entries
  pub follows : (j : ℕ) (n : Region) → slice_get c.opened j ≡ Some n → slice_get changed (length es + j) ≡ Some (entry n c.seat Open)
  follows j n e =
      ap (λ l. slice_get changed (l + j)) (sym (length-set es c.place c.now)) ∙ get_behind (set es c.place c.now) (open_entries c.seat c.opened) j
      ∙ slice_get-map (λ m. entry m c.seat Open) c.opened j ∙ ap (option_map (λ m. entry m c.seat Open)) e

  -- what stands at a place: the changed node, what stood there, or a node that was opened
  pub found : (j : ℕ) (y : Entry) → slice_get changed j ≡ Some y →
      ((j ≡ c.place) × (y ≡ c.now)) ⊎ ((j ≢ c.place) × (slice_get es j ≡ Some y)) ⊎ ((k : ℕ) × (length es + k ≡ j) × (entry y.node c.seat Open ≡ y) × (slice_get c.opened k ≡ Some y.node))
  found j y at = elim (get_either (set es c.place c.now) (open_entries c.seat c.opened) j y at) [
    | inl front ↦ elim (get_old es c.place j c.now y front) [ inl here ↦ inl here | inr old ↦ inr (inl old) ]
    | inr new ↦ (let is = get_opened c.seat c.opened new.0 y new.1 in inr (inr (new.0, ap (λ (l : ℕ). l + new.0) (sym (length-set es c.place c.now)) ∙ new.2, is.0, is.1)))
  ]

  pub each_changed : (P : Entry → Type 0) → Each P es → P c.now → ((k : ℕ) (n : Region) → slice_get c.opened k ≡ Some n → P (entry n c.seat Open)) → Each P changed
  each_changed P each now opened j y at = elim (found j y at) [
    | inl here ↦ subst P (sym here.1) now
    | inr (inl old) ↦ each j y old.1
    | inr (inr new) ↦ subst P new.2 (opened new.0 y.node new.3)
  ]

  -- nodes never move
  pub node_stays : (j : ℕ) (n : Region) → HasNode es j n → HasNode changed j n
  node_stays j n has = elim (ℕ_discrete j c.place) [
    | yes at ↦ record { here = c.now; there = ap (slice_get changed) at ∙ is_there; is_node = c.same ∙ ap (λ (y : Entry). y.node) (sym (was j has.here at has.there)) ∙ has.is_node }
    | no apart ↦ record { here = has.here; there = stays j has.here apart has.there; is_node = has.is_node }
  ]

  -- a set stays in a live node's region, or was in that of the changed one
  pub moved : (A : Type 0) (gaps : SetOfGaps) → (IsInRegion c.now.node gaps → A) → (IsLive changed gaps → A) → IsLive es gaps → A
  moved A gaps at_change stay l = elim (ℕ_discrete l.place c.place) [
    | yes here ↦ at_change (subst (λ (n : Region). IsInRegion n gaps) (ap (λ (y : Entry). y.node) (was l.place l.entry here l.there) ∙ sym c.same) l.inside)
    | no apart ↦ stay (record { place = l.place; entry = l.entry; there = stays l.place l.entry apart l.there; live = l.live; inside = l.inside })
  ]

  -- each split node keeps its children
  pub splits_stay : (q : Question) → SplitsHold q es → IsSplitAs q changed c.place c.now.node c.now.status → SplitsHold q changed
  splits_stay q hold now j y f first at is = elim (found j y at) [
    | inl here ↦ subst (λ (k : ℕ). IsSplitAt q changed k y.node f first) (sym here.0)
        (subst (IsSplitAs q changed c.place y.node) is (subst (λ (z : Entry). IsSplitAs q changed c.place z.node z.status) (sym here.1) now))
    | inr (inl old) ↦ (let before = hold j y f first old.1 is in
        record {
          of_question = before.of_question;
          foreign = before.foreign;
          passes_none = before.passes_none;
          later = before.later;
          kids = λ k n h. node_stays (first + k) n (before.kids k n h);
        })
    | inr (inr new) ↦ absurd (let no : Open ≡ Split f first = ap (λ (x : Entry). x.status) new.2 ∙ is in cc)
  ]

-- the node gets this status, and none is opened
abbrev pub change_to : (es : List Entry) (seat place : ℕ) (before : Entry) → slice_get es place ≡ Some before → is_live before ≡ true → (n : Region) → before.node ≡ n → Status → Change es
change_to es seat place before there live n is_node status = record {
  place = place;
  before = before;
  there = there;
  live = live;
  now = entry n seat status;
  same = sym is_node;
  seat = seat;
  opened = [];
  of_split = λ j m e. absurd (none-some m e);
}

-- so does the node that the seat holds
abbrev pub change_held : (es : List Entry) (seat place : ℕ) (n : Region) → IsHeldAt es seat place n → Status → Change es
change_held es seat place n held status = change_to es seat place held.before held.there (held_live held.before.status (held_is seat held.before held.held_there)) n held.is_node status

module _ (s after : SearchState) (seat : ℕ) where
  -- each event changes one node
  abbrev pub change_of : IsEvent s after seat → Change s.entries
  change_of (takes n t) = change_to s.entries seat t.place t.there.before t.there.there (open_live t.there.before.status t.there.open_there) n t.there.is_node Held
  change_of (gives_back t) = change_held s.entries seat t.place t.node t.there Open
  change_of (splits f t) = record (change_held s.entries seat t.place t.node t.there (Split f (length s.entries))) { opened = children t.node f.passed; of_split = λ j n e. (f, refl, e) }
  change_of (cuts t) = change_held s.entries seat t.place t.node t.there Cut
  change_of (confirms b t) = change_held s.entries seat t.place t.node t.there Confirmed

  -- and may change the best set
  abbrev pub best_of : IsEvent s after seat → Option Serving
  best_of (confirms b t) = t.best
  best_of event = s.best

  none_opened : (es : List Entry) (best : Option Serving) → after ≡ record s { entries = es; best = best } → after ≡ record s { entries = es ++ []; best = best }
  none_opened es best is = is ∙ ap (λ l. record s { entries = l; best = best }) (sym (append-nil es))

  pub state_after : (event : IsEvent s after seat) → after ≡ record s { entries = changed s.entries (change_of event); best = best_of event }
  state_after (takes n t) = none_opened _ s.best t.is_after
  state_after (gives_back t) = none_opened _ s.best t.is_after
  state_after (splits f t) = t.is_after
  state_after (cuts t) = none_opened _ s.best t.is_after
  state_after (confirms b t) = none_opened _ t.best t.is_after

-- what settles a node is an event
abbrev pub settles : (s after : SearchState) (seat : ℕ) → IsSettling s after seat → IsEvent s after seat
settles s after seat (by_split f t) = splits f t
settles s after seat (by_cut t) = cuts t
settles s after seat (by_confirm b t) = confirms b t
