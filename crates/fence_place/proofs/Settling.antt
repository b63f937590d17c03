-- A node that is taken and settled: no seat holds one then.
use Rattle.fence_place.proofs.Vocabulary.{◌≡◌, ℕ, true, false, true≢false, Some, refl, sym, ap, ◌∙◌, inl, inr, slice_get, none-some, all_sets, Region, Entry, Status, entry, is_live_status, is_held_status, is_open_status, SearchState, IsDone, HasNoOpen}
use Rattle.fence_place.proofs.Vocabulary.{IsStart, TakesNode, IsSettling, by_cut, by_split, by_confirm, NothingIsHeld, false_from_ne_true, takes, each_one, held_is, found, change_of, settles, state_after}
use Rattle.search_core.specs.declared.entry.Status.{TheVariants.Open, TheVariants.Held}

-- neither open nor held
dead : (status : Status) → (is_open_status status ≡ true → ⊥) → is_held_status status ≡ false → is_live_status status ≡ false
dead Open none held = absurd (none refl)
dead Held none held = absurd cc
dead status none held = refl

-- where nothing is held and nothing is open, the search is done
pub all_done : (s : SearchState) → NothingIsHeld s → HasNoOpen s → IsDone s
all_done s none no_open place e there = dead e.status (λ h. no_open place e.node (record { before = e; there = there; open_there = h; is_node = refl })) (none place e there)

-- the change of a node that is settled: it was held, and is not any more
held_then : (s after : SearchState) (seat : ℕ) (how : IsSettling s after seat) → let c = change_of s after seat (settles s after seat how) in
    (is_held_status c.before.status ≡ true) × (is_held_status c.now.status ≡ false)
held_then s after seat (by_split f u) = (held_is seat u.there.before u.there.held_there, refl)
held_then s after seat (by_cut u) = (held_is seat u.there.before u.there.held_there, refl)
held_then s after seat (by_confirm b u) = (held_is seat u.there.before u.there.held_there, refl)

module _ (s mid : SearchState) (n : Region) (none : NothingIsHeld s) (t : TakesNode s mid 0 n) where
  -- what is held is the taken node
  only_there : (j : ℕ) (e : Entry) → slice_get mid.entries j ≡ Some e → is_held_status e.status ≡ true → j ≡ t.place
  only_there j e at held = elim (found s.entries (change_of s mid 0 (takes n t)) j e (ap (λ (x : SearchState). slice_get x.entries j) (sym (state_after s mid 0 (takes n t))) ∙ at)) [
    | inl here ↦ here.0
    | inr (inl old) ↦ absurd (true≢false (sym held ∙ none j e old.1))
    | inr (inr new) ↦ absurd (none-some e.node new.3)
  ]

  pub none_after : (after : SearchState) → IsSettling mid after 0 → NothingIsHeld after
  none_after after how j e at =
      let event = settles mid after 0 how in
      let c = change_of mid after 0 event in
      let both = held_then mid after 0 how in
      elim (found mid.entries c j e (ap (λ (x : SearchState). slice_get x.entries j) (sym (state_after mid after 0 event)) ∙ at)) [
        | inl here ↦ ap (λ (x : Entry). is_held_status x.status) here.1 ∙ both.1
        | inr (inl old) ↦ false_from_ne_true (is_held_status e.status) (λ held. old.0 (only_there j e old.1 held ∙ sym (only_there c.place c.before c.there both.0)))
        | inr (inr new) ↦ ap (λ (x : Entry). is_held_status x.status) (sym new.2)
      ]

-- at the start nothing is held
pub start_unheld : (s : SearchState) → IsStart s → NothingIsHeld s
start_unheld s is place e at = each_one (λ (x : Entry). is_held_status x.status ≡ false) (entry all_sets 0 Open) refl place e (ap (λ es. slice_get es place) (sym is.only_root) ∙ at)
