-- A seat holds one node at most.
use Rattle.search_core.proofs.Vocabulary.{◌≡◌, ◌⊎◌, ℕ, ◌==◌, true, true≢false, List, sym, ◌∙◌, subst, inl, inr, arith, refl, ap, slice_get, same_Some, nat_tests, all_sets, Region, Entry, Open, Held, entry, is_held_by, SearchState, IsHeldAt, HoldsOnly}
use Rattle.search_core.proofs.Vocabulary.{TakesNode, IsEvent, takes, IsReached, starts, goes_on, ASeatHoldsOneNode}
use Rattle.search_core.proofs.{Places.each_one, Places.get_here, Changes.Change, Changes.changed, Changes.found, Changes.change_of, Changes.state_after}

-- each seat holds its nodes at one place
abbrev AtOnePlace : List Entry → Type 0
AtOnePlace es = (seat place other : ℕ) (n m : Region) → IsHeldAt es seat place n → IsHeldAt es seat other m → place ≡ other

-- what is held was held, or is the changed node
module _ (es : List Entry) (c : Change es) where
  held_before : (seat j : ℕ) (n : Region) → IsHeldAt (changed es c) seat j n → ((j ≡ c.place) × (is_held_by seat c.now ≡ true)) ⊎ IsHeldAt es seat j n
  held_before seat j n h = elim (found es c j h.before h.there) [
    | inl here ↦ inl (here.0, subst (λ (e : Entry). is_held_by seat e ≡ true) here.1 h.held_there)
    | inr (inl old) ↦ inr (record { before = h.before; there = old.1; held_there = h.held_there; is_node = h.is_node })
    | inr (inr new) ↦ absurd (true≢false (sym h.held_there ∙ ap (is_held_by seat) (sym new.2)))
  ]

  -- where the seat that holds the changed node held none before
  still_one : ((seat place : ℕ) (n : Region) → is_held_by seat c.now ≡ true → ¬ IsHeldAt es seat place n) → AtOnePlace es → AtOnePlace (changed es c)
  still_one free one seat j k n m h i = elim (held_before seat j n h) [
    | inl here ↦ elim (held_before seat k m i) [ inl there ↦ here.0 ∙ sym there.0 | inr old ↦ absurd (free seat k m here.1 old) ]
    | inr old ↦ elim (held_before seat k m i) [ inl there ↦ absurd (free seat j n there.1 old) | inr too ↦ one seat j k n m old too ]
  ]

same_seat : (seat other : ℕ) (n : Region) → is_held_by other (entry n seat Held) ≡ true → seat ≡ other
same_seat seat other n h = let q : (seat == other) ≡ true = h in grind (arith, nat_tests)

-- it is so of each event
free_before : (s after : SearchState) (seat : ℕ) (event : IsEvent s after seat) (other place : ℕ) (n : Region) → is_held_by other (change_of s after seat event).now ≡ true → ¬ IsHeldAt s.entries other place n
free_before s after seat (takes n t) other place m is held = t.free m (place, subst (λ (k : ℕ). IsHeldAt s.entries k place m) (sym (same_seat seat other n is)) held)
free_before s after seat event other place m is held = cc

one_place : (s : SearchState) → IsReached s → AtOnePlace s.entries
one_place s (starts _ is) = subst AtOnePlace (sym is.only_root) (λ seat place other n m h i. absurd (each_one (λ e. is_held_by seat e ≡ true → ⊥) (entry all_sets 0 Open) (λ is. cc) place h.before h.there h.held_there))
one_place after (goes_on s _ seat r seated event) =
    subst (λ (a : SearchState). AtOnePlace a.entries) (sym (state_after s after seat event)) (still_one s.entries (change_of s after seat event) (free_before s after seat event) (one_place s r))

pub one_node : ASeatHoldsOneNode
one_node s seat place other n m r = one_place s r seat place other n m

-- what a seat holds is the only node that it holds
pub only_node : (s : SearchState) (seat place : ℕ) (n : Region) → IsReached s → IsHeldAt s.entries seat place n → HoldsOnly s seat n
only_node s seat place n r here = record {
  held = (place, here);
  only = λ m held.
      (let at : held.0 ≡ place = one_node s seat held.0 place m n r held.1 here in
      let same : held.1.before ≡ here.before = same_Some held.1.before here.before (sym held.1.there ∙ ap (slice_get s.entries) at ∙ here.there) in
      sym held.1.is_node ∙ ap (λ (e : Entry). e.node) same ∙ here.is_node);
}

-- so a seat holds what it takes
pub taken_only : (s after : SearchState) (seat : ℕ) (n : Region) → IsReached after → TakesNode s after seat n → HoldsOnly after seat n
taken_only s after seat n r t =
    let itself : (seat == seat) ≡ true = grind (arith, nat_tests) in
    only_node after seat t.place n r (record {
      before = entry n seat Held;
      there = ap (λ (u : SearchState). slice_get u.entries t.place) t.is_after ∙ get_here s.entries t.place t.there.before (entry n seat Held) t.there.there;
      held_there = itself;
      is_node = refl;
    })
