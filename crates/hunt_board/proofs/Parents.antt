-- Each node of the record but the first is a child of one that was split.
use Rattle.hunt_board.proofs.Vocabulary.{◌≡◌, ◌⊎◌, ℕ, zero, suc, ◌+◌, true≢false, List, [], ◌∷◌, Some, refl, sym, ap, ◌∙◌, subst, inl, inr, length, slice_get, same_Some, none-some, ℕ_discrete, all_sets, Region, Foreign, Entry, Open, Split, SearchState}
use Rattle.search_core.specs.{Children.children, Entries.entry, Entries.is_live, Entries.is_live_status, Histories.IsReached, Histories.starts, Histories.goes_on}
use Rattle.search_core.proofs.Changes.{Change, changed, is_there, stays, was, found, change_of, state_after}

-- the node is the child of this number of one that was split
pub record IsChildAt (es : List Entry) (place : ℕ) (n : Region) : Type 0 where
  pub parent : ℕ
  pub above : Entry
  pub there : slice_get es parent ≡ Some above
  pub run : Foreign
  pub first : ℕ
  pub split : above.status ≡ Split run first
  pub number : ℕ
  pub at : first + number ≡ place
  pub is_child : slice_get (children above.node run.passed) number ≡ Some n

abbrev pub HasParent : List Entry → ℕ → Region → Type 0
HasParent es place n = ((place ≡ 0) × (n ≡ all_sets)) ⊎ IsChildAt es place n

abbrev pub HaveParents : List Entry → Type 0
HaveParents es = (place : ℕ) (e : Entry) → slice_get es place ≡ Some e → HasParent es place e.node

-- each node but the first stays the child of one that was split, and so is each opened one
module _ (es : List Entry) (c : Change es) (parents : HaveParents es) where
  -- a split node stays as it is
  split_stays : (k : ℕ) (p : Entry) (f : Foreign) (first : ℕ) → slice_get es k ≡ Some p → p.status ≡ Split f first → slice_get (changed es c) k ≡ Some p
  split_stays k p f first at split = elim (ℕ_discrete k c.place) [
    | yes here ↦ absurd (true≢false (sym c.live ∙ ap (λ (y : Entry). is_live y) (sym (was es c k p here at)) ∙ ap is_live_status split))
    | no apart ↦ stays es c k p apart at
  ]

  parent_stays : (k : ℕ) (n : Region) → HasParent es k n → HasParent (changed es c) k n
  parent_stays k n (inl root) = inl root
  parent_stays k n (inr d) = inr (record {
    parent = d.parent;
    above = d.above;
    there = split_stays d.parent d.above d.run d.first d.there d.split;
    run = d.run;
    first = d.first;
    split = d.split;
    number = d.number;
    at = d.at;
    is_child = d.is_child;
  })

  parents_stay : HaveParents (changed es c)
  parents_stay j y at = elim (found es c j y at) [
    | inl here ↦ subst (λ (k : ℕ). HasParent (changed es c) k y.node) (sym here.0)
        (subst (HasParent (changed es c) c.place) (sym (ap (λ (z : Entry). z.node) here.1 ∙ c.same)) (parent_stays c.place c.before.node (parents c.place c.before c.there)))
    | inr (inl old) ↦ parent_stays j y.node (parents j y old.1)
    | inr (inr new) ↦ (let (f, split, kid) = c.of_split new.0 y.node new.3 in
        inr (record { parent = c.place; above = c.now; there = is_there es c; run = f; first = length es; split = split; number = new.0; at = new.1; is_child = kid }))
  ]

at_start : HaveParents (entry all_sets 0 Open ∷ [])
at_start zero e at = inl (refl, ap (λ (x : Entry). x.node) (sym (same_Some (entry all_sets 0 Open) e at)))
at_start (suc k) e at = absurd (none-some e at)

pub parents_of : (s : SearchState) → IsReached s → HaveParents s.entries
parents_of s (starts _ is) = subst HaveParents (sym is.only_root) at_start
parents_of after (goes_on s _ seat r seated event) = subst (λ (a : SearchState). HaveParents a.entries) (sym (state_after s after seat event)) (parents_stay s.entries (change_of s after seat event) (parents_of s r))
