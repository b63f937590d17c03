use Rattle.search_core.proofs.Vocabulary.{◌≡◌, ℕ, true, false, true≢false, List, Some, IsTrue, refl, sym, ap, ◌∙◌, subst, ◌↔◌, slice_get, Region, Entry, is_open, IsOpenAt}
use Rattle.search_core.proofs.tree.SearchTree.has_no_open.Goals as goal

-- no entry is open, so no node is
no_node : (es : List Entry) → ((place : ℕ) (e : Entry) → slice_get es place ≡ Some e → is_open e ≡ false) → (place : ℕ) (n : Region) → ¬ IsOpenAt es place n
no_node es none place n at = true≢false (sym at.open_there ∙ none place at.before at.there)

-- no node is open, so no entry is
no_entry : (es : List Entry) → ((place : ℕ) (n : Region) → ¬ IsOpenAt es place n) → (place : ℕ) (e : Entry) → slice_get es place ≡ Some e → is_open e ≡ false
no_entry es none place e there = by_test (is_open e) refl
  where
    by_test : (b : _) → is_open e ≡ b → is_open e ≡ false
    by_test true is = absurd (none place e.node (record { before = e; there = there; open_there = is; is_node = refl }))
    by_test false is = is

pub returns : goal.returns
returns c =
    let e = c.deref.ensures.value ∙ ap (λ s. s.entries) c.self.view_is in
    subst (λ (es : List Entry). IsTrue c.none_open.result ↔ ((place : ℕ) (n : Region) → ¬ IsOpenAt es place n)) e
    ((λ t. no_node c.deref.result.now (c.none_open.ensures.0 t)), (λ none. c.none_open.ensures.1 (no_entry c.deref.result.now none)))
