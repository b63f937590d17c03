-- Runs that are distinct, one after the other.
use Rattle.fence_place.proofs.Vocabulary.{◌≡◌, ◌≢◌, ◌++◌, ◌∷◌, ◌∙◌, ◌<◌, ℕ, Some, [], List, ap, append_assoc, slice_get, slice_get_within, get_or_from_slice_get, Contains, length, length-append, sym, subst, arith, get_or, Contains-get_or, Label, AreDistinct}
use Rattle.std.proofs.lemmas.List.{get_or_append_left}
use Rattle.std.proofs.lemmas.List.Quantifiers.{all_pairs_push}
use Rattle.std.proofs.Math.Seq.{get_or-append_seam}

module _ (seen rest : List (List Label)) (labels : List Label) where
  pub one_more : AreDistinct seen → (Contains seen labels → ⊥) → AreDistinct (seen ++ labels ∷ [])
  one_more once fresh = all_pairs_push (λ a b. a ≢ b) seen labels once (λ k d within is. fresh (subst (Contains seen) is (Contains-get_or seen k d within)))

  -- a run that is there already stands twice then
  pub twice : Contains seen labels → AreDistinct (seen ++ labels ∷ rest) → ⊥
  twice (k, within, is) distinct =
      let at_seam : get_or (seen ++ labels ∷ rest) (length seen) labels ≡ labels = get_or-append_seam seen labels rest labels in
      let earlier : get_or (seen ++ labels ∷ rest) k labels ≡ labels = get_or_append_left seen (labels ∷ rest) labels k within ∙ is in
      let there : length seen < length (seen ++ labels ∷ rest) = omega (arith, length-append seen (labels ∷ rest)) in
      distinct k (length seen) labels within there (earlier ∙ sym at_seam)

  module _ (iterator runs : List (List Label)) (all : seen ++ iterator ≡ runs) (steps : iterator ≡ labels ∷ rest) where
    here : seen ++ labels ∷ rest ≡ runs
    here = ap (λ (left : List (List Label)). seen ++ left) (sym steps) ∙ all

    pub not_distinct : (number : ℕ) → slice_get seen number ≡ Some labels → AreDistinct runs → ⊥
    not_distinct number at distinct =
        twice (number, slice_get_within seen number labels at, get_or_from_slice_get seen number labels labels at) (subst AreDistinct (sym here) distinct)

    -- one run more is gone through
    pub still_all : (more : List (List Label)) → more ≡ seen ++ labels ∷ [] → more ++ rest ≡ runs
    still_all more is = ap (λ (front : List (List Label)). front ++ rest) is ∙ append_assoc seen (labels ∷ []) rest ∙ here
