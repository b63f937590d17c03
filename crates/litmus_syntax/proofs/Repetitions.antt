-- Lists in which nothing stands twice, by a test for being the same.
use Rattle.litmus_syntax.proofs.Vocabulary.{◌≡◌, ◌≢◌, ◌∙◌, Bool, true, false, List, [], ◌∷◌, ◌++◌, refl, sym, ap, subst, inl, inr, list_any, or_cases, IsNoneOf, NoneTwice, or_parts as neither}

none_more : {X : Type 0} (y : X) (ys : List X) (x : X) → IsNoneOf y ys → y ≢ x → IsNoneOf y (ys ++ x ∷ [])
none_more y [] x h other = (other, tt)
none_more y (z ∷ ys) x h other = (h.0, none_more y ys x h.1 other)

among : {X : Type 0} (y : X) (ys zs : List X) → IsNoneOf y (ys ++ y ∷ zs) → ⊥
among y [] zs h = h.0 refl
among y (x ∷ ys) zs h = among y ys zs h.1

module _ {X : Type 0} (same : X → X → Bool) (is_same : (x y : X) → same x y ≡ true → x ≡ y) (itself : (x : X) → same x x ≡ true) where
  other_than : (x y : X) → same x y ≡ false → y ≢ x
  other_than x y e is = let bad = sym e ∙ ap (same x) is ∙ itself x in cc

  -- what does not stand yet may stand
  pub fresh : (xs : List X) (x : X) → NoneTwice xs → list_any (same x) xs ≡ false → NoneTwice (xs ++ x ∷ [])
  fresh [] x h e = (tt, tt)
  fresh (y ∷ ys) x h e =
      let n = neither (same x y) (list_any (same x) ys) e in
      (none_more y ys x h.0 (other_than x y n.0), fresh ys x h.1 n.1)

  -- what stands may not stand again
  pub twice : (xs zs : List X) (x : X) → list_any (same x) xs ≡ true → NoneTwice (xs ++ x ∷ zs) → ⊥
  twice [] zs x e h = cc
  twice (y ∷ ys) zs x e h =
      elim (or_cases (same x y) (list_any (same x) ys) e) [
        | inl f ↦ among x ys zs (subst (λ (z : X). IsNoneOf z (ys ++ x ∷ zs)) (sym (is_same x y f)) h.0)
        | inr f ↦ twice ys zs x f h.1
      ]
