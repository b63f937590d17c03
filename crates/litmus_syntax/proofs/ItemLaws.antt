-- Lists of items that are read one after another.
use Rattle.litmus_syntax.proofs.Vocabulary.{◌≡◌, ◌∙◌, sym, ap, subst, refl, List, [], ◌∷◌, ◌++◌, append_assoc, Option, Some, None, append-nil, Tok, ◌▸◌, Items, end, item, same_Some}

-- a value begins the tokens, and nothing else does
abbrev pub Only : {X : Type 0} → (X → List Tok → List Tok → Type 0) → X → List Tok → List Tok → Type 0
Only {X} Item x ts rest = Item x ts rest × ((y : X) (other : List Tok) → Item y ts other → (y ≡ x) × (other ≡ rest))

-- what a function reads is what a phrase says
pub record IsRead {X : Type 0} (Item : X → List Tok → List Tok → Type 0) (item_at : List Tok → Option (X × List Tok)) : Type 0 where
  pub takes : (ts : List Tok) (x : X × List Tok) → item_at ts ≡ Some x → Item x.0 ts x.1
  pub again : (x : X) (ts rest : List Tok) → Item x ts rest → item_at ts ≡ Some (x, rest)

abbrev pub pair_of : {X : Type 0} → X → List Tok → X × List Tok
pair_of x ts = (x, ts)

pub only_read : {X : Type 0} (Item : X → List Tok → List Tok → Type 0) (item_at : List Tok → Option (X × List Tok)) → IsRead Item item_at
    → (ts : List Tok) (x : X × List Tok) → item_at ts ≡ Some x → Only Item x.0 ts x.1
only_read {X} Item item_at r ts x e = (
  r.takes ts x e,
  λ y other h.
      let same : pair_of y other ≡ x = same_Some (pair_of y other) x (sym (r.again y ts other h) ∙ e) in
      (ap (λ (p : X × List Tok). p.0) same, ap (λ (p : X × List Tok). p.1) same),
)

pub none_read : {X : Type 0} (Item : X → List Tok → List Tok → Type 0) (item_at : List Tok → Option (X × List Tok)) → IsRead Item item_at
    → (ts : List Tok) → item_at ts ≡ None → (y : X) (other : List Tok) → Item y ts other → ⊥
none_read Item item_at r ts e y other h = let bad = sym e ∙ r.again y ts other h in cc

-- the whole has these items and then those of the rest, and no others
pub record SoFar {X : Type 0} (Item : X → List Tok → List Tok → Type 0) (End : List Tok → List Tok → Type 0) (Whole : List X → List Tok → Type 0) (xs : List X) (rest : List Tok) : Type 0 where
  pub forth : (ys : List X) (last : List Tok) → Items Item End ys rest last → Whole (xs ++ ys) last
  pub back : (ys : List X) (last : List Tok) → Whole ys last → (zs : List X) × (ys ≡ xs ++ zs) × Items Item End zs rest last

module _ {X : Type 0} (Item : X → List Tok → List Tok → Type 0) (End : List Tok → List Tok → Type 0) where
  pub none_yet : (ts : List Tok) → SoFar Item End (λ xs last. Items Item End xs ts last) [] ts
  none_yet ts = record { forth = λ ys last a. a; back = λ ys last a. (ys, refl, a) }

  -- the items begin after a phrase
  pub none_behind : (P : List Tok → List Tok → Type 0) (ts us : List Tok) → P ts us → ((other : List Tok) → P ts other → other ≡ us) → SoFar Item End (λ xs last. (P ▸ Items Item End xs) ts last) [] us
  none_behind P ts us h only = record {
    forth = λ ys last a. (us, h, a);
    back = λ ys last a. (ys, refl, subst (λ (o : List Tok). Items Item End ys o last) (only a.0 a.1) a.2);
  }

  -- an item where the end does not come next is the first of the items there
  one_back : (ts : List Tok) (x : X) (rest : List Tok) → ((last : List Tok) → End ts last → ⊥) → ((y : X) (other : List Tok) → Item y ts other → (y ≡ x) × (other ≡ rest))
      → (ys : List X) (last : List Tok) → Items Item End ys ts last → (zs : List X) × (ys ≡ x ∷ zs) × Items Item End zs rest last
  one_back ts x rest apart only ys last (end e) = absurd (apart last e)
  one_back ts x rest apart only ys last (item {x = y} {xs = zs} {others = others} h l) =
      let same = only y others h in
      (zs, ap (λ (z : X). z ∷ zs) same.0, subst (λ (o : List Tok). Items Item End zs o last) same.1 l)

  no_item : (ts : List Tok) → ((last : List Tok) → End ts last → ⊥) → ((y : X) (other : List Tok) → Item y ts other → ⊥) → (ys : List X) (last : List Tok) → Items Item End ys ts last → ⊥
  no_item ts apart none ys last (end e) = apart last e
  no_item ts apart none ys last (item {x = y} {others = others} h l) = none y others h

  end_is : (ts rest : List Tok) → ((last : List Tok) → End ts last → last ≡ rest) → ((y : X) (other : List Tok) → Item y ts other → ⊥)
      → (ys : List X) (last : List Tok) → Items Item End ys ts last → (ys ≡ []) × (last ≡ rest)
  end_is ts rest same none ys last (end e) = (refl, same last e)
  end_is ts rest same none ys last (item {x = y} {others = others} h l) = absurd (none y others h)

  module _ (Whole : List X → List Tok → Type 0) where
    pub one_more : (xs : List X) (rest : List Tok) (x : X) (others : List Tok) → SoFar Item End Whole xs rest → ((last : List Tok) → End rest last → ⊥) → Only Item x rest others
        → SoFar Item End Whole (xs ++ x ∷ []) others
    one_more xs rest x others s apart h = record {
      forth = λ ys last a. rw append_assoc (s.forth (x ∷ ys) last (item h.0 a));
      back = λ ys last a.
          let b = s.back ys last a in
          let d = one_back rest x others apart h.1 b.0 last b.2 in
          (d.0, b.1 ∙ ap (λ (z : List X). xs ++ z) d.1 ∙ sym (append_assoc xs (x ∷ []) d.0), d.2);
    }

    -- neither the end nor an item comes next
    pub refused : (xs : List X) (rest : List Tok) → SoFar Item End Whole xs rest → ((last : List Tok) → End rest last → ⊥) → ((y : X) (other : List Tok) → Item y rest other → ⊥)
        → (ys : List X) (last : List Tok) → Whole ys last → ⊥
    refused xs rest s apart none ys last a = let b = s.back ys last a in no_item rest apart none b.0 last b.2

    -- the end comes next
    pub closed : (xs : List X) (rest last : List Tok) → SoFar Item End Whole xs rest → End rest last → ((other : List Tok) → End rest other → other ≡ last)
        → ((y : X) (other : List Tok) → Item y rest other → ⊥)
        → Whole xs last × ((ys : List X) (other : List Tok) → Whole ys other → (ys ≡ xs) × (other ≡ last))
    closed xs rest last s e same none = (
      rw append-nil at (s.forth [] last (end e)),
      λ ys other a.
          let b = s.back ys other a in
          let d = end_is rest last same none b.0 other b.2 in
          (b.1 ∙ ap (λ (z : List X). xs ++ z) d.0 ∙ append-nil xs, d.1),
    )
