-- What is put into a list at its place.
use Rattle.std.proofs.Common.{◌≡◌, ℕ, zero, suc, ◌+◌, ◌-◌, ◌<◌, List, [], ◌∷◌, ◌++◌, get_or, length, map, sym, ap, ◌∙◌, subst, inl, inr, arith, refl}
use Rattle.std.proofs.lemmas.Bool.{cases_lt}
use Rattle.std.proofs.lemmas.List.Edits.{length-insert, get_or-insert_below, get_or-insert_at, get_or-insert_above}
use Rattle.std.specs.List.{AllZip, insert}
use Rattle.std.specs.Ordering.{ordering_reverse}
use Rattle.std.specs.declared.cmp.Ordering.TheVariants.{Less}
use Rattle.tso_program.specs.declared.outcome.Outcome.{Outcome}
use Rattle.tso_program.specs.Ordered.{outcome_cmp}
use Rattle.tso_program.proofs.OutcomesOrdered.{outcomes_ordered}
use Rattle.tree_laws.specs.Ascending.{Ascend, BelongsAt}

module _ (os : List Outcome) (o : Outcome) (p : ℕ) (belongs : BelongsAt os o p) where
  above : (j : ℕ) (d : Outcome) → p < j → get_or (insert os p o) j d ≡ get_or os (j - 1) d
  above j d h = (
      let next : j ≡ j - 1 + 1 = omega arith in
      ap (λ n. get_or (insert os p o) n d) next ∙ get_or-insert_above os p o d (j - 1) (omega arith) belongs.within)

  long : length (insert os p o) ≡ length os + 1
  long = length-insert os p o belongs.within

  -- it ascends still
  pub ascend_insert : Ascend os → Ascend (insert os p o)
  ascend_insert up i j d h l = elim (cases_lt i p) [
    | inl low ↦ subst (λ x. outcome_cmp x (get_or (insert os p o) j d) ≡ Less) (sym (get_or-insert_below os p o d i low belongs.within)) (elim (cases_lt j p) [
      | inl also ↦ subst (λ y. outcome_cmp (get_or os i d) y ≡ Less) (sym (get_or-insert_below os p o d j also belongs.within)) (up i j d h (let w = belongs.within in omega arith))
      | inr high ↦ elim (cases_lt p j) [
        | inl more ↦ subst (λ y. outcome_cmp (get_or os i d) y ≡ Less) (sym (above j d more)) (up i (j - 1) d (omega arith) (let n = long in omega arith))
        | inr least ↦ (
            let same : j ≡ p = omega arith in
            subst (λ y. outcome_cmp (get_or os i d) y ≡ Less) (sym (ap (λ n. get_or (insert os p o) n d) same ∙ get_or-insert_at os p o d belongs.within)) (belongs.before i d low))
      ]
    ])
    | inr high ↦ elim (cases_lt p i) [
      | inl more ↦ subst (λ x. outcome_cmp x (get_or (insert os p o) j d) ≡ Less) (sym (above i d more))
          (subst (λ y. outcome_cmp (get_or os (i - 1) d) y ≡ Less) (sym (above j d (omega arith))) (up (i - 1) (j - 1) d (omega arith) (let n = long in omega arith)))
      | inr least ↦ (
          let same : i ≡ p = omega arith in
          subst (λ x. outcome_cmp x (get_or (insert os p o) j d) ≡ Less) (sym (ap (λ n. get_or (insert os p o) n d) same ∙ get_or-insert_at os p o d belongs.within))
          (subst (λ y. outcome_cmp o y ≡ Less) (sym (above j d (omega arith)))
          (outcomes_ordered.antisymm o (get_or os (j - 1) d) ∙ ap ordering_reverse (belongs.after (j - 1) d (omega arith) (let n = long in omega arith)))))
    ]
  ]

-- two lists in step, and a value more in each
pub zip_insert : {A B : Type 0} (R : A → B → Type 0) (xs : List A) (ys : List B) (i : ℕ) (x : A) (y : B) → AllZip R xs ys → R x y → AllZip R (insert xs i x) (insert ys i y)
zip_insert R xs ys zero x y all r = (r, all)
zip_insert R [] [] (suc i) x y all r = (r, tt)
zip_insert R (a ∷ xs) (b ∷ ys) (suc i) x y all r = (all.0, zip_insert R xs ys i x y all.1 r)
zip_insert R xs ys i x y all r = absurd all

-- what is put into a list is put into the list of what its items stand for
pub map_insert : {A B : Type 0} (f : A → B) (xs : List A) (i : ℕ) (x : A) → map f (insert xs i x) ≡ insert (map f xs) i (f x)
map_insert {B = B} f xs zero x = refl
map_insert {B = B} f [] (suc i) x = refl
map_insert {B = B} f (y ∷ ys) (suc i) x = ap (λ (zs : List B). f y ∷ zs) (map_insert f ys i x)
