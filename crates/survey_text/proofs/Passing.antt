-- What passes a test, one element more.
use Rattle.survey_text.proofs.Vocabulary.{◌≡◌, ◌∙◌, ◌+◌, ◌<◌, ℕ, List, [], ◌∷◌, ◌++◌, ap, append-nil, get_or, length, map, map-append, refl, take}
use Rattle.std.proofs.Common.{Bool, true, false, cond}
use Rattle.std.specs.Prelude.{filter}
use Rattle.std.proofs.lemmas.List.{map_more}
use Rattle.std.proofs.lemmas.List.Elements.{filter-append, filter_more}

-- of elements that pass, what is made of them
module _ {X Y : Type 0} (f : X → Y) (test : X → Bool) (xs : List X) (i : ℕ) (d : X) (there : i < length xs) where
  one_made : (b : Bool) → test (get_or xs i d) ≡ b → map f (cond (test (get_or xs i d)) (get_or xs i d ∷ []) []) ≡ cond b (f (get_or xs i d) ∷ []) []
  one_made true is = rw is refl
  one_made false is = rw is refl

  pub passing_more : (b : Bool) → test (get_or xs i d) ≡ b → map f (filter test (take (i + 1) xs)) ≡ map f (filter test (take i xs)) ++ cond b (f (get_or xs i d) ∷ []) []
  passing_more b is =
      ap (map f) (filter_more test xs i d there) ∙ map-append f (filter test (take i xs)) (cond (test (get_or xs i d)) (get_or xs i d ∷ []) [])
      ∙ ap (λ (ys : List Y). map f (filter test (take i xs)) ++ ys) (one_made b is)

  pub passing_same : test (get_or xs i d) ≡ false → map f (filter test (take (i + 1) xs)) ≡ map f (filter test (take i xs))
  passing_same is = passing_more false is ∙ append-nil (map f (filter test (take i xs)))

-- of what is made of elements, what passes
module _ {X Y : Type 0} (f : X → Y) (test : Y → Bool) (xs : List X) (i : ℕ) (d : X) (there : i < length xs) where
  one_passing : (b : Bool) → test (f (get_or xs i d)) ≡ b → filter test (f (get_or xs i d) ∷ []) ≡ cond b (f (get_or xs i d) ∷ []) []
  one_passing true is = rw is refl
  one_passing false is = rw is refl

  pub made_passing_more : (b : Bool) → test (f (get_or xs i d)) ≡ b → filter test (map f (take (i + 1) xs)) ≡ filter test (map f (take i xs)) ++ cond b (f (get_or xs i d) ∷ []) []
  made_passing_more b is =
      ap (filter test) (map_more f xs i d there) ∙ filter-append test (map f (take i xs)) (f (get_or xs i d) ∷ [])
      ∙ ap (λ (ys : List Y). filter test (map f (take i xs)) ++ ys) (one_passing b is)

  pub made_passing_same : test (f (get_or xs i d)) ≡ false → filter test (map f (take (i + 1) xs)) ≡ filter test (map f (take i xs))
  made_passing_same is = made_passing_more false is ∙ append-nil (filter test (map f (take i xs)))
