-- The condition: its canonical signs, named again, spell the same formula.
use Rattle.litmus_text.proofs.Vocabulary.{◌≡◌, ℕ, false, List, [], ◌∷◌, ◌++◌, map, refl, sym, ap, ◌∙◌, subst, append_assoc, AllByRecursion, IsDistinct, flat_map, bytes_eq, append-nil, Tree, tree_map, PlaceView, Location, Register, SignView, number_in}
use Rattle.litmus_text.proofs.Vocabulary.{sign_places, IsTextNumber, IsPrintablePlace, IsPrintableSign, begins_with_a_word, SignsAreApart, signs_of, enclosed_signs_of, atom_of, numbered_atom, atom_named, sign_named, signs_named}
use Rattle.tso_program.specs.Tree as tree
use Rattle.conditions.specs.Grammar.{Sign, sign_map, Class, Sum, Spells, atom, const, negation, parens, operand, conjunction, term, disjunction}
use Rattle.conditions.specs.Grammar as sign
use Rattle.conditions.proofs.CanonicalSigns.{canonical_spell, canonical_mapped}
use Rattle.litmus_syntax.specs.Views as view
use Rattle.litmus_reader.specs.Meaning as meaning
use Rattle.litmus_text.proofs.{NamedPlaces.Named, Lists.all_of_both, Lists.all_mapped, ToldCode.IsKnown, ToldCode.name_back}

-- that a place has a value
abbrev pub Said : Type 0
Said = PlaceView × ℕ

-- the sign as a text has it
abbrev pub view_of : Sign Said → SignView
view_of (sign.Atom a) = view.Atom a.0 a.1
view_of (sign.Const b) = view.Const b
view_of sign.Not = view.Not
view_of sign.And = view.And
view_of sign.Or = view.Or
view_of sign.Open = view.Open
view_of sign.Close = view.Close

pub sign_again : (s : Sign Said) → meaning.sign_of (view_of s) ≡ s
sign_again (sign.Atom a) = refl
sign_again s = refl

signs_again : (ss : List (Sign Said)) → map meaning.sign_of (map view_of ss) ≡ ss
signs_again [] = refl
signs_again (s ∷ ss) = ap (λ (x : Sign Said). x ∷ map meaning.sign_of (map view_of ss)) (sign_again s) ∙ ap (λ (xs : List (Sign Said)). s ∷ xs) (signs_again ss)

-- the canonical signs spell the formula
pub spelled_again : (f : Tree Said) → Spells Sum f (map meaning.sign_of (map view_of (enclosed_signs_of f))) []
spelled_again f = subst (λ (ss : List (Sign Said)). Spells Sum f ss []) (sym (signs_again (enclosed_signs_of f))) (canonical_spell f).1

-- ---- they stand apart

regroup : (join : Sign Said) (f g : Tree Said) (rest : List (Sign Said))
    → signs_of f ++ (join ∷ (signs_of g ++ (sign.Close ∷ rest))) ≡ (signs_of f ++ (join ∷ (signs_of g ++ sign.Close ∷ []))) ++ rest
regroup join f g rest = simp append_assoc

apart_before : (f : Tree Said) (rest : List (Sign Said)) → begins_with_a_word (map view_of rest) ≡ false → SignsAreApart (map view_of rest) → SignsAreApart (map view_of (signs_of f ++ rest))
apart_before (tree.Not f) rest e free = apart_before f rest e free
apart_before (tree.And f g) rest e free =
    let inner = apart_before f (sign.And ∷ (signs_of g ++ (sign.Close ∷ rest))) refl (apart_before g (sign.Close ∷ rest) refl free) in
    subst (λ (ss : List (Sign Said)). SignsAreApart (map view_of ss)) (regroup sign.And f g rest) inner
apart_before (tree.Or f g) rest e free =
    let inner = apart_before f (sign.Or ∷ (signs_of g ++ (sign.Close ∷ rest))) refl (apart_before g (sign.Close ∷ rest) refl free) in
    subst (λ (ss : List (Sign Said)). SignsAreApart (map view_of ss)) (regroup sign.Or f g rest) inner
apart_before f rest e free = (e, free)

apart_alone : (f : Tree Said) → SignsAreApart (map view_of (signs_of f))
apart_alone f = subst (λ (ss : List (Sign Said)). SignsAreApart (map view_of ss)) (append-nil (signs_of f)) (apart_before f [] refl tt)

pub enclosed_apart : (f : Tree Said) → SignsAreApart (map view_of (enclosed_signs_of f))
enclosed_apart (tree.Not f) = apart_before (tree.Not f) (sign.Close ∷ []) refl tt
enclosed_apart (tree.And f g) = apart_alone (tree.And f g)
enclosed_apart (tree.Or f g) = apart_alone (tree.Or f g)
enclosed_apart f = apart_before f (sign.Close ∷ []) refl tt

module _ (names : List (List ℕ)) (named : Named) (threads : ℕ) where
  -- a place that is named, and that can be printed with its value
  abbrev pub IsSaidOf : Said → Type 0
  IsSaidOf a = IsKnown names named a.0 × IsPrintablePlace threads a.0 × IsTextNumber a.1

  -- a sign whose place is so
  abbrev pub IsSaid : Sign Said → Type 0
  IsSaid (sign.Atom a) = IsSaidOf a
  IsSaid h = Unit {0}

  -- a formula of such signs
  abbrev pub IsSayable : Tree Said → Type 0
  IsSayable (tree.Atom a) = IsSaidOf a
  IsSayable (tree.Const b) = Unit {0}
  IsSayable (tree.Not f) = IsSayable f
  IsSayable (tree.And f g) = IsSayable f × IsSayable g
  IsSayable (tree.Or f g) = IsSayable f × IsSayable g

  -- the signs of a text
  pub text_said : (ss : List SignView) → AllByRecursion (IsPrintableSign threads) ss → AllByRecursion (IsKnown names named) (flat_map sign_places ss) → AllByRecursion IsSaid (map meaning.sign_of ss)
  text_said [] h k = tt
  text_said (view.Atom p n ∷ ss) h k = ((k.0, h.0.0, h.0.1), text_said ss h.1 k.1)
  text_said (_ ∷ ss) h k = (tt, text_said ss h.1 k)

  -- what they spell
  pub sayable : {c : Class} {f : Tree Said} {ss rest : List (Sign Said)} → Spells c f ss rest → AllByRecursion IsSaid ss → IsSayable f × AllByRecursion IsSaid rest
  sayable atom h = (h.0, h.1)
  sayable const h = (tt, h.1)
  sayable (negation s) h = sayable s h.1
  sayable (parens s) h = let inner = sayable s h.1 in (inner.0, inner.1.1)
  sayable (operand s) h = sayable s h
  sayable (conjunction s t) h = let one = sayable s h in let two = sayable t one.1.1 in ((one.0, two.0), two.1)
  sayable (term s) h = sayable s h
  sayable (disjunction s t) h = let one = sayable s h in let two = sayable t one.1.1 in ((one.0, two.0), two.1)

  -- its canonical signs
  signs_said : (f : Tree Said) → IsSayable f → AllByRecursion IsSaid (signs_of f)
  signs_said (tree.Atom a) h = (h, tt)
  signs_said (tree.Const b) h = (tt, tt)
  signs_said (tree.Not f) h = (tt, signs_said f h)
  signs_said (tree.And f g) h =
      (tt, all_of_both IsSaid (signs_of f) (sign.And ∷ (signs_of g ++ sign.Close ∷ [])) (signs_said f h.0) (tt, all_of_both IsSaid (signs_of g) (sign.Close ∷ []) (signs_said g h.1) (tt, tt)))
  signs_said (tree.Or f g) h =
      (tt, all_of_both IsSaid (signs_of f) (sign.Or ∷ (signs_of g ++ sign.Close ∷ [])) (signs_said f h.0) (tt, all_of_both IsSaid (signs_of g) (sign.Close ∷ []) (signs_said g h.1) (tt, tt)))

  pub enclosed_said : (f : Tree Said) → IsSayable f → AllByRecursion IsSaid (enclosed_signs_of f)
  enclosed_said (tree.Atom a) h = (tt, (h, (tt, tt)))
  enclosed_said (tree.Const b) h = (tt, (tt, (tt, tt)))
  enclosed_said (tree.Not f) h = (tt, all_of_both IsSaid (signs_of (tree.Not f)) (sign.Close ∷ []) (signs_said (tree.Not f) h) (tt, tt))
  enclosed_said (tree.And f g) h = signs_said (tree.And f g) h
  enclosed_said (tree.Or f g) h = signs_said (tree.Or f g) h

  -- ---- named again

  atom_back : IsDistinct bytes_eq names → (p : PlaceView) (n : ℕ) → IsKnown names named p → atom_named names (atom_of (number_in names) p n) ≡ view.Atom p n
  atom_back once (Location x) n h = ap (λ (y : List ℕ). view.Atom (Location y) n) (name_back names x once h)
  atom_back once (Register t r) n h = refl

  sign_back : IsDistinct bytes_eq names → (s : Sign Said) → IsSaid s → sign_named names (sign_map (numbered_atom (number_in names)) s) ≡ view_of s
  sign_back once (sign.Atom a) h = atom_back once a.0 a.1 h.0
  sign_back once s h = refl

  signs_back : IsDistinct bytes_eq names → (ss : List (Sign Said)) → AllByRecursion IsSaid ss → map (sign_named names) (map (sign_map (numbered_atom (number_in names))) ss) ≡ map view_of ss
  signs_back once [] h = refl
  signs_back once (s ∷ ss) h =
      ap (λ (v : SignView). v ∷ map (sign_named names) (map (sign_map (numbered_atom (number_in names))) ss)) (sign_back once s h.0)
      ∙ ap (λ (vs : List SignView). view_of s ∷ vs) (signs_back once ss h.1)

  -- the canonical signs are those of the formula with names
  pub signs_are : IsDistinct bytes_eq names → (f : Tree Said) → IsSayable f → signs_named names (tree_map (numbered_atom (number_in names)) f) ≡ map view_of (enclosed_signs_of f)
  signs_are once f h =
      ap (map (sign_named names)) (canonical_mapped (numbered_atom (number_in names)) f).1 ∙ signs_back once (enclosed_signs_of f) (enclosed_said f h)

  -- ---- they can be printed

  sign_printable : (s : Sign Said) → IsSaid s → IsPrintableSign threads (view_of s)
  sign_printable (sign.Atom a) h = (h.1, h.2)
  sign_printable s h = tt

  pub signs_printable : (ss : List (Sign Said)) → AllByRecursion IsSaid ss → AllByRecursion (IsPrintableSign threads) (map view_of ss)
  signs_printable = all_mapped IsSaid (IsPrintableSign threads) view_of sign_printable

  -- and name nothing new
  pub signs_known : (ss : List (Sign Said)) → AllByRecursion IsSaid ss → AllByRecursion (IsKnown names named) (flat_map sign_places (map view_of ss))
  signs_known [] h = tt
  signs_known (sign.Atom a ∷ ss) h = (h.0.0, signs_known ss h.1)
  signs_known (_ ∷ ss) h = signs_known ss h.1
