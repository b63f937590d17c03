-- The gaps at places, one place after the other.
use Rattle.witness_text.proofs.Vocabulary.{◌≡◌, ◌∙◌, ◌⊎◌, ◌||◌, ℕ, Bool, true, false, List, [], ◌∷◌, ◌++◌, Option, Some, Contains, ap, arith, inl, inr, refl, sym, subst, nat_cmp_total, SetOfGaps, GapPlace, gap_at_place, AreGapsAt, IsAtOneOf, IsGap}
use Rattle.std.specs.Prelude.{IsSome}
use Rattle.std.specs.Ordering.{nat_cmp, eq_by_cmp}
use Rattle.std.specs.FinSet as set
use Rattle.std.proofs.lemmas.Bool.Decides.{nat_tests}
use Rattle.std.proofs.lemmas.List.Elements.{All-nil, All-push, Contains-append_left, Contains-push, Contains-push_cases}
use Rattle.tso_program.specs.declared.listing.Thread.{Thread}

-- no place
none_there : (place : GapPlace) → Contains [] place → ⊥
none_there place (k, lt, is) = omega arith

pub no_place : (threads : List Thread) → AreGapsAt threads [] set.empty
no_place threads = record {
  each = All-nil (IsGap threads);
  exact = λ gap. (
    (λ there. let no : true ≡ false = sym there ∙ set.contains-empty nat_cmp gap in absurd cc),
    (λ (place, at, is). absurd (none_there place at)),
  );
}

-- a set with one more gap
new_or_old : (gap new : ℕ) (b : Bool) → (eq_by_cmp nat_cmp gap new || b) ≡ true → (b ≡ true) ⊎ (new ≡ gap)
new_or_old gap new true h = inl refl
new_or_old gap new false h = inr (grind (arith, nat_tests))

old_held : (gap new : ℕ) (b : Bool) → b ≡ true → (eq_by_cmp nat_cmp gap new || b) ≡ true
old_held gap new b h = grind (arith, nat_tests)

new_held : (gap new : ℕ) (b : Bool) → new ≡ gap → (eq_by_cmp nat_cmp gap new || b) ≡ true
new_held gap new b h = grind (arith, nat_tests)

-- one more place
module _ (threads : List Thread) (places : List GapPlace) (gaps : SetOfGaps) (place : GapPlace) (new : ℕ) (are : AreGapsAt threads places gaps) (is : gap_at_place threads place ≡ Some new) where
  is_gap : IsGap threads place
  is_gap = subst (λ (o : Option ℕ). IsSome o) (sym is) refl

  at_one : (gap : ℕ) → set.contains (set.insert gaps new) gap ≡ true → IsAtOneOf threads (places ++ place ∷ []) gap
  at_one gap held = elim (new_or_old gap new (set.contains gaps gap) (sym (set.contains-insert nat_cmp_total gaps new gap) ∙ held)) [
    | inl old ↦ (let (other, there, at) = (are.exact gap).0 old in (other, Contains-append_left places (place ∷ []) other there, at))
    | inr same ↦ (place, Contains-push places place, is ∙ ap (λ (g : ℕ). Some g) same)
  ]

  held_at : (gap : ℕ) → IsAtOneOf threads (places ++ place ∷ []) gap → set.contains (set.insert gaps new) gap ≡ true
  held_at gap (other, there, at) = set.contains-insert nat_cmp_total gaps new gap ∙ elim (Contains-push_cases places place other there) [
    | inl old ↦ old_held gap new (set.contains gaps gap) ((are.exact gap).1 (other, old, at))
    | inr same ↦ new_held gap new (set.contains gaps gap) (let z : Some new ≡ Some gap = sym is ∙ ap (gap_at_place threads) same ∙ at in cc)
  ]

  pub one_more : AreGapsAt threads (places ++ place ∷ []) (set.insert gaps new)
  one_more = record { each = All-push (IsGap threads) places place are.each is_gap; exact = λ gap. (at_one gap, held_at gap) }
