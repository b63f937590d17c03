-- The first value that has not a property, by a loop.
use Rattle.cert_check.proofs.Vocabulary.{◌≡◌, ℕ, ◌<◌, List, Some, All, get_or, take, length, sym, ap, ◌∙◌, subst, arith, get_or-take, length-take-le, IsFirstWithout, slice_get-get_or, same_default}

module _ {A : Type 0} (P : A → Type 0) (xs : List A) (n : ℕ) where
  -- each before place n has it
  abbrev pub EachBefore : Type 0
  EachBefore = (k : ℕ) (x : A) → k < n → get_or xs k x ≡ x → P x

  all_before : EachBefore → n < length xs → All P (take n xs)
  all_before each h k d l =
      let long = length-take-le n xs (omega arith) in
      let small : k < n = omega arith in
      subst P (sym (get_or-take n xs k d small)) (each k (get_or xs k d) small (same_default xs k (get_or xs k d) d (omega arith)))

  pub first_without : (x : A) → n < length xs → x ≡ get_or xs n x → (P x → ⊥) → EachBefore → IsFirstWithout P xs n
  first_without x h at without each = record { value = x; there = slice_get-get_or xs n x h ∙ ap Some (sym at); without = without; before = all_before each h }
