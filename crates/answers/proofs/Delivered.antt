-- What is delivered: the files hold what is written to them.
use Rattle.answers.proofs.Vocabulary.{ℕ, List, Option, Some, None, refl, sym, subst, ◌∙◌, HoldsBytes, AreTwoNames, HoldsFile, KeepFiles, KeepFilesBut, KeepFilesButThree}

-- a file holds what was written to it, if it is not the one that is written next
pub still_held : (first second : Option (List ℕ)) (left next : List ℕ → Option (List ℕ)) (text : List ℕ) → HoldsFile first left text → KeepFiles second left next → AreTwoNames first second → HoldsFile first next text
still_held None second left next text held kept apart = tt
still_held (Some name) second left next text held kept apart = subst (λ (bytes : Option (List ℕ)). HoldsBytes bytes text) (sym (kept name (λ is. apart name refl is))) held

-- two writes keep the other files
pub both_keep : (first second : Option (List ℕ)) (files left next : List ℕ → Option (List ℕ)) → KeepFiles first files left → KeepFiles second left next → KeepFilesBut first second files next
both_keep first second files left next kept kept_too name not_first not_second = kept_too name not_second ∙ kept name not_first

-- a file holds what was written to it, if it is neither of the two that are written next
pub still_held_past : (third first second : Option (List ℕ)) (left next : List ℕ → Option (List ℕ)) (text : List ℕ) → HoldsFile third left text → KeepFilesBut first second left next
    → AreTwoNames third first → AreTwoNames third second → HoldsFile third next text
still_held_past None first second left next text held kept apart apart_too = tt
still_held_past (Some name) first second left next text held kept apart apart_too =
    subst (λ (bytes : Option (List ℕ)). HoldsBytes bytes text) (sym (kept name (λ is. apart name refl is) (λ is. apart_too name refl is))) held

-- one write and then two keep the other files
pub three_keep : (first second third : Option (List ℕ)) (files left next : List ℕ → Option (List ℕ)) → KeepFiles third files left → KeepFilesBut first second left next → KeepFilesButThree first second third files next
three_keep first second third files left next kept kept_too name not_first not_second not_third = kept_too name not_first not_second ∙ kept name not_third

-- so does the first of them alone
pub third_keeps : (first second third : Option (List ℕ)) (files left : List ℕ → Option (List ℕ)) → KeepFiles third files left → KeepFilesButThree first second third files left
third_keeps first second third files left kept name not_first not_second not_third = kept name not_third
