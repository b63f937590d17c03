-- What is observed, the quantifier and the signs of a condition are spelled in one way.
use Rattle.std.proofs.Common.{◌≡◌, ◌∙◌, ℕ, List, [], codes, sym, ap, subst, inl, inr, refl, Some, None}
use Rattle.std.proofs.lemmas.Option.{same_Some}
use Rattle.text_tokens.specs.Tokens.{Tok}
use Rattle.text_tokens.specs.Parts.{rest_of}
use Rattle.litmus_syntax.specs.Phrases.{mark, Items}
use Rattle.litmus_syntax.specs.Views.{SignView, EndingView}
use Rattle.litmus_syntax.specs.Grammar.{IsPlace, separator, IsObservedItem, IsObserved}
use Rattle.litmus_syntax.specs.Grammar.{IsSign, IsSigns, the_end, IsEnding}
unfoldable use Rattle.litmus_syntax.specs.Reading.{place_at, place_among_at, atom_at, sign_at}
use Rattle.text_tokens.specs.declared.token.Mark.TheVariants as the
use Rattle.litmus_syntax.proofs.{WordLaws.begins_word_again, WordLaws.separator_again, PlaceLaws.place_again, ObservedLaws.no_place, SignLaws.signs_are_read, EndingLaws.quantifier_again, EndingLaws.ending_is_read}
use Rattle.litmus_text.proofs.OneOfEach.{One, Apart, one_read, only_one, mark_once, items_once}

-- ---- what is observed

observed_item_once : (threads : ℕ) → One (IsObservedItem threads)
observed_item_once threads ts p q rest other h g =
    let place = one_read IsPlace place_at place_again ts p q h.1.0 g.1.0 h.1.1 g.1.1 in
    (place.0, (same_Some rest other (sym (separator_again the.CloseBracket g.1.0 rest (λ e. cc) (subst (λ (z : List Tok). separator the.CloseBracket z rest) place.1 h.1.2)) ∙ separator_again the.CloseBracket g.1.0 other (λ e. cc) g.1.2)))

observed_apart : (threads : ℕ) → Apart (IsObservedItem threads) (mark the.CloseBracket)
observed_apart threads ts rest other p h g = no_place p ts g.1.0 rest h g.1.1

observed_once : (threads : ℕ) → One (IsObserved threads)
observed_once threads ts ps qs rest other (inl h) (inl g) =
    let first : h.0 ≡ g.0 = ap rest_of (sym h.1 ∙ g.1) in
    let second : h.2.0 ≡ g.2.0 = ap rest_of (sym h.2.1 ∙ first ∙ g.2.1) in
    let items = items_once (IsObservedItem threads) (mark the.CloseBracket) (mark the.CloseBracket) (observed_item_once threads) (observed_apart threads) (observed_apart threads) g.2.0 ps qs rest other
    (subst (λ (z : List Tok). Items (IsObservedItem threads) (mark the.CloseBracket) ps z rest) second h.2.2) g.2.2 in
    (items.0, mark_once the.CloseBracket items.1.0 rest other items.1.1 items.1.2)
observed_once threads ts ps qs rest other (inl h) (inr g) = let bad = sym g.1.1 ∙ begins_word_again (codes "locations") ts h.0 h.1 in absurd cc
observed_once threads ts ps qs rest other (inr h) (inl g) = let bad = sym h.1.1 ∙ begins_word_again (codes "locations") ts g.0 g.1 in absurd cc
observed_once threads ts ps qs rest other (inr h) (inr g) = (h.0 ∙ sym g.0, sym h.1.0 ∙ g.1.0)

-- ---- the signs

no_sign_at : (threads : ℕ) → sign_at threads [] ≡ None
unfolding sign_at atom_at place_among_at place_at
no_sign_at threads = refl

signs_apart : (threads : ℕ) → Apart (IsSign threads) the_end
signs_apart threads ts rest other s h g = let bad = sym (no_sign_at threads) ∙ sym (ap (sign_at threads) h.0) ∙ (signs_are_read threads).again s ts other g in cc

signs_once : (threads : ℕ) (ts : List Tok) (ss zs : List SignView) → IsSigns threads ss ts [] → IsSigns threads zs ts [] → ss ≡ zs
signs_once threads ts ss zs h g =
    (items_once (IsSign threads) the_end the_end (one_read (IsSign threads) (sign_at threads) (signs_are_read threads).again) (signs_apart threads) (signs_apart threads) ts ss zs [] [] h g).0

-- ---- the ending

pub ending_once : (threads : ℕ) (ts : List Tok) (e d : EndingView) → IsEnding threads e ts → IsEnding threads d ts → e ≡ d
ending_once threads ts e d h g =
    let observed = only_one (IsObserved threads) (observed_once threads) e.observed ts h.0 h.1 in
    let quantifier = quantifier_again e.quantifier h.0 h.2.0 h.2.1 in
    sym ((ending_is_read threads ts h.0 h.2.0 e.observed e.quantifier e.signs observed quantifier (h.2.2, λ zs i. signs_once threads h.2.0 zs e.signs i h.2.2)).1 d g)
