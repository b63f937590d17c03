-- What the reader of observed places reads is what the grammar says.
use Rattle.litmus_syntax.proofs.Vocabulary.{◌≡◌, ◌∙◌, ℕ, true, false, List, [], ◌∷◌, ◌++◌, codes, refl, sym, ap, subst, inl, inr, Some, None, Tok, mark_at, begins_with, rest_of, mark_takes, mark_again, PlaceView, Location, Register, ◌▸◌, mark, word}
use Rattle.litmus_syntax.proofs.Vocabulary.{begins_with_word, Items, IsPlace, IsObservedItem, IsObserved, place_among_at, keyword_at, separator_at, observed_begin_at, observed_item_at}
use Rattle.text_tokens.specs.declared.token.Mark.TheVariants as the
use Rattle.litmus_syntax.proofs.ItemLaws.{IsRead, Only, SoFar, only_read, none_read, one_more, refused, closed}
use Rattle.litmus_syntax.proofs.Options.{made, next, not_first}
use Rattle.litmus_syntax.proofs.WordLaws.{begins_word_again, keyword_takes, keyword_again, separator_takes, separator_again}
use Rattle.litmus_syntax.proofs.PlaceLaws.{place_among_takes, place_among_again}

-- `locations [`
abbrev Begin : List Tok → List Tok → Type 0
Begin = word (codes "locations") ▸ mark the.OpenBracket

begin_takes : (ts rest : List Tok) → observed_begin_at ts ≡ Some rest → Begin ts rest
unfolding observed_begin_at
begin_takes ts = next (Begin ts) (keyword_at (codes "locations") ts) _ (λ us a rest b. (us, keyword_takes (codes "locations") ts us a, mark_takes the.OpenBracket us rest b))

begin_again : (ts rest : List Tok) → Begin ts rest → observed_begin_at ts ≡ Some rest
unfolding observed_begin_at
begin_again ts rest h = rw (keyword_again (codes "locations") ts h.0 h.1) (mark_again the.OpenBracket h.0 rest h.2)

item_takes : (threads : ℕ) (ts : List Tok) (x : PlaceView × List Tok) → observed_item_at threads ts ≡ Some x → IsObservedItem threads x.0 ts x.1
unfolding observed_item_at
item_takes threads ts =
    let is : PlaceView × List Tok → Type 0 = λ x. IsObservedItem threads x.0 ts x.1 in
    next is (place_among_at threads ts) _ (λ p a. made is (separator_at the.CloseBracket p.1) (λ rest. (p.0, rest)) (λ rest b.
    let there = place_among_takes threads ts p a in (there.0, (p.1, there.1, separator_takes the.CloseBracket p.1 rest b))))

item_again : (threads : ℕ) (p : PlaceView) (ts rest : List Tok) → IsObservedItem threads p ts rest → observed_item_at threads ts ≡ Some (p, rest)
unfolding observed_item_at
item_again threads p ts rest h = rw (place_among_again threads p ts h.1.0 h.0 h.1.1, separator_again the.CloseBracket h.1.0 rest (λ e. cc) h.1.2) refl

items_are_read : (threads : ℕ) → IsRead (IsObservedItem threads) (observed_item_at threads)
items_are_read threads = record { takes = item_takes threads; again = item_again threads }

-- no place begins with `]`
pub no_place : (p : PlaceView) (ts rest last : List Tok) → mark the.CloseBracket ts last → IsPlace p ts rest → ⊥
no_place (Location x) ts rest last is (inl h) = let bad = sym is ∙ h.1 in cc
no_place (Location x) ts rest last is (inr h) = let bad = sym is ∙ h.1 in cc
no_place (Register t r) ts rest last is h = let bad = sym is ∙ h.1 in cc

-- ---- places in brackets

-- the observed places so far
abbrev pub ObservedSoFar : ℕ → List Tok → List PlaceView → List Tok → Type 0
ObservedSoFar threads ts ps rest = SoFar (IsObservedItem threads) (mark the.CloseBracket) (λ qs last. IsObserved threads qs ts last) ps rest

begin_back : (threads : ℕ) (ts rest : List Tok) → Begin ts rest → (ps : List PlaceView) (last : List Tok) → IsObserved threads ps ts last → Items (IsObservedItem threads) (mark the.CloseBracket) ps rest last
begin_back threads ts rest b ps last (inl h) =
    let one : h.0 ≡ b.0 = ap rest_of (sym h.1 ∙ b.1) in
    let two : h.2.0 ≡ rest = ap rest_of (sym h.2.1 ∙ one ∙ b.2) in
    subst (λ (z : List Tok). Items (IsObservedItem threads) (mark the.CloseBracket) ps z last) two h.2.2
begin_back threads ts rest b ps last (inr h) = let bad = sym h.1.1 ∙ begins_word_again (codes "locations") ts b.0 b.1 in absurd cc

pub observed_begins : (threads : ℕ) (ts rest : List Tok) → observed_begin_at ts ≡ Some rest → ObservedSoFar threads ts [] rest
observed_begins threads ts rest e =
    let b = begin_takes ts rest e in
    record { forth = λ ps last a. inl (b.0, b.1, (rest, b.2, a)); back = λ ps last h. (ps, refl, begin_back threads ts rest b ps last h) }

pub no_begin : (threads : ℕ) (ts : List Tok) → begins_with_word (codes "locations") ts ≡ true → observed_begin_at ts ≡ None → (ps : List PlaceView) (last : List Tok) → IsObserved threads ps ts last → ⊥
no_begin threads ts e none ps last (inl h) = let bad = sym none ∙ begin_again ts h.2.0 (h.0, h.1, h.2.1) in cc
no_begin threads ts e none ps last (inr h) = let bad = sym e ∙ h.1.1 in cc

pub next_observed : (threads : ℕ) (ts : List Tok) (ps : List PlaceView) (rest : List Tok) (p : PlaceView) (others : List Tok) → ObservedSoFar threads ts ps rest → begins_with the.CloseBracket rest ≡ false
    → observed_item_at threads rest ≡ Some (p, others) → ObservedSoFar threads ts (ps ++ p ∷ []) others
next_observed threads ts ps rest p others s e is =
    one_more (IsObservedItem threads) (mark the.CloseBracket) (λ qs last. IsObserved threads qs ts last) ps rest p others s (not_first the.CloseBracket rest e)
    (only_read (IsObservedItem threads) (observed_item_at threads) (items_are_read threads) rest (p, others) is)

pub observed_stops : (threads : ℕ) (ts : List Tok) (ps : List PlaceView) (rest : List Tok) → ObservedSoFar threads ts ps rest → begins_with the.CloseBracket rest ≡ false → observed_item_at threads rest ≡ None
    → (qs : List PlaceView) (last : List Tok) → IsObserved threads qs ts last → ⊥
observed_stops threads ts ps rest s e none qs last h =
    refused (IsObservedItem threads) (mark the.CloseBracket) (λ rs o. IsObserved threads rs ts o) ps rest s (not_first the.CloseBracket rest e)
    (none_read (IsObservedItem threads) (observed_item_at threads) (items_are_read threads) rest none) qs last h

pub observed_ends : (threads : ℕ) (ts : List Tok) (ps : List PlaceView) (rest last : List Tok) → ObservedSoFar threads ts ps rest → mark_at the.CloseBracket rest ≡ Some last → Only (IsObserved threads) ps ts last
observed_ends threads ts ps rest last s e =
    let is = mark_takes the.CloseBracket rest last e in
    closed (IsObservedItem threads) (mark the.CloseBracket) (λ qs o. IsObserved threads qs ts o) ps rest last s is (λ other h. ap rest_of (sym h ∙ is)) (λ p other h. no_place p rest h.1.0 last is h.1.1)
