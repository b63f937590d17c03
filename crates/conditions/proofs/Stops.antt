-- Where the reader stops.
use Rattle.conditions.proofs.Vocabulary.{◌≡◌, ℕ, ◌+◌, ◌<◌, List, [], ◌∷◌, ◌++◌, length, take, drop, Option, Some, None, refl, sym, ap, ◌∙◌, arith, take-append-drop, Sign, ReaderState, Wants, Start, next, reading, tree_read, state_after, reached, SignsStopAt}
use Rattle.conditions.proofs.SpelledIsRead.{some_is}

-- reading goes on from the state that signs lead to
pub reading_after : {A : Type 0} (o : Option (ReaderState A)) (ss more : List (Sign A)) → reading o (ss ++ more) ≡ reading (state_after o ss) more
reading_after (Some s) (t ∷ ss) more = reading_after (next s t) ss more
reading_after o ss more = refl

-- no sign changes no state
after_none : {A : Type 0} (o : Option (ReaderState A)) → state_after o [] ≡ o
after_none None = refl
after_none (Some s) = refl

-- one sign more
pub after_push : {A : Type 0} (o : Option (ReaderState A)) (ss : List (Sign A)) (t : Sign A) (s : ReaderState A) → state_after o ss ≡ Some s → state_after o (ss ++ t ∷ []) ≡ next s t
after_push (Some r) [] t s e = after_none (next r t) ∙ ap (λ q. next q t) (some_is r s e)
after_push (Some r) (u ∷ ss) t s e = after_push (next r u) ss t s e
after_push None ss t s e = absurd cc

-- the sign at this place leads to no state
pub stops_inside : {A : Type 0} (ss : List (Sign A)) (at : ℕ) (s : ReaderState A) (t : Sign A) → at < length ss → reached (take at ss) ≡ Some s → take (at + 1) ss ≡ take at ss ++ t ∷ [] → next s t ≡ None
    → SignsStopAt ss at
stops_inside ss at s t lt came more none =
    let no_further : reached (take (at + 1) ss) ≡ None = ap reached more ∙ after_push (Some (Wants Start)) (take at ss) t s came ∙ none in
    let unread : tree_read ss ≡ None = ap tree_read (sym (take-append-drop (at + 1) ss)) ∙ reading_after (Some (Wants Start)) (take (at + 1) ss) (drop (at + 1) ss) ∙ ap (λ o. reading o (drop (at + 1) ss)) no_further in
    (omega arith, (s, came), (λ _. no_further), unread)
