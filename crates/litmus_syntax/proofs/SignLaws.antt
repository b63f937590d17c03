-- What the reader of signs reads is what the grammar says.
use Rattle.litmus_syntax.proofs.Vocabulary.{◌≡◌, ◌∙◌, ◌==◌, length, suc, ℕ, true, false, List, [], ◌∷◌, ◌++◌, codes, refl, sym, ap, subst, inl, inr, arith, Some, None, is_some, bytes_eq, eqb-true, bytes_eq-Decides, Mark, Tok, Word, Sign, toks, reg_of}
use Rattle.litmus_syntax.proofs.Vocabulary.{opens_condition, joins_formula, is_name, PlaceView, Location, Register, SignView, Atom, Const, Not, And, Or, Open, Close, same_Some, IsPlace, IsSign, the_end, IsSigns, place_among_at, equals_value_at, word_sign}
use Rattle.litmus_syntax.proofs.Vocabulary.{mark_sign, short_sign_at, atom_at, sign_at, false_from_ne_true as false_from}
use Rattle.text_tokens.specs.declared.token.Mark.TheVariants as the
use Rattle.text_tokens.specs.declared.token.Token.{Token}
use Rattle.litmus_syntax.proofs.Options.{given, made, next, tested}
use Rattle.litmus_syntax.proofs.ItemLaws.{IsRead, SoFar, closed, refused, none_yet, none_read, only_read, one_more}
use Rattle.litmus_syntax.proofs.PlaceLaws.{place_among_takes, place_among_again, value_takes, value_again}

abbrev SignAndRest : Type 0
SignAndRest = SignView × List Tok

-- ---- signs of one token

word_takes : (threads : ℕ) (w : List ℕ) (ts : List Tok) (s : SignView) → word_sign w ≡ Some s → IsSign threads s (Word w ∷ ts) ts
unfolding word_sign
word_takes threads w ts =
    let is : SignView → Type 0 = λ s. IsSign threads s (Word w ∷ ts) ts in
    let this : (v : List ℕ) (s : SignView) → IsSign threads s (Word v ∷ ts) ts → bytes_eq w v ≡ true → (t : SignView) → given s ≡ Some t → is t =
    λ v s h e t same. subst is (same_Some s t same) (subst (λ (z : List ℕ). IsSign threads s (Word z ∷ ts) ts) (sym ((bytes_eq-Decides w v).0 e)) h) in
    let none : bytes_eq w (codes "not") ≡ false → (t : SignView) → None ≡ Some t → is t = λ f t e. absurd cc in
    tested is (bytes_eq w (codes "true")) _ _ (this (codes "true") (Const true) refl)
    (λ h. tested is (bytes_eq w (codes "false")) _ _ (this (codes "false") (Const false) refl) (λ g. tested is (bytes_eq w (codes "not")) _ _ (this (codes "not") Not (inl refl)) none))

mark_takes : (threads : ℕ) (m : Mark) (ts : List Tok) (s : SignView) → mark_sign m ≡ Some s → IsSign threads s (Sign m ∷ ts) ts
mark_takes threads the.Tilde ts s e = subst (λ (z : SignView). IsSign threads z (Sign the.Tilde ∷ ts) ts) (same_Some Not s e) (inr refl)
mark_takes threads the.And ts s e = subst (λ (z : SignView). IsSign threads z (Sign the.And ∷ ts) ts) (same_Some And s e) refl
mark_takes threads the.Or ts s e = subst (λ (z : SignView). IsSign threads z (Sign the.Or ∷ ts) ts) (same_Some Or s e) refl
mark_takes threads the.OpenParen ts s e = subst (λ (z : SignView). IsSign threads z (Sign the.OpenParen ∷ ts) ts) (same_Some Open s e) refl
mark_takes threads the.CloseParen ts s e = subst (λ (z : SignView). IsSign threads z (Sign the.CloseParen ∷ ts) ts) (same_Some Close s e) refl
mark_takes threads m ts s e = absurd cc

short_takes : (threads : ℕ) (ts : List Tok) (x : SignAndRest) → short_sign_at ts ≡ Some x → IsSign threads x.0 ts x.1
short_takes threads (Word w ∷ ts) x e = made (λ (z : SignAndRest). IsSign threads z.0 (Word w ∷ ts) z.1) (word_sign w) (λ s. (s, ts)) (word_takes threads w ts) x e
short_takes threads (Sign m ∷ ts) x e = made (λ (z : SignAndRest). IsSign threads z.0 (Sign m ∷ ts) z.1) (mark_sign m) (λ s. (s, ts)) (mark_takes threads m ts) x e
short_takes threads ts x e = absurd cc

-- ---- signs

sign_takes : (threads : ℕ) (ts : List Tok) (x : SignAndRest) → sign_at threads ts ≡ Some x → IsSign threads x.0 ts x.1
unfolding sign_at atom_at
sign_takes threads ts =
    let is : SignAndRest → Type 0 = λ x. IsSign threads x.0 ts x.1 in
    tested is (is_some (short_sign_at ts)) _ _ (λ h. short_takes threads ts)
    (λ h. next is (place_among_at threads ts) _ (λ p a. made is (equals_value_at p.1) (λ n. (Atom p.0 n.0, n.1)) (λ n b.
    let there = place_among_takes threads ts p a in (there.0, (p.1, there.1, value_takes p.1 n b)))))

-- a location is called by no word of formulas
not_called : (x w : List ℕ) → is_name x ≡ true → is_name w ≡ false → bytes_eq x w ≡ false
not_called x w h bad = false_from (bytes_eq x w) (λ e. let off = sym (ap is_name ((bytes_eq-Decides x w).0 e) ∙ bad) ∙ h in cc)

no_word_sign : (x : List ℕ) → is_name x ≡ true → word_sign x ≡ None
unfolding word_sign is_name opens_condition joins_formula reg_of
no_word_sign x h = rw (not_called x (codes "true") h refl, not_called x (codes "false") h refl, not_called x (codes "not") h refl) refl

no_short_sign : (p : PlaceView) (ts rest : List Tok) → IsPlace p ts rest → short_sign_at ts ≡ None
no_short_sign (Location x) ts rest (inl n) = rw (n.1, no_word_sign x n.0) refl
no_short_sign (Location x) ts rest (inr m) = ap short_sign_at m.1
no_short_sign (Register t r) ts rest h = ap short_sign_at h.1

sign_again : (threads : ℕ) (s : SignView) (ts rest : List Tok) → IsSign threads s ts rest → sign_at threads ts ≡ Some (s, rest)
unfolding sign_at word_sign atom_at
sign_again threads (Atom p n) ts rest h = rw (no_short_sign p ts h.1.0 h.1.1, place_among_again threads p ts h.1.0 h.0 h.1.1, value_again n h.1.0 rest h.1.2) refl
sign_again threads (Const true) ts rest h = rw h refl
sign_again threads Not ts rest (inl h) = rw h refl
sign_again threads Not ts rest (inr h) = rw h refl
sign_again threads s ts rest h = rw h refl

pub signs_are_read : (threads : ℕ) → IsRead (IsSign threads) (sign_at threads)
signs_are_read threads = record { takes = sign_takes threads; again = sign_again threads }

-- ---- signs up to the end

-- the signs so far
abbrev pub SignsSoFar : ℕ → List Tok → List SignView → List Tok → Type 0
SignsSoFar threads ts ss rest = SoFar (IsSign threads) the_end (λ zs last. IsSigns threads zs ts last) ss rest

pub no_sign_yet : (threads : ℕ) (ts : List Tok) → SignsSoFar threads ts [] ts
no_sign_yet threads ts = none_yet (IsSign threads) the_end ts

place_at_end : (p : PlaceView) (rest : List Tok) → IsPlace p [] rest → ⊥
place_at_end (Location x) rest (inl h) = let bad = h.1 in cc
place_at_end (Location x) rest (inr h) = let bad = h.1 in cc
place_at_end (Register t r) rest h = let bad = h.1 in cc

no_sign_in_none : (threads : ℕ) (s : SignView) (rest : List Tok) → IsSign threads s [] rest → ⊥
no_sign_in_none threads (Atom p n) rest h = place_at_end p h.1.0 h.1.1
no_sign_in_none threads (Const true) rest h = cc
no_sign_in_none threads Not rest (inl h) = cc
no_sign_in_none threads Not rest (inr h) = cc
no_sign_in_none threads s rest h = cc

no_sign_at_end : (threads : ℕ) (ts : List Tok) → ts ≡ [] → (s : SignView) (rest : List Tok) → IsSign threads s ts rest → ⊥
no_sign_at_end threads ts e s rest h = no_sign_in_none threads s rest (subst (λ (z : List Tok). IsSign threads s z rest) e h)

pub signs_end : (threads : ℕ) (ts : List Tok) (ss : List SignView) (rest : List Tok) → SignsSoFar threads ts ss rest → rest ≡ [] → IsSigns threads ss ts [] × ((zs : List SignView) → IsSigns threads zs ts [] → zs ≡ ss)
signs_end threads ts ss rest s e =
    let d = closed (IsSign threads) the_end (λ zs last. IsSigns threads zs ts last) ss rest [] s (e, refl) (λ other h. h.1) (no_sign_at_end threads rest e) in
    (d.0, λ zs h. (d.1 zs [] h).0)

pub signs_stop : (threads : ℕ) (ts : List Tok) (ss : List SignView) (rest : List Tok) → SignsSoFar threads ts ss rest → (rest ≡ [] → ⊥) → sign_at threads rest ≡ None
    → (zs : List SignView) → IsSigns threads zs ts [] → ⊥
signs_stop threads ts ss rest s some none zs h =
    refused (IsSign threads) the_end (λ us last. IsSigns threads us ts last) ss rest s (λ last e. some e.0) (none_read (IsSign threads) (sign_at threads) (signs_are_read threads) rest none) zs [] h

pub next_sign : (threads : ℕ) (ts : List Tok) (ss : List SignView) (rest : List Tok) (z : SignView) (others : List Tok) → SignsSoFar threads ts ss rest → (rest ≡ [] → ⊥) → sign_at threads rest ≡ Some (z, others)
    → SignsSoFar threads ts (ss ++ z ∷ []) others
next_sign threads ts ss rest z others s some e =
    one_more (IsSign threads) the_end (λ us last. IsSigns threads us ts last) ss rest z others s (λ last h. some h.0)
    (only_read (IsSign threads) (sign_at threads) (signs_are_read threads) rest (z, others) e)

-- ---- whether tokens are left

pub some_left : (tokens : List Token) → (length tokens == 0) ≡ false → toks tokens ≡ [] → ⊥
some_left [] e h = let bad : true ≡ false = e in cc
some_left (t ∷ tokens) e h = cc

pub none_left : (tokens : List Token) → (length tokens == 0) ≡ true → toks tokens ≡ []
none_left [] e = refl
none_left (t ∷ tokens) e = absurd (omega (arith, eqb-true (suc (length tokens)) 0 e))
