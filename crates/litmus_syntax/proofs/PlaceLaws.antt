-- What the readers of names, places and values read is what the grammar says.
use Rattle.litmus_syntax.proofs.Vocabulary.{◌≡◌, ◌∙◌, ◌<◌, ℕ, false, not, List, refl, sym, ap, subst, inl, inr, arith, Some, is_some, nat_lt, lt-ltb, kept_out, nat_tests, cond_some, Tok, word_at, number_at, mark_at, begins_with, Reg, reg_of, is_name}
use Rattle.litmus_syntax.proofs.Vocabulary.{PlaceView, Location, Register, ◌▸◌, mark, number, word_takes, number_takes, mark_takes, number_again, mark_again, begins_again, register, name, memory, IsPlace, HasThread, name_at, register_at, memory_at}
use Rattle.litmus_syntax.proofs.Vocabulary.{thread_register_at, as_location, place_at, names_missing, place_among_at, equals_value_at}
use Rattle.text_tokens.specs.declared.token.Mark.TheVariants as the
use Rattle.litmus_syntax.proofs.Options.{made, next, tested}

-- ---- names

pub name_takes : (ts : List Tok) (x : List ℕ × List Tok) → name_at ts ≡ Some x → name x.0 ts x.1
name_takes ts =
    let is : List ℕ × List Tok → Type 0 = λ x. name x.0 ts x.1 in
    next is (word_at ts) _ (λ w a x e. let b = cond_some (is_name w.0) w x e in subst is b.1 (b.0, word_takes ts w a))

pub name_again : (x : List ℕ) (ts rest : List Tok) → name x ts rest → name_at ts ≡ Some (x, rest)
name_again x ts rest h = rw (h.1, h.0) refl

pub register_takes : (ts : List Tok) (x : Reg × List Tok) → register_at ts ≡ Some x → register x.0 ts x.1
register_takes ts =
    let is : Reg × List Tok → Type 0 = λ x. register x.0 ts x.1 in
    next is (word_at ts) _ (λ w a. made is (reg_of w.0) (λ r. (r, w.1)) (λ r b. (w.0, b, word_takes ts w a)))

pub register_again : (r : Reg) (ts rest : List Tok) → register r ts rest → register_at ts ≡ Some (r, rest)
register_again r ts rest h = rw (h.2, h.1) refl

pub memory_takes : (ts : List Tok) (x : List ℕ × List Tok) → memory_at ts ≡ Some x → memory x.0 ts x.1
unfolding memory_at
memory_takes ts =
    let is : List ℕ × List Tok → Type 0 = λ x. memory x.0 ts x.1 in
    next is (mark_at the.OpenBracket ts) _ (λ us a. next is (name_at us) _ (λ n b.
    made is (mark_at the.CloseBracket n.1) (λ rest. (n.0, rest)) (λ rest d. (us, mark_takes the.OpenBracket ts us a, (n.1, name_takes us n b, mark_takes the.CloseBracket n.1 rest d)))))

pub memory_again : (x : List ℕ) (ts rest : List Tok) → memory x ts rest → memory_at ts ≡ Some (x, rest)
unfolding memory_at
memory_again x ts rest h = rw (mark_again the.OpenBracket ts h.0 h.1, name_again x h.0 h.2.0 h.2.1, mark_again the.CloseBracket h.2.0 rest h.2.2) refl

-- ---- places

pub place_takes : (ts : List Tok) (x : PlaceView × List Tok) → place_at ts ≡ Some x → IsPlace x.0 ts x.1
unfolding place_at thread_register_at
place_takes ts =
    let is : PlaceView × List Tok → Type 0 = λ x. IsPlace x.0 ts x.1 in
    tested is (begins_with the.OpenBracket ts) _ _ (λ h. made is (memory_at ts) as_location (λ n a. inr (memory_takes ts n a)))
    (λ h.
    tested is (is_some (number_at ts)) _ _
    (λ g. next is (number_at ts) _ (λ t a. next is (mark_at the.Colon t.1) _ (λ us b.
    made is (register_at us) (λ r. (Register t.0 r.0, r.1)) (λ r d. (t.1, number_takes ts t a, (us, mark_takes the.Colon t.1 us b, register_takes us r d))))))
    (λ g. made is (name_at ts) as_location (λ n a. inl (name_takes ts n a))))

pub place_again : (p : PlaceView) (ts rest : List Tok) → IsPlace p ts rest → place_at ts ≡ Some (p, rest)
unfolding place_at thread_register_at
place_again (Location x) ts rest (inl h) = rw (h.1, h.0) refl
place_again (Location x) ts rest (inr h) = rw (begins_again the.OpenBracket ts h.0 h.1, memory_again x ts rest h) refl
place_again (Register t r) ts rest h = rw (number_again ts t h.0 h.1, mark_again the.Colon h.0 h.2.0 h.2.1, register_again r h.2.0 rest h.2.2, h.1) refl

-- ---- places of some threads

below : (t n : ℕ) → not (nat_lt t n) ≡ false → t < n
below t n e = grind (arith, nat_tests)

there : (threads : ℕ) (p : PlaceView) (ts rest : List Tok) → IsPlace p ts rest → names_missing threads ts ≡ false → HasThread threads p
there threads (Location x) ts rest h e = tt
there threads (Register t r) ts rest h e = below t threads (sym (ap (names_missing threads) h.1) ∙ e)

named : (threads : ℕ) (p : PlaceView) (ts rest : List Tok) → IsPlace p ts rest → HasThread threads p → names_missing threads ts ≡ false
named threads (Location x) ts rest h e = elim h [ inl n ↦ ap (names_missing threads) n.1 | inr m ↦ ap (names_missing threads) m.1 ]
named threads (Register t r) ts rest h e = ap (names_missing threads) h.1 ∙ ap not (lt-ltb t threads e)

pub place_among_takes : (threads : ℕ) (ts : List Tok) (x : PlaceView × List Tok) → place_among_at threads ts ≡ Some x → HasThread threads x.0 × IsPlace x.0 ts x.1
unfolding place_among_at
place_among_takes threads ts x e =
    let h = kept_out (names_missing threads ts) (place_at ts) x e in
    let p = place_takes ts x h.1 in
    (there threads x.0 ts x.1 p h.0, p)

pub place_among_again : (threads : ℕ) (p : PlaceView) (ts rest : List Tok) → HasThread threads p → IsPlace p ts rest → place_among_at threads ts ≡ Some (p, rest)
unfolding place_among_at
place_among_again threads p ts rest h is = rw (named threads p ts rest is h) (place_again p ts rest is)

-- ---- values

pub value_takes : (ts : List Tok) (x : ℕ × List Tok) → equals_value_at ts ≡ Some x → (mark the.Equals ▸ number x.0) ts x.1
unfolding equals_value_at
value_takes ts = next (λ x. (mark the.Equals ▸ number x.0) ts x.1) (mark_at the.Equals ts) _ (λ us a x b. (us, mark_takes the.Equals ts us a, number_takes us x b))

pub value_again : (n : ℕ) (ts rest : List Tok) → (mark the.Equals ▸ number n) ts rest → equals_value_at ts ≡ Some (n, rest)
unfolding equals_value_at
value_again n ts rest h = rw (mark_again the.Equals ts h.0 h.1, number_again h.0 n rest h.2) refl
