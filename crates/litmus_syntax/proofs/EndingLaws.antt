-- What the reader of endings reads is what the grammar says.
use Rattle.litmus_syntax.proofs.Vocabulary.{◌≡◌, ◌∙◌, ℕ, List, [], codes, refl, ap, subst, Option, Some, None, Err, MatchOption, Tok, mark_at, begins_with, mark_takes, SyntaxFault, Refused, OutOfMemory, PlaceView, SignView, EndingView, begins_with_word}
use Rattle.litmus_syntax.proofs.Vocabulary.{IsObserved, IsQuantifier, IsSigns, IsEnding, ReadsNone, NoEnding, ReadsEnding, keyword_at, quantifier_at}
use Rattle.text_tokens.specs.declared.token.Mark.TheVariants as the
use Rattle.conditions.specs.declared.condition.Quantifier.{Quantifier, TheVariants.Exists, TheVariants.NotExists, TheVariants.Forall}
use Rattle.litmus_syntax.specs.declared.fault.Refusal.{Refusal}
use Rattle.litmus_syntax.proofs.{ItemLaws.IsRead, ItemLaws.Only, ItemLaws.only_read, ItemLaws.none_read, Options.made, Options.next, Options.tested, WordLaws.keyword_takes}

-- ---- quantifiers

abbrev QuantifierAndRest : Type 0
QuantifierAndRest = Quantifier × List Tok

abbrev Quantifies : List Tok → QuantifierAndRest → Type 0
Quantifies ts x = IsQuantifier x.0 ts x.1

quantifier_takes : (ts : List Tok) (x : QuantifierAndRest) → quantifier_at ts ≡ Some x → Quantifies ts x
unfolding quantifier_at
quantifier_takes ts =
    tested (Quantifies ts) (begins_with the.Tilde ts) _ _
    (λ h. next (Quantifies ts) (mark_at the.Tilde ts) _ (λ us a.
    made (Quantifies ts) (keyword_at (codes "exists") us) (λ rest. (NotExists, rest)) (λ rest b. (us, mark_takes the.Tilde ts us a, keyword_takes (codes "exists") us rest b))))
    (λ h.
    tested (Quantifies ts) (begins_with_word (codes "forall") ts) _ _ (λ g. made (Quantifies ts) (keyword_at (codes "forall") ts) (λ rest. (Forall, rest)) (keyword_takes (codes "forall") ts))
    (λ g. made (Quantifies ts) (keyword_at (codes "exists") ts) (λ rest. (Exists, rest)) (keyword_takes (codes "exists") ts)))

pub quantifier_again : (q : Quantifier) (ts rest : List Tok) → IsQuantifier q ts rest → quantifier_at ts ≡ Some (q, rest)
unfolding quantifier_at
quantifier_again NotExists ts rest h = rw (h.1, h.2) refl
quantifier_again q ts rest h = rw h refl

quantifiers_are_read : IsRead IsQuantifier quantifier_at
quantifiers_are_read = record { takes = quantifier_takes; again = quantifier_again }

-- ---- the ending of its parts

abbrev ending_of : List PlaceView → Quantifier → List SignView → EndingView
ending_of ps q ss = record { observed = ps; quantifier = q; signs = ss }

-- what an ending begins with is what was read
begins : (threads : ℕ) (ts us vs : List Tok) (ps : List PlaceView) (q : Quantifier) → Only (IsObserved threads) ps ts us → quantifier_at us ≡ Some (q, vs) → (e : EndingView) → IsEnding threads e ts
    → (e.observed ≡ ps) × (e.quantifier ≡ q) × IsSigns threads e.signs vs []
begins threads ts us vs ps q o is e h =
    let one = o.1 e.observed h.0 h.1 in
    let only = (only_read IsQuantifier quantifier_at quantifiers_are_read us (q, vs) is).1 e.quantifier h.2.0 (subst (λ (z : List Tok). IsQuantifier e.quantifier z h.2.0) one.1 h.2.1) in
    (one.0, only.0, subst (λ (z : List Tok). IsSigns threads e.signs z []) only.1 h.2.2)

pub ending_is_read : (threads : ℕ) (ts us vs : List Tok) (ps : List PlaceView) (q : Quantifier) (ss : List SignView) → Only (IsObserved threads) ps ts us → quantifier_at us ≡ Some (q, vs)
    → IsSigns threads ss vs [] × ((zs : List SignView) → IsSigns threads zs vs [] → zs ≡ ss) → IsEnding threads (ending_of ps q ss) ts × ((e : EndingView) → IsEnding threads e ts → e ≡ ending_of ps q ss)
ending_is_read threads ts us vs ps q ss o is s = (
  (us, o.0, (vs, quantifier_takes us (q, vs) is, s.0)),
  λ e h.
      let parts = begins threads ts us vs ps q o is e h in
      let last = s.1 e.signs parts.2 in
      ap (λ (z : List PlaceView). ending_of z e.quantifier e.signs) parts.0 ∙ ap (λ (z : Quantifier). ending_of ps z e.signs) parts.1 ∙ ap (ending_of ps q) last,
)

pub no_observed : (threads : ℕ) (ts : List Tok) (f : SyntaxFault) → ReadsNone (IsObserved threads) f ts → ReadsEnding threads (Err f) ts
no_observed threads ts OutOfMemory none = tt
no_observed threads ts (Refused r) none = λ e h. none e.observed h.0 h.1

pub no_quantifier : (threads : ℕ) (ts us : List Tok) (ps : List PlaceView) → Only (IsObserved threads) ps ts us → quantifier_at us ≡ None → NoEnding threads ts
no_quantifier threads ts us ps o none = λ e h.
    none_read IsQuantifier quantifier_at quantifiers_are_read us none e.quantifier h.2.0 (subst (λ (z : List Tok). IsQuantifier e.quantifier z h.2.0) (o.1 e.observed h.0 h.1).1 h.2.1)

pub no_signs : (threads : ℕ) (ts us vs : List Tok) (ps : List PlaceView) (q : Quantifier) → Only (IsObserved threads) ps ts us → quantifier_at us ≡ Some (q, vs) → ((zs : List SignView) → IsSigns threads zs vs [] → ⊥) → NoEnding threads ts
no_signs threads ts us vs ps q o is none = λ e h. none e.signs (begins threads ts us vs ps q o is e h).2

-- what follows from the signs, refused or not
pub carried : (o : Option Refusal) (P A : Type 0) (Q B : Refusal → Type 0) → (P → A) → ((r : Refusal) → Q r → B r) → MatchOption o P Q → MatchOption o A B
carried None P A Q B f g h = f h
carried (Some r) P A Q B f g h = g r h
