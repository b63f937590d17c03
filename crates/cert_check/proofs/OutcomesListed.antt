-- The set of a list's outcomes.
use Rattle.cert_check.proofs.Vocabulary.{◌≡◌, ◌↔◌, ℕ, ◌+◌, ◌<◌, Bool, true, false, List, [], ◌∷◌, ◌++◌, Contains, IsTrue, take, get_or, length, refl, sym, ◌∙◌, subst, inl, inr, ◌⊎◌, cond, Bor, Outcome, borrowed_cmp, take_more, is_eq, BTreeSet, UpdatesBy}
use Rattle.cert_check.proofs.Vocabulary.{contains}
use Rattle.std.proofs.lemmas.List.Elements.{Contains-append_left, Contains-push, Contains-push_cases}
use Rattle.tso_program.specs.Ordered.{outcome_cmp}
use Rattle.tso_program.proofs.OutcomesOrdered.{same_by_order}

-- what a set has after one more, where this says whether it is that one
one_more : (b new old : Bool) {Same Before : Type 0} → new ≡ cond b true old → (b ≡ true) ↔ Same → IsTrue old ↔ Before → IsTrue new ↔ (Before ⊎ Same)
one_more true new old e same before = ((λ yes. inr (same.0 refl)), (λ now. e))
one_more false new old e same before = (
  (λ yes. inl (before.0 (sym e ∙ yes))),
  (λ now. elim now [ inl b ↦ e ∙ before.1 b | inr s ↦ (let no : false ≡ true = same.1 s in absurd cc) ]),
)

-- a set of outcomes has them still, and one more
pub has_one_more : (s n : BTreeSet (Bor Outcome)) (kept : Outcome) (list : List Outcome) (i : ℕ) (d : Outcome) → i < length list → kept ≡ get_or list i d →
    UpdatesBy borrowed_cmp (λ o. outcome_cmp kept o.now) s n true → ((o : Bor Outcome) → IsTrue (contains borrowed_cmp s o) ↔ Contains (take i list) o.now) →
    (o : Bor Outcome) → IsTrue (contains borrowed_cmp n o) ↔ Contains (take (i + 1) list) o.now
has_one_more s n kept list i d fits this updates so_far o =
    let before = take i list in
    let last = get_or list i d in
    let now : IsTrue (contains borrowed_cmp n o) ↔ (Contains before o.now ⊎ (kept ≡ o.now)) =
    one_more (is_eq (outcome_cmp kept o.now)) (contains borrowed_cmp n o) (contains borrowed_cmp s o) (updates.0 o) (same_by_order kept o.now) (so_far o) in
    let joined : take (i + 1) list ≡ before ++ last ∷ [] = take_more list i d fits in (
      (λ yes. subst (λ l. Contains l o.now) (sym joined) (elim (now.0 yes) [
        | inl earlier ↦ Contains-append_left before (last ∷ []) o.now earlier
        | inr same ↦ subst (Contains (before ++ last ∷ [])) (sym this ∙ same) (Contains-push before last)
      ])),
      (λ has. now.1 (elim (Contains-push_cases before last o.now (subst (λ l. Contains l o.now) joined has)) [ inl earlier ↦ inl earlier | inr same ↦ inr (this ∙ same) ])),
    )

-- the outcome, as what a query borrows
abbrev pub borrowed : Outcome → Bor Outcome
borrowed o = record { ref_ptr = (0, 0); now = o }
