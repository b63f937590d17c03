-- Instructions with their runs, one more.
use Rattle.survey_text.proofs.Vocabulary.{◌≡◌, ◌∙◌, ◌+◌, ℕ, suc, List, [], ◌∷◌, ◌++◌, Option, map, map-append, append_assoc, sym, subst, ap, arith, range_with_len, Listing, Label, IsAnswer, AreVisits, IsVisit, first_places, place_of, Visit}
use Rattle.std.proofs.lemmas.List.Elements.{All-push}
use Rattle.gap_list.proofs.Ranges.{range_suc}

-- one of the next instruction
pub one_more_visit : (p : Listing) (places : List (ℕ × ℕ)) (visits : List Visit) (visit : Visit) → AreVisits p places visits → IsVisit p visit → AreVisits p (places ++ place_of visit ∷ []) (visits ++ visit ∷ [])
one_more_visit p places visits visit are is = record {
  named = map-append place_of visits (visit ∷ []) ∙ ap (λ (ps : List (ℕ × ℕ)). ps ++ place_of visit ∷ []) are.named;
  answers = All-push (IsVisit p) visits visit are.answers is;
}

-- the next instruction of thread t
next_place : (t k : ℕ) → first_places t k ++ (t, k) ∷ [] ≡ first_places t (k + 1)
next_place t k =
    let place : ℕ → ℕ × ℕ = λ n. (t, n) in
    sym (map-append place (range_with_len 0 k) (k ∷ []))
    ∙ ap (λ (ns : List ℕ). map place ns) (ap (λ (n : ℕ). range_with_len 0 k ++ n ∷ []) (let e : k ≡ 0 + k = omega arith in e) ∙ sym (range_suc 0 k) ∙ ap (range_with_len 0) (let e : suc k ≡ k + 1 = omega arith in e))

-- one more of thread t, after those of other threads
pub next_visit : (p : Listing) (before : List (ℕ × ℕ)) (t k : ℕ) (run : Option (List Label)) (visits : List Visit) → AreVisits p (before ++ first_places t k) visits → IsAnswer p t k run
    → AreVisits p (before ++ first_places t (k + 1)) (visits ++ record { thread = t; instruction = k; run = run } ∷ [])
next_visit p before t k run visits are is =
    subst (λ (ps : List (ℕ × ℕ)). AreVisits p ps (visits ++ record { thread = t; instruction = k; run = run } ∷ [])) (append_assoc before (first_places t k) ((t, k) ∷ []) ∙ ap (λ (ps : List (ℕ × ℕ)). before ++ ps) (next_place t k))
    (one_more_visit p (before ++ first_places t k) visits (record { thread = t; instruction = k; run = run }) are is)
