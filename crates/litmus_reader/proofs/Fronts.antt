-- A text has a front, or one fault says why it has none.
use Rattle.litmus_reader.proofs.Vocabulary.{◌≡◌, ◌⊎◌, ℕ, List, sym, ◌∙◌, ap, subst, inl, inr, ⊤, IsUtf8, Listing, ProgramFault, Litmus, ReadFault, OutOfMemory, MatchFault, of_lines, LineFault, AreSkipped}
use Rattle.litmus_reader.proofs.Vocabulary.{StandsFor, StandsForNothing, IsReadOf, HasFront, RefusesFront, RefusesText}
use Rattle.litmus_lines.specs.{FirstLine.IsFirstLine, Faults.RefusesFirstLine, Faults.RefusesLines}
use Rattle.litmus_lines.proofs.{FirstLineLaws.first_line_once, FaultLaws.same_first_fault, FaultLaws.same_fault}
use Rattle.litmus_reader.proofs.{Faults.match_map, Faults.match_memory}

-- what is refused has no front
pub no_front : (text : List ℕ) (fault : ReadFault) → RefusesFront text fault → HasFront text → ⊥
no_front text fault (inl r) front = r.none front.utf8
no_front text fault (inr (inl r)) front = r.none front.name front.lines front.first_line
no_front text fault (inr (inr r)) front =
    let p = first_line_once text r.name front.name r.lines front.lines r.first_line front.first_line in
    r.none front.others (subst (λ (l : List ℕ). AreSkipped l front.others) (sym p.1) front.skipped)

-- in one way
pub one_fault : (text : List ℕ) (a b : ReadFault) → RefusesFront text a → RefusesFront text b → a ≡ b
one_fault text a b (inl r) (inl q) = r.at_line ∙ sym q.at_line
one_fault text a b (inl r) (inr (inl q)) = absurd (r.none q.utf8)
one_fault text a b (inl r) (inr (inr q)) = absurd (r.none q.utf8)
one_fault text a b (inr (inl r)) (inl q) = absurd (q.none r.utf8)
one_fault text a b (inr (inr r)) (inl q) = absurd (q.none r.utf8)
one_fault text a b (inr (inl r)) (inr (inl q)) = r.at_line ∙ ap of_lines (same_first_fault text r.why q.why r.refused q.refused) ∙ sym q.at_line
one_fault text a b (inr (inl r)) (inr (inr q)) = absurd (r.none q.name q.lines q.first_line)
one_fault text a b (inr (inr r)) (inr (inl q)) = absurd (q.none r.name r.lines r.first_line)
one_fault text a b (inr (inr r)) (inr (inr q)) =
    let p = first_line_once text r.name q.name r.lines q.lines r.first_line q.first_line in
    r.at_line ∙ ap of_lines (same_fault text q.lines r.why q.why (subst (λ (l : List ℕ). RefusesLines text l r.why) p.1 r.refused) q.refused) ∙ sym q.at_line

-- ---- where a front is

pub front_of : (text : List ℕ) (litmus : Litmus Listing) → StandsFor text litmus → HasFront text
front_of text litmus st = record { name = litmus.name; lines = st.lines; others = st.others; utf8 = st.utf8; first_line = st.first_line; skipped = st.skipped }

pub front_read : (text : List ℕ) (litmus : Litmus Listing) → IsReadOf text litmus → HasFront text
front_read text litmus is = record { name = litmus.name; lines = is.lines; others = is.others; utf8 = is.utf8; first_line = is.first_line; skipped = is.skipped }

-- ---- where the reading stops in the front

pub first_line_refused : (text : List ℕ) (fault : LineFault) → IsUtf8 text → ((name rest : List ℕ) → IsFirstLine text name rest → ⊥) → RefusesFirstLine text fault → RefusesText text (of_lines fault)
first_line_refused text fault utf8 none refused = inl (inr (inl (record { utf8 = utf8; none = none; why = fault; refused = refused; at_line = λ i. of_lines fault })))

pub skipped_lines_refused : (text name lines : List ℕ) (fault : LineFault) → IsUtf8 text → IsFirstLine text name lines → ((rest : List ℕ) → AreSkipped lines rest → ⊥) → RefusesLines text lines fault
    → RefusesText text (of_lines fault)
skipped_lines_refused text name lines fault utf8 first_line none refused =
    inl (inr (inr (record { name = name; lines = lines; utf8 = utf8; first_line = first_line; none = none; why = fault; refused = refused; at_line = λ i. of_lines fault })))

-- ---- a reader of texts within limits, where nothing is read

pub nothing_only : (text : List ℕ) (fault : ReadFault) (other : Litmus Listing) → RefusesText text fault → StandsFor text other → fault ≡ OutOfMemory
nothing_only text fault other (inl r) st = absurd (no_front text fault r (front_of text other st))
nothing_only text fault other (inr h) st = match_memory fault ⊥ (λ _. ⊥) ⊤ (StandsForNothing text) (λ x. x) (λ _ x. x) (λ none. none.1 other st) h.1

pub nothing_refused : (text : List ℕ) (fault : ReadFault) (Breaks : ProgramFault → Type 0) → RefusesText text fault → RefusesFront text fault ⊎ (HasFront text × MatchFault fault ⊥ Breaks ⊤ (StandsForNothing text))
nothing_refused text fault Breaks (inl r) = inl r
nothing_refused text fault Breaks (inr h) =
    inr (h.0, match_map fault ⊥ ⊥ (λ _. ⊥) Breaks ⊤ ⊤ (StandsForNothing text) (StandsForNothing text) (λ x. x) (λ _ x. absurd x) (λ x. x) (λ x. x) h.1)

pub nothing_front : (text : List ℕ) (found fault : ReadFault) → RefusesText text found → RefusesFront text fault → found ≡ fault
nothing_front text found fault (inl r) q = one_fault text found fault r q
nothing_front text found fault (inr h) q = absurd (no_front text fault q h.0)
