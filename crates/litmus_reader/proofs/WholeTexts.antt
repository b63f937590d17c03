-- What the first line, the skipped lines and the tokens of a text say of the whole text.
use Rattle.litmus_reader.proofs.Vocabulary.{◌≡◌, ℕ, List, sym, ◌∙◌, subst, inl, inr, ⊤, IsUtf8, Tok, AreAllTokens, Listing, Litmus, ReadFault, MatchFault, AreSkipped, Means, StandsFor, StandsForNothing, AreReadTokens}
use Rattle.litmus_reader.proofs.Vocabulary.{IsReadOf, HasNoParts, Lexes, LexesTo, RefusesText}
use Rattle.litmus_lines.specs.FirstLine.{IsFirstLine}
use Rattle.litmus_reader.proofs.{Faults.match_map, Whole.parts_whole}

-- what first line, skipped lines and tokens were found
pub record Split (text name lines others : List ℕ) (tokens : List Tok) : Type 0 where
  pub utf8 : IsUtf8 text
  pub first_line : IsFirstLine text name lines
  pub first_only : (n rest : List ℕ) → IsFirstLine text n rest → (name ≡ n) × (lines ≡ rest)
  pub skipped : AreSkipped lines others
  pub skipped_only : (rest : List ℕ) → AreSkipped lines rest → others ≡ rest
  pub lexes : AreAllTokens tokens → Lexes others tokens
  pub lexes_only : (ts : List Tok) → LexesTo others ts → tokens ≡ ts

pub text_read : (text name other lines others : List ℕ) (tokens : List Tok) (litmus : Litmus Listing) → Split text name lines others tokens → other ≡ name → (litmus.name ≡ other) × AreReadTokens tokens litmus → IsReadOf text litmus
text_read text name other lines others tokens litmus split e h =
    let own : litmus.name ≡ name = h.0 ∙ e in
    record {
      lines = lines;
      others = others;
      tokens = tokens;
      utf8 = split.utf8;
      first_line = subst (λ (n : List ℕ). IsFirstLine text n lines) (sym own) split.first_line;
      first_only = λ n rest f. let p = split.first_only n rest f in (own ∙ p.0, p.1);
      skipped = split.skipped;
      skipped_only = split.skipped_only;
      lexes = split.lexes (parts_whole tokens h.1.body h.1.ending h.1.formula h.1.parts);
      lexes_only = λ ts l. split.lexes_only ts (inl l);
      read = h.1;
    }

no_parts : (text name lines others : List ℕ) (tokens : List Tok) → Split text name lines others tokens → HasNoParts tokens → (litmus : Litmus Listing) → StandsFor text litmus → ⊥
no_parts text name lines others tokens split none litmus st =
    let p = split.first_only litmus.name st.lines st.first_line in
    let skipped : AreSkipped lines st.others = subst (λ (l : List ℕ). AreSkipped l st.others) (sym p.1) st.skipped in
    let same : others ≡ st.others = split.skipped_only st.others skipped in
    let lexes : Lexes others st.tokens = subst (λ (l : List ℕ). Lexes l st.tokens) (sym same) st.lexes in
    let m : Means tokens litmus = subst (λ (ts : List Tok). Means ts litmus) (sym (split.lexes_only st.tokens (inl lexes))) st.means in
    none m.body m.ending m.formula m.parts

pub tokens_refused : (text name lines others : List ℕ) (tokens : List Tok) (fault : ReadFault) → Split text name lines others tokens → MatchFault fault ⊥ (λ _. ⊥) ⊤ (HasNoParts tokens)
    → RefusesText text fault
tokens_refused text name lines others tokens fault split h =
    inr (
      record { name = name; lines = lines; others = others; utf8 = split.utf8; first_line = split.first_line; skipped = split.skipped },
      match_map fault ⊥ ⊥ (λ _. ⊥) (λ _. ⊥) ⊤ ⊤ (HasNoParts tokens) (StandsForNothing text) (λ x. x) (λ _ x. x) (λ x. x) (λ none. (split.utf8, no_parts text name lines others tokens split none)) h,
    )
