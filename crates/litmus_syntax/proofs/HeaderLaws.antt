-- What the reader of the header row reads is what the grammar says.
use Rattle.litmus_syntax.proofs.Vocabulary.{◌≡◌, ◌∙◌, ◌+◌, ℕ, false, List, ◌∷◌, refl, sym, ap, subst, Some, None, bytes_eq, cond_some, bytes_eq-Decides, Tok, Word, Sign, word_at, mark_at, begins_with, rest_of, word_takes, mark_takes, mark_again, begins_again}
use Rattle.litmus_syntax.proofs.Vocabulary.{column_name, ReadsNone, SyntaxFault, Refused, OutOfMemory, MoreColumns, last, column, IsHeader, Fails, column_at, fails_for_memory}
use Rattle.text_tokens.specs.declared.token.Mark.TheVariants as the
use Rattle.litmus_syntax.proofs.{Options.next, ItemLaws.Only}

column_takes : (k : ℕ) (ts rest : List Tok) → column_at k ts ≡ Some rest → ts ≡ Word (column_name k) ∷ rest
unfolding column_at
column_takes k ts =
    next (λ rest. ts ≡ Word (column_name k) ∷ rest) (word_at ts) _ (λ w a rest e.
    let b = cond_some (bytes_eq w.0 (column_name k)) w.1 rest e in
    word_takes ts w a ∙ ap (λ (z : List ℕ). Word z ∷ w.1) ((bytes_eq-Decides w.0 (column_name k)).0 b.0) ∙ ap (λ (z : List Tok). Word (column_name k) ∷ z) b.1)

column_again : (k : ℕ) (ts rest : List Tok) → ts ≡ Word (column_name k) ∷ rest → column_at k ts ≡ Some rest
unfolding column_at
column_again k ts rest e = rw (e, (bytes_eq-Decides (column_name k) (column_name k)).1 refl) refl

-- the columns so far are those before number k
pub record ColumnsSoFar (ts : List Tok) (k : ℕ) (rest : List Tok) : Type 0 where
  pub forth : (threads : ℕ) (end : List Tok) → MoreColumns k threads rest end → IsHeader threads ts end
  pub back : (threads : ℕ) (end : List Tok) → IsHeader threads ts end → MoreColumns k threads rest end

pub first_column : (ts rest : List Tok) → column_at 0 ts ≡ Some rest → ColumnsSoFar ts 1 rest
first_column ts rest e =
    let is = column_takes 0 ts rest e in
    record {
      forth = λ n end a. (rest, is, a);
      back = λ n end a. subst (λ (z : List Tok). MoreColumns 1 n z end) (ap rest_of (sym a.1 ∙ is)) a.2;
    }

pub first_stops : (ts : List Tok) (f : SyntaxFault) → Fails fails_for_memory f (column_at 0 ts) → ReadsNone IsHeader f ts
first_stops ts OutOfMemory e = tt
first_stops ts (Refused r) e = λ threads end h. let bad = sym e ∙ column_again 0 ts h.0 h.1 in cc

one_back : (k n : ℕ) (ts after rest end : List Tok) → ts ≡ Sign the.Bar ∷ after → after ≡ Word (column_name k) ∷ rest → MoreColumns k n ts end → MoreColumns (k + 1) n rest end
one_back k n ts after rest end b c (last e h) = let bad = sym b ∙ h in absurd cc
one_back k n ts after rest end b c (column {others = others} h l) =
    let first : h.0 ≡ after = ap rest_of (sym h.1 ∙ b) in
    let second : others ≡ rest = ap rest_of (sym h.2 ∙ first ∙ c) in
    subst (λ (z : List Tok). MoreColumns (k + 1) n z end) second l

pub next_column : (ts : List Tok) (k : ℕ) (rest after others : List Tok) → ColumnsSoFar ts k rest → mark_at the.Bar rest ≡ Some after → column_at k after ≡ Some others → ColumnsSoFar ts (k + 1) others
next_column ts k rest after others s b c =
    let bar = mark_takes the.Bar rest after b in
    let name = column_takes k after others c in
    record {
      forth = λ n end a. s.forth n end (column (after, bar, name) a);
      back = λ n end a. one_back k n rest after others end bar name (s.back n end a);
    }

not_a_column : (k n : ℕ) (ts after end : List Tok) → ts ≡ Sign the.Bar ∷ after → column_at k after ≡ None → MoreColumns k n ts end → ⊥
not_a_column k n ts after end b none (last e h) = let bad = sym b ∙ h in cc
not_a_column k n ts after end b none (column {others = others} h l) =
    let first : h.0 ≡ after = ap rest_of (sym h.1 ∙ b) in
    let bad = sym none ∙ column_again k after others (sym first ∙ h.2) in cc

pub next_stops : (ts : List Tok) (k : ℕ) (rest after : List Tok) (f : SyntaxFault) → ColumnsSoFar ts k rest → mark_at the.Bar rest ≡ Some after → Fails fails_for_memory f (column_at k after) → ReadsNone IsHeader f ts
next_stops ts k rest after OutOfMemory s b e = tt
next_stops ts k rest after (Refused r) s b e = λ threads end h. not_a_column k threads rest after end (mark_takes the.Bar rest after b) e (s.back threads end h)

no_end : (k n : ℕ) (ts end : List Tok) → begins_with the.Bar ts ≡ false → mark_at the.Semicolon ts ≡ None → MoreColumns k n ts end → ⊥
no_end k n ts end e none (last is h) = let bad = sym none ∙ mark_again the.Semicolon ts end h in cc
no_end k n ts end e none (column h l) = let bad = sym e ∙ begins_again the.Bar ts h.0 h.1 in cc

pub header_stops : (ts : List Tok) (k : ℕ) (rest : List Tok) → ColumnsSoFar ts k rest → begins_with the.Bar rest ≡ false → mark_at the.Semicolon rest ≡ None
    → (threads : ℕ) (end : List Tok) → IsHeader threads ts end → ⊥
header_stops ts k rest s e none threads end h = no_end k threads rest end e none (s.back threads end h)

last_is : (k n : ℕ) (ts end other : List Tok) → ts ≡ Sign the.Semicolon ∷ end → MoreColumns k n ts other → (n ≡ k) × (other ≡ end)
last_is k n ts end other b (last e h) = (sym e, ap rest_of (sym h ∙ b))
last_is k n ts end other b (column h l) = let bad = sym b ∙ h.1 in absurd cc

pub header_ends : (ts : List Tok) (k : ℕ) (rest end : List Tok) → ColumnsSoFar ts k rest → mark_at the.Semicolon rest ≡ Some end → Only IsHeader k ts end
header_ends ts k rest end s e =
    let is = mark_takes the.Semicolon rest end e in
    (s.forth k end (last refl is), λ n other h. last_is k n rest end other is (s.back n other h))
