-- What the readers of labels and cells read is what the grammar says.
use Rattle.litmus_syntax.proofs.Vocabulary.{◌≡◌, ◌∙◌, ℕ, true, false, List, [], ◌∷◌, ◌++◌, map, append_assoc, refl, sym, ap, subst, inl, inr, Option, Some, None, or_cases, cond_some, same_Some, append-nil, map_push, Tok, Word, word_at, mark_at, begins_with}
use Rattle.litmus_syntax.proofs.Vocabulary.{word_takes, mark_takes, begins_takes, begins_again, is_label, CodeView, CellView, Items, end, item, IsLabelMark, ends_cell, IsContent, IsCell, ◌>>=◌, code_at, begins_label, label_tokens_at, content_at}
use Rattle.litmus_syntax.proofs.Vocabulary.{let_through as cond_parts}
use Rattle.text_tokens.specs.declared.token.Mark.TheVariants as the
use Rattle.litmus_syntax.proofs.ItemLaws.{IsRead, Only, SoFar, only_read, none_read, one_more, refused}
use Rattle.litmus_syntax.proofs.{Options.made, Options.next, Options.tested, CodeLaws.code_takes, CodeLaws.code_again, CodeLaws.code_begins}

-- ---- labels

label_takes : (ts : List Tok) (x : List ℕ × List Tok) → label_tokens_at ts ≡ Some x → IsLabelMark x.0 ts x.1
unfolding label_tokens_at
label_takes ts =
    let is : List ℕ × List Tok → Type 0 = λ x. IsLabelMark x.0 ts x.1 in
    next is (word_at ts) _ (λ w a x e.
    let h = cond_parts (is_label w.0) (mark_at the.Colon w.1 >>= λ rest. Some (w.0, rest)) x e in
    made is (mark_at the.Colon w.1) (λ rest. (w.0, rest)) (λ rest b. (h.0, (w.1, word_takes ts w a, mark_takes the.Colon w.1 rest b))) x h.1)

label_again : (l : List ℕ) (ts rest : List Tok) → IsLabelMark l ts rest → label_tokens_at ts ≡ Some (l, rest)
unfolding label_tokens_at
label_again l ts rest h = rw (h.1.1, h.0, h.1.2) refl

pub labels_are_read : IsRead IsLabelMark label_tokens_at
labels_are_read = record { takes = label_takes; again = label_again }

label_begins : (l : List ℕ) (ts rest : List Tok) → IsLabelMark l ts rest → begins_label ts ≡ true
label_begins l ts rest h = ap begins_label h.1.1 ∙ begins_again the.Colon h.1.0 rest h.1.2

no_label : (ts : List Tok) → begins_label ts ≡ false → (l : List ℕ) (rest : List Tok) → IsLabelMark l ts rest → ⊥
no_label ts e l rest h = let bad = sym e ∙ label_begins l ts rest h in cc

-- ---- an instruction or nothing

content_takes : (ts : List Tok) (x : Option CodeView × List Tok) → content_at ts ≡ Some x → IsContent x.0 ts x.1
unfolding content_at
content_takes ts =
    let is : Option CodeView × List Tok → Type 0 = λ x. IsContent x.0 ts x.1 in
    let none : Option CodeView × List Tok = (None, ts) in
    tested is (ends_cell ts) _ _ (λ h x e. subst is (same_Some none x e) (refl, h))
    (λ h. next is (code_at ts) _ (λ c a x e.
    let some : Option CodeView × List Tok = (Some c.0, c.1) in
    let b = cond_some (ends_cell c.1) some x e in
    subst is b.1 (code_takes ts c a, b.0)))

not_over : (ts : List Tok) (w : List ℕ) (us : List Tok) → ts ≡ Word w ∷ us → ends_cell ts ≡ false
not_over ts w us e = rw e refl

content_again : (c : Option CodeView) (ts rest : List Tok) → IsContent c ts rest → content_at ts ≡ Some (c, rest)
unfolding content_at
content_again None ts rest h = rw (h.0, h.1) refl
content_again (Some c) ts rest h = let b = code_begins c ts rest h.0 h.1 in rw (not_over ts b.mnemonic b.others b.begins, code_again c ts rest h.0, h.1) refl

contents_are_read : IsRead IsContent content_at
contents_are_read = record { takes = content_takes; again = content_again }

ending_no_label : (ts : List Tok) → ends_cell ts ≡ true → begins_label ts ≡ false
ending_no_label ts h =
    elim (or_cases (begins_with the.Bar ts) (begins_with the.Semicolon ts) h) [
      | inl e ↦ ap begins_label (begins_takes the.Bar ts e)
      | inr e ↦ ap begins_label (begins_takes the.Semicolon ts e)
    ]

-- what may follow labels does not begin a label
content_no_label : (c : Option CodeView) (ts rest : List Tok) → IsContent c ts rest → begins_label ts ≡ false
content_no_label None ts rest h = ap begins_label h.0 ∙ ending_no_label rest h.1
content_no_label (Some c) ts rest h = let b = code_begins c ts rest h.0 h.1 in ap begins_label b.begins ∙ b.no_label

more_labels : (c : Option CodeView) (ts : List Tok) → begins_label ts ≡ true → (last : List Tok) → IsContent c ts last → ⊥
more_labels c ts e last h = let bad = sym e ∙ content_no_label c ts last h in cc

-- ---- a cell

-- the labels of a cell so far, whatever follows
abbrev pub LabelsSoFar : List Tok → List (List ℕ) → List Tok → Type 0
LabelsSoFar ts ls rest = (c : Option CodeView) → SoFar IsLabelMark (IsContent c) (λ ks last. Items IsLabelMark (IsContent c) ks ts last) ls rest

pub one_more_label : (ts : List Tok) (ls : List (List ℕ)) (rest : List Tok) (l : List ℕ) (others : List Tok) → LabelsSoFar ts ls rest → begins_label rest ≡ true → label_tokens_at rest ≡ Some (l, others)
    → LabelsSoFar ts (ls ++ l ∷ []) others
one_more_label ts ls rest l others s begins is = λ c.
    one_more IsLabelMark (IsContent c) (λ ks last. Items IsLabelMark (IsContent c) ks ts last) ls rest l others (s c) (more_labels c rest begins) (only_read IsLabelMark label_tokens_at labels_are_read rest (l, others) is)

pub label_stops : (ts : List Tok) (ls : List (List ℕ)) (rest : List Tok) → LabelsSoFar ts ls rest → begins_label rest ≡ true → label_tokens_at rest ≡ None → (c : CellView) (last : List Tok) → IsCell c ts last → ⊥
label_stops ts ls rest s begins none c last h =
    refused IsLabelMark (IsContent c.code) (λ ks o. Items IsLabelMark (IsContent c.code) ks ts o) ls rest (s c.code) (more_labels c.code rest begins) (none_read IsLabelMark label_tokens_at labels_are_read rest none) c.labels last h

pub content_stops : (ts : List Tok) (ls : List (List ℕ)) (rest : List Tok) → LabelsSoFar ts ls rest → begins_label rest ≡ false → content_at rest ≡ None → (c : CellView) (last : List Tok) → IsCell c ts last → ⊥
content_stops ts ls rest s begins none c last h =
    refused IsLabelMark (IsContent c.code) (λ ks o. Items IsLabelMark (IsContent c.code) ks ts o) ls rest (s c.code) (none_read IsContent content_at contents_are_read rest none c.code) (no_label rest begins) c.labels last h

-- where no label comes next, the labels are over
labels_over : (c : Option CodeView) (ts : List Tok) → begins_label ts ≡ false → (ks : List (List ℕ)) (last : List Tok) → Items IsLabelMark (IsContent c) ks ts last → (ks ≡ []) × IsContent c ts last
labels_over c ts e ks last (end h) = (refl, h)
labels_over c ts e ks last (item {x = l} {others = others} h i) = absurd (no_label ts e l others h)

abbrev cell_of : List (List ℕ) → Option CodeView → CellView
cell_of ls c = record { labels = ls; code = c }

pub cell_is_read : (ts : List Tok) (ls : List (List ℕ)) (rest : List Tok) (c : Option CodeView) (last : List Tok) → LabelsSoFar ts ls rest → begins_label rest ≡ false → content_at rest ≡ Some (c, last)
    → Only IsCell (record { labels = ls; code = c }) ts last
cell_is_read ts ls rest c last s begins is = (
  rw append-nil at ((s c).forth [] last (end (content_takes rest (c, last) is))),
  λ d other h.
      let b = (s d.code).back d.labels other h in
      let o = labels_over d.code rest begins b.0 other b.2 in
      let only = (only_read IsContent content_at contents_are_read rest (c, last) is).1 d.code other o.1 in
      let labels : d.labels ≡ ls = b.1 ∙ ap (λ (z : List (List ℕ)). ls ++ z) o.0 ∙ append-nil ls in
      (ap (λ (z : List (List ℕ)). cell_of z d.code) labels ∙ ap (cell_of ls) only.0, only.1),
)

-- the labels of a cell with one more
pub one_more_own : (t : ℕ) (old ls : List (ℕ × List ℕ)) (own : List (List ℕ)) (l : List ℕ) → ls ≡ old ++ map (λ k. (t, k)) own → ls ++ (t, l) ∷ [] ≡ old ++ map (λ k. (t, k)) (own ++ l ∷ [])
one_more_own t old ls own l e =
    ap (λ (z : List (ℕ × List ℕ)). z ++ (t, l) ∷ []) e ∙ append_assoc old (map (λ k. (t, k)) own) ((t, l) ∷ []) ∙ ap (λ (z : List (ℕ × List ℕ)). old ++ z) (sym (map_push (λ k. (t, k)) own l))
