-- Initial values, the header row and the rows are spelled in one way.
use Rattle.std.proofs.Common.{◌≡◌, ◌∙◌, ◌+◌, ℕ, true, List, [], ◌∷◌, sym, ap, subst, refl, Option, Some, None}
use Rattle.text_tokens.specs.Tokens.{Tok}
use Rattle.litmus_syntax.specs.Phrases.{mark, Items, end, item}
use Rattle.text_tokens.specs.Parts.{begins_with, rest_of}
use Rattle.litmus_syntax.specs.Views.{CodeView, CellView}
use Rattle.litmus_syntax.specs.Grammar.{IsEntryItem, IsInitial, MoreColumns, last, column, IsHeader, IsCode}
use Rattle.litmus_syntax.specs.Grammar.{IsLabelMark, ends_cell, IsContent, IsCell, IsNextCell, IsCells, IsRowList, IsRows, IsBody}
use Rattle.litmus_syntax.specs.Reading.{entry_at, code_at, label_tokens_at}
use Rattle.text_tokens.specs.declared.token.Mark.TheVariants as the
use Rattle.text_tokens.proofs.PartLaws.{begins_again}
use Rattle.litmus_syntax.proofs.{EntryLaws.entries_are_read, EntryLaws.no_entry, CodeLaws.code_again, CodeLaws.code_begins, CellLaws.labels_are_read, RowLaws.no_row_yet, RowLaws.rows_end}
use Rattle.litmus_syntax.proofs.BodyLaws.{body_is_read}
use Rattle.litmus_text.proofs.OneOfEach.{One, Apart, one_read, only_one, mark_once, items_once}

-- ---- initial values

entries_apart : Apart IsEntryItem (mark the.CloseBrace)
entries_apart ts rest other e h g = no_entry ts rest h e other g

initial_once : One IsInitial
initial_once ts es fs rest other h g =
    let inside : h.0.0 ≡ g.0.0 = mark_once the.OpenBrace ts h.0.0 g.0.0 h.0.1 g.0.1 in
    let items = items_once IsEntryItem (mark the.CloseBrace) (mark the.CloseBrace) (one_read IsEntryItem entry_at entries_are_read.again) entries_apart entries_apart g.0.0 es fs rest other
    (subst (λ (z : List Tok). Items IsEntryItem (mark the.CloseBrace) es z rest) inside h.0.2) g.0.2 in
    (items.0, mark_once the.CloseBrace items.1.0 rest other items.1.1 items.1.2)

-- ---- the header row

columns_once : (k n m : ℕ) (ts rest other : List Tok) → MoreColumns k n ts rest → MoreColumns k m ts other → (n ≡ m) × (rest ≡ other)
columns_once k n m ts rest other (last e h) (last f g) = (sym e ∙ f, mark_once the.Semicolon ts rest other h g)
columns_once k n m ts rest other (last e h) (column g more) = let bad = sym h ∙ g.1 in absurd cc
columns_once k n m ts rest other (column h more) (last f g) = let bad = sym g ∙ h.1 in absurd cc
columns_once k n m ts rest other (column {others = us} h more) (column {others = vs} g others) =
    let first : h.0 ≡ g.0 = mark_once the.Bar ts h.0 g.0 h.1 g.1 in
    let second : us ≡ vs = ap rest_of (sym h.2 ∙ first ∙ g.2) in
    columns_once (k + 1) n m vs rest other (subst (λ (z : List Tok). MoreColumns (k + 1) n z rest) second more) others

header_once : One IsHeader
header_once ts n m rest other h g =
    let first : h.0 ≡ g.0 = ap rest_of (sym h.1 ∙ g.1) in
    columns_once 1 n m g.0 rest other (subst (λ (z : List Tok). MoreColumns 1 n z rest) first h.2) g.2

-- ---- cells

-- no instruction begins as a cell ends
not_over : (c : CodeView) (ts rest : List Tok) → IsCode c ts rest → ends_cell rest ≡ true → ends_cell ts ≡ true → ⊥
not_over c ts rest h over ends = let b = code_begins c ts rest h over in let bad = sym ends ∙ ap ends_cell b.begins in cc

content_once : One IsContent
content_once ts None None rest other h g = (refl, sym h.0 ∙ g.0)
content_once ts None (Some d) rest other h g = absurd (not_over d ts other g.0 g.1 (ap ends_cell h.0 ∙ h.1))
content_once ts (Some c) None rest other h g = absurd (not_over c ts rest h.0 h.1 (ap ends_cell g.0 ∙ g.1))
content_once ts (Some c) (Some d) rest other h g =
    let same = one_read IsCode code_at code_again ts c d rest other h.0 g.0 in
    (ap (λ (z : CodeView). Some z) same.0, same.1)

-- no label stands where an instruction does, or nothing
labels_apart : (c : Option CodeView) → Apart IsLabelMark (IsContent c)
labels_apart None ts rest other l h g = let bad = sym (ap ends_cell h.0 ∙ h.1) ∙ ap ends_cell g.1.1 in cc
labels_apart (Some c) ts rest other l h g =
    let b = code_begins c ts rest h.0 h.1 in
    let same : b.others ≡ g.1.0 = ap rest_of (sym b.begins ∙ g.1.1) in
    let bad = sym b.no_label ∙ ap (begins_with the.Colon) same ∙ begins_again the.Colon g.1.0 other g.1.2 in
    cc

abbrev made : List (List ℕ) → Option CodeView → CellView
made ls c = record { labels = ls; code = c }

cell_once : One IsCell
cell_once ts c d rest other h g =
    let labels = items_once IsLabelMark (IsContent c.code) (IsContent d.code) (one_read IsLabelMark label_tokens_at labels_are_read.again) (labels_apart c.code) (labels_apart d.code) ts c.labels d.labels rest other h g in
    let content = content_once labels.1.0 c.code d.code rest other labels.1.1 labels.1.2 in
    (ap (λ (z : List (List ℕ)). made z c.code) labels.0 ∙ ap (made d.labels) content.0, content.1)

-- ---- rows

next_cell_once : One IsNextCell
next_cell_once ts c d rest other h g =
    let bar : h.0 ≡ g.0 = mark_once the.Bar ts h.0 g.0 h.1 g.1 in
    cell_once g.0 c d rest other (subst (λ (z : List Tok). IsCell c z rest) bar h.2) g.2

cells_apart : Apart IsNextCell (mark the.Semicolon)
cells_apart ts rest other c h g = let bad = sym h ∙ g.1 in cc

cells_once : One IsCells
cells_once ts [] ds rest other h g = absurd h
cells_once ts (c ∷ cs) [] rest other h g = absurd g
cells_once ts (c ∷ cs) (d ∷ ds) rest other h g =
    let first = cell_once ts c d h.0 g.0 h.1 g.1 in
    let more = items_once IsNextCell (mark the.Semicolon) (mark the.Semicolon) next_cell_once cells_apart cells_apart g.0 cs ds rest other
    (subst (λ (z : List Tok). Items IsNextCell (mark the.Semicolon) cs z rest) first.1 h.2) g.2 in (
      ap (λ (z : CellView). z ∷ cs) first.0 ∙ ap (λ (z : List CellView). d ∷ z) more.0,
      mark_once the.Semicolon more.1.0 rest other more.1.1 more.1.2,
    )

nothing_in : (row : List CellView) (rows : List (List CellView)) → row ∷ rows ≡ [] → ⊥
nothing_in row rows e = cc

-- two lists of rows are the same, and end at the same place
row_list_once : (threads : ℕ) (ts : List Tok) (rows others : List (List CellView)) (rest other : List Tok) → IsRowList threads rows ts rest → IsRowList threads others ts other → (rows ≡ others) × (rest ≡ other)
row_list_once threads ts _ _ rest other (end h) (end g) = (refl, sym h.0 ∙ g.0)
row_list_once threads ts _ _ rest other (end h) (item {x = row} {xs = rows} g more) = absurd (nothing_in row rows ((rows_end threads ts [] ts (no_row_yet threads ts) h.1).1 (row ∷ rows) other (item g more)).0)
row_list_once threads ts _ _ rest other (item {x = row} {xs = rows} h more) (end g) = absurd (nothing_in row rows ((rows_end threads ts [] ts (no_row_yet threads ts) g.1).1 (row ∷ rows) rest (item h more)).0)
row_list_once threads ts _ _ rest other (item {x = cs} {xs = rows} {others = us} h more) (item {x = ds} {xs = others} {others = vs} g rows_after) =
    let first = (cells_once ts cs ds us vs h.1 g.1) in
    let next = row_list_once threads vs rows others rest other (subst (λ (z : List Tok). IsRowList threads rows z rest) first.1 more) rows_after in
    (ap (λ (z : List CellView). z ∷ rows) first.0 ∙ ap (λ (z : List (List CellView)). ds ∷ z) next.0, next.1)

rows_once : (threads : ℕ) → One (IsRows threads)
rows_once threads ts rows others rest other h g = row_list_once threads ts rows others rest other h.0 g.0

-- ---- the whole before the ending

pub body_once : One IsBody
body_once ts b d rest other h g =
    let entries = only_one IsInitial initial_once b.entries ts h.0.0 h.0.1 in
    let header = only_one IsHeader header_once b.threads h.0.0 h.0.2.0 h.0.2.1 in
    let rows = only_one (IsRows b.threads) (rows_once b.threads) b.rows h.0.2.0 rest h.0.2.2 in
    let same = (body_is_read ts h.0.0 h.0.2.0 rest b.entries b.threads b.rows entries header h.1 rows).1 d other g in
    (sym same.0, sym same.1)
