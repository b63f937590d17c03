use Rattle.litmus_text.proofs.Vocabulary.{◌≡◌, ℕ, List, ◌++◌, Option, ap, ◌∙◌, subst, text_of, Instr, instr_at, gaps_in, gap, code_pieces, cell_pieces, label_names_at, own_labels, moved_labels, code_named, Piece, joined_by, sym, map, label_pieces, OnOk}
use Rattle.litmus_text.proofs.Vocabulary.{option_map, append-nil}
use Rattle.litmus_text.proofs.TextsGrow.{between_at, code_more}
use Rattle.litmus_text.proofs.rows.push_cell.Goals as goal

pub returns-in_ok-push_gap-in-Some : goal.returns-in_ok-push_gap-in-Some
returns-in_ok-push_gap-in-Some c =
    let litmus = c.args.litmus.now in
    let own = own_labels (moved_labels (gaps_in litmus.program c.args.gaps.now) 0 litmus.labels) c.args.t in
    let names = label_names_at own c.args.k in
    let named = code_named litmus.names.locations own in
    let out = c.args.out.now.items in
    let grown : c.push_gap.new.out.items ++ text_of (code_pieces (named c.in-Some.code)) ≡ out ++ text_of (cell_pieces (record { labels = names; code = option_map named (instr_at c.args.threads.now c.args.t c.args.k) })) =
    ap (λ (bs : List ℕ). bs ++ text_of (code_pieces (named c.in-Some.code))) (c.in_ok-push_gap-in-Some.ensures ∙ ap (λ (bs : List ℕ). bs ++ between_at gap c.in_ok-labels.labels) c.in_ok-labels.ensures.text)
    ∙ code_more out names (named c.in-Some.code) c.in_ok-labels.labels c.in_ok-labels.ensures.count
    ∙ ap (λ (o : Option Instr). out ++ text_of (cell_pieces (record { labels = names; code = option_map named o }))) c.in-Some.ensures in
    subst (λ (bs : List ℕ). OnOk c.push_code.result (c.push_code.new.out.items ≡ bs)) grown c.push_code.ensures

pub returns-in-None : goal.returns-in-None
returns-in-None c =
    let litmus = c.args.litmus.now in
    let own = own_labels (moved_labels (gaps_in litmus.program c.args.gaps.now) 0 litmus.labels) c.args.t in
    let names = label_names_at own c.args.k in
    let named = code_named litmus.names.locations own in
    c.in_ok-labels.ensures.text
    ∙ (ap (λ (parts : List (List Piece)). c.args.out.now.items ++ text_of (joined_by gap parts)) (sym (append-nil (map label_pieces names))))
    ∙ ap (λ (o : Option Instr). c.args.out.now.items ++ text_of (cell_pieces (record { labels = names; code = option_map named o }))) c.in-None.ensures
