use Rattle.litmus_reader.proofs.Vocabulary.{◌≡◌, ℕ, false, List, sym, ap, ◌∙◌, is_some, not, CodeLabel, label_in, labels_in, with_label}
use Rattle.litmus_reader.proofs.Targets.{labels_insert, mapped_some}
use Rattle.litmus_reader.proofs.jumps.Targets.add.Goals as goal

pub returns-in_ok-insert : goal.returns-in_ok-insert
returns-in_ok-insert c =
    let label = c.args.label.now in
    let view : labels_in c.self.inside.positions.entries ≡ c.args.self.now = c.self.view_is in
    let seen = ap is_some c.find.ensures ∙ mapped_some (label_in c.args.self.now c.as_slice.result.now) in
    let absent : is_some (label_in (labels_in c.self.inside.positions.entries) label.name) ≡ false =
    ap (λ (ls : List CodeLabel). is_some (label_in ls label.name)) view ∙ ap (λ (name : List ℕ). is_some (label_in c.args.self.now name)) (sym c.as_slice.ensures)
    ∙ sym seen ∙ c.is_none.ensures ∙ ap not c.if-is_none.true in
    ap labels_in c.in_ok-insert.ensures.entries
    ∙ labels_insert c.self.inside.positions.entries c.in_ok-own.own label (c.in_ok-own.ensures.items ∙ c.as_slice-then-is_none.ensures) absent
    ∙ ap (λ (ls : List CodeLabel). with_label ls label) view
