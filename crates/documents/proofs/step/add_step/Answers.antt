use Rattle.documents.proofs.Vocabulary.{ℕ, List, [], ◌∷◌, codes, member, on_ok_weaker}
use Rattle.documents.proofs.Told.{added}
use Rattle.documents.proofs.step.add_step.Goals as goal

pub returns : goal.returns
returns c =
    let first : List (List ℕ) = c.args.object.now in
    let label : List ℕ = member (codes "label") c.in_ok-label_text.field-0 in
    let instruction : List ℕ = member (codes "instruction") c.in_ok-instruction.field-0 in
    let reads : List ℕ = member (codes "reads") c.in_ok-reads.field-0 in
    let stores : List ℕ = member (codes "stores") c.in_ok-stores.field-0 in
    let reaches : List ℕ = member (codes "reaches") c.in_ok-reaches.field-0 in
    let buffer : List ℕ = member (codes "buffer") c.in_ok-buffer.field-0 in
    let memory : List ℕ = member (codes "memory") c.in_ok-values.field-0 in
    let registers : List ℕ = member (codes "registers") c.in_ok-register_values.field-0 in
    let two = added first (label ∷ []) instruction _ _ c.in_ok-add.ensures.text c.in_ok-add-2.ensures.text in
    let three = added first (label ∷ instruction ∷ []) reads _ _ two c.in_ok-add-3.ensures.text in
    let four = added first (label ∷ instruction ∷ reads ∷ []) stores _ _ three c.in_ok-add-4.ensures.text in
    let five = added first (label ∷ instruction ∷ reads ∷ stores ∷ []) reaches _ _ four c.in_ok-add-5.ensures.text in
    let six = added first (label ∷ instruction ∷ reads ∷ stores ∷ reaches ∷ []) buffer _ _ five c.in_ok-add-6.ensures.text in
    let seven = added first (label ∷ instruction ∷ reads ∷ stores ∷ reaches ∷ buffer ∷ []) memory _ _ six c.in_ok-add-7.ensures.text in
    on_ok_weaker c.add-8.result (λ more. record {
      part = record { label = c.in_ok-label_text.field-0; instruction = c.in_ok-instruction.field-0; reads = c.in_ok-reads.field-0; stores = c.in_ok-stores.field-0; reaches = c.in_ok-reaches.field-0; buffer = c.in_ok-buffer.field-0; memory = c.in_ok-values.field-0; registers = c.in_ok-register_values.field-0 };
      is = record { labelled = c.in_ok-label_text.ensures; instruction = c.in_ok-add-2.ensures.json; reads = c.in_ok-add-3.ensures.json; stores = c.in_ok-add-4.ensures.json; reaches = c.in_ok-add-5.ensures.json; buffer = c.in_ok-add-6.ensures.json; memory = c.in_ok-add-7.ensures.json; registers = c.add-8.ensures.json };
      added = added first (label ∷ instruction ∷ reads ∷ stores ∷ reaches ∷ buffer ∷ memory ∷ []) registers _ _ seven more;
    }) c.add-8.ensures.text
