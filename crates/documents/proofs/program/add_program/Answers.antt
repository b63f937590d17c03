use Rattle.documents.proofs.Vocabulary.{ℕ, List, [], ◌∷◌, codes, member, on_ok_weaker}
use Rattle.documents.proofs.Told.{added}
use Rattle.documents.proofs.program.add_program.Goals as goal

pub returns : goal.returns
returns c =
    let first : List (List ℕ) = c.args.object.now in
    let test : List ℕ = member (codes "test") c.in_ok-string.field-0 in
    let condition : List ℕ = member (codes "condition") c.in_ok-condition_text.field-0 in
    let locations : List ℕ = member (codes "locations") c.in_ok-location_names.field-0 in
    let registers : List ℕ = member (codes "registers") c.in_ok-all_register_names.field-0 in
    let initial : List ℕ = member (codes "initial") c.in_ok-initial_values.field-0 in
    let threads : List ℕ = member (codes "threads") c.in_ok-thread_values.field-0 in
    let two = added first (test ∷ []) condition _ _ c.in_ok-add.ensures.text c.in_ok-add-2.ensures.text in
    let three = added first (test ∷ condition ∷ []) locations _ _ two c.in_ok-add-3.ensures.text in
    let four = added first (test ∷ condition ∷ locations ∷ []) registers _ _ three c.in_ok-add-4.ensures.text in
    let five = added first (test ∷ condition ∷ locations ∷ registers ∷ []) initial _ _ four c.in_ok-add-5.ensures.text in
    on_ok_weaker c.add-6.result (λ more. record {
      part = record { test = c.in_ok-string.field-0; condition = c.in_ok-condition_text.field-0; locations = c.in_ok-location_names.field-0; registers = c.in_ok-all_register_names.field-0; initial = c.in_ok-initial_values.field-0; threads = c.in_ok-thread_values.field-0 };
      is = record { test = rw c.as_slice.ensures at c.in_ok-string.ensures; condition = c.in_ok-add-2.ensures.json; locations = c.in_ok-location_names.ensures; registers = c.in_ok-add-4.ensures.json; initial = c.in_ok-add-5.ensures.json; threads = c.add-6.ensures.json };
      added = added first (test ∷ condition ∷ locations ∷ registers ∷ initial ∷ []) threads _ _ five more;
    }) c.add-6.ensures.text
