use Rattle.documents.proofs.Vocabulary.{ℕ, List, [], ◌∷◌, codes, member, on_ok_weaker}
use Rattle.documents.specs.Documents.{number_or_null, string_or_null}
use Rattle.documents.proofs.Told.{added}
use Rattle.documents.proofs.refusal.add_message.Goals as goal

pub returns : goal.returns
returns c =
    let first : List (List ℕ) = c.args.object.now in
    let message = c.args.message.now in
    let file : List ℕ = member (codes "file") (string_or_null message.file.now) in
    let line : List ℕ = member (codes "line") (number_or_null message.line) in
    let column : List ℕ = member (codes "column") (number_or_null message.column) in
    let word : List ℕ = member (codes "word") (string_or_null message.word.now) in
    let text : List ℕ = member (codes "message") (string_or_null message.text.now) in
    let two = added first (file ∷ []) line _ _ (rw c.in_ok-string_or_null.ensures at c.in_ok-add.ensures.text) (rw c.in_ok-number_or_null.ensures at c.in_ok-add-2.ensures.text) in
    let three = added first (file ∷ line ∷ []) column _ _ two (rw c.in_ok-number_or_null-2.ensures at c.in_ok-add-3.ensures.text) in
    let four = added first (file ∷ line ∷ column ∷ []) word _ _ three (rw c.in_ok-string_or_null-2.ensures at c.in_ok-add-4.ensures.text) in
    on_ok_weaker c.add-5.result (λ more. added first (file ∷ line ∷ column ∷ word ∷ []) text _ _ four (rw c.in_ok-string_or_null-3.ensures at more)) c.add-5.ensures.text
