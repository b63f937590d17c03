use Rattle.documents.proofs.Vocabulary.{◌≡◌, ◌∙◌, List, ℕ, ◌++◌, ap, on_ok_weaker, sym}
use Rattle.std.proofs.Common.{append-nil, false, true}
use Rattle.documents.proofs.TiedGaps.{none_tied, some_tied}
use Rattle.documents.proofs.answer.add_ties.Goals as goal

pub returns-then-is_single : goal.returns-then-is_single
returns-then-is_single c =
    let object : List (List ℕ) = c.args.object.now in
    let none = none_tied c.args.program.now.threads c.args.ties.now (c.is_single.ensures.value.0 c.if-is_single.true) in
    sym (append-nil object) ∙ ap (λ (ms : List (List ℕ)). object ++ ms) (sym none)

pub returns : goal.returns
returns c =
    let object : List (List ℕ) = c.args.object.now in
    let some = some_tied c.args.program.now.threads c.args.ties.now (λ none. let no : true ≡ false = sym (c.is_single.ensures.value.1 none) ∙ c.if-is_single.false in cc) in
    on_ok_weaker c.add.result (λ more. (rw c.in_ok-ties_array.ensures at more) ∙ ap (λ (ms : List (List ℕ)). object ++ ms) (sym some)) c.add.ensures.text
