use Rattle.std.proofs.Common.{◌∙◌, ◌==◌, ℕ, List, ap, length, map, nat_lt, sym}
use Rattle.std.specs.List.{slice_split}
use Rattle.std.specs.Borrow.{Bor}
use Rattle.std.proofs.lemmas.Result.{err_from_is_err_and}
use Rattle.program_streams.proofs.Kept.{kept_in, more_than_none}
use Rattle.program_streams.proofs.words.line_words.Goals as goal

pub returns-in_err-word_of-clause-refused : goal.returns-in_err-word_of-clause-refused
returns-in_err-word_of-clause-refused c =
    let parts = c.deref-part-items.result.now in
    let is_some = λ (word : List ℕ). nat_lt 0 (length word) in
    let word = λ (part : Bor (List ℕ)). part.now in
    let some = more_than_none _ (sym c.is_empty.ensures ∙ c.if-not-is_empty.true) in
    let all = ap (map word) c.deref-part-items.ensures.value ∙ c.in_ok-parts.ensures in
    let p = err_from_is_err_and c.from_residual-in_err-word_of.result c.from_residual-in_err-word_of.ensures.1 in
    rw (p.1, p.2) (λ not_utf8. record {
      word = _;
      there = kept_in word is_some parts (slice_split (λ byte. byte == 32) c.args.line.now) c.loop-part.part-index _ all c.loop-part-test.true some;
      no_utf8 = c.in_err-word_of.ensures.refused not_utf8;
    })
