use Rattle.std.proofs.Common.{◌≡◌, ℕ, ◌<◌, true, nat_lt, sym, ◌∙◌, arith}
use Rattle.std.specs.Cmp.{nat_cmp_total}
use Rattle.std.specs.FinSet as set
use Rattle.std.proofs.lemmas.Bool.Decides.{nat_tests}
use Rattle.text_calls.proofs.questions.set_in.Goals as goal

below : (gap n : ℕ) → nat_lt gap n ≡ true → gap < n
below gap n e = grind (arith, nat_tests)

pub returns-then-holds_all : goal.returns-then-holds_all
returns-then-holds_all c gap has =
    let all = set.is_subset-contains nat_cmp_total c.args.set c.all_gaps.result (sym c.holds_all.ensures ∙ c.if-holds_all.true) gap has in
    below gap _ (sym (c.all_gaps.ensures gap) ∙ all)
