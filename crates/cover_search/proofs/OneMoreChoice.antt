-- Each choice is one more.
use Rattle.cover_search.proofs.Vocabulary.{◌≡◌, ℕ, ◌+◌, ◌<◌, [], ◌∷◌, ◌++◌, length, ap, arith, length-append, unwrap_or-slice_get, given_to, with_value, with_source, with_pair, ProgramSketch, with_chosen, choice_count}
use Rattle.std.proofs.lemmas.List.Sums.{sum_by-set}

pub value_counted : (s : ProgramSketch) (t v : ℕ) → t < length s.chosen.given → choice_count (with_chosen s (with_value s.chosen t v)) ≡ choice_count s + 1
value_counted s t v h =
    let sum = sum_by-set length s.chosen.given t (given_to s.chosen t ++ v ∷ []) [] h in
    let is = ap length (unwrap_or-slice_get s.chosen.given t []) in
    let long = length-append (given_to s.chosen t) (v ∷ []) in
    omega arith

pub source_counted : (s : ProgramSketch) (read source : _) → choice_count (with_chosen s (with_source s.chosen read source)) ≡ choice_count s + 1
source_counted s read source = (let long = length-append s.chosen.sources ((read, source) ∷ []) in omega arith)

pub pair_counted : (s : ProgramSketch) (first second : _) → choice_count (with_chosen s (with_pair s.chosen first second)) ≡ choice_count s + 1
pair_counted s first second = (let long = length-append s.chosen.pairs ((first, second) ∷ []) in omega arith)
