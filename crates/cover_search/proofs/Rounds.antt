-- How many steps a search has left: a choice is one more of those that a sketch can have.
use Rattle.cover_search.proofs.Vocabulary.{◌≡◌, ℕ, ◌+◌, ◌-◌, ◌*◌, ◌<◌, ◌≤◌, ap, ◌∙◌, arith, ProgramSketch, mode_in, with_chosen, event_of, Choice, sketch_with, MayChoose, choice_count, most_choices}
use Rattle.candidate_executions.proofs.Sketches.GivenValues.{reads_there}
use Rattle.program_sketches.specs.Kept.{IsLawful}
use Rattle.cover_search.proofs.OneMoreChoice.{value_counted, source_counted, pair_counted}
use Rattle.tree_laws.specs.declared.choice.Choice.TheVariants as choice

-- a choice is one more
pub counted_after : (s : ProgramSketch) (c : Choice) → IsLawful s → MayChoose s c → choice_count (with_chosen s (sketch_with s.chosen c)) ≡ choice_count s + 1
counted_after s (choice.Value t v) lawful may = value_counted s t v (let there = reads_there s.program (mode_in s) s.chosen t may.0 may.1 in let each = lawful.is_sketch.each_thread in omega arith)
counted_after s (choice.Source read source) lawful may = source_counted s (event_of read) source
counted_after s (choice.Order first second) lawful may = pair_counted s (event_of first) (event_of second)

-- how many steps a search has left, one function of it in another
abbrev pub rounds : ProgramSketch → ℕ
rounds s = 4 * (most_choices + 1 - choice_count s)

fewer : (most m n : ℕ) → n ≡ m + 1 → m ≤ most → 4 * (most + 1 - n) + 3 < 4 * (most + 1 - m)
fewer most m n e h = omega arith

pub fewer_rounds : (s next : ProgramSketch) (c : Choice) → IsLawful s → choice_count s ≤ most_choices → MayChoose s c → next ≡ with_chosen s (sketch_with s.chosen c) → rounds next + 3 < rounds s
fewer_rounds s next c lawful few may same = fewer most_choices (choice_count s) (choice_count next) (ap choice_count same ∙ counted_after s c lawful may) few
