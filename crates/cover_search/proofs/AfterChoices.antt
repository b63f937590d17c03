-- The sketch after a choice has all that was chosen, and the choice.
use Rattle.cover_search.proofs.Vocabulary.{◌≡◌, [], ◌∷◌, refl, sym, subst, ProgramSketch, with_chosen, event_of, Choice, sketch_with}
use Rattle.std.proofs.lemmas.List.{append-nil}
use Rattle.exec_axioms.specs.Marks.{ComesAfter}
use Rattle.tree_laws.specs.declared.choice.Choice.TheVariants as choice

-- a choice adds to what is chosen
pub after_choice : (s : ProgramSketch) (c : Choice) → ComesAfter s (with_chosen s (sketch_with s.chosen c))
after_choice s (choice.Value t v) = record { program = refl; mode = refl; sources = ([], sym (append-nil s.chosen.sources)); pairs = ([], sym (append-nil s.chosen.pairs)) }
after_choice s (choice.Source read source) = record { program = refl; mode = refl; sources = ((event_of read, source) ∷ [], refl); pairs = ([], sym (append-nil s.chosen.pairs)) }
after_choice s (choice.Order first second) = record { program = refl; mode = refl; sources = ([], sym (append-nil s.chosen.sources)); pairs = ((event_of first, event_of second) ∷ [], refl) }

-- the sketch that a choice makes comes after the sketch
pub comes_after : (s next : ProgramSketch) (c : Choice) → next ≡ with_chosen s (sketch_with s.chosen c) → ComesAfter s next
comes_after s next c same = subst (ComesAfter s) (sym same) (after_choice s c)
