-- What holds of the sketch that a choice makes holds of the sketch with the choice.
use Rattle.cover_judge.proofs.Vocabulary.{◌≡◌, List, subst, Result, IfErr, OnOk, Listing, Outcome, Shown, asked, Machine, Sketch, ProgramSketch, mode_in, with_chosen, Cover, Rule, IsValidCoverBy, FirstWrongCover, Choice}
use Rattle.cover_judge.proofs.Vocabulary.{sketch_with, NodeFault, IfWrong, IsValidAfter, IsWrongAt}

pub moved : (F : Listing → Machine → Sketch → Type 0) (s next : ProgramSketch) (c : Choice) → next ≡ with_chosen s (sketch_with s.chosen c) →
    F next.program (mode_in next) next.chosen → F s.program (mode_in s) (sketch_with s.chosen c)
moved F s next c same h = subst (λ (n : ProgramSketch). F n.program (mode_in n) n.chosen) same h

-- so does what is judged of a tree
module _ (rule : Rule) (shown : Shown) (outcomes : List Outcome) (s next : ProgramSketch) (tree : Cover) (c : Choice) (same : next ≡ with_chosen s (sketch_with s.chosen c)) (r : Result (Unit {0}) NodeFault) where
  pub valid_after : OnOk r (IsValidAfter rule shown outcomes next tree next.chosen) → OnOk r (IsValidAfter rule shown outcomes s tree (sketch_with s.chosen c))
  valid_after = moved (λ p mode k. OnOk r (IsValidCoverBy rule (asked p shown) mode outcomes tree k)) s next c same

  pub wrong_after : IfErr r (IfWrong (IsWrongAt rule shown outcomes next tree next.chosen)) → IfErr r (IfWrong (IsWrongAt rule shown outcomes s tree (sketch_with s.chosen c)))
  wrong_after = moved (λ p mode k. IfErr r (IfWrong (FirstWrongCover rule (asked p shown) mode outcomes tree k))) s next c same
