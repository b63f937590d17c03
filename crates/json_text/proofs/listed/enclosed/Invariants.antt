use Rattle.json_text.proofs.Vocabulary.{◌≡◌, ◌∷◌, take, bytes_of_each, with_commas}
use Rattle.json_text.proofs.listed.enclosed.Given as goal

-- the texts so far
abbrev pub invariant-loop-i : goal.invariant-loop-i
invariant-loop-i l = l.out.items ≡ l.first ∷ with_commas (take l.i (bytes_of_each l.items))
