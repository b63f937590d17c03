use Rattle.known_edges.proofs.Vocabulary.{◌≡◌, ℕ, ◌<◌, get_or}
use Rattle.known_edges.proofs.access_rows.place_of.Given as goal

-- none of the events so far is this one
abbrev pub invariant-loop-i : goal.invariant-loop-i
invariant-loop-i l = (k : ℕ) → k < l.i → get_or l.events k l.event ≡ l.event → ⊥
