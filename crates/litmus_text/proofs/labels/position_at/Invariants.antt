use Rattle.litmus_text.proofs.Vocabulary.{◌≡◌, ℕ, ◌+◌, ◌-◌, ◌<◌, ◌≤◌, gaps_in, place_of}
use Rattle.litmus_text.proofs.labels.position_at.Given as goal

-- the place of the position is reached, and those of earlier ones lie before the place that is sought
abbrev pub invariant-loop-reached : goal.invariant-loop-reached
invariant-loop-reached l =
    (l.reached ≡ place_of (gaps_in l.program l.gaps l.t) l.position) × (l.position ≤ l.reached) × (l.reached ≤ l.place + 1)
    × ((j : ℕ) → j < l.position → place_of (gaps_in l.program l.gaps l.t) j < l.place)

abbrev pub decreases-loop-reached : goal.decreases-loop-reached
decreases-loop-reached l = l.place + 1 - l.reached
