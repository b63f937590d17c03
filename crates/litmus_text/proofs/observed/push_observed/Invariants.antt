use Rattle.litmus_text.proofs.Vocabulary.{◌≡◌, ◌++◌, map, take, text_of, gap, joined_by, observed_place_pieces, place_named}
use Rattle.litmus_text.proofs.observed.push_observed.Given as goal

-- the places so far
abbrev pub invariant-loop-i : goal.invariant-loop-i
invariant-loop-i l = l.out.items ≡ l.initial.out.items ++ text_of (joined_by gap (map observed_place_pieces (map (place_named l.names.locations) (take l.i l.observed))))
