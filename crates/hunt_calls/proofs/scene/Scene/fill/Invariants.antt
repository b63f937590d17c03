use Rattle.hunt_calls.proofs.Vocabulary.{IsSound}
use Rattle.hunt_calls.proofs.scene.Scene.fill.Given as goal

-- what is in hand stays sound
abbrev pub invariant-loop : goal.invariant-loop
invariant-loop g l = IsSound l.self.hunt.now l.hand
