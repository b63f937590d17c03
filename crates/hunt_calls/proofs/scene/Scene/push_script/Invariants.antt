use Rattle.hunt_calls.proofs.Vocabulary.{IsSound}
use Rattle.hunt_calls.proofs.scene.Scene.push_script.Given as goal

-- what is in hand stays sound
abbrev pub invariant-loop-word : goal.invariant-loop-word
invariant-loop-word g l = IsSound l.self.hunt.now l.hand
