use Rattle.fence_place.proofs.Vocabulary.{◌≡◌, Foreign}
use Rattle.tree_laws.proofs.Lists.{found_has}
use Rattle.fence_place.proofs.worker.run_at_hand.Goals as goal

pub returns-in-Some : goal.returns-in-Some
returns-in-Some c =
    let found = c.in-Some.ensures in (
      found_has (λ (run : Foreign). run.question ≡ c.args.hunt.now.question) c.args.known.now found.known.0 c.in-Some.run' found.known.1 c.requires,
      found.foreign,
      found.passes_none,
    )
