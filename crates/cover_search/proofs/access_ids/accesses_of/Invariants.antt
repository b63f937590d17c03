use Rattle.cover_search.proofs.Vocabulary.{◌≡◌, map, take, event_of}
use Rattle.cover_search.proofs.access_ids.accesses_of.Given as goal

abbrev pub invariant-loop-event : goal.invariant-loop-event
invariant-loop-event l = map event_of l.accesses.items ≡ take l.event-index l.events
