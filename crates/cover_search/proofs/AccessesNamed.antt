-- Events of threads, and the accesses that name them.
use Rattle.cover_search.proofs.Vocabulary.{Event, Initial, At, IsAccess, given_to, ProgramSketch, mode_in, AccessId, IsThreadEvent}

-- an access is no initial write
pub of_thread : (s : ProgramSketch) (e : Event) → IsAccess s.program (mode_in s) (given_to s.chosen) e → IsThreadEvent e
of_thread s (Initial l) h = h
of_thread s (At t i) h = tt

-- the access that is the event
abbrev pub id_of : Event → AccessId
id_of (Initial l) = record { thread = 0; access = 0 }
id_of (At t i) = record { thread = t; access = i }
