-- The outcomes of a machine as a list, by trying each label at each state (this project's own; docs/definitions.md).
use Rattle.std.specs.Prelude.{ℕ, zero, suc, ◌+◌, ◌*◌, ◌&&◌, Bool, true, false, List, [], ◌∷◌, ◌++◌, length, map, max, flat_map, if◌then◌else◌}
use Rattle.std.specs.List.{list_all, range_with_len}
use Rattle.std.specs.Option.{option_map_or}
use Rattle.tso_program.specs.declared.action.Action.{Action, TheVariants.Stop}
use Rattle.tso_program.specs.declared.listing.Thread.{Thread}
use Rattle.tso_program.specs.declared.listing.Listing.{Listing}
use Rattle.tso_program.specs.declared.outcome.Outcome.{Outcome}
use Rattle.tso_program.specs.Listings.{action}
use Rattle.tso_program.specs.Shown.{show}
use Rattle.tso_program.specs.declared.question.Question.{Question}
use Rattle.tso_machine.specs.declared.label.Label.{Label, TheVariants.Exec, TheVariants.Flush}
use Rattle.tso_machine.specs.Machine.{Machine, State, start, step, is_empty, outcome_at}

abbrev pub is_stop : Action → Bool
is_stop Stop = true
is_stop _ = false

-- whether thread t is at its end, with an empty buffer
abbrev pub has_ended : Listing → State → ℕ → Bool
has_ended p s t = is_stop (action p.threads t (s.locals t)) && is_empty (s.buffers t)

-- the numbers of the threads
abbrev pub threads_of : Listing → List ℕ
threads_of p = range_with_len 0 (length p.threads)

-- what may be tried at a state: each thread's next instruction, and its oldest store
abbrev pub labels_to_try : Listing → List Label
labels_to_try p = flat_map (λ t. Exec t ∷ Flush t ∷ []) (threads_of p)

-- the outcome of a state in which each thread has ended
abbrev pub outcomes_here : Listing → State → List Outcome
outcomes_here p s = if list_all (has_ended p s) (threads_of p) then outcome_at p s ∷ [] else []

-- the outcomes that at most so many steps lead to from a state
abbrev pub outcomes_within : Listing → Machine → ℕ → State → List Outcome
outcomes_within p mode zero s = outcomes_here p s
outcomes_within p mode (suc n) s =
    outcomes_here p s ++ flat_map (λ label. option_map_or (outcomes_within p mode n) (step p mode s label) []) (labels_to_try p)

-- how many instructions the longest thread has
abbrev pub longest : List Thread → ℕ
longest [] = 0
longest (thread ∷ threads) = max (length thread.code) (longest threads)

-- no run has more labels: one executes an instruction, and one may flush its store
abbrev pub most_labels : Listing → ℕ
most_labels p = length p.threads * (longest p.threads + longest p.threads)

-- what is shown of the outcomes of the mode's machine, each as often as runs have it
unfoldable pub outcomes_of : Question → Machine → List Outcome
outcomes_of q mode = map (show q.shown) (outcomes_within q.program mode (most_labels q.program) (start q.program))
