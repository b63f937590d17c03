-- Which instructions the sequential runs of a program execute, one by one.
use Rattle.std.specs.Prelude.{◌≡◌, ℕ, List, All, filter, is_none, length, map}
use Rattle.std.specs.List.{count_by, flat_map, range_with_len}
use Rattle.tso_program.specs.declared.listing.Listing.{Listing}
use Rattle.tso_program.specs.declared.listing.Thread.{Thread}
use Rattle.tso_program.specs.Listings.{code_of}
use Rattle.sequential_states.specs.Executions.{IsAnswer}
use Rattle.survey_text.specs.declared.visit.Visit.{Visit}

-- the first instructions of thread t, so many, and all instructions of all threads
abbrev pub first_places : ℕ → ℕ → List (ℕ × ℕ)
first_places t count = map (λ k. (t, k)) (range_with_len 0 count)

abbrev pub thread_places : List Thread → ℕ → List (ℕ × ℕ)
thread_places threads t = first_places t (length (code_of threads t))

abbrev pub instruction_places : List Thread → List (ℕ × ℕ)
instruction_places threads = flat_map (thread_places threads) (range_with_len 0 (length threads))

abbrev pub place_of : Visit → ℕ × ℕ
place_of visit = (visit.thread, visit.instruction)

-- a sequential run that executes the instruction, or none where there is none
abbrev pub IsVisit : Listing → Visit → Type 0
IsVisit p visit = IsAnswer p visit.thread visit.instruction visit.run

-- one of each of these instructions, in their order
pub record AreVisits (p : Listing) (places : List (ℕ × ℕ)) (visits : List Visit) : Type 0 where
  pub named : map place_of visits ≡ places
  pub answers : All (IsVisit p) visits

-- the instructions that no sequential run executes
abbrev pub unexecuted_places : List Visit → List (ℕ × ℕ)
unexecuted_places visits = map place_of (filter (λ visit. is_none visit.run) visits)

-- how many of the instructions no sequential run executes
abbrev pub unexecuted : List Visit → ℕ
unexecuted visits = count_by (λ visit. is_none visit.run) visits

-- the places are those of the program's instructions that no sequential run executes, and a run executes each other one
pub record AreUnexecuted (p : Listing) (places : List (ℕ × ℕ)) : Type 0 where
  pub visits : List Visit
  pub are : AreVisits p (instruction_places p.threads) visits
  pub exact : places ≡ unexecuted_places visits
