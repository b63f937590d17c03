-- How many traces a thread has, and in how many ways the traces of all threads may be combined.
use Rattle.std.specs.Prelude.{◌≡◌, ◌≤◌, ◌<◌, ◌+◌, ◌*◌, ℕ, zero, suc, List, [], length, slice_index_or, sum_by}
use Rattle.tso_program.specs.declared.action.Local.{Local}
use Rattle.tso_program.specs.declared.action.Action.{Action, TheVariants.Stop, TheVariants.Go, TheVariants.Wait, TheVariants.Read, TheVariants.Write, TheVariants.Swap}
use Rattle.tso_program.specs.declared.listing.Listing.{Listing}
use Rattle.tso_program.specs.Actions.{loaded}
use Rattle.tso_program.specs.Listings.{action, start_of, code_of}
use Rattle.thread_traces.specs.ValueLists.{AreValueLists}
use Rattle.thread_traces.specs.declared.combinations.Combinations.{Combinations, TheVariants.Exactly, TheVariants.AtLeast}

-- the values of each location, by its number
abbrev pub Values : Type 0
Values = ℕ → List ℕ

-- the lists of values at these places
abbrev pub values_at : List (List ℕ) → Values
values_at lists l = slice_index_or lists l []

-- the traces of a thread that does this next, with what the rest has from each state: a read takes each value of its location in turn
abbrev pub counted : (Local → ℕ) → Values → Action → ℕ
counted rest values Stop = 1
counted rest values (Go next) = rest next
counted rest values (Wait next) = rest next
counted rest values (Write l v next) = rest next
counted rest values (Read l to next) = sum_by (λ v. rest (loaded to v next)) (values l)
counted rest values (Swap l w to next) = sum_by (λ v. rest (loaded to v next)) (values l)

-- the traces from a state on, of at most so many instructions
abbrev pub trace_count : (Local → Action) → Values → ℕ → Local → ℕ
trace_count does values zero s = 1
trace_count does values (suc k) s = counted (trace_count does values k) values (does s)

-- the traces of thread t; jumps lead forward, so it has no more steps than the thread has instructions
abbrev pub traces_of : Listing → Values → ℕ → ℕ
traces_of p values t = trace_count (action p.threads t) values (length (code_of p.threads t)) (start_of p.threads t)

-- one trace of each of the first so many threads, in all ways
abbrev pub combination_count : Listing → Values → ℕ → ℕ
combination_count p values zero = 1
combination_count p values (suc t) = combination_count p values t * traces_of p values t

-- n, where no more than the most are counted
pub record IsCountUpTo (most n count : ℕ) : Type 0 where
  pub within : count ≤ most
  pub there : count ≤ n
  pub exact : count < most → count ≡ n

-- what is said of a number that is counted up to a ceiling: the number, or one above the ceiling that it reaches
abbrev pub CountSays : ℕ → Combinations → ℕ → Type 0
CountSays ceiling (Exactly count) n = count ≡ n
CountSays ceiling (AtLeast count) n = (ceiling < count) × (count ≤ n)

-- the same where so many traces are left to be counted: with more of one more thread a product that is not 0 is above the ceiling
abbrev pub CountSaysSoFar : ℕ → Combinations → ℕ → ℕ → Type 0
CountSaysSoFar ceiling (Exactly count) left n = (count ≡ n) × (0 < count → ceiling < count + left)
CountSaysSoFar ceiling (AtLeast count) left n = (ceiling < count) × (count ≤ n)

-- how many combinations of traces of its threads the program has, counted up to a ceiling
pub record AreCombinations (ceiling : ℕ) (p : Listing) (combinations : Combinations) : Type 0 where
  pub lists : List (List ℕ)
  pub are_lists : AreValueLists p lists
  pub said : CountSays ceiling combinations (combination_count p (values_at lists) (length p.threads))
