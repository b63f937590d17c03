-- The answers of store buffering, R and n6 (Sewell et al., CACM 2010, section 2), and of store buffering with a locked exchange.
use Rattle.std.specs.Prelude.{◌≡◌, ℕ, List, [], ◌∷◌}
use Rattle.std.specs.FinSet as set
use Rattle.gap_sets.specs.Laws.{these}
use Rattle.tso_program.specs.declared.listing.Listing.{Listing}
use Rattle.tso_program.specs.declared.shown.Shown.TheVariants.{All, Only}
use Rattle.tso_program.specs.Names.{register_place}
use Rattle.tso_program.specs.Shown.{asked}
use Rattle.tso_program.specs.declared.question.Question.{Question}
use Rattle.tso_machine.specs.Examples.{store_buffering, r, n6, locked_exchange}
use Rattle.the_answer.specs.Answers.{the_answer, least_cost}

-- the program with each outcome shown whole
abbrev pub asked_whole : Listing → Question
asked_whole p = asked p All

-- store buffering needs both gaps, whatever they cost
abbrev pub StoreBufferingIsAnswered : Type 0
StoreBufferingIsAnswered =
    ((costs : List ℕ) → the_answer (asked_whole store_buffering) costs ≡ these (0 ∷ 1 ∷ [])) × (least_cost (asked_whole store_buffering) (1 ∷ 1 ∷ []) ≡ 2)

-- R needs the gap of its second thread
abbrev pub RIsAnswered : Type 0
RIsAnswered = the_answer (asked_whole r) (1 ∷ 1 ∷ []) ≡ these (1 ∷ [])

-- n6 needs a gap of its first thread: the lower where they cost the same, otherwise the cheaper
abbrev pub N6IsAnswered : Type 0
N6IsAnswered = (the_answer (asked_whole n6) (1 ∷ 1 ∷ 1 ∷ []) ≡ these (0 ∷ [])) × (the_answer (asked_whole n6) (5 ∷ 1 ∷ 1 ∷ []) ≡ these (1 ∷ []))

-- n6 as far as `exists (0:EBX=0)` names it: EBX of the first thread, the register of number 1
abbrev pub observed_n6 : Question
observed_n6 = asked n6 (Only (these (register_place 0 1 ∷ [])))

-- there it needs no gap
abbrev pub ObservedN6IsAnswered : Type 0
ObservedN6IsAnswered = the_answer observed_n6 (1 ∷ 1 ∷ 1 ∷ []) ≡ set.empty

-- with an exchange in place of the first thread's store only the second thread's gap is needed
abbrev pub LockedExchangeIsAnswered : Type 0
LockedExchangeIsAnswered = the_answer (asked_whole locked_exchange) (1 ∷ 1 ∷ 1 ∷ []) ≡ these (2 ∷ [])
