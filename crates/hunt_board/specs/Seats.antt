-- A hunt and its seats, as contracts see them.
use Rattle.std.specs.Prelude.{◌≡◌, ℕ, List, Option, None, All, IfSome, map}
use Rattle.std.specs.List.{range_with_len}
use Rattle.atomic_table.specs.Seated.{TableId}
use Rattle.gap_sets.specs.declared.region.Region.{Region}
use Rattle.tso_program.specs.declared.question.Question.{Question}
use Rattle.search_core.specs.Facts.{Serving}
use Rattle.search_core.specs.Ceilings.{problem}
use Rattle.hunt_board.specs.Word.{Word, Known, IsSeatOf, no_ceiling, word_with}

-- a question, the costs of its program's gaps, the table of the ceiling word, and the names of the cells for runs
pub record HuntView : Type 0 where
  pub question : Question
  pub costs : List ℕ
  pub table : TableId
  pub cells : List ℕ

-- the hunt's ceiling word
abbrev pub word_of : HuntView → Word
word_of h = word_with (problem h.question h.costs) h.table

-- the seat's number, the node that it holds, the best set that it has itself confirmed, what it knows of the ceiling word, and how many runs it has posted
pub record SeatView : Type 0 where
  pub number : ℕ
  pub node : Option Region
  pub best : Option Serving
  pub known : Known
  pub posted : ℕ

-- the seat is of the hunt: by the table of its word, and what the seat has confirmed is of the hunt's question
abbrev pub IsOf : HuntView → SeatView → Type 0
IsOf h s = IsSeatOf (word_of h) s.known × IfSome s.best (λ best. best.question ≡ h.question)

-- the seat, holding this node in place of its own
abbrev pub holding_node : SeatView → Option Region → SeatView
holding_node s node = record s { node = node }

-- the seat with another best set
abbrev pub with_best : SeatView → Option Serving → SeatView
with_best s best = record s { best = best }

-- the seat, knowing something else of the ceiling word
abbrev pub with_known : SeatView → Known → SeatView
with_known s known = record s { known = known }

-- the seat with another number of posted runs
abbrev pub with_posted : SeatView → ℕ → SeatView
with_posted s posted = record s { posted = posted }

-- as a seat is at first: it holds nothing, has confirmed nothing, has read no ceiling and has posted no run
abbrev pub IsFresh : HuntView → SeatView → Type 0
IsFresh h s = IsOf h s × (s.node ≡ None) × (s.best ≡ None) × (s.known.least ≡ no_ceiling) × (s.posted ≡ 0)

-- so many seats, numbered from 0
pub record AreFresh (h : HuntView) (count : ℕ) (seats : List SeatView) : Type 0 where
  pub each : All (IsFresh h) seats
  pub numbers : map (λ s. s.number) seats ≡ range_with_len 0 count

-- so many seats, fresh for each hunt with this word
abbrev pub AreFreshAt : Word → ℕ → List SeatView → Type 0
AreFreshAt w count seats = (h : HuntView) → word_of h ≡ w → AreFresh h count seats
