-- The ceiling word as numbers, and what seats know of it.
use Rattle.std.specs.Prelude.{◌≡◌, ℕ, ◌≤◌, ◌⊎◌, true, false, [], length, slice_index, Option, Some, None, min}
use mathlib.Core.Option.{some}
use lib.ListN.{get_elem?}
use Rattle.atomic_table.specs.Table.{State, Step, Me}
use Rattle.atomic_table.specs.Seated.{TableId}
use Rattle.search_core.specs.Answers.{least_cost}
use Rattle.search_core.specs.Ceilings.{Problem, Bound}
use Rattle.hunt_board.specs.declared.rule.View.{View}

-- what the word holds where there is no ceiling
abbrev pub no_ceiling : ℕ
no_ceiling = 18446744073709551615

-- what it holds for a cost, or for no ceiling, which counts as more than any cost
abbrev pub number_of : Option ℕ → ℕ
number_of None = no_ceiling
number_of (Some cost) = cost

-- what the word holds for a ceiling, or for none
abbrev pub ceiling_number : Option Bound → ℕ
ceiling_number None = no_ceiling
ceiling_number (Some bound) = bound.cost

-- what the answer costs
abbrev pub goal_of : Problem → ℕ
goal_of p = least_cost p.question p.costs

-- a word: what it is of, and its table
pub record Word : Type 0 where
  pub problem : Problem
  pub table : TableId

abbrev pub word_with : Problem → TableId → Word
word_with problem table = record { problem = problem; table = table }

-- what a seat knows of a word: its table, what the answer costs, and the least that the seat has read or lowered to
pub record Known : Type 0 where
  pub table : TableId
  pub goal : ℕ
  pub least : ℕ

-- the seat is of the word, and its goal is the word's
pub record IsSeatOf (w : Word) (k : Known) : Type 0 where
  pub table : k.table ≡ w.table
  pub goal : k.goal ≡ goal_of w.problem

abbrev pub with_least : Known → ℕ → Known
with_least k n = record { table = k.table; goal = k.goal; least = n }

-- the seat after the word was lowered: its least is no more than this number nor than before, and the rest is the same
pub record HasLowered (before after : Known) (to : ℕ) : Type 0 where
  pub lowered : after.least ≤ to
  pub least : after.least ≤ before.least
  pub seat : after ≡ with_least before after.least

abbrev pub knows : ℕ → ℕ → View
knows goal least = record { goal = goal; least = least; live = true }

abbrev pub fresh : ℕ → View
fresh goal = knows goal no_ceiling

abbrev pub spent : View
spent = record { goal = 0; least = 0; live = false }

-- what two seats know
abbrev pub both : View → View → View
both v w = knows v.goal (min v.least w.least)

-- there is no ceiling, or it is at least the goal
abbrev pub IsAbove : ℕ → ℕ → Type 0
IsAbove goal n = (n ≡ no_ceiling) ⊎ (goal ≤ n)

-- a view that is not spent has the goal, and its least is not below the word
abbrev pub Fits : ℕ → ℕ → View → Type 0
Fits goal word v = v.live ≡ true → (v.goal ≡ goal) × (word ≤ v.least)

-- the rule: one word, with no ceiling or one that is at least the goal, and views that fit it
pub record Ruled (goal : ℕ) (s : State ℕ View) : Type 0 where
  pub one : length s.words ≡ 1
  pub above : IsAbove goal (slice_index s.words 0)
  pub views : (i : ℕ) (v : View) → get_elem? s.views i ≡ some v → Fits goal (slice_index s.words 0) v

-- the seat holds no slot, is not spent and has the goal
pub record IsLiveSeat (goal : ℕ) (me : Me ℕ View) : Type 0 where
  pub goal_is : me.0.goal ≡ goal
  pub live : me.0.live ≡ true
  pub slots : me.1 ≡ []

-- a seat of the word's table, which has that one word; it holds no slot, is not spent and has the word's goal
pub record SitsAt (table : TableId) (about : Problem) (of : TableId) (me : Me ℕ View) : Type 0 where
  pub of_table : of ≡ table
  pub one_word : table.words ≡ 1
  pub live : IsLiveSeat (goal_of about) me

-- the number found is no more than the seat's least, which it becomes
pub record Loaded (t : Step ℕ) (me : Me ℕ View) (n : ℕ) (after : Me ℕ View) : Type 0 where
  pub found : n ≤ me.0.least
  pub above : IsAbove me.0.goal n
  pub view : after ≡ (knows me.0.goal n, me.1)

-- the seat's least becomes what the word becomes
pub record Lowered (t : Step ℕ) (me : Me ℕ View) (n : ℕ) (after : Me ℕ View) : Type 0 where
  pub found : n ≤ me.0.least
  pub view : after ≡ (knows me.0.goal (min n t.first), me.1)
