-- Tighter modes, and a cover tree in one of them (this project's own definitions; docs/definitions.md).
use Rattle.std.specs.Prelude.{◌≡◌, ℕ, true}
use Rattle.tso_program.specs.Fences.{Gaps}
use Rattle.tso_machine.specs.Machine.{Machine, SequentialMachine, StoreBufferMachine}
use Rattle.candidate_executions.specs.declared.event.Kind.{Kind}
use Rattle.candidate_executions.specs.declared.event.Kind.TheVariants as union
use Rattle.cert_forest.specs.Trees.{Cover, Value, Source, Order, Cycle, Known, Covers, NoCover, MoreCovers}

-- each gap of the first is one of the second
abbrev pub AreGapsAmong : Gaps → Gaps → Type 0
AreGapsAmong fewer more = (t i : ℕ) → fewer t i ≡ true → more t i ≡ true

-- the second mode is no looser than the first: it fences each gap that the first does, or is sequential
abbrev pub IsNoLooser : Machine → Machine → Type 0
IsNoLooser (StoreBufferMachine fewer) (StoreBufferMachine more) = AreGapsAmong fewer more
IsNoLooser (StoreBufferMachine fewer) SequentialMachine = Unit {0}
IsNoLooser SequentialMachine SequentialMachine = Unit {0}
IsNoLooser SequentialMachine (StoreBufferMachine more) = ⊥

-- the union of the mode that has the edges of this one
abbrev pub kind_in : Machine → Kind → Kind
kind_in SequentialMachine kind = union.Sequential
kind_in (StoreBufferMachine gaps) kind = kind

-- the tree, with other unions for its cycles and other numbers for its outcomes
abbrev mutual
  pub changed : (Kind → Kind) → (ℕ → ℕ) → Cover → Cover
  changed kinds place (Value t trees) = Value t (each_changed kinds place trees)
  changed kinds place (Source read trees) = Source read (each_changed kinds place trees)
  changed kinds place (Order first second one other) = Order first second (changed kinds place one) (changed kinds place other)
  changed kinds place (Cycle kind events) = Cycle (kinds kind) events
  changed kinds place (Known number) = Known (place number)

  pub each_changed : (Kind → Kind) → (ℕ → ℕ) → Covers → Covers
  each_changed kinds place NoCover = NoCover
  each_changed kinds place (MoreCovers tree trees) = MoreCovers (changed kinds place tree) (each_changed kinds place trees)

-- the tree, with cycles of the unions of the mode: one with gaps fenced has those of each other such mode
abbrev pub in_mode : Machine → Cover → Cover
in_mode mode = changed (kind_in mode) (λ number. number)
