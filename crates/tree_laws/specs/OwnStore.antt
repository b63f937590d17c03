-- The definitions at an example: an early tree, and the tree of whole sketches that it takes the place of.
use Rattle.std.specs.Prelude.{List, [], ◌∷◌}
use Rattle.tso_program.specs.declared.instruction.Reg.TheVariants.{Eax}
use Rattle.tso_program.specs.declared.instruction.Instr.TheVariants.{Load, StoreImm}
use Rattle.tso_program.specs.declared.listing.Listing.{Listing}
use Rattle.tso_program.specs.declared.outcome.Outcome.{Outcome}
use Rattle.tso_program.specs.declared.question.Question.{Question}
use Rattle.tso_program.specs.declared.shown.Shown.TheVariants.{All}
use Rattle.tso_program.specs.Shown.{asked}
use Rattle.tso_machine.specs.Examples.{two_threads, ends_with}
use Rattle.tso_machine.specs.Machine.{Machine}
use Rattle.candidate_executions.specs.declared.event.Kind.TheVariants as union
use Rattle.candidate_executions.specs.Sketches.{empty_sketch}
use Rattle.cert_forest.specs.Trees.{Cover, Value, Source, Cycle, Known}
use Rattle.cert_forest.specs.StoreBuffering.{access, one_child, two_children}
use Rattle.cert_forest.specs.Rule.TheVariants.{Whole, Early}
use Rattle.tree_laws.specs.CoverTrees.{IsValidCoverBy}
use Rattle.tree_laws.specs.TighterModes.{in_mode}

-- the first thread stores 1 to x and loads x, the second loads y
abbrev pub own_store : Listing
own_store = two_threads (StoreImm 0 1 ∷ Load Eax 0 ∷ []) (Load Eax 1 ∷ [])

abbrev pub question : Question
question = asked own_store All

-- the first thread sees its own store
abbrev pub outcomes : List Outcome
outcomes = ends_with 1 0 0 0 1 0 ∷ []

-- its load gives 0: then it reads the initial write, and comes before its own store
abbrev pub unseen : Cover
unseen = Source (access 0 1) (one_child (Cycle union.Location (access 0 0 ∷ access 0 1 ∷ [])))

-- early: no other thread may still write to x, whatever the second load gives
abbrev pub early_tree : Cover
early_tree = Value 0 (two_children unseen (Value 1 (one_child (Known 0))))

-- once each read has its value
abbrev pub whole_tree : Cover
whole_tree = Value 0 (two_children (Value 1 (one_child unseen)) (Value 1 (one_child (Known 0))))

-- each tree is valid by its rule, and the early one only early
pub record OwnStoreIsSeen (mode : Machine) : Type 0 where
  pub early : IsValidCoverBy Early question mode outcomes (in_mode mode early_tree) (empty_sketch own_store)
  pub not_whole : ¬ IsValidCoverBy Whole question mode outcomes (in_mode mode early_tree) (empty_sketch own_store)
  pub whole : IsValidCoverBy Whole question mode outcomes (in_mode mode whole_tree) (empty_sketch own_store)

abbrev pub OwnStoreIsTold : Type 0
OwnStoreIsTold = (mode : Machine) → OwnStoreIsSeen mode
