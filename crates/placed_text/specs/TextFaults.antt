-- Why nothing is placed in the program of a text. Out of memory comes anywhere, and only as the fault of that name.
use Rattle.std.specs.Prelude.{◌≡◌, ◌≢◌, ℕ, List, Option, Some, ⊤}
use Rattle.gap_sets.specs.declared.ties.TiedCosts.{TiedCosts}
use Rattle.tso_program.specs.declared.listing.Listing.{Listing}
use Rattle.litmus_reader.specs.declared.litmus.Litmus.{Litmus}
use Rattle.litmus_reader.specs.declared.fault.ReadFault.{ReadFault}
use Rattle.litmus_reader.specs.declared.fault.ReadFault.TheVariants as read_fault
use Rattle.litmus_reader.specs.Texts.{IsLitmus, IsNoLitmus}
use Rattle.litmus_text.specs.CostTextFault.{CostTextFault}
use Rattle.litmus_text.specs.CostTextFault.TheVariants as cost_fault
use Rattle.litmus_text.specs.CostTexts as cost_texts
use Rattle.litmus_text.specs.GivenCosts.{AreGiven}
use Rattle.fence_place.specs.Faults.{AreTooFewOrMany}
use Rattle.placed_text.specs.declared.fault.TextFault.{TextFault}
use Rattle.placed_text.specs.declared.fault.TextFault.TheVariants as fault

-- the text is not a litmus text, for another reason than that memory ran out
abbrev pub IsRefusedText : List ℕ → ReadFault → Type 0
IsRefusedText text why = IsNoLitmus text why × (why ≢ read_fault.OutOfMemory)

abbrev pub HasNoProgram : List ℕ → TextFault → Type 0
HasNoProgram text (fault.Read why) = IsRefusedText text why
HasNoProgram text (fault.CostText why) = ⊥
HasNoProgram text fault.Workers = ⊥
HasNoProgram text fault.OutOfMemory = ⊤

-- a text of costs is given that gives the gaps of the program none, and what the fault says of it
pub record AreNoCosts (p : Listing) (costs : Option (List ℕ)) (why : CostTextFault) : Type 0 where
  pub text : List ℕ
  pub is_given : costs ≡ Some text
  pub refused : cost_texts.RefusesCosts text p.threads why
  pub none : (given : TiedCosts) → cost_texts.IsCostText text p.threads given → ⊥
  pub not_memory : why ≢ cost_fault.OutOfMemory

abbrev pub HasNoCosts : Listing → Option (List ℕ) → TextFault → Type 0
HasNoCosts p costs (fault.Read why) = ⊥
HasNoCosts p costs (fault.CostText why) = AreNoCosts p costs why
HasNoCosts p costs fault.Workers = ⊥
HasNoCosts p costs fault.OutOfMemory = ⊤

-- why no problem is read: the litmus text is judged first
abbrev pub HasNoProblem : List ℕ → Option (List ℕ) → TextFault → Type 0
HasNoProblem litmus costs (fault.Read why) = IsRefusedText litmus why
HasNoProblem litmus costs (fault.CostText why) = (source : Litmus Listing) × IsLitmus litmus source × AreNoCosts source.program costs why
HasNoProblem litmus costs fault.Workers = ⊥
HasNoProblem litmus costs fault.OutOfMemory = ⊤

abbrev pub HasNoPlacement : ℕ → TextFault → Type 0
HasNoPlacement workers (fault.Read why) = ⊥
HasNoPlacement workers (fault.CostText why) = ⊥
HasNoPlacement workers fault.Workers = AreTooFewOrMany workers
HasNoPlacement workers fault.OutOfMemory = ⊤

-- Why there are no texts: the litmus text is judged first, then the costs, then the number of workers.
abbrev pub HasNoPlacedText : List ℕ → Option (List ℕ) → ℕ → TextFault → Type 0
HasNoPlacedText litmus costs workers (fault.Read why) = IsRefusedText litmus why
HasNoPlacedText litmus costs workers (fault.CostText why) = (source : Litmus Listing) × IsLitmus litmus source × AreNoCosts source.program costs why
HasNoPlacedText litmus costs workers fault.Workers =
    (source : Litmus Listing) × (gap_costs : TiedCosts) × IsLitmus litmus source × AreGiven source.program costs gap_costs × AreTooFewOrMany workers
HasNoPlacedText litmus costs workers fault.OutOfMemory = ⊤
