-- The costs of a program's gaps and their ties, with or without a text of them.
use Rattle.std.specs.Prelude.{◌≡◌, ℕ, List, [], Option, Some, None, replicate}
use Rattle.gap_sets.specs.declared.ties.TiedCosts.{TiedCosts}
use Rattle.tso_program.specs.declared.listing.Thread.{Thread}
use Rattle.tso_program.specs.declared.listing.Listing.{Listing}
use Rattle.tso_program.specs.Listings.{gap_count}
use Rattle.cost_text.specs.declared.fault.CostTextFault.{CostTextFault}
use Rattle.cost_text.specs.declared.fault.CostTextFault.TheVariants as fault
use Rattle.cost_text.specs.CostTexts.{IsCostText, RefusesCosts}

-- those that the text gives; or without a text 1 each, and each gap is a tie of its own
abbrev pub AreGiven : Listing → Option (List ℕ) → TiedCosts → Type 0
AreGiven p None costs = (costs.costs ≡ replicate (gap_count p.threads) 1) × (costs.ties ≡ [])
AreGiven p (Some text) costs = IsCostText text p.threads costs

-- why a text gives no costs: what the fault says of it, and that it gives no costs unless the fault is out of memory
pub record IsNoCostText (text : List ℕ) (threads : List Thread) (why : CostTextFault) : Type 0 where
  pub refused : RefusesCosts text threads why
  pub none : (costs : TiedCosts) → IsCostText text threads costs → why ≡ fault.OutOfMemory

-- why there are no costs; without a text only out of memory
abbrev pub AreNotGiven : Listing → Option (List ℕ) → CostTextFault → Type 0
AreNotGiven p None why = why ≡ fault.OutOfMemory
AreNotGiven p (Some text) why = IsNoCostText text p.threads why
