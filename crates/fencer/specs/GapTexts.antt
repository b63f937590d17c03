-- What is printed for the gaps of a program.
use Rattle.std.specs.Prelude.{◌≡◌, ℕ, Bool, true, false, List, [], Option, Some, None, string_bytes, ⊤}
use Rattle.program_streams.specs.declared.fault.FileFault.{FileFault}
use Rattle.program_streams.specs.FileLines.{file_line}
use Rattle.gap_sets.specs.declared.ties.TiedCosts.{TiedCosts}
use Rattle.tso_program.specs.declared.listing.Listing.{Listing}
use Rattle.litmus_text.specs.Litmus.{Litmus}
use Rattle.litmus_text.specs.Texts.{IsLitmus}
use Rattle.litmus_text.specs.CostTexts.{IsCostText}
use Rattle.litmus_text.specs.GivenCosts.{AreGiven}
use Rattle.documents.specs.Documents.{IsGapsDocument}
use Rattle.documents.specs.Notes.{IsLineOf}
use Rattle.gap_list.specs.CostFiles.{cost_file_text}
use Rattle.gap_list.specs.Lists.{IsGapList}
use Rattle.gap_list.specs.TiedFiles.{IsTiedFile}
use Rattle.placed_text.specs.declared.fault.TextFault.{TextFault}
use Rattle.placed_text.specs.declared.fault.TextFault.TheVariants as fault
use Rattle.placed_text.specs.TextFaults.{AreNoCosts, IsRefusedText}
use Rattle.fencer_words.specs.declared.job.GapQuery.{GapQuery}
use Rattle.fencer_words.specs.declared.job.TieQuery.{TieQuery}
use Rattle.fencer_words.specs.CommandFiles.{name_of}
use Rattle.answers.specs.InputTexts.{AreTexts, HasNoTexts}
use Rattle.fencer.specs.Placements.{text_fault_line}
use Rattle.answers.specs.Refused.{RefusalSays}

-- the costs that the list names: those of a text, where one is given
abbrev pub costs_shown : Option (List ℕ) → TiedCosts → Option TiedCosts
costs_shown None costs = None
costs_shown (Some text) costs = Some costs

-- what is asked for: the list, the cost file of all gaps, or one with other costs, in which gaps go together
pub data GapForm : Type 0 where
  Listed : GapForm
  Template : GapForm
  Tied : GapForm

abbrev pub form_by : Option TieQuery → Bool → GapForm
form_by (Some ties) template = Tied
form_by None true = Template
form_by None false = Listed

abbrev pub form_of : GapQuery → GapForm
form_of q = form_by q.ties q.template

-- the list of the gaps; or the cost file of all of them, which is read as their costs
abbrev pub IsGapText : GapForm → Litmus Listing → Option (List ℕ) → TiedCosts → List ℕ → Type 0
IsGapText Listed source text costs lines = IsGapList source (costs_shown text costs) lines
IsGapText Template source text costs lines = (lines ≡ cost_file_text source.program.threads costs) × IsCostText lines source.program.threads costs
IsGapText Tied source text costs lines = IsTiedFile source.program costs.costs lines

-- the line of the document of the gaps and their costs
abbrev pub TellsGapsDocument : Litmus Listing → TiedCosts → List ℕ → Type 0
TellsGapsDocument source costs line = (document : List (List ℕ)) × IsGapsDocument source costs document × IsLineOf document [] line

-- the text in this form, or where it is asked for the line of the document
abbrev pub TellsGaps : Bool → GapForm → Litmus Listing → Option (List ℕ) → TiedCosts → List ℕ → Type 0
TellsGaps false form source text costs lines = IsGapText form source text costs lines
TellsGaps true form source text costs lines = TellsGapsDocument source costs lines

-- the lines are those of the gaps of the program that the litmus text spells, with these costs
pub record PrintsGaps (q : GapQuery) (litmus : List ℕ) (costs : Option (List ℕ)) (lines : List ℕ) : Type 0 where
  pub source : Litmus Listing
  pub of_text : IsLitmus litmus source
  pub gap_costs : TiedCosts
  pub given : AreGiven source.program costs gap_costs
  pub printed : TellsGaps q.json (form_of q) source costs gap_costs lines

-- why there are no such lines: the litmus text is judged first, then the costs
abbrev pub HasNoGaps : List ℕ → Option (List ℕ) → TextFault → Type 0
HasNoGaps litmus costs (fault.Read why) = IsRefusedText litmus why
HasNoGaps litmus costs (fault.CostText why) = (source : Litmus Listing) × IsLitmus litmus source × AreNoCosts source.program costs why
HasNoGaps litmus costs fault.Workers = ⊥
HasNoGaps litmus costs fault.OutOfMemory = ⊤

-- the answer to texts, with its status; or why there is none
pub data AreGapsOfTexts (q : GapQuery) (litmus : List ℕ) (costs : Option (List ℕ)) : ℕ → List ℕ → Type 0 where
  listed : (lines : List ℕ) → PrintsGaps q litmus costs lines → AreGapsOfTexts q litmus costs 0 lines
  refused_for : (why : TextFault) (text : List ℕ) → HasNoGaps litmus costs why → RefusalSays q.json (text_fault_line why) text → AreGapsOfTexts q litmus costs 1 text

-- the answer to what is asked; or why a file isn't read
pub data AreGaps (q : GapQuery) (input : Option (List ℕ)) (files : List ℕ → Option (List ℕ)) : ℕ → List ℕ → Type 0 where
  of_texts : (litmus : List ℕ) (costs : Option (List ℕ)) (status : ℕ) (text : List ℕ) → AreTexts (string_bytes q.litmus) (name_of q.costs) input files litmus costs
      → AreGapsOfTexts q litmus costs status text → AreGaps q input files status text
  no_texts : (why : FileFault) (text : List ℕ) → HasNoTexts (string_bytes q.litmus) (name_of q.costs) input files why → RefusalSays q.json (file_line why) text → AreGaps q input files 1 text
