-- The table of a run, in which the line of the step that passes a gap is marked.
use Rattle.std.specs.Prelude.{◌≡◌, ◌==◌, ◌&&◌, ◌+◌, ◌-◌, ℕ, Bool, true, false, not, List, [], ◌∷◌, ◌++◌, codes, length, position, if◌then◌else◌}
use Rattle.std.specs.List.{list_any}
use Rattle.std.specs.Option.{option_map_or}
use Rattle.tso_program.specs.declared.listing.Thread.{Thread}
use Rattle.tso_program.specs.declared.listing.Listing.{Listing}
use Rattle.tso_program.specs.Listings.{gap_number}
use Rattle.tso_machine.specs.declared.label.Label.{Label, TheVariants.Exec, TheVariants.Flush}
use Rattle.tso_machine.specs.declared.stepping.Step.{Step}
use Rattle.tso_machine.specs.declared.stepping.ThreadState.{ThreadState}
use Rattle.tso_machine.specs.Machine.{Machine, start}
use Rattle.tso_machine.specs.Steps.{AreSteps}
use Rattle.litmus_reader.specs.declared.litmus.Litmus.{Litmus}
use Rattle.report.specs.Places.{gap_text}
use Rattle.run_views.specs.Tables.{table_text}

-- whether a thread passes a gap in a step with this label: it executes the instruction after the gap while a store of its own waits
abbrev pub passes_from : List Thread → ℕ → Label → ThreadState → Bool
passes_from threads gap (Exec t) before = option_map_or (λ number. number == gap) (gap_number threads t before.local.place) false && not (length before.waiting == 0)
passes_from threads gap (Flush t) before = false

abbrev pub passes_gap : List Thread → ℕ → Step → Bool
passes_gap threads gap made = passes_from threads gap made.label made.before

-- the text with a mark at the end of a line, by how many lines stand before it
abbrev pub mark_line : ℕ → List ℕ → List ℕ → List ℕ
mark_line before mark [] = []
mark_line before mark (byte ∷ text) =
    if (byte == 10) && (before == 0) then mark ++ byte ∷ text else byte ∷ mark_line (if byte == 10 then before - 1 else before) mark text

-- `  <- 0:2`
abbrev pub gap_mark : List Thread → ℕ → List ℕ
gap_mark threads gap = codes "  <-" ++ gap_text threads gap

-- the table with the gap's mark at the end of the line of the first step that passes the gap, where one does: the headings, and a
-- line for each earlier step, stand before it
abbrev pub marked_table : List Thread → ℕ → List Step → List ℕ → List ℕ
marked_table threads gap steps table =
    option_map_or (λ earlier. mark_line (earlier + 1) (gap_mark threads gap) table) (position (passes_gap threads gap) steps) table

-- the marked table of the steps that the labels make in a machine, of which one passes the gap
pub record IsMarkedTableOf (source : Litmus Listing) (machine : Machine) (labels : List Label) (gap : ℕ) (text : List ℕ) : Type 0 where
  pub steps : List Step
  pub made : AreSteps source.program machine (start source.program) labels steps
  pub passing : list_any (passes_gap source.program.threads gap) steps ≡ true
  pub marked : text ≡ marked_table source.program.threads gap steps (table_text source steps)
