-- Cost files, whole: the costs and the ties that a text gives the gaps of a program.
use Rattle.std.specs.Prelude.{◌≡◌, ◌≢◌, ◌==◌, ℕ, ◌+◌, min, Bool, List, Contains, [], ◌∷◌, ◌++◌, length, map, find, Option, Some, None, option_map, unwrap_or, if◌then◌else◌, ⊤}
use Rattle.std.specs.List.{flat_map, list_all, list_any, range_with_len, slice_split, AllPairs}
use Rattle.std.specs.Option.{option_map_or}
use Rattle.text_tokens.specs.Bytes.{AreLineSpaces}
use Rattle.gap_sets.specs.declared.costs.CostFault.{CostFault}
use Rattle.gap_sets.specs.CostLists.{IsCostList, first_cost_fault}
use Rattle.gap_sets.specs.declared.ties.TiedCosts.{TiedCosts}
use Rattle.tso_program.specs.declared.listing.Thread.{Thread}
use Rattle.tso_program.specs.Listings.{gap_count, gap_number}
use Rattle.cost_text.specs.declared.fault.CostTextFault.{CostTextFault}
use Rattle.cost_text.specs.declared.fault.CostTextFault.TheVariants as fault
use Rattle.cost_text.specs.CostLines.{Place, Said, Says, places_of}

-- ---- the lines of a text

-- the lines of a text, between which an LF stands
abbrev pub lines_of : List ℕ → List (List ℕ)
lines_of text = slice_split (λ b. b == 10) text

-- that these gaps go together, and what they cost
pub record Entry : Type 0 where
  pub gaps : List ℕ
  pub cost : ℕ

-- the gaps at the places, in their order
abbrev pub AreAt : List Thread → List Place → List ℕ → Type 0
AreAt threads [] [] = Unit {0}
AreAt threads [] (gap ∷ gaps) = ⊥
AreAt threads (place ∷ places) [] = ⊥
AreAt threads (place ∷ places) (gap ∷ gaps) = (gap_number threads place.thread place.instruction ≡ Some gap) × AreAt threads places gaps

-- the line says this of gaps of the program
pub record IsCostEntry (threads : List Thread) (line : List ℕ) (entry : Entry) : Type 0 where
  pub said : Said
  pub says : Says line said
  pub gaps : AreAt threads (places_of said) entry.gaps
  pub cost : said.cost ≡ entry.cost

-- each line is blank or says an entry
pub data ListsEntries (threads : List Thread) : List (List ℕ) → List Entry → Type 0 where
  none : ListsEntries threads [] []
  blank : {line : List ℕ} {lines : List (List ℕ)} {entries : List Entry} → AreLineSpaces line → ListsEntries threads lines entries → ListsEntries threads (line ∷ lines) entries
  entry : {line : List ℕ} {lines : List (List ℕ)} {e : Entry} {entries : List Entry} → IsCostEntry threads line e → ListsEntries threads lines entries → ListsEntries threads (line ∷ lines) (e ∷ entries)

-- ---- the costs

-- whether the entry is of the gap
abbrev pub is_of : ℕ → Entry → Bool
is_of gap e = list_any (λ other. other == gap) e.gaps

-- the entry of a gap
abbrev pub entry_of : List Entry → ℕ → Option Entry
entry_of entries gap = find (is_of gap) entries

-- what the entries say that a gap costs
abbrev pub said_of : List Entry → ℕ → Option ℕ
said_of entries gap = option_map (λ e. e.cost) (entry_of entries gap)

-- all gaps of the entries, in their order
abbrev pub gaps_of : List Entry → List ℕ
gaps_of entries = flat_map (λ e. e.gaps) entries

-- no gap is named twice
abbrev pub NoGapTwice : List Entry → Type 0
NoGapTwice entries = AllPairs (λ a b. a ≢ b) (gaps_of entries)

-- the least of some numbers and one more
abbrev pub least_of : List ℕ → ℕ → ℕ
least_of [] least = least
least_of (number ∷ numbers) least = least_of numbers (min number least)

-- the name of a gap: the least gap of its entry, or the gap itself
abbrev pub name_said : List Entry → ℕ → ℕ
name_said entries gap = option_map_or (λ e. least_of e.gaps gap) (entry_of entries gap) gap

-- the names of so many gaps by their numbers; none where no entry is of several gaps
abbrev pub ties_of : ℕ → List Entry → List ℕ
ties_of gaps entries =
    if list_all (λ gap. name_said entries gap == gap) (range_with_len 0 gaps) then [] else map (name_said entries) (range_with_len 0 gaps)

-- the costs of so many gaps by their numbers: 1 where no entry says another
abbrev pub costs_of : ℕ → List Entry → List ℕ
costs_of gaps entries = map (λ gap. unwrap_or (said_of entries gap) 1) (range_with_len 0 gaps)

-- lines that say costs within the limits, and name no gap twice
pub record GiveCosts (threads : List Thread) (lines : List (List ℕ)) (entries : List Entry) : Type 0 where
  pub lists : ListsEntries threads lines entries
  pub once : NoGapTwice entries
  pub within : IsCostList (costs_of (gap_count threads) entries)

-- the text gives the gaps of these threads these costs and ties
pub record IsCostText (text : List ℕ) (threads : List Thread) (costs : TiedCosts) : Type 0 where
  pub entries : List Entry
  pub given : GiveCosts threads (lines_of text) entries
  pub costs_are : costs.costs ≡ costs_of (gap_count threads) entries
  pub ties_are : costs.ties ≡ ties_of (gap_count threads) entries

-- ---- refusals

-- the line of this number, where the lines before it give costs
pub record StandsAt (lines : List (List ℕ)) (threads : List Thread) (number : ℕ) (line : List ℕ) (entries : List Entry) : Type 0 where
  pub before : List (List ℕ)
  pub after : List (List ℕ)
  pub lines_are : lines ≡ before ++ line ∷ after
  pub number_is : number ≡ length before + 1
  pub given : GiveCosts threads before entries

-- the line is not blank and says nothing
pub record SaysNothing (line : List ℕ) : Type 0 where
  pub no_blank : AreLineSpaces line → ⊥
  pub nothing : (said : Said) → Says line said → ⊥

-- the line names a place where no gap is
pub record IsOfNoGap (threads : List Thread) (line : List ℕ) : Type 0 where
  pub said : Said
  pub says : Says line said
  pub place : Place
  pub named : Contains (places_of said) place
  pub no_gap : gap_number threads place.thread place.instruction ≡ None

-- the line names gaps of the program, one of them once more
pub record IsRepeated (threads : List Thread) (entries : List Entry) (line : List ℕ) : Type 0 where
  pub entry : Entry
  pub is : IsCostEntry threads line entry
  pub twice : NoGapTwice (entries ++ entry ∷ []) → ⊥

-- the line says of other gaps that they cost what no gap may: with it, this is the first fault of the list of costs
pub record IsOfNoCost (threads : List Thread) (entries : List Entry) (line : List ℕ) (why : CostFault) : Type 0 where
  pub entry : Entry
  pub is : IsCostEntry threads line entry
  pub new : NoGapTwice (entries ++ entry ∷ [])
  pub refused : first_cost_fault (costs_of (gap_count threads) (entries ++ entry ∷ [])) ≡ Some why

-- why the line of this number cannot follow lines with these entries
abbrev pub IsLineFault : List Thread → List Entry → List ℕ → ℕ → CostTextFault → Type 0
IsLineFault threads entries line number (fault.Line n) = (n ≡ number) × SaysNothing line
IsLineFault threads entries line number (fault.NoSuchGap n) = (n ≡ number) × IsOfNoGap threads line
IsLineFault threads entries line number (fault.Repeated n) = (n ≡ number) × IsRepeated threads entries line
IsLineFault threads entries line number (fault.Cost n why) = (n ≡ number) × IsOfNoCost threads entries line why
IsLineFault threads entries line number fault.OutOfMemory = ⊥

-- the first line that cannot stand, and why it cannot
pub record IsRefusedAt (lines : List (List ℕ)) (threads : List Thread) (why : CostTextFault) : Type 0 where
  pub number : ℕ
  pub line : List ℕ
  pub entries : List Entry
  pub stands : StandsAt lines threads number line entries
  pub fault : IsLineFault threads entries line number why

-- why lines give no costs: one of them cannot stand, or memory is wanting
abbrev pub AreRefused : List (List ℕ) → List Thread → CostTextFault → Type 0
AreRefused lines threads fault.OutOfMemory = ⊤
AreRefused lines threads (fault.Line n) = IsRefusedAt lines threads (fault.Line n)
AreRefused lines threads (fault.NoSuchGap n) = IsRefusedAt lines threads (fault.NoSuchGap n)
AreRefused lines threads (fault.Repeated n) = IsRefusedAt lines threads (fault.Repeated n)
AreRefused lines threads (fault.Cost n why) = IsRefusedAt lines threads (fault.Cost n why)

-- why a text gives the gaps of these threads no costs
abbrev pub RefusesCosts : List ℕ → List Thread → CostTextFault → Type 0
RefusesCosts text threads why = AreRefused (lines_of text) threads why
