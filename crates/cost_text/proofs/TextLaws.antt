-- Lines, one after the other, and that a text gives costs in one way.
use Rattle.cost_text.proofs.Vocabulary.{◌≡◌, ◌∙◌, ℕ, ◌+◌, ◌<◌, ◌≤◌, List, [], ◌∷◌, ◌++◌, length, get_or, map, take, drop, Some, refl, sym, ap, subst, arith, if◌then◌else◌, range_with_len, append-nil, append_assoc, map_push, take-append-drop, take_more, drop_more, length-take}
use Rattle.cost_text.proofs.Vocabulary.{flat_map-append, CostFault, IsCostList, first_cost_fault, AreTies, MAX_GAPS, TiedCosts, Thread, gap_count, CostTextFault, AreLineSpaces, Said, places_of, CostEntry, kept, cost_in, has_no_ties, names_in, IsCostTable, IsNewEntry, IsTableOfLines}
use Rattle.cost_text.proofs.Vocabulary.{Entry, IsCostEntry, AreAt, ListsEntries, none, blank, entry, NoGapTwice, gaps_of, costs_of, ties_of, GiveCosts, IsCostText, StandsAt, IsLineFault, IsRefusedAt, AreRefused, RefusesCosts, lines_of, IsOfNoCost, IsOfNoGap, IsRepeated, SaysNothing}
use Rattle.cost_text.proofs.Vocabulary.{no_fault-from_IsCostList}
use Rattle.cost_text.specs.declared.fault.CostTextFault.TheVariants as fault
use Rattle.cost_text.proofs.LineLaws.{said_once, blank_says_nothing}
use Rattle.cost_text.proofs.Once.{NoneTwice, front}
use Rattle.cost_text.proofs.EntryLaws.{names_are_ties}
use Rattle.cost_text.proofs.Kept.{costs_kept, names_kept, ties_kept}
use Rattle.cost_text.proofs.CostLaws.{IsCost, cost_of_entry, length-costs_of, no_costs, within_more}
use Rattle.cost_text.proofs.Gathered.{at_once, at_below, first_gap, not_at}

-- ---- one more line

lists_more : (threads : List Thread) (before lines : List (List ℕ)) (entries more : List Entry) → ListsEntries threads before entries → ListsEntries threads lines more → ListsEntries threads (before ++ lines) (entries ++ more)
lists_more threads _ lines _ more none ends = ends
lists_more threads _ lines entries more (blank {lines = before} is rest) ends = blank is (lists_more threads before lines entries more rest ends)
lists_more threads _ lines _ more (entry {lines = before} {e = e} {entries = others} is rest) ends = entry is (lists_more threads before lines others more rest ends)

-- before the first line
pub first_table : (threads : List Thread) → gap_count threads ≤ MAX_GAPS → IsTableOfLines threads [] []
first_table threads few = record { entries = []; given = record { lists = none; once = λ i j d lt within. absurd (omega (arith, within)); within = no_costs (gap_count threads) few }; table_is = refl }

-- what a table of lines says of the one that is read next
pub is_table : (threads : List Thread) (lines : List (List ℕ)) (table : List CostEntry) (t : IsTableOfLines threads lines table) → IsCostTable threads t.entries table
is_table threads lines table t = record { table_is = t.table_is; once = t.given.once; within = t.given.within }

-- after a blank line
pub blank_more : (threads : List Thread) (lines : List (List ℕ)) (i : ℕ) (line : List ℕ) (table : List CostEntry) → i < length lines → line ≡ get_or lines i [] → AreLineSpaces line → IsTableOfLines threads (take i lines) table → IsTableOfLines threads (take (i + 1) lines) table
blank_more threads lines i line table lt is blank_line t =
    let more : ListsEntries threads (take i lines ++ line ∷ []) (t.entries ++ []) = lists_more threads (take i lines) (line ∷ []) t.entries [] t.given.lists (blank blank_line none) in
    record {
      entries = t.entries;
      given = record { lists = rw (take_more lines i [] lt, ← is) (rw append-nil at more); once = t.given.once; within = t.given.within };
      table_is = t.table_is;
    }

-- after an entry
pub entry_more : (threads : List Thread) (lines : List (List ℕ)) (i : ℕ) (line : List ℕ) (table : List CostEntry) (found : CostEntry) → i < length lines → line ≡ get_or lines i [] → (t : IsTableOfLines threads (take i lines) table)
    → IsNewEntry threads t.entries line found → IsTableOfLines threads (take (i + 1) lines) (table ++ found ∷ [])
entry_more threads lines i line table found lt is t new =
    let more : ListsEntries threads (take i lines ++ line ∷ []) (t.entries ++ new.entry ∷ []) = lists_more threads (take i lines) (line ∷ []) t.entries (new.entry ∷ []) t.given.lists (entry new.is none) in
    record {
      entries = t.entries ++ new.entry ∷ [];
      given = record {
        lists = rw (take_more lines i [] lt, ← is) more;
        once = new.new;
        within = within_more (gap_count threads) t.entries new.entry new.new t.given.within new.some new.within;
      };
      table_is = ap (λ (x : List CostEntry). x ++ found ∷ []) t.table_is ∙ ap (λ (x : CostEntry). map kept t.entries ++ x ∷ []) new.found_is ∙ sym (map_push kept t.entries new.entry);
    }

-- at a line that cannot stand
stands_at : (threads : List Thread) (lines : List (List ℕ)) (i : ℕ) (line : List ℕ) (table : List CostEntry) → i < length lines → line ≡ get_or lines i [] → (t : IsTableOfLines threads (take i lines) table)
    → StandsAt lines threads (i + 1) line t.entries
stands_at threads lines i line table lt is t = record {
  before = take i lines;
  after = drop (i + 1) lines;
  lines_are = sym (take-append-drop i lines) ∙ ap (λ (x : List (List ℕ)). take i lines ++ x) (drop_more lines i [] lt ∙ ap (λ (x : List ℕ). x ∷ drop (i + 1) lines) (sym is));
  number_is = omega (arith, length-take i lines);
  given = t.given;
}

pub refused_there : (threads : List Thread) (lines : List (List ℕ)) (i : ℕ) (line : List ℕ) (table : List CostEntry) (why : CostTextFault) → i < length lines → line ≡ get_or lines i [] → (t : IsTableOfLines threads (take i lines) table)
    → IsLineFault threads t.entries line (i + 1) why → AreRefused lines threads why
refused_there threads lines i line table fault.OutOfMemory lt is t f = tt
refused_there threads lines i line table why lt is t f = record { number = i + 1; line = line; entries = t.entries; stands = stands_at threads lines i line table lt is t; fault = f }

-- ---- lines say their entries in one way

entry_once : (threads : List Thread) (line : List ℕ) (a b : Entry) → IsCostEntry threads line a → IsCostEntry threads line b → a ≡ b
entry_once threads line a b is also =
    let same : is.said ≡ also.said = said_once line is.said also.said is.says also.says in
    let gaps : a.gaps ≡ b.gaps = at_once threads (places_of also.said) a.gaps b.gaps (subst (λ (s : Said). AreAt threads (places_of s) a.gaps) same is.gaps) also.gaps in
    let costs : a.cost ≡ b.cost = sym is.cost ∙ ap (λ (s : Said). s.cost) same ∙ also.cost in
    λ i. record { gaps = gaps i; cost = costs i }

no_entry : (threads : List Thread) (line : List ℕ) (e : Entry) → AreLineSpaces line → IsCostEntry threads line e → ⊥
no_entry threads line e blank_line is = blank_says_nothing line blank_line is.said is.says

lists_once : (threads : List Thread) (lines : List (List ℕ)) (es fs : List Entry) → ListsEntries threads lines es → ListsEntries threads lines fs → es ≡ fs
lists_once threads _ _ _ none none = refl
lists_once threads _ es fs (blank {lines = lines} is more) (blank also others) = lists_once threads lines es fs more others
lists_once threads _ es _ (blank {line = line} is more) (entry {e = f} also others) = absurd (no_entry threads line f is also)
lists_once threads _ _ fs (entry {line = line} {e = e} is more) (blank also others) = absurd (no_entry threads line e also is)
lists_once threads _ _ _ (entry {line = line} {lines = lines} {e = e} {entries = es} is more) (entry {e = f} {entries = fs} also others) =
    ap (λ (x : Entry). x ∷ es) (entry_once threads line e f is also) ∙ ap (λ (x : List Entry). f ∷ x) (lists_once threads lines es fs more others)

-- the entries of lines in two parts
record Parts (threads : List Thread) (before lines : List (List ℕ)) (entries : List Entry) : Type 0 where
  front : List Entry
  back : List Entry
  entries_are : entries ≡ front ++ back
  in_front : ListsEntries threads before front
  behind : ListsEntries threads lines back

parts : (threads : List Thread) (before lines : List (List ℕ)) (entries : List Entry) → ListsEntries threads (before ++ lines) entries → Parts threads before lines entries
parts threads [] lines entries all = record { front = []; back = entries; entries_are = refl; in_front = none; behind = all }
parts threads (line ∷ before) lines entries (blank is more) =
    let p = parts threads before lines entries more in
    record { front = p.front; back = p.back; entries_are = p.entries_are; in_front = blank is p.in_front; behind = p.behind }
parts threads (line ∷ before) lines _ (entry {e = e} {entries = entries} is more) =
    let p = parts threads before lines entries more in
    record { front = e ∷ p.front; back = p.back; entries_are = ap (λ (x : List Entry). e ∷ x) p.entries_are; in_front = entry is p.in_front; behind = p.behind }

-- ---- what is refused gives no costs

-- the line after those that give some entries, in lines that give all
data IsNext (threads : List Thread) (entries : List Entry) (line : List ℕ) (all : List Entry) : Type 0 where
  says_none : AreLineSpaces line → IsNext threads entries line all
  says : (e : Entry) (more : List Entry) → IsCostEntry threads line e → all ≡ entries ++ e ∷ more → IsNext threads entries line all

by_first : (threads : List Thread) (entries : List Entry) (line : List ℕ) (after : List (List ℕ)) (all back : List Entry) → all ≡ entries ++ back → ListsEntries threads (line ∷ after) back → IsNext threads entries line all
by_first threads entries line after all back is (blank blank_line more) = says_none blank_line
by_first threads entries line after all _ is (entry {e = e} {entries = rest} says_it more) = says e rest says_it is

next : (threads : List Thread) (lines : List (List ℕ)) (number : ℕ) (line : List ℕ) (entries all : List Entry) → StandsAt lines threads number line entries → ListsEntries threads lines all → IsNext threads entries line all
next threads lines number line entries all s lists =
    let p = parts threads s.before (line ∷ s.after) all (subst (λ (x : List (List ℕ)). ListsEntries threads x all) s.lines_are lists) in
    let same : p.front ≡ entries = lists_once threads s.before p.front entries p.in_front s.given.lists in
    by_first threads entries line s.after all p.back (p.entries_are ∙ ap (λ (x : List Entry). x ++ p.back) same) p.behind

silent : (threads : List Thread) (entries all : List Entry) (line : List ℕ) → SaysNothing line → IsNext threads entries line all → ⊥
silent threads entries all line s (says_none blank_line) = s.no_blank blank_line
silent threads entries all line s (says e more is all_are) = s.nothing is.said is.says

no_gap : (threads : List Thread) (entries all : List Entry) (line : List ℕ) → IsOfNoGap threads line → IsNext threads entries line all → ⊥
no_gap threads entries all line n (says_none blank_line) = blank_says_nothing line blank_line n.said n.says
no_gap threads entries all line n (says e more is all_are) =
    let same : is.said ≡ n.said = said_once line is.said n.said is.says n.says in
    not_at threads (places_of n.said) e.gaps n.place (subst (λ (s : Said). AreAt threads (places_of s) e.gaps) same is.gaps) n.named n.no_gap

-- of entries that name no gap twice so do the first
once_before : (entries more : List Entry) (e : Entry) → NoGapTwice (entries ++ e ∷ more) → NoGapTwice (entries ++ e ∷ [])
once_before entries more e once =
    let parts : gaps_of ((entries ++ e ∷ []) ++ more) ≡ gaps_of (entries ++ e ∷ []) ++ gaps_of more = flat_map-append (λ (x : Entry). x.gaps) (entries ++ e ∷ []) more in
    front (gaps_of (entries ++ e ∷ [])) (gaps_of more) (subst NoneTwice (ap gaps_of (sym (append_assoc entries (e ∷ []) more)) ∙ parts) once)

repeated : (threads : List Thread) (entries all : List Entry) (line : List ℕ) → NoGapTwice all → IsRepeated threads entries line → IsNext threads entries line all → ⊥
repeated threads entries all line once r (says_none blank_line) = no_entry threads line r.entry blank_line r.is
repeated threads entries all line once r (says e more is all_are) =
    let same : r.entry ≡ e = entry_once threads line r.entry e r.is is in
    r.twice (subst (λ (x : Entry). NoGapTwice (entries ++ x ∷ [])) (sym same) (once_before entries more e (subst NoGapTwice all_are once)))

no_cost : (threads : List Thread) (entries all : List Entry) (line : List ℕ) (why : CostFault) → NoGapTwice all → IsCostList (costs_of (gap_count threads) entries) → IsCostList (costs_of (gap_count threads) all) → IsOfNoCost threads entries line why
    → IsNext threads entries line all → ⊥
no_cost threads entries all line why once before within r (says_none blank_line) = no_entry threads line r.entry blank_line r.is
no_cost threads entries all line why once before within r (says e more is all_are) =
    let same : r.entry ≡ e = entry_once threads line r.entry e r.is is in
    let new : NoGapTwice (entries ++ e ∷ []) = subst (λ (x : Entry). NoGapTwice (entries ++ x ∷ [])) same r.new in
    let some = first_gap threads is.said.first is.said.others e.gaps is.gaps in
    let below : some.0 < gap_count threads = at_below threads (places_of is.said) e.gaps is.gaps some.0 some.1 in
    let in_all : IsCostList (costs_of (gap_count threads) (entries ++ e ∷ more)) = subst (λ (x : List Entry). IsCostList (costs_of (gap_count threads) x)) all_are within in
    let long : some.0 < length (costs_of (gap_count threads) (entries ++ e ∷ more)) = omega (arith, below, length-costs_of (gap_count threads) (entries ++ e ∷ more)) in
    let cost : get_or (costs_of (gap_count threads) (entries ++ e ∷ more)) some.0 0 ≡ e.cost = cost_of_entry (gap_count threads) entries more e some.0 0 (subst NoGapTwice all_are once) some.1 below in
    let is_cost : IsCost e.cost = subst IsCost cost (in_all.each some.0 0 long) in
    let with_it : IsCostList (costs_of (gap_count threads) (entries ++ e ∷ [])) = within_more (gap_count threads) entries e new before is_cost.0 is_cost.1 in
    let refused : first_cost_fault (costs_of (gap_count threads) (entries ++ e ∷ [])) ≡ Some why = ap (λ (x : Entry). first_cost_fault (costs_of (gap_count threads) (entries ++ x ∷ []))) (sym same) ∙ r.refused in
    let bad = sym (no_fault-from_IsCostList (costs_of (gap_count threads) (entries ++ e ∷ [])) with_it) ∙ refused in
    cc

cannot_stand : (threads : List Thread) (lines : List (List ℕ)) (all : List Entry) (why : CostTextFault) → GiveCosts threads lines all → IsRefusedAt lines threads why → ⊥
cannot_stand threads lines all why given r = by_fault why r.fault
  where
    follows : IsNext threads r.entries r.line all
    follows = next threads lines r.number r.line r.entries all r.stands given.lists

    by_fault : (why : CostTextFault) → IsLineFault threads r.entries r.line r.number why → ⊥
    by_fault (fault.Line n) f = silent threads r.entries all r.line f.1 follows
    by_fault (fault.NoSuchGap n) f = no_gap threads r.entries all r.line f.1 follows
    by_fault (fault.Repeated n) f = repeated threads r.entries all r.line given.once f.1 follows
    by_fault (fault.Cost n cost) f = no_cost threads r.entries all r.line cost given.once r.stands.given.within given.within f.1 follows
    by_fault fault.OutOfMemory f = f

-- what is refused for another reason than being out of memory gives no costs
pub refuted : (text : List ℕ) (threads : List Thread) (costs : TiedCosts) (why : CostTextFault) → IsCostText text threads costs → RefusesCosts text threads why → why ≡ fault.OutOfMemory
refuted text threads costs fault.OutOfMemory is r = refl
refuted text threads costs why is r = absurd (cannot_stand threads (lines_of text) is.entries why is.given r)

-- a text gives one list of costs, with one list of ties
pub costs_once : (text : List ℕ) (threads : List Thread) (a b : TiedCosts) → IsCostText text threads a → IsCostText text threads b → a ≡ b
costs_once text threads a b is also =
    let entries : is.entries ≡ also.entries = lists_once threads (lines_of text) is.entries also.entries is.given.lists also.given.lists in
    let costs : a.costs ≡ b.costs = is.costs_are ∙ ap (costs_of (gap_count threads)) entries ∙ sym also.costs_are in
    let ties : a.ties ≡ b.ties = is.ties_are ∙ ap (ties_of (gap_count threads)) entries ∙ sym also.ties_are in
    λ i. record { costs = costs i; ties = ties i }

-- ---- what a table gives

module _ (threads : List Thread) (lines : List (List ℕ)) (table : List CostEntry) (few : gap_count threads ≤ MAX_GAPS) (t : IsTableOfLines threads lines table) where
  costs_of_table : map (cost_in table) (range_with_len 0 (gap_count threads)) ≡ costs_of (gap_count threads) t.entries
  costs_of_table = ap (λ (x : List CostEntry). map (cost_in x) (range_with_len 0 (gap_count threads))) t.table_is ∙ costs_kept t.entries (gap_count threads)

  ties_of_table : (if has_no_ties (gap_count threads) table then [] else names_in (gap_count threads) table) ≡ ties_of (gap_count threads) t.entries
  ties_of_table = ap (λ (x : List CostEntry). if has_no_ties (gap_count threads) x then [] else names_in (gap_count threads) x) t.table_is ∙ ties_kept t.entries (gap_count threads) few

  -- its names are those of ties
  pub names_of_table : AreTies (names_in (gap_count threads) table)
  names_of_table =
      let is = ap (names_in (gap_count threads)) t.table_is ∙ names_kept t.entries (gap_count threads) few in
      subst AreTies (sym is) (names_are_ties (gap_count threads) t.entries few t.given.once)

-- the costs and ties of a table are those of its lines
pub costs_found : (text : List ℕ) (threads : List Thread) (table : List CostEntry) (costs : TiedCosts) → gap_count threads ≤ MAX_GAPS → IsTableOfLines threads (lines_of text) table
    → costs.costs ≡ map (cost_in table) (range_with_len 0 (gap_count threads)) → costs.ties ≡ (if has_no_ties (gap_count threads) table then [] else names_in (gap_count threads) table)
    → IsCostText text threads costs
costs_found text threads table costs few t costs_are ties_are = record {
  entries = t.entries;
  given = t.given;
  costs_are = costs_are ∙ costs_of_table threads (lines_of text) table few t;
  ties_are = ties_are ∙ ties_of_table threads (lines_of text) table few t;
}
