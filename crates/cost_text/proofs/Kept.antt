-- Entries as they are kept say the same of each gap.
use Rattle.cost_text.proofs.Vocabulary.{◌≡◌, ◌==◌, ◌∙◌, ℕ, ◌+◌, ◌<◌, ◌≤◌, zero, suc, Bool, List, [], ◌∷◌, map, Option, Some, None, is_some, option_map, option_map_or, unwrap_or, refl, ap, arith, inl, inr, if◌then◌else◌, cases_Bool, list_all, range_with_len}
use Rattle.cost_text.proofs.Vocabulary.{fill_by_all, length-map-range_with_len, get_or-map-range_with_len, Entry, CostEntry, entry_of, gaps_of, is_of, least_of, name_said, said_of, costs_of, ties_of, cost_in, entry_at, has_no_ties, kept, name_in, names_in, MAX_GAPS}
use Rattle.std.specs.FinSet as set
use Rattle.cost_text.proofs.Once.{has, least_alike}
use Rattle.cost_text.proofs.EntryLaws.{found_is, named}

pub kept_found : (entries : List Entry) (gap : ℕ) → entry_at (map kept entries) gap ≡ option_map kept (entry_of entries gap)
kept_found [] gap = refl
kept_found (x ∷ xs) gap =
    let same = set.contains-from_list_nat x.gaps gap in
    elim (cases_Bool (is_of gap x)) [ inl here ↦ rw (same, here) refl | inr other ↦ rw (same, other) (kept_found xs gap) ]

is_some_kept : (o : Option Entry) → is_some (option_map kept o) ≡ is_some o
is_some_kept None = refl
is_some_kept (Some e) = refl

-- a gap is named exactly where it is among the gaps of the entries
pub named_there : (entries : List Entry) (gap : ℕ) → is_some (entry_at (map kept entries) gap) ≡ has (gaps_of entries) gap
named_there entries gap = ap (λ (o : Option CostEntry). is_some o) (kept_found entries gap) ∙ is_some_kept (entry_of entries gap) ∙ named entries gap

-- ---- costs

cost_kept : (entries : List Entry) (gap : ℕ) → cost_in (map kept entries) gap ≡ unwrap_or (said_of entries gap) 1
cost_kept entries gap = ap (λ (o : Option CostEntry). option_map_or (λ (e : CostEntry). e.cost) o 1) (kept_found entries gap) ∙ by_entry (entry_of entries gap)
  where
    by_entry : (o : Option Entry) → option_map_or (λ (e : CostEntry). e.cost) (option_map kept o) 1 ≡ unwrap_or (option_map (λ (e : Entry). e.cost) o) 1
    by_entry None = refl
    by_entry (Some e) = refl

pub costs_kept : (entries : List Entry) (gaps : ℕ) → map (cost_in (map kept entries)) (range_with_len 0 gaps) ≡ costs_of gaps entries
costs_kept entries gaps =
    fill_by_all (λ gap. unwrap_or (said_of entries gap) 1) (map (cost_in (map kept entries)) (range_with_len 0 gaps)) gaps 0 (length-map-range_with_len (cost_in (map kept entries)) 0 gaps)
    (λ k lt. get_or-map-range_with_len (cost_in (map kept entries)) 0 gaps k k 0 lt (omega arith) ∙ cost_kept entries k)

-- ---- names

name_kept : (entries : List Entry) (gap : ℕ) → gap ≤ 255 → name_in (map kept entries) gap ≡ name_said entries gap
name_kept entries gap small = ap (λ (o : Option CostEntry). option_map_or (λ (e : CostEntry). e.name) o gap) (kept_found entries gap) ∙ by_entry (entry_of entries gap) refl
  where
    by_entry : (o : Option Entry) → entry_of entries gap ≡ o → option_map_or (λ (e : CostEntry). e.name) (option_map kept o) gap ≡ option_map_or (λ (e : Entry). least_of e.gaps gap) o gap
    by_entry None is = refl
    by_entry (Some e) is = least_alike e.gaps 255 gap small (found_is entries gap e is)

pub names_kept : (entries : List Entry) (gaps : ℕ) → gaps ≤ MAX_GAPS → names_in gaps (map kept entries) ≡ map (name_said entries) (range_with_len 0 gaps)
names_kept entries gaps few =
    fill_by_all (name_said entries) (names_in gaps (map kept entries)) gaps 0 (length-map-range_with_len (name_in (map kept entries)) 0 gaps)
    (λ k lt. get_or-map-range_with_len (name_in (map kept entries)) 0 gaps k k 0 lt (omega arith) ∙ name_kept entries k (omega (arith, few, lt)))

-- tests that agree on numbers pass them alike
pub all_alike : (p q : ℕ → Bool) (a n : ℕ) → ((k : ℕ) → k < a + n → p k ≡ q k) → list_all p (range_with_len a n) ≡ list_all q (range_with_len a n)
all_alike p q a zero same = refl
all_alike p q a (suc n) same = rw (same a (omega arith), all_alike p q (a + 1) n (λ k lt. same k (omega (arith, lt)))) refl

-- the ties of the entries
pub ties_kept : (entries : List Entry) (gaps : ℕ) → gaps ≤ MAX_GAPS → (if has_no_ties gaps (map kept entries) then [] else names_in gaps (map kept entries)) ≡ ties_of gaps entries
ties_kept entries gaps few =
    let alike : has_no_ties gaps (map kept entries) ≡ list_all (λ gap. name_said entries gap == gap) (range_with_len 0 gaps) =
    all_alike (λ gap. name_in (map kept entries) gap == gap) (λ gap. name_said entries gap == gap) 0 gaps (λ k lt. ap (λ (n : ℕ). n == k) (name_kept entries k (omega (arith, few, lt)))) in
    rw (alike, names_kept entries gaps few) refl
