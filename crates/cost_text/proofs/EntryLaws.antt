-- Entries: what they say of a gap, also where one more comes.
use Rattle.cost_text.proofs.Vocabulary.{◌≡◌, ◌==◌, ◌∙◌, ℕ, ◌<◌, ◌≤◌, true, false, List, [], ◌∷◌, ◌++◌, length, get_or, map, Option, Some, None, is_some, option_map_or, refl, sym, ap, subst, arith, inl, inr, cases_Bool, same_Some, append-nil}
use Rattle.cost_text.proofs.Vocabulary.{flat_map-append, list_any-append, range_with_len, length-map-range_with_len, get_or-map-range_with_len, slice_get_within, slice_get-get_or, get_or_from_slice_get, AreTies, MAX_GAPS}
use Rattle.cost_text.proofs.Vocabulary.{Entry, NoGapTwice, entry_of, gaps_of, is_of, least_of, name_said}
use Rattle.cost_text.proofs.Once.{NoneTwice, has, apart, back, has_left, least_le, least_there, least_alike}

some_none : (e : Entry) → Some e ≡ None → ⊥
some_none e is = cc

-- what is found is of the gap
pub found_is : (entries : List Entry) (gap : ℕ) (e : Entry) → entry_of entries gap ≡ Some e → is_of gap e ≡ true
found_is [] gap e there = absurd cc
found_is (x ∷ xs) gap e there = elim (cases_Bool (is_of gap x)) [
  | inl here ↦ let same : x ≡ e = same_Some x e (rw here at there) in subst (λ (y : Entry). is_of gap y ≡ true) same here
  | inr other ↦ found_is xs gap e (rw other at there)
]

-- an entry names a gap exactly where it is among their gaps
pub named : (entries : List Entry) (gap : ℕ) → is_some (entry_of entries gap) ≡ has (gaps_of entries) gap
named [] gap = refl
named (x ∷ xs) gap =
    let parts = list_any-append (λ other. other == gap) x.gaps (gaps_of xs) in
    elim (cases_Bool (is_of gap x)) [ inl here ↦ rw (parts, here) refl | inr other ↦ rw (parts, other) (named xs gap) ]

-- the gaps with one more entry
pub gaps_more : (entries : List Entry) (e : Entry) → gaps_of (entries ++ e ∷ []) ≡ gaps_of entries ++ e.gaps
gaps_more entries e = flat_map-append (λ (x : Entry). x.gaps) entries (e ∷ []) ∙ ap (λ (gaps : List ℕ). gaps_of entries ++ gaps) (append-nil e.gaps)

-- what is found stays so with more entries
pub found_first : (entries more : List Entry) (gap : ℕ) (e : Entry) → entry_of entries gap ≡ Some e → entry_of (entries ++ more) gap ≡ Some e
found_first [] more gap e there = absurd cc
found_first (x ∷ xs) more gap e there = elim (cases_Bool (is_of gap x)) [
  | inl here ↦ rw here (rw here at there)
  | inr other ↦ rw other (found_first xs more gap e (rw other at there))
]

pub found_later : (entries more : List Entry) (gap : ℕ) → entry_of entries gap ≡ None → entry_of (entries ++ more) gap ≡ entry_of more gap
found_later [] more gap nothing = refl
found_later (x ∷ xs) more gap nothing = elim (cases_Bool (is_of gap x)) [
  | inl here ↦ absurd (some_none x (rw here at nothing))
  | inr other ↦ rw other (found_later xs more gap (rw other at nothing))
]

-- one more entry: of its gaps nothing was said
pub none_yet : (entries more : List Entry) (e : Entry) (gap : ℕ) → NoGapTwice (entries ++ e ∷ more) → is_of gap e ≡ true → entry_of entries gap ≡ None
none_yet entries more e gap once of_gap = by_entry (entry_of entries gap) refl
  where
    parts : NoneTwice (gaps_of entries ++ (e.gaps ++ gaps_of more))
    parts = subst NoneTwice (flat_map-append (λ (x : Entry). x.gaps) entries (e ∷ more)) once

    by_entry : (o : Option Entry) → entry_of entries gap ≡ o → entry_of entries gap ≡ None
    by_entry None is = is
    by_entry (Some f) is =
        absurd (apart (gaps_of entries) (e.gaps ++ gaps_of more) gap parts (sym (named entries gap) ∙ ap (λ (o : Option Entry). is_some o) is) (has_left e.gaps (gaps_of more) gap of_gap))

-- at its gaps it is found
pub found_there : (entries more : List Entry) (e : Entry) (gap : ℕ) → NoGapTwice (entries ++ e ∷ more) → is_of gap e ≡ true → entry_of (entries ++ e ∷ more) gap ≡ Some e
found_there entries more e gap once of_gap = found_later entries (e ∷ more) gap (none_yet entries more e gap once of_gap) ∙ rw of_gap refl

-- and elsewhere what was found before
pub found_elsewhere : (entries : List Entry) (e : Entry) (gap : ℕ) → is_of gap e ≡ false → entry_of (entries ++ e ∷ []) gap ≡ entry_of entries gap
found_elsewhere entries e gap other = by_entry (entry_of entries gap) refl
  where
    by_entry : (o : Option Entry) → entry_of entries gap ≡ o → entry_of (entries ++ e ∷ []) gap ≡ entry_of entries gap
    by_entry None is = found_later entries (e ∷ []) gap is ∙ rw other (sym is)
    by_entry (Some f) is = found_first entries (e ∷ []) gap f is ∙ sym is

-- ---- names

-- where no gap is named twice each gap of an entry finds it
pub same_entry : (entries : List Entry) (gap other : ℕ) (e : Entry) → NoGapTwice entries → entry_of entries gap ≡ Some e → is_of other e ≡ true → entry_of entries other ≡ Some e
same_entry [] gap other e once there of_other = absurd cc
same_entry (x ∷ xs) gap other e once there of_other = elim (cases_Bool (is_of gap x)) [
  | inl here ↦
      let same : x ≡ e = same_Some x e (rw here at there) in
      let mine : is_of other x ≡ true = subst (λ (y : Entry). is_of other y ≡ true) (sym same) of_other in
      rw mine (ap (λ (y : Entry). Some y) same)
  | inr later ↦
      let next : entry_of xs other ≡ Some e = same_entry xs gap other e (back x.gaps (gaps_of xs) once) (rw later at there) of_other in
      elim (cases_Bool (is_of other x)) [
        | inl again ↦ absurd (apart x.gaps (gaps_of xs) other once again (sym (named xs other) ∙ ap (λ (o : Option Entry). is_some o) next))
        | inr not_here ↦ rw not_here next
      ]
]

pub name_by : (entries : List Entry) (gap : ℕ) (o : Option Entry) → entry_of entries gap ≡ o → name_said entries gap ≡ option_map_or (λ (e : Entry). least_of e.gaps gap) o gap
name_by entries gap o is = ap (λ (o : Option Entry). option_map_or (λ (e : Entry). least_of e.gaps gap) o gap) is

-- a name is its own name
own_name : (entries : List Entry) (gap : ℕ) → NoGapTwice entries → name_said entries (name_said entries gap) ≡ name_said entries gap
own_name entries gap once = by_entry (entry_of entries gap) refl
  where
    by_entry : (o : Option Entry) → entry_of entries gap ≡ o → name_said entries (name_said entries gap) ≡ name_said entries gap
    by_entry None is = ap (name_said entries) (name_by entries gap None is)
    by_entry (Some e) is =
        let of_gap : is_of gap e ≡ true = found_is entries gap e is in
        let name : name_said entries gap ≡ least_of e.gaps gap = name_by entries gap (Some e) is in
        let of_name : is_of (least_of e.gaps gap) e ≡ true = least_there e.gaps gap gap of_gap (omega arith) in
        let own : name_said entries (least_of e.gaps gap) ≡ least_of e.gaps (least_of e.gaps gap) = name_by entries (least_of e.gaps gap) (Some e) (same_entry entries gap (least_of e.gaps gap) e once is of_name) in
        let least : least_of e.gaps gap ≡ least_of e.gaps (least_of e.gaps gap) = least_alike e.gaps gap (least_of e.gaps gap) (least_le e.gaps gap) of_name in
        ap (name_said entries) name ∙ own ∙ sym least ∙ sym name

pub no_greater : (entries : List Entry) (gap : ℕ) → name_said entries gap ≤ gap
no_greater entries gap = by_entry (entry_of entries gap) refl
  where
    by_entry : (o : Option Entry) → entry_of entries gap ≡ o → name_said entries gap ≤ gap
    by_entry None is = omega (arith, name_by entries gap None is)
    by_entry (Some e) is = omega (arith, name_by entries gap (Some e) is, least_le e.gaps gap)

-- the names of gaps are those of ties
pub names_are_ties : (gaps : ℕ) (entries : List Entry) → gaps ≤ MAX_GAPS → NoGapTwice entries → AreTies (map (name_said entries) (range_with_len 0 gaps))
names_are_ties gaps entries few once = record {
  few = omega (arith, few, length-map-range_with_len (name_said entries) 0 gaps);
  least = λ gap name there.
      let long : length (map (name_said entries) (range_with_len 0 gaps)) ≡ gaps = length-map-range_with_len (name_said entries) 0 gaps in
      let below : gap < gaps = omega (arith, long, slice_get_within (map (name_said entries) (range_with_len 0 gaps)) gap name there) in
      let is : name_said entries gap ≡ name = sym (get_or-map-range_with_len (name_said entries) 0 gaps gap gap 0 below (omega arith)) ∙ get_or_from_slice_get (map (name_said entries) (range_with_len 0 gaps)) gap name 0 there in
      let least : name ≤ gap = omega (arith, is, no_greater entries gap) in
      let name_below : name < gaps = omega (arith, least, below) in
      let own : get_or (map (name_said entries) (range_with_len 0 gaps)) name 0 ≡ name = get_or-map-range_with_len (name_said entries) 0 gaps name name 0 name_below (omega arith) ∙ ap (name_said entries) (sym is) ∙ own_name entries gap once ∙ is in
      (least, slice_get-get_or (map (name_said entries) (range_with_len 0 gaps)) name 0 (omega (arith, long, name_below)) ∙ ap (λ (n : ℕ). Some n) own);
}
