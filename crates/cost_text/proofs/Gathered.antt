-- The gaps at the places of a line, one after the other.
use Rattle.cost_text.proofs.Vocabulary.{◌≡◌, ◌==◌, ◌||◌, ◌∙◌, ℕ, ◌<◌, zero, suc, true, false, min, List, [], ◌∷◌, ◌++◌, length, get_or, map, Contains, Some, None, is_some, refl, sym, ap, subst, arith, inl, inr, append_assoc, eqb-true, or_cases, or_parts}
use Rattle.cost_text.proofs.Vocabulary.{length-append, get_or_at, map-append, map_push, nat_cmp_total, Thread, gap_count, gap_number, gap_below, Place, Entry, AreAt, gaps_of, PlaceDigits, ReadsPlaces, place_at, place_of}
use Rattle.cost_text.proofs.Vocabulary.{CostEntry, PlacedGaps, ArePlaced, AreGathered, LacksGap, entry_at, kept, with_gap}
use Rattle.std.specs.FinSet as set
use Rattle.cost_text.proofs.Once.{NoneTwice, has, front, fresh, twice, itself, has_left, has_right, has_neither, least_push}
use Rattle.cost_text.proofs.Kept.{named_there}
use Rattle.cost_text.proofs.LineLaws.{more_read}

-- ---- gaps at places

pub at_once : (threads : List Thread) (places : List Place) (a b : List ℕ) → AreAt threads places a → AreAt threads places b → a ≡ b
at_once threads [] [] [] at also = refl
at_once threads [] (gap ∷ gaps) b at also = absurd at
at_once threads [] [] (gap ∷ gaps) at also = absurd also
at_once threads (place ∷ places) [] b at also = absurd at
at_once threads (place ∷ places) (gap ∷ gaps) [] at also = absurd also
at_once threads (place ∷ places) (gap ∷ gaps) (other ∷ others) at also =
    let is = sym at.0 ∙ also.0 in
    let same : gap ≡ other = cc in
    ap (λ (g : ℕ). g ∷ gaps) same ∙ ap (λ (gs : List ℕ). other ∷ gs) (at_once threads places gaps others at.1 also.1)

pub at_below : (threads : List Thread) (places : List Place) (gaps : List ℕ) → AreAt threads places gaps → (gap : ℕ) → has gaps gap ≡ true → gap < gap_count threads
at_below threads [] [] at gap there = absurd cc
at_below threads [] (first ∷ gaps) at gap there = absurd at
at_below threads (place ∷ places) [] at gap there = absurd at
at_below threads (place ∷ places) (first ∷ gaps) at gap there = elim (or_cases (first == gap) (has gaps gap) there) [
  | inl here ↦ subst (λ (g : ℕ). g < gap_count threads) (eqb-true first gap here) (gap_below threads place.thread place.instruction first at.0)
  | inr later ↦ at_below threads places gaps at.1 gap later
]

-- where there is a place there is a gap
pub first_gap : (threads : List Thread) (place : Place) (places : List Place) (gaps : List ℕ) → AreAt threads (place ∷ places) gaps → (gap : ℕ) × (has gaps gap ≡ true)
first_gap threads place places [] at = absurd at
first_gap threads place places (gap ∷ gaps) at = (gap, itself gap gaps)

at_each : (threads : List Thread) (places : List Place) (gaps : List ℕ) → AreAt threads places gaps → (k : ℕ) (d : Place) → k < length places
    → (gap : ℕ) × (gap_number threads (get_or places k d).thread (get_or places k d).instruction ≡ Some gap)
at_each threads [] gaps at k d lt = absurd (omega arith)
at_each threads (place ∷ places) [] at k d lt = absurd at
at_each threads (place ∷ places) (gap ∷ gaps) at zero d lt = (gap, at.0)
at_each threads (place ∷ places) (gap ∷ gaps) at (suc k) d lt = at_each threads places gaps at.1 k d (omega (arith, lt))

-- a place where no gap is is none of them
pub not_at : (threads : List Thread) (places : List Place) (gaps : List ℕ) (place : Place) → AreAt threads places gaps → Contains places place → gap_number threads place.thread place.instruction ≡ None → ⊥
not_at threads places gaps place at named no_gap =
    let found = at_each threads places gaps at named.0 place named.1 in
    let bad = sym found.1 ∙ ap (λ (p : Place). gap_number threads p.thread p.instruction) named.2 ∙ no_gap in
    cc

at_push : (threads : List Thread) (places : List Place) (gaps : List ℕ) (place : Place) (gap : ℕ) → AreAt threads places gaps → gap_number threads place.thread place.instruction ≡ Some gap → AreAt threads (places ++ place ∷ []) (gaps ++ gap ∷ [])
at_push threads [] [] place gap at is = (is, tt)
at_push threads [] (first ∷ gaps) place gap at is = absurd at
at_push threads (one ∷ places) [] place gap at is = absurd at
at_push threads (one ∷ places) (first ∷ gaps) place gap at is = (at.0, at_push threads places gaps place gap at.1 is)

-- ---- sets of gaps

module _ (entries : List Entry) (gaps : List ℕ) (table : List CostEntry) (placed : PlacedGaps) (gap : ℕ) (is : table ≡ map kept entries) (a : ArePlaced entries gaps placed) where
  in_line : set.contains placed.gaps gap ≡ has gaps gap
  in_line = ap (λ s. set.contains s gap) a.gaps_are ∙ set.contains-from_list_nat gaps gap

  in_table : is_some (entry_at table gap) ≡ has (gaps_of entries) gap
  in_table = ap (λ (t : List CostEntry). is_some (entry_at t gap)) is ∙ named_there entries gap

  together : gaps_of entries ++ (gaps ++ gap ∷ []) ≡ (gaps_of entries ++ gaps) ++ gap ∷ []
  together = sym (append_assoc (gaps_of entries) gaps (gap ∷ []))

  new : (with_gap table placed gap).is_repeated ≡ false → NoneTwice (gaps_of entries ++ (gaps ++ gap ∷ []))
  new e =
      let parts = or_parts placed.is_repeated (set.contains placed.gaps gap || is_some (entry_at table gap)) e in
      let others = or_parts (set.contains placed.gaps gap) (is_some (entry_at table gap)) parts.1 in
      subst NoneTwice (sym together) (fresh (gaps_of entries ++ gaps) gap (a.once parts.0) (has_neither (gaps_of entries) gaps gap (sym in_table ∙ others.1) (sym in_line ∙ others.0)))

  again : (with_gap table placed gap).is_repeated ≡ true → NoneTwice (gaps_of entries ++ (gaps ++ gap ∷ [])) → ⊥
  again e once =
      let all : NoneTwice ((gaps_of entries ++ gaps) ++ gap ∷ []) = subst NoneTwice together once in
      elim (or_cases placed.is_repeated (set.contains placed.gaps gap || is_some (entry_at table gap)) e) [
        | inl before ↦ a.twice before (front (gaps_of entries ++ gaps) (gap ∷ []) all)
        | inr now ↦ elim (or_cases (set.contains placed.gaps gap) (is_some (entry_at table gap)) now) [
          | inl here ↦ twice (gaps_of entries ++ gaps) gap (has_right (gaps_of entries) gaps gap (sym in_line ∙ here)) all
          | inr there ↦ twice (gaps_of entries ++ gaps) gap (has_left (gaps_of entries) gaps gap (sym in_table ∙ there)) all
        ]
      ]

  placed_more : ArePlaced entries (gaps ++ gap ∷ []) (with_gap table placed gap)
  placed_more = record {
    gaps_are = ap (λ s. set.insert s gap) a.gaps_are ∙ sym (set.from_list_push nat_cmp_total set.nat_cmp-IsAntisymmetric gaps gap);
    name_is = ap (min gap) a.name_is ∙ sym (least_push gaps gap 255);
    once = new;
    twice = again;
  }

-- ---- while places are read

-- the places so far, and their gaps
pub record IsOnTheWay (threads : List Thread) (table : List CostEntry) (text rest : List ℕ) (placed : PlacedGaps) : Type 0 where
  pub before : List PlaceDigits
  pub left : (places : List PlaceDigits) (end : List ℕ) → ReadsPlaces text places end → (later : List PlaceDigits) × (places ≡ before ++ later) × ReadsPlaces rest later end
  pub gathered : AreGathered threads table (map place_of before) placed

module _ (threads : List Thread) (table : List CostEntry) (text rest : List ℕ) (placed : PlacedGaps) (way : IsOnTheWay threads table text rest placed) where
  -- one more place
  pub one_on : (digits : PlaceDigits) (after : List ℕ) (gap : ℕ) → place_at rest ≡ Some (digits, after) → gap_number threads (place_of digits).thread (place_of digits).instruction ≡ Some gap → IsOnTheWay threads table text after (with_gap table placed gap)
  one_on digits after gap is number =
      let g = way.gathered in
      let more : AreGathered threads table (map place_of way.before ++ place_of digits ∷ []) (with_gap table placed gap) = record {
        gaps = g.gaps ++ gap ∷ [];
        at = at_push threads (map place_of way.before) g.gaps (place_of digits) gap g.at number;
        are = λ entries table_is once. placed_more entries g.gaps table placed gap table_is (g.are entries table_is once);
      } in
      record {
        before = way.before ++ digits ∷ [];
        left = λ places end reads.
            let l = way.left places end reads in
            let m = more_read rest after digits l.0 end is l.2 in
            (m.0, l.1 ∙ ap (λ (x : List PlaceDigits). way.before ++ x) m.1 ∙ sym (append_assoc way.before (digits ∷ []) m.0), m.2);
        gathered = subst (λ (x : List Place). AreGathered threads table x (with_gap table placed gap)) (sym (map_push place_of way.before digits)) more;
      }

  -- the next place has no gap
  pub lacking : (digits : PlaceDigits) (after : List ℕ) (places : List PlaceDigits) (end : List ℕ) → ReadsPlaces text places end → place_at rest ≡ Some (digits, after)
      → gap_number threads (place_of digits).thread (place_of digits).instruction ≡ None → LacksGap threads (map place_of places)
  lacking digits after places end reads is no_gap =
      let l = way.left places end reads in
      let m = more_read rest after digits l.0 end is l.2 in
      let all : map place_of places ≡ map place_of way.before ++ place_of digits ∷ map place_of m.0 =
      ap (map place_of) (l.1 ∙ ap (λ (x : List PlaceDigits). way.before ++ x) m.1) ∙ map-append place_of way.before (digits ∷ m.0) in
      let there : Contains (map place_of way.before ++ place_of digits ∷ map place_of m.0) (place_of digits) =
      (length (map place_of way.before), omega (arith, length-append (map place_of way.before) (place_of digits ∷ map place_of m.0)), get_or_at (map place_of way.before) (place_of digits) (map place_of m.0) (place_of digits) (length (map place_of way.before)) refl) in
      record { place = place_of digits; named = subst (λ (x : List Place). Contains x (place_of digits)) (sym all) there; no_gap = no_gap }
