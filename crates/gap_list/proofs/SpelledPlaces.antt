-- The places of gaps, as they are written, are read again.
use Rattle.gap_list.proofs.Vocabulary.{◌≡◌, ◌==◌, ◌+◌, ◌^◌, ◌<◌, ◌≤◌, ℕ, zero, suc, Bool, true, false, List, [], ◌∷◌, ◌++◌, length, get_or, map, Some, None, refl, sym, ap₂, ◌∙◌, arith, inl, inr, nat_le, nat_lt, All, flat_map, filter, range_with_len, append_assoc, length-append, gap_and_blank, place_and_blank}
use Rattle.std.specs.Fmt.{decimal}
use Rattle.std.specs.Char.{is_ascii_digit}
use Rattle.std.proofs.lemmas.Bool.{and_parts, cases_Bool, ltb-true, ltb-false}
use Rattle.std.proofs.lemmas.Bool.Decides.{nat_tests}
use Rattle.std.proofs.lemmas.Fmt.{digits_decimal, digits_value-decimal, decimal_nonempty}
use Rattle.std.proofs.lemmas.Option.{slice_get-get_or}
use Rattle.std.proofs.lemmas.List.Elements.{All-append, All-cons}
use Rattle.std.proofs.lemmas.List.FromFn.{length-map-range_with_len}
use Rattle.std.proofs.lemmas.List.Sums.{AllPass-from_list_all}
use Rattle.text_tokens.proofs.NumberLaws.{own}
use Rattle.tso_program.specs.{declared.listing.Thread.Thread, Limits.IsWithinLimits}
use Rattle.tso_program.specs.Listings.{code_of, gap_count, gap_number, gap_place, gaps_of_thread, places_from}
use Rattle.tso_program.proofs.{Gaps.count_first, Gaps.gap_below, Gaps.gap_facts, GapPlaces.no_place, GapPlaces.places_are_numbered}
use Rattle.cost_text.specs.CostLines.{IsNumber, Place, SpellsPlace, SpellsPlaces, none, more}
use Rattle.cost_text.specs.CostTexts.{AreAt}

-- ---- the gaps of a program

-- there are as many places as gaps
places_count : (t : ℕ) (threads : List Thread) → length (places_from t threads) ≡ gap_count threads
places_count t [] = refl
places_count t (x ∷ xs) =
    length-append (map (λ k. (t, k)) (range_with_len 1 (gaps_of_thread x))) (places_from (t + 1) xs)
    ∙ ap₂ (λ (m n : ℕ). m + n) (length-map-range_with_len (λ k. (t, k)) 1 (gaps_of_thread x)) (places_count (t + 1) xs)
    ∙ sym (count_first x xs)

-- a thread that has an instruction is there
thread_there : (threads : List Thread) (t k : ℕ) → k < length (code_of threads t) → t < length threads
thread_there [] t k lt = absurd (omega arith)
thread_there (x ∷ xs) zero k lt = omega arith
thread_there (x ∷ xs) (suc t) k lt = omega (arith, thread_there xs t k lt)

-- a gap with its place, whose numbers are small
record HasPlace (threads : List Thread) (gap : ℕ) : Type 0 where
  t : ℕ
  k : ℕ
  place : gap_place threads gap ≡ Some (t, k)
  number : gap_number threads t k ≡ Some gap
  small_t : t < 2 ^ 64
  small_k : k < 2 ^ 64

has_place : (threads : List Thread) (memory : List ℕ) → IsWithinLimits threads memory → (gap : ℕ) → gap < gap_count threads → HasPlace threads gap
has_place threads memory limits gap below =
    let p = get_or (places_from 0 threads) gap (0, 0) in
    let there : gap_place threads gap ≡ Some (p.0, p.1) = slice_get-get_or (places_from 0 threads) gap (0, 0) (omega (arith, places_count 0 threads)) in
    let number = (places_are_numbered threads gap p.0 p.1).0 there in
    let high = (gap_facts threads p.0 p.1 gap number).high in
    let short = limits.shared.short_threads p.0 in
    let few = limits.shared.few_threads in
    let t_below = thread_there threads p.0 p.1 high in
    record { t = p.0; k = p.1; place = there; number = number; small_t = omega arith; small_k = omega arith }

lacks_place : (threads : List Thread) (gap : ℕ) → gap_count threads ≤ gap → gap_place threads gap ≡ None
lacks_place threads gap past = no_place threads gap (λ t k is. absurd (omega (arith, past, gap_below threads t k gap is)))

-- ---- numbers and lines

pub number_of : (n : ℕ) → n < 2 ^ 64 → IsNumber (decimal n) n
number_of n small = ((decimal_nonempty n small, digits_decimal own n small), sym (digits_value-decimal own n small))

not_lf : (b : ℕ) → is_ascii_digit b ≡ true → (b == 10) ≡ false
not_lf b digit = let p = and_parts (nat_le 48 b) (nat_le b 57) digit in grind (arith, nat_tests)

abbrev pub NoLf : List ℕ → Type 0
NoLf bytes = All (λ b. (b == 10) ≡ false) bytes

pub one_line : (n : ℕ) → n < 2 ^ 64 → NoLf (decimal n)
one_line n small = λ i d lt. not_lf (get_or (decimal n) i d) (AllPass-from_list_all is_ascii_digit (decimal n) (digits_decimal own n small) i d lt)

place_line : (t k : ℕ) → t < 2 ^ 64 → k < 2 ^ 64 → NoLf (place_and_blank (t, k))
place_line t k small_t small_k =
    All-append (λ b. (b == 10) ≡ false) (decimal t ++ 58 ∷ decimal k) (32 ∷ [])
    (All-append (λ b. (b == 10) ≡ false) (decimal t) (58 ∷ decimal k) (one_line t small_t) (All-cons (λ b. (b == 10) ≡ false) 58 (decimal k) refl (one_line k small_k)))
    (All-cons (λ b. (b == 10) ≡ false) 32 [] refl (λ i d lt. absurd (omega (arith, lt))))

-- ---- the places of gaps

spelled_place : (t k : ℕ) → t < 2 ^ 64 → k < 2 ^ 64 → SpellsPlace (place_and_blank (t, k)) (record { thread = t; instruction = k })
spelled_place t k small_t small_k = record {
  thread = decimal t;
  instruction = decimal k;
  blanks = 32 ∷ [];
  spelled = append_assoc (decimal t) (58 ∷ decimal k) (32 ∷ []);
  of_thread = number_of t small_t;
  of_instruction = number_of k small_k;
  parts = (omega arith, refl);
}

-- whether the program has a gap
abbrev pub is_gap : List Thread → ℕ → Bool
is_gap threads gap = nat_lt gap (gap_count threads)

-- a text in one line spells the places of these gaps
pub record SpellsGaps (threads : List Thread) (text gaps : List ℕ) : Type 0 where
  pub places : List Place
  pub spells : SpellsPlaces text places
  pub at : AreAt threads places gaps
  pub line : NoLf text

pub spelled : (threads : List Thread) (memory : List ℕ) → IsWithinLimits threads memory → (gaps : List ℕ) → SpellsGaps threads (flat_map (gap_and_blank threads) gaps) (filter (is_gap threads) gaps)
spelled threads memory limits [] = record { places = []; spells = none; at = tt; line = λ i d lt. absurd (omega (arith, lt)) }
spelled threads memory limits (gap ∷ gaps) =
    let rest = spelled threads memory limits gaps in
    elim (cases_Bool (is_gap threads gap)) [
      | inl below ↦
          let p = has_place threads memory limits gap (ltb-true gap (gap_count threads) below) in
          rw (p.place, below) (record {
            places = record { thread = p.t; instruction = p.k } ∷ rest.places;
            spells = more (spelled_place p.t p.k p.small_t p.small_k) rest.spells;
            at = (p.number, rest.at);
            line = All-append (λ b. (b == 10) ≡ false) (place_and_blank (p.t, p.k)) (flat_map (gap_and_blank threads) gaps) (place_line p.t p.k p.small_t p.small_k) rest.line;
          })
      | inr past ↦ rw (lacks_place threads gap (ltb-false gap (gap_count threads) past), past) rest
    ]
