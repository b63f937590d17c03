-- Locations' numbers as bytes serve as well: they are the numbers where there are few, and with many the same limit is broken.
use Rattle.litmus_reader.proofs.Vocabulary.{◌≡◌, ℕ, ◌+◌, ◌<◌, ◌≤◌, Bool, true, false, cond, List, [], ◌∷◌, length, map, Option, Some, None, refl, sym, ap, ◌∙◌, arith, get_or, inl, inr, ◌⊎◌, ltb-false, not-true, prefix_len-le-length, NoThreads, TooManyThreads}
use Rattle.litmus_reader.proofs.Vocabulary.{TooLong, Locations, prefix_len_passes, ◌==◌, nat_lt, not, is_some, unwrap_or, if◌then◌else◌, range_with_len, prefix_len, bytes_eq, lt-ltb, length-map-range_with_len, Thread, ProgramFault, IsWithinLimits}
use Rattle.litmus_reader.proofs.Vocabulary.{IsWithinFencedLimits, first_long, first_fault, first_fenced_fault, BodyView, number_in, cases_Bool, get_or-map-range_with_len, CodeLabel, thread_labels, position_in, code_in, byte_in, byte_at, is_of_location}
use Rattle.litmus_reader.proofs.Vocabulary.{entry_atoms, last_said, registers_from, memory_from, thread_by, listing_by, MAX_THREADS, MAX_LOCATIONS, MAX_INSTRUCTIONS, MAX_FENCED_INSTRUCTIONS}
use Rattle.tso_program.proofs.WithinLimits.{limits_are_the_refusals, fenced_limits_are_the_refusals}
use Rattle.litmus_reader.proofs.{Filled.range_same, Positions.byte_is, Positions.code_count, Positions.position_same}
use Rattle.tso_program.proofs.Found.{some_test}

-- ---- few names

place_le : (b : Bool) (n len : ℕ) → n ≤ len → unwrap_or (cond b (Some n) None) 0 ≤ len
place_le true n len le = le
place_le false n len le = omega arith

number_le : (names : List (List ℕ)) (name : List ℕ) → number_in names name ≤ length names
number_le names name =
    let n = prefix_len (λ m. not (bytes_eq name m)) names in
    place_le (nat_lt n (length names)) n (length names) (prefix_len-le-length (λ m. not (bytes_eq name m)) names)

-- of a few names each number is a byte
pub byte_same : (names : List (List ℕ)) → length names ≤ MAX_LOCATIONS → byte_in names ≡ number_in names
byte_same names few = λ i name. byte_is (number_in names name) (let le = number_le names name in omega arith) i

-- ---- limits

-- the first refusal where there are too many locations
abbrev pub past_fault : ℕ → Option ℕ → Option ProgramFault
past_fault threads long =
    if threads == 0 then Some NoThreads else if nat_lt MAX_THREADS threads then Some TooManyThreads else if is_some long then Some (TooLong (unwrap_or long 0)) else Some Locations

past_some : (a b c : Bool) (x y z w : ProgramFault) → (if a then Some x else if b then Some y else if c then Some z else Some w) ≡ None → ⊥
past_some true b c x y z w e = cc
past_some false true c x y z w e = cc
past_some false false true x y z w e = cc
past_some false false false x y z w e = cc

-- Limits and their refusals, as far as a reader rests on them: at most `MAX_LOCATIONS` locations and 255 instructions a thread, which are refused
-- before what they are used for.
pub record AreLimits (Within : List Thread → List ℕ → Type 0) (first : List Thread → List ℕ → Option ProgramFault) : Type 0 where
  pub longest : ℕ
  pub small : longest ≤ 255
  pub few_locations : (threads : List Thread) (memory : List ℕ) → Within threads memory → length memory ≤ MAX_LOCATIONS
  pub none_broken : (threads : List Thread) (memory : List ℕ) → Within threads memory → first threads memory ≡ None
  pub past : (threads : List Thread) (memory : List ℕ) → nat_lt MAX_LOCATIONS (length memory) ≡ true → first threads memory ≡ past_fault (length threads) (first_long longest threads)
  pub long : (threads : List Thread) (memory : List ℕ) → is_some (first_long longest threads) ≡ true → first threads memory ≡ past_fault (length threads) (first_long longest threads)

pub program_limits : AreLimits (λ threads memory. IsWithinLimits threads memory) first_fault
program_limits = record {
  longest = MAX_INSTRUCTIONS;
  small = omega arith;
  few_locations = λ threads memory within. within.shared.few_locations;
  none_broken = λ threads memory within. (limits_are_the_refusals threads memory).1 within;
  past = λ threads memory e. rw e refl;
  long = λ threads memory e. rw e refl;
}

pub fenced_program_limits : AreLimits (λ threads memory. IsWithinFencedLimits threads memory) first_fenced_fault
fenced_program_limits = record {
  longest = MAX_FENCED_INSTRUCTIONS;
  small = omega arith;
  few_locations = λ threads memory within. within.few_locations;
  none_broken = λ threads memory within. (fenced_limits_are_the_refusals threads memory).1 within;
  past = λ threads memory e. rw e refl;
  long = λ threads memory e. rw e refl;
}

-- ---- many names

prefix_same : (longest : ℕ) (f g : ℕ → Thread) (ts : List ℕ) → ((t : ℕ) → length (f t).code ≡ length (g t).code)
    → prefix_len (λ (thread : Thread). not (nat_lt longest (length thread.code))) (map f ts) ≡ prefix_len (λ (thread : Thread). not (nat_lt longest (length thread.code))) (map g ts)
prefix_same longest f g [] h = refl
prefix_same longest f g (t ∷ ts) h = λ i. cond (not (nat_lt longest (h t i))) (1 + prefix_same longest f g ts h i) 0

-- as many locations as names
pub memory_len : (numbered : List ℕ → ℕ) (positioned : List CodeLabel → List ℕ → ℕ) (locations : ℕ) (body : BodyView) → length (listing_by numbered positioned locations body).memory ≡ locations
memory_len numbered positioned locations body = length-map-range_with_len (λ l. last_said (is_of_location l) (entry_atoms numbered body.entries)) 0 locations

-- many locations, or a long thread
abbrev pub IsOver : ℕ → (List ℕ → ℕ) → (List CodeLabel → List ℕ → ℕ) → ℕ → BodyView → Type 0
IsOver longest numbered positioned locations body = (MAX_LOCATIONS < locations) ⊎ (is_some (first_long longest (listing_by numbered positioned locations body).threads) ≡ true)

long_len : (longest : ℕ) (a b : List ℕ → ℕ) (p q : List CodeLabel → List ℕ → ℕ) (locations : ℕ) (body : BodyView)
    → first_long longest (listing_by a p locations body).threads ≡ first_long longest (listing_by b q locations body).threads
long_len longest a b p q locations body =
    let f = thread_by a p body in
    let g = thread_by b q body in
    let count : (t : ℕ) → length (f t).code ≡ length (g t).code = λ t. code_count a (p (thread_labels body.rows t)) body.rows t ∙ sym (code_count b (q (thread_labels body.rows t)) body.rows t) in
    let e = prefix_same longest f g (range_with_len 0 body.threads) count in
    let l : length (map f (range_with_len 0 body.threads)) ≡ length (map g (range_with_len 0 body.threads)) = length-map-range_with_len f 0 body.threads ∙ sym (length-map-range_with_len g 0 body.threads) in
    λ i. cond (nat_lt (e i) (l i)) (Some (e i)) None

module _ (Within : List Thread → List ℕ → Type 0) (first : List Thread → List ℕ → Option ProgramFault) (limits : AreLimits Within first) where
  past_of : (numbered : List ℕ → ℕ) (positioned : List CodeLabel → List ℕ → ℕ) (locations : ℕ) (body : BodyView) → IsOver limits.longest numbered positioned locations body
      → first (listing_by numbered positioned locations body).threads (listing_by numbered positioned locations body).memory
      ≡ past_fault body.threads (first_long limits.longest (listing_by numbered positioned locations body).threads)
  past_of numbered positioned locations body over =
      let listing = listing_by numbered positioned locations body in
      let threads = ap (λ (n : ℕ). past_fault n (first_long limits.longest listing.threads)) (length-map-range_with_len (thread_by numbered positioned body) 0 body.threads) in
      elim over [
        | inl many ↦ limits.past listing.threads listing.memory (ap (nat_lt MAX_LOCATIONS) (memory_len numbered positioned locations body) ∙ lt-ltb MAX_LOCATIONS locations many) ∙ threads
        | inr long ↦ limits.long listing.threads listing.memory long ∙ threads
      ]

  -- with many names or a long thread the first limit that is broken is the same, however they are numbered
  pub over_same : (a b : List ℕ → ℕ) (p q : List CodeLabel → List ℕ → ℕ) (locations : ℕ) (body : BodyView) → IsOver limits.longest a p locations body
      → first (listing_by a p locations body).threads (listing_by a p locations body).memory ≡ first (listing_by b q locations body).threads (listing_by b q locations body).memory
  over_same a b p q locations body over =
      let len = long_len limits.longest a b p q locations body in
      let other : IsOver limits.longest b q locations body = elim over [ inl many ↦ inl many | inr long ↦ inr (ap is_some (sym len) ∙ long) ] in
      past_of a p locations body over ∙ ap (past_fault body.threads) len ∙ sym (past_of b q locations body other)

  -- a program within its limits has no long thread
  pub none_long : (threads : List Thread) (memory : List ℕ) → Within threads memory → is_some (first_long limits.longest threads) ≡ false
  none_long threads memory within =
      let long = first_long limits.longest threads in
      elim (cases_Bool (is_some long)) [
        | inl e ↦ absurd (past_some (length threads == 0) (nat_lt MAX_THREADS (length threads)) (is_some long) NoThreads TooManyThreads (TooLong (unwrap_or long 0)) Locations (sym (limits.long threads memory e) ∙ limits.none_broken threads memory within))
        | inr e ↦ e
      ]

-- ---- few names and short threads

-- each thread is short
short : (longest : ℕ) (f : ℕ → Thread) (n : ℕ) → is_some (first_long longest (map f (range_with_len 0 n))) ≡ false → (t : ℕ) → t < n → length (f t).code ≤ longest
short longest f n none t lt =
    let xs = map f (range_with_len 0 n) in
    let passes : Thread → Bool = λ thread. not (nat_lt longest (length thread.code)) in
    let all : length xs ≤ prefix_len passes xs = ltb-false (prefix_len passes xs) (length xs) (some_test (nat_lt (prefix_len passes xs) (length xs)) (prefix_len passes xs) none) in
    let at : passes (get_or xs t (f t)) ≡ true = prefix_len_passes passes xs t (f t) (omega (arith, lt, all, length-map-range_with_len f 0 n)) in
    ltb-false longest (length (f t).code) (not-true (nat_lt longest (length (f t).code)) (ap passes (sym (get_or-map-range_with_len f 0 n t t (f t) lt (omega arith))) ∙ at))

-- of few locations and short threads all numbers are bytes
pub listing_same : (longest : ℕ) (names : List (List ℕ)) (body : BodyView) → longest ≤ 255 → length names ≤ MAX_LOCATIONS
    → is_some (first_long longest (listing_by (byte_in names) byte_at (length names) body).threads) ≡ false
    → listing_by (byte_in names) byte_at (length names) body ≡ listing_by (number_in names) position_in (length names) body
listing_same longest names body small few none =
    let numbered = byte_same names few in
    let positioned : (t : ℕ) → t < body.threads → byte_at (thread_labels body.rows t) ≡ position_in (thread_labels body.rows t) =
    λ t lt. position_same (byte_in names) (byte_at (thread_labels body.rows t)) body.rows t (omega (arith, small, short longest (thread_by (byte_in names) byte_at body) body.threads none t lt)) in
    let threads : (listing_by (byte_in names) byte_at (length names) body).threads ≡ (listing_by (number_in names) position_in (length names) body).threads =
    range_same (thread_by (byte_in names) byte_at body) (thread_by (number_in names) position_in body) body.threads
    (λ t lt i. record { code = code_in (numbered i) (positioned t lt i) body.rows t; registers = registers_from (entry_atoms (numbered i) body.entries) t }) in
    λ i. record { threads = threads i; memory = memory_from (length names) (entry_atoms (numbered i) body.entries) }
