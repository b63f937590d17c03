-- What is shown, value by value.
use Rattle.tso_program.proofs.Vocabulary.{◌≡◌, ℕ, ◌<◌, Bool, true, false, List, [], get_or, length, inl, inr, refl, sym, ap, subst, ◌∙◌, arith, ext_get_or, get_or_past, fill_by_all, get_or-map-range_with_len, length-map-range_with_len, cases_lt, Outcome}
use Rattle.tso_program.proofs.Vocabulary.{Shown, All, Truth, shows_register, shows_location, value_if, shown_registers, shown_value, show_registers, show_memory, show, shown_values, ShowsValues, ShowsPartOf, HaveOneShape, register_in, location_in}
use Rattle.tso_program.proofs.Vocabulary.{WhatIsShownIsAlike, ShownRegistersAreKept, ShownLocationsAreKept, OtherRegistersAreZero, OtherLocationsAreZero, EachIsReadOffAll, APartIsShownOfTheWhole, ShowingTwiceIsShowingOnce, EverythingShownIsTheOutcome}
use Rattle.std.proofs.lemmas.Grind.{same_number_lists}
use Rattle.tso_program.proofs.PartsShown.{any_register, part_of_itself}

-- what a part shows of a value that the whole shows
within : (small large : Bool) (v : ℕ) → (small ≡ true → large ≡ true) → value_if small (value_if large v) ≡ value_if small v
within true false v h = let e = h refl in absurd cc
within small large v h = refl

-- ---- a thread's registers

pub registers_long : (shown : Shown) (t : ℕ) (held : List ℕ) → length (shown_registers shown t held) ≡ length held
registers_long All t held = refl
registers_long shown t held = length-map-range_with_len (λ r. value_if (shows_register shown t r) (get_or held r 0)) 0 (length held)

pub register_at : (shown : Shown) (t : ℕ) (held : List ℕ) (r : ℕ) → r < length held → get_or (shown_registers shown t held) r 0 ≡ value_if (shows_register shown t r) (get_or held r 0)
register_at All t held r h = refl
register_at shown t held r h = get_or-map-range_with_len (λ r. value_if (shows_register shown t r) (get_or held r 0)) 0 (length held) r r 0 h (omega arith)

pub registers_by : (shown : Shown) (t : ℕ) (held left : List ℕ) → length left ≡ length held →
    ((r : ℕ) → r < length held → get_or left r 0 ≡ value_if (shows_register shown t r) (get_or held r 0)) → left ≡ shown_registers shown t held
registers_by All t held left long each = same_number_lists left held long (λ r h. each r (omega arith))
registers_by shown t held left long each = fill_by_all (λ r. value_if (shows_register shown t r) (get_or held r 0)) left (length held) 0 long each

registers_within : (small large : Shown) → ShowsPartOf small large → (t : ℕ) (held : List ℕ) → shown_registers small t (shown_registers large t held) ≡ shown_registers small t held
registers_within small large part t held =
    registers_by small t held (shown_registers small t (shown_registers large t held)) (registers_long small t (shown_registers large t held) ∙ registers_long large t held)
    (λ r h. let long = registers_long large t held in
    register_at small t (shown_registers large t held) r (omega arith)
    ∙ ap (value_if (shows_register small t r)) (register_at large t held r h)
    ∙ within (shows_register small t r) (shows_register large t r) (get_or held r 0) (any_register small large part t r))

-- ---- the memory

pub memory_long : (shown : Shown) (memory : List ℕ) → length (show_memory shown memory) ≡ length memory
memory_long All memory = refl
memory_long shown memory = length-map-range_with_len (λ l. shown_value shown l (get_or memory l 0)) 0 (length memory)

pub value_at : (shown : Shown) (memory : List ℕ) (l : ℕ) → l < length memory → get_or (show_memory shown memory) l 0 ≡ shown_value shown l (get_or memory l 0)
value_at All memory l h = refl
value_at shown memory l h = get_or-map-range_with_len (λ l. shown_value shown l (get_or memory l 0)) 0 (length memory) l l 0 h (omega arith)

pub memory_by : (shown : Shown) (memory left : List ℕ) → length left ≡ length memory →
    ((l : ℕ) → l < length memory → get_or left l 0 ≡ shown_value shown l (get_or memory l 0)) → left ≡ show_memory shown memory
memory_by All memory left long each = same_number_lists left memory long (λ l h. each l (omega arith))
memory_by shown memory left long each = fill_by_all (λ l. shown_value shown l (get_or memory l 0)) left (length memory) 0 long each

-- memories that show the same
pub same_memory : (shown : Shown) (xs ys : List ℕ) → length xs ≡ length ys →
    ((l : ℕ) → l < length xs → shown_value shown l (get_or xs l 0) ≡ shown_value shown l (get_or ys l 0)) → show_memory shown xs ≡ show_memory shown ys
same_memory shown xs ys long each = memory_by shown ys (show_memory shown xs) (memory_long shown xs ∙ long)
    (λ l h. value_at shown xs l (omega arith) ∙ each l (omega arith))

memory_within : (small large : Shown) → ShowsPartOf small large → (memory : List ℕ) → show_memory small (show_memory large memory) ≡ show_memory small memory
memory_within small large part memory = same_memory small (show_memory large memory) memory (memory_long large memory)
    (λ l h. let long = memory_long large memory in
    ap (shown_value small l) (value_at large memory l (omega arith)) ∙ within (shows_location small l) (shows_location large l) (get_or memory l 0) (part.locations l))

-- ---- the registers of all threads

pub threads_long : (shown : Shown) (registers : List (List ℕ)) → length (show_registers shown registers) ≡ length registers
threads_long All registers = refl
threads_long shown registers = length-map-range_with_len (λ t. shown_registers shown t (get_or registers t [])) 0 (length registers)

pub thread_at : (shown : Shown) (registers : List (List ℕ)) (t : ℕ) → t < length registers →
    get_or (show_registers shown registers) t [] ≡ shown_registers shown t (get_or registers t [])
thread_at All registers t h = refl
thread_at shown registers t h = get_or-map-range_with_len (λ t. shown_registers shown t (get_or registers t [])) 0 (length registers) t t [] h (omega arith)

pub threads_by : (shown : Shown) (registers left : List (List ℕ)) → length left ≡ length registers →
    ((t : ℕ) → t < length registers → get_or left t [] ≡ shown_registers shown t (get_or registers t [])) → left ≡ show_registers shown registers
threads_by All registers left long each = ext_get_or [] left registers long (λ t h. each t (omega arith))
threads_by shown registers left long each = fill_by_all (λ t. shown_registers shown t (get_or registers t [])) left (length registers) [] long each

-- threads that show the same
pub same_threads : (shown : Shown) (xs ys : List (List ℕ)) → length xs ≡ length ys →
    ((t : ℕ) → t < length xs → shown_registers shown t (get_or xs t []) ≡ shown_registers shown t (get_or ys t [])) → show_registers shown xs ≡ show_registers shown ys
same_threads shown xs ys long each = threads_by shown ys (show_registers shown xs) (threads_long shown xs ∙ long)
    (λ t h. thread_at shown xs t (omega arith) ∙ each t (omega arith))

threads_within : (small large : Shown) → ShowsPartOf small large → (registers : List (List ℕ)) → show_registers small (show_registers large registers) ≡ show_registers small registers
threads_within small large part registers = same_threads small (show_registers large registers) registers (threads_long large registers)
    (λ t h. let long = threads_long large registers in
    ap (shown_registers small t) (thread_at large registers t (omega arith)) ∙ registers_within small large part t (get_or registers t []))

-- ---- an outcome

-- where values are shown, the outcome is shown value by value
pub by_values : (shown : Shown) (o : Outcome) → ShowsValues shown → show shown o ≡ shown_values shown o
by_values (Truth f) o of = absurd of
by_values shown o of = refl

-- what a part shows of what the whole shows
pub shown_within : APartIsShownOfTheWhole
shown_within small large part o =
    let whole : show large o ≡ shown_values large o = by_values large o part.in_values in
    let inner : shown_values small (shown_values large o) ≡ shown_values small o =
    (λ i. record { registers = threads_within small large part o.registers i; memory = memory_within small large part o.memory i }) in
    ap (show small) whole ∙ by_values small (shown_values large o) part.of_values ∙ inner ∙ sym (by_values small o part.of_values)

-- whatever is shown is read off the outcome itself
pub off_all : EachIsReadOffAll
off_all shown o = refl

-- values that are shown show all of themselves
pub shown_twice : ShowingTwiceIsShowingOnce
shown_twice shown of = shown_within shown shown (part_of_itself shown of)

-- where all is shown, the outcome itself is
pub all_is_shown : EverythingShownIsTheOutcome
all_is_shown o = refl

-- ---- value by value, with 0 where a value is not there

abbrev registers_in : Outcome → ℕ → List ℕ
registers_in o t = get_or o.registers t []

none_kept : (shown : Shown) (t : ℕ) → shown_registers shown t [] ≡ []
none_kept All t = refl
none_kept shown t = refl

thread_kept : (shown : Shown) (o : Outcome) (t : ℕ) → registers_in (shown_values shown o) t ≡ shown_registers shown t (registers_in o t)
thread_kept shown o t = elim (cases_lt t (length o.registers)) [
  | inl h ↦ thread_at shown o.registers t h
  | inr h ↦ let long = threads_long shown o.registers in
      get_or_past (show_registers shown o.registers) t [] (omega arith)
      ∙ sym (ap (shown_registers shown t) (get_or_past o.registers t [] h) ∙ none_kept shown t)
]

hidden : (b : Bool) → value_if b 0 ≡ 0
hidden true = refl
hidden false = refl

register_kept : (shown : Shown) (o : Outcome) (t r : ℕ) → register_in (shown_values shown o) t r ≡ value_if (shows_register shown t r) (register_in o t r)
register_kept shown o t r = ap (λ (held : List ℕ). get_or held r 0) (thread_kept shown o t) ∙ at_register (registers_in o t)
  where
    at_register : (held : List ℕ) → get_or (shown_registers shown t held) r 0 ≡ value_if (shows_register shown t r) (get_or held r 0)
    at_register held = elim (cases_lt r (length held)) [
      | inl h ↦ register_at shown t held r h
      | inr h ↦ let long = registers_long shown t held in
          get_or_past (shown_registers shown t held) r 0 (omega arith)
          ∙ sym (ap (value_if (shows_register shown t r)) (get_or_past held r 0 h) ∙ hidden (shows_register shown t r))
    ]

value_kept : (shown : Shown) (o : Outcome) (l : ℕ) → location_in (shown_values shown o) l ≡ value_if (shows_location shown l) (location_in o l)
value_kept shown o l = elim (cases_lt l (length o.memory)) [
  | inl h ↦ value_at shown o.memory l h
  | inr h ↦ let long = memory_long shown o.memory in
      get_or_past (show_memory shown o.memory) l 0 (omega arith)
      ∙ sym (ap (shown_value shown l) (get_or_past o.memory l 0 h) ∙ hidden (shows_location shown l))
]

pub alike : WhatIsShownIsAlike
alike shown o of =
    let registers : (t : ℕ) → length (registers_in (shown_values shown o) t) ≡ length (registers_in o t) = λ t. ap length (thread_kept shown o t) ∙ registers_long shown t (registers_in o t) in
    subst (λ (x : Outcome). HaveOneShape x o) (sym (by_values shown o of)) (record { threads = threads_long shown o.registers; registers = registers; locations = memory_long shown o.memory })

pub registers_kept : ShownRegistersAreKept
registers_kept shown o t r of h =
    ap (λ (x : Outcome). register_in x t r) (by_values shown o of) ∙ register_kept shown o t r ∙ ap (λ (b : Bool). value_if b (register_in o t r)) h

pub locations_kept : ShownLocationsAreKept
locations_kept shown o l of h = ap (λ (x : Outcome). location_in x l) (by_values shown o of) ∙ value_kept shown o l ∙ ap (λ (b : Bool). value_if b (location_in o l)) h

pub other_registers : OtherRegistersAreZero
other_registers shown o t r of h =
    ap (λ (x : Outcome). register_in x t r) (by_values shown o of) ∙ register_kept shown o t r ∙ ap (λ (b : Bool). value_if b (register_in o t r)) h

pub other_locations : OtherLocationsAreZero
other_locations shown o l of h = ap (λ (x : Outcome). location_in x l) (by_values shown o of) ∙ value_kept shown o l ∙ ap (λ (b : Bool). value_if b (location_in o l)) h
