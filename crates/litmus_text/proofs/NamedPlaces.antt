-- The entries of the canonical text: the places that they name stand once, in order, and hold what they held.
use Rattle.litmus_text.proofs.Vocabulary.{◌≡◌, ◌≢◌, ℕ, ◌+◌, ◌*◌, ◌<◌, ◌≤◌, ◌==◌, zero, suc, Bool, true, false, cond, ◌&&◌, ◌||◌, List, [], ◌∷◌, ◌++◌, length, map, get_or, Some, refl, sym, ap, ◌∙◌, inl, inr, arith, eq-eqb, if◌then◌else◌, slice_index}
use Rattle.litmus_text.proofs.Vocabulary.{length-map, get_or-map, map-append, map-map, and-true, and-false, or-true, or-false, eqb-true, or_from, or_parts, false_from_ne_true, AllByRecursion, IsDistinct, flat_map, filter_map, find, list_any, option_map_or}
use Rattle.litmus_text.proofs.Vocabulary.{bytes_eq, cases_Bool, Decides-eqb, bytes_eq-Decides, list_any-append, fill_by_all, Reg, Eax, Ebx, Ecx, Edx, Esi, Edi, Thread, PlaceView, Location, Register, EntryView, IsNoneOf, NoneTwice, place_of_entry}
use Rattle.litmus_text.proofs.Vocabulary.{same_place, same_place_is, TextNames, all_registers, location_name, is_register, is_named, first_value, location_name_at, location_entry, location_entries, named_entry, register_entries, IsTextNumber}
use Rattle.litmus_text.proofs.Vocabulary.{IsLocationName, IsPrintableEntry}
use Rattle.tso_program.specs.Instructions.{number}
use Rattle.tso_program.proofs.Registers.{small_number, same_register}
use Rattle.litmus_text.proofs.Lists.{all_of_both, all_mapped}

-- ---- the places

-- which registers are named
abbrev pub Named : Type 0
Named = ℕ → Reg → Bool

abbrev pub picked : Named → ℕ → Reg → List PlaceView
picked named t r = if named t r then Register t r ∷ [] else []

-- the named registers of thread t
abbrev pub register_places : Named → ℕ → List PlaceView
register_places named t = flat_map (picked named t) all_registers

-- those of n threads from thread t on
abbrev pub threads_places : Named → ℕ → ℕ → List PlaceView
threads_places named t zero = []
threads_places named t (suc n) = register_places named t ++ threads_places named (t + 1) n

-- all locations, and the named registers of n threads
abbrev pub named_places : List (List ℕ) → Named → ℕ → List PlaceView
named_places names named n = map Location names ++ threads_places named 0 n

-- a place with what it holds
abbrev pub entry_at : (PlaceView → ℕ) → PlaceView → EntryView
entry_at held p = record { place = p; value = held p }

-- ---- the entries are those of the places

-- the registers of the threads from thread t on are what the places hold
abbrev pub RegistersAre : (PlaceView → ℕ) → ℕ → List Thread → Type 0
RegistersAre held t [] = Unit {0}
RegistersAre held t (thread ∷ threads) = (thread.registers ≡ map (λ r. held (Register t r)) all_registers) × RegistersAre held (t + 1) threads

location_entries_are : (held : PlaceView → ℕ) (names : List (List ℕ)) → location_entries names (map (λ x. held (Location x)) names) ≡ map (entry_at held) (map Location names)
location_entries_are held names =
    let value : List ℕ → ℕ = λ x. held (Location x) in
    let entry : List ℕ → EntryView = λ x. entry_at held (Location x) in
    let memory : List ℕ = map value names in
    let count : length memory ≡ length names = length-map names value in
    let none : EntryView = entry_at held (Location []) in
    let at : (l : ℕ) → l < length memory → get_or (map entry names) l none ≡ location_entry names memory l =
    λ l lt.
    let within : l < length names = omega (arith, count) in
    get_or-map entry names l [] none within
    ∙ ap (λ (n : ℕ). record { place = Location (location_name_at names l); value = n }) (sym (get_or-map value names l [] 0 within)) in
    sym (fill_by_all (location_entry names memory) (map entry names) (length memory) none (length-map names entry ∙ sym count) at) ∙ sym (map-map (entry_at held) Location names)

-- what a list of all registers' values has at a register's number
pub at_register : {X : Type 0} (f : Reg → X) (r : Reg) (d : X) → get_or (map f all_registers) (number r) d ≡ f r
at_register f Eax d = refl
at_register f r d = refl

one_entry : (held : PlaceView → ℕ) (p : PlaceView) (n : ℕ) (b : Bool) → n ≡ held p
    → (if b then record { place = p; value = n } ∷ [] else []) ≡ map (entry_at held) (if b then p ∷ [] else [])
one_entry held p n true e = ap (λ (m : ℕ). record { place = p; value = m } ∷ []) e
one_entry held p n false e = refl

register_entries_are : (held : PlaceView → ℕ) (names : TextNames) (t : ℕ) (values : List ℕ) → values ≡ map (λ r. held (Register t r)) all_registers → (rs : List Reg)
    → flat_map (named_entry names t values) rs ≡ map (entry_at held) (flat_map (picked (is_named names) t) rs)
register_entries_are held names t values e [] = refl
register_entries_are held names t values e (r ∷ rs) =
    let value : slice_index values (number r) ≡ held (Register t r) =
    ap (λ (vs : List ℕ). slice_index vs (number r)) e ∙ at_register (λ s. held (Register t s)) r 0 in
    ap (λ (es : List EntryView). es ++ flat_map (named_entry names t values) rs) (one_entry held (Register t r) (slice_index values (number r)) (is_named names t r) value)
    ∙ ap (λ (es : List EntryView). map (entry_at held) (picked (is_named names) t r) ++ es) (register_entries_are held names t values e rs)
    ∙ sym (map-append (entry_at held) (picked (is_named names) t r) (flat_map (picked (is_named names) t) rs))

threads_entries_are : (held : PlaceView → ℕ) (names : TextNames) (t : ℕ) (threads : List Thread) → RegistersAre held t threads
    → register_entries names t threads ≡ map (entry_at held) (threads_places (is_named names) t (length threads))
threads_entries_are held names t [] h = refl
threads_entries_are held names t (thread ∷ threads) h =
    let here : List PlaceView = register_places (is_named names) t in
    let rest : List PlaceView = threads_places (is_named names) (t + 1) (length threads) in
    ap (λ (es : List EntryView). es ++ register_entries names (t + 1) threads) (register_entries_are held names t thread.registers h.0 all_registers)
    ∙ ap (λ (es : List EntryView). map (entry_at held) here ++ es) (threads_entries_are held names (t + 1) threads h.1)
    ∙ sym (map-append (entry_at held) here rest)

-- the canonical entries are those of the named places
pub entries_are : (held : PlaceView → ℕ) (names : TextNames) (memory : List ℕ) (threads : List Thread) → memory ≡ map (λ x. held (Location x)) names.locations → RegistersAre held 0 threads
    → location_entries names.locations memory ++ register_entries names 0 threads ≡ map (entry_at held) (named_places names.locations (is_named names) (length threads))
entries_are held names memory threads e h =
    ap (λ (m : List ℕ). location_entries names.locations m ++ register_entries names 0 threads) e
    ∙ ap (λ (es : List EntryView). es ++ register_entries names 0 threads) (location_entries_are held names.locations)
    ∙ ap (λ (es : List EntryView). map (entry_at held) (map Location names.locations) ++ es) (threads_entries_are held names 0 threads h)
    ∙ sym (map-append (entry_at held) (map Location names.locations) (threads_places (is_named names) 0 (length threads)))

-- ---- no place stands twice

-- registers from number k on and before number m, thread by thread, in rising order
abbrev pub Rising : ℕ → ℕ → List PlaceView → Type 0
Rising k m [] = k ≤ m
Rising k m (Location x ∷ ps) = ⊥
Rising k m (Register t r ∷ ps) = (k ≤ 6 * t + number r) × Rising (6 * t + number r + 1) m ps

pub rising_wider : (j k m n : ℕ) (ps : List PlaceView) → j ≤ k → m ≤ n → Rising k m ps → Rising j n ps
rising_wider j k m n [] le more h = omega (arith, h)
rising_wider j k m n (Location x ∷ ps) le more h = absurd h
rising_wider j k m n (Register t r ∷ ps) le more h =
    let first : j ≤ 6 * t + number r = omega (arith, h.0) in
    let here : ℕ = 6 * t + number r + 1 in
    (first, rising_wider here here m n ps (omega arith) more h.1)

rising_append : (k m n : ℕ) (ps qs : List PlaceView) → Rising k m ps → Rising m n qs → Rising k n (ps ++ qs)
rising_append k m n [] qs h g = rising_wider k m n n qs h (omega arith) g
rising_append k m n (Location x ∷ ps) qs h g = absurd h
rising_append k m n (Register t r ∷ ps) qs h g = (h.0, rising_append (6 * t + number r + 1) m n ps qs h.1 g)

rising_one : (t : ℕ) (r : Reg) (k m : ℕ) (b : Bool) → k ≤ 6 * t + number r → 6 * t + number r < m → Rising k m (if b then Register t r ∷ [] else [])
rising_one t r k m true low high = (low, omega (arith, high))
rising_one t r k m false low high = omega (arith, low, high)

rising_thread : (named : Named) (t : ℕ) → Rising (6 * t) (6 * t + 6) (register_places named t)
rising_thread named t =
    let end : Rising (6 * t + 6) (6 * t + 6) [] = omega arith in
    let r5 = rising_append (6 * t + 5) (6 * t + 6) (6 * t + 6) (picked named t Edi) [] (rising_one t Edi (6 * t + 5) (6 * t + 6) (named t Edi) (omega arith) (omega arith)) end in
    let r4 = rising_append (6 * t + 4) (6 * t + 5) (6 * t + 6) (picked named t Esi) (flat_map (picked named t) (Edi ∷ [])) (rising_one t Esi (6 * t + 4) (6 * t + 5) (named t Esi) (omega arith) (omega arith)) r5 in
    let r3 = rising_append (6 * t + 3) (6 * t + 4) (6 * t + 6) (picked named t Edx) (flat_map (picked named t) (Esi ∷ Edi ∷ [])) (rising_one t Edx (6 * t + 3) (6 * t + 4) (named t Edx) (omega arith) (omega arith)) r4 in
    let r2 = rising_append (6 * t + 2) (6 * t + 3) (6 * t + 6) (picked named t Ecx) (flat_map (picked named t) (Edx ∷ Esi ∷ Edi ∷ [])) (rising_one t Ecx (6 * t + 2) (6 * t + 3) (named t Ecx) (omega arith) (omega arith)) r3 in
    let r1 = rising_append (6 * t + 1) (6 * t + 2) (6 * t + 6) (picked named t Ebx) (flat_map (picked named t) (Ecx ∷ Edx ∷ Esi ∷ Edi ∷ [])) (rising_one t Ebx (6 * t + 1) (6 * t + 2) (named t Ebx) (omega arith) (omega arith)) r2 in
    rising_append (6 * t) (6 * t + 1) (6 * t + 6) (picked named t Eax) (flat_map (picked named t) (Ebx ∷ Ecx ∷ Edx ∷ Esi ∷ Edi ∷ [])) (rising_one t Eax (6 * t) (6 * t + 1) (named t Eax) (omega arith) (omega arith)) r1

pub rising_threads : (named : Named) (t n : ℕ) → Rising (6 * t) (6 * (t + n)) (threads_places named t n)
rising_threads named t zero = omega arith
rising_threads named t (suc n) =
    let rest : List PlaceView = threads_places named (t + 1) n in
    rising_append (6 * t) (6 * t + 6) (6 * (t + suc n)) (register_places named t) rest (rising_thread named t)
    (rising_wider (6 * t + 6) (6 * (t + 1)) (6 * ((t + 1) + n)) (6 * (t + suc n)) rest (omega arith) (omega arith) (rising_threads named (t + 1) n))

key_of : PlaceView → ℕ
key_of (Location x) = 0
key_of (Register t r) = 6 * t + number r

same_key : (t u : ℕ) (r s : Reg) → Register t r ≡ Register u s → 6 * t + number r ≡ 6 * u + number s
unfolding key_of
same_key t u r s e = ap key_of e

none_later : (t : ℕ) (r : Reg) (k m : ℕ) (ps : List PlaceView) → 6 * t + number r < k → Rising k m ps → IsNoneOf (Register t r) ps
none_later t r k m [] lt h = tt
none_later t r k m (Location x ∷ ps) lt h = absurd h
none_later t r k m (Register u s ∷ ps) lt h =
    ((λ e. let keys = same_key t u r s e in omega (arith, keys, h.0)), none_later t r (6 * u + number s + 1) m ps (omega (arith, h.0)) h.1)

none_earlier : (t : ℕ) (r : Reg) (k m : ℕ) (ps : List PlaceView) → m ≤ 6 * t + number r → Rising k m ps → (k ≤ m) × IsNoneOf (Register t r) ps
none_earlier t r k m [] le h = (h, tt)
none_earlier t r k m (Location x ∷ ps) le h = absurd h
none_earlier t r k m (Register u s ∷ ps) le h =
    let rest = none_earlier t r (6 * u + number s + 1) m ps le h.1 in
    (omega (arith, rest.0, h.0), ((λ e. let keys = same_key t u r s e in omega (arith, keys, rest.0)), rest.1))

rising_once : (k m : ℕ) (ps : List PlaceView) → Rising k m ps → NoneTwice ps
rising_once k m [] h = tt
rising_once k m (Location x ∷ ps) h = absurd h
rising_once k m (Register t r ∷ ps) h = (none_later t r (6 * t + number r + 1) m ps (omega arith) h.1, rising_once (6 * t + number r + 1) m ps h.1)

no_location : (x : List ℕ) (k m : ℕ) (ps : List PlaceView) → Rising k m ps → IsNoneOf (Location x) ps
no_location x k m [] h = tt
no_location x k m (Location y ∷ ps) h = absurd h
no_location x k m (Register t r ∷ ps) h = (λ e. cc, no_location x (6 * t + number r + 1) m ps h.1)

other_names : (x : List ℕ) (names : List (List ℕ)) → AllByRecursion (λ y. bytes_eq x y ≡ false) names → IsNoneOf (Location x) (map Location names)
other_names x = all_mapped (λ y. bytes_eq x y ≡ false) (λ p. Location x ≢ p) Location (λ y other e.
    let same : x ≡ y = cc in
    let met : bytes_eq x y ≡ true = (bytes_eq-Decides x y).1 same in
    cc)

pub distinct_head : (x : List ℕ) (names : List (List ℕ)) → IsDistinct bytes_eq (x ∷ names) → AllByRecursion (λ y. bytes_eq x y ≡ false) names × IsDistinct bytes_eq names
unfolding IsDistinct
distinct_head x names h = h

pub places_once : (names : List (List ℕ)) (k m : ℕ) (ps : List PlaceView) → IsDistinct bytes_eq names → Rising k m ps → NoneTwice (map Location names ++ ps)
places_once [] k m ps once h = rising_once k m ps h
places_once (x ∷ names) k m ps once h =
    let d = distinct_head x names once in
    (all_of_both (λ p. Location x ≢ p) (map Location names) ps (other_names x names d.0) (no_location x k m ps h), places_once names k m ps d.1 h)

pub placed_entries : (held : PlaceView → ℕ) (ps : List PlaceView) → map place_of_entry (map (entry_at held) ps) ≡ ps
placed_entries held [] = refl
placed_entries held (p ∷ ps) = ap (λ (qs : List PlaceView). p ∷ qs) (placed_entries held ps)

-- ---- they can be printed

printable_registers : (held : PlaceView → ℕ) (threads : ℕ) → ((p : PlaceView) → IsTextNumber (held p)) → (k : ℕ) (ps : List PlaceView) → Rising k (6 * threads) ps
    → (k ≤ 6 * threads) × AllByRecursion (IsPrintableEntry threads) (map (entry_at held) ps)
printable_registers held threads small k [] h = (h, tt)
printable_registers held threads small k (Location x ∷ ps) h = absurd h
printable_registers held threads small k (Register t r ∷ ps) h =
    let rest = printable_registers held threads small (6 * t + number r + 1) ps h.1 in
    let there : t < threads = omega (arith, rest.0) in
    let low : k ≤ 6 * threads = omega (arith, rest.0, h.0) in
    (low, ((there, small (Register t r)), rest.1))

pub printable_places : (held : PlaceView → ℕ) (threads : ℕ) → ((p : PlaceView) → IsTextNumber (held p)) → (names : List (List ℕ)) (k : ℕ) (ps : List PlaceView) → AllByRecursion IsLocationName names
    → Rising k (6 * threads) ps → AllByRecursion (IsPrintableEntry threads) (map (entry_at held) (map Location names ++ ps))
printable_places held threads small [] k ps h rising = (printable_registers held threads small k ps rising).1
printable_places held threads small (x ∷ names) k ps h rising = ((h.0, small (Location x)), printable_places held threads small names k ps h.1 rising)

-- ---- what they hold

-- a place that is among them holds its value
pub held_among : (held : PlaceView → ℕ) (p : PlaceView) (qs : List PlaceView) → list_any (λ q. same_place q p) qs ≡ true → first_value (map (entry_at held) qs) p ≡ held p
held_among held p [] h = cc
held_among held p (q ∷ qs) h =
    let found : Bool → ℕ = λ b. option_map_or (λ (e : EntryView). e.value) (cond b (Some (entry_at held q)) (find (λ e. same_place e.place p) (map (entry_at held) qs))) 0 in
    elim (cases_Bool (same_place q p)) [
      | inl t ↦ ap found t ∙ ap held (same_place_is q p t)
      | inr f ↦ ap found f ∙ held_among held p qs (sym (ap (λ (b : Bool). b || list_any (λ x. same_place x p) qs) f) ∙ h)
    ]

-- a place that no entry names holds 0
pub nothing_held : (p : PlaceView) (es : List EntryView) → list_any (λ q. same_place q p) (map place_of_entry es) ≡ false → first_value es p ≡ 0
nothing_held p [] h = refl
nothing_held p (e ∷ es) h =
    let value : Bool → ℕ = λ b. option_map_or (λ (x : EntryView). x.value) (cond b (Some e) (find (λ x. same_place x.place p) es)) 0 in
    let neither = or_parts (same_place e.place p) (list_any (λ q. same_place q p) (map place_of_entry es)) h in
    ap value neither.0 ∙ nothing_held p es neither.1

pub held_nowhere : (held : PlaceView → ℕ) (p : PlaceView) (qs : List PlaceView) → list_any (λ q. same_place q p) qs ≡ false → first_value (map (entry_at held) qs) p ≡ 0
held_nowhere held p qs h = nothing_held p (map (entry_at held) qs) (ap (list_any (λ q. same_place q p)) (placed_entries held qs) ∙ h)

-- ---- which are among them

no_locations : (t : ℕ) (r : Reg) (names : List (List ℕ)) → list_any (is_register t r) (map Location names) ≡ false
no_locations t r [] = refl
no_locations t r (x ∷ names) = no_locations t r names

any_picked : (f : PlaceView → Bool) (p : PlaceView) (b : Bool) → list_any f (if b then p ∷ [] else []) ≡ (b && f p)
any_picked f p true = or-false (f p)
any_picked f p false = refl

swap_last : (a b c : Bool) → ((a && c) || (a && b)) ≡ (a && (c || b))
swap_last true b c = refl
swap_last false b c = refl

among_picked : (named : Named) (t : ℕ) (r : Reg) (rs : List Reg) → list_any (is_register t r) (flat_map (picked named t) rs) ≡ (named t r && list_any (λ s. number s == number r) rs)
among_picked named t r [] = sym (and-false (named t r))
among_picked named t r (s ∷ rs) =
    let rest : Bool = list_any (λ q. number q == number r) rs in
    let here : Bool = number s == number r in
    let first : list_any (is_register t r) (picked named t s) ≡ (named t s && here) =
    any_picked (is_register t r) (Register t s) (named t s) ∙ ap (λ (b : Bool). named t s && (b && here)) (eq-eqb t t refl) in
    let same : (named t s && here) ≡ (named t r && here) =
    elim (cases_Bool here) [
      | inl same_one ↦ ap (λ (q : Reg). named t q && here) (same_register s r (eqb-true (number s) (number r) same_one))
      | inr other_one ↦ ap (λ (b : Bool). named t s && b) other_one ∙ and-false (named t s) ∙ sym (ap (λ (b : Bool). named t r && b) other_one ∙ and-false (named t r))
    ] in
    list_any-append (is_register t r) (picked named t s) (flat_map (picked named t) rs)
    ∙ ap (λ (b : Bool). b || list_any (is_register t r) (flat_map (picked named t) rs)) (first ∙ same)
    ∙ ap (λ (b : Bool). (named t r && here) || b) (among_picked named t r rs)
    ∙ swap_last (named t r) rest here

each_register : (r : Reg) → list_any (λ s. number s == number r) all_registers ≡ true
each_register Eax = refl
each_register r = refl

-- what is no place of a list is not among it
none_among : (p : PlaceView) (ps : List PlaceView) → IsNoneOf p ps → list_any (λ q. same_place q p) ps ≡ false
none_among p [] h = refl
none_among p (q ∷ ps) h = or_from (same_place q p) (list_any (λ x. same_place x p) ps) (false_from_ne_true (same_place q p) (λ t. h.0 (sym (same_place_is q p t)))) (none_among p ps h.1)

among_threads : (named : Named) (t : ℕ) (r : Reg) (u n : ℕ) → u ≤ t → t < u + n → list_any (is_register t r) (threads_places named u n) ≡ named t r
among_threads named t r u zero le lt = absurd (omega arith)
among_threads named t r u (suc n) le lt =
    let f : PlaceView → Bool = is_register t r in
    let rest : List PlaceView = threads_places named (u + 1) n in
    let few : number r < 6 = small_number r in
    list_any-append f (register_places named u) rest
    ∙ elim (cases_Bool (u == t)) [
      | inl same_one ↦
          let same : u ≡ t = (Decides-eqb u t).0 same_one in
          let later : list_any f rest ≡ false = none_among (Register t r) rest (none_later t r (6 * (u + 1)) (6 * ((u + 1) + n)) rest (omega (arith, same, few)) (rising_threads named (u + 1) n)) in
          ap (λ (b : Bool). list_any f (register_places named u) || b) later ∙ or-false (list_any f (register_places named u))
          ∙ ap (λ (w : ℕ). list_any f (register_places named w)) same ∙ (among_picked named t r all_registers ∙ ap (λ (b : Bool). named t r && b) (each_register r) ∙ and-true (named t r))
      | inr other_one ↦
          let other : u ≢ t = λ e. let met : (u == t) ≡ true = (Decides-eqb u t).1 e in cc in
          let before : list_any f (register_places named u) ≡ false = none_among (Register t r) (register_places named u) (none_earlier t r (6 * u) (6 * u + 6) (register_places named u) (omega (arith, other)) (rising_thread named u)).1 in
          ap (λ (b : Bool). b || list_any f rest) before ∙ among_threads named t r (u + 1) n (omega (arith, other)) (omega arith)
    ]

-- a register is among them exactly where it is named
pub register_among : (names : List (List ℕ)) (named : Named) (n t : ℕ) (r : Reg) → t < n → list_any (is_register t r) (named_places names named n) ≡ named t r
register_among names named n t r lt =
    list_any-append (is_register t r) (map Location names) (threads_places named 0 n)
    ∙ ap (λ (b : Bool). b || list_any (is_register t r) (threads_places named 0 n)) (no_locations t r names)
    ∙ among_threads named t r 0 n (omega arith) (omega arith)

location_among_names : (x : List ℕ) (names : List (List ℕ)) → list_any (bytes_eq x) names ≡ true → list_any (λ q. same_place q (Location x)) (map Location names) ≡ true
location_among_names x [] h = cc
location_among_names x (y ∷ names) h =
    let rest : Bool = list_any (λ q. same_place q (Location x)) (map Location names) in
    elim (cases_Bool (bytes_eq x y)) [
      | inl same_one ↦ let back : bytes_eq y x ≡ true = (bytes_eq-Decides y x).1 (sym ((bytes_eq-Decides x y).0 same_one)) in ap (λ (b : Bool). b || rest) back
      | inr other_one ↦
          let more : list_any (bytes_eq x) names ≡ true = sym (ap (λ (b : Bool). b || list_any (bytes_eq x) names) other_one) ∙ h in
          ap (λ (b : Bool). bytes_eq y x || b) (location_among_names x names more) ∙ or-true (bytes_eq y x)
    ]

-- each location is among them
pub location_among : (x : List ℕ) (names : List (List ℕ)) (ps : List PlaceView) → list_any (bytes_eq x) names ≡ true → list_any (λ q. same_place q (Location x)) (map Location names ++ ps) ≡ true
location_among x names ps h =
    list_any-append (λ q. same_place q (Location x)) (map Location names) ps
    ∙ ap (λ (b : Bool). b || list_any (λ q. same_place q (Location x)) ps) (location_among_names x names h)

-- their locations are the names, in order
pub named_locations : (names : List (List ℕ)) (k m : ℕ) (ps : List PlaceView) → Rising k m ps → filter_map location_name (map Location names ++ ps) ≡ names
named_locations [] k m [] h = refl
named_locations [] k m (Location x ∷ ps) h = absurd h
named_locations [] k m (Register t r ∷ ps) h = named_locations [] (6 * t + number r + 1) m ps h.1
named_locations (x ∷ names) k m ps h = ap (λ (ns : List (List ℕ)). x ∷ ns) (named_locations names k m ps h)
