-- A line is read as what it says.
use Rattle.cost_text.proofs.Vocabulary.{◌≡◌, ◌==◌, ℕ, ◌<◌, true, false, List, [], ◌∷◌, ◌++◌, length, map, take, drop, Some, None, refl, sym, ap, ◌∙◌, subst, arith, nat_lt, slice_index, list_all, prefix_len, and_parts, eqb-true, lt-ltb, ltb-true, append-nil}
use Rattle.cost_text.proofs.Vocabulary.{take_at, drop_at, take-append-drop, append_assoc, length-append, cond_some, option_and_then_some, some_pair_parts, is_ascii_digit, nat_tests, is_blank, is_line_space, AreBlanks, AreLineSpaces, prefix_is, all_pass}
use Rattle.cost_text.proofs.Vocabulary.{Place, Said, Says, SpellsPlace, SpellsPlaces, places_of, digits_at, after_colon, after_blanks, after_line_spaces, place_at, PlaceDigits, LineDigits, ReadsPlaces, ReadsLine, ended, begun, place_of, said_by}
use Rattle.cost_text.specs.CostLines.{none, more}
use Rattle.std.proofs.lemmas.List.Folds.{length-prefix_len}
use Rattle.text_tokens.specs.Lexing.{AreDigits}
use Rattle.text_tokens.proofs.FirstBytes.{first_of, first_digit}

-- ---- the parts of a line

record TakesDigits (text ds rest : List ℕ) : Type 0 where
  text_is : text ≡ ds ++ rest
  digits : AreDigits ds

digits_taken : (text ds rest : List ℕ) → digits_at text ≡ Some (ds, rest) → TakesDigits text ds rest
unfolding digits_at
digits_taken text ds rest e =
    let n = prefix_len is_ascii_digit text in
    let a = cond_some (nat_lt 0 n) (take n text, drop n text) (ds, rest) e in
    let front : take n text ≡ ds = ap (λ (p : List ℕ × List ℕ). p.0) a.1 in
    let back : drop n text ≡ rest = ap (λ (p : List ℕ × List ℕ). p.1) a.1 in
    let some : 0 < n = ltb-true _ _ a.0 in
    let digits : AreDigits (take n text) = (omega (arith, length-prefix_len is_ascii_digit text), all_pass is_ascii_digit text) in
    record {
      text_is = sym (take-append-drop n text) ∙ ap (λ (x : List ℕ). x ++ drop n text) front ∙ ap (λ (x : List ℕ). ds ++ x) back;
      digits = subst AreDigits front digits;
    }

digits_again : (ds rest : List ℕ) → AreDigits ds → is_ascii_digit (slice_index rest 0) ≡ false → digits_at (ds ++ rest) ≡ Some (ds, rest)
unfolding digits_at
digits_again ds rest digits stop =
    let n : prefix_len is_ascii_digit (ds ++ rest) ≡ length ds = prefix_is is_ascii_digit ds rest digits.1 stop in
    let some : nat_lt 0 (length ds) ≡ true = lt-ltb _ _ digits.0 in
    let front : take (length ds) (ds ++ rest) ≡ ds = take_at ds rest (length ds) refl in
    let back : drop (length ds) (ds ++ rest) ≡ rest = drop_at ds rest (length ds) refl in
    rw (n, some, front, back) refl

colon_taken : (text rest : List ℕ) → after_colon text ≡ Some rest → text ≡ 58 ∷ rest
unfolding after_colon
colon_taken [] rest e = absurd cc
colon_taken (b ∷ bs) rest e =
    let a = cond_some (b == 58) bs rest e in
    ap (λ (x : ℕ). x ∷ bs) (eqb-true b 58 a.0) ∙ ap (λ (x : List ℕ). 58 ∷ x) a.1

record TakesBlanks (text rest : List ℕ) : Type 0 where
  blanks : List ℕ
  text_is : text ≡ blanks ++ rest
  is : AreBlanks blanks

blanks_taken : (text rest : List ℕ) → after_blanks text ≡ Some rest → TakesBlanks text rest
unfolding after_blanks
blanks_taken text rest e =
    let n = prefix_len is_blank text in
    let a = cond_some (nat_lt 0 n) (drop n text) rest e in
    let some : 0 < n = ltb-true _ _ a.0 in
    record {
      blanks = take n text;
      text_is = sym (take-append-drop n text) ∙ ap (λ (x : List ℕ). take n text ++ x) a.1;
      is = (omega (arith, length-prefix_len is_blank text), all_pass is_blank text);
    }

blanks_again : (blanks rest : List ℕ) → AreBlanks blanks → is_blank (slice_index rest 0) ≡ false → after_blanks (blanks ++ rest) ≡ Some rest
unfolding after_blanks
blanks_again blanks rest is stop =
    let n : prefix_len is_blank (blanks ++ rest) ≡ length blanks = prefix_is is_blank blanks rest is.1 stop in
    let some : nat_lt 0 (length blanks) ≡ true = lt-ltb _ _ is.0 in
    let back : drop (length blanks) (blanks ++ rest) ≡ rest = drop_at blanks rest (length blanks) refl in
    rw (n, some, back) refl

line_spaces_again : (line_spaces rest : List ℕ) → AreLineSpaces line_spaces → is_line_space (slice_index rest 0) ≡ false → after_line_spaces (line_spaces ++ rest) ≡ rest
line_spaces_again line_spaces rest is stop =
    let n : prefix_len is_line_space (line_spaces ++ rest) ≡ length line_spaces = prefix_is is_line_space line_spaces rest is stop in
    rw n (drop_at line_spaces rest (length line_spaces) refl)

-- ---- the bytes that come first

digit_no_space : (b : ℕ) → is_ascii_digit b ≡ true → (is_line_space b ≡ false) × (is_blank b ≡ false)
digit_no_space b h = (grind (arith, nat_tests), grind (arith, nat_tests))

blank_no_digit : (b : ℕ) → is_blank b ≡ true → is_ascii_digit b ≡ false
blank_no_digit b h = grind (arith, nat_tests)

line_space_no_digit : (b : ℕ) → is_line_space b ≡ true → is_ascii_digit b ≡ false
line_space_no_digit b h = grind (arith, nat_tests)

digits_no_space : (ds rest : List ℕ) → AreDigits ds → (is_line_space (slice_index (ds ++ rest) 0) ≡ false) × (is_blank (slice_index (ds ++ rest) 0) ≡ false)
digits_no_space ds rest h = digit_no_space (slice_index (ds ++ rest) 0) (ap is_ascii_digit (first_of ds rest h.0) ∙ first_digit ds h)

blanks_first : (blanks rest : List ℕ) → AreBlanks blanks → is_ascii_digit (slice_index (blanks ++ rest) 0) ≡ false
blanks_first [] rest h = absurd (omega (arith, h.0))
blanks_first (b ∷ bs) rest h = blank_no_digit b (and_parts (is_blank b) (list_all is_blank bs) h.1).0

line_spaces_first : (line_spaces : List ℕ) → AreLineSpaces line_spaces → is_ascii_digit (slice_index line_spaces 0) ≡ false
line_spaces_first [] h = refl
line_spaces_first (b ∷ bs) h = line_space_no_digit b (and_parts (is_line_space b) (list_all is_line_space bs) h).0

line_space_no_colon : (b : ℕ) → is_line_space b ≡ true → (b == 58) ≡ false
line_space_no_colon b h = grind (arith, nat_tests)

no_colon : (line_spaces : List ℕ) → AreLineSpaces line_spaces → after_colon line_spaces ≡ None
unfolding after_colon
no_colon [] h = refl
no_colon (b ∷ bs) h = rw (line_space_no_colon b (and_parts (is_line_space b) (list_all is_line_space bs) h).0) refl

-- ---- places that are read

record TakesPlace (text : List ℕ) (digits : PlaceDigits) (rest : List ℕ) : Type 0 where
  spelled : List ℕ
  text_is : text ≡ spelled ++ rest
  is : SpellsPlace spelled (place_of digits)

abbrev digits_as : List ℕ → List ℕ → PlaceDigits
digits_as thread instruction = record { thread = thread; instruction = instruction }

place_taken : (text rest : List ℕ) (digits : PlaceDigits) → place_at text ≡ Some (digits, rest) → TakesPlace text digits rest
unfolding place_at
place_taken text rest digits e =
    option_and_then_some _ (digits_at text) (digits, rest) e (λ t is_t e1.
    option_and_then_some _ (after_colon t.1) (digits, rest) e1 (λ u is_u e2.
    option_and_then_some _ (digits_at u) (digits, rest) e2 (λ k is_k e3.
    option_and_then_some _ (after_blanks k.1) (digits, rest) e3 (λ v is_v e4.
    let dt = digits_taken text t.0 t.1 is_t in
    let du = colon_taken t.1 u is_u in
    let dk = digits_taken u k.0 k.1 is_k in
    let dv = blanks_taken k.1 v is_v in
    let after_t : t.1 ≡ 58 ∷ (k.0 ++ (dv.blanks ++ v)) = du ∙ ap (λ (x : List ℕ). 58 ∷ x) (dk.text_is ∙ ap (λ (x : List ℕ). k.0 ++ x) dv.text_is) in
    let together : t.0 ++ 58 ∷ (k.0 ++ (dv.blanks ++ v)) ≡ (t.0 ++ 58 ∷ (k.0 ++ dv.blanks)) ++ v =
    ap (λ (x : List ℕ). t.0 ++ 58 ∷ x) (sym (append_assoc k.0 dv.blanks v)) ∙ sym (append_assoc t.0 (58 ∷ (k.0 ++ dv.blanks)) v) in
    let taken : TakesPlace text (digits_as t.0 k.0) v = record {
      spelled = t.0 ++ 58 ∷ (k.0 ++ dv.blanks);
      text_is = dt.text_is ∙ ap (λ (x : List ℕ). t.0 ++ x) after_t ∙ together;
      is = record { thread = t.0; instruction = k.0; blanks = dv.blanks; spelled = refl; of_thread = (dt.digits, refl); of_instruction = (dk.digits, refl); parts = dv.is };
    } in
    let both = some_pair_parts (digits_as t.0 k.0) digits v rest e4 in
    subst (λ (x : PlaceDigits). TakesPlace text x rest) both.0 (subst (λ (x : List ℕ). TakesPlace text (digits_as t.0 k.0) x) both.1 taken)))))

places_taken : (text end : List ℕ) (digits : List PlaceDigits) → ReadsPlaces text digits end → (spelled : List ℕ) × (text ≡ spelled ++ end) × SpellsPlaces spelled (map place_of digits)
places_taken text _ _ (ended e) = ([], refl, none)
places_taken text end _ (begun {rest = rest} {place = digits} {places = others} e reads) =
    let p = place_taken text rest digits e in
    let q = places_taken rest end others reads in
    (p.spelled ++ q.0, p.text_is ∙ ap (λ (x : List ℕ). p.spelled ++ x) q.1 ∙ sym (append_assoc p.spelled q.0 end), more p.is q.2)

-- ---- places that are spelled

record PlaceRead (text tail : List ℕ) (place : Place) : Type 0 where
  digits : PlaceDigits
  is : place_at (text ++ tail) ≡ Some (digits, tail)
  place_is : place_of digits ≡ place

place_again : (text : List ℕ) (place : Place) → SpellsPlace text place → (tail : List ℕ) → is_blank (slice_index tail 0) ≡ false → PlaceRead text tail place
unfolding place_at after_colon
place_again text place s tail stop =
    let u : List ℕ = s.instruction ++ (s.blanks ++ tail) in
    let together : text ++ tail ≡ s.thread ++ 58 ∷ u =
    ap (λ (x : List ℕ). x ++ tail) s.spelled ∙ append_assoc s.thread (58 ∷ (s.instruction ++ s.blanks)) tail ∙ ap (λ (x : List ℕ). s.thread ++ 58 ∷ x) (append_assoc s.instruction s.blanks tail) in
    let is_t : digits_at (s.thread ++ 58 ∷ u) ≡ Some (s.thread, 58 ∷ u) = digits_again s.thread (58 ∷ u) s.of_thread.0 refl in
    let is_k : digits_at u ≡ Some (s.instruction, s.blanks ++ tail) = digits_again s.instruction (s.blanks ++ tail) s.of_instruction.0 (blanks_first s.blanks tail s.parts) in
    let is_v : after_blanks (s.blanks ++ tail) ≡ Some tail = blanks_again s.blanks tail s.parts stop in
    let read : place_at (s.thread ++ 58 ∷ u) ≡ Some (digits_as s.thread s.instruction, tail) = rw (is_t, is_k, is_v) refl in
    record {
      digits = digits_as s.thread s.instruction;
      is = ap place_at together ∙ read;
      place_is = λ i. record { thread = sym s.of_thread.1 i; instruction = sym s.of_instruction.1 i };
    }

-- places begin with a digit
begins : (text : List ℕ) (place : Place) (places : List Place) → SpellsPlaces text (place ∷ places) → (tail : List ℕ)
    → (is_line_space (slice_index (text ++ tail) 0) ≡ false) × (is_blank (slice_index (text ++ tail) 0) ≡ false)
begins _ place places (more {text = text} {rest = rest} s others) tail =
    let after : List ℕ = 58 ∷ (s.instruction ++ s.blanks) ++ (rest ++ tail) in
    let together : (text ++ rest) ++ tail ≡ s.thread ++ after = append_assoc text rest tail ∙ ap (λ (x : List ℕ). x ++ (rest ++ tail)) s.spelled ∙ append_assoc s.thread (58 ∷ (s.instruction ++ s.blanks)) (rest ++ tail) in
    let first = digits_no_space s.thread after s.of_thread.0 in
    (ap (λ (x : List ℕ). is_line_space (slice_index x 0)) together ∙ first.0, ap (λ (x : List ℕ). is_blank (slice_index x 0)) together ∙ first.1)

no_blank : (text : List ℕ) (places : List Place) → SpellsPlaces text places → (tail : List ℕ) → is_blank (slice_index tail 0) ≡ false → is_blank (slice_index (text ++ tail) 0) ≡ false
no_blank _ _ none tail stop = stop
no_blank _ _ (more {text = text} {rest = rest} {place = place} {places = places} s others) tail stop = (begins (text ++ rest) place places (more s others) tail).1

record PlacesRead (text tail : List ℕ) (places : List Place) : Type 0 where
  digits : List PlaceDigits
  reads : ReadsPlaces (text ++ tail) digits tail
  places_are : map place_of digits ≡ places

places_again : (text : List ℕ) (places : List Place) → SpellsPlaces text places → (tail : List ℕ) → is_blank (slice_index tail 0) ≡ false → place_at tail ≡ None → PlacesRead text tail places
places_again _ _ none tail stop last = record { digits = []; reads = ended last; places_are = refl }
places_again _ _ (more {text = text} {rest = rest} {place = place} {places = places} s others) tail stop last =
    let q = places_again rest places others tail stop last in
    let p = place_again text place s (rest ++ tail) (no_blank rest places others tail stop) in
    record {
      digits = p.digits ∷ q.digits;
      reads = begun (ap place_at (append_assoc text rest tail) ∙ p.is) q.reads;
      places_are = ap (λ (x : Place). x ∷ map place_of q.digits) p.place_is ∙ ap (λ (x : List Place). place ∷ x) q.places_are;
    }

-- a cost is no place
no_place : (cost after : List ℕ) → AreDigits cost → AreLineSpaces after → place_at (cost ++ after) ≡ None
unfolding place_at
no_place cost after digits ends = rw (digits_again cost after digits (line_spaces_first after ends), no_colon after ends) refl

-- ---- places are read in one way

pub more_read : (text rest : List ℕ) (digits : PlaceDigits) (all : List PlaceDigits) (end : List ℕ) → place_at text ≡ Some (digits, rest) → ReadsPlaces text all end
    → (later : List PlaceDigits) × (all ≡ digits ∷ later) × ReadsPlaces rest later end
more_read text rest digits _ _ is (ended e) = let bad = sym e ∙ is in absurd cc
more_read text rest digits _ end is (begun {rest = other} {place = first} {places = later} e reads) =
    let both = some_pair_parts first digits other rest (sym e ∙ is) in
    (later, ap (λ (x : PlaceDigits). x ∷ later) both.0, subst (λ (x : List ℕ). ReadsPlaces x later end) both.1 reads)

pub none_read : (text : List ℕ) (all : List PlaceDigits) (end : List ℕ) → place_at text ≡ None → ReadsPlaces text all end → (all ≡ []) × (end ≡ text)
none_read text _ _ is (ended e) = (refl, refl)
none_read text _ _ is (begun e reads) = let bad = sym e ∙ is in absurd cc

pub reads_once : (text : List ℕ) (a b : List PlaceDigits) (m n : List ℕ) → ReadsPlaces text a m → ReadsPlaces text b n → (a ≡ b) × (m ≡ n)
reads_once text _ b _ n (ended e) other = let q = none_read text b n e other in (sym q.0, sym q.1)
reads_once text _ b m n (begun {rest = rest} {place = first} {places = later} e reads) other =
    let p = more_read text rest first b n e other in
    let both = reads_once rest later p.0 m n reads p.2 in
    (ap (λ (x : List PlaceDigits). first ∷ x) both.0 ∙ sym p.1, both.1)

-- ---- a line

-- what was read of a line is what it says
pub line_read : (line : List ℕ) (digits : LineDigits) → ReadsLine line digits → Says line (said_by digits)
line_read line digits r =
    let n = prefix_len is_line_space line in
    let p = places_taken (after_line_spaces line) r.rest (digits.first ∷ digits.others) r.places in
    let c = digits_taken r.rest digits.cost r.after r.cost in
    record {
      before = take n line;
      places = p.0;
      cost = digits.cost;
      after = r.after;
      text = sym (take-append-drop n line) ∙ ap (λ (x : List ℕ). take n line ++ x) (p.1 ∙ ap (λ (x : List ℕ). p.0 ++ x) c.text_is);
      begins = all_pass is_line_space line;
      of_places = p.2;
      of_cost = (c.digits, refl);
      ends = r.ends;
    }

-- what a line says is read
pub record Reads (line : List ℕ) (said : Said) : Type 0 where
  pub digits : LineDigits
  pub reads : ReadsLine line digits
  pub said_is : said_by digits ≡ said

pub said_again : (line : List ℕ) (said : Said) → Says line said → Reads line said
said_again line said s = by_digits p.digits p.reads p.places_are
  where
    tail : List ℕ
    tail = s.cost ++ s.after

    p : PlacesRead s.places tail (places_of said)
    p = places_again s.places (places_of said) s.of_places tail (digits_no_space s.cost s.after s.of_cost.0).1 (no_place s.cost s.after s.of_cost.0 s.ends)

    front : after_line_spaces line ≡ s.places ++ tail
    front = ap after_line_spaces s.text ∙ line_spaces_again s.before (s.places ++ tail) s.begins (begins s.places said.first said.others s.of_places tail).0

    by_digits : (digits : List PlaceDigits) → ReadsPlaces (s.places ++ tail) digits tail → map place_of digits ≡ places_of said → Reads line said
    by_digits [] reads are = absurd cc
    by_digits (first ∷ others) reads are =
        let first_is : place_of first ≡ said.first = cc in
        let others_are : map place_of others ≡ said.others = cc in
        record {
          digits = record { first = first; others = others; cost = s.cost };
          reads = record {
            rest = tail;
            after = s.after;
            places = subst (λ (x : List ℕ). ReadsPlaces x (first ∷ others) tail) (sym front) reads;
            cost = digits_again s.cost s.after s.of_cost.0 (line_spaces_first s.after s.ends);
            ends = s.ends;
          };
          said_is = λ i. record { first = first_is i; others = others_are i; cost = sym s.of_cost.1 i };
        }

-- ---- what follows

-- a line is read in one way
pub line_once : (line : List ℕ) (a b : LineDigits) → ReadsLine line a → ReadsLine line b → a ≡ b
line_once line a b r q =
    let both = reads_once (after_line_spaces line) (a.first ∷ a.others) (b.first ∷ b.others) r.rest q.rest r.places q.places in
    let are = both.0 in
    let firsts : a.first ≡ b.first = cc in
    let others : a.others ≡ b.others = cc in
    let costs = some_pair_parts a.cost b.cost r.after q.after (sym r.cost ∙ ap digits_at both.1 ∙ q.cost) in
    λ i. record { first = firsts i; others = others i; cost = costs.0 i }

-- a line says one thing
pub said_once : (line : List ℕ) (a b : Said) → Says line a → Says line b → a ≡ b
said_once line a b s t =
    let r = said_again line a s in
    let q = said_again line b t in
    sym r.said_is ∙ ap said_by (line_once line r.digits q.digits r.reads q.reads) ∙ q.said_is

-- a line of which nothing is read says nothing
pub unread : (line : List ℕ) → ((digits : LineDigits) → ReadsLine line digits → ⊥) → (said : Said) → Says line said → ⊥
unread line nothing said s = let r = said_again line said s in nothing r.digits r.reads

all_line_spaces : (line : List ℕ) → AreLineSpaces line → after_line_spaces line ≡ []
all_line_spaces line is = subst (λ (x : List ℕ). after_line_spaces x ≡ []) (append-nil line) (line_spaces_again line [] is refl)

no_place_in_none : place_at [] ≡ None
unfolding place_at digits_at
no_place_in_none = refl

-- a blank line says nothing
pub blank_says_nothing : (line : List ℕ) → AreLineSpaces line → (said : Said) → Says line said → ⊥
blank_says_nothing line blank =
    unread line (λ digits r. let bad = none_read (after_line_spaces line) (digits.first ∷ digits.others) r.rest (ap place_at (all_line_spaces line blank) ∙ no_place_in_none) r.places in let are = bad.0 in cc)

-- ---- what is left

-- what follows a place is shorter
pub rest_shorter : (text thread others after instruction more_blanks rest : List ℕ) → digits_at text ≡ Some (thread, others) → after_colon others ≡ Some after → digits_at after ≡ Some (instruction, more_blanks) → after_blanks more_blanks ≡ Some rest → length rest < length text
rest_shorter text thread others after instruction more_blanks rest is_t is_u is_k is_v =
    let dt = digits_taken text thread others is_t in
    let dk = digits_taken after instruction more_blanks is_k in
    let dv = blanks_taken more_blanks rest is_v in
    omega (arith, ap length dt.text_is, length-append thread others, ap length (colon_taken others after is_u), ap length dk.text_is, length-append instruction more_blanks, ap length dv.text_is, length-append dv.blanks rest)

-- ---- lines that are not read

module _ (line rest end : List ℕ) (first : PlaceDigits) (others : List PlaceDigits) (is : place_at (after_line_spaces line) ≡ Some (first, rest)) (reads : ReadsPlaces rest others end) where
  ends_there : (digits : LineDigits) (r : ReadsLine line digits) → r.rest ≡ end
  ends_there digits r = (reads_once (after_line_spaces line) (digits.first ∷ digits.others) (first ∷ others) r.rest end r.places (begun is reads)).1

  pub unread_cost : digits_at end ≡ None → (digits : LineDigits) → ReadsLine line digits → ⊥
  unread_cost nothing digits r = let bad = sym r.cost ∙ ap digits_at (ends_there digits r) ∙ nothing in cc

  pub unread_end : (cost after : List ℕ) → digits_at end ≡ Some (cost, after) → list_all is_line_space after ≡ false → (digits : LineDigits) → ReadsLine line digits → ⊥
  unread_end cost after some other digits r =
      let costs = some_pair_parts digits.cost cost r.after after (sym r.cost ∙ ap digits_at (ends_there digits r) ∙ some) in
      let bad = sym r.ends ∙ ap (list_all is_line_space) costs.1 ∙ other in
      cc

  pub digits_read : (cost after : List ℕ) → digits_at end ≡ Some (cost, after) → list_all is_line_space after ≡ true → ReadsLine line (record { first = first; others = others; cost = cost })
  digits_read cost after some spaces = record { rest = end; after = after; places = begun is reads; cost = some; ends = spaces }
