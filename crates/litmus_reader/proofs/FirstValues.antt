-- Entry by entry the tables are filled with what each place holds at first, since no place stands twice.
use Rattle.litmus_reader.proofs.Vocabulary.{◌≡◌, ℕ, ◌<◌, Bool, true, false, cond, List, [], ◌∷◌, length, get_or, map, fold, Some, refl, sym, ap, ◌∙◌, inl, inr, if◌then◌else◌, IsDistinct, AllByRecursion, range_with_len, find, option_map_or, bytes_eq}
use Rattle.litmus_reader.proofs.Vocabulary.{cases_Bool, fill_by_all, Reg, Atom, PlaceView, Location, Register, EntryView, BodyView, all_registers, number_in, thread_labels, position_in, value_of, is_of_location, is_of_register, entry_atoms, last_said}
use Rattle.litmus_reader.proofs.Vocabulary.{memory_from, registers_from, listing_by, length-map, get_or-map, NoneTwice, place_of_entry, atom_of, first_value, memory_of, registers_of, code_in, listing_of, ◌≢◌, false_from_ne_true}
use Rattle.litmus_syntax.specs.Places.{same_place}
use Rattle.litmus_syntax.proofs.SeenLaws.{same_place_is}
use Rattle.litmus_reader.proofs.{Elements.all_more_so, NamesOnce.Stands, NamesOnce.same_number}

-- what is said of p is said of q exactly where they are one
abbrev Agrees : (Atom → Bool) → (List ℕ → ℕ) → PlaceView → PlaceView → Type 0
Agrees speaks numbered q p = (n : ℕ) → speaks (atom_of numbered p n) ≡ same_place p q

value_said : (numbered : List ℕ → ℕ) (p : PlaceView) (n : ℕ) → value_of (atom_of numbered p n) ≡ n
value_said numbered (Location x) n = refl
value_said numbered (Register t r) n = refl

-- the last value that is said, or v
abbrev said_or : (Atom → Bool) → List Atom → ℕ → ℕ
said_or speaks atoms v = fold (λ w a. if speaks a then value_of a else w) v atoms

none_said : (speaks : Atom → Bool) (numbered : List ℕ → ℕ) (q : PlaceView) (es : List EntryView) (v : ℕ) → AllByRecursion (Agrees speaks numbered q) (map place_of_entry es)
    → AllByRecursion (λ p. same_place p q ≡ false) (map place_of_entry es) → said_or speaks (entry_atoms numbered es) v ≡ v
none_said speaks numbered q [] v agree none = refl
none_said speaks numbered q (e ∷ es) v agree none =
    ap (λ (b : Bool). said_or speaks (entry_atoms numbered es) (if b then value_of (atom_of numbered e.place e.value) else v)) (agree.0 e.value ∙ none.0)
    ∙ none_said speaks numbered q es v agree.1 none.1

-- the last value that is said is that of the entry that names the place
said : (speaks : Atom → Bool) (numbered : List ℕ → ℕ) (q : PlaceView) (es : List EntryView) (v : ℕ) → AllByRecursion (Agrees speaks numbered q) (map place_of_entry es) → NoneTwice (map place_of_entry es)
    → said_or speaks (entry_atoms numbered es) v ≡ option_map_or (λ e. e.value) (find (λ e. same_place e.place q) es) v
said speaks numbered q [] v agree once = refl
said speaks numbered q (e ∷ es) v agree once =
    let new : Bool → ℕ = λ b. if b then value_of (atom_of numbered e.place e.value) else v in
    let found : Bool → ℕ = λ b. option_map_or (λ x. x.value) (cond b (Some e) (find (λ x. same_place x.place q) es)) v in
    elim (cases_Bool (same_place e.place q)) [
      | inl t ↦
          ap (λ (b : Bool). said_or speaks (entry_atoms numbered es) (new b)) (agree.0 e.value ∙ t)
          ∙ none_said speaks numbered q es (new true) agree.1 (all_more_so (λ x. e.place ≢ x) (λ x. same_place x q ≡ false) (λ x other. false_from_ne_true (same_place x q) (λ s. other (same_place_is e.place q t ∙ sym (same_place_is x q s)))) (map place_of_entry es) once.0)
          ∙ value_said numbered e.place e.value
          ∙ sym (ap found t)
      | inr f ↦ ap (λ (b : Bool). said_or speaks (entry_atoms numbered es) (new b)) (agree.0 e.value ∙ f) ∙ said speaks numbered q es v agree.1 once.1 ∙ sym (ap found f)
    ]

-- ---- locations

location_agrees : (names : List (List ℕ)) (l : ℕ) (p : PlaceView) → IsDistinct bytes_eq names → l < length names → Stands names p
    → Agrees (is_of_location l) (number_in names) (Location (get_or names l [])) p
location_agrees names l (Location y) once lt stands = λ n. same_number names y l once stands lt
location_agrees names l (Register t r) once lt stands = λ n. refl

pub memory_filled : (names : List (List ℕ)) (entries : List EntryView) → IsDistinct bytes_eq names → AllByRecursion (Stands names) (map place_of_entry entries) → NoneTwice (map place_of_entry entries)
    → memory_from (length names) (entry_atoms (number_in names) entries) ≡ memory_of names entries
memory_filled names entries distinct stand once =
    let value : List ℕ → ℕ = λ x. first_value entries (Location x) in
    let atoms : List Atom = entry_atoms (number_in names) entries in
    let at : (l : ℕ) → l < length names → get_or (map value names) l 0 ≡ last_said (is_of_location l) atoms =
    λ l lt. get_or-map value names l [] 0 lt
    ∙ sym (said (is_of_location l) (number_in names) (Location (get_or names l [])) entries 0
    (all_more_so (Stands names) (Agrees (is_of_location l) (number_in names) (Location (get_or names l []))) (λ p. location_agrees names l p distinct lt) (map place_of_entry entries) stand) once) in
    sym (fill_by_all (λ l. last_said (is_of_location l) atoms) (map value names) (length names) 0 (length-map names value) at)

-- ---- registers

registers_agree : (numbered : List ℕ → ℕ) (t : ℕ) (r : Reg) (ps : List PlaceView) → AllByRecursion (Agrees (is_of_register t r) numbered (Register t r)) ps
registers_agree numbered t r [] = tt
registers_agree numbered t r (Location y ∷ ps) = ((λ n. refl), registers_agree numbered t r ps)
registers_agree numbered t r (Register u s ∷ ps) = ((λ n. refl), registers_agree numbered t r ps)

pub registers_filled : (numbered : List ℕ → ℕ) (entries : List EntryView) (t : ℕ) → NoneTwice (map place_of_entry entries) → registers_from (entry_atoms numbered entries) t ≡ registers_of entries t
registers_filled numbered entries t once =
    λ i. map (λ r. said (is_of_register t r) numbered (Register t r) entries 0 (registers_agree numbered t r (map place_of_entry entries)) once i) all_registers

-- ---- the program

pub listing_filled : (names : List (List ℕ)) (body : BodyView) → IsDistinct bytes_eq names → AllByRecursion (Stands names) (map place_of_entry body.entries) → NoneTwice (map place_of_entry body.entries)
    → listing_by (number_in names) position_in (length names) body ≡ listing_of names body
listing_filled names body distinct stand once =
    λ i. record {
      threads = map (λ t. record { code = code_in (number_in names) (position_in (thread_labels body.rows t)) body.rows t; registers = registers_filled (number_in names) body.entries t once i }) (range_with_len 0 body.threads);
      memory = memory_filled names body.entries distinct stand once i;
    }
