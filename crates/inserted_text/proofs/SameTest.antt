-- Two texts that are read are of one test where their parts are the same.
use Rattle.std.proofs.Common.{◌≡◌, ◌∙◌, ◌<◌, ℕ, Bool, false, List, [], map, length, sym, ap, arith}
use Rattle.std.specs.List.{list_any, range_with_len}
use Rattle.std.specs.Prelude.{slice_index_or}
use Rattle.std.proofs.lemmas.List.FromFn.{get_or-map-range_with_len, length-map-range_with_len}
use Rattle.tso_program.specs.Instructions.{number}
use Rattle.tso_program.specs.declared.listing.Listing.{Listing}
use Rattle.litmus_syntax.specs.Views.{PlaceView}
use Rattle.litmus_reader.specs.declared.litmus.Litmus.{Litmus}
use Rattle.litmus_reader.specs.Meaning.{thread_read}
use Rattle.litmus_reader.specs.Names.{TextNames, all_registers, number_in}
use Rattle.litmus_reader.specs.Places.{is_register, names_among, places}
use Rattle.litmus_reader.specs.Texts.{StandsFor}
use Rattle.litmus_reader.proofs.Filled.{range_same}
use Rattle.inserted_text.specs.Internal.SameTests.{HaveSameParts, named_registers}

-- which registers of thread t places name
abbrev named_among : List PlaceView → ℕ → List Bool
named_among ps t = map (λ r. list_any (is_register t r) ps) all_registers

-- the names' table has a row for each thread
row_named : (ps : List PlaceView) (n t : ℕ) → t < n → named_registers (names_among n ps) t ≡ named_among ps t
row_named ps n t lt =
    ap (λ (row : List Bool). map (λ r. slice_index_or row (number r) false) all_registers) (get_or-map-range_with_len (named_among ps) 0 n t t [] lt (omega arith))

rows_named : (names : TextNames) (ps : List PlaceView) (n : ℕ) → names ≡ names_among n ps → names.registers ≡ map (named_registers names) (range_with_len 0 n)
rows_named names ps n is =
    ap (λ (ns : TextNames). ns.registers) is
    ∙ range_same (named_among ps) (named_registers names) n (λ t lt. sym (ap (λ (ns : TextNames). named_registers ns t) is ∙ row_named ps n t lt))

-- as many rows as the program has threads
rows_of_text : (text : List ℕ) (litmus : Litmus Listing) → StandsFor text litmus → litmus.names.registers ≡ map (named_registers litmus.names) (range_with_len 0 (length litmus.program.threads))
rows_of_text text litmus stands =
    let means = stands.means in
    let many : length litmus.program.threads ≡ means.body.threads =
    ap (λ (p : Listing). length p.threads) means.program ∙ length-map-range_with_len (thread_read (number_in litmus.names.locations) means.body) 0 means.body.threads in
    rows_named litmus.names (places means.body means.ending) means.body.threads means.names
    ∙ ap (λ n. map (named_registers litmus.names) (range_with_len 0 n)) (sym many)

pub same_test : (text again : List ℕ) (one other : Litmus Listing) → StandsFor text one → StandsFor again other → HaveSameParts one other → one ≡ other
same_test text again one other stands stands_too same =
    let many : length one.program.threads ≡ length other.program.threads = ap (λ (p : Listing). length p.threads) same.program in
    let registers : one.names.registers ≡ other.names.registers =
    rows_of_text text one stands
    ∙ same.registers
    ∙ ap (λ n. map (named_registers other.names) (range_with_len 0 n)) many
    ∙ sym (rows_of_text again other stands_too) in
    λ i. record {
      name = same.name i;
      program = same.program i;
      names = record { locations = same.locations i; registers = registers i };
      condition = same.condition i;
      observed = same.observed i;
      labels = same.labels i;
    }
