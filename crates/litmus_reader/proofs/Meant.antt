-- From what was read of a text to what the text stands for.
use Rattle.litmus_reader.proofs.Vocabulary.{◌≡◌, ℕ, ◌≤◌, false, List, length, Option, Some, None, refl, sym, ap, ◌∙◌, subst, arith, inl, inr, ⊤, is_some, map, filter_map, cases_lt, cases_Bool, Thread, Listing, ProgramFault, Tok, Lexes, Litmus}
use Rattle.litmus_reader.proofs.Vocabulary.{ReadFault, OutOfMemory, MatchFault, TextNames, number_in, byte_in, byte_at, listing_by, position_in, all_labels, first_long, AreSkipped, Means, StandsFor, StandsForNothing, BreaksFirst, RefusesBy, IsReadOf, MAX_LOCATIONS, location_name}
use Rattle.litmus_reader.proofs.Vocabulary.{places, names_of, listing_of, condition_of, observed_of}
use Rattle.litmus_reader.proofs.{NamesOnce.in_order_once, NamesOnce.entries_stand, FirstValues.listing_filled, Faults.match_map, Faults.match_memory, Fronts.front_read}
use Rattle.litmus_reader.proofs.Numbered.{AreLimits, IsOver, byte_same, listing_same, memory_len, over_same, none_long}

module _ (text : List ℕ) (read : Litmus Listing) (is : IsReadOf text read) where
  -- what the text stands for: what was read, with the locations' own numbers
  abbrev pub meant : Litmus Listing
  meant = record {
    name = read.name;
    program = listing_of read.names.locations is.read.body;
    names = read.names;
    condition = condition_of (number_in read.names.locations) is.read.ending.quantifier is.read.formula;
    observed = map (observed_of (number_in read.names.locations)) is.read.ending.observed;
    labels = read.labels;
  }

  pub stands : StandsFor text meant
  stands = record {
    lines = is.lines;
    others = is.others;
    tokens = is.tokens;
    utf8 = is.utf8;
    first_line = is.first_line;
    skipped = is.skipped;
    lexes = is.lexes;
    means = record { body = is.read.body; ending = is.read.ending; formula = is.read.formula; parts = is.read.parts; names = is.read.names; program = refl; condition = refl; observed = refl; labels = is.read.labels };
  }

  -- and it stands for nothing else
  pub stands_only : (other : Litmus Listing) → StandsFor text other → other ≡ meant
  stands_only other st =
      let p = is.first_only other.name st.lines st.first_line in
      let skipped : AreSkipped is.lines st.others = subst (λ (l : List ℕ). AreSkipped l st.others) (sym p.1) st.skipped in
      let lexes : Lexes is.others st.tokens = subst (λ (l : List ℕ). Lexes l st.tokens) (sym (is.skipped_only st.others skipped)) st.lexes in
      let m : Means is.tokens other = subst (λ (ts : List Tok). Means ts other) (sym (is.lexes_only st.tokens lexes)) st.means in
      let q = is.read.only m.body m.ending m.formula m.parts in
      let names : other.names ≡ read.names = m.names ∙ (λ i. names_of (q.0 i) (q.1 i)) ∙ sym is.read.names in
      let program : other.program ≡ meant.program = m.program ∙ (λ i. listing_of (names i).locations (q.0 i)) in
      let condition : other.condition ≡ meant.condition = m.condition ∙ (λ i. condition_of (number_in (names i).locations) (q.1 i).quantifier (q.2 i)) in
      let observed : other.observed ≡ meant.observed = m.observed ∙ (λ i. map (observed_of (number_in (names i).locations)) (q.1 i).observed) in
      let labels : other.labels ≡ meant.labels = m.labels ∙ (λ i. all_labels (q.0 i)) ∙ sym is.read.labels in
      λ i. record { name = sym p.0 i; program = program i; names = names i; condition = condition i; observed = observed i; labels = labels i }

  -- what is filled in is the program of the text
  filled : listing_by (number_in read.names.locations) position_in (length read.names.locations) is.read.body ≡ listing_of read.names.locations is.read.body
  filled =
      let body = is.read.body in
      let of_text : TextNames → Type 0 = λ n. listing_by (number_in n.locations) position_in (length n.locations) body ≡ listing_of n.locations body in
      let names = names_of body is.read.ending in
      subst of_text (sym is.read.names)
      (listing_filled names.locations body (in_order_once (filter_map location_name (places body is.read.ending))) (entries_stand body is.read.ending) is.read.parts.begins.0.1.1)

  -- of a text of few locations and short threads that is what was read
  few_meant : (longest : ℕ) → longest ≤ 255 → length read.names.locations ≤ MAX_LOCATIONS → is_some (first_long longest read.program.threads) ≡ false → meant ≡ read
  few_meant longest small few none =
      let names = read.names.locations in
      let short = ap (λ (l : Listing). is_some (first_long longest l.threads)) (sym is.read.program) ∙ none in
      let program : meant.program ≡ read.program = sym (is.read.program ∙ listing_same longest names is.read.body small few short ∙ filled) in
      let condition : meant.condition ≡ read.condition = sym (is.read.condition ∙ ap (λ (numbered : List ℕ → ℕ). condition_of numbered is.read.ending.quantifier is.read.formula) (byte_same names few)) in
      let observed : meant.observed ≡ read.observed = sym (is.read.observed ∙ ap (λ (numbered : List ℕ → ℕ). map (observed_of numbered) is.read.ending.observed) (byte_same names few)) in
      λ i. record { name = read.name; program = program i; names = read.names; condition = condition i; observed = observed i; labels = read.labels }

  module _ (Within : List Thread → List ℕ → Type 0) (first : List Thread → List ℕ → Option ProgramFault) (limits : AreLimits Within first) where
    within_meant : Within read.program.threads read.program.memory → meant ≡ read
    within_meant within =
        let names = read.names.locations in
        let e : length read.program.memory ≡ length names = ap (λ (l : Listing). length l.memory) is.read.program ∙ memory_len (byte_in names) byte_at (length names) is.read.body in
        let le = limits.few_locations read.program.threads read.program.memory within in
        few_meant limits.longest limits.small (omega arith) (none_long Within first limits read.program.threads read.program.memory within)

    -- past the limits on locations and code the first limit that is broken is the same
    over_first : IsOver limits.longest (byte_in read.names.locations) byte_at (length read.names.locations) is.read.body
        → first read.program.threads read.program.memory ≡ first meant.program.threads meant.program.memory
    over_first over =
        let names = read.names.locations in
        let of : Listing → Option ProgramFault = λ l. first l.threads l.memory in
        ap of is.read.program ∙ over_same Within first limits (byte_in names) (number_in names) byte_at position_in (length names) is.read.body over ∙ ap of filled

    -- the first limit that is broken is the same
    same_first : first read.program.threads read.program.memory ≡ first meant.program.threads meant.program.memory
    same_first =
        let names = read.names.locations in
        let of : Listing → Option ProgramFault = λ l. first l.threads l.memory in
        elim (cases_lt MAX_LOCATIONS (length names)) [
          | inl many ↦ over_first (inl many)
          | inr few ↦ elim (cases_Bool (is_some (first_long limits.longest read.program.threads))) [
            | inl long ↦ over_first (inr (ap (λ (l : Listing). is_some (first_long limits.longest l.threads)) (sym is.read.program) ∙ long))
            | inr none ↦ ap (λ (l : Litmus Listing). of l.program) (sym (few_meant limits.longest limits.small few none))
          ]
        ]

    -- ---- the answers of a reader of texts within the limits

    pub found : (program : Listing) → (program ≡ read.program) × Within read.program.threads read.program.memory
        → StandsFor text (record read { program = program }) × Within program.threads program.memory
    found program h =
        let at_read : StandsFor text read = subst (λ (l : Litmus Listing). StandsFor text l) (within_meant h.1) stands in
        subst (λ (l : Listing). StandsFor text (record read { program = l }) × Within l.threads l.memory) (sym h.0) (at_read, h.1)

    pub found_only : (program : Listing) (other : Litmus Listing) → (program ≡ read.program) × Within read.program.threads read.program.memory → StandsFor text other → record read { program = program } ≡ other
    found_only program other h st = (λ i. record read { program = h.0 i }) ∙ sym (within_meant h.1) ∙ sym (stands_only other st)

    pub broken_only : (fault : ReadFault) (other : Litmus Listing) → MatchFault fault ⊥ (λ limit. first read.program.threads read.program.memory ≡ Some limit) ⊤ ⊥
        → StandsFor text other × Within other.program.threads other.program.memory → fault ≡ OutOfMemory
    broken_only fault other h st =
        let same = stands_only other st.0 in
        let none : first meant.program.threads meant.program.memory ≡ None =
        ap (λ (l : Litmus Listing). first l.program.threads l.program.memory) (sym same) ∙ limits.none_broken other.program.threads other.program.memory st.1 in
        let not_broken : (limit : ProgramFault) → first read.program.threads read.program.memory ≡ Some limit → ⊥ = λ limit e. let bad : None ≡ Some limit = sym none ∙ sym same_first ∙ e in cc in
        match_memory fault ⊥ (λ limit. first read.program.threads read.program.memory ≡ Some limit) ⊤ ⊥ (λ x. x) not_broken (λ x. x) h

    pub broken : (fault : ReadFault) → MatchFault fault ⊥ (λ limit. first read.program.threads read.program.memory ≡ Some limit) ⊤ ⊥ → RefusesBy first text fault
    broken fault h = inr (
      front_read text read is,
      match_map fault ⊥ ⊥ (λ limit. first read.program.threads read.program.memory ≡ Some limit) (BreaksFirst first text) ⊤ ⊤ ⊥ (StandsForNothing text)
          (λ x. x) (λ limit e. (meant, stands, sym same_first ∙ e)) (λ x. x) (λ x. absurd x) h,
    )
