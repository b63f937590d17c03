-- Trees made of the trees of children.
use Rattle.cover_search.proofs.Vocabulary.{◌≡◌, ℕ, suc, ◌+◌, ◌<◌, ◌≤◌, List, [], ◌∷◌, ◌++◌, get_or, length, map, take, refl, sym, ap, ◌∙◌, subst, arith, take_more, map-append, length-map, ◌^◌, Listing, Outcome, Shown, asked, machine_of_mode, IsLawful}
use Rattle.cover_search.proofs.Vocabulary.{choice_count, most_choices, HaveAllRegisters, AccessId, Cover, Value, Source, Order, covers_of, event_of, IsValidCover, AreValidCovers, Choice, moved, OpenChoice, IsOpen, AreChoicesOf, ProgramSketch, mode_in}
use Rattle.cover_search.proofs.Vocabulary.{nothing_chosen, with_chosen, covers_count, sketch_with, MayChoose, IsValueOpen, AreValueChoices, AreSourceChoices, IsValidAt, IsNeat, AreNeat, IsCoverAt, IsCoverAfter, AreCoversAfter, IsWholeCover}
use Rattle.cover_search.proofs.Vocabulary.{tree_over, reads_there, no_order}
use Rattle.cover_search.proofs.Rounds.{counted_after}
use Rattle.candidate_executions.specs.{Sketches.Sketch, Sketches.given_to, Candidates.IsAccess}
use Rattle.tso_machine.specs.declared.mode.Mode as own
use Rattle.program_sketches.specs.Choices.{MayFollow}
use Rattle.program_sketches.proofs.{ChoicesCounted.event_small, BranchesCounted.few_values, BranchesCounted.few_sources}
use Rattle.exec_axioms.proofs.Completeness.{read_there, first_there, second_there}
use Rattle.cert_forest.specs.Limits as limits
use Rattle.cert_forest.specs.Limits.{cover_depth, covers_depth}
use Rattle.tree_laws.specs.declared.choice.Choice.TheVariants as choice
use Rattle.tree_laws.specs.declared.choice.OpenChoice.TheVariants as left

-- as many trees as sketches
as_many : (s : ProgramSketch) (shown : Shown) (outcomes : List Outcome) (trees : List Cover) (ks : List Sketch) → AreValidCovers (asked s.program shown) (mode_in s) outcomes (covers_of trees) ks → length trees ≡ length ks
as_many s shown outcomes [] [] valid = refl
as_many s shown outcomes (tree ∷ trees) (k ∷ ks) valid = ap suc (as_many s shown outcomes trees ks valid.1)
as_many s shown outcomes trees ks valid = absurd valid

-- an access of a lawful sketch has the numbers of one in a certificate
named_small : (s : ProgramSketch) (a : AccessId) → IsLawful s → IsAccess s.program (mode_in s) (given_to s.chosen) (event_of a) → limits.IsAccessId a
named_small s a lawful is = (let small = event_small s lawful (event_of a) is in ((let h = small.0 in omega arith), (let h = small.1 in omega arith)))

module _ (s : ProgramSketch) (shown : Shown) (outcomes : List Outcome) (lawful : IsLawful s) where
  -- there are as many trees as choices
  pub as_many_choices : (choices : List Choice) (trees : List Cover) → AreCoversAfter s shown outcomes choices trees → length trees ≡ length choices
  as_many_choices choices trees are = as_many s shown outcomes trees (map (sketch_with s.chosen) choices) are.valid ∙ length-map choices (sketch_with s.chosen)

  -- over the values of a read
  value_cover : (t : ℕ) (choices : List Choice) (trees : List Cover) → HaveAllRegisters s.program.threads → IsValueOpen s t → AreValueChoices s t choices → AreCoversAfter s shown outcomes choices trees →
      IsCoverAt s shown outcomes (Value t (covers_of trees))
  value_cover t choices trees six is_open are covers = record {
    valid = (choices, are, covers.valid);
    neat = record {
      numbers = (
        (let there = reads_there s.program (mode_in s) s.chosen t are.next.location are.next.next in let few = lawful.within.shared.few_threads in omega arith),
        (let few = few_values s.program are.next.location are.values lawful.within six are.next.ascending (λ v. (are.next.exact v).0) in
            let long = covers_count trees ∙ as_many_choices choices trees covers ∙ ap length are.each ∙ length-map are.values (choice.Value t) in
            omega arith),
        covers.neat.numbers,
      );
      simple = covers.neat.simple;
    };
    shallow = (let below = covers.shallow in omega arith);
  }

  -- over the sources of a read
  source_cover : (read : AccessId) (choices : List Choice) (trees : List Cover) → IsAccess s.program (mode_in s) (given_to s.chosen) (event_of read) → AreSourceChoices s read choices → AreCoversAfter s shown outcomes choices trees →
      IsCoverAt s shown outcomes (Source read (covers_of trees))
  source_cover read choices trees is are covers = record {
    valid = (choices, are, covers.valid);
    neat = record {
      numbers = (
        named_small s read lawful is,
        (let few = few_sources s.program (mode_in s) s.chosen (event_of read) lawful.within are.sources are.next.in_order (λ e. (are.next.exact e).0) in
            let long = covers_count trees ∙ as_many_choices choices trees covers ∙ ap length are.each ∙ length-map are.sources (choice.Source read) in
            omega arith),
        covers.neat.numbers,
      );
      simple = covers.neat.simple;
    };
    shallow = (let below = covers.shallow in omega arith);
  }

  -- over both orders of two writes
  order_cover : (first second : AccessId) (one other : Cover) → MayFollow s (event_of first) (event_of second) →
      AreCoversAfter s shown outcomes (choice.Order first second ∷ choice.Order second first ∷ []) (one ∷ (other ∷ [])) → IsCoverAt s shown outcomes (Order first second one other)
  order_cover first second one other may covers = record {
    valid = (
      choice.Order first second ∷ choice.Order second first ∷ [],
      record { free = no_order s (event_of first) (event_of second) may; both = refl },
      (covers.valid.0, covers.valid.1.0),
    );
    neat = record {
      numbers = (
        named_small s first lawful (first_there s (event_of first) (event_of second) may.is_pair),
        named_small s second lawful (second_there s (event_of first) (event_of second) may.is_pair),
        covers.neat.numbers.0,
        covers.neat.numbers.1.0,
      );
      simple = (covers.neat.simple.0, covers.neat.simple.1.0);
    };
    shallow = (let below = covers.shallow in omega arith);
  }

  two_trees : (first second : AccessId) (trees : List Cover) → MayFollow s (event_of first) (event_of second) →
      AreCoversAfter s shown outcomes (choice.Order first second ∷ choice.Order second first ∷ []) trees → IsCoverAt s shown outcomes (tree_over (left.Order first second) trees)
  two_trees first second [] may covers = absurd covers.valid
  two_trees first second (one ∷ []) may covers = absurd covers.valid.1
  two_trees first second (one ∷ (other ∷ [])) may covers = order_cover first second one other may covers
  two_trees first second (one ∷ (other ∷ (more ∷ trees))) may covers = absurd covers.valid.1.1

  -- over the trees for each choice
  pub node_cover : (next : OpenChoice) (choices : List Choice) (trees : List Cover) → HaveAllRegisters s.program.threads → IsOpen s next → AreChoicesOf s next choices → AreCoversAfter s shown outcomes choices trees →
      IsCoverAt s shown outcomes (tree_over next trees)
  node_cover (left.Value t) choices trees six is_open are covers = value_cover t choices trees six is_open are covers
  node_cover (left.Source read) choices trees six is_open are covers = source_cover read choices trees (read_there s (event_of read) is_open.is_read) are covers
  node_cover (left.Order first second) choices trees six is_open are covers = two_trees first second trees is_open (subst (λ cs. AreCoversAfter s shown outcomes cs trees) are.both covers)

  -- they are few
  pub few_choices : (next : OpenChoice) (choices : List Choice) → HaveAllRegisters s.program.threads → IsOpen s next → AreChoicesOf s next choices → length choices < 2 ^ 32
  few_choices (left.Value t) choices six is_open are =
      let few = few_values s.program are.next.location are.values lawful.within six are.next.ascending (λ v. (are.next.exact v).0) in
      let long = ap length are.each ∙ length-map are.values (choice.Value t) in
      omega arith
  few_choices (left.Source read) choices six is_open are =
      let few = few_sources s.program (mode_in s) s.chosen (event_of read) lawful.within are.sources are.next.in_order (λ e. (are.next.exact e).0) in
      let long = ap length are.each ∙ length-map are.sources (choice.Source read) in
      omega arith
  few_choices (left.Order first second) choices six is_open are = omega (arith, ap length are.both)

  -- no child yet
  pub covers_none : choice_count s ≤ most_choices → AreCoversAfter s shown outcomes [] []
  covers_none few = record { valid = tt; neat = record { numbers = tt; simple = tt }; shallow = (let h = few in omega arith) }

  valid_push : (trees : List Cover) (ks : List Sketch) (tree : Cover) (k : Sketch) → AreValidCovers (asked s.program shown) (mode_in s) outcomes (covers_of trees) ks →
      IsValidCover (asked s.program shown) (mode_in s) outcomes tree k → AreValidCovers (asked s.program shown) (mode_in s) outcomes (covers_of (trees ++ tree ∷ [])) (ks ++ k ∷ [])
  valid_push [] [] tree k all valid = (valid, tt)
  valid_push (t ∷ trees) (j ∷ ks) tree k all valid = (all.0, valid_push trees ks tree k all.1 valid)
  valid_push trees ks tree k all valid = absurd all

  depth_push : (trees : List Cover) (tree : Cover) (n most : ℕ) → covers_depth (covers_of trees) + n ≤ most → cover_depth tree + n ≤ most → covers_depth (covers_of (trees ++ tree ∷ [])) + n ≤ most
  depth_push [] tree n most a b = omega arith
  depth_push (t ∷ trees) tree n most a b =
      let rest = depth_push trees tree n most (omega arith) b in omega arith

  neat_push : (trees : List Cover) (tree : Cover) → AreNeat (covers_of trees) → IsNeat tree → AreNeat (covers_of (trees ++ tree ∷ []))
  neat_push [] tree are is = record { numbers = (is.numbers, tt); simple = (is.simple, tt) }
  neat_push (t ∷ trees) tree are is =
      let rest = neat_push trees tree (record { numbers = are.numbers.1; simple = are.simple.1 }) is in
      record { numbers = (are.numbers.0, rest.numbers); simple = (are.simple.0, rest.simple) }

  -- one child more
  pub covers_more : (choices : List Choice) (trees more : List Cover) (i : ℕ) (d : Choice) (tree : Cover) → i < length choices → more ≡ trees ++ tree ∷ [] →
      AreCoversAfter s shown outcomes (take i choices) trees → IsCoverAfter s shown outcomes (get_or choices i d) tree → AreCoversAfter s shown outcomes (take (i + 1) choices) more
  covers_more choices trees more i d tree h pushed are is =
      subst (AreCoversAfter s shown outcomes (take (i + 1) choices)) (sym pushed)
      (subst (λ cs. AreCoversAfter s shown outcomes cs (trees ++ tree ∷ [])) (sym (take_more choices i d h)) (record {
        valid = subst (AreValidCovers (asked s.program shown) (mode_in s) outcomes (covers_of (trees ++ tree ∷ []))) (sym (map-append (sketch_with s.chosen) (take i choices) (get_or choices i d ∷ [])))
            (valid_push trees (map (sketch_with s.chosen) (take i choices)) tree (sketch_with s.chosen (get_or choices i d)) are.valid is.valid);
        neat = neat_push trees tree are.neat is.neat;
        shallow = depth_push trees tree (choice_count s) most_choices are.shallow is.shallow;
      }))

  -- a tree at the sketch with one choice more
  module _ (next : ProgramSketch) (c : Choice) (tree : Cover) (may : MayChoose s c) (same : next ≡ with_chosen s (sketch_with s.chosen c)) (is : IsCoverAt next shown outcomes tree) where
    one_more : choice_count next ≡ choice_count s + 1
    one_more = ap choice_count same ∙ counted_after s c lawful may

    pub cover_next : IsCoverAfter s shown outcomes c tree
    cover_next = record {
      valid = moved (λ p mode k. IsValidCover (asked p shown) mode outcomes tree k) s next c same is.valid;
      neat = is.neat;
      shallow = (let count = one_more in let below = is.shallow in omega arith);
    }

    -- that is valid without the choice
    pub cover_without : IsValidAt s shown outcomes tree → IsCoverAt s shown outcomes tree
    cover_without valid = record { valid = valid; neat = is.neat; shallow = (let count = one_more in let below = is.shallow in omega arith) }

-- a tree at the sketch with no choice
pub cover_first : (p : Listing) (mode : own.Mode) (s : ProgramSketch) (shown : Shown) (outcomes : List Outcome) (tree : Cover) → s ≡ nothing_chosen p mode → IsCoverAt s shown outcomes tree →
    IsWholeCover (asked p shown) (machine_of_mode p mode) outcomes tree
cover_first p mode s shown outcomes tree same is =
    let first = subst (λ (n : ProgramSketch). IsCoverAt n shown outcomes tree) same is in
    record {
      valid = first.valid;
      neat = first.neat;
      shallow = (let below = first.shallow in omega arith);
    }
