-- What the nodes of a cover tree are judged by.
use Rattle.cover_judge.proofs.Vocabulary.{◌≡◌, ◌↔◌, ℕ, true, false, List, [], ◌∷◌, Option, Some, None, All, Contains, MatchOption, map, slice_get, Vec, AreSources, IsFree, LacksSource, arith, refl, sym, ap, ◌∙◌, subst, inl, inr, AllPairs, same_Some, Listing, Outcome, Shown, asked, Event, ProgramSketch, mode_in}
use Rattle.cover_judge.proofs.Vocabulary.{AccessId, NodeFault, Wrong, OutOfMemory, Choice, OpenChoice, Rule, Whole, Sketch, IsSourceOf, IsPair, IsWhole, MustEndAs, AllowsOrder, AllowsSource, event_of, HasSources, HasSourcesBy, HasNoOrder, HasNoOrderBy, MustEndAsNumber, AreChoicesOfBy, AreFreeSources, choices_in}
use Rattle.cover_judge.proofs.Vocabulary.{AreValueChoices, AreSourceChoices, AreValueChoicesBy, AreSourceChoicesBy, CanChoose, CanChooseEach, MayChoose, MayChooseEach, IfWrong, IsAtRoot, IsBelow, IsFrom}
use Rattle.std.specs.Option.{is_some}
use Rattle.std.proofs.lemmas.List.Elements.{All-cons, All-map, All-nil, All-contains_itself, All-weaker}
use Rattle.cert_forest.specs.Machine as machine
use Rattle.candidate_executions.specs.Events.{ComesBefore}
use Rattle.rowless_sketches.specs.Choices as choices
use Rattle.rowless_sketches.proofs.Lawful.{none_in}
use Rattle.tree_laws.proofs.RuleValues.{is_value}
use Rattle.cover_judge.specs.declared.choices.Choices.{Choices}
use Rattle.tree_laws.specs.declared.choice.Choice.TheVariants as choice
use Rattle.tree_laws.specs.declared.choice.OpenChoice.TheVariants as left

-- what follows of the path of a fault
pub if_wrong : (P Q : List ℕ → Type 0) (fault : NodeFault) → ((path : List ℕ) → P path → Q path) → IfWrong P fault → IfWrong Q fault
if_wrong P Q (Wrong path) f h = f path h
if_wrong P Q OutOfMemory f h = tt

-- a fault at the root
pub here : (P : Type 0) (fault : NodeFault) → fault ≡ Wrong [] → P → IfWrong (IsAtRoot P) fault
here P fault e p = subst (IfWrong (IsAtRoot P)) (sym e) (refl, p)

-- two writes to one location, the other way round
pub turned : (p : Listing) (mode : machine.Machine) (k : Sketch) (d e : Event) → IsPair p mode k d e → IsPair p mode k e d
turned p mode k d e (differ, (l, v, w, first, second, not_first, not_second)) = ((λ same. differ (sym same)), (l, w, v, second, first, not_second, not_first))

-- ---- what the sketch can take, by any rule

-- an order that can be chosen can be chosen the other way round
other_can : (s : ProgramSketch) (d e : Event) → choices.CanFollow s d e → choices.CanFollow s e d
other_can s d e can = record {
  is_pair = turned s.program (mode_in s) s.chosen d e can.is_pair;
  free = λ h. can.free (elim h [ inl a ↦ inr a | inr a ↦ inl a ]);
}

module _ (rule : Rule) (s : ProgramSketch) where
  -- writes that can be put in order, where the rule lets them, are in none
  pub no_order_by : (d e : Event) → AllowsOrder rule s.program (mode_in s) s.chosen → choices.CanFollow s d e → HasNoOrderBy rule s.program (mode_in s) s.chosen d e
  no_order_by d e allowed can = record { allowed = allowed; is_pair = can.is_pair; free = can.free }

  pub can_follow : (d e : Event) → HasNoOrderBy rule s.program (mode_in s) s.chosen d e → choices.CanFollow s d e
  can_follow d e has = record { is_pair = has.is_pair; free = has.free }

  -- the sketch can take each value of a next read
  values_can : (t : ℕ) (cs : List Choice) → AreValueChoicesBy rule s.program (mode_in s) s.chosen t cs → CanChooseEach s cs
  values_can t cs are = record {
    each = subst (All (CanChoose s)) (sym are.each) (All-map (CanChoose s) (choice.Value t) are.values
        (All-weaker (Contains are.values) (λ v. CanChoose s (choice.Value t v)) (λ v here. (are.next.location, are.next.next, is_value rule s.program are.next.location v ((are.next.exact v).0 here))) are.values (All-contains_itself are.values)));
  }

  -- and each source of a read that has none
  sources_can : (read : AccessId) (cs : List Choice) → AreSourceChoicesBy rule s.program (mode_in s) s.chosen read cs → CanChooseEach s cs
  sources_can read cs are = record {
    each = subst (All (CanChoose s)) (sym are.each) (All-map (CanChoose s) (choice.Source read) are.sources
        (All-weaker (Contains are.sources) (λ d. CanChoose s (choice.Source read d))
        (λ d here. record { is_source = (are.next.exact d).0 here; free = λ (e, has). are.next.free e has })
        are.sources (All-contains_itself are.sources)));
  }

  -- and each choice of what is open
  pub choices_can : (next : OpenChoice) (cs : List Choice) → AreChoicesOfBy rule s next cs → CanChooseEach s cs
  choices_can (left.Value t) cs are = values_can t cs are
  choices_can (left.Source read) cs are = sources_can read cs are
  choices_can (left.Order first second) cs are =
      let can : choices.CanFollow s (event_of first) (event_of second) = can_follow (event_of first) (event_of second) are.free in
      let other = other_can s (event_of first) (event_of second) can in
      record {
        each = subst (All (CanChoose s)) (sym are.both) (All-cons (CanChoose s) (choice.Order first second) (choice.Order second first ∷ []) can
            (All-cons (CanChoose s) (choice.Order second first) [] other (All-nil (CanChoose s))));
      }

  -- the sources of a read that has none yet, where the rule lets it take one
  pub sources_are_by : (read : Event) (sources : List Event) → AllowsSource rule s.program (mode_in s) s.chosen read → choices.IsRead s read → (choices.HasSource s read → ⊥) →
      AllPairs ComesBefore sources → ((source : Event) → Contains sources source ↔ IsSourceOf s.program (mode_in s) s.chosen source read) → HasSourcesBy rule s.program (mode_in s) s.chosen read sources
  sources_are_by read sources allowed (x, is, reads) free ordered exact = record {
    allowed = allowed;
    access = x;
    is_access = is;
    is_read = reads;
    free = λ d has. free (d, has);
    in_order = ordered;
    exact = exact;
  }

  -- they are its choices
  pub free_are : (read : AccessId) (cs : List Choice) → AllowsSource rule s.program (mode_in s) s.chosen (event_of read) → AreFreeSources s read cs → AreSourceChoicesBy rule s.program (mode_in s) s.chosen read cs
  free_are read cs allowed has = record {
    sources = has.sources;
    next = sources_are_by (event_of read) has.sources allowed has.are.is_read has.free has.are.ordered has.are.exact;
    each = has.each;
  }

  -- so a read with choices has its value, and no source
  pub choices_free : (read : AccessId) (cs : List Choice) → AreSourceChoicesBy rule s.program (mode_in s) s.chosen read cs → IsFree s (event_of read)
  choices_free read cs are = record { is_read = (are.next.access, are.next.is_access, are.next.is_read); free = λ (source, is). are.next.free source is }

-- ---- by the rule of whole sketches

-- an order that may be chosen may be chosen the other way round
pub other_way : (s : ProgramSketch) (d e : Event) → choices.MayFollow s d e → choices.MayFollow s e d
other_way s d e may = record {
  whole = may.whole;
  is_pair = turned s.program (mode_in s) s.chosen d e may.is_pair;
  free = λ h. may.free (elim h [ inl a ↦ inr a | inr a ↦ inl a ]);
}

-- writes that may be put in order are in none
pub no_order : (s : ProgramSketch) (d e : Event) → choices.MayFollow s d e → HasNoOrder s.program (mode_in s) s.chosen d e
no_order s d e may = record { allowed = may.whole; is_pair = may.is_pair; free = may.free }

-- the sketch may take each value of a next read
pub values_may : (s : ProgramSketch) (t : ℕ) (cs : List Choice) → AreValueChoices s t cs → MayChooseEach s cs
values_may s t cs are = record {
  each = subst (All (MayChoose s)) (sym are.each) (All-map (MayChoose s) (choice.Value t) are.values
      (All-weaker (Contains are.values) (λ v. MayChoose s (choice.Value t v)) (λ v here. (are.next.location, are.next.next, (are.next.exact v).0 here)) are.values (All-contains_itself are.values)));
}

-- and each source of a read that has none
pub sources_may : (s : ProgramSketch) (read : AccessId) (cs : List Choice) → AreSourceChoices s read cs → MayChooseEach s cs
sources_may s read cs are = record {
  each = subst (All (MayChoose s)) (sym are.each) (All-map (MayChoose s) (choice.Source read) are.sources
      (All-weaker (Contains are.sources) (λ d. MayChoose s (choice.Source read d))
      (λ d here. record { whole = are.next.allowed; is_source = (are.next.exact d).0 here; free = λ (e, has). are.next.free e has })
      are.sources (All-contains_itself are.sources)));
}

-- the sources of a read that has none yet
pub sources_are : (s : ProgramSketch) (read : Event) (sources : List Event) → IsWhole s.program (mode_in s) s.chosen × choices.IsRead s read → (choices.HasSource s read → ⊥) →
    AllPairs ComesBefore sources → ((source : Event) → Contains sources source ↔ IsSourceOf s.program (mode_in s) s.chosen source read) → HasSources s.program (mode_in s) s.chosen read sources
sources_are s read sources (whole, is) free ordered exact = sources_are_by Whole s read sources whole is free ordered exact

-- ---- what is found of the sources of a read

-- a read whose value no write gives has no source to choose
pub no_sources : (s : ProgramSketch) (read : AccessId) (cs : List Choice) → LacksSource s (event_of read) → cs ≡ [] → AreFreeSources s read cs
no_sources s read cs lacks same = record {
  sources = [];
  are = record {
    is_read = lacks.is_read;
    exact = λ source. ((λ h. absurd (none_in source h)), (λ is. absurd (lacks.no_source source is)));
    ordered = λ i j d h l. absurd (omega arith);
  };
  free = lacks.free;
  each = same;
}

-- what is found of them
abbrev FoundSources : ProgramSketch → Event → Option (Vec Event) → Type 0
FoundSources s read found = MatchOption found (IsFree s read → ⊥) (λ sources. AreSources s read sources.items × (choices.HasSource s read → ⊥))

module _ (s : ProgramSketch) (read : AccessId) (e : Event) (named : e ≡ event_of read) (found : Option (Vec Event)) (are : FoundSources s e found) where
  found_of : FoundSources s (event_of read) found
  found_of = subst (λ (d : Event). FoundSources s d found) named are

  -- they are the choices that there are
  pub found_sources : (sources : Vec Event) (cs : List Choice) → found ≡ Some sources → cs ≡ map (choice.Source read) sources.items → AreFreeSources s read cs
  found_sources sources cs is same =
      let (own, free) = subst (FoundSources s (event_of read)) is found_of in
      record { sources = sources.items; are = own; free = free; each = same }

  -- or it is no such read
  pub found_none : found ≡ None → IsFree s (event_of read) → ⊥
  found_none is = subst (FoundSources s (event_of read)) is found_of

-- they say the choices of its source, where the rule lets it take one
pub found_choices : (rule : Rule) (s : ProgramSketch) (next : OpenChoice) (read : AccessId) → next ≡ left.Source read → AllowsSource rule s.program (mode_in s) s.chosen (event_of read) → (found : Option Choices) →
    MatchOption found (IsFree s (event_of read) → ⊥) (λ own. AreFreeSources s read (choices_in own)) →
    MatchOption found ((cs : List Choice) → AreChoicesOfBy rule s next cs → ⊥) (λ own. AreChoicesOfBy rule s next (choices_in own))
found_choices rule s next read is allowed None none = λ cs are. none (choices_free rule s read cs (subst (λ (n : OpenChoice). AreChoicesOfBy rule s n cs) is are))
found_choices rule s next read is allowed (Some own) are = subst (λ (n : OpenChoice). AreChoicesOfBy rule s n (choices_in own)) (sym is) (free_are rule s read (choices_in own) allowed are)

-- no such outcome, or the sketch need not end so
module _ (s : ProgramSketch) (shown : Shown) (outcomes : List Outcome) (n : ℕ) where
  pub not_known : slice_get outcomes n ≡ None → MustEndAsNumber (asked s.program shown) (mode_in s) outcomes s.chosen n → ⊥
  not_known none must = (let no : Some must.outcome ≡ None = sym must.is_outcome ∙ none in cc)

  pub not_so : (o : Outcome) → slice_get outcomes n ≡ Some o → (MustEndAs (asked s.program shown) (mode_in s) s.chosen o → ⊥) →
      MustEndAsNumber (asked s.program shown) (mode_in s) outcomes s.chosen n → ⊥
  not_so o there not must = not (subst (MustEndAs (asked s.program shown) (mode_in s) s.chosen) (same_Some must.outcome o (sym must.is_outcome ∙ there)) must.must_end)

  pub is_so : (o : Outcome) → slice_get outcomes n ≡ Some o → MustEndAs (asked s.program shown) (mode_in s) s.chosen o →
      MustEndAsNumber (asked s.program shown) (mode_in s) outcomes s.chosen n
  is_so o there must = record { outcome = o; is_outcome = there; must_end = must }

-- a read whose source is `None` has no source
pub no_source : (s : ProgramSketch) (read : Event) (o : Option Event) → is_some o ≡ false → ((source : Event) → (o ≡ Some source) ↔ Contains s.chosen.sources (read, source)) → choices.HasSource s read → ⊥
no_source s read o e exact (source, has) = (let is = (exact source).1 has in let yes : is_some o ≡ true = ap is_some is in let no : true ≡ false = sym yes ∙ e in cc)

-- the fault of a child, from its parent
pub from_child : (P : List ℕ → Type 0) (number : ℕ) (fault result : NodeFault) → IsFrom number fault result → IfWrong P fault → IfWrong (IsBelow (λ n path. (n ≡ number) × P path)) result
from_child P number (Wrong path) (Wrong other) h p = subst (IsBelow (λ n rest. (n ≡ number) × P rest)) (sym h) (refl, p)
from_child P number (Wrong path) OutOfMemory h p = tt
from_child P number OutOfMemory (Wrong other) h p = absurd h
from_child P number OutOfMemory OutOfMemory h p = tt
