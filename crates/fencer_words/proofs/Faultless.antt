-- Words in which `clap` finds no fault name a command.
use Rattle.fencer_words.proofs.Vocabulary.{◌≡◌, ◌&&◌, ◌⊎◌, ◌∙◌, Bool, true, false, not, List, [], ◌∷◌, Option, Some, None, Contains, find, is_some, map, option_map, refl, sym, ap, subst, inl, inr, list_any, Error, OutOfMemory, MeetsNoJob, App, Row, Shape}
use Rattle.fencer_words.proofs.Vocabulary.{Text, fault_of, is_simple, is_simple_and_free, kind_of, subcommand_of, subcommand_rows_of, HasKind, HasMatchesOf, IsAmong, Kinds, built, entered, label_of, names_of, rows_at, argument_words, ChoiceNames, AreChoices}
use Rattle.fencer_words.proofs.Vocabulary.{command_names, fencer_app, IsNoCommand, faulty, for_nothing}
use Rattle.std.proofs.lemmas.List.Elements.{Contains-append_left, Contains-append_right, Contains-push}
use Rattle.clap.specs.{Walk.answers_to, Walk.finished, Walk.settled, Walk.walk, Walk.walk_from, Walk.Held, Walk.nothing_held, Facts.explicit_source, Kinds.check_kinds, Kinds.or_else, Takes.is_given}
use Rattle.clap.specs.{Faults.built_fault, Faults.walk_fault, Faults.entered_fault, Faults.settle_fault, Faults.defaults_fault, Faults.check_fault, declared.parser.matches.ArgMatches.ArgMatches}

-- where neither of two has a fault, the second has none
second : (a b : Kinds) → or_else a b ≡ [] → b ≡ []
second [] b none = none
second (k ∷ ks) b none = absurd cc

-- the last checks find no fault, and a subcommand is wanted: there is one
there_is : (has help wanted argument : Bool) → wanted ≡ true → check_kinds (not has && help) (not has && wanted) argument ≡ [] → has ≡ true
there_is true help wanted argument is none = refl
there_is false true wanted argument is none = absurd cc
there_is false false true argument is none = absurd cc
there_is false false false argument is none = absurd cc

-- the faults of the parts of a parse, one after the other
abbrev all_faults : Kinds → Kinds → Kinds → Kinds → Kinds → Kinds
all_faults walk below settle defaults check = or_else walk (or_else below (or_else settle (or_else defaults check)))

-- if there is no fault, the last part has no fault
last_part : (walk below settle defaults check : Kinds) → all_faults walk below settle defaults check ≡ [] → check ≡ []
last_part walk below settle defaults check none = second defaults check (second settle (or_else defaults check) (second below (or_else settle (or_else defaults check)) (second walk (or_else below (or_else settle (or_else defaults check))) none)))

-- a command that wants a subcommand and finds no fault enters one
module _ (a : App) (h : Held) (words : List Text) where
  abbrev end : Held
  end = (walk a.top.rules (names_of a) h words).held

  abbrev stop : Option (Text × List Text)
  stop = (walk a.top.rules (names_of a) h words).stopped

  abbrev rows_found : List Row
  rows_found = finished a.top.rules end

  enters : a.top.subcommand_required ≡ true → built_fault a h words ≡ [] → is_some (entered a stop) ≡ true
  enters wanted none =
      there_is (is_some (entered a stop)) (a.top.arg_required_else_help && not (list_any (λ r. explicit_source r.source) rows_found)) a.top.subcommand_required
      (not (a.top.subcommand_negates_reqs && is_some (entered a stop)) && list_any (λ r. r.required && not (is_given r.id rows_found)) a.top.rules) wanted
      (last_part (walk_fault a.top (names_of a) (walk_from h) words) (entered_fault a stop) (settle_fault a.top.rules a.top.args_override_self end) (defaults_fault (settled a.top.rules end).rows a.top.rules)
      (check_fault a.top rows_found (is_some (entered a stop))) none)

pub true_is_false : true ≡ false → ⊥
true_is_false e = cc

-- a subcommand that is found is one of them
abbrev FoundAmong : (Shape → Bool) → List Shape → Type 0
FoundAmong test subs = is_some (find test subs) ≡ true → (s : Shape) × Contains (map (λ (s : Shape). s.name) subs) s.name × (find test subs ≡ Some s)

found_next : (test : Shape → Bool) (s : Shape) (subs : List Shape) → FoundAmong test subs → (b : Bool) → test s ≡ b → FoundAmong test (s ∷ subs)
found_next test s subs rest true e some = (s, Contains-append_left (s.name ∷ []) (map (λ (s : Shape). s.name) subs) s.name (Contains-push [] s.name), rw e refl)
found_next test s subs rest false e some =
    let same : find test (s ∷ subs) ≡ find test subs = rw e refl in
    let found = rest (subst (λ (o : Option Shape). is_some o ≡ true) same some) in
    (found.0, Contains-append_right (s.name ∷ []) (map (λ (s : Shape). s.name) subs) found.0.name found.1, same ∙ found.2)

found_among : (test : Shape → Bool) (subs : List Shape) → FoundAmong test subs
found_among test [] some = absurd cc
found_among test (s ∷ subs) some = found_next test s subs (found_among test subs) (test s) refl some

-- a command that is entered is one of them
entered_among : (a : App) (stop : Option (Text × List Text)) → is_some (entered a stop) ≡ true
    → (name : Text) × (rows : List Row) × Contains (map (λ (s : Shape). s.name) a.subs) name × (entered a stop ≡ Some (name, rows))
entered_among a None some = absurd cc
entered_among a (Some p) some =
    let one = found_among (λ s. answers_to p.0 (label_of s)) a.subs (found_is (find (λ s. answers_to p.0 (label_of s)) a.subs) some) in
    (one.0.name, (rows_at one.0 p.1).1, one.1, ap (λ (s : Option Shape). option_map (λ s. rows_at s p.1) s) one.2)
  where
    found_is : (s : Option Shape) → is_some (option_map (λ s. rows_at s p.1) s) ≡ true → is_some s ≡ true
    found_is None none = absurd cc
    found_is (Some s) some = refl

-- words without a fault name a command
names_command : (choices : ChoiceNames) (words : List Text) → fault_of (fencer_app choices) words ≡ []
    → (name : Text) × (rows : List Row) × Contains command_names name × (subcommand_of (fencer_app choices) words ≡ Some (name, rows))
names_command choices words none =
    entered_among (built (fencer_app choices)) (stop (built (fencer_app choices)) nothing_held (argument_words (fencer_app choices) words))
    (enters (built (fencer_app choices)) nothing_held (argument_words (fencer_app choices) words) refl none)

-- where `clap` fails, memory was wanting or the words are no command
pub no_command : (app : App) (choices : ChoiceNames) (words : List Text) (error : Error) → AreChoices choices → app ≡ fencer_app choices → (is_simple_and_free app ≡ true → HasKind (fault_of app words) error)
    → (kind_of error ≡ OutOfMemory) ⊎ IsNoCommand words
no_command app choices words error are_choices is kinds =
    elim (subst (λ (a : App). HasKind (fault_of a words) error) is (kinds (rw is refl))) [
      | inl memory ↦ inl memory
      | inr among ↦ inr (faulty choices are_choices (λ none. subst (IsAmong (kind_of error)) none among))
    ]

-- where it succeeds, there is no fault
pub no_fault : (app : App) (choices : ChoiceNames) (words : List Text) → app ≡ fencer_app choices → (is_simple_and_free app ≡ true → fault_of app words ≡ []) → fault_of (fencer_app choices) words ≡ []
no_fault app choices words is none = subst (λ (a : App). fault_of a words ≡ []) is (none (rw is refl))

simple : (app : App) (choices : ChoiceNames) → app ≡ fencer_app choices → is_simple app ≡ true
simple app choices is = subst (λ (a : App). is_simple a ≡ true) (sym is) refl

-- and its matches are those of a command
module _ (app : App) (choices : ChoiceNames) (words : List Text) (m : ArgMatches) (is : app ≡ fencer_app choices) (none : fault_of (fencer_app choices) words ≡ []) (matches : HasMatchesOf app words m) where
  matched : subcommand_rows_of m ≡ subcommand_of (fencer_app choices) words
  matched = (matches (simple app choices is)).1 ∙ ap (λ (a : App). subcommand_of a words) is

  -- by its name and its rows
  pub reads : (name : Text) (rows : List Row) → subcommand_rows_of m ≡ Some (name, rows) → subcommand_of (fencer_app choices) words ≡ Some (name, rows)
  reads name rows found = sym matched ∙ found

  -- where it is that of no job, it asks for nothing
  pub met_nothing : AreChoices choices → MeetsNoJob m → IsNoCommand words
  met_nothing are_choices none_met = (let one = names_command choices words none in for_nothing choices one.0 one.1 are_choices one.3 (none_met one.0 one.1 (matched ∙ one.3) one.2))
