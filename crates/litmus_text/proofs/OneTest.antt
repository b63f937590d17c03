-- A litmus text stands for one test.
use Rattle.std.proofs.Common.{◌≡◌, ℕ, List, [], map, sym, ap, ◌∙◌, subst, inl}
use Rattle.text_tokens.specs.Tokens.{Tok}
use Rattle.text_tokens.specs.Lexing.{Lexes}
use Rattle.tso_program.specs.Tree.{Tree}
use Rattle.tso_program.specs.declared.listing.Listing.{Listing}
use Rattle.litmus_lines.specs.SkippedLines.{AreSkipped}
use Rattle.litmus_syntax.specs.Grammar.{IsEnding}
use Rattle.litmus_syntax.specs.Views.{PlaceView, BodyView, EndingView}
use Rattle.litmus_text.specs.TextLaws.{ATextStandsForOneTest}
use Rattle.conditions.specs.Grammar.{Spells, Sum}
use Rattle.conditions.proofs.SpelledIsRead.{spells_one}
use Rattle.litmus_reader.specs.{declared.litmus.Litmus.Litmus, Names.TextNames, Names.number_in, Places.names_of, Labels.all_labels}
use Rattle.litmus_reader.specs.{Meaning.listing_of, Meaning.sign_of, Meaning.condition_of, Meaning.observed_of, Texts.AreParts, Texts.Means}
use Rattle.litmus_text.proofs.{OneBody.body_once, OneEnding.ending_once, OneFront.skipped_once}
use Rattle.litmus_lines.proofs.FirstLineLaws.{first_line_once}
use Rattle.text_tokens.proofs.OneReading.{only_whole}

abbrev Formula : Type 0
Formula = Tree (PlaceView × ℕ)

-- what tokens with these parts stand for, in a text of this name
abbrev test_of : List ℕ → BodyView → EndingView → Formula → Litmus Listing
test_of name body ending formula =
    let names = names_of body ending in
    record {
      name = name;
      program = listing_of names.locations body;
      names = names;
      condition = condition_of (number_in names.locations) ending.quantifier formula;
      observed = map (observed_of (number_in names.locations)) ending.observed;
      labels = all_labels body;
    }

is_test_of : (tokens : List Tok) (litmus : Litmus Listing) (m : Means tokens litmus) → litmus ≡ test_of litmus.name m.body m.ending m.formula
is_test_of tokens litmus m =
    let program = m.program ∙ ap (λ (n : TextNames). listing_of n.locations m.body) m.names in
    let condition = m.condition ∙ ap (λ (n : TextNames). condition_of (number_in n.locations) m.ending.quantifier m.formula) m.names in
    let observed = m.observed ∙ ap (λ (n : TextNames). map (observed_of (number_in n.locations)) m.ending.observed) m.names in
    λ i. record { name = litmus.name; program = program i; names = m.names i; condition = condition i; observed = observed i; labels = m.labels i }

-- tokens have one body, one ending and one formula
record Same (body other : BodyView) (ending last : EndingView) (formula also : Formula) : Type 0 where
  bodies : body ≡ other
  endings : ending ≡ last
  formulas : formula ≡ also

parts_once : (tokens : List Tok) (body other : BodyView) (ending last : EndingView) (formula also : Formula) → AreParts tokens body ending formula → AreParts tokens other last also → Same body other ending last formula also
parts_once tokens body other ending last formula also h g =
    let first = body_once tokens body other h.others g.others h.begins g.begins in
    let ends : IsEnding other.threads ending g.others = subst (λ (b : BodyView). IsEnding b.threads ending g.others) first.0 (subst (λ (ts : List Tok). IsEnding body.threads ending ts) first.1 h.ends) in
    let second = ending_once other.threads g.others ending last ends g.ends in
    let spelled : Spells Sum formula (map sign_of last.signs) [] = subst (λ (e : EndingView). Spells Sum formula (map sign_of e.signs) []) second h.spells in
    record { bodies = first.0; endings = second; formulas = spells_one (map sign_of last.signs) formula also spelled g.spells }

means_once : (tokens : List Tok) (one other : Litmus Listing) → one.name ≡ other.name → Means tokens one → Means tokens other → one ≡ other
means_once tokens one other named m n =
    let same = parts_once tokens m.body n.body m.ending n.ending m.formula n.formula m.parts n.parts in
    is_test_of tokens one m
    ∙ ap (λ (x : List ℕ). test_of x m.body m.ending m.formula) named
    ∙ ap (λ (x : BodyView). test_of other.name x m.ending m.formula) same.bodies
    ∙ ap (λ (x : EndingView). test_of other.name n.body x m.formula) same.endings
    ∙ ap (λ (x : Formula). test_of other.name n.body n.ending x) same.formulas
    ∙ sym (is_test_of tokens other n)

pub test_once : ATextStandsForOneTest
test_once text one other h g =
    let first = first_line_once text one.name other.name h.lines g.lines h.first_line g.first_line in
    let others : h.others ≡ g.others = skipped_once g.lines h.others g.others (subst (λ (x : List ℕ). AreSkipped x h.others) first.1 h.skipped) g.skipped in
    let tokens : h.tokens ≡ g.tokens = (only_whole h.tokens g.tokens g.others (subst (λ (x : List ℕ). Lexes x h.tokens) others h.lexes) (inl g.lexes)) in
    means_once g.tokens one other first.0 (subst (λ (ts : List Tok). Means ts one) tokens h.means) g.means
