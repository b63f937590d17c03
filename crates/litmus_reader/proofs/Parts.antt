-- The parts that are read are those of the tokens, and no others.
use Rattle.litmus_reader.proofs.Vocabulary.{◌≡◌, ℕ, List, [], length, map, Option, Some, None, refl, sym, subst, ⊤, Err, Tok, Listing, PlaceView, BodyView, EndingView, IsBody, IsEnding, Litmus, ReadFault, MatchFault, names_of, all_labels, JumpsAreFound}
use Rattle.litmus_reader.proofs.Vocabulary.{byte_in, byte_at, listing_by, AreParts, Tree, tree_map, Spells, Sum, sign_of, numbered_atom, observed_of, numbered_signs, ReadsOne, Found, AreReadTokens, IfRefused, IsSyntaxFault, HasNoParts}
use Rattle.conditions.proofs.{Mapped.spells_mapped, Mapped.spells_unmapped, SpelledIsRead.spells_one}
use Rattle.conditions.specs.Reads.{SpellsOnly, SpellsNone}
use Rattle.litmus_syntax.specs.declared.fault.Refusal.{Refusal}
use Rattle.litmus_syntax.specs.declared.fault.SyntaxFault.{SyntaxFault, TheVariants.Refused, TheVariants.OutOfMemory as NoMemory}
use Rattle.litmus_syntax.specs.Exact.{ReadsNone, ReadsEnding, NoEnding}
use Rattle.litmus_reader.proofs.Faults.{match_map}

ending_is : (refusal : Option Refusal) (threads : ℕ) (ending e : EndingView) (others : List Tok) → ReadsOne refusal threads ending others → IsEnding threads e others → (e ≡ ending) × (refusal ≡ None)
ending_is None threads ending e others h is = (h.1 e is, refl)
ending_is (Some r) threads ending e others h is = absurd (h e is)

-- other parts are these
parts_are : (tokens : List Tok) (body b : BodyView) (refusal : Option Refusal) (ending e : EndingView) (f : Tree (PlaceView × ℕ)) → Found tokens body refusal ending → AreParts tokens b e f
    → (b ≡ body) × (e ≡ ending) × (refusal ≡ None) × Spells Sum f (map sign_of ending.signs) []
parts_are tokens body b refusal ending e f found parts =
    let o = found.begins_only b parts.others parts.begins in
    let others : IsEnding body.threads e found.others =
    subst (λ (x : List Tok). IsEnding body.threads e x) o.1 (subst (λ (x : BodyView). IsEnding x.threads e parts.others) o.0 parts.ends) in
    let d = ending_is refusal body.threads ending e found.others found.ends others in
    (o.0, d.0, d.1, subst (λ (x : EndingView). Spells Sum f (map sign_of x.signs) []) d.0 parts.spells)

ending_found : (refusal : Option Refusal) (threads : ℕ) (ending : EndingView) (others : List Tok) → ReadsOne refusal threads ending others → refusal ≡ None → IsEnding threads ending others
ending_found None threads ending others h e = h.0
ending_found (Some r) threads ending others h e = absurd cc

-- what a refused token says
pub refused_body : (tokens : List Tok) (fault : SyntaxFault) → ReadsNone IsBody fault tokens → IfRefused fault (HasNoParts tokens)
refused_body tokens (Refused r) none = λ body ending f parts. none body parts.others parts.begins
refused_body tokens NoMemory none = tt

-- what a refused token after the rows says
pub refused_ending : (tokens others : List Tok) (body : BodyView) (fault : SyntaxFault)
    → IsBody body tokens others × ((b : BodyView) (rest : List Tok) → IsBody b tokens rest → (b ≡ body) × (rest ≡ others)) → ReadsEnding body.threads (Err fault) others
    → IfRefused fault (HasNoParts tokens)
refused_ending tokens others body (Refused r) begins none =
    λ b ending f parts.
    let o = begins.1 b parts.others parts.begins in
    none ending (subst (λ (x : List Tok). IsEnding body.threads ending x) o.1 (subst (λ (x : BodyView). IsEnding x.threads ending parts.others) o.0 parts.ends))
refused_ending tokens others body NoMemory begins none = tt

-- what a jump to no label says
pub refused_jump : (tokens : List Tok) (body : BodyView) (refusal : Option Refusal) (ending : EndingView) (fault : SyntaxFault) → Found tokens body refusal ending
    → IfRefused fault (JumpsAreFound body → ⊥) → IfRefused fault (HasNoParts tokens)
refused_jump tokens body refusal ending (Refused r) found lost =
    λ b e f parts. lost (subst (λ (x : BodyView). JumpsAreFound x) (parts_are tokens body b refusal ending e f found parts).0 parts.jumps)
refused_jump tokens body refusal ending NoMemory found lost = tt

-- what a refused formula says
pub refused_formula : (tokens : List Tok) (body : BodyView) (refusal : Option Refusal) (ending : EndingView) (numbered : List ℕ → ℕ) (fault : SyntaxFault) → Found tokens body refusal ending
    → IfRefused fault (refusal ≡ None → SpellsNone (numbered_signs numbered ending.signs)) → IfRefused fault (HasNoParts tokens)
refused_formula tokens body refusal ending numbered (Refused r) found none =
    λ b e f parts.
    let p = parts_are tokens body b refusal ending e f found parts in
    none p.2 (tree_map (numbered_atom numbered) f) (spells_mapped (numbered_atom numbered) (map sign_of ending.signs) f p.3)
refused_formula tokens body refusal ending numbered NoMemory found none = tt

-- the fault of a refused token, at its line
pub refused_tokens : (tokens ts : List Tok) (refused : SyntaxFault) (fault : ReadFault) → ts ≡ tokens → IfRefused refused (HasNoParts ts) → IsSyntaxFault refused fault
    → MatchFault fault ⊥ (λ _. ⊥) ⊤ (HasNoParts tokens)
refused_tokens tokens ts refused fault e none is =
    let no_parts : (r : Refusal) × (refused ≡ Refused r) → HasNoParts tokens = λ r. subst HasNoParts e (subst (λ (x : SyntaxFault). IfRefused x (HasNoParts ts)) r.1 none) in
    match_map fault ⊥ ⊥ (λ _. ⊥) (λ _. ⊥) (refused ≡ NoMemory) ⊤ ((r : Refusal) × (refused ≡ Refused r)) (HasNoParts tokens) (λ h. h) (λ _ h. h) (λ _. tt) no_parts is

-- what is read are the tokens' parts, and no others are
pub parts_read : (tokens : List Tok) (body : BodyView) (refusal : Option Refusal) (ending : EndingView) (litmus : Litmus Listing) → Found tokens body refusal ending → JumpsAreFound body
    → litmus.names ≡ names_of body ending → litmus.condition.quantifier ≡ ending.quantifier → (refusal ≡ None) × SpellsOnly (numbered_signs (byte_in litmus.names.locations) ending.signs) litmus.condition.formula
    → litmus.program ≡ listing_by (byte_in litmus.names.locations) byte_at (length litmus.names.locations) body → litmus.observed ≡ map (observed_of (byte_in litmus.names.locations)) ending.observed
    → litmus.labels ≡ all_labels body → AreReadTokens tokens litmus
parts_read tokens body refusal ending litmus found jumps names quantifier spelled program observed labels =
    let u = (spells_unmapped (numbered_atom (byte_in litmus.names.locations)) (map sign_of ending.signs) litmus.condition.formula spelled.1.0) in
    record {
      body = body;
      ending = ending;
      formula = u.0;
      parts = record { others = found.others; begins = found.begins; ends = ending_found refusal body.threads ending found.others found.ends spelled.0; spells = u.1; jumps = jumps };
      only = λ b e f parts. let p = parts_are tokens body b refusal ending e f found parts in (p.0, p.1, spells_one (map sign_of ending.signs) f u.0 p.3 u.1);
      names = names;
      program = program;
      condition = λ i. record { quantifier = quantifier i; formula = sym u.2 i };
      observed = observed;
      labels = labels;
    }
