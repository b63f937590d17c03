-- Store buffering stands for its program.
use Rattle.litmus_reader.proofs.Vocabulary.{◌≡◌, ℕ, true, List, [], ◌∷◌, ◌++◌, refl, sym, ap, inl, inr, lit<, codes, Some, All-cons, All-nil, Tok, Word, Number, Sign, Eax, Ebx, Exists, Location, Register, EntryView, CodeView, StoreImm, Load, CellView}
use Rattle.litmus_reader.proofs.Vocabulary.{BodyView, EndingView, end, item, atom, parens, operand, conjunction, term, reg_of, opens_condition, joins_formula, is_name, mnemonic_of}
use Rattle.std.proofs.lemmas.Fmt.{decimal_digit}
use Rattle.tso_program.specs.Tree as tree
use Rattle.text_tokens.specs.declared.token.Mark.TheVariants as the
use Rattle.litmus_syntax.specs.Views as view
use Rattle.litmus_syntax.specs.Grammar.{IsCode, HasThread, last, column, IsHeader, IsInitial, IsRow, IsBody, IsEnding}
use Rattle.litmus_reader.specs.Example.{StoreBuffering, NamesStoreBuffering}

-- ---- words

eax : reg_of (codes "EAX") ≡ Some Eax
unfolding reg_of
eax = refl

small_ebx : reg_of (codes "ebx") ≡ Some Ebx
unfolding reg_of
small_ebx = refl

are_names : (is_name (codes "x") ≡ true) × (is_name (codes "y") ≡ true)
unfolding is_name opens_condition joins_formula reg_of
are_names = (refl, refl)

before_exists : opens_condition (codes "exists") ≡ true
unfolding opens_condition
before_exists = refl

-- ---- initial values and header row

abbrev initial : List Tok → List Tok
initial rest =
    Sign the.OpenBrace ∷ Word (codes "x") ∷ Sign the.Equals ∷ Number 0 ∷ Sign the.Semicolon ∷ Number 1 ∷ Sign the.Colon ∷ Word (codes "ebx") ∷ Sign the.Equals ∷ Number 7 ∷ Sign the.CloseBrace ∷ rest

abbrev header : List Tok → List Tok
header rest = Word (codes "P0") ∷ Sign the.Bar ∷ Word (codes "P1") ∷ Sign the.Semicolon ∷ rest

abbrev entries : List EntryView
entries = record { place = Location (codes "x"); value = 0 } ∷ record { place = Register 1 Ebx; value = 7 } ∷ []

initial_read : (rest : List Tok) → IsInitial entries (initial rest) rest
initial_read rest = (
  (_, refl, item (_, (_, inl (are_names.0, refl), (_, refl, refl)), inl refl) (item (_, (_, (_, refl, (_, refl, (codes "ebx", small_ebx, refl))), (_, refl, refl)), inr (refl, (rest, refl))) (end refl))),
  ((λ e. cc, tt), (tt, tt)),
)

header_read : (rest : List Tok) → IsHeader 2 (header rest) rest
header_read rest =
    let others : List Tok = Sign the.Semicolon ∷ rest in (
      Sign the.Bar ∷ Word (codes "P1") ∷ others,
      ap (λ (name : List ℕ). Word name ∷ Sign the.Bar ∷ Word (codes "P1") ∷ others) (ap (λ (ds : List ℕ). codes "P" ++ ds) (sym (decimal_digit 0 (lit< tt)))),
      column (Word (codes "P1") ∷ others, refl, ap (λ (name : List ℕ). Word name ∷ others) (ap (λ (ds : List ℕ). codes "P" ++ ds) (sym (decimal_digit 1 (lit< tt))))) (last refl refl),
    )

-- ---- rows

abbrev store_of : List ℕ → List Tok → List Tok
store_of x rest = Word (codes "MOV") ∷ Sign the.OpenBracket ∷ Word x ∷ Sign the.CloseBracket ∷ Sign the.Comma ∷ Sign the.Dollar ∷ Number 1 ∷ rest

abbrev load_of : List ℕ → List Tok → List Tok
load_of x rest = Word (codes "MOV") ∷ Word (codes "EAX") ∷ Sign the.Comma ∷ Sign the.OpenBracket ∷ Word x ∷ Sign the.CloseBracket ∷ rest

store_read : (x : List ℕ) → is_name x ≡ true → (rest : List Tok) → IsCode (StoreImm x 1) (store_of x rest) rest
unfolding mnemonic_of
store_read x h rest = (_, (codes "MOV", refl, refl), (_, (_, refl, (_, (h, refl), refl)), (_, refl, inl (_, refl, refl))))

load_read : (x : List ℕ) → is_name x ≡ true → (rest : List Tok) → IsCode (Load Eax x) (load_of x rest) rest
unfolding mnemonic_of
load_read x h rest = (_, (codes "MOV", refl, refl), (_, (codes "EAX", eax, refl), (_, refl, (_, refl, (_, (h, refl), refl)))))

abbrev unlabelled : CodeView → CellView
unlabelled c = record { labels = []; code = Some c }

abbrev stores : List CellView
stores = unlabelled (StoreImm (codes "x") 1) ∷ unlabelled (StoreImm (codes "y") 1) ∷ []

abbrev loads : List CellView
loads = unlabelled (Load Eax (codes "y")) ∷ unlabelled (Load Eax (codes "x")) ∷ []

abbrev stored : List Tok → List Tok
stored rest = store_of (codes "x") (Sign the.Bar ∷ store_of (codes "y") (Sign the.Semicolon ∷ rest))

abbrev loaded : List Tok → List Tok
loaded rest = load_of (codes "y") (Sign the.Bar ∷ load_of (codes "x") (Sign the.Semicolon ∷ rest))

loads_read : (rest : List Tok) → IsRow 2 loads (loaded rest) rest
loads_read rest = (refl, (_, end (load_read (codes "y") are_names.1 _, refl), item (_, refl, end (load_read (codes "x") are_names.0 _, refl)) (end refl)))

abbrev body : BodyView
body = record { entries = entries; threads = 2; rows = stores ∷ loads ∷ [] }

-- ---- the condition

abbrev eax_of : ℕ → List Tok → List Tok
eax_of t rest = Number t ∷ Sign the.Colon ∷ Word (codes "EAX") ∷ Sign the.Equals ∷ Number 0 ∷ rest

abbrev condition : List Tok
condition = Word (codes "exists") ∷ Sign the.OpenParen ∷ eax_of 0 (Sign the.And ∷ eax_of 1 (Sign the.CloseParen ∷ []))

abbrev ending : EndingView
ending = record { observed = []; quantifier = Exists; signs = view.Open ∷ view.Atom (Register 0 Eax) 0 ∷ view.And ∷ view.Atom (Register 1 Eax) 0 ∷ view.Close ∷ [] }

body_read : IsBody body (initial (header (stored (loaded condition)))) condition
body_read = (
  (_, initial_read _, (_, header_read _, (item ((refl, (_, end (store_read (codes "x") are_names.0 _, refl), item (_, refl, end (store_read (codes "y") are_names.1 _, refl)) (end refl)))) (item (loads_read _) (end (refl, before_exists))), tt))),
  All-cons (HasThread 2) (Location (codes "x")) (Register 1 Ebx ∷ []) tt (All-cons (HasThread 2) (Register 1 Ebx) [] (lit< tt) (All-nil (HasThread 2))),
)

ending_read : IsEnding 2 ending condition
ending_read = (
  _,
  inr (refl, (refl, refl)),
  (
    _,
    refl,
    item refl (item (lit< tt, (_, (_, refl, (_, refl, (codes "EAX", eax, refl))), (_, refl, refl))) (item refl (item (lit< tt, (_, (_, refl, (_, refl, (codes "EAX", eax, refl))), (_, refl, refl))) (item refl (end (refl, refl)))))),
  ),
)

-- ---- the whole

pub means : StoreBuffering
means = record {
  body = body;
  ending = ending;
  formula = tree.And (tree.Atom (Register 0 Eax, 0)) (tree.Atom (Register 1 Eax, 0));
  parts = record { others = condition; begins = body_read; ends = ending_read; spells = term (operand (parens (term (conjunction (operand atom) atom)))); jumps = refl };
  names = refl;
  program = refl;
  condition = refl;
  observed = refl;
  labels = refl;
}

pub first_line : NamesStoreBuffering
first_line lines = (codes "X86 SB", refl, (codes " ", [], refl, (lit< tt, refl), (lit< tt, refl), refl))
