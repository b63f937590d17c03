-- Store buffering (Sewell et al., CACM 2010), as an example of what texts stand for.
use Rattle.std.specs.Prelude.{ℕ, true, false, List, [], ◌∷◌, ◌++◌, codes}
use Rattle.text_tokens.specs.declared.token.Mark.TheVariants as the
use Rattle.text_tokens.specs.Tokens.{Tok, Word, Number, Sign}
use Rattle.tso_program.specs.declared.instruction.Reg.TheVariants.{Eax}
use Rattle.tso_program.specs.declared.instruction.Instr.TheVariants.{StoreImm, Load}
use Rattle.tso_program.specs.declared.listing.Listing.{Listing}
use Rattle.tso_program.specs.declared.atom.Atom.TheVariants as atom
use Rattle.conditions.specs.declared.condition.Quantifier.TheVariants.{Exists}
use Rattle.tso_program.specs.Tree as tree
use Rattle.litmus_reader.specs.declared.litmus.Litmus.{Litmus}
use Rattle.litmus_reader.specs.Names.{TextNames}
use Rattle.litmus_lines.specs.FirstLine.{IsFirstLine}
use Rattle.litmus_reader.specs.Texts.{Means}

-- `MOV [x],$1`
abbrev pub store_tokens : List ℕ → List Tok
store_tokens x = Word (codes "MOV") ∷ Sign the.OpenBracket ∷ Word x ∷ Sign the.CloseBracket ∷ Sign the.Comma ∷ Sign the.Dollar ∷ Number 1 ∷ []

-- `MOV EAX,[x]`
abbrev pub load_tokens : List ℕ → List Tok
load_tokens x = Word (codes "MOV") ∷ Word (codes "EAX") ∷ Sign the.Comma ∷ Sign the.OpenBracket ∷ Word x ∷ Sign the.CloseBracket ∷ []

-- `0:EAX=0`
abbrev pub eax_of : ℕ → List Tok
eax_of t = Number t ∷ Sign the.Colon ∷ Word (codes "EAX") ∷ Sign the.Equals ∷ Number 0 ∷ []

-- `{ x=0; 1:ebx=7 } P0 | P1 ; MOV [x],$1 | MOV [y],$1 ; MOV EAX,[y] | MOV EAX,[x] ; exists (0:EAX=0 /\ 1:EAX=0)`
abbrev pub tokens : List Tok
tokens =
    Sign the.OpenBrace ∷ Word (codes "x") ∷ Sign the.Equals ∷ Number 0 ∷ Sign the.Semicolon ∷ []
    ++ Number 1 ∷ Sign the.Colon ∷ Word (codes "ebx") ∷ Sign the.Equals ∷ Number 7 ∷ Sign the.CloseBrace ∷ []
    ++ Word (codes "P0") ∷ Sign the.Bar ∷ Word (codes "P1") ∷ Sign the.Semicolon ∷ []
    ++ store_tokens (codes "x") ++ Sign the.Bar ∷ [] ++ store_tokens (codes "y") ++ Sign the.Semicolon ∷ []
    ++ load_tokens (codes "y") ++ Sign the.Bar ∷ [] ++ load_tokens (codes "x") ++ Sign the.Semicolon ∷ []
    ++ Word (codes "exists") ∷ Sign the.OpenParen ∷ [] ++ eax_of 0 ++ Sign the.And ∷ [] ++ eax_of 1 ++ Sign the.CloseParen ∷ []

-- two locations, x and y; EAX of both threads and EBX of thread 1
abbrev pub names : TextNames
names = record {
  locations = codes "x" ∷ codes "y" ∷ [];
  registers = (true ∷ false ∷ false ∷ false ∷ false ∷ false ∷ []) ∷ (true ∷ true ∷ false ∷ false ∷ false ∷ false ∷ []) ∷ [];
}

-- each thread stores to one location and loads the other
abbrev pub program : Listing
program = record {
  threads = record { code = StoreImm 0 1 ∷ Load Eax 1 ∷ []; registers = 0 ∷ 0 ∷ 0 ∷ 0 ∷ 0 ∷ 0 ∷ [] }
      ∷ record { code = StoreImm 1 1 ∷ Load Eax 0 ∷ []; registers = 0 ∷ 7 ∷ 0 ∷ 0 ∷ 0 ∷ 0 ∷ [] }
      ∷ [];
  memory = 0 ∷ 0 ∷ [];
}

abbrev pub litmus : Litmus Listing
litmus = record {
  name = codes "SB";
  program = program;
  names = names;
  condition = record { quantifier = Exists; formula = tree.And (tree.Atom (atom.Register 0 Eax 0)) (tree.Atom (atom.Register 1 Eax 0)) };
  observed = [];
  labels = [] ∷ [] ∷ [];
}

-- the tokens of store buffering stand for that program
abbrev pub StoreBuffering : Type 0
StoreBuffering = Means tokens litmus

-- `X86 SB` and LF are a first line
abbrev pub NamesStoreBuffering : Type 0
NamesStoreBuffering = (lines : List ℕ) → IsFirstLine (codes "X86 SB" ++ 10 ∷ lines) (codes "SB") lines
