-- Parts that can be printed are the parts of their canonical text.
use Rattle.litmus_text.proofs.Vocabulary.{◌≡◌, ℕ, List, [], ◌∷◌, ◌++◌, codes, refl, ap, append_assoc, lit<, append-nil, text_of, tokens_of, AreApart, lines_pieces, ending_pieces, heading, IsUtf8-from_ascii, IsAscii-append, AreVisible, IsFirstLine}
use Rattle.litmus_text.proofs.Vocabulary.{PrintedPartsAreRead}
use Rattle.text_tokens.proofs.PieceLaws.{pieces_lex}
use Rattle.text_tokens.specs.{Space.nothing}
use Rattle.litmus_lines.specs.{SkippedLines.brace}
use Rattle.litmus_text.proofs.{PiecesApart.lines_apart, PiecesRelated.body_related, PiecesRelated.ending_related, AsciiTexts.ascii_pieces, AsciiTexts.ascii_heading}

-- the first line gives the name
heading_read : (name rest : List ℕ) → AreVisible name → IsFirstLine (heading name ++ rest) name rest
heading_read name rest h =
    let same : codes "X86 " ++ name ≡ codes "X86" ++ ((32 ∷ []) ++ (name ++ [])) = simp append-nil in
    let whole : heading name ++ rest ≡ (codes "X86 " ++ name) ++ 10 ∷ rest = ap (λ (bs : List ℕ). codes "X86 " ++ bs) (append_assoc name (10 ∷ []) rest) in
    (codes "X86 " ++ name, whole, (32 ∷ [], [], same, (lit< tt, refl), h, refl))

pub printed_is_read : PrintedPartsAreRead
printed_is_read name body ending named h g =
    let apart : AreApart (lines_pieces body ending) = lines_apart body ending h g in
    record {
      lines = text_of (lines_pieces body ending);
      tokens = tokens_of (lines_pieces body ending);
      others = tokens_of (ending_pieces ending);
      utf8 = IsUtf8-from_ascii _ (IsAscii-append (heading name) (text_of (lines_pieces body ending)) (ascii_heading name named.1) (ascii_pieces (lines_pieces body ending) [] apart));
      first_line = heading_read name (text_of (lines_pieces body ending)) named;
      skipped = brace (nothing refl refl) refl;
      lexes = pieces_lex (lines_pieces body ending) apart;
      begins = body_related body ending h;
      ends = ending_related body.threads ending g;
    }
