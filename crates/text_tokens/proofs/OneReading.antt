-- A text has its tokens in one way.
use Rattle.text_tokens.proofs.Vocabulary.{◌≡◌, ◌<◌, ℕ, true, false, List, [], ◌∷◌, ◌++◌, length, drop, refl, sym, ap, ◌∙◌, arith, inl, inr, append_assoc, slice_index, is_ascii_digit, digits_value, append-nil, length-append, drop_at, Mark, Bad, is_white_space}
use Rattle.text_tokens.proofs.Vocabulary.{is_letter, is_word_byte, OpenParen, mark_text, opens, IsComment, Tok, Word, Number, Sign, NoToken, AreAllTokens}
use Rattle.text_tokens.specs.declared.token.Bad.TheVariants as bad
use Rattle.text_tokens.proofs.{CommentLaws.short_opens, CommentLaws.Inside-one, Prefixes.same_prefix}
use Rattle.text_tokens.proofs.FirstBytes.{WhiteSpace, Letter, Digit, Minus, Other, white_space_class, no_digit, no_letter, token_class, begins_class, begins_some, bad_class, bad_begins, bad_some, one_mark, mark_short, opens_paren, opens_class}
use Rattle.text_tokens.specs.Lexing.{BeginsWith, BeginsWithAll, none, white_space, comment, token, Lexes, IsBad, IsBadNumber, IsHalf, IsStray, LexesTo}

-- ---- one token

-- a text begins with one token, and one text follows it
pub same_token : (t u : Tok) (text rest others : List ℕ) → BeginsWith t text rest → BeginsWith u text others → (t ≡ u) × (rest ≡ others)
same_token (Word w) (Word v) text rest others h g =
    let same = same_prefix is_word_byte w rest v others h.1.1 h.2 g.1.1 g.2 (sym h.0 ∙ g.0) in
    (ap Word same.0, same.1)
same_token (Number n) (Number k) text rest others h g =
    let same = same_prefix is_ascii_digit h.0 rest g.0 others h.2.1 (no_digit (slice_index rest 0) h.5) g.2.1 (no_digit (slice_index others 0) g.5) (sym h.1 ∙ g.1) in
    (ap Number (h.3 ∙ ap (digits_value 10) same.0 ∙ sym g.3), same.1)
same_token (Sign m) (Sign n) text rest others h g =
    let same : m ≡ n = one_mark m n rest others (sym h.0 ∙ g.0) in
    (ap Sign same, after_mark m n rest others same (sym h.0 ∙ g.0))
  where
    after_mark : (m n : Mark) (rest others : List ℕ) → m ≡ n → mark_text m ++ rest ≡ mark_text n ++ others → rest ≡ others
    after_mark m n rest others same e =
        sym (drop_at (mark_text m) rest (length (mark_text m)) refl) ∙ ap (drop (length (mark_text m))) e
        ∙ drop_at (mark_text n) others (length (mark_text m)) (ap (λ (k : Mark). length (mark_text k)) (sym same))
same_token (NoToken b) u text rest others h g = absurd h
same_token t (NoToken b) text rest others h g = absurd g
same_token t u text rest others h g = absurd (let e : token_class t ≡ token_class u = sym (begins_class t text rest h) ∙ begins_class u text others g in cc)

-- no token begins with white space
not_white_space : (t : Tok) (b : ℕ) (text rest : List ℕ) → is_white_space b ≡ true → BeginsWith t (b ∷ text) rest → ⊥
not_white_space (NoToken c) b text rest h k = k
not_white_space t b text rest h k = let e : WhiteSpace ≡ token_class t = sym (white_space_class b h) ∙ begins_class t (b ∷ text) rest k in cc

-- ---- what is bad

-- nothing bad is white space
bad_not_white_space : (k : Bad) (b : ℕ) (text : List ℕ) → is_white_space b ≡ true → IsBad k (b ∷ text) → ⊥
bad_not_white_space bad.Number b text h k = let e : WhiteSpace ≡ Digit = sym (white_space_class b h) ∙ bad_begins bad.Number (b ∷ text) k in cc
bad_not_white_space k b text h i = let e : WhiteSpace ≡ bad_class k = sym (white_space_class b h) ∙ bad_begins k (b ∷ text) i in cc

bad_alike : (k : Bad) (t : Tok) (text rest : List ℕ) → IsBad k text → BeginsWith t text rest → bad_class k ≡ token_class t
bad_alike k t text rest h g = sym (bad_begins k text h) ∙ begins_class t text rest g

no_number : (n : ℕ) (text rest : List ℕ) → IsBadNumber text → BeginsWith (Number n) text rest → ⊥
no_number n text rest h g =
    let same = same_prefix is_ascii_digit h.0 h.1 g.0 rest h.3.1 h.4 g.2.1 (no_digit (slice_index rest 0) g.5) (sym h.2 ∙ g.1) in
    elim h.5 [
      | inl past ↦ omega (arith, past, g.3, g.4, ap (digits_value 10) same.0)
      | inr letter ↦
          let goes_on : is_letter (slice_index h.1 0) ≡ false = ap (λ (x : List ℕ). is_letter (slice_index x 0)) same.1 ∙ no_letter (slice_index rest 0) g.5 in
          let e : true ≡ false = sym letter ∙ goes_on in
          absurd cc
    ]

no_mark : (m : Mark) (text rest : List ℕ) → IsHalf text → BeginsWith (Sign m) text rest → ⊥
no_mark m text rest h g =
    let whole : mark_text h.0 ≡ mark_text m ++ (rest ++ h.1) = h.2 ∙ ap (λ (x : List ℕ). x ++ h.1) g.0 ∙ append_assoc (mark_text m) rest h.1 in
    let same : h.0 ≡ m = one_mark h.0 m [] (rest ++ h.1) (append-nil (mark_text h.0) ∙ whole) in
    omega (arith, ap length whole, ap (λ (k : Mark). length (mark_text k)) same, length-append (mark_text m) (rest ++ h.1), length-append rest h.1, h.4)

bad_not_token : (k : Bad) (t : Tok) (text rest : List ℕ) → IsBad k text → BeginsWith t text rest → ⊥
bad_not_token k (NoToken b) text rest h g = g
bad_not_token bad.Minus (Word w) text rest h g = let e : Minus ≡ Letter = bad_alike bad.Minus (Word w) text rest h g in cc
bad_not_token bad.Number (Number n) text rest h g = no_number n text rest h g
bad_not_token bad.Unfinished (Sign m) text rest h g =
    elim h [ inl half ↦ no_mark m text rest half g | inr open_one ↦ let e : true ≡ false = sym open_one.0 ∙ g.1 in cc ]
bad_not_token bad.Stray (Sign m) text rest h g = h.no_mark m rest g.0
bad_not_token k t text rest h g = let e : bad_class k ≡ token_class t = bad_alike k t text rest h g in cc

stray_not_opens : (text : List ℕ) → IsStray text → opens text ≡ true → ⊥
stray_not_opens text h k = h.no_mark OpenParen (drop 1 text) (opens_paren text k)

half_not_stray : (text : List ℕ) → IsBad bad.Unfinished text → IsStray text → ⊥
half_not_stray text h g = elim h [ inl half ↦ g.no_part half.0 half.1 half.2 | inr open_one ↦ stray_not_opens text g open_one.0 ]

-- ---- comments

half_not_opens : (text : List ℕ) → IsHalf text → opens text ≡ true → ⊥
half_not_opens text h k =
    let short : length text < 2 = omega (arith, mark_short h.0, ap length h.2, length-append text h.1, h.4) in
    let e : true ≡ false = sym k ∙ short_opens text short in
    cc

-- nothing bad is a comment
bad_not_comment : (b : Bad) (text rest : List ℕ) → IsBad b text → IsComment text rest → ⊥
bad_not_comment bad.Unfinished text rest h k = elim h [ inl half ↦ half_not_opens text half k.0 | inr open_one ↦ open_one.1 rest k ]
bad_not_comment bad.Stray text rest h k = stray_not_opens text h k.0
bad_not_comment b text rest h k = let e : bad_class b ≡ Other = sym (bad_begins b text h) ∙ opens_class text k.0 in cc

-- no comment is white space
comment_not_white_space : (b : ℕ) (text rest : List ℕ) → is_white_space b ≡ true → IsComment (b ∷ text) rest → ⊥
comment_not_white_space b text rest h k = let e : WhiteSpace ≡ Other = sym (white_space_class b h) ∙ opens_class (b ∷ text) k.0 in cc

-- no comment is a token
comment_not_token : (t : Tok) (text rest others : List ℕ) → IsComment text rest → BeginsWith t text others → ⊥
comment_not_token (Sign m) text rest others k h = let e : true ≡ false = sym k.0 ∙ h.1 in cc
comment_not_token (NoToken b) text rest others k h = h
comment_not_token t text rest others k h = let e : Other ≡ token_class t = sym (opens_class text k.0) ∙ begins_class t text others h in cc

-- why no token stands somewhere has one answer
same_bad : (b c : Bad) (text : List ℕ) → IsBad b text → IsBad c text → b ≡ c
same_bad bad.Number bad.Number text h g = refl
same_bad bad.Minus bad.Minus text h g = refl
same_bad bad.Unfinished bad.Stray text h g = absurd (half_not_stray text h g)
same_bad bad.Stray bad.Unfinished text h g = absurd (half_not_stray text g h)
same_bad b c text h g = let e : bad_class b ≡ bad_class c = sym (bad_begins b text h) ∙ bad_begins c text g in cc

-- ---- where tokens end

-- neither white space, a comment nor a token stands here
pub record IsEnd (rest : List ℕ) : Type 0 where
  pub no_white_space : (b : ℕ) (text : List ℕ) → is_white_space b ≡ true → rest ≡ b ∷ text → ⊥
  pub no_comment : (others : List ℕ) → IsComment rest others → ⊥
  pub no_token : (t : Tok) (others : List ℕ) → BeginsWith t rest others → ⊥

text_end : IsEnd []
text_end = record {
  no_white_space = λ b text h e. cc;
  no_comment = λ others k. let e : false ≡ true = k.0 in cc;
  no_token = λ t others h. omega (arith, begins_some t [] others h);
}

bad_end : (b : Bad) (rest : List ℕ) → IsBad b rest → IsEnd rest
bad_end b rest h = record {
  no_white_space = λ x text k e. bad_not_white_space b x text k (rw e at h);
  no_comment = λ others k. bad_not_comment b rest others h k;
  no_token = λ t others k. bad_not_token b t rest others h k;
}

end_off : (ts : List Tok) (text rest : List ℕ) → IsEnd text → BeginsWithAll ts text rest → (ts ≡ []) × (text ≡ rest)
end_off ts text rest end none = (refl, refl)
end_off ts (b ∷ text) rest end (white_space k l) = absurd (end.no_white_space b text k refl)
end_off ts text rest end (comment {others = others} k l) = absurd (end.no_comment others k)
end_off ts text rest end (token {t = t} {others = others} k l) = absurd (end.no_token t others k)

white_space_off : (b : ℕ) (ts : List Tok) (text rest : List ℕ) → IsEnd rest → is_white_space b ≡ true → BeginsWithAll ts (b ∷ text) rest → BeginsWithAll ts text rest
white_space_off b ts text rest end h none = absurd (end.no_white_space b text h refl)
white_space_off b ts text rest end h (white_space k l) = l
white_space_off b ts text rest end h (comment {others = others} k l) = absurd (comment_not_white_space b text others h k)
white_space_off b ts text rest end h (token {t = t} {others = others} k l) = absurd (not_white_space t b text others h k)

token_off : (t : Tok) (ts : List Tok) (text others rest : List ℕ) → IsEnd rest → BeginsWith t text others → BeginsWithAll ts text rest → (us : List Tok) × (ts ≡ t ∷ us) × BeginsWithAll us others rest
token_off t ts text others rest end h none = absurd (end.no_token t others h)
token_off t ts (b ∷ text) others rest end h (white_space k l) = absurd (not_white_space t b text others k h)
token_off t ts text others rest end h (comment {others = more} k l) = absurd (comment_not_token t text more others k h)
token_off t ts text others rest end h (token {t = u} {ts = us} {others = more} k l) =
    let same = same_token t u text others more h k in
    (us, ap (λ (x : Tok). x ∷ us) (sym same.0), rw same.1 l)

comment_off : (ts : List Tok) (text others rest : List ℕ) → IsEnd rest → IsComment text others → BeginsWithAll ts text rest → BeginsWithAll ts others rest
comment_off ts text others rest end h none = absurd (end.no_comment others h)
comment_off ts (b ∷ text) others rest end h (white_space k l) = absurd (comment_not_white_space b text others k h)
comment_off ts text others rest end h (comment {others = more} k l) =
    let same : more ≡ others = Inside-one (drop 2 text) more others k.1 h.1 in
    rw (← same) l
comment_off ts text others rest end h (token {t = t} {others = more} k l) = absurd (comment_not_token t text others more h k)

-- the tokens up to an end, and that end, are the only ones
one_way : (ts us : List Tok) (text rest others : List ℕ) → IsEnd rest → IsEnd others → BeginsWithAll ts text rest → BeginsWithAll us text others → (ts ≡ us) × (rest ≡ others)
one_way ts us text rest others end other none m = let e = end_off us text others end m in (sym e.0, e.1)
one_way ts us (b ∷ text) rest others end other (white_space k l) m = one_way ts us text rest others end other l (white_space_off b us text others other k m)
one_way ts us text rest others end other (comment {others = middle} k l) m = one_way ts us middle rest others end other l (comment_off us text middle others other k m)
one_way ts us text rest others end other (token {t = t} {ts = vs} {others = middle} k l) m =
    let first = token_off t us text middle others other k m in
    let more = one_way vs first.0 middle rest others end other l first.2 in
    (ap (λ (x : List Tok). t ∷ x) more.0 ∙ sym first.1, more.1)

-- ---- the lexer's steps

then_all : (ts us : List Tok) (text middle rest : List ℕ) → BeginsWithAll ts text middle → BeginsWithAll us middle rest → BeginsWithAll (ts ++ us) text rest
then_all ts us text middle rest none l = l
then_all ts us (b ∷ text) middle rest (white_space k m) l = white_space k (then_all ts us text middle rest m l)
then_all ts us text middle rest (comment {others = others} k m) l = comment k (then_all ts us others middle rest m l)
then_all ts us text middle rest (token {t = t} {ts = vs} {others = others} k m) l = token k (then_all vs us others middle rest m l)

pub white_space_more : (ts : List Tok) (text rest after : List ℕ) (b : ℕ) → BeginsWithAll ts text rest → is_white_space b ≡ true → rest ≡ b ∷ after → BeginsWithAll ts text after
white_space_more ts text rest after b l h is = rw append-nil at (then_all ts [] text rest after l (rw is (white_space h none)))

pub comment_more : (ts : List Tok) (text rest after : List ℕ) → BeginsWithAll ts text rest → IsComment rest after → BeginsWithAll ts text after
comment_more ts text rest after l h = rw append-nil at (then_all ts [] text rest after l (comment h none))

pub token_more : (ts : List Tok) (t : Tok) (text rest after : List ℕ) → BeginsWithAll ts text rest → BeginsWith t rest after → BeginsWithAll (ts ++ t ∷ []) text after
token_more ts t text rest after l h = then_all ts (t ∷ []) text rest after l (token h none)

-- at the end of the text
pub whole_text : (ts : List Tok) (text rest : List ℕ) → rest ≡ [] → BeginsWithAll ts text rest → Lexes text ts
whole_text ts text rest end l = rw end at l

-- ---- what the lexer gives is the only list

abbrev pub stopped : List Tok → Bad → List Tok
stopped ts b = ts ++ NoToken b ∷ []

whole_not_stopped : (ts us : List Tok) (b : Bad) (text rest : List ℕ) → Lexes text ts → BeginsWithAll us text rest → IsBad b rest → ⊥
whole_not_stopped ts us b text rest l m h =
    let same = one_way ts us text [] rest text_end (bad_end b rest h) l m in
    bad_some b (rw (← same.1) at h)

one_stop : (ts us : List Tok) (b c : Bad) (text rest others : List ℕ) → BeginsWithAll ts text rest → IsBad b rest → BeginsWithAll us text others → IsBad c others → stopped ts b ≡ stopped us c
one_stop ts us b c text rest others l h m g =
    let same = one_way ts us text rest others (bad_end b rest h) (bad_end c others g) l m in
    let here : IsBad b others = rw same.1 at h in
    let why : b ≡ c = same_bad b c others here g in
    ap (λ (x : List Tok). stopped x b) same.0 ∙ ap (stopped us) why

pub only_whole : (ts us : List Tok) (text : List ℕ) → Lexes text ts → LexesTo text us → ts ≡ us
only_whole ts us text l m =
    elim m [ inl w ↦ (one_way ts us text [] [] text_end text_end l w).0 | inr s ↦ absurd (whole_not_stopped ts s.0 s.1 text s.2 l s.4 s.5) ]

pub only_stopped : (ts us : List Tok) (b : Bad) (text rest : List ℕ) → BeginsWithAll ts text rest → IsBad b rest → LexesTo text us → stopped ts b ≡ us
only_stopped ts us b text rest l h m =
    elim m [ inl w ↦ absurd (whole_not_stopped us ts b text rest w l h) | inr s ↦ one_stop ts s.0 b s.1 text rest s.2 l h s.4 s.5 ∙ sym s.3 ]

-- a text has one list of tokens
pub LexesTo-one : (text : List ℕ) (ts us : List Tok) → LexesTo text ts → LexesTo text us → ts ≡ us
LexesTo-one text ts us l m = elim l [ inl w ↦ only_whole ts us text w m | inr s ↦ s.3 ∙ only_stopped s.0 us s.1 text s.2 s.4 s.5 m ]

-- ---- wholeness

whole_one : (t : Tok) (ts : List Tok) (text rest : List ℕ) → BeginsWith t text rest → AreAllTokens ts → AreAllTokens (t ∷ ts)
whole_one (NoToken b) ts text rest h i = absurd h
whole_one t ts text rest h i = i

all_whole : (ts : List Tok) (text rest : List ℕ) → BeginsWithAll ts text rest → AreAllTokens ts
all_whole ts text rest none = tt
all_whole ts (b ∷ text) rest (white_space k l) = all_whole ts text rest l
all_whole ts text rest (comment {others = others} k l) = all_whole ts others rest l
all_whole ts text rest (token {t = t} {ts = us} {others = others} k l) = whole_one t us text others k (all_whole us others rest l)

-- the tokens of a whole text are tokens
pub Lexes-is-whole : (text : List ℕ) (ts : List Tok) → Lexes text ts → AreAllTokens ts
Lexes-is-whole text ts l = all_whole ts text [] l

pub not_whole : (ts us : List Tok) (b : Bad) → AreAllTokens (ts ++ NoToken b ∷ us) → ⊥
not_whole [] us b h = h
not_whole (NoToken c ∷ ts) us b h = h
not_whole (t ∷ ts) us b h = not_whole ts us b h
