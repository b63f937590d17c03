-- The body as a whole.
use Rattle.litmus_syntax.proofs.Vocabulary.{◌≡◌, ◌∙◌, ◌+◌, ◌<◌, ◌≤◌, arith, ℕ, List, [], ◌∷◌, ◌++◌, map, length, take, get_or, sym, ap, subst, take_more, take_all, map_push, length-map, All, Tok, SyntaxFault, Refused, OutOfMemory, PlaceView, EntryView}
use Rattle.litmus_syntax.proofs.Vocabulary.{CellView, BodyView, place_view, entry_view, ReadsNone, HasThread, place_of_entry, IsInitial, IsHeader, IsRows, IsBody}
use Rattle.std.proofs.Math.ListN.{get_or-map}
use Rattle.std.proofs.lemmas.List.Elements.{All-append, All-cons, All-nil}
use Rattle.litmus_syntax.specs.declared.entry.Entry.{Entry}
use Rattle.litmus_syntax.proofs.ItemLaws.{Only}

abbrev places : List Entry → List PlaceView
places es = map place_of_entry (map entry_view es)

place_at_end : (es : List Entry) (e : Entry) → places (es ++ e ∷ []) ≡ places es ++ place_view e.place ∷ []
place_at_end es e = ap (map place_of_entry) (map_push entry_view es e) ∙ map_push place_of_entry (map entry_view es) (entry_view e)

-- the threads of one more entry are there
pub one_more_there : (threads : ℕ) (es : List Entry) (i : ℕ) (d : Entry) → i < length es → All (HasThread threads) (places (take i es)) → HasThread threads (place_view (get_or es i d).place)
    → All (HasThread threads) (places (take (i + 1) es))
one_more_there threads es i d lt h one =
    let parts : places (take (i + 1) es) ≡ places (take i es) ++ place_view (get_or es i d).place ∷ [] = ap places (take_more es i d lt) ∙ place_at_end (take i es) (get_or es i d) in
    subst (All (HasThread threads)) (sym parts) (All-append (HasThread threads) (places (take i es)) (place_view (get_or es i d).place ∷ []) h (All-cons (HasThread threads) (place_view (get_or es i d).place) [] one (All-nil (HasThread threads))))

-- the thread of each entry is there
pub there_at : (threads : ℕ) (es : List Entry) (i : ℕ) (d : Entry) → i < length es → All (HasThread threads) (places es) → HasThread threads (place_view (get_or es i d).place)
there_at threads es i d lt h =
    let long : i < length (places es) = omega (arith, lt, length-map es entry_view, length-map (map entry_view es) place_of_entry) in
    let at : get_or (places es) i (place_view d.place) ≡ place_view (get_or es i d).place = get_or-map place_of_entry (map entry_view es) i (entry_view d) ∙ ap place_of_entry (get_or-map entry_view es i d) in
    subst (HasThread threads) at (h i (place_view d.place) long)

pub all_there : (threads : ℕ) (es : List Entry) (i : ℕ) → length es ≤ i → All (HasThread threads) (places (take i es)) → All (HasThread threads) (places es)
all_there threads es i le h = subst (λ (z : List Entry). All (HasThread threads) (places z)) (take_all i es le) h

-- ---- the body of its parts

abbrev body_of : List EntryView → ℕ → List (List CellView) → BodyView
body_of es n rows = record { entries = es; threads = n; rows = rows }

abbrev AllThere : ℕ → List EntryView → Type 0
AllThere n es = All (HasThread n) (map place_of_entry es)

-- what a body begins with are the entries and the threads that were read
begins : (ts us vs : List Tok) (es : List EntryView) (n : ℕ) → Only IsInitial es ts us → Only IsHeader n us vs → (b : BodyView) (rest : List Tok) → IsBody b ts rest
    → (b.entries ≡ es) × (b.threads ≡ n) × IsRows n b.rows vs rest × AllThere n es
begins ts us vs es n e d b rest h =
    let one = e.1 b.entries h.0.0 h.0.1 in
    let two = d.1 b.threads h.0.2.0 (subst (λ (z : List Tok). IsHeader b.threads z h.0.2.0) one.1 h.0.2.1) in
    let rows = subst (λ (z : List Tok). IsRows b.threads b.rows z rest) two.1 h.0.2.2 in
    (one.0, two.0, subst (λ (k : ℕ). IsRows k b.rows vs rest) two.0 rows, subst (λ (k : ℕ). AllThere k es) two.0 (subst (λ (z : List EntryView). AllThere b.threads z) one.0 h.1))

pub body_is_read : (ts us vs rest : List Tok) (es : List EntryView) (n : ℕ) (rows : List (List CellView)) → Only IsInitial es ts us → Only IsHeader n us vs → AllThere n es → Only (IsRows n) rows vs rest
    → Only IsBody (body_of es n rows) ts rest
body_is_read ts us vs rest es n rows e d there r = (
  ((us, e.0, (vs, d.0, r.0)), there),
  λ b other h.
      let parts = begins ts us vs es n e d b other h in
      let last = r.1 b.rows other parts.2 in
      let same : b ≡ body_of es n rows = ap (λ (z : List EntryView). body_of z b.threads b.rows) parts.0 ∙ ap (λ (k : ℕ). body_of es k b.rows) parts.1 ∙ ap (body_of es n) last.0 in
      (same, last.1),
)

pub no_entries : (ts : List Tok) (f : SyntaxFault) → ReadsNone IsInitial f ts → ReadsNone IsBody f ts
no_entries ts OutOfMemory none = tt
no_entries ts (Refused r) none = λ b rest h. none b.entries h.0.0 h.0.1

pub no_header : (ts us : List Tok) (es : List EntryView) (f : SyntaxFault) → Only IsInitial es ts us → ReadsNone IsHeader f us → ReadsNone IsBody f ts
no_header ts us es OutOfMemory e none = tt
no_header ts us es (Refused r) e none = λ b rest h.
    let one = e.1 b.entries h.0.0 h.0.1 in
    none b.threads h.0.2.0 (subst (λ (z : List Tok). IsHeader b.threads z h.0.2.0) one.1 h.0.2.1)

pub one_missing : (ts us vs : List Tok) (es : List EntryView) (n : ℕ) → Only IsInitial es ts us → Only IsHeader n us vs → (AllThere n es → ⊥) → (b : BodyView) (rest : List Tok) → IsBody b ts rest → ⊥
one_missing ts us vs es n e d missing b rest h = missing (begins ts us vs es n e d b rest h).3

pub no_rows : (ts us vs : List Tok) (es : List EntryView) (n : ℕ) (f : SyntaxFault) → Only IsInitial es ts us → Only IsHeader n us vs → ReadsNone (IsRows n) f vs → ReadsNone IsBody f ts
no_rows ts us vs es n OutOfMemory e d none = tt
no_rows ts us vs es n (Refused r) e d none = λ b rest h. none b.rows rest (begins ts us vs es n e d b rest h).2
