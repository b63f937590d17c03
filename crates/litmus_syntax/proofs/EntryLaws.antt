-- What the reader of initial values reads is what the grammar says.
use Rattle.litmus_syntax.proofs.Vocabulary.{◌≡◌, ◌∙◌, ◌||◌, ◌++◌, ap, map, not, Bool, ℕ, true, false, List, [], ◌∷◌, refl, sym, subst, Some, None, list_any, map_push, map-append, list_any-append, Tok, mark_at, begins_with, rest_of, mark_takes, PlaceView}
use Rattle.litmus_syntax.proofs.Vocabulary.{EntryView, ◌▸◌, mark, number, Items, end, item, Seen, same_place, has, same_Some, IsEntryItem, separator, place_of_entry, NoneTwice, IsInitial, separator_at, place_at, equals_value_at, entry_value_at, entry_at}
use Rattle.litmus_syntax.proofs.Vocabulary.{or-false, not-true, not-false}
use Rattle.text_tokens.specs.declared.token.Mark.TheVariants as the
use Rattle.litmus_syntax.proofs.ItemLaws.{IsRead, Only, SoFar, only_read, none_read, none_behind, one_more, refused, closed}
use Rattle.litmus_syntax.proofs.{Options.made, Options.next, Options.not_first, Repetitions.fresh, Repetitions.twice, SeenLaws.same_place_is, SeenLaws.same_place_itself}
use Rattle.litmus_syntax.proofs.{WordLaws.separator_takes, WordLaws.separator_again, PlaceLaws.place_takes, PlaceLaws.place_again, PlaceLaws.value_takes, PlaceLaws.value_again}

-- `=`, a number, and what follows an entry
abbrev EntryValue : ℕ → List Tok → List Tok → Type 0
EntryValue n = (mark the.Equals ▸ number n) ▸ separator the.CloseBrace

entry_value_takes : (ts : List Tok) (x : ℕ × List Tok) → entry_value_at ts ≡ Some x → EntryValue x.0 ts x.1
unfolding entry_value_at
entry_value_takes ts =
    let is : ℕ × List Tok → Type 0 = λ x. EntryValue x.0 ts x.1 in
    next is (equals_value_at ts) _ (λ n a. made is (separator_at the.CloseBrace n.1) (λ rest. (n.0, rest)) (λ rest b. (n.1, value_takes ts n a, separator_takes the.CloseBrace n.1 rest b)))

entry_value_again : (n : ℕ) (ts rest : List Tok) → EntryValue n ts rest → entry_value_at ts ≡ Some (n, rest)
unfolding entry_value_at
entry_value_again n ts rest h = rw (value_again n ts h.0 h.1, separator_again the.CloseBrace h.0 rest (λ e. cc) h.2) refl

item_takes : (ts : List Tok) (x : EntryView × List Tok) → entry_at ts ≡ Some x → IsEntryItem x.0 ts x.1
unfolding entry_at
item_takes ts =
    let is : EntryView × List Tok → Type 0 = λ x. IsEntryItem x.0 ts x.1 in
    next is (place_at ts) _ (λ p a. made is (entry_value_at p.1) (λ n. (record { place = p.0; value = n.0 }, n.1)) (λ n b.
    let v = entry_value_takes p.1 n b in (v.0, (p.1, place_takes ts p a, v.1), v.2)))

item_again : (e : EntryView) (ts rest : List Tok) → IsEntryItem e ts rest → entry_at ts ≡ Some (e, rest)
unfolding entry_at
item_again e ts rest h = rw (place_again e.place ts h.1.0 h.1.1, entry_value_again e.value h.1.0 rest (h.0, h.1.2, h.2)) refl

pub entries_are_read : IsRead IsEntryItem entry_at
entries_are_read = record { takes = item_takes; again = item_again }

-- an entry begins with its place
pub begins_with_place : (e : EntryView) (ts rest : List Tok) → IsEntryItem e ts rest → (p : PlaceView × List Tok) → place_at ts ≡ Some p → e.place ≡ p.0
begins_with_place e ts rest h p is = ap (λ (x : PlaceView × List Tok). x.0) (same_Some (e.place, h.1.0) p (sym (place_again e.place ts h.1.0 h.1.1) ∙ is))

-- no entry begins with `}`
pub no_entry : (ts rest : List Tok) → mark the.CloseBrace ts rest → (e : EntryView) (other : List Tok) → IsEntryItem e ts other → ⊥
unfolding entry_at place_at
no_entry ts rest is e other h = let bad = sym (ap entry_at is) ∙ item_again e ts other h in absurd cc

-- ---- entries

abbrev Inside : List Tok → List EntryView → List Tok → Type 0
Inside ts es last = (mark the.OpenBrace ▸ Items IsEntryItem (mark the.CloseBrace) es) ts last

-- the entries so far, none of which stands twice, and the set of their places
pub record EntriesSoFar (ts : List Tok) (es : List EntryView) (rest : List Tok) (seen : Seen) : Type 0 where
  pub items : SoFar IsEntryItem (mark the.CloseBrace) (Inside ts) es rest
  pub once : NoneTwice (map place_of_entry es)
  pub places : (p : PlaceView) → has seen p ≡ list_any (same_place p) (map place_of_entry es)

pub no_entry_yet : (ts rest : List Tok) (seen : Seen) → mark_at the.OpenBrace ts ≡ Some rest → ((p : PlaceView) → has seen p ≡ false) → EntriesSoFar ts [] rest seen
no_entry_yet ts rest seen e empty =
    let is = mark_takes the.OpenBrace ts rest e in
    record {
      items = none_behind IsEntryItem (mark the.CloseBrace) (mark the.OpenBrace) ts rest is (λ other h. ap rest_of (sym h ∙ is));
      once = tt;
      places = empty;
    }

-- a place and a value are an entry
whole_entry : (ts after others : List Tok) (p : PlaceView) (n : ℕ) → place_at ts ≡ Some (p, after) → entry_value_at after ≡ Some (n, others) → entry_at ts ≡ Some (record { place = p; value = n }, others)
unfolding entry_at
whole_entry ts after others p n e f = rw (e, f) refl

no_place : (ts : List Tok) → place_at ts ≡ None → entry_at ts ≡ None
unfolding entry_at
no_place ts e = rw e refl

no_value : (ts after : List Tok) (p : PlaceView) → place_at ts ≡ Some (p, after) → entry_value_at after ≡ None → entry_at ts ≡ None
unfolding entry_at
no_value ts after p e f = rw (e, f) refl

added_place : (es : List EntryView) (e : EntryView) (old new : Seen) → ((p : PlaceView) → has old p ≡ list_any (same_place p) (map place_of_entry es)) → ((p : PlaceView) → has new p ≡ (has old p || same_place p e.place))
    → (p : PlaceView) → has new p ≡ list_any (same_place p) (map place_of_entry (es ++ e ∷ []))
added_place es e old new s a p =
    let ps = map place_of_entry es in
    a p ∙ ap (λ (b : Bool). b || same_place p e.place) (s p) ∙ ap (λ (b : Bool). list_any (same_place p) ps || b) (sym (or-false (same_place p e.place))) ∙ sym (list_any-append (same_place p) ps (e.place ∷ []))
    ∙ ap (list_any (same_place p)) (sym (map_push place_of_entry es e))

pub one_more_entry : (ts : List Tok) (es : List EntryView) (rest : List Tok) (old new : Seen) (p : PlaceView) (n : ℕ) (after others : List Tok) → EntriesSoFar ts es rest old → begins_with the.CloseBrace rest ≡ false
    → place_at rest ≡ Some (p, after) → true ≡ not (has old p) → ((q : PlaceView) → has new q ≡ (has old q || same_place q p)) → entry_value_at after ≡ Some (n, others)
    → EntriesSoFar ts (es ++ record { place = p; value = n } ∷ []) others new
one_more_entry ts es rest old new p n after others s apart is new_place added value =
    let e : EntryView = record { place = p; value = n } in
    let only = only_read IsEntryItem entry_at entries_are_read rest (e, others) (whole_entry rest after others p n is value) in
    record {
      items = one_more IsEntryItem (mark the.CloseBrace) (Inside ts) es rest e others s.items (not_first the.CloseBrace rest apart) only;
      once = rw (map_push place_of_entry es e) (fresh same_place same_place_is same_place_itself (map place_of_entry es) p s.once (sym (s.places p) ∙ not-true (has old p) (sym new_place)));
      places = added_place es e old new s.places added;
    }

first_place : (ts : List Tok) (p : PlaceView) (after : List Tok) → begins_with the.CloseBrace ts ≡ false → place_at ts ≡ Some (p, after) → (es : List EntryView) (last : List Tok) → Items IsEntryItem (mark the.CloseBrace) es ts last
    → (fs : List PlaceView) × (map place_of_entry es ≡ p ∷ fs)
first_place ts p after apart is es last (end e) = absurd (not_first the.CloseBrace ts apart last e)
first_place ts p after apart is es last (item {x = x} {xs = xs} {others = others} h l) =
    (map place_of_entry xs, ap (λ (z : PlaceView). z ∷ map place_of_entry xs) (begins_with_place x ts others h (p, after) is))

pub place_again_stands : (ts : List Tok) (es : List EntryView) (rest : List Tok) (seen : Seen) (p : PlaceView) (after : List Tok) → EntriesSoFar ts es rest seen → begins_with the.CloseBrace rest ≡ false
    → place_at rest ≡ Some (p, after) → false ≡ not (has seen p) → (fs : List EntryView) (last : List Tok) → IsInitial fs ts last → ⊥
place_again_stands ts es rest seen p after s apart is old fs last h =
    let b = s.items.back fs last h.0 in
    let first = first_place rest p after apart is b.0 last b.2 in
    let parts : map place_of_entry fs ≡ map place_of_entry es ++ p ∷ first.0 = ap (map place_of_entry) b.1 ∙ map-append place_of_entry es b.0 ∙ ap (λ (z : List PlaceView). map place_of_entry es ++ z) first.1 in
    twice same_place same_place_is same_place_itself (map place_of_entry es) first.0 p (sym (s.places p) ∙ not-false (has seen p) (sym old)) (subst NoneTwice parts h.1)

entries_stop : (ts : List Tok) (es : List EntryView) (rest : List Tok) (seen : Seen) → EntriesSoFar ts es rest seen → begins_with the.CloseBrace rest ≡ false → entry_at rest ≡ None
    → (fs : List EntryView) (last : List Tok) → IsInitial fs ts last → ⊥
entries_stop ts es rest seen s apart none fs last h =
    refused IsEntryItem (mark the.CloseBrace) (Inside ts) es rest s.items (not_first the.CloseBrace rest apart) (none_read IsEntryItem entry_at entries_are_read rest none) fs last h.0

pub no_place_stands : (ts : List Tok) (es : List EntryView) (rest : List Tok) (seen : Seen) → EntriesSoFar ts es rest seen → begins_with the.CloseBrace rest ≡ false → place_at rest ≡ None
    → (fs : List EntryView) (last : List Tok) → IsInitial fs ts last → ⊥
no_place_stands ts es rest seen s apart none = entries_stop ts es rest seen s apart (no_place rest none)

pub no_value_stands : (ts : List Tok) (es : List EntryView) (rest : List Tok) (seen : Seen) (p : PlaceView) (after : List Tok) → EntriesSoFar ts es rest seen → begins_with the.CloseBrace rest ≡ false
    → place_at rest ≡ Some (p, after) → entry_value_at after ≡ None → (fs : List EntryView) (last : List Tok) → IsInitial fs ts last → ⊥
no_value_stands ts es rest seen p after s apart is none = entries_stop ts es rest seen s apart (no_value rest after p is none)

-- the entries end
pub entries_end : (ts : List Tok) (es : List EntryView) (rest last : List Tok) (seen : Seen) → EntriesSoFar ts es rest seen → mark_at the.CloseBrace rest ≡ Some last → Only IsInitial es ts last
entries_end ts es rest last seen s e =
    let is = mark_takes the.CloseBrace rest last e in
    let d = closed IsEntryItem (mark the.CloseBrace) (Inside ts) es rest last s.items is (λ other h. ap rest_of (sym h ∙ is)) (no_entry rest last is) in
    ((d.0, s.once), λ fs other h. d.1 fs other h.0)
