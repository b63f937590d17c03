-- The rows of the writes to each location.
use Rattle.known_edges.proofs.Vocabulary.{◌≡◌, ◌↔◌, ◌⊎◌, ℕ, ◌+◌, ◌<◌, ◌≤◌, List, Option, Some, IfSome, slice_get, slice_index, get_or, length, sym, ap, ◌∙◌, subst, inl, inr, refl, None, arith, cases_lt, slice_get-get_or, same_Some, get_or_past, IsIn, RowHas}
use Rattle.known_edges.proofs.Vocabulary.{none_in_zero, Event, Initial, ThreadTrace, IsWriteAt, HaveLocations, MAX_LOCATIONS}
use Rattle.known_edges.proofs.Masks.{IsRowBelow}

-- the next event is put in where F holds
row_step : (events : List Event) (P : Event → Type 0) (F : Type 0) (n row next : ℕ) → n < length events → IsRowBelow events P n row → (F ↔ P (get_or events n (Initial 0))) →
    ((k : ℕ) → IsIn next k ↔ (IsIn row k ⊎ (F × (k ≡ n)))) → IsRowBelow events P (n + 1) next
row_step events P F n row next within below holds each d =
    let at : slice_get events n ≡ Some (get_or events n (Initial 0)) = slice_get-get_or events n (Initial 0) within in (
      λ h. elim ((each d).0 h) [
        | inl p ↦ (let q = (below d).0 p in (let l = q.0 in omega arith, q.1))
        | inr (f, same) ↦ (omega arith, (get_or events n (Initial 0), ap (slice_get events) same ∙ at, holds.0 f))
      ],
      λ h. (each d).1 (elim (cases_lt d n) [
        | inl l ↦ inl ((below d).1 (l, h.1))
        | inr g ↦ (let same : d ≡ n = (let l = h.0 in omega arith) in
            let is : h.1.0 ≡ get_or events n (Initial 0) = same_Some _ _ (sym h.1.1 ∙ ap (slice_get events) same ∙ at) in
            inr (holds.1 (subst P is h.1.2), same))
      ]),
    )

-- the rows have the writes among the first n events
abbrev pub AreWriteRowsBelow : List ThreadTrace → List Event → ℕ → List ℕ → Type 0
AreWriteRowsBelow thread_traces events n rows = (l : ℕ) → IsRowBelow events (IsWriteAt thread_traces l) n (slice_index rows l)

pub writes_more : (thread_traces : List ThreadTrace) (events : List Event) (n : ℕ) (location : Option ℕ) (rows next : List ℕ) → n < length events → AreWriteRowsBelow thread_traces events n rows →
    ((l : ℕ) → (location ≡ Some l) ↔ IsWriteAt thread_traces l (get_or events n (Initial 0))) →
    ((l k : ℕ) → RowHas next l k ↔ (RowHas rows l k ⊎ ((location ≡ Some l) × (k ≡ n)))) → AreWriteRowsBelow thread_traces events (n + 1) next
writes_more thread_traces events n location rows next within below is each l =
    row_step events (IsWriteAt thread_traces l) (location ≡ Some l) n (slice_index rows l) (slice_index next l) within (below l) (is l) (each l)

-- a write is to one of the locations
pub write_located : (thread_traces : List ThreadTrace) (e : Event) (location : Option ℕ) → HaveLocations thread_traces → ((l : ℕ) → (location ≡ Some l) → IsWriteAt thread_traces l e) → IfSome location (λ l. l < MAX_LOCATIONS)
write_located thread_traces e (Some l) located is = (let (y, at, same, wr) = is l refl in subst (λ z. z < MAX_LOCATIONS) same (located e y at))
write_located thread_traces e None located is = tt

-- what is in a row is joined, if it is in one of the first n and these are all
pub joined_rows : (rows : List ℕ) (n all : ℕ) → length rows ≤ n → ((d e : ℕ) → d < n → IsIn (get_or rows d 0) e → IsIn all e) → (d e : ℕ) → RowHas rows d e → IsIn all e
joined_rows rows n all end joined d e here = elim (cases_lt d n) [
  | inl low ↦ joined d e low here
  | inr high ↦ absurd (none_in_zero e (subst (λ r. IsIn r e) (get_or_past rows d 0 (omega arith)) here))
]
