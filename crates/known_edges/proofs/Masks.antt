-- Rows of events, gathered event by event.
use Rattle.known_edges.proofs.Vocabulary.{◌≡◌, ◌≢◌, ◌↔◌, ◌⊎◌, ℕ, ◌+◌, ◌<◌, ◌≤◌, List, Some, slice_get, get_or, set, length, sym, ap, ◌∙◌, subst, inl, inr, arith, cases_lt, cases_eq, slice_get_within, slice_get-get_or, get_or_from_slice_get, same_Some, Event}
use Rattle.known_edges.proofs.Vocabulary.{Initial, IsRowOf, AreRowsOf, ReadsBut, get_or-set_same, get_or-set_other, IsIn, RowHas, IsTransitive}

-- the event of this number, of which P holds
abbrev pub Holds : List Event → (Event → Type 0) → ℕ → Type 0
Holds events P d = (x : Event) × (slice_get events d ≡ Some x) × P x

-- the row has the first n events of which P holds
abbrev pub IsRowBelow : List Event → (Event → Type 0) → ℕ → ℕ → Type 0
IsRowBelow events P n row = (d : ℕ) → IsIn row d ↔ ((d < n) × Holds events P d)

-- all events
pub row_all : (events : List Event) (P : Event → Type 0) (n row : ℕ) → length events ≤ n → IsRowBelow events P n row → IsRowOf events P row
row_all events P n row all below d = (
  λ h. ((below d).0 h).1,
  λ h. (below d).1 ((let l = slice_get_within events d h.0 h.1 in omega arith), h),
)

-- rows that are joined
pub row_joined : (events : List Event) (P Q S : Event → Type 0) (a b c : ℕ) → IsRowOf events P a → IsRowOf events Q b → ((k : ℕ) → IsIn c k ↔ (IsIn a k ⊎ IsIn b k)) →
    ((x : Event) → S x ↔ (P x ⊎ Q x)) → IsRowOf events S c
row_joined events P Q S a b c of_a of_b each same d = (
  λ h. elim ((each d).0 h) [
    | inl p ↦ (let q = (of_a d).0 p in (q.0, q.1, (same q.0).1 (inl q.2)))
    | inr p ↦ (let q = (of_b d).0 p in (q.0, q.1, (same q.0).1 (inr q.2)))
  ],
  λ h. (each d).1 (elim ((same h.0).0 h.2) [ inl p ↦ inl ((of_a d).1 (h.0, h.1, p)) | inr p ↦ inr ((of_b d).1 (h.0, h.1, p)) ]),
)

-- a row of a property is a row of another that the same events have
pub row_by : (events : List Event) (P Q : Event → Type 0) (row : ℕ) → ((d : ℕ) (x : Event) → slice_get events d ≡ Some x → P x ↔ Q x) → IsRowOf events P row → IsRowOf events Q row
row_by events P Q row same is d = (
  λ h. (let q = (is d).0 h in (q.0, q.1, (same d q.0 q.1).0 q.2)),
  λ h. (is d).1 (h.0, h.1, (same d h.0 h.1).1 h.2),
)

-- a reader among the first n sources
abbrev pub IsReaderBelow : List (Event × Event) → ℕ → Event → Event → Event → Type 0
IsReaderBelow sources n source except read = (k : ℕ) × (k < n) × (slice_get sources k ≡ Some (read, source)) × (read ≢ except)

module _ (events : List Event) (sources : List (Event × Event)) (source except : Event) (n row : ℕ) (within : n < length sources)
    (below : IsRowOf events (IsReaderBelow sources n source except) row) where
  abbrev chosen : Event × Event
  chosen = get_or sources n (Initial 0, Initial 0)

  there : slice_get sources n ≡ Some chosen
  there = slice_get-get_or sources n (Initial 0, Initial 0) within

  pub readers_more : (one next : ℕ) → chosen.1 ≡ source → (chosen.0 ≡ except → ⊥) → IsRowOf events (λ e. e ≡ chosen.0) one →
      ((k : ℕ) → IsIn next k ↔ (IsIn row k ⊎ IsIn one k)) → IsRowOf events (IsReaderBelow sources (n + 1) source except) next
  readers_more one next is other of_one each = row_joined events (IsReaderBelow sources n source except) (λ e. e ≡ chosen.0) (IsReaderBelow sources (n + 1) source except) row one next below of_one each
      (λ x. (
        λ h. elim (cases_lt h.0 n) [
          | inl l ↦ inl (h.0, l, h.2, h.3)
          | inr g ↦ inr (let same : h.0 ≡ n = (let l = h.1 in omega arith) in
              ap (λ (p : Event × Event). p.0) (same_Some (x, source) chosen (sym h.2 ∙ ap (slice_get sources) same ∙ there)))
        ],
        λ h. elim h [
          | inl p ↦ (p.0, (let l = p.1 in omega arith), p.2, p.3)
          | inr same ↦ (n, omega arith, there ∙ (λ i. Some (sym same i, is i)), λ e. other (sym same ∙ e))
        ],
      ))

  pub readers_skip : (chosen.1 ≡ source → (chosen.0 ≡ except → ⊥) → ⊥) → IsRowOf events (IsReaderBelow sources (n + 1) source except) row
  readers_skip free = row_by events (IsReaderBelow sources n source except) (IsReaderBelow sources (n + 1) source except) row
      (λ d x at. (
        λ h. (h.0, (let l = h.1 in omega arith), h.2, h.3),
        λ h. elim (cases_lt h.0 n) [
          | inl l ↦ (h.0, l, h.2, h.3)
          | inr g ↦ (let same : h.0 ≡ n = (let l = h.1 in omega arith) in
              let is : (x, source) ≡ chosen = same_Some (x, source) chosen (sym h.2 ∙ ap (slice_get sources) same ∙ there) in
              absurd (free (sym (ap (λ (p : Event × Event). p.1) is)) (λ e. h.3 (ap (λ (p : Event × Event). p.0) is ∙ e))))
        ],
      ))
      below

-- all sources
pub readers_all : (events : List Event) (sources : List (Event × Event)) (source except : Event) (n row : ℕ) → length sources ≤ n →
    IsRowOf events (IsReaderBelow sources n source except) row → IsRowOf events (ReadsBut sources source except) row
readers_all events sources source except n row all = row_by events (IsReaderBelow sources n source except) (ReadsBut sources source except) row
    (λ d x at. (
      λ h. ((h.0, slice_get_within sources h.0 (x, source) h.2, get_or_from_slice_get sources h.0 (x, source) (x, source) h.2), h.3),
      λ h. (let (k, l, q) = h.0 in (k, omega arith, slice_get-get_or sources k (x, source) l ∙ ap Some q, h.1)),
    ))

-- the rows of the first n events
abbrev pub AreRowsBelow : List Event → (Event → Event → Type 0) → ℕ → List ℕ → Type 0
AreRowsBelow events R n rows = (d e : ℕ) → RowHas rows d e ↔ ((d < n) × ((x : Event) × (slice_get events d ≡ Some x) × Holds events (R x) e))

-- the next row is written
pub rows_more : (events : List Event) (R : Event → Event → Type 0) (n row : ℕ) (rows : List ℕ) → n < length events → n < length rows → AreRowsBelow events R n rows →
    IsRowOf events (R (get_or events n (Initial 0))) row → AreRowsBelow events R (n + 1) (set rows n row)
rows_more events R n row rows within there below is d e =
    let at : slice_get events n ≡ Some (get_or events n (Initial 0)) = slice_get-get_or events n (Initial 0) within in
    elim (cases_eq d n) [
      | inl same ↦ (
        λ h. (omega arith, (get_or events n (Initial 0), ap (slice_get events) same ∙ at, (is e).0 (rw (same, get_or-set_same rows n row 0 there) at h))),
        λ h. rw (same, get_or-set_same rows n row 0 there) ((is e).1
            (subst (λ x. Holds events (R x) e) (same_Some h.1.0 _ (sym h.1.1 ∙ ap (slice_get events) same ∙ at)) h.1.2)),
      )
      | inr other ↦ (
        λ h. (let q = (below d e).0 (rw (get_or-set_other rows n d row 0 other) at h) in (let l = q.0 in omega arith, q.1)),
        λ h. rw (get_or-set_other rows n d row 0 other) ((below d e).1 (let l = h.0 in omega arith, h.1)),
      )
    ]

-- all rows
pub rows_all : (events : List Event) (R : Event → Event → Type 0) (n : ℕ) (rows : List ℕ) → length events ≤ n → AreRowsBelow events R n rows → AreRowsOf events R rows
rows_all events R n rows all below d e = (
  λ h. (let (x, at, (y, to, r)) = ((below d e).0 h).1 in (x, y, at, to, r)),
  λ (x, y, at, to, r). (below d e).1 ((let l = slice_get_within events d x at in omega arith), (x, at, (y, to, r))),
)

-- rows of a relation that joins its steps join theirs
pub rows_join : (events : List Event) (R : Event → Event → Type 0) (rows : List ℕ) → AreRowsOf events R rows → ((d e f : Event) → R d e → R e f → R d f) → IsTransitive rows
rows_join events R rows are joins d e f h k =
    let (x, y, at_x, at_y, r) = (are d e).0 h in
    let (w, z, at_w, at_z, q) = (are e f).0 k in
    (are d f).1 (x, z, at_x, at_z, joins x y z r (subst (λ v. R v z) (same_Some w y (sym at_w ∙ at_y)) q))
