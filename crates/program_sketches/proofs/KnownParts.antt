-- Known edges by their parts.
use Rattle.program_sketches.proofs.Vocabulary.{◌≡◌, ◌↔◌, ◌⊎◌, Bool, IsTrue, Some, IsSome, refl, sym, ap, ◌∙◌, subst, inl, inr, Access, Event, Kind, same_Some, some_value, ProgramSketch, access_in, mode_in, Precedes, OrderPart, SourcePart, IsInitialWrite, of_some}
use Rattle.program_sketches.proofs.Vocabulary.{Sketch, IsBefore, KnownFromReads, KnownRelates, IsPair, IsKeptBy}
use Rattle.candidate_executions.specs.declared.event.Kind.TheVariants as union

-- program order is that of the accesses' thread, where the union keeps it
pub order_part : (kind : Kind) (d : Event) (x : Access) (e : Event) (y : Access) → OrderPart kind d x e y ↔ (Precedes d e × IsKeptBy kind x y)
order_part union.Sequential d x e y = (λ h. (h, tt), λ h. h.0)
order_part kind d x e y = (λ h. h, λ h. h)

abbrev pub Parts4 : Sketch → Kind → Event → Access → Event → Access → Type 0
Parts4 k kind d x e y = OrderPart kind d x e y ⊎ (SourcePart k kind d e ⊎ (IsBefore k d e y ⊎ KnownFromReads k d e y))

pub to_relates : (k : Sketch) (kind : Kind) (d : Event) (x : Access) (e : Event) (y : Access) → Parts4 k kind d x e y → KnownRelates k kind d x e y
to_relates k union.Sequential d x e y h = h
to_relates k kind d x e y h = h

pub of_relates : (k : Sketch) (kind : Kind) (d : Event) (x : Access) (e : Event) (y : Access) → KnownRelates k kind d x e y → Parts4 k kind d x e y
of_relates k union.Sequential d x e y h = h
of_relates k kind d x e y h = h

-- the last part decides where the others do not hold
pub last_part : (k : Sketch) (kind : Kind) (d : Event) (x : Access) (e : Event) (y : Access) (b : Bool) → (OrderPart kind d x e y → ⊥) → (SourcePart k kind d e → ⊥) → (IsBefore k d e y → ⊥) →
    (IsTrue b ↔ KnownFromReads k d e y) → IsTrue b ↔ KnownRelates k kind d x e y
last_part k kind d x e y b p q r s = (
  λ t. to_relates k kind d x e y (inr (inr (inr (s.0 t)))),
  λ h. elim (of_relates k kind d x e y h) [
    | inl a ↦ absurd (p a)
    | inr (inl a) ↦ absurd (q a)
    | inr (inr (inl a)) ↦ absurd (r a)
    | inr (inr (inr a)) ↦ s.1 a
  ],
)

-- whether two events are a pair of writes, by what they read and write
pub pair_by : (s : ProgramSketch) (d e : Event) (x y : Access) (b : Bool) → (d ≡ e → ⊥) → (IsInitialWrite d → ⊥) → (IsInitialWrite e → ⊥) → access_in s d ≡ Some x → access_in s e ≡ Some y →
    (IsTrue b ↔ ((x.location ≡ y.location) × IsSome x.written × IsSome y.written)) → IsTrue b ↔ IsPair s.program (mode_in s) s.chosen d e
pair_by s d e x y b ne di ei ad ae w = (
  λ t. (let h = w.0 t in
      let (v, q) = some_value x.written h.1 in
      let (u, r) = some_value y.written h.2 in
      (ne, (y.location, v, u, (x, ad, h.0, q), (y, ae, refl, r), λ i. di (subst IsInitialWrite (sym i) tt), λ i. ei (subst IsInitialWrite (sym i) tt)))),
  λ h. (let (l, v, u, wd, we, dl, el) = h.1 in
      let sx : wd.0 ≡ x = same_Some wd.0 x (sym wd.1 ∙ ad) in
      let sy : we.0 ≡ y = same_Some we.0 y (sym we.1 ∙ ae) in
      w.1 (
        sym (ap (λ (z : Access). z.location) sx) ∙ wd.2 ∙ sym we.2 ∙ ap (λ (z : Access). z.location) sy,
        of_some x.written v (sym (ap (λ (z : Access). z.written) sx) ∙ wd.3),
        of_some y.written u (sym (ap (λ (z : Access). z.written) sy) ∙ we.3),
      )),
)
