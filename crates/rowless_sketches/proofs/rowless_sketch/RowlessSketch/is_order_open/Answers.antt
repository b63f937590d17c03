use Rattle.rowless_sketches.proofs.Vocabulary.{◌≡◌, ◌∙◌, Bool, true, false, not, IsTrue, refl, sym, subst, ProgramSketch, CanFollow}
use Rattle.rowless_sketches.proofs.rowless_sketch.RowlessSketch.is_order_open.Goals as goal

true_not : (b : Bool) → (IsTrue b → ⊥) → IsTrue (not b)
true_not true none = absurd (none refl)
true_not false none = refl

not_both : (b : Bool) → IsTrue b → b ≡ false → ⊥
not_both b t e = (let no : true ≡ false = sym t ∙ e in cc)

pub returns-then-not-is_pair : goal.returns-then-not-is_pair
returns-then-not-is_pair c = (
  λ t. (let no : false ≡ true = t in absurd cc),
  λ may. absurd (not_both c.is_pair.result (c.is_pair.ensures.1 (subst (λ (s : ProgramSketch). CanFollow s c.args.first c.args.second) (sym c.parts-parts.ensures) may).is_pair) c.if-not-is_pair.true),
)

not_free : (b : Bool) → IsTrue (not b) → IsTrue b → ⊥
not_free true t h = (let no : false ≡ true = t in cc)
not_free false t h = (let no : false ≡ true = h in cc)

pub returns : goal.returns
returns c = (
  λ t. subst (λ (s : ProgramSketch). CanFollow s c.args.first c.args.second) c.parts-parts.ensures (record {
    is_pair = c.is_pair.ensures.0 c.if-not-is_pair.false;
    free = λ ordered. not_free c.is_ordered.result t (c.is_ordered.ensures.1 ordered);
  }),
  λ may. true_not c.is_ordered.result (λ h. (subst (λ (s : ProgramSketch). CanFollow s c.args.first c.args.second) (sym c.parts-parts.ensures) may).free (c.is_ordered.ensures.0 h)),
)
