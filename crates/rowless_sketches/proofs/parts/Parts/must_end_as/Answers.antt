use Rattle.rowless_sketches.proofs.Vocabulary.{◌↔◌, Bool, Result, Ok, Err, IfOk, IsTrue, sym, subst, OnErr, Shown, ShowsValues, mode_in, EndsAs}
use Rattle.rowless_sketches.proofs.Ends.{values_test}
use Rattle.rowless_sketches.proofs.parts.Parts.must_end_as.Goals as goal

pub returns-in-All-clause-ends : goal.returns-in-All-clause-ends
returns-in-All-clause-ends c =
    let of : ShowsValues c.args.shown.now = subst ShowsValues (sym c.in-All.is) tt in
    values_test c.args.self.now c.args.shown.now c.args.outcome.now c.ends_whole.result of c.ends_whole.ensures

pub returns-in-Only-clause-ends : goal.returns-in-Only-clause-ends
returns-in-Only-clause-ends c =
    let of : ShowsValues c.args.shown.now = subst ShowsValues (sym c.in-Only.is) tt in
    values_test c.args.self.now c.args.shown.now c.args.outcome.now c.ends_whole-in-Only.result of c.ends_whole-in-Only.ensures

pub returns-in-Truth-clause-ends : goal.returns-in-Truth-clause-ends
returns-in-Truth-clause-ends c =
    let s = c.args.self.now in
    subst (λ (shown : Shown). IfOk c.ends_told.result (λ (ends : Bool). IsTrue ends ↔ EndsAs s.program (mode_in s) s.chosen shown c.args.outcome.now)) (sym c.in-Truth.is) c.ends_told.ensures

-- a formula is no value
on_refusal : {E : Type 0} (P : Type 0) (r : Result Bool E) → P → OnErr r P
on_refusal P (Ok b) p = tt
on_refusal P (Err e) p = p

pub returns-in-Truth-clause-refused : goal.returns-in-Truth-clause-refused
returns-in-Truth-clause-refused c =
    on_refusal (ShowsValues c.args.shown.now → ⊥) c.ends_told.result (λ values. let none : ⊥ = subst ShowsValues c.in-Truth.is values in none)
