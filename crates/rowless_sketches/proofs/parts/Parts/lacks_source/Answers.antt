use Rattle.rowless_sketches.proofs.Vocabulary.{◌≡◌, ◌∙◌, ℕ, Bool, true, false, not, IsTrue, List, slice_index, ap, sym, subst, ProgramSketch, LacksSource}
use Rattle.rowless_sketches.proofs.ValuesGiven.{lacks}
use Rattle.rowless_sketches.proofs.parts.Parts.lacks_source.Goals as goal

both : (b : Bool) → b ≡ true → b ≡ false → ⊥
both b e f = let no : true ≡ false = sym e ∙ f in cc

negated : (b : Bool) → IsTrue (not b) → b ≡ true → ⊥
negated true t e = (let no : false ≡ true = t in cc)
negated false t e = cc

pub returns : goal.returns
returns c t =
    let p = c.self.inside.program.now in
    let x = c.in-Some.access in
    let value = c.in-Some-read.value in
    let same = ap (λ (s : ProgramSketch). s.program.memory) c.self.view_is in
    subst (λ (s : ProgramSketch). LacksSource s c.args.read) c.self.view_is
    (lacks p c.self.inside.mode.now c.self.inside.thread_traces.now c.self.inside.sources.now c.self.inside.pairs.now c.self.invariant c.args.read x value
    (sym c.access_at.ensures ∙ c.in-Some.is) c.in-Some-read.is
    (λ e. both c.begins_with.result (c.begins_with.ensures (subst (λ (m : List ℕ). slice_index m x.location ≡ value) same e)) c.if-begins_with.false)
    (λ u i d y a b l w. negated c.writes_any.result t (c.writes_any.ensures u i d y a b l w)))
