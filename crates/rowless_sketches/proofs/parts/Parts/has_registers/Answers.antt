use Rattle.rowless_sketches.proofs.Vocabulary.{◌≡◌, ◌∙◌, ap, length, sym, arith, shown_registers, show_registers, final_registers, yes, no, not_by}
use Rattle.rowless_sketches.proofs.Ends.{registers_shown, registers_at, registers_long}
use Rattle.rowless_sketches.proofs.parts.Parts.has_registers.Goals as goal

pub returns-then-registers-self : goal.returns-then-registers-self
returns-then-registers-self c =
    let threads = c.self.invariant.one_each ∙ ap (λ s. length s.program.threads) c.self.view_is in
    no (c.args.registers.now ≡ show_registers c.args.shown.now (final_registers c.args.self.now))
    (λ e. c.if-registers-self.true (registers_long c.args.self.now c.args.shown.now c.args.registers.now e ∙ sym threads))

pub returns-then-not-is_equal : goal.returns-then-not-is_equal
returns-then-not-is_equal c =
    let threads = c.self.invariant.one_each ∙ ap (λ s. length s.program.threads) c.self.view_is in
    no (c.args.registers.now ≡ show_registers c.args.shown.now (final_registers c.args.self.now))
    (λ e. not_by _ _ c.is_equal.ensures c.if-not-is_equal.true
    (registers_at c.args.self.now c.args.shown.now c.args.registers.now c.loop-t.t (omega arith) e
    ∙ ap (shown_registers c.args.shown.now c.loop-t.t) (sym c.last_registers.ensures) ∙ sym c.registers-ended.ensures))

pub returns : goal.returns
returns c =
    let threads = c.self.invariant.one_each ∙ ap (λ s. length s.program.threads) c.self.view_is in
    yes (c.args.registers.now ≡ show_registers c.args.shown.now (final_registers c.args.self.now))
    (registers_shown c.args.self.now c.args.shown.now c.args.registers.now (c.if-registers-self.false ∙ threads) (λ k h. c.loop-t.invariant k (omega arith)))
