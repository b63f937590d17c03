use Rattle.rowless_sketches.proofs.Vocabulary.{◌∙◌, ◌<◌, length, ap, sym, arith}
use Rattle.rowless_sketches.proofs.Known.{stops, stops_past}
use Rattle.rowless_sketches.proofs.parts.Parts.stops_with.Goals as goal

pub returns-then-thread-threads : goal.returns-then-thread-threads
returns-then-thread-threads c =
    let threads = ap length c.threads-threads.ensures.value ∙ ap (λ s. length s.program.threads) c.self.view_is in
    stops_past c.args.self.now c.args.thread c.args.register c.args.value (omega arith)

pub returns : goal.returns
returns c =
    let threads = ap length c.threads-threads.ensures.value ∙ ap (λ s. length s.program.threads) c.self.view_is in
    let there : c.args.thread < length c.args.self.now.program.threads = omega arith in
    c.has_value.ensures ∙ sym (stops c.args.self.now c.args.thread c.args.register c.args.value c.last_registers-held.result there c.last_registers-held.ensures)
