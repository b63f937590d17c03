use Rattle.fencer.proofs.Vocabulary.{IfOk-weaker, option_map, text_fault_line}
use Rattle.fencer.specs.Surveys.{IsBlockOfText, found, refused_for}
use Rattle.fencer.proofs.Surveyed.{as_found, as_refused}
use Rattle.fencer.proofs.surveys.block_of_text.Goals as goal

pub returns-in-Ok : goal.returns-in-Ok
returns-in-Ok g c =
    let told = c.in-Ok.told in
    let name = c.args.name.now in
    let options = c.args.manner.options in
    let costs = option_map (λ file. file.items) c.in_ok-costs.costs in
    let tied = rw c.deref.ensures.value at c.in_ok-costs.ensures in
    IfOk-weaker c.found_block.result _ _
    (λ block is. as_found options name told block (IsBlockOfText options name c.args.bytes.items) (λ document noted. found told costs document tied (rw (c.deref-3.ensures.value, c.as_deref.ensures.value) at c.in-Ok.ensures.told) noted) is)
    c.found_block.ensures

pub returns-in-Err : goal.returns-in-Err
returns-in-Err g c =
    let why = c.in-Err.fault in
    let name = c.args.name.now in
    let options = c.args.manner.options in
    let costs = option_map (λ file. file.items) c.in_ok-costs.costs in
    let tied = rw c.deref.ensures.value at c.in_ok-costs.ensures in
    IfOk-weaker c.unfound_block.result _ _
    (λ block is. as_refused options.json name (text_fault_line why) block (IsBlockOfText options name c.args.bytes.items) (λ text says. refused_for why costs text tied (rw (c.deref-3.ensures.value, c.as_deref.ensures.value) at c.in-Err.ensures.fault) says) is)
    c.unfound_block.ensures
