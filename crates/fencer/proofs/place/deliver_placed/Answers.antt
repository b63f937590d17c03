use Rattle.fencer.proofs.Vocabulary.{sym, prints_more, all, unkept_for, unkept_line}
use Rattle.fencer_words.specs.CommandFiles.{name_of}
use Rattle.answers.proofs.Delivered.{still_held_past, three_keep, third_keeps}
use Rattle.answers.proofs.PrintedRefusals.{prints_refusal}
use Rattle.fencer.proofs.place.deliver_placed.Goals as goal

pub returns-in-Ok-clause-told : goal.returns-in-Ok-clause-told
returns-in-Ok-clause-told g c =
    let asked = c.args.asked.now in
    let held = rw c.as_deref.ensures.value at c.in-Ok.ensures.kept in
    let others = rw (c.as_deref-program.ensures.value, c.as_deref-certificate.ensures.value) at c.deliver-status.ensures.others in
    prints_more _ _ _ _ c.deliver-status.result (λ status text is. all status text
    (λ apart apart_too. record {
      text = held.text;
      made = held.made;
      held = still_held_past (name_of asked.insert) (name_of asked.output) (name_of asked.certificate) (g.S.FileStore.held c.keep_inserted.new.files) (g.S.FileStore.held c.deliver-status.new.files) held.text held.held others apart apart_too;
    }) is) (rw (c.as_deref-program.ensures.value, c.as_deref-certificate.ensures.value, sym c.tell_fences.ensures) at c.deliver-status.ensures.told)

pub returns-in-Ok-clause-others : goal.returns-in-Ok-clause-others
returns-in-Ok-clause-others g c =
    let asked = c.args.asked.now in
    three_keep (name_of asked.output) (name_of asked.certificate) (name_of asked.insert) (g.S.FileStore.held c.args.files.now) (g.S.FileStore.held c.keep_inserted.new.files) (g.S.FileStore.held c.deliver-status.new.files)
    (rw c.as_deref.ensures.value at c.keep_inserted.ensures.others) (rw (c.as_deref-program.ensures.value, c.as_deref-certificate.ensures.value) at c.deliver-status.ensures.others)

pub returns-in-Err-clause-told : goal.returns-in-Err-clause-told
returns-in-Err-clause-told g c =
    prints_refusal c.args.asked.now.json c.unkept_line.result (unkept_line c.in-Err.fault) _ _ _ c.tell_refusal.result
    (λ text says. unkept_for c.in-Err.fault text (rw c.as_deref.ensures.value at c.in-Err.ensures.fault) says) c.unkept_line.ensures c.tell_refusal.ensures

pub returns-in-Err-clause-others : goal.returns-in-Err-clause-others
returns-in-Err-clause-others g c =
    let asked = c.args.asked.now in
    third_keeps (name_of asked.output) (name_of asked.certificate) (name_of asked.insert) (g.S.FileStore.held c.args.files.now) (g.S.FileStore.held c.keep_inserted.new.files) (rw c.as_deref.ensures.value at c.keep_inserted.ensures.others)
