use Rattle.fencer.proofs.Vocabulary.{◌≡◌, ◌∙◌, ◌+◌, ◌<◌, ℕ, List, [], ◌∷◌, ◌++◌, Option, ap, arith, get_or, length, map, refl, subst, sym, take, string_bytes, TEXT_LIMIT}
use Rattle.std.proofs.lemmas.List.{take-map}
use Rattle.std.specs.Io.KnownBytes.{Appends}
use Rattle.std.specs.declared.string.String.{String}
use Rattle.program_streams.specs.Files.{ReadsOfInput}
use Rattle.program_streams.proofs.StreamLaws.{none_written, writes_more}
use Rattle.fencer.specs.Surveys.{AreBlocks, IsBlock, ReadsOfFiles, ReadsOfSomeFiles, none, nothing}
use Rattle.fencer.proofs.Surveyed.{one_more_block, one_more_read, some_read, worst_more}
use Rattle.fencer.proofs.WrittenSurveys.{cut_after, ends_within, in_any_case}
use Rattle.fencer.proofs.surveys.print_blocks.Goals as goal

-- what is read up to a file where memory or the writer ends the survey
read_to_name : {Z : Type 0} (names : List (String Z)) (i : ℕ) (d : String Z) (name : List ℕ) (old mid new : Option (List ℕ)) → name ≡ string_bytes (get_or names i d) → i < length names
    → ReadsOfFiles (map string_bytes (take i names)) old mid → ReadsOfInput TEXT_LIMIT name mid new → ReadsOfSomeFiles (map string_bytes names) old new
read_to_name names i d name old mid new is there before reads = some_read string_bytes names i d there old mid new before (subst (λ (n : List ℕ). ReadsOfInput TEXT_LIMIT n mid new) is reads)

pub loop-name-init : goal.loop-name-init
loop-name-init g c = record {
  told = record { statuses = []; blocks = []; are = rw c.new.ensures.items none; ends = refl; written = none_written (g.W.Write.contents c.args.output.now) };
  read = nothing (g.R.Read.remaining c.args.input.now);
}

pub loop-name-preserved : goal.loop-name-preserved
loop-name-preserved g c =
    let names = c.args.asked.now.files.items in
    let i = c.loop-name.name-index in
    let d = c.name-item.result in
    let options = c.args.asked.now.options in
    let files = g.S.FileStore.held c.args.files.now in
    let old = g.R.Read.remaining c.args.input.now in
    let mid = g.R.Read.remaining c.loop-name.input in
    let new = g.R.Read.remaining c.block_of.new.input in
    let name : c.as_str.result.now ≡ string_bytes (get_or names i d) = c.as_str.ensures.value ∙ ap string_bytes (rw c.as_slice-name-items.ensures.value at c.name-item.is) in
    let there : i < length names = omega (arith, c.loop-name-test.true, ap length c.as_slice-name-items.ensures.value) in
    let reads = subst (λ (n : List ℕ). ReadsOfInput TEXT_LIMIT n mid new) name c.block_of.ensures.read in
    let block = c.in_ok-block.block in
    let told = subst (λ (n : List ℕ). IsBlock options files n mid block.status block.lines.items block.row.items) name c.in_ok-block.ensures.told in
    let are = one_more_block string_bytes names i d there options files old mid new c.loop-name.invariant.told.statuses c.loop-name.invariant.told.blocks c.loop-name.summary c.add.new.self block c.loop-name.invariant.told.are told reads c.in_ok-add.ensures.rows in
    let first = g.W.Write.contents c.args.output.now in
    let before = g.W.Write.contents c.loop-name.output in
    let written = writes_more first before (g.W.Write.contents c.write_bytes.new.output) c.loop-name.invariant.told.blocks block.lines.items c.loop-name.invariant.told.written (rw c.deref.ensures.value at c.in_ok-write_bytes.ensures.ok) in
    let ends = worst_more c.loop-name.invariant.told.statuses block.status c.loop-name.summary.status c.add.new.self.status c.loop-name.invariant.told.ends c.in_ok-add.ensures.status in
    record {
      told = record { statuses = c.loop-name.invariant.told.statuses ++ block.status ∷ []; blocks = c.loop-name.invariant.told.blocks ++ block.lines.items; are = are; ends = ends; written = subst (λ (o : Option (List ℕ)). Appends first o (c.loop-name.invariant.told.blocks ++ block.lines.items)) (sym c.tell.ensures) written };
      read = one_more_read string_bytes names i d there old mid new c.loop-name.invariant.read reads;
    }

pub returns-in_err-block-clause-read : goal.returns-in_err-block-clause-read
returns-in_err-block-clause-read g c =
    read_to_name c.args.asked.now.files.items c.loop-name.name-index c.name-item.result c.as_str.result.now (g.R.Read.remaining c.args.input.now) (g.R.Read.remaining c.loop-name.input) (g.R.Read.remaining c.block_of.new.input)
    (c.as_str.ensures.value ∙ ap string_bytes (rw c.as_slice-name-items.ensures.value at c.name-item.is)) (omega (arith, c.loop-name-test.true, ap length c.as_slice-name-items.ensures.value)) c.loop-name.invariant.read c.block_of.ensures.read

pub returns-in_err-add-clause-read : goal.returns-in_err-add-clause-read
returns-in_err-add-clause-read g c =
    read_to_name c.args.asked.now.files.items c.loop-name.name-index c.name-item.result c.as_str.result.now (g.R.Read.remaining c.args.input.now) (g.R.Read.remaining c.loop-name.input) (g.R.Read.remaining c.block_of.new.input)
    (c.as_str.ensures.value ∙ ap string_bytes (rw c.as_slice-name-items.ensures.value at c.name-item.is)) (omega (arith, c.loop-name-test.true, ap length c.as_slice-name-items.ensures.value)) c.loop-name.invariant.read c.block_of.ensures.read

pub returns-in_err-write_bytes-clause-read : goal.returns-in_err-write_bytes-clause-read
returns-in_err-write_bytes-clause-read g c =
    read_to_name c.args.asked.now.files.items c.loop-name.name-index c.name-item.result c.as_str.result.now (g.R.Read.remaining c.args.input.now) (g.R.Read.remaining c.loop-name.input) (g.R.Read.remaining c.block_of.new.input)
    (c.as_str.ensures.value ∙ ap string_bytes (rw c.as_slice-name-items.ensures.value at c.name-item.is)) (omega (arith, c.loop-name-test.true, ap length c.as_slice-name-items.ensures.value)) c.loop-name.invariant.read c.block_of.ensures.read

pub returns-in_err-block-clause-cut : goal.returns-in_err-block-clause-cut
returns-in_err-block-clause-cut g c =
    let told = c.loop-name.invariant.told in
    cut_after c.args.asked.now (g.R.Read.remaining c.args.input.now) (g.S.FileStore.held c.args.files.now) c.from_residual.result c.loop-name.name-index (g.R.Read.remaining c.loop-name.input)
    c.loop-name.summary.status c.loop-name.summary.rows.items (g.W.Write.contents c.args.output.now) (g.W.Write.contents c.loop-name.output) told

pub returns-in_err-add-clause-cut : goal.returns-in_err-add-clause-cut
returns-in_err-add-clause-cut g c =
    let told = c.loop-name.invariant.told in
    cut_after c.args.asked.now (g.R.Read.remaining c.args.input.now) (g.S.FileStore.held c.args.files.now) c.from_residual-in_err-add.result c.loop-name.name-index (g.R.Read.remaining c.loop-name.input)
    c.loop-name.summary.status c.loop-name.summary.rows.items (g.W.Write.contents c.args.output.now) (g.W.Write.contents c.loop-name.output) told

pub returns-in_err-write_bytes-clause-cut : goal.returns-in_err-write_bytes-clause-cut
returns-in_err-write_bytes-clause-cut g c =
    let names = c.args.asked.now.files.items in
    let i = c.loop-name.name-index in
    let d = c.name-item.result in
    let options = c.args.asked.now.options in
    let files = g.S.FileStore.held c.args.files.now in
    let old = g.R.Read.remaining c.args.input.now in
    let mid = g.R.Read.remaining c.loop-name.input in
    let new = g.R.Read.remaining c.block_of.new.input in
    let name : c.as_str.result.now ≡ string_bytes (get_or names i d) = c.as_str.ensures.value ∙ ap string_bytes (rw c.as_slice-name-items.ensures.value at c.name-item.is) in
    let there : i < length names = omega (arith, c.loop-name-test.true, ap length c.as_slice-name-items.ensures.value) in
    let reads = subst (λ (n : List ℕ). ReadsOfInput TEXT_LIMIT n mid new) name c.block_of.ensures.read in
    let block = c.in_ok-block.block in
    let told = subst (λ (n : List ℕ). IsBlock options files n mid block.status block.lines.items block.row.items) name c.in_ok-block.ensures.told in
    let are = one_more_block string_bytes names i d there options files old mid new c.loop-name.invariant.told.statuses c.loop-name.invariant.told.blocks c.loop-name.summary c.add.new.self block c.loop-name.invariant.told.are told reads c.in_ok-add.ensures.rows in
    let first = g.W.Write.contents c.args.output.now in
    let before = g.W.Write.contents c.loop-name.output in
    let after = g.W.Write.contents c.write_bytes.new.output in
    let blocks = c.loop-name.invariant.told.blocks in
    let statuses = c.loop-name.invariant.told.statuses ++ block.status ∷ [] in
    let summary = c.add.new.self in
    in_any_case c.from_residual-in_err-write_bytes.result _
    (ends_within c.args.asked.now old files (i + 1) new statuses blocks block.lines.items summary.rows.items first before after
    (subst (λ (ns : List (List ℕ)). AreBlocks options files old ns new statuses (blocks ++ block.lines.items) summary.rows.items) (sym (take-map string_bytes (i + 1) names)) are)
    c.loop-name.invariant.told.written (rw c.deref.ensures.value at c.in_err-write_bytes.ensures.err))
