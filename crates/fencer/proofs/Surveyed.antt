-- What is printed of a file, as its block has it, and of one file more.
use Rattle.fencer.proofs.Vocabulary.{◌≡◌, ◌==◌, ◌∙◌, ℕ, ◌+◌, ◌<◌, Bool, true, false, List, [], ◌∷◌, ◌++◌, Option, Result, Ok, Err, IfOk, ap, ap₂, length, map, take, get_or, refl, subst, sym}
use Rattle.std.specs.Prelude.{◌||◌}
use Rattle.std.specs.List.{list_any}
use Rattle.std.proofs.lemmas.List.Folds.{list_any-append}
use Rattle.std.proofs.lemmas.List.{map_more, take-map}
use Rattle.std.specs.Global.{Vec}
use Rattle.json_text.specs.Values.{IsJsonLine}
use Rattle.documents.specs.Documents.{Remark, refusal_text}
use Rattle.program_streams.specs.declared.files.TheConstants.{TEXT_LIMIT}
use Rattle.program_streams.specs.Files.{ReadsOfInput}
use Rattle.fencer_words.specs.declared.job.SurveyOptions.{SurveyOptions}
use Rattle.survey_text.specs.declared.finding.SurveyText.{SurveyText}
use Rattle.answers.specs.Documented.{printed}
use Rattle.answers.specs.Notes.{IsNoted}
use Rattle.fencer.specs.declared.surveys.Block.{Block}
use Rattle.fencer.specs.declared.surveys.Summary.{Summary}
use Rattle.fencer.specs.Surveys.{AreBlocks, IsBlock, IsFound, IsRefused, ReadsOfFiles, ReadsOfSomeFiles, RefusedBlock, block_text, refused_row, row_line, more, one_more, shown_name, status_by, survey_status, worst}

-- what holds of what is said holds of the block that says it: of what is found
pub as_found : (options : SurveyOptions) (name : List ℕ) (told : SurveyText) (block : Block) (Holds : ℕ → List ℕ → List ℕ → Type 0)
    → ((document : List ℕ) → IsNoted told.verdict told.document document
    → Holds (survey_status options.allow_unexecuted told) (printed options.json (block_text name told.lines.items) document) (row_line name told.row.items))
    → IsFound options name told block → Holds block.status block.lines.items block.row.items
as_found options name told block Holds may is =
    subst (λ (s : ℕ). Holds s block.lines.items block.row.items) (sym is.ends)
    (subst (λ (t : List ℕ). Holds (survey_status options.allow_unexecuted told) t block.row.items) (sym is.said)
    (subst (λ (r : List ℕ). Holds (survey_status options.allow_unexecuted told) (printed options.json (block_text name told.lines.items) is.document) r) (sym is.summed) (may is.document is.noted)))

-- and of why nothing is
pub as_refused : (json : Bool) (name line : List ℕ) (block : Block) (Holds : ℕ → List ℕ → List ℕ → Type 0)
    → ((text : List ℕ) → RefusedBlock json name line text → Holds 1 text (row_line name refused_row)) → IsRefused json name line block
    → Holds block.status block.lines.items block.row.items
as_refused json name line block Holds may is =
    subst (λ (s : ℕ). Holds s block.lines.items block.row.items) (sym is.ends)
    (subst (λ (r : List ℕ). Holds 1 block.lines.items r) (sym is.summed) (may block.lines.items is.printed))

-- a document that could be made of a line, with a remark that names the file, is what is printed
pub names_file : {E : Type 0} (made : Result (Vec ℕ) E) (name line : List ℕ) (remark : Remark) → remark.file ≡ shown_name name
    → IfOk made (λ v. v.items ≡ refusal_text line remark) → IfOk made (λ v. IsJsonLine v.items) → IfOk made (λ v. RefusedBlock true name line v.items)
names_file (Ok v) name line remark names printed json = (record { remark = remark; printed = printed; json = json }, names)
names_file (Err e) name line remark names printed json = tt

-- the status of blocks and of one more
status_more : (a b c d : Bool) → status_by (a || c) (b || d) ≡ status_by ((status_by a b == 1) || c) ((status_by a b == 3) || d)
status_more true b c d = refl
status_more false true c d = refl
status_more false false c d = refl

pub worst_more : (statuses : List ℕ) (status old new : ℕ) → old ≡ worst statuses → new ≡ worst (old ∷ status ∷ []) → new ≡ worst (statuses ++ status ∷ [])
worst_more statuses status old new before after =
    let is_refused : ℕ → Bool = λ s. s == 1 in
    let fails : ℕ → Bool = λ s. s == 3 in
    after ∙ ap (λ (s : ℕ). worst (s ∷ status ∷ [])) before
    ∙ sym (ap₂ status_by (list_any-append is_refused statuses (status ∷ [])) (list_any-append fails statuses (status ∷ []))
    ∙ status_more (list_any is_refused statuses) (list_any fails statuses) (list_any is_refused (status ∷ [])) (list_any fails (status ∷ [])))

-- the block of one file more
module _ {N : Type 0} (name_of : N → List ℕ) (names : List N) (i : ℕ) (d : N) (there : i < length names) where
  next_name : map name_of (take (i + 1) names) ≡ map name_of (take i names) ++ name_of (get_or names i d) ∷ []
  next_name = map_more name_of names i d there

  pub one_more_block : (options : SurveyOptions) (files : List ℕ → Option (List ℕ)) (input mid left : Option (List ℕ)) (statuses text : List ℕ) (before after : Summary) (block : Block)
      → AreBlocks options files input (map name_of (take i names)) mid statuses text before.rows.items
      → IsBlock options files (name_of (get_or names i d)) mid block.status block.lines.items block.row.items
      → ReadsOfInput TEXT_LIMIT (name_of (get_or names i d)) mid left
      → after.rows.items ≡ before.rows.items ++ block.row.items
      → AreBlocks options files input (map name_of (take (i + 1) names)) left (statuses ++ block.status ∷ []) (text ++ block.lines.items) after.rows.items
  one_more_block options files input mid left statuses text before after block are is reads rows =
      subst (λ (ns : List (List ℕ)). AreBlocks options files input ns left (statuses ++ block.status ∷ []) (text ++ block.lines.items) after.rows.items) (sym next_name)
      (subst (λ (r : List ℕ). AreBlocks options files input (map name_of (take i names) ++ name_of (get_or names i d) ∷ []) left (statuses ++ block.status ∷ []) (text ++ block.lines.items) r) (sym rows)
      (more (map name_of (take i names)) (name_of (get_or names i d)) mid left statuses block.status text block.lines.items before.rows.items block.row.items are is reads))

  -- and what is read for it
  pub one_more_read : (old mid new : Option (List ℕ)) → ReadsOfFiles (map name_of (take i names)) old mid → ReadsOfInput TEXT_LIMIT (name_of (get_or names i d)) mid new → ReadsOfFiles (map name_of (take (i + 1) names)) old new
  one_more_read old mid new before reads =
      subst (λ (ns : List (List ℕ)). ReadsOfFiles ns old new) (sym next_name) (one_more (map name_of (take i names)) (name_of (get_or names i d)) old mid new before reads)

  -- where memory runs out after it, for so many files
  pub some_read : (old mid new : Option (List ℕ)) → ReadsOfFiles (map name_of (take i names)) old mid → ReadsOfInput TEXT_LIMIT (name_of (get_or names i d)) mid new → ReadsOfSomeFiles (map name_of names) old new
  some_read old mid new before reads =
      (i + 1, subst (λ (ns : List (List ℕ)). ReadsOfFiles ns old new) (sym (take-map name_of (i + 1) names)) (one_more_read old mid new before reads))
