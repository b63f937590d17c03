-- What is printed of a survey: the blocks that were written, and what comes after them.
use Rattle.fencer.proofs.Vocabulary.{◌≡◌, ◌∙◌, ℕ, ◌+◌, List, [], ◌++◌, Option, Result, Ok, Err, IfOk, length, map, take, ap, arith, sym, subst, append-nil, string_bytes, Prints}
use Rattle.std.proofs.Common.{drop, refl, length-append, take-add, take_all, take_at, drop_at}
use Rattle.std.proofs.lemmas.List.{take-map}
use Rattle.std.specs.Prelude.{OnErr}
use Rattle.std.specs.Global.{Vec}
use Rattle.std.specs.Io.KnownBytes.{Appends}
use Rattle.program_streams.specs.Streams.{AppendsFront, IsMade, whole, front, nothing}
use Rattle.program_streams.proofs.StreamLaws.{writes_more}
use Rattle.fencer_words.specs.declared.job.SurveyQuery.{SurveyQuery}
use Rattle.fencer.specs.Surveys.{AreBlocks, AreWritten, IsSurvey, of_all, of_first, table_text, worst}

take_past : (xs ys : List ℕ) (n : ℕ) → take (length xs + n) (xs ++ ys) ≡ xs ++ take n ys
take_past xs ys n =
    take-add (length xs) n (xs ++ ys) ∙ ap (λ (zs : List ℕ). zs ++ take n (drop (length xs) (xs ++ ys))) (take_at xs ys (length xs) refl) ∙ ap (λ (zs : List ℕ). xs ++ take n zs) (drop_at xs ys (length xs) refl)

-- a front of what comes next, after what was written, is a front of both
front_after : (a b c : Option (List ℕ)) (xs ys : List ℕ) → Appends a b xs → AppendsFront b c ys → AppendsFront a c (xs ++ ys)
front_after a b c xs ys before (n, few, part) =
    (length xs + n, omega (arith, few, length-append xs ys), subst (Appends a c) (sym (take_past xs ys n)) (writes_more a b c xs (take n ys) before part))

-- what holds in any case holds where there is an error
pub in_any_case : {X Y : Type 0} (r : Result X Y) (P : Type 0) → P → OnErr r P
in_any_case (Ok x) P holds = tt
in_any_case (Err e) P holds = holds

-- what is printed of a text that could be made is that text, with its status
made_is : {E : Type 0} (made : Result (Vec ℕ) E) (wanted worst status : ℕ) (text line : List ℕ) → IfOk made (λ v. v.items ≡ line) → wanted ≡ worst → IsMade made wanted status text → (status ≡ worst) × (text ≡ line)
made_is (Ok v) wanted worst status text line is ends said = (said.0 ∙ ends, sym said.1 ∙ is)
made_is (Err e) wanted worst status text line is ends said = absurd said.1

module _ (asked : SurveyQuery) (input : Option (List ℕ)) (files : List ℕ → Option (List ℕ)) where
  abbrev names : List (List ℕ)
  names = map string_bytes asked.files.items

  -- the survey ends after the first so many files
  ends_after : (count : ℕ) (left : Option (List ℕ)) (status : ℕ) (rows : List ℕ) (old new : Option (List ℕ)) → AreWritten asked.options files input (take count names) left status rows old new → Prints (IsSurvey asked input files) old new 1
  ends_after count left status rows old new are = whole 1 are.blocks (of_first count left are.statuses are.blocks rows are.are) are.written

  -- as it does where there is an error after them
  pub cut_after : {X Y : Type 0} (made : Result X Y) (count : ℕ) (left : Option (List ℕ)) (status : ℕ) (rows : List ℕ) (old new : Option (List ℕ))
      → AreWritten asked.options files input (map string_bytes (take count asked.files.items)) left status rows old new → OnErr made (Prints (IsSurvey asked input files) old new 1)
  cut_after made count left status rows old new are =
      in_any_case made _ (ends_after count left status rows old new
      (subst (λ (ns : List (List ℕ)). AreWritten asked.options files input ns left status rows old new) (sym (take-map string_bytes count asked.files.items)) are))

  -- or within the block of the last of them
  pub ends_within : (count : ℕ) (left : Option (List ℕ)) (statuses before block rows : List ℕ) (old mid new : Option (List ℕ)) → AreBlocks asked.options files input (take count names) left statuses (before ++ block) rows
      → Appends old mid before → AppendsFront mid new block → Prints (IsSurvey asked input files) old new 1
  ends_within count left statuses before block rows old mid new are written part =
      front 1 (before ++ block) (of_first count left statuses (before ++ block) rows are) (front_after old mid new before block written part)

  as_survey : (left : Option (List ℕ)) (status : ℕ) (statuses blocks rows text : List ℕ) → AreBlocks asked.options files input names left statuses blocks rows → (status ≡ worst statuses) × (text ≡ table_text asked.options.json (length asked.files.items) rows)
      → IsSurvey asked input files status (blocks ++ text)
  as_survey left status statuses blocks rows text are is =
      subst (λ (s : ℕ). IsSurvey asked input files s (blocks ++ text)) (sym is.0)
      (subst (λ (t : List ℕ). IsSurvey asked input files (worst statuses) (blocks ++ t)) (sym is.1) (of_all left statuses blocks rows are))

  -- or with the table of them all
  pub ends_with_table : {E : Type 0} (made : Result (Vec ℕ) E) (left : Option (List ℕ)) (wanted : ℕ) (rows : List ℕ) (old mid new : Option (List ℕ)) (result : ℕ) → AreWritten asked.options files input names left wanted rows old mid
      → IfOk made (λ v. v.items ≡ table_text asked.options.json (length asked.files.items) rows) → Prints (IsMade made wanted) mid new result → Prints (IsSurvey asked input files) old new result
  ends_with_table made left wanted rows old mid new _ are is (whole status text said all) =
      whole status (are.blocks ++ text) (as_survey left status are.statuses are.blocks rows text are.are (made_is made wanted (worst are.statuses) status text _ is are.ends said)) (writes_more old mid new are.blocks text are.written all)
  ends_with_table made left wanted rows old mid new _ are is (front status text said part) =
      front status (are.blocks ++ text) (as_survey left status are.statuses are.blocks rows text are.are (made_is made wanted (worst are.statuses) status text _ is are.ends said)) (front_after old mid new are.blocks text are.written part)
  ends_with_table made left wanted rows old mid new _ are is (nothing none) =
      let all : AreBlocks asked.options files input (take (length names) names) left are.statuses are.blocks rows =
      subst (λ (ns : List (List ℕ)). AreBlocks asked.options files input ns left are.statuses are.blocks rows) (sym (take_all (length names) names (omega arith))) are.are in
      whole 1 are.blocks (of_first (length names) left are.statuses are.blocks rows all) (subst (Appends old new) (append-nil are.blocks) (writes_more old mid new are.blocks [] are.written none))
