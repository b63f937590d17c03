-- What the program prints, with words and without.
use Rattle.fencer.proofs.Vocabulary.{◌≡◌, ◌==◌, ℕ, ◌+◌, zero, suc, Bool, true, false, List, [], ◌∷◌, ◌⊎◌, Option, Contains, length, map, arith, inl, inr, refl, subst, sym, codes, TEXT_LIMIT, IsUtf8Refusal, asks_version, IsNoCommand, IsReadFault}
use Rattle.fencer.proofs.Vocabulary.{TakesOfLine, HasTooLongLine, IsReply, IsReplyToInput, IsOutput, KeepFilesOf, KeepOtherFiles, LineAsksToWrite, ReadsForWords, ReadsForInput, ReadsFor, no_command}
use Rattle.std.specs.Str.{IsUtf8, bytes_eq}
use Rattle.std.proofs.lemmas.Str.{IsUtf8-from_ascii}
use Rattle.litmus_text.proofs.AsciiTexts.{ascii_from}
use Rattle.std.proofs.lemmas.Slice.Eq.{bytes_eq-Decides}
use Rattle.std.proofs.lemmas.Bool.Decides.{nat_tests}
use Rattle.clap.specs.Words.{Text}
use Rattle.placed_text.proofs.ReasonTexts.{not_zero}
use Rattle.program_streams.specs.declared.fault.FileFault.{FileFault}
use Rattle.program_streams.specs.declared.fault.FileFault.TheVariants as file

zero_is : (0 == 0) ≡ false → ⊥
zero_is e = grind (arith, nat_tests)

module _ {W : Type 0} (text : W → Text) (input : Option (List ℕ)) (files left : List ℕ → Option (List ℕ)) (status : ℕ) (out : List ℕ) where
  -- words that are given count
  pub of_words : (words : List W) → (length words == 0) ≡ false → IsReply (map text words) input files left status out → IsOutput (map text words) input files left status out
  of_words [] some reply = absurd (zero_is some)
  of_words (word ∷ words) some reply = reply

  -- and with no words the input
  pub of_input : (words : List W) → (length words == 0) ≡ true → IsReplyToInput input files left status out → IsOutput (map text words) input files left status out
  of_input [] none reply = reply
  of_input (word ∷ words) none reply = absurd (not_zero (length words) none)

module _ {W : Type 0} (text : W → Text) (input : Option (List ℕ)) (files left : List ℕ → Option (List ℕ)) where
  -- what words keep
  pub kept_by_words : (words : List W) → (length words == 0) ≡ false → KeepFilesOf (map text words) files left → KeepOtherFiles (map text words) input files left
  kept_by_words [] some kept = absurd (zero_is some)
  kept_by_words (word ∷ words) some kept = kept

  -- and what an input does
  pub kept_by_input : (words : List W) → (length words == 0) ≡ true → ((name : List ℕ) → (LineAsksToWrite input name → ⊥) → left name ≡ files name) → KeepOtherFiles (map text words) input files left
  kept_by_input [] none kept = kept
  kept_by_input (word ∷ words) none kept = absurd (not_zero (length words) none)

-- what is read for words and for an input is what is read for the words after the program's name
module _ {W : Type 0} (text : W → Text) (old new : Option (List ℕ)) where
  pub read_for_words : (words : List W) → (length words == 0) ≡ false → ReadsForWords (map text words) old new → ReadsFor (map text words) old new
  read_for_words [] some reads = absurd (zero_is some)
  read_for_words (word ∷ words) some reads = reads

  pub read_for_input : (words : List W) → (length words == 0) ≡ true → ReadsForInput old new → ReadsFor (map text words) old new
  read_for_input [] none reads = reads
  read_for_input (word ∷ words) none reads = absurd (not_zero (length words) none)

-- one of two, where the first is not
pub other : {P Q : Type 0} → P ⊎ Q → (P → ⊥) → Q
other (inl p) not_first = absurd (not_first p)
other (inr q) not_first = q

-- why a line isn't read, without what is left of the reader
pub line_fault : (old new : Option (List ℕ)) (why : FileFault) → IsReadFault (TakesOfLine old new (TEXT_LIMIT + 1)) why → IsReadFault (HasTooLongLine old) why
line_fault old new file.Read is = tt
line_fault old new file.Write is = absurd is
line_fault old new file.TooLong is = (new, is)

-- words that are not UTF-8 are reported as no command
pub utf8_reply : (words : List Text) (input : Option (List ℕ)) (files left : List ℕ → Option (List ℕ)) (status : ℕ) (out : List ℕ) → asks_version words ≡ false → IsNoCommand words → IsUtf8Refusal status out → IsReply words input files left status out
utf8_reply words input files left status out no_version refused is = subst (λ (s : ℕ). IsReply words input files left s out) (sym is.0) (no_command out no_version refused (codes "error: the command line is not UTF-8", is.1))

-- a word that is not UTF-8 asks for no version
version_is_utf8 : IsUtf8 (codes "--version")
version_is_utf8 = IsUtf8-from_ascii (codes "--version") (ascii_from (codes "--version") refl)

of_word : (word : Text) → (IsUtf8 word → ⊥) → (b : Bool) → bytes_eq word (codes "--version") ≡ b → b ≡ false
of_word word not_utf8 false is = refl
of_word word not_utf8 true is = absurd (not_utf8 (subst IsUtf8 (sym ((bytes_eq-Decides word (codes "--version")).0 is)) version_is_utf8))

pub no_version : (words : List Text) (word : Text) → Contains words word → (IsUtf8 word → ⊥) → asks_version words ≡ false
no_version [] word there not_utf8 = refl
no_version (first ∷ []) word (zero, lt, is) not_utf8 = of_word first (λ utf8. not_utf8 (subst IsUtf8 is utf8)) (bytes_eq first (codes "--version")) refl
no_version (first ∷ []) word (suc i, lt, is) not_utf8 = absurd (omega arith)
no_version (first ∷ (second ∷ words)) word there not_utf8 = refl
