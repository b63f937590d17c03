-- The lines before the initial values are refused in one way.
use Rattle.litmus_lines.proofs.Vocabulary.{◌≡◌, ◌⊎◌, ℕ, true, false, List, ◌∷◌, inl, inr, refl, sym, ap, ◌∙◌, subst, arith, white_space_back, comment_back, other_back, IsSkippedLine}
use Rattle.text_tokens.specs.Space.{IsAfterSpace, nothing, white_space, comment}
use Rattle.litmus_lines.specs.declared.fault.LineFault.TheVariants as fault
use Rattle.litmus_lines.specs.{declared.fault.LineFault.LineFault, Faults.RefusesFirstLine, Faults.BeginsSkipped, Faults.nothing as none, Faults.line, Faults.RefusesLines, Faults.ended_at, Faults.fault_at}
use Rattle.litmus_lines.proofs.SkippedLaws.{line_read, line_only}

-- one text follows white space and comments
pub space_once : (text a b : List ℕ) → IsAfterSpace text a → IsAfterSpace text b → a ≡ b
space_once text a b (nothing k l) h = other_back text b k l h
space_once (c ∷ text) a b (white_space k s) h = space_once text a b s (white_space_back (c ∷ text) b (omega arith) k h)
space_once text a b (comment {others = us} k s) h = space_once us a b s (comment_back text us b k h)

-- and one follows a line that is skipped
next_one : (text f g us vs : List ℕ) → IsAfterSpace text f → IsSkippedLine f us → IsAfterSpace text g → IsSkippedLine g vs → us ≡ vs
next_one text f g us vs s h t i =
    let r = line_read f us h in
    line_only f r.0 us vs r.1 (subst (λ (x : List ℕ). IsSkippedLine x vs) (sym (space_once text f g s t)) i)

-- no line that is skipped comes next
abbrev Stops : List ℕ → Type 0
Stops text = (front others : List ℕ) → IsAfterSpace text front → IsSkippedLine front others → ⊥

record Next (text rest : List ℕ) : Type 0 where
  front : List ℕ
  others : List ℕ
  space : IsAfterSpace text front
  skipped : IsSkippedLine front others
  more : BeginsSkipped others rest

-- one more line after no line, or after one and then others
first_then : (text rest front others : List ℕ) → (text ≡ rest) ⊎ Next text rest → IsAfterSpace rest front → IsSkippedLine front others → Next text others
first_then text rest front others (inl e) s h =
    record { front = front; others = others; space = subst (λ (x : List ℕ). IsAfterSpace x front) (sym e) s; skipped = h; more = none }
first_then text rest front others (inr n) s h = record { front = n.front; others = n.others; space = n.space; skipped = n.skipped; more = line n.more s h }

first_or : (text rest : List ℕ) → BeginsSkipped text rest → (text ≡ rest) ⊎ Next text rest
first_or text rest none = inl refl
first_or text others (line {rest = r} {front = f} d s h) = inr (first_then text r f others (first_or text r d) s h)

-- the lines lead to one place where no other comes next
leads : (text front others end : List ℕ) → (text ≡ end) ⊎ Next text end → Stops end → IsAfterSpace text front → IsSkippedLine front others → BeginsSkipped others end
leads text front others end (inl e) stops s h = absurd (stops front others (subst (λ (x : List ℕ). IsAfterSpace x front) e s) h)
leads text front others end (inr n) stops s h =
    subst (λ (x : List ℕ). BeginsSkipped x end) (next_one text n.front front n.others others n.space n.skipped s h) n.more

leads_to : (text rest end : List ℕ) → BeginsSkipped text rest → BeginsSkipped text end → Stops end → BeginsSkipped rest end
leads_to text rest end none e stops = e
leads_to text others end (line {rest = r} {front = f} d s h) e stops = leads r f others end (first_or r end (leads_to text r end d e stops)) stops s h

same_or : (rest end : List ℕ) → (rest ≡ end) ⊎ Next rest end → Stops rest → rest ≡ end
same_or rest end (inl e) stops = e
same_or rest end (inr n) stops = absurd (stops n.front n.others n.space n.skipped)

abbrev Open : List ℕ → Type 0
Open rest = (text : List ℕ) → IsAfterSpace rest text → ⊥

abbrev Other : List ℕ → List ℕ → LineFault → Type 0
Other bytes rest a = (text : List ℕ) × IsAfterSpace rest text × ((others : List ℕ) → IsSkippedLine text others → ⊥) × (a ≡ fault_at bytes text)

abbrev Told : List ℕ → List ℕ → LineFault → Type 0
Told bytes rest a = (Open rest × (a ≡ ended_at bytes)) ⊎ Other bytes rest a

told_stops : (bytes rest : List ℕ) (a : LineFault) → Told bytes rest a → Stops rest
told_stops bytes rest a (inl h) = λ front others s l. h.0 front s
told_stops bytes rest a (inr h) = λ front others s l.
    h.2 others (subst (λ (x : List ℕ). IsSkippedLine x others) (space_once rest front h.0 s h.1) l)

told_one : (bytes rest : List ℕ) (a b : LineFault) → Told bytes rest a → Told bytes rest b → a ≡ b
told_one bytes rest a b (inl h) (inl g) = h.1 ∙ sym g.1
told_one bytes rest a b (inl h) (inr g) = absurd (h.0 g.0 g.1)
told_one bytes rest a b (inr h) (inl g) = absurd (g.0 h.0 h.1)
told_one bytes rest a b (inr h) (inr g) = h.3 ∙ ap (fault_at bytes) (space_once rest h.0 g.0 h.1 g.1) ∙ sym g.3

pub same_fault : (bytes lines : List ℕ) (a b : LineFault) → RefusesLines bytes lines a → RefusesLines bytes lines b → a ≡ b
same_fault bytes lines a b h g =
    let stops = told_stops bytes h.0 a h.2 in
    let on = leads_to lines h.0 g.0 h.1 g.1 (told_stops bytes g.0 b g.2) in
    let same : h.0 ≡ g.0 = same_or h.0 g.0 (first_or h.0 g.0 on) stops in
    told_one bytes g.0 a b (subst (λ (x : List ℕ). Told bytes x a) same h.2) g.2

-- and a first line too
pub same_first_fault : (text : List ℕ) (a b : LineFault) → RefusesFirstLine text a → RefusesFirstLine text b → a ≡ b
same_first_fault text (fault.Ended l) (fault.Ended k) h g = ap fault.Ended (h.0 ∙ sym g.0)
same_first_fault text (fault.Header l) (fault.Header k) h g = ap fault.Header (h.0 ∙ sym g.0)
same_first_fault text (fault.Ended l) (fault.Header k) h g = let bad : true ≡ false = sym h.1 ∙ g.1 in cc
same_first_fault text (fault.Header l) (fault.Ended k) h g = let bad : true ≡ false = sym g.1 ∙ h.1 in cc
