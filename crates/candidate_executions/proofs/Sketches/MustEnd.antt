-- Where a sketch must end as an outcome, the same is shown of each completion's.
use Rattle.candidate_executions.proofs.Vocabulary.{◌≡◌, ℕ, ◌<◌, ◌≤◌, Bool, List, [], Option, Some, None, slice_index, length, map, refl, sym, ap, ◌∙◌, subst, inl, inr, arith, range_with_len, get_or-map-range_with_len, length-map-range_with_len, same_Some}
use Rattle.candidate_executions.proofs.Vocabulary.{slice_get-get_or, slice_get_past, cases_lt, Listing, Outcome, number, action, start_of, code_of, JumpForward, Machine, Access, Event, Initial, Trace, trace, trace_by, fenced_gaps, option_and_then, slice_get}
use Rattle.candidate_executions.proofs.Vocabulary.{Candidate, access, access_by, Writes, IsCandidate, EndsWith, HasOutcome, HasShownOutcome, EachCompletionEndsSo}
use Rattle.tso_program.specs.{declared.shown.Shown.Shown, declared.shown.Shown.TheVariants.Truth, declared.atom.Atom.Atom, Truth.is_true_at, Truth.is_value}
use Rattle.tso_program.specs.{Shown.shown_value, Shown.show_registers, Shown.show_memory, Shown.shown_values, Shown.show, Shown.told, declared.question.Question.Question}
use Rattle.tso_program.specs.declared.atom.Atom.TheVariants as atom
use Rattle.tso_program.proofs.{KnownTruths.known_is_true, Kept.memory_by}
use Rattle.candidate_executions.specs.Sketches.{Sketch, given_to, Completes, IsSketch, MayBeLast, stopped, MayEndWith, EndsInValues, KnownAtom, EndsAs, IsWhole, MustEndAs, next_read}
use Rattle.candidate_executions.proofs.{Sketches.Choices.all_given, Sketches.Choices.given_whole, Sketches.Choices.keeps_writes, Candidates.LastWrites.ends_with}
use Rattle.candidate_executions.proofs.Candidates.EdgesAreDecidable.{same_event}

module _ (q : Question) (mode : Machine) (k : Sketch) (c : Candidate) (o : Outcome) (forward : JumpForward q.program.threads) (fits : IsSketch q.program mode k)
    (is : IsCandidate q.program mode c) (completes : Completes k c) where
  abbrev p : Listing
  p = q.program

  -- the last write of a location may be its last by what is chosen
  may_be_last : (l v : ℕ) (e : Event) → Writes (access p mode c) e l v → ((d : Event) (w : ℕ) → Writes (access p mode c) d l w → c.rank d ≤ c.rank e) → MayBeLast p mode k l e
  may_be_last l v e a last = record {
    no_later = λ d h.
        let rank = completes.pairs e d h in
        let (n, (m, w, x, f, g, nd, ne)) = fits.pairs e d h in
        let there : Writes (access p mode c) d m x = keeps_writes p mode (given_to k) c.given completes.given d m x g in
        let here : Writes (access p mode c) e m w = keeps_writes p mode (given_to k) c.given completes.given e m w f in
        let at : m ≡ l = sym here.2 ∙ (ap (λ (z : Access). z.location) (same_Some here.0 a.0 (sym here.1 ∙ a.1)) ∙ a.2) in
        let le = last d x (subst (λ z. Writes (access p mode c) d z x) at there) in omega arith;
    only_initial = λ at d w h. elim (same_event d (Initial l)) [
      | inl s ↦ s
      | inr n ↦ absurd (
          let there : Writes (access p mode c) d l w = keeps_writes p mode (given_to k) c.given completes.given d l w h in
          let first : Writes (access p mode c) (Initial l) l v = subst (λ z. Writes (access p mode c) z l v) at a in
          let le = last d w there in
          let ge = is.initial d l w there in
          let r : c.rank e ≡ c.rank (Initial l) = ap c.rank at in
          let eq : c.rank d ≡ c.rank (Initial l) = omega arith in
          n (is.ranks d (Initial l) l w v there first eq))
    ];
  }

  -- the outcome of the completion
  abbrev last_value : ℕ → ℕ
  last_value l = (ends_with p mode c l).0

  abbrev whole : Outcome
  whole = record {
    registers = map (λ t. (trace_by p mode c.given t).last.registers) (range_with_len 0 (length p.threads));
    memory = map last_value (range_with_len 0 (length p.memory));
  }

  value_there : (l : ℕ) → l < length p.memory → slice_index whole.memory l ≡ last_value l
  value_there l h = get_or-map-range_with_len last_value 0 (length p.memory) l l 0 h (omega arith)

  is_outcome : HasOutcome p mode c whole
  is_outcome = record {
    registers = refl;
    long = length-map-range_with_len last_value 0 (length p.memory);
    memory = λ l h. subst (EndsWith p mode c l) (sym (value_there l h)) (ends_with p mode c l).1;
  }

  module _ (all : IsWhole p mode k) where
    same : c.given ≡ given_to k
    same = all_given p mode k c fits is completes forward all

    -- a location's last value is that of a write that may be the last by what is chosen
    may_end : (l v : ℕ) → EndsWith p mode c l v → MayEndWith p mode k l v
    may_end l v (e, w, last) = (e, subst (λ g. Writes (access_by p mode g) e l v) same w, may_be_last l v e w last)

    same_registers : whole.registers ≡ stopped p mode k
    same_registers = ap (λ (g : ℕ → List ℕ). map (λ t. (trace_by p mode g t).last.registers) (range_with_len 0 (length p.threads))) same

    values_shown : (shown : Shown) → EndsInValues p mode k shown o → o ≡ shown_values shown whole
    values_shown shown ends = λ i. record { registers = registers i; memory = memory i }
      where
        registers : o.registers ≡ show_registers shown whole.registers
        registers = ends.registers ∙ sym (ap (show_registers shown) same_registers)

        memory : o.memory ≡ show_memory shown whole.memory
        memory = memory_by shown whole.memory o.memory (ends.long ∙ sym is_outcome.long)
            (λ l h. let below : l < length p.memory = subst (λ n. l < n) is_outcome.long h in
            let (e, w, last) = may_end l (last_value l) (ends_with p mode c l).1 in
            sym (ends.memory l (last_value l) e below w last) ∙ ap (shown_value shown l) (sym (value_there l below)))

  -- the registers where threads with these values stop
  abbrev ends_by : (ℕ → List ℕ) → List (List ℕ)
  ends_by given = map (λ t. (trace_by p mode given t).last.registers) (range_with_len 0 (length p.threads))

  ends_long : (given : ℕ → List ℕ) → length (ends_by given) ≡ length p.threads
  ends_long given = length-map-range_with_len (λ t. (trace_by p mode given t).last.registers) 0 (length p.threads)

  ends_at : (given : ℕ → List ℕ) (t : ℕ) → t < length p.threads → slice_get (ends_by given) t ≡ Some (trace_by p mode given t).last.registers
  ends_at given t h =
      let long : length (ends_by given) ≡ length p.threads = ends_long given in
      slice_get-get_or (ends_by given) t [] (omega arith) ∙ ap Some (get_or-map-range_with_len (λ t. (trace_by p mode given t).last.registers) 0 (length p.threads) t t [] h (omega arith))

  ends_past : (given : ℕ → List ℕ) (t : ℕ) → length p.threads ≤ t → slice_get (ends_by given) t ≡ None
  ends_past given t h =
      let long : length (ends_by given) ≡ length p.threads = ends_long given in
      slice_get_past (ends_by given) t (omega arith)

  -- a thread each of whose reads has its value stops where it stops in each completion
  stops_there : (t : ℕ) → next_read p mode k t ≡ None → slice_get (ends_by c.given) t ≡ slice_get (ends_by (given_to k)) t
  stops_there t none = elim (cases_lt t (length p.threads)) [
    | inl h ↦
        let same : trace_by p mode c.given t ≡ trace_by p mode (given_to k) t =
        ap (trace (action p.threads t) (fenced_gaps mode t) (length (code_of p.threads t)) 0 (start_of p.threads t)) (given_whole p mode k c fits is completes forward t none) in
        ends_at c.given t h ∙ ap (λ (x : Trace). Some x.last.registers) same ∙ sym (ends_at (given_to k) t h)
    | inr h ↦ ends_past c.given t h ∙ sym (ends_past (given_to k) t h)
  ]

  atom_known : (b : Bool) (a : Atom) → KnownAtom p mode k b a → is_true_at whole a ≡ b
  atom_known b (atom.Register t r v) (none, known) =
      ap (λ (x : Option (List ℕ)). is_value (option_and_then (λ registers. slice_get registers (number r)) x) v) (stops_there t none) ∙ known
  atom_known b (atom.Location l v) (known, past) = elim (cases_lt l (length p.memory)) [
    | inl h ↦
        let long : length whole.memory ≡ length p.memory = is_outcome.long in
        let there : slice_get whole.memory l ≡ Some (last_value l) = slice_get-get_or whole.memory l 0 (omega arith) ∙ ap Some (value_there l h) in
        ap (λ (x : Option ℕ). is_value x v) there ∙ (known h).1 (last_value l) (may_end (known h).0 l (last_value l) (ends_with p mode c l).1)
    | inr h ↦
        let long : length whole.memory ≡ length p.memory = is_outcome.long in
        ap (λ (x : Option ℕ). is_value x v) (slice_get_past whole.memory l (omega arith)) ∙ past h
  ]

  shown_so : (shown : Shown) → EndsAs p mode k shown o → o ≡ show shown whole
  shown_so (Truth f) ends = ends.is_told ∙ sym (ap told (known_is_true (KnownAtom p mode k) (is_true_at whole) atom_known ends.truth f ends.known))
  shown_so shown (all, ends) = values_shown all shown ends

  pub ends_so : MustEndAs q mode k o → HasShownOutcome q mode c o
  ends_so must = (whole, is_outcome, shown_so q.shown must)

pub each_ends_so : EachCompletionEndsSo
each_ends_so q mode k c o forward fits is completes must = ends_so q mode k c o forward fits is completes must
