-- What a sketch reads and writes, taken in access by access.
use Rattle.cover_search.proofs.Vocabulary.{◌≡◌, ◌⊎◌, ℕ, List, [], ◌∷◌, ◌++◌, None, Some, IsSome, All, refl, sym, ap, ◌∙◌, subst, ◌<◌, length, inl, inr, arith, same_Some, cases_lt, ProgramSketch, access_in, trace_in, IsRead, AccessId, event_of, ReadValue}
use Rattle.cover_search.proofs.Vocabulary.{WrittenValue, WholeAccesses, IsReadValue, NamesRead, IsWrittenValue, IsWrite, NamesWrite, IsItself, TakesIn}
use Rattle.std.proofs.lemmas.List.Elements.{All-push, Contains-append_left, Contains-push}
use Rattle.candidate_executions.specs.declared.access.Access.{Access}
use Rattle.program_sketches.proofs.Traced.{none_past}

-- what an access reads is taken in, and the writes stay the same
pub record TakesRead (s : ProgramSketch) (a : AccessId) (old new : WholeAccesses) : Type 0 where
  pub each : All (IsReadValue s) old.reads.items → All (IsReadValue s) new.reads.items
  pub kept : (b : AccessId) → NamesRead old.reads.items b → NamesRead new.reads.items b
  pub own : IsRead s (event_of a) → NamesRead new.reads.items a
  pub same : new.writes.items ≡ old.writes.items

module _ (s : ProgramSketch) (a : AccessId) (access : Access) (at : access_in s (event_of a) ≡ Some access) where
  -- it reads
  pub read_put : (old new : WholeAccesses) (v : ℕ) → access.read ≡ Some v →
      new.reads.items ≡ old.reads.items ++ (record { read = a; location = access.location; value = v }) ∷ [] → new.writes.items ≡ old.writes.items → TakesRead s a old new
  read_put old new v reads put same = (
      let r : ReadValue = record { read = a; location = access.location; value = v } in
      let is : IsReadValue s r = record { access = access; is_access = at; location = refl; reads = reads } in
      record {
        each = λ each. subst (All (IsReadValue s)) (sym put) (All-push (IsReadValue s) old.reads.items r each is);
        kept = λ b named. (let (x, here, names) = named in subst (λ (xs : List ReadValue). NamesRead xs b) (sym put) (x, Contains-append_left old.reads.items (r ∷ []) x here, names));
        own = λ h. subst (λ (xs : List ReadValue). NamesRead xs a) (sym put) (r, Contains-push old.reads.items r, refl);
        same = same;
      })

  -- it reads nothing
  pub read_left : (old new : WholeAccesses) → access.read ≡ None → new ≡ old → TakesRead s a old new
  read_left old new none same = subst (TakesRead s a old) (sym same) (record {
    each = λ each. each;
    kept = λ b named. named;
    own = λ h. absurd (let (x, is, reads) = h in let no : IsSome {T = ℕ} None = subst (λ o. IsSome o) (ap (λ (z : Access). z.read) (sym (same_Some access x (sym at ∙ is))) ∙ none) reads in cc);
    same = refl;
  })

  -- it writes
  pub write_put : (old middle new : WholeAccesses) (v : ℕ) → TakesRead s a old middle → access.written ≡ Some v →
      new.writes.items ≡ middle.writes.items ++ (record { write = a; location = access.location; value = v }) ∷ [] → new.reads.items ≡ middle.reads.items → TakesIn s (IsItself a) old new
  write_put old middle new v first writes put same = (
      let w : WrittenValue = record { write = a; location = access.location; value = v } in
      let is : IsWrittenValue s w = (access, at, refl, writes) in
      let put_after : new.writes.items ≡ old.writes.items ++ w ∷ [] = put ∙ ap (λ (xs : List WrittenValue). xs ++ w ∷ []) first.same in
      record {
        reads = λ each. subst (All (IsReadValue s)) (sym same) (first.each each);
        writes = λ each. subst (All (IsWrittenValue s)) (sym put_after) (All-push (IsWrittenValue s) old.writes.items w each is);
        kept_reads = λ b named. subst (λ (xs : List ReadValue). NamesRead xs b) (sym same) (first.kept b named);
        kept_writes = λ b named. (let (x, here, names) = named in subst (λ (xs : List WrittenValue). NamesWrite xs b) (sym put_after) (x, Contains-append_left old.writes.items (w ∷ []) x here, names));
        read = λ b own h. subst (λ (xs : List ReadValue). NamesRead xs b) (sym same) (subst (NamesRead middle.reads.items) (sym own) (first.own (subst (λ c. IsRead s (event_of c)) own h)));
        written = λ b own h. subst (λ (xs : List WrittenValue). NamesWrite xs b) (sym put_after) (w, Contains-push old.writes.items w, sym own);
      })

  -- it writes nothing
  pub write_left : (old new : WholeAccesses) → TakesRead s a old new → access.written ≡ None → TakesIn s (IsItself a) old new
  write_left old new first none = record {
    reads = first.each;
    writes = λ each. subst (All (IsWrittenValue s)) (sym first.same) each;
    kept_reads = first.kept;
    kept_writes = λ b named. subst (λ (xs : List WrittenValue). NamesWrite xs b) (sym first.same) named;
    read = λ b own h. subst (NamesRead new.reads.items) (sym own) (first.own (subst (λ c. IsRead s (event_of c)) own h));
    written = λ b own h. absurd (
        let (l, v, of_a) = subst (λ c. IsWrite s c) own h in
        let (x, is, place, writes) = of_a in
        let no : None ≡ Some v = sym none ∙ ap (λ (z : Access). z.written) (same_Some access x (sym at ∙ is)) ∙ writes in cc);
  }

-- no access is taken in
pub none_taken : (s : ProgramSketch) (T : AccessId → Type 0) (it : WholeAccesses) → ((a : AccessId) → T a → ⊥) → TakesIn s T it it
none_taken s T it none = record {
  reads = λ each. each;
  writes = λ each. each;
  kept_reads = λ a named. named;
  kept_writes = λ a named. named;
  read = λ a is reads. absurd (none a is);
  written = λ a is writes. absurd (none a is);
}

-- some accesses after others
pub taken_after : (s : ProgramSketch) (T U V : AccessId → Type 0) (old middle new : WholeAccesses) → TakesIn s T old middle → TakesIn s U middle new → ((a : AccessId) → V a → T a ⊎ U a) → TakesIn s V old new
taken_after s T U V old middle new first second either = record {
  reads = λ each. second.reads (first.reads each);
  writes = λ each. second.writes (first.writes each);
  kept_reads = λ a named. second.kept_reads a (first.kept_reads a named);
  kept_writes = λ a named. second.kept_writes a (first.kept_writes a named);
  read = λ a is reads. elim (either a is) [ inl was ↦ second.kept_reads a (first.read a was reads) | inr now ↦ second.read a now reads ];
  written = λ a is writes. elim (either a is) [ inl was ↦ second.kept_writes a (first.written a was writes) | inr now ↦ second.written a now writes ];
}

-- a thread that has an access is there
pub thread_there : (s : ProgramSketch) (t i : ℕ) → i < length (trace_in s t).accesses → t < length s.program.threads
thread_there s t i h = elim (cases_lt t (length s.program.threads)) [ inl low ↦ low | inr high ↦ absurd (none_past s t i (omega arith) h) ]

-- the access of a thread with a number
pub same_access : (a : AccessId) (t i : ℕ) → a.thread ≡ t → a.access ≡ i → a ≡ record { thread = t; access = i }
same_access a t i own same = (
    let id : ℕ → ℕ → AccessId = λ u k. record { thread = u; access = k } in
    ap (λ u. id u a.access) own ∙ ap (λ k. id t k) same)
