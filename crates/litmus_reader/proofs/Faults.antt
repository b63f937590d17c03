-- What is said of a fault, case by case.
use Rattle.litmus_reader.proofs.Vocabulary.{◌≡◌, ◌≢◌, ◌∙◌, Option, Some, None, refl, sym, ap, ⊤, ProgramFault, ReadFault, MatchFault, NotUtf8, Program, OutOfMemory}
use Rattle.tso_program.specs.declared.limits.ProgramFault.{TheVariants.OutOfMemory as NoMemory}

-- what follows from it, case by case
pub match_map : (fault : ReadFault) (U V : Type 0) (L K : ProgramFault → Type 0) (M N O P : Type 0) → (U → V) → ((limit : ProgramFault) → L limit → K limit) → (M → N) → (O → P)
    → MatchFault fault U L M O → MatchFault fault V K N P
match_map (NotUtf8 line) U V L K M N O P u l m o h = u h
match_map (Program line limit) U V L K M N O P u l m o h = l limit h
match_map OutOfMemory U V L K M N O P u l m o h = m h
match_map fault U V L K M N O P u l m o h = o h

-- memory ran out, where no other case can be
pub match_memory : (fault : ReadFault) (U : Type 0) (L : ProgramFault → Type 0) (M O : Type 0) → (U → ⊥) → ((limit : ProgramFault) → L limit → ⊥) → (O → ⊥) → MatchFault fault U L M O → fault ≡ OutOfMemory
match_memory (NotUtf8 line) U L M O u l o h = absurd (u h)
match_memory (Program line limit) U L M O u l o h = absurd (l limit h)
match_memory OutOfMemory U L M O u l o h = refl
match_memory fault U L M O u l o h = absurd (o h)

-- a program's fault is the first limit that is broken, unless it is out of memory
pub first_refused : (first : Option ProgramFault) (fault : ProgramFault) (read : ReadFault) → (first ≡ None → fault ≡ NoMemory) → ((limit : ProgramFault) → first ≡ Some limit → limit ≡ fault)
    → MatchFault read ⊥ (λ limit. (limit ≡ fault) × (fault ≢ NoMemory)) ⊤ ⊥ → MatchFault read ⊥ (λ limit. first ≡ Some limit) ⊤ ⊥
first_refused first fault read none some h =
    match_map read ⊥ ⊥ (λ limit. (limit ≡ fault) × (fault ≢ NoMemory)) (λ limit. first ≡ Some limit) ⊤ ⊤ ⊥ ⊥ (λ x. x) (known first refl) (λ x. x) (λ x. x) h
  where
    known : (o : Option ProgramFault) → first ≡ o → (limit : ProgramFault) → (limit ≡ fault) × (fault ≢ NoMemory) → first ≡ Some limit
    known None e limit h = absurd (h.1 (none e))
    known (Some f) e limit h = e ∙ ap Some (some f e ∙ sym h.0)
