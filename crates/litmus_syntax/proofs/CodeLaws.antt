-- What the reader of instructions reads is what the grammar says.
use Rattle.litmus_syntax.proofs.Vocabulary.{◌≡◌, ◌∙◌, ℕ, true, false, List, ◌∷◌, refl, sym, ap, subst, inl, inr, Some, is_some, or_cases, Tok, Word, word_at, mark_at, begins_with, word_takes, number_takes, mark_takes, mark_again, begins_takes, begins_again}
use Rattle.litmus_syntax.proofs.Vocabulary.{Reg, Mnemonic, mnemonic_of, same_Some, CodeView, LoadImm, Copy, Load, StoreImm, Store, Xchg, Fence, CmpImm, CmpReg, Je, Jne, Jmp, ◌▸◌, ◌or◌, word, register, memory, immediate, mnemonic, comma, IsCode, ends_cell}
use Rattle.litmus_syntax.proofs.Vocabulary.{register_at, memory_at, immediate_at, into_register_at, into_location_at, move_at, exchange_at, compared_with_at, compare_at, operands_at, code_at}
use Rattle.text_tokens.specs.declared.token.Mark.TheVariants as the
use Rattle.litmus_syntax.specs.declared.mnemonic.Mnemonic.TheVariants as op
use Rattle.litmus_syntax.proofs.{Options.given, Options.made, Options.next, Options.tested, PlaceLaws.register_takes, PlaceLaws.register_again, PlaceLaws.memory_takes, PlaceLaws.memory_again}

abbrev CodeAndRest : Type 0
CodeAndRest = CodeView × List Tok

-- ---- mnemonic and operands

abbrev pub mnemonic_for : CodeView → Mnemonic
mnemonic_for (Xchg x r) = op.Xchg
mnemonic_for Fence = op.Mfence
mnemonic_for (CmpImm r n) = op.Cmp
mnemonic_for (CmpReg r s) = op.Cmp
mnemonic_for (Je l) = op.Je
mnemonic_for (Jne l) = op.Jne
mnemonic_for (Jmp l) = op.Jmp
mnemonic_for h = op.Mov

abbrev Operands : CodeView → List Tok → List Tok → Type 0
Operands (LoadImm r n) = register r ▸ comma ▸ immediate n
Operands (Copy r s) = register r ▸ comma ▸ register s
Operands (Load r x) = register r ▸ comma ▸ memory x
Operands (StoreImm x n) = memory x ▸ comma ▸ immediate n
Operands (Store x r) = memory x ▸ comma ▸ register r
Operands (Xchg x r) = (memory x ▸ comma ▸ register r) or (register r ▸ comma ▸ memory x)
Operands Fence = λ ts rest. ts ≡ rest
Operands (CmpImm r n) = register r ▸ comma ▸ immediate n
Operands (CmpReg r s) = register r ▸ comma ▸ register s
Operands (Je l) = word l
Operands (Jne l) = word l
Operands (Jmp l) = word l

joined : (c : CodeView) (ts us rest : List Tok) → mnemonic (mnemonic_for c) ts us → Operands c us rest → IsCode c ts rest
joined Fence ts us rest m h = subst (λ (z : List Tok). mnemonic op.Mfence ts z) h m
joined c ts us rest m h = (us, m, h)

parts : (c : CodeView) (ts rest : List Tok) → IsCode c ts rest → (us : List Tok) × mnemonic (mnemonic_for c) ts us × Operands c us rest
parts Fence ts rest h = (rest, h, refl)
parts c ts rest h = h

-- what follows this mnemonic
abbrev Has : Mnemonic → List Tok → CodeAndRest → Type 0
Has m ts x = (mnemonic_for x.0 ≡ m) × Operands x.0 ts x.1

-- ---- numbers

immediate_takes : (ts : List Tok) (x : ℕ × List Tok) → immediate_at ts ≡ Some x → immediate x.0 ts x.1
unfolding immediate_at
immediate_takes ts =
    let is : ℕ × List Tok → Type 0 = λ x. immediate x.0 ts x.1 in
    tested is (begins_with the.Dollar ts) _ _ (λ h. next is (mark_at the.Dollar ts) _ (λ us a x b. inl (us, mark_takes the.Dollar ts us a, number_takes us x b))) (λ h x b. inr (number_takes ts x b))

immediate_again : (n : ℕ) (ts rest : List Tok) → immediate n ts rest → immediate_at ts ≡ Some (n, rest)
unfolding immediate_at
immediate_again n ts rest h = elim h [ inl d ↦ rw (d.1, d.2) refl | inr e ↦ rw e refl ]

-- ---- MOV

into_register_takes : (r : Reg) (ts us vs : List Tok) → register r ts us → comma us vs → (x : CodeAndRest) → into_register_at r vs ≡ Some x → Has op.Mov ts x
unfolding into_register_at
into_register_takes r ts us vs a b =
    tested (Has op.Mov ts) (begins_with the.OpenBracket vs) _ _ (λ h. made (Has op.Mov ts) (memory_at vs) (λ y. (Load r y.0, y.1)) (λ d is. (refl, (us, a, (vs, b, memory_takes vs d is)))))
    (λ h.
    tested (Has op.Mov ts) (is_some (word_at vs)) _ _ (λ g. made (Has op.Mov ts) (register_at vs) (λ s. (Copy r s.0, s.1)) (λ d is. (refl, (us, a, (vs, b, register_takes vs d is)))))
    (λ g. made (Has op.Mov ts) (immediate_at vs) (λ n. (LoadImm r n.0, n.1)) (λ d is. (refl, (us, a, (vs, b, immediate_takes vs d is))))))

into_location_takes : (y : List ℕ) (ts us vs : List Tok) → memory y ts us → comma us vs → (x : CodeAndRest) → into_location_at y vs ≡ Some x → Has op.Mov ts x
unfolding into_location_at
into_location_takes y ts us vs a b =
    tested (Has op.Mov ts) (is_some (word_at vs)) _ _ (λ h. made (Has op.Mov ts) (register_at vs) (λ r. (Store y r.0, r.1)) (λ d is. (refl, (us, a, (vs, b, register_takes vs d is)))))
    (λ h. made (Has op.Mov ts) (immediate_at vs) (λ n. (StoreImm y n.0, n.1)) (λ d is. (refl, (us, a, (vs, b, immediate_takes vs d is)))))

move_takes : (ts : List Tok) (x : CodeAndRest) → move_at ts ≡ Some x → Has op.Mov ts x
unfolding move_at
move_takes ts =
    let of : CodeAndRest → Type 0 = Has op.Mov ts in
    tested of (begins_with the.OpenBracket ts) _ _
    (λ h. next of (memory_at ts) _ (λ y a. next of (mark_at the.Comma y.1) _ (λ vs b. into_location_takes y.0 ts y.1 vs (memory_takes ts y a) (mark_takes the.Comma y.1 vs b))))
    (λ h. next of (register_at ts) _ (λ r a. next of (mark_at the.Comma r.1) _ (λ vs b. into_register_takes r.0 ts r.1 vs (register_takes ts r a) (mark_takes the.Comma r.1 vs b))))

-- ---- XCHG

exchange_takes : (ts : List Tok) (x : CodeAndRest) → exchange_at ts ≡ Some x → Has op.Xchg ts x
unfolding exchange_at
exchange_takes ts =
    let of : CodeAndRest → Type 0 = Has op.Xchg ts in
    tested of (begins_with the.OpenBracket ts) _ _
    (λ h. next of (memory_at ts) _ (λ y a. next of (mark_at the.Comma y.1) _ (λ vs b.
    made of (register_at vs) (λ r. (Xchg y.0 r.0, r.1)) (λ r d. (refl, inl (y.1, memory_takes ts y a, (vs, mark_takes the.Comma y.1 vs b, register_takes vs r d)))))))
    (λ h. next of (register_at ts) _ (λ r a. next of (mark_at the.Comma r.1) _ (λ vs b.
    made of (memory_at vs) (λ y. (Xchg y.0 r.0, y.1)) (λ y d. (refl, inr (r.1, register_takes ts r a, (vs, mark_takes the.Comma r.1 vs b, memory_takes vs y d)))))))

-- ---- CMP

compare_takes : (ts : List Tok) (x : CodeAndRest) → compare_at ts ≡ Some x → Has op.Cmp ts x
unfolding compare_at compared_with_at
compare_takes ts =
    let of : CodeAndRest → Type 0 = Has op.Cmp ts in
    next of (register_at ts) _ (λ r a. next of (mark_at the.Comma r.1) _ (λ vs b.
    tested of (is_some (word_at vs)) _ _ (λ h. made of (register_at vs) (λ s. (CmpReg r.0 s.0, s.1)) (λ s d. (refl, (r.1, register_takes ts r a, (vs, mark_takes the.Comma r.1 vs b, register_takes vs s d)))))
    (λ h. made of (immediate_at vs) (λ n. (CmpImm r.0 n.0, n.1)) (λ n d. (refl, (r.1, register_takes ts r a, (vs, mark_takes the.Comma r.1 vs b, immediate_takes vs n d)))))))

-- ---- all operands

operands_take : (m : Mnemonic) (ts : List Tok) (x : CodeAndRest) → operands_at m ts ≡ Some x → Has m ts x
operands_take op.Mov ts x e = move_takes ts x e
operands_take op.Xchg ts x e = exchange_takes ts x e
operands_take op.Mfence ts x e = subst (Has op.Mfence ts) (same_Some (Fence, ts) x e) (refl, refl)
operands_take op.Cmp ts x e = compare_takes ts x e
operands_take op.Je ts x e = made (Has op.Je ts) (word_at ts) (λ l. (Je l.0, l.1)) (λ l is. (refl, word_takes ts l is)) x e
operands_take op.Jne ts x e = made (Has op.Jne ts) (word_at ts) (λ l. (Jne l.0, l.1)) (λ l is. (refl, word_takes ts l is)) x e
operands_take op.Jmp ts x e = made (Has op.Jmp ts) (word_at ts) (λ l. (Jmp l.0, l.1)) (λ l is. (refl, word_takes ts l is)) x e

-- an immediate is neither a location nor a register
no_location : (n : ℕ) (ts rest : List Tok) → immediate n ts rest → begins_with the.OpenBracket ts ≡ false
no_location n ts rest h = elim h [ inl d ↦ ap (begins_with the.OpenBracket) d.1 | inr e ↦ ap (begins_with the.OpenBracket) e ]

no_register : (n : ℕ) (ts rest : List Tok) → immediate n ts rest → is_some (word_at ts) ≡ false
no_register n ts rest h = elim h [ inl d ↦ ap (λ us. is_some (word_at us)) d.1 | inr e ↦ ap (λ us. is_some (word_at us)) e ]

operands_again : (c : CodeView) (ts rest : List Tok) → Operands c ts rest → operands_at (mnemonic_for c) ts ≡ Some (c, rest)
unfolding move_at into_register_at into_location_at exchange_at compare_at compared_with_at
operands_again (LoadImm r n) ts rest h =
    rw (register_again r ts h.0 h.1, mark_again the.Comma h.0 h.2.0 h.2.1, h.1.2, no_location n h.2.0 rest h.2.2, no_register n h.2.0 rest h.2.2, immediate_again n h.2.0 rest h.2.2) refl
operands_again (Copy r s) ts rest h = rw (register_again r ts h.0 h.1, mark_again the.Comma h.0 h.2.0 h.2.1, h.1.2, register_again s h.2.0 rest h.2.2, h.2.2.2) refl
operands_again (Load r x) ts rest h =
    rw (register_again r ts h.0 h.1, mark_again the.Comma h.0 h.2.0 h.2.1, h.1.2, begins_again the.OpenBracket h.2.0 h.2.2.0 h.2.2.1, memory_again x h.2.0 rest h.2.2) refl
operands_again (StoreImm x n) ts rest h =
    rw (begins_again the.OpenBracket ts h.1.0 h.1.1, memory_again x ts h.0 h.1, mark_again the.Comma h.0 h.2.0 h.2.1, no_register n h.2.0 rest h.2.2, immediate_again n h.2.0 rest h.2.2) refl
operands_again (Store x r) ts rest h =
    rw (begins_again the.OpenBracket ts h.1.0 h.1.1, memory_again x ts h.0 h.1, mark_again the.Comma h.0 h.2.0 h.2.1, register_again r h.2.0 rest h.2.2, h.2.2.2) refl
operands_again (Xchg x r) ts rest (inl h) =
    rw (begins_again the.OpenBracket ts h.1.0 h.1.1, memory_again x ts h.0 h.1, mark_again the.Comma h.0 h.2.0 h.2.1, register_again r h.2.0 rest h.2.2) refl
operands_again (Xchg x r) ts rest (inr h) = rw (register_again r ts h.0 h.1, mark_again the.Comma h.0 h.2.0 h.2.1, memory_again x h.2.0 rest h.2.2, h.1.2) refl
operands_again (CmpImm r n) ts rest h =
    rw (register_again r ts h.0 h.1, mark_again the.Comma h.0 h.2.0 h.2.1, no_register n h.2.0 rest h.2.2, immediate_again n h.2.0 rest h.2.2) refl
operands_again (CmpReg r s) ts rest h = rw (register_again r ts h.0 h.1, mark_again the.Comma h.0 h.2.0 h.2.1, register_again s h.2.0 rest h.2.2, h.2.2.2) refl
operands_again c ts rest h = rw h refl

-- ---- instructions

pub code_takes : (ts : List Tok) (x : CodeAndRest) → code_at ts ≡ Some x → IsCode x.0 ts x.1
unfolding code_at
code_takes ts =
    let of : CodeAndRest → Type 0 = λ x. IsCode x.0 ts x.1 in
    next of (word_at ts) _ (λ w a. next of (mnemonic_of w.0) _ (λ m b x e.
    let h = operands_take m w.1 x e in
    joined x.0 ts w.1 x.1 (w.0, b ∙ ap given (sym h.0), word_takes ts w a) h.1))

pub code_again : (c : CodeView) (ts rest : List Tok) → IsCode c ts rest → code_at ts ≡ Some (c, rest)
unfolding code_at
code_again c ts rest h = let p = parts c ts rest h in rw (p.1.2, p.1.1) (operands_again c p.0 rest p.2)

-- ---- what an instruction begins with

ending_no_colon : (ts : List Tok) → ends_cell ts ≡ true → begins_with the.Colon ts ≡ false
ending_no_colon ts h =
    elim (or_cases (begins_with the.Bar ts) (begins_with the.Semicolon ts) h) [
      | inl e ↦ ap (begins_with the.Colon) (begins_takes the.Bar ts e)
      | inr e ↦ ap (begins_with the.Colon) (begins_takes the.Semicolon ts e)
    ]

no_colon : (c : CodeView) (ts rest : List Tok) → Operands c ts rest → ends_cell rest ≡ true → begins_with the.Colon ts ≡ false
no_colon (StoreImm x n) ts rest h e = ap (begins_with the.Colon) h.1.1
no_colon (Store x r) ts rest h e = ap (begins_with the.Colon) h.1.1
no_colon (Xchg x r) ts rest (inl h) e = ap (begins_with the.Colon) h.1.1
no_colon (Xchg x r) ts rest (inr h) e = ap (begins_with the.Colon) h.1.2
no_colon Fence ts rest h e = ap (begins_with the.Colon) h ∙ ending_no_colon rest e
no_colon (Je l) ts rest h e = ap (begins_with the.Colon) h
no_colon (Jne l) ts rest h e = ap (begins_with the.Colon) h
no_colon (Jmp l) ts rest h e = ap (begins_with the.Colon) h
no_colon c ts rest h e = ap (begins_with the.Colon) h.1.2

-- a mnemonic, and no `:` after it
pub record BeginsWithMnemonic (c : CodeView) (ts : List Tok) : Type 0 where
  pub mnemonic : List ℕ
  pub others : List Tok
  pub is_one : mnemonic_of mnemonic ≡ Some (mnemonic_for c)
  pub begins : ts ≡ Word mnemonic ∷ others
  pub no_label : begins_with the.Colon others ≡ false

pub code_begins : (c : CodeView) (ts rest : List Tok) → IsCode c ts rest → ends_cell rest ≡ true → BeginsWithMnemonic c ts
code_begins c ts rest h e =
    let p = parts c ts rest h in
    record { mnemonic = p.1.0; others = p.0; is_one = p.1.1; begins = p.1.2; no_label = no_colon c p.0 rest p.2 e }
