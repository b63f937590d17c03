-- What is read, without where its names lie in memory.
use Rattle.std.specs.Prelude.{ℕ, Bool, List, map, Option, option_map}
use Rattle.tso_program.specs.declared.instruction.Reg.{Reg}
use Rattle.conditions.specs.declared.condition.Quantifier.{Quantifier}
use Rattle.litmus_syntax.specs.declared.place.Place.{Place}
use Rattle.litmus_syntax.specs.declared.place.Place.TheVariants as place
use Rattle.litmus_syntax.specs.declared.entry.Entry.{Entry}
use Rattle.litmus_syntax.specs.declared.code.Code.{Code}
use Rattle.litmus_syntax.specs.declared.code.Code.TheVariants as code
use Rattle.litmus_syntax.specs.declared.cell.Cell.{Cell}
use Rattle.litmus_syntax.specs.declared.label.LabelAt.{LabelAt}
use Rattle.litmus_syntax.specs.declared.body.Body.{Body}
use Rattle.litmus_syntax.specs.declared.formula.Sign.{Sign}
use Rattle.litmus_syntax.specs.declared.formula.Sign.TheVariants as sign
use Rattle.litmus_syntax.specs.declared.formula.SignAt.{SignAt}
use Rattle.litmus_syntax.specs.declared.ending.Ending.{Ending}
use Rattle.std.specs.Global.{Vec}

-- a location by its name; or a thread's register
pub data PlaceView : Type 0 where
  Location : List ℕ → PlaceView
  Register : ℕ → Reg → PlaceView

-- an initial value
pub record EntryView : Type 0 where
  pub place : PlaceView
  pub value : ℕ

-- an instruction, whose location is a name; a jump leads to a label
pub data CodeView : Type 0 where
  LoadImm : Reg → ℕ → CodeView
  Copy : Reg → Reg → CodeView
  Load : Reg → List ℕ → CodeView
  StoreImm : List ℕ → ℕ → CodeView
  Store : List ℕ → Reg → CodeView
  Xchg : List ℕ → Reg → CodeView
  Fence : CodeView
  CmpImm : Reg → ℕ → CodeView
  CmpReg : Reg → Reg → CodeView
  Je : List ℕ → CodeView
  Jne : List ℕ → CodeView
  Jmp : List ℕ → CodeView

-- a cell of the rows: its labels, and its instruction, if it has one
pub record CellView : Type 0 where
  pub labels : List (List ℕ)
  pub code : Option CodeView

-- what stands before the condition
pub record BodyView : Type 0 where
  pub entries : List EntryView
  pub threads : ℕ
  pub rows : List (List CellView)

-- a sign of a formula
pub data SignView : Type 0 where
  Atom : PlaceView → ℕ → SignView
  Const : Bool → SignView
  Not : SignView
  And : SignView
  Or : SignView
  Open : SignView
  Close : SignView

-- what follows the rows: the places to be shown, and the condition
pub record EndingView : Type 0 where
  pub observed : List PlaceView
  pub quantifier : Quantifier
  pub signs : List SignView

abbrev pub place_view : Place → PlaceView
place_view (place.Location x) = Location x.now
place_view (place.Register t r) = Register t r

abbrev pub entry_view : Entry → EntryView
entry_view e = record { place = place_view e.place; value = e.value }

abbrev pub code_view : Code → CodeView
code_view (code.LoadImm r n) = LoadImm r n
code_view (code.Copy r s) = Copy r s
code_view (code.Load r x) = Load r x.now
code_view (code.StoreImm x n) = StoreImm x.now n
code_view (code.Store x r) = Store x.now r
code_view (code.Xchg x r) = Xchg x.now r
code_view code.Fence = Fence
code_view (code.CmpImm r n) = CmpImm r n
code_view (code.CmpReg r s) = CmpReg r s
code_view (code.Je l) = Je l.now
code_view (code.Jne l) = Jne l.now
code_view (code.Jmp l) = Jmp l.now

abbrev pub cell_view : Cell → CellView
cell_view c = record { labels = map (λ l. l.now) c.labels.items; code = option_map code_view c.code }

-- a label with its thread
abbrev pub label_view : LabelAt → ℕ × List ℕ
label_view l = (l.thread, l.name.now)

abbrev pub row_view : Vec Cell → List CellView
row_view row = map cell_view row.items

abbrev pub body_view : Body → BodyView
body_view b = record { entries = map entry_view b.entries.items; threads = b.threads; rows = map row_view b.rows.items }

abbrev pub sign_view : Sign → SignView
sign_view (sign.Atom p n) = Atom (place_view p) n
sign_view (sign.Const b) = Const b
sign_view sign.Not = Not
sign_view sign.And = And
sign_view sign.Or = Or
sign_view sign.Open = Open
sign_view sign.Close = Close

abbrev pub sign_at_view : SignAt → SignView
sign_at_view s = sign_view s.sign

abbrev pub ending_view : Ending → EndingView
ending_view e = record { observed = map place_view e.observed.items; quantifier = e.quantifier; signs = map sign_at_view e.signs.signs.items }
