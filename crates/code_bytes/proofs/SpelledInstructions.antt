-- The bytes that are written of an instruction spell it.
use Rattle.std.proofs.Common.{◌≡◌, ℕ, eqb, Bool, true, false, [], ◌∷◌, Some, None, inl, inr, ◌⊎◌, refl, sym, ap, ◌∙◌, arith}
use Rattle.std.proofs.lemmas.Bool.{eqb-true, ne_eqb, le-leb, lt-ltb, and_from}
use Rattle.class_model.specs.Spelling.{u2}
use Rattle.class_model.specs.Instructions.{Operands, Alone, U2, ArrayCode, Dimensions, U2U1Zero, U2ZeroZero, Jump2, rows, operands_in, IsSpelling}
use Rattle.class_model.specs.declared.descriptor.Kind.{Kind}
use Rattle.class_model.specs.declared.descriptor.Kind.TheVariants as kinds
use Rattle.class_model.specs.declared.instr.Instr.{Instr}
use Rattle.class_model.specs.declared.instr.Instr.TheVariants.{Nop, Const, Ldc, Ldc2, Load, Store, Iinc, ArrayLoad, ArrayStore, Shuffle, Pure, Divide, FloatAsk, If, If2, IfSame, IfNull, Goto, Table, Lookup, Return, GetStatic, PutStatic, GetField, PutField, Invoke, Dynamic, New, NewArray, NewRefArray, NewMulti, Length, Throw, Cast, InstanceOf, Enter, Leave}
use Rattle.code_bytes.specs.Encoding.{OpcodeTakes, IsPlace, Reaches, HasSpelling}
use Rattle.code_bytes.specs.Forms.{invoke_bytes, instr_bytes, jump_bytes}
use Rattle.code_bytes.specs.Numbers.{IsU1, IsU2, HasNumbers}
use Rattle.code_bytes.proofs.Offsets.{reaches_near}
use Rattle.code_bytes.proofs.SpelledForms.{spells_pushed, spells_ldc, load_rows, store_rows, spells_local, spells_iinc, spells_jump, spells_goto}
use Rattle.code_bytes.proofs.SpelledSwitches.{spells_table, spells_lookup}
use Rattle.code_bytes.proofs.TableRules.{tests_from, tests_rows, table_rule}
use Rattle.code_bytes.proofs.WrittenForms.{spells_read}

pub alone : (at opcode : ℕ) (made : Instr) → OpcodeTakes opcode (Alone made) → IsSpelling at made (opcode ∷ [])
alone at opcode made found = spells_read at opcode (Alone made) [] made found (refl, refl)

indexed : (at opcode : ℕ) (makes : ℕ → Instr) (index : ℕ) → OpcodeTakes opcode (U2 makes) → IsU2 index → IsSpelling at (makes index) (opcode ∷ u2 index)
indexed at opcode makes index found fits = spells_read at opcode (U2 makes) _ _ found (record { number = index; fits = fits; tail_is = refl; instr_is = refl })

reached : (at opcode to : ℕ) (makes : ℕ → Instr) → OpcodeTakes opcode (Jump2 makes) → IsPlace at → IsPlace to → Reaches at to → IsSpelling at (makes to) (jump_bytes opcode at to)
reached at opcode to makes found place to_place reaches = spells_jump at opcode to makes found (omega arith) (reaches_near at to place to_place reaches)

returned : (at : ℕ) (kind : Kind) → IsSpelling at (Return (Some kind)) (instr_bytes at (Return (Some kind)))
unfolding instr_bytes
returned at kinds.Int = alone at 172 _ refl
returned at kinds.Long = alone at 173 _ refl
returned at kinds.Float = alone at 174 _ refl
returned at kinds.Double = alone at 175 _ refl
returned at kinds.Ref = alone at 176 _ refl

no_interface : (opcode : ℕ) → OpcodeTakes opcode (U2 (λ m. Invoke opcode m 0)) → eqb opcode 185 ≡ false
no_interface opcode found = ne_eqb opcode 185 (λ e. let other = ap (operands_in rows) (sym e) ∙ found in absurd (cc))

-- only an opcode has a count and a byte that is zero
tests_interface : ℕ → Operands → Bool
tests_interface opcode (U2U1Zero makes) = eqb opcode 185
tests_interface opcode operands = true

interface : (opcode : ℕ) (makes : ℕ → ℕ → Instr) → OpcodeTakes opcode (U2U1Zero makes) → opcode ≡ 185
unfolding tests_interface tests_rows tests_from
interface opcode makes found = eqb-true opcode 185 (table_rule tests_interface rows refl opcode _ found)

invoked : (at opcode method count : ℕ) → (OpcodeTakes opcode (U2 (λ m. Invoke opcode m 0)) × (count ≡ 0)) ⊎ OpcodeTakes opcode (U2U1Zero (Invoke opcode)) → IsU2 method → IsU1 count → IsSpelling at (Invoke opcode method count) (invoke_bytes opcode method count)
invoked at opcode method count (inl (found, none)) method_fits count_fits = rw (no_interface opcode found, none) (indexed at opcode (λ m. Invoke opcode m 0) method found method_fits)
invoked at opcode method count (inr found) method_fits count_fits =
    rw (interface opcode _ found) (spells_read at 185 (U2U1Zero (Invoke 185)) _ _ refl (record { first = method; second = count; fits = (method_fits, count_fits); tail_is = refl; instr_is = refl }))

pub spells_instr : (at : ℕ) (instr : Instr) → HasSpelling at instr → HasNumbers instr → IsSpelling at instr (instr_bytes at instr)
unfolding instr_bytes
spells_instr at Nop has fits = alone at 0 Nop refl
spells_instr at (Const value) has fits = spells_pushed at value has.form
spells_instr at (Ldc index) has fits = spells_ldc at index fits
spells_instr at (Ldc2 index) has fits = indexed at 20 Ldc2 index refl fits
spells_instr at (Load kind index) has fits = spells_local at 26 21 Load kind index load_rows fits
spells_instr at (Store kind index) has fits = spells_local at 59 54 Store kind index store_rows fits
spells_instr at (Iinc index number) has fits = spells_iinc at index number fits.0 fits.1
spells_instr at (ArrayLoad opcode) has fits = alone at opcode _ has.form
spells_instr at (ArrayStore opcode) has fits = alone at opcode _ has.form
spells_instr at (Shuffle opcode) has fits = alone at opcode _ has.form
spells_instr at (Pure opcode) has fits = alone at opcode _ has.form
spells_instr at (Divide opcode) has fits = alone at opcode _ has.form
spells_instr at (FloatAsk opcode) has fits = alone at opcode _ has.form
spells_instr at (If opcode to) has fits = reached at opcode to (If opcode) has.form.0 has.place has.targets.0 has.form.1
spells_instr at (If2 opcode to) has fits = reached at opcode to (If2 opcode) has.form.0 has.place has.targets.0 has.form.1
spells_instr at (IfSame opcode to) has fits = reached at opcode to (IfSame opcode) has.form.0 has.place has.targets.0 has.form.1
spells_instr at (IfNull opcode to) has fits = reached at opcode to (IfNull opcode) has.form.0 has.place has.targets.0 has.form.1
spells_instr at (Goto to) has fits = spells_goto at to (omega (arith, has.targets.0))
spells_instr at (Table low other to) has fits = spells_table at low other to fits has.form has.targets.0 has.targets.1
spells_instr at (Lookup other pairs) has fits = spells_lookup at other pairs has.form.0 has.form.1 fits has.targets.0 has.targets.1
spells_instr at (Return None) has fits = alone at 177 _ refl
spells_instr at (Return (Some kind)) has fits = returned at kind
spells_instr at (GetStatic field) has fits = indexed at 178 GetStatic field refl fits
spells_instr at (PutStatic field) has fits = indexed at 179 PutStatic field refl fits
spells_instr at (GetField field) has fits = indexed at 180 GetField field refl fits
spells_instr at (PutField field) has fits = indexed at 181 PutField field refl fits
spells_instr at (Invoke opcode method count) has fits = invoked at opcode method count has.form fits.0 fits.1
spells_instr at (Dynamic site) has fits = spells_read at 186 (U2ZeroZero Dynamic) _ _ refl (record { number = site; fits = fits; tail_is = refl; instr_is = refl })
spells_instr at (New class) has fits = indexed at 187 New class refl fits
spells_instr at (NewArray code) has fits = spells_read at 188 ArrayCode _ _ refl (record { number = code; fits = (omega (arith, has.form.1), and_from _ _ (le-leb 4 code has.form.0) (le-leb code 11 has.form.1)); tail_is = refl; instr_is = refl })
spells_instr at (NewRefArray class) has fits = indexed at 189 NewRefArray class refl fits
spells_instr at (NewMulti class dimensions) has fits = spells_read at 197 Dimensions _ _ refl (record { first = class; second = dimensions; fits = (fits.0, fits.1, lt-ltb 0 dimensions (omega (arith, has.form))); tail_is = refl; instr_is = refl })
spells_instr at Length has fits = alone at 190 _ refl
spells_instr at Throw has fits = alone at 191 _ refl
spells_instr at (Cast class) has fits = indexed at 192 Cast class refl fits
spells_instr at (InstanceOf class) has fits = indexed at 193 InstanceOf class refl fits
spells_instr at Enter has fits = alone at 194 _ refl
spells_instr at Leave has fits = alone at 195 _ refl
