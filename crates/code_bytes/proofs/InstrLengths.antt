-- How many bytes an instruction takes, by what its length depends on.
use Rattle.std.proofs.Common.{◌≡◌, ℕ, ◌+◌, ◌-◌, ◌*◌, ◌%◌, Bool, true, false, not, length, refl, sym, ap, ◌∙◌}
use Rattle.std.proofs.lemmas.List.{length-map}
use Rattle.class_model.specs.declared.instr.Instr.{Instr}
use Rattle.class_model.specs.declared.instr.Instr.TheVariants.{Nop, Const, Ldc, Ldc2, Load, Store, Iinc, ArrayLoad, ArrayStore, Shuffle, Pure, Divide, FloatAsk, If, If2, IfSame, IfNull, Goto, Table, Lookup, Return, GetStatic, PutStatic, GetField, PutField, Invoke, Dynamic, New, NewArray, NewRefArray, NewMulti, Length, Throw, Cast, InstanceOf, Enter, Leave}
use Rattle.code_bytes.specs.Forms.{instr_bytes, goto_bytes, is_near, offset_of}
use Rattle.code_bytes.specs.Lengths.{without_targets, is_far}
use Rattle.code_bytes.proofs.FormLengths.{table_length, lookup_length}

-- the length, by the offset's remainder, whether a goto is far, and the instruction without its targets
len_of : ℕ → Bool → Instr → ℕ
len_of past true (Goto to) = 5
len_of past false (Goto to) = 3
len_of past far (Table low other to) = 13 + (3 - past) + 4 * length to
len_of past far (Lookup other pairs) = 9 + (3 - past) + 8 * length pairs
len_of past far instr = length (instr_bytes 0 instr)

goto_len : (at to : ℕ) (near : Bool) → is_near (offset_of at to) ≡ near → length (goto_bytes at to) ≡ len_of (at % 4) (not near) (Goto 0)
unfolding len_of
goto_len at to true e = rw e refl
goto_len at to false e = rw e refl

len_is : (at : ℕ) (instr : Instr) → length (instr_bytes at instr) ≡ len_of (at % 4) (is_far at instr) (without_targets instr)
unfolding len_of instr_bytes
len_is at (Goto to) = goto_len at to (is_near (offset_of at to)) refl
len_is at (Table low other to) = table_length at low other to ∙ ap (λ (n : ℕ). 13 + (3 - at % 4) + 4 * n) (sym (length-map to (λ _. 0)))
len_is at (Lookup other pairs) = lookup_length at other pairs ∙ ap (λ (n : ℕ). 9 + (3 - at % 4) + 8 * n) (sym (length-map pairs _))
len_is at Nop = refl
len_is at (Const value) = refl
len_is at (Ldc index) = refl
len_is at (Ldc2 index) = refl
len_is at (Load kind index) = refl
len_is at (Store kind index) = refl
len_is at (Iinc index number) = refl
len_is at (ArrayLoad opcode) = refl
len_is at (ArrayStore opcode) = refl
len_is at (Shuffle opcode) = refl
len_is at (Pure opcode) = refl
len_is at (Divide opcode) = refl
len_is at (FloatAsk opcode) = refl
len_is at (If opcode to) = refl
len_is at (If2 opcode to) = refl
len_is at (IfSame opcode to) = refl
len_is at (IfNull opcode to) = refl
len_is at (Return kind) = refl
len_is at (GetStatic field) = refl
len_is at (PutStatic field) = refl
len_is at (GetField field) = refl
len_is at (PutField field) = refl
len_is at (Invoke opcode method count) = refl
len_is at (Dynamic site) = refl
len_is at (New class) = refl
len_is at (NewArray code) = refl
len_is at (NewRefArray class) = refl
len_is at (NewMulti class dimensions) = refl
len_is at Length = refl
len_is at Throw = refl
len_is at (Cast class) = refl
len_is at (InstanceOf class) = refl
len_is at Enter = refl
len_is at Leave = refl

pub same_length : (at place : ℕ) (one other : Instr) → at % 4 ≡ place % 4 → without_targets one ≡ without_targets other → is_far at one ≡ is_far place other → length (instr_bytes at one) ≡ length (instr_bytes place other)
same_length at place one other past alike far =
    len_is at one
    ∙ ap (λ (n : ℕ). len_of n (is_far at one) (without_targets one)) past
    ∙ ap (λ (b : Bool). len_of (place % 4) b (without_targets one)) far
    ∙ ap (len_of (place % 4) (is_far place other)) alike
    ∙ sym (len_is place other)
