-- What a code is asked over a pool is asked alike over one that keeps what its indices name, and at another place.
use Rattle.std.proofs.Common.{◌≡◌, ◌⊎◌, inl, inr, ℕ, ◌+◌, ◌*◌, ◌||◌, Bool, true, false, List, [], ◌∷◌, ◌++◌, length, Option, Some, None, IfSome, Result, Ok, Err, refl, sym, ap, subst, ◌∙◌}
use Rattle.std.specs.Prelude.{IsSome, IsFalse}
use Rattle.class_model.specs.Checks.{Check, check, Fault, AllHold, asked_if, asked_of}
use Rattle.class_model.specs.Code.{IsLoadable, IsLoadable2, IsDynamicConstant, FitsArray, HasDimensions, CountsArguments, IsCalled, OperandFits, units_behind, member_index, jump_checks, operand_checks, handlers_checks, inners_checks, inner_is_named, stack_map_table, in_table}
use Rattle.class_model.specs.Frames.{Setting, stack_map_table_at}
use Rattle.class_model.specs.Instructions.{decoded}
use Rattle.class_model.specs.Laws.Checks.{both_hold, first_holds, others_hold}
use Rattle.class_model.specs.Members.{is_text}
use Rattle.class_model.specs.Methods.{Home, entry_of, placed_at, instructions_checks, part_checks, content_checks, units_at_call}
use Rattle.class_model.specs.Pool.{Constants, constant_at}
use Rattle.class_model.specs.PoolChecks.{utf8_at, text_or_empty, IsInterfaceConstant}
use Rattle.class_model.specs.Spelling.{inner_bytes}
use Rattle.class_model.specs.declared.class_file.CodePart.{CodePart}
use Rattle.class_model.specs.declared.class_file.Handler.{Handler}
use Rattle.class_model.specs.declared.class_file.InnerAttr.{InnerAttr}
use Rattle.class_model.specs.declared.class_file.Method.{Method}
use Rattle.class_model.specs.declared.fault.FileRule.TheVariants as rules
use Rattle.class_model.specs.declared.frame.Frame.{Frame}
use Rattle.class_model.specs.declared.frame.PlacedFrame.{PlacedFrame}
use Rattle.class_model.specs.declared.instr.Instr.{Instr}
use Rattle.class_model.specs.declared.instr.Instr.TheVariants.{Ldc, Ldc2, Load, Store, Iinc, GetStatic, PutStatic, GetField, PutField, Invoke, Dynamic, New, NewRefArray, NewMulti, Cast, InstanceOf}
use Rattle.class_model.specs.declared.instr.Placed.{Placed}
use Rattle.class_model.specs.declared.pool.Const.{Const}
use Rattle.class_model.specs.declared.pool.Const.TheVariants.{InterfaceMethodref}
use Rattle.class_model.proofs.KeptFrames.{table_kept}
use Rattle.class_model.proofs.KeptPools.{Keeps, if_kept, fact_kept, utf8_kept, utf8_there, class_there, field_kept, method_kept, interface_kept}

-- the targets of jumps, at another place
jumps_moved : (start other : ℕ) (code instrs : List Placed) → AllHold (jump_checks start code instrs) → AllHold (jump_checks other code instrs)
jumps_moved start other code [] h = tt
jumps_moved start other code (p ∷ instrs) h = (h.0, jumps_moved start other code instrs h.1)

-- a table that is read
read : {X : Type 0} (at : ℕ) (r : Result X Fault) → AllHold (asked_of (in_table at r) (λ frames. [])) → (x : X) × (r ≡ Ok x)
read at (Ok x) h = (x, refl)
read at (Err f) h = absurd h.0

is_read : {X : Type 0} (at : ℕ) (r : Result X Fault) (x : X) → r ≡ Ok x → AllHold (asked_of (in_table at r) (λ frames. []))
is_read at r x e = subst (λ r. AllHold (asked_of (in_table at r) (λ frames. []))) (sym e) tt

pub asked_too : (test : Bool) (one other : List (Check Fault)) → (AllHold one → AllHold other) → AllHold (asked_if test one) → AllHold (asked_if test other)
asked_too true one other to h = to h
asked_too false one other to h = tt

module _ {old new : Constants} (keeps : Keeps old new) where
  -- ---- operands

  counts_kept : (method count : ℕ) → IsInterfaceConstant (constant_at old method) → CountsArguments (units_behind old (member_index (constant_at old method))) count → CountsArguments (units_behind new (member_index (constant_at new method))) count
  counts_kept method count interface h = by (constant_at old method) refl
    where
      by : (o : Option Const) → constant_at old method ≡ o → CountsArguments (units_behind new (member_index (constant_at new method))) count
      by (Some (InterfaceMethodref class member)) e =
          let same = ap (λ o. units_behind new (member_index o)) (keeps.constant method (InterfaceMethodref class member) e) ∙ keeps.called method class member e ∙ sym (ap (λ o. units_behind old (member_index o)) e) in
          subst (λ d. CountsArguments d count) (sym same) h
      by (Some other) e = absurd (subst IsInterfaceConstant e interface)
      by None e = absurd (subst IsInterfaceConstant e interface)

  call_kept : (major opcode method count : ℕ) → IsCalled old major opcode method count → IsCalled new major opcode method count
  call_kept major opcode method count (inl h) = inl (h.0, method_kept keeps method h.1)
  call_kept major opcode method count (inr (inl h)) = inr (inl (h.0, interface_kept keeps method h.1, counts_kept method count h.1 h.2))
  call_kept major opcode method count (inr (inr (is, inl h))) = inr (inr (is, inl (method_kept keeps method h)))
  call_kept major opcode method count (inr (inr (is, inr h))) = inr (inr (is, inr (h.0, interface_kept keeps method h.1)))

  operand_kept : (major max_locals : ℕ) (instr : Instr) → OperandFits old major max_locals instr → OperandFits new major max_locals instr
  operand_kept major max_locals (Ldc index) h = fact_kept keeps IsLoadable index (λ h. h) h
  operand_kept major max_locals (Ldc2 index) h = fact_kept keeps IsLoadable2 index (λ h. h) h
  operand_kept major max_locals (Load kind local) h = h
  operand_kept major max_locals (Store kind local) h = h
  operand_kept major max_locals (Iinc local by) h = h
  operand_kept major max_locals (GetStatic index) h = field_kept keeps index h
  operand_kept major max_locals (PutStatic index) h = field_kept keeps index h
  operand_kept major max_locals (GetField index) h = field_kept keeps index h
  operand_kept major max_locals (PutField index) h = field_kept keeps index h
  operand_kept major max_locals (Invoke opcode method count) h = call_kept major opcode method count h
  operand_kept major max_locals (Dynamic index) h = fact_kept keeps IsDynamicConstant index (λ h. h) h
  operand_kept major max_locals (New index) h = class_there keeps index h
  operand_kept major max_locals (NewRefArray index) h = (class_there keeps index h.0, if_kept FitsArray (keeps.class index h.0) h.1)
  operand_kept major max_locals (NewMulti index dimensions) h = (class_there keeps index h.0, if_kept (λ name. HasDimensions name dimensions) (keeps.class index h.0) h.1)
  operand_kept major max_locals (Cast index) h = class_there keeps index h
  operand_kept major max_locals (InstanceOf index) h = class_there keeps index h
  operand_kept major max_locals other h = tt

  pub operands_kept : (start other major max_locals : ℕ) (instrs : List Placed) → AllHold (operand_checks start old major max_locals instrs) → AllHold (operand_checks other new major max_locals instrs)
  operands_kept start other major max_locals [] h = tt
  operands_kept start other major max_locals (p ∷ instrs) h = (operand_kept major max_locals p.instr h.0, operands_kept start other major max_locals instrs h.1)

  -- ---- the exception table

  handlers_kept : (instrs : List Placed) (len at other : ℕ) (handlers : List Handler) → AllHold (handlers_checks old instrs len at handlers) → AllHold (handlers_checks new instrs len other handlers)
  handlers_kept instrs len at other [] h = tt
  handlers_kept instrs len at other (handler ∷ handlers) h =
      (h.0, (elim h.1.0 [ inl none ↦ inl none | inr class ↦ inr (class_there keeps handler.catch_type class) ], handlers_kept instrs len (at + 8) (other + 8) handlers h.1.1))

-- ---- the attributes of a code

module _ (s : Setting) (new : Constants) (keeps : Keeps s.pool new) (entry : Frame) where
  abbrev over : Setting
  over = record s { pool = new }

  abbrev table_of : Bool → ℕ → Setting → InnerAttr → List (Check Fault)
  table_of had at s attr = check at rules.Twice (IsFalse had) ∷ asked_of (in_table at (stack_map_table_at s entry attr.bytes)) (λ frames. [])

  table_too : (had : Bool) (at other : ℕ) (attr : InnerAttr) → AllHold (table_of had at s attr) → AllHold (table_of had other over attr)
  table_too had at other attr h =
      let given = read at (stack_map_table_at s entry attr.bytes) h.1 in
      (h.0, is_read other (stack_map_table_at over entry attr.bytes) given.0 ((table_kept s new keeps entry attr.bytes).gives given.0 given.1))

  pub inners_kept : (had : Bool) (at other : ℕ) (attrs : List InnerAttr) → AllHold (inners_checks s entry had at attrs) → AllHold (inners_checks over entry had other attrs)
  inners_kept had at other [] h = tt
  inners_kept had at other (attr ∷ attrs) h =
      let named = inner_is_named s.pool stack_map_table attr in
      let same : inner_is_named new stack_map_table attr ≡ named = ap (is_text stack_map_table) (utf8_kept keeps attr.name h.0) in
      let next = at + length (inner_bytes attr) in
      let later = other + length (inner_bytes attr) in
      let first = asked_if named (table_of had at s attr) in
      let rest = inners_checks s entry (had || named) next attrs in
      let table = asked_too named (table_of had at s attr) (table_of had other over attr) (table_too had at other attr) (first_holds first rest h.1) in
      let others = inners_kept (had || named) next later attrs (others_hold first rest h.1) in (
        utf8_there keeps attr.name h.0,
        subst (λ (b : Bool). AllHold (asked_if b (table_of had other over attr) ++ inners_checks over entry (had || b) later attrs)) (sym same)
            (both_hold (asked_if named (table_of had other over attr)) (inners_checks over entry (had || named) later attrs) table others),
      )

-- ---- the whole code

-- the name and the descriptor of a method are texts
pub record HasNames (pool : Constants) (method : Method) : Type 0 where
  pub name : IsSome (utf8_at pool method.name)
  pub desc : IsSome (utf8_at pool method.desc)

module _ (home : Home) (new : Constants) (keeps : Keeps home.pool new) (method : Method) (names : HasNames home.pool method) where
  abbrev there : Home
  there = record home { pool = new }

  same_entry : (part : CodePart) → entry_of there method part ≡ entry_of home method part
  same_entry part = rw (utf8_kept keeps method.name names.name, utf8_kept keeps method.desc names.desc) refl

  instructions_kept : (at other : ℕ) (part : CodePart) (instrs : List Placed) → AllHold (instructions_checks home method at part instrs) → AllHold (instructions_checks there method other part instrs)
  instructions_kept at other part instrs h =
      let table = at + 14 + length part.code + 2 in
      let later = other + 14 + length part.code + 2 in
      let setting : Setting = record { pool = home.pool; max_locals = part.max_locals; max_stack = part.max_stack; code = instrs } in
      let moved : Setting = record { pool = new; max_locals = part.max_locals; max_stack = part.max_stack; code = instrs } in
      let jumps = jump_checks (at + 14) instrs instrs in
      let operands = operand_checks (at + 14) home.pool home.major part.max_locals instrs in
      let handlers = handlers_checks home.pool instrs (length part.code) table part.handlers in
      let inners = inners_checks setting (entry_of home method part) false (table + 8 * length part.handlers + 2) part.attrs in
      let three = first_holds (jumps ++ operands ++ handlers) inners h in
      let two = first_holds (jumps ++ operands) handlers three in
      let new_jumps = jump_checks (other + 14) instrs instrs in
      let new_operands = operand_checks (other + 14) new home.major part.max_locals instrs in
      let new_handlers = handlers_checks new instrs (length part.code) later part.handlers in
      let new_place = later + 8 * length part.handlers + 2 in
      let attrs = inners_kept setting new keeps (entry_of home method part) false (table + 8 * length part.handlers + 2) new_place part.attrs (others_hold (jumps ++ operands ++ handlers) inners h) in
      let last = subst (λ (entry : Frame). AllHold (inners_checks moved entry false new_place part.attrs)) (sym (same_entry part)) attrs in
      both_hold (new_jumps ++ new_operands ++ new_handlers) (inners_checks moved (entry_of there method part) false new_place part.attrs)
      (both_hold (new_jumps ++ new_operands) new_handlers
      (both_hold new_jumps new_operands (jumps_moved (at + 14) (other + 14) instrs instrs (first_holds jumps operands two))
      (operands_kept keeps (at + 14) (other + 14) home.major part.max_locals instrs (others_hold jumps operands two)))
      (handlers_kept keeps instrs (length part.code) table later part.handlers (others_hold (jumps ++ operands) handlers three)))
      last

  read_kept : (at other : ℕ) (part : CodePart) (r : Result (List Placed) Fault) → AllHold (asked_of (placed_at (at + 14) r) (instructions_checks home method at part)) → AllHold (asked_of (placed_at (other + 14) r) (instructions_checks there method other part))
  read_kept at other part (Ok instrs) h = instructions_kept at other part instrs h
  read_kept at other part (Err f) h = absurd h.0

  pub content_kept : (at other : ℕ) (part : Option CodePart) → AllHold (content_checks home method at part) → AllHold (content_checks there method other part)
  content_kept at other None h = absurd h.0
  content_kept at other (Some part) h =
      (h.0, (if_kept _ (utf8_kept keeps method.desc names.desc) h.1.0, read_kept at other part (decoded part.code) h.1.1))
