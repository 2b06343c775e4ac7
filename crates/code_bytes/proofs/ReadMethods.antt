-- The code of each method of a class file has instructions, whose constants are of the kinds that they may name, and its
-- StackMapTable can be read.
use Rattle.std.proofs.Common.{◌≡◌, ◌+◌, ◌*◌, ◌==◌, ◌||◌, ℕ, zero, suc, Bool, true, false, cond, List, [], ◌∷◌, ◌++◌, length, map, Option, Some, None, Result, Ok, Err, IsTrue, IsFalse, refl, sym, subst}
use Rattle.std.specs.List.{AllByRecursion}
use Rattle.class_model.specs.Checks.{Check, Fault, fault, check, AllHold, asked_of, asked_if}
use Rattle.class_model.specs.ClassOf.{ClassOf, methods_checks, entered_attr, entered_method}
use Rattle.class_model.specs.Code.{OperandFits, code_part, jump_checks, operand_checks, handlers_checks, inners_checks, inner_is_named, stack_map_table, table_fault}
use Rattle.class_model.specs.Cutting.{Rest, Version, Cut, bytes_at, u2_at, u4_at, many_at, counted_at, pool_at, attr_at, field_at, method_at, class_file_at}
use Rattle.class_model.specs.Frames.{Setting, stack_map_table_at}
use Rattle.class_model.specs.Instructions.{decoded}
use Rattle.class_model.specs.Laws.Checks.{first_holds, others_hold}
use Rattle.class_model.specs.Laws.ClassFiles.{methods_place, parts_hold}
use Rattle.class_model.specs.Laws.Cuts.{bind_ok, same_done}
use Rattle.class_model.specs.Members.{Signature, is_named, has_named, attrs_checks}
use Rattle.class_model.specs.Methods.{Home, code, entry_of, instructions_checks, part_checks, content_checks, method_attr_checks, method_checks, method_signature, home_of}
use Rattle.class_model.specs.Pool.{Constants}
use Rattle.class_model.specs.Spelling.{inner_bytes, attr_bytes, method_bytes}
use Rattle.class_model.specs.Stated.{stated_frames}
use Rattle.class_model.specs.declared.class_file.Attr.{Attr}
use Rattle.class_model.specs.declared.class_file.Attr.TheVariants.{Raw, Code}
use Rattle.class_model.specs.declared.class_file.ClassFile.{ClassFile}
use Rattle.class_model.specs.declared.class_file.CodePart.{CodePart}
use Rattle.class_model.specs.declared.class_file.InnerAttr.{InnerAttr}
use Rattle.class_model.specs.declared.class_file.Method.{Method}
use Rattle.class_model.specs.declared.fault.FileRule.TheVariants as rules
use Rattle.class_model.specs.declared.frame.Frame.{Frame}
use Rattle.class_model.specs.declared.frame.PlacedFrame.{PlacedFrame}
use Rattle.class_model.specs.declared.instr.Placed.{Placed}
use Rattle.code_bytes.specs.Decoding.{decoding_checks}
use Rattle.code_bytes.specs.Codes.{HasInstrs, HasOperands, HaveOperands, HaveFrames, IsReadMethod, HasReadMethods, HasReadOperands, HasReadFrames}

-- ---- attributes are cut as bytes

same_behind : {Y : Type 0} (test : Bool) (d : Fault) (x y : Y) → cond test (Ok x) (Err d) ≡ Ok y → x ≡ y
same_behind true d x y e = cc
same_behind false d x y e = absurd cc

-- What a part cuts has a property.
record Cuts {X : Type 0} (part : Rest → Cut X) (Holds : X → Type 0) : Type 0 where
  each : (rest : Rest) (x : X × Rest) → part rest ≡ Ok x → Holds x.0

many_cut : {X : Type 0} {part : Rest → Cut X} {Holds : X → Type 0} → Cuts part Holds → (count : ℕ) → Cuts (many_at part count) (AllByRecursion Holds)
unfolding many_at
many_cut {X = X} {Holds = Holds} cuts zero = record { each = λ rest x e. subst (λ (y : List X × Rest). AllByRecursion Holds y.0) (same_done ([], rest) x e) tt }
many_cut {X = X} {part = part} {Holds = Holds} cuts (suc count) = record {
  each = λ rest x e.
      let first = bind_ok (part rest) _ x e in
      let others = bind_ok (many_at part count first.0.1) _ x first.2 in
      subst (λ (y : List X × Rest). AllByRecursion Holds y.0) (same_done (first.0.0 ∷ others.0.0, others.0.1) x others.2)
      (cuts.each rest first.0 first.1, (many_cut cuts count).each first.0.1 others.0 others.1);
}

counted_cut : {X : Type 0} {part : Rest → Cut X} {Holds : X → Type 0} → Cuts part Holds → Cuts (counted_at part) (AllByRecursion Holds)
counted_cut cuts = record {
  each = λ rest x e.
      let count = bind_ok (u2_at rest) _ x e in
      (many_cut cuts count.0.0).each count.0.1 x count.2;
}

abbrev IsRaw : Attr → Type 0
IsRaw (Raw name bytes) = Unit {0}
IsRaw (Code name part) = ⊥

attr_cut : Cuts attr_at IsRaw
attr_cut = record {
  each = λ rest x e.
      let name = bind_ok (u2_at rest) _ x e in
      let len = bind_ok (u4_at name.0.1) _ x name.2 in
      let content = bind_ok (bytes_at len.0.0 len.0.1) _ x len.2 in
      let attr : Attr = Raw name.0.0 content.0.0 in
      subst (λ (y : Attr × Rest). IsRaw y.0) (same_done (attr, content.0.1) x content.2) tt;
}

abbrev AreRaw : Method → Type 0
AreRaw method = AllByRecursion IsRaw method.attrs

method_cut : Cuts method_at AreRaw
method_cut = record {
  each = λ rest x e.
      let flags = bind_ok (u2_at rest) _ x e in
      let name = bind_ok (u2_at flags.0.1) _ x flags.2 in
      let desc = bind_ok (u2_at name.0.1) _ x name.2 in
      let attrs = bind_ok (counted_at attr_at desc.0.1) _ x desc.2 in
      let method : Method = record { flags = flags.0.0; name = name.0.0; desc = desc.0.0; attrs = attrs.0.0 } in
      subst (λ (y : Method × Rest). AreRaw y.0) (same_done (method, attrs.0.1) x attrs.2) ((counted_cut attr_cut).each desc.0.1 attrs.0 attrs.1);
}

class_cut : (version : Version) (rest : Rest) (class : ClassFile) → class_file_at version rest ≡ Ok class → AllByRecursion AreRaw class.methods
class_cut version rest class e =
    let pool = bind_ok (pool_at version.major rest) _ class e in
    let flags = bind_ok (u2_at pool.0.1) _ class pool.2 in
    let this = bind_ok (u2_at flags.0.1) _ class flags.2 in
    let super = bind_ok (u2_at this.0.1) _ class this.2 in
    let interfaces = bind_ok (counted_at u2_at super.0.1) _ class super.2 in
    let fields = bind_ok (counted_at field_at interfaces.0.1) _ class interfaces.2 in
    let methods = bind_ok (counted_at method_at fields.0.1) _ class fields.2 in
    let attrs = bind_ok (counted_at attr_at methods.0.1) _ class methods.2 in
    subst (λ (c : ClassFile). AllByRecursion AreRaw c.methods) (same_behind (length attrs.0.1.bytes == 0) (fault attrs.0.1.at rules.Extra) (record {
      major = version.major;
      minor = version.minor;
      pool = pool.0.0;
      flags = flags.0.0;
      this_class = this.0.0;
      super_class = super.0.0;
      interfaces = interfaces.0.0;
      fields = fields.0.0;
      methods = methods.0.0;
      attrs = attrs.0.0;
    }) class attrs.2) ((counted_cut method_cut).each fields.0.1 methods.0 methods.1)

-- ---- the code of a method

jumps_hold : (start : ℕ) (instrs some : List Placed) → AllHold (jump_checks start instrs some) → AllHold (jump_checks 0 instrs some)
jumps_hold start instrs [] h = tt
jumps_hold start instrs (placed ∷ some) h = (h.0, jumps_hold start instrs some h.1)

abbrev placed_at : {X : Type 0} → ℕ → Result X Fault → Result X Fault
placed_at start (Ok x) = Ok x
placed_at start (Err f) = Err (fault (start + f.at) f.rule)

operands_fit : (start : ℕ) (pool : Constants) (major max_locals : ℕ) (instrs : List Placed) → AllHold (operand_checks start pool major max_locals instrs) → AllByRecursion (λ placed. OperandFits pool major max_locals placed.instr) instrs
operands_fit start pool major max_locals [] h = tt
operands_fit start pool major max_locals (placed ∷ instrs) h = (h.0, operands_fit start pool major max_locals instrs h.1)

abbrev in_table : {X : Type 0} → ℕ → Result X Fault → Result X Fault
in_table at (Ok x) = Ok x
in_table at (Err f) = Err (table_fault at f)

table_is_read : (at : ℕ) (read : Result (List PlacedFrame) Fault) → AllHold (asked_of (in_table at read) (λ frames. [])) → (frames : List PlacedFrame) × (read ≡ Ok frames)
table_is_read at (Ok frames) h = (frames, refl)
table_is_read at (Err f) h = absurd h.0

-- each StackMapTable among the attributes of a code can be read
abbrev IsReadTable : Setting → Frame → InnerAttr → Type 0
IsReadTable s entry attr = IsTrue (inner_is_named s.pool stack_map_table attr) → ((frames : List PlacedFrame) × (stack_map_table_at s entry attr.bytes ≡ Ok frames))

tables_are_read : (s : Setting) (entry : Frame) (had : Bool) (at : ℕ) (attrs : List InnerAttr) → AllHold (inners_checks s entry had at attrs) → AllByRecursion (IsReadTable s entry) attrs
tables_are_read s entry had at [] h = tt
tables_are_read s entry had at (attr ∷ attrs) h =
    let named = inner_is_named s.pool stack_map_table attr in
    let table = check at rules.Twice (IsFalse had) ∷ asked_of (in_table at (stack_map_table_at s entry attr.bytes)) (λ frames. []) in
    let others = inners_checks s entry (had || named) (at + length (inner_bytes attr)) attrs in
    (by named (first_holds (asked_if named table) others h.1), tables_are_read s entry (had || named) (at + length (inner_bytes attr)) attrs (others_hold (asked_if named table) others h.1))
  where
    by : (named : Bool) → AllHold (asked_if named (check at rules.Twice (IsFalse had) ∷ asked_of (in_table at (stack_map_table_at s entry attr.bytes)) (λ frames. []))) → IsTrue named → (frames : List PlacedFrame) × (stack_map_table_at s entry attr.bytes ≡ Ok frames)
    by true asked is = table_is_read at (stack_map_table_at s entry attr.bytes) asked.1
    by false asked is = absurd cc

abbrev HaveTables : Home → Method → CodePart → Result (List Placed) Fault → Type 0
HaveTables home method part read = AllByRecursion (λ attr. IsTrue (inner_is_named home.pool stack_map_table attr) → ((frames : List PlacedFrame) × (stated_frames home method part read attr ≡ Ok frames))) part.attrs

-- what is known of the parts of a code
record IsReadPart (home : Home) (method : Method) (part : CodePart) : Type 0 where
  instrs : AllHold (decoding_checks part.code)
  operands : HaveOperands home.pool home.major part.max_locals (decoded part.code)
  frames : HaveTables home method part (decoded part.code)

part_is_read : (home : Home) (method : Method) (at : ℕ) (part : CodePart) → AllHold (part_checks home method at part) → IsReadPart home method part
part_is_read home method at part hold =
    let by_read = by (decoded part.code) hold.1.1 in
    record { instrs = (hold.0, by_read.0); operands = by_read.1; frames = by_read.2 }
  where
    by : (read : Result (List Placed) Fault) → AllHold (asked_of (placed_at (at + 14) read) (instructions_checks home method at part))
        → AllHold (asked_of read (λ instrs. jump_checks 0 instrs instrs)) × HaveOperands home.pool home.major part.max_locals read × HaveTables home method part read
    by (Err f) h = absurd h.0
    by (Ok instrs) h =
        let start = at + 14 in
        let table = start + length part.code + 2 in
        let setting : Setting = record { pool = home.pool; max_locals = part.max_locals; max_stack = part.max_stack; code = instrs } in
        let jumps = jump_checks start instrs instrs in
        let operands = operand_checks start home.pool home.major part.max_locals instrs in
        let handlers = handlers_checks home.pool instrs (length part.code) table part.handlers in
        let attrs = table + 8 * length part.handlers + 2 in
        let inners = inners_checks setting (entry_of home method part) false attrs part.attrs in (
          jumps_hold start instrs instrs (first_holds jumps operands (first_holds (jumps ++ operands) handlers (first_holds (jumps ++ operands ++ handlers) inners h))),
          operands_fit start home.pool home.major part.max_locals instrs (others_hold jumps operands (first_holds (jumps ++ operands) handlers (first_holds (jumps ++ operands ++ handlers) inners h))),
          tables_are_read setting (entry_of home method part) false attrs part.attrs (others_hold (jumps ++ operands ++ handlers) inners h),
        )

-- what is asked of the content of an attribute that is named Code
abbrev named_checks : Home → Method → List Attr → ℕ → Option CodePart → List (Check Fault)
named_checks home method before at content = check at rules.Twice (IsFalse (has_named home.pool code before)) ∷ content_checks home method at content

-- what is known of an attribute of a method
record IsReadAttr (home : Home) (method : Method) (attr : Attr) : Type 0 where
  instrs : HasInstrs attr
  operands : HasOperands home.pool home.major attr
  frames : HaveFrames home method attr

read_raw : (home : Home) (method : Method) (name : ℕ) (bytes : List ℕ) → IsReadAttr home method (Raw name bytes)
read_raw home method name bytes = record { instrs = tt; operands = tt; frames = tt }

read_code : (home : Home) (method : Method) (name : ℕ) (part : CodePart) → IsReadPart home method part → IsReadAttr home method (Code name part)
read_code home method name part is = record { instrs = is.instrs; operands = is.operands; frames = is.frames }

attr_is_read : (home : Home) (method : Method) (before : List Attr) (at : ℕ) (attr : Attr) → IsRaw attr → AllHold (method_attr_checks home method before at attr) → IsReadAttr home method (entered_attr home.pool attr)
attr_is_read home method before at (Code name part) raw hold = absurd raw
attr_is_read home method before at (Raw name bytes) raw hold = by (is_named home.pool code (Raw name bytes)) refl hold.1
  where
    of_content : (content : Option CodePart) → code_part bytes ≡ content → is_named home.pool code (Raw name bytes) ≡ true → AllHold (named_checks home method before at content) → IsReadAttr home method (entered_attr home.pool (Raw name bytes))
    of_content None is named h = absurd h.1.0
    of_content (Some part) is named h = rw (named, is) (read_code home method name part (part_is_read home method at part h.1))

    by : (named : Bool) → is_named home.pool code (Raw name bytes) ≡ named → AllHold (asked_if named (named_checks home method before at (code_part bytes))) → IsReadAttr home method (entered_attr home.pool (Raw name bytes))
    by true is h = of_content (code_part bytes) refl is h
    by false is h = rw is (read_raw home method name bytes)

record AreReadAttrs (home : Home) (method : Method) (attrs : List Attr) : Type 0 where
  instrs : AllByRecursion HasInstrs attrs
  operands : AllByRecursion (HasOperands home.pool home.major) attrs
  frames : AllByRecursion (HaveFrames home method) attrs

attrs_are_read : (home : Home) (method : Method) (before : List Attr) (at : ℕ) (attrs : List Attr) → AllByRecursion IsRaw attrs → AllHold (attrs_checks (method_attr_checks home method) before at attrs) → AreReadAttrs home method (map (entered_attr home.pool) attrs)
attrs_are_read home method before at [] raw hold = record { instrs = tt; operands = tt; frames = tt }
attrs_are_read home method before at (attr ∷ attrs) raw hold =
    let own = method_attr_checks home method before at attr in
    let others = attrs_checks (method_attr_checks home method) (before ++ attr ∷ []) (at + length (attr_bytes attr)) attrs in
    let first = attr_is_read home method before at attr raw.0 (first_holds own others hold) in
    let rest = attrs_are_read home method (before ++ attr ∷ []) (at + length (attr_bytes attr)) attrs raw.1 (others_hold own others hold) in
    record { instrs = (first.instrs, rest.instrs); operands = (first.operands, rest.operands); frames = (first.frames, rest.frames) }

-- ---- methods

-- what is known of a method
record IsReadIn (home : Home) (method : Method) : Type 0 where
  read : IsReadMethod home.pool method
  operands : AllByRecursion (HasOperands home.pool home.major) method.attrs
  frames : AllByRecursion (HaveFrames home method) method.attrs

-- the frame that a method begins with is the same where its code is entered
frames_entered : (home : Home) (method : Method) (pool : Constants) (attrs : List Attr) → AllByRecursion (HaveFrames home method) attrs → AllByRecursion (HaveFrames home (entered_method pool method)) attrs
frames_entered home method pool [] h = tt
frames_entered home method pool (Raw name bytes ∷ attrs) h = (tt, frames_entered home method pool attrs h.1)
frames_entered home method pool (Code name part ∷ attrs) h = (h.0, frames_entered home method pool attrs h.1)

method_is_read : (home : Home) (before : List Signature) (at : ℕ) (method : Method) → AreRaw method → AllHold (method_checks home before at method) → IsReadIn home (entered_method home.pool method)
method_is_read home before at method raw hold =
    let attrs = attrs_are_read home method [] (at + 8) method.attrs raw hold.1.1.1.1.1.1.1.1 in
    record {
      read = record { there = hold.1.1.1.1.1.1.0; descriptor = hold.1.1.1.1.1.1.1.0; codes = attrs.instrs };
      operands = attrs.operands;
      frames = frames_entered home method home.pool (map (entered_attr home.pool) method.attrs) attrs.frames;
    }

record AreReadIn (home : Home) (methods : List Method) : Type 0 where
  read : AllByRecursion (IsReadMethod home.pool) methods
  operands : AllByRecursion (λ method. AllByRecursion (HasOperands home.pool home.major) method.attrs) methods
  frames : AllByRecursion (λ method. AllByRecursion (HaveFrames home method) method.attrs) methods

methods_are_read : (home : Home) (before : List Signature) (at : ℕ) (methods : List Method) → AllByRecursion AreRaw methods → AllHold (methods_checks home before at methods) → AreReadIn home (map (entered_method home.pool) methods)
methods_are_read home before at [] raw hold = record { read = tt; operands = tt; frames = tt }
methods_are_read home before at (method ∷ methods) raw hold =
    let own = method_checks home before at method in
    let others = methods_checks home (before ++ method_signature method ∷ []) (at + length (method_bytes method)) methods in
    let first = method_is_read home before at method raw.0 (first_holds own others hold) in
    let rest = methods_are_read home (before ++ method_signature method ∷ []) (at + length (method_bytes method)) methods raw.1 (others_hold own others hold) in
    record { read = (first.read, rest.read); operands = (first.operands, rest.operands); frames = (first.frames, rest.frames) }

-- the methods of a class file
pub record IsReadClass (class : ClassFile) : Type 0 where
  pub read : HasReadMethods class
  pub operands : HasReadOperands class
  pub frames : HasReadFrames class

pub class_is_read : (bytes : List ℕ) (class : ClassFile) → ClassOf bytes class → IsReadClass class
class_is_read bytes class is =
    let c = is.cut in
    let are = methods_are_read (home_of c) [] (methods_place c + 2) c.methods (class_cut is.version is.rest c is.is_cut) (parts_hold c is.holds).methods in
    subst IsReadClass (sym is.is) (record { read = are.read; operands = are.operands; frames = are.frames })
