-- What reading a class file asked of its pool, of its methods' names and of their code.
use Rattle.std.proofs.Common.{◌≡◌, ◌+◌, ◌*◌, ◌||◌, ◌++◌, ℕ, Bool, true, false, List, [], ◌∷◌, map, length, slice_get, Option, Some, None, Result, Ok, Err, IsTrue, IsFalse, refl, sym, subst}
use Rattle.std.specs.Prelude.{IsSome, option_and_then}
use Rattle.std.specs.List.{AllByRecursion}
use Rattle.class_model.specs.Checks.{AllHold, Check, Fault, asked_if, asked_of, check}
use Rattle.class_model.specs.ClassOf.{entered_attr, entered_method, methods_checks}
use Rattle.class_model.specs.Code.{OperandFits, code_part, handlers_checks, in_table, inner_is_named, inners_checks, jump_checks, operand_checks, stack_map_table}
use Rattle.class_model.specs.Frames.{Setting, stack_map_table_at}
use Rattle.class_model.specs.Instructions.{decoded}
use Rattle.class_model.specs.Laws.Checks.{first_holds, others_hold}
use Rattle.class_model.specs.Laws.ClassFiles.{methods_place, parts_hold}
use Rattle.class_model.specs.Laws.Codes.{code_has}
use Rattle.class_model.specs.Laws.Lists.{AllByRecursion-weaker, at_index}
use Rattle.class_model.specs.Members.{Signature, attrs_checks, class_name_checks, has_named, is_named}
use Rattle.class_model.specs.MethodCode.{code_of}
use Rattle.class_model.specs.Methods.{Home, code, content_checks, entry_of, home_of, instructions_checks, method_attr_checks, method_checks, method_signature, part_checks, placed_at}
use Rattle.class_model.specs.Pool.{Constants, constant_at}
use Rattle.class_model.specs.PoolChecks.{IsClassAt, class_at, class_name_of, utf8_at}
use Rattle.class_model.specs.Spelling.{attr_bytes, inner_bytes, method_bytes}
use Rattle.class_model.specs.Stated.{stated_frames}
use Rattle.class_model.specs.declared.class_file.Attr.{Attr}
use Rattle.class_model.specs.declared.class_file.Attr.TheVariants.{Raw, Code}
use Rattle.class_model.specs.declared.class_file.ClassFile.{ClassFile}
use Rattle.class_model.specs.declared.class_file.CodePart.{CodePart}
use Rattle.class_model.specs.declared.class_file.Handler.{Handler}
use Rattle.class_model.specs.declared.class_file.InnerAttr.{InnerAttr}
use Rattle.class_model.specs.declared.class_file.Method.{Method}
use Rattle.class_model.specs.declared.fault.FileRule.TheVariants as rules
use Rattle.class_model.specs.declared.frame.Frame.{Frame}
use Rattle.class_model.specs.declared.frame.PlacedFrame.{PlacedFrame}
use Rattle.class_model.specs.declared.instr.Placed.{Placed}
use Rattle.class_tree.specs.Headers.{IsClassFile}
use Rattle.code_bytes.specs.Codes.{HaveOperands}
use Rattle.type_rules.proofs.Grown.Codes.{IsAskedAttr, IsAskedClass, IsAskedCode, IsAskedHandler, IsAskedInner, IsAskedNames}
use Rattle.type_rules.proofs.Grown.RawParts.{AreRaw, IsRaw, class_cut}

-- ---- the code

operands_fit : (start : ℕ) (pool : Constants) (major max_locals : ℕ) (instrs : List Placed) → AllHold (operand_checks start pool major max_locals instrs)
    → AllByRecursion (λ placed. OperandFits pool major max_locals placed.instr) instrs
operands_fit start pool major max_locals [] h = tt
operands_fit start pool major max_locals (placed ∷ instrs) h = (h.0, operands_fit start pool major max_locals instrs h.1)

handlers_asked : (pool : Constants) (instrs : List Placed) (len at : ℕ) (handlers : List Handler) → AllHold (handlers_checks pool instrs len at handlers)
    → AllByRecursion (IsAskedHandler pool) handlers
handlers_asked pool instrs len at [] h = tt
handlers_asked pool instrs len at (handler ∷ handlers) h = (h.1.0, handlers_asked pool instrs len (at + 8) handlers h.1.1)

table_read : (at : ℕ) (read : Result (List PlacedFrame) Fault) → AllHold (asked_of (in_table at read) (λ frames. [])) → (frames : List PlacedFrame) × (read ≡ Ok frames)
table_read at (Ok frames) h = (frames, refl)
table_read at (Err f) h = absurd h.0

-- an attribute of a code, over a setting
record InnerAsked (s : Setting) (entry : Frame) (attr : InnerAttr) : Type 0 where
  name : IsSome (utf8_at s.pool attr.name)
  frames : IsTrue (inner_is_named s.pool stack_map_table attr) → (frames : List PlacedFrame) × (stack_map_table_at s entry attr.bytes ≡ Ok frames)

inners_asked : (s : Setting) (entry : Frame) (had : Bool) (at : ℕ) (attrs : List InnerAttr) → AllHold (inners_checks s entry had at attrs) → AllByRecursion (InnerAsked s entry) attrs
inners_asked s entry had at [] h = tt
inners_asked s entry had at (attr ∷ attrs) h =
    let named = inner_is_named s.pool stack_map_table attr in
    let table = check at rules.Twice (IsFalse had) ∷ asked_of (in_table at (stack_map_table_at s entry attr.bytes)) (λ frames. []) in
    let others = inners_checks s entry (had || named) (at + length (inner_bytes attr)) attrs in (
      record { name = h.0; frames = by named (first_holds (asked_if named table) others h.1) },
      inners_asked s entry (had || named) (at + length (inner_bytes attr)) attrs (others_hold (asked_if named table) others h.1),
    )
  where
    by : (named : Bool) → AllHold (asked_if named (check at rules.Twice (IsFalse had) ∷ asked_of (in_table at (stack_map_table_at s entry attr.bytes)) (λ frames. []))) → IsTrue named
        → (frames : List PlacedFrame) × (stack_map_table_at s entry attr.bytes ≡ Ok frames)
    by true asked is = table_read at (stack_map_table_at s entry attr.bytes) asked.1
    by false asked is = absurd cc

-- the code of a method, in its home
record PartAsked (home : Home) (method : Method) (part : CodePart) : Type 0 where
  operands : HaveOperands home.pool home.major part.max_locals (decoded part.code)
  handlers : AllByRecursion (IsAskedHandler home.pool) part.handlers
  attrs : AllByRecursion (λ (attr : InnerAttr). IsSome (utf8_at home.pool attr.name)
      × (IsTrue (inner_is_named home.pool stack_map_table attr) → (frames : List PlacedFrame) × (stated_frames home method part (decoded part.code) attr ≡ Ok frames))) part.attrs

part_asked : (home : Home) (method : Method) (at : ℕ) (part : CodePart) → AllHold (part_checks home method at part) → PartAsked home method part
part_asked home method at part hold = by (decoded part.code) refl hold.1.1 where
  by : (read : Result (List Placed) Fault) → decoded part.code ≡ read → AllHold (asked_of (placed_at (at + 14) read) (instructions_checks home method at part)) → PartAsked home method part
  by (Err f) is h = absurd h.0
  by (Ok instrs) is h =
      let start = at + 14 in
      let table = start + length part.code + 2 in
      let setting : Setting = record { pool = home.pool; max_locals = part.max_locals; max_stack = part.max_stack; code = instrs } in
      let entry = entry_of home method part in
      let jumps = jump_checks start instrs instrs in
      let operands = operand_checks start home.pool home.major part.max_locals instrs in
      let handlers = handlers_checks home.pool instrs (length part.code) table part.handlers in
      let inners = inners_checks setting entry false (table + 8 * length part.handlers + 2) part.attrs in
      let three = first_holds (jumps ++ operands ++ handlers) inners h in
      record {
        operands = subst (λ (r : Result (List Placed) Fault). HaveOperands home.pool home.major part.max_locals r) (sym is)
            (operands_fit start home.pool home.major part.max_locals instrs (others_hold jumps operands (first_holds (jumps ++ operands) handlers three)));
        handlers = handlers_asked home.pool instrs (length part.code) table part.handlers (others_hold (jumps ++ operands) handlers three);
        attrs = AllByRecursion-weaker (InnerAsked setting entry) _
            (λ attr asked. (
              asked.name,
              λ named.
                  let frames = asked.frames named in
                  (frames.0, subst (λ (r : Result (List Placed) Fault). stated_frames home method part r attr ≡ Ok frames.0) (sym is) frames.1),
            )) part.attrs (inners_asked setting entry false (table + 8 * length part.handlers + 2) part.attrs (others_hold (jumps ++ operands ++ handlers) inners h));
      }

-- ---- an attribute of a method

abbrev AttrAsked : Home → Method → Attr → Type 0
AttrAsked home method (Code name part) = PartAsked home method part
AttrAsked home method (Raw name bytes) = Unit {0}

abbrev named_checks : Home → Method → List Attr → ℕ → Option CodePart → List (Check Fault)
named_checks home method before at content = check at rules.Twice (IsFalse (has_named home.pool code before)) ∷ content_checks home method at content

attr_asked : (home : Home) (method : Method) (before : List Attr) (at : ℕ) (attr : Attr) → IsRaw attr → AllHold (method_attr_checks home method before at attr)
    → AttrAsked home method (entered_attr home.pool attr)
attr_asked home method before at (Code name part) raw hold = absurd raw
attr_asked home method before at (Raw name bytes) raw hold = by (is_named home.pool code (Raw name bytes)) refl hold.1 where
  of_content : (content : Option CodePart) → code_part bytes ≡ content → is_named home.pool code (Raw name bytes) ≡ true → AllHold (named_checks home method before at content)
      → AttrAsked home method (entered_attr home.pool (Raw name bytes))
  of_content None is named h = absurd h.1.0
  of_content (Some part) is named h = rw (named, is) (part_asked home method at part h.1)

  by : (named : Bool) → is_named home.pool code (Raw name bytes) ≡ named → AllHold (asked_if named (named_checks home method before at (code_part bytes)))
      → AttrAsked home method (entered_attr home.pool (Raw name bytes))
  by true is h = of_content (code_part bytes) refl is h
  by false is h = rw is tt

attrs_asked : (home : Home) (method : Method) (before : List Attr) (at : ℕ) (attrs : List Attr) → AllByRecursion IsRaw attrs
    → AllHold (attrs_checks (method_attr_checks home method) before at attrs) → AllByRecursion (AttrAsked home method) (map (entered_attr home.pool) attrs)
attrs_asked home method before at [] raw hold = tt
attrs_asked home method before at (attr ∷ attrs) raw hold =
    let own = method_attr_checks home method before at attr in
    let others = attrs_checks (method_attr_checks home method) (before ++ attr ∷ []) (at + length (attr_bytes attr)) attrs in
    (attr_asked home method before at attr raw.0 (first_holds own others hold), attrs_asked home method (before ++ attr ∷ []) (at + length (attr_bytes attr)) attrs raw.1 (others_hold own others hold))

-- ---- a method

-- its names, and its code, which begins with the same frame and states the same where it is entered
record MethodAsked (home : Home) (method : Method) : Type 0 where
  names : IsAskedNames home.pool method
  attrs : AllByRecursion (AttrAsked home method) method.attrs

entered_part : (home : Home) (method : Method) (pool : Constants) (part : CodePart) → PartAsked home method part → PartAsked home (entered_method pool method) part
entered_part home method pool part asked = record { operands = asked.operands; handlers = asked.handlers; attrs = attrs } where
  attrs : AllByRecursion (λ (attr : InnerAttr). IsSome (utf8_at home.pool attr.name)
      × (IsTrue (inner_is_named home.pool stack_map_table attr) → (frames : List PlacedFrame) × (stated_frames home (entered_method pool method) part (decoded part.code) attr ≡ Ok frames))) part.attrs
  attrs = by (decoded part.code) refl where
    by : (read : Result (List Placed) Fault) → decoded part.code ≡ read → AllByRecursion (λ (attr : InnerAttr). IsSome (utf8_at home.pool attr.name)
        × (IsTrue (inner_is_named home.pool stack_map_table attr) → (frames : List PlacedFrame) × (stated_frames home (entered_method pool method) part (decoded part.code) attr ≡ Ok frames))) part.attrs
    by (Ok instrs) is = rw is (rw is at asked.attrs)
    by (Err f) is = rw is (rw is at asked.attrs)

entered_attrs : (home : Home) (method : Method) (pool : Constants) (attr : Attr) → AttrAsked home method attr → AttrAsked home (entered_method pool method) attr
entered_attrs home method pool (Raw name bytes) asked = tt
entered_attrs home method pool (Code name part) asked = entered_part home method pool part asked

method_asked : (home : Home) (before : List Signature) (at : ℕ) (method : Method) → AreRaw method → AllHold (method_checks home before at method)
    → MethodAsked home (entered_method home.pool method)
method_asked home before at method raw hold =
    let attrs = attrs_asked home method [] (at + 8) method.attrs raw hold.1.1.1.1.1.1.1.1 in
    record {
      names = record { name = hold.1.1.1.1.0; desc = hold.1.1.1.1.1.1.0 };
      attrs = AllByRecursion-weaker (AttrAsked home method) (AttrAsked home (entered_method home.pool method)) (entered_attrs home method home.pool) (map (entered_attr home.pool) method.attrs) attrs;
    }

methods_asked : (home : Home) (before : List Signature) (at : ℕ) (methods : List Method) → AllByRecursion AreRaw methods → AllHold (methods_checks home before at methods)
    → AllByRecursion (MethodAsked home) (map (entered_method home.pool) methods)
methods_asked home before at [] raw hold = tt
methods_asked home before at (method ∷ methods) raw hold =
    let own = method_checks home before at method in
    let others = methods_checks home (before ++ method_signature method ∷ []) (at + length (method_bytes method)) methods in (
      method_asked home before at method raw.0 (first_holds own others hold),
      methods_asked home (before ++ method_signature method ∷ []) (at + length (method_bytes method)) methods raw.1 (others_hold own others hold),
    )

-- ---- a class file

no_some : (X : Type 0) → IsSome {T = X} None → ⊥
no_some X h = absurd cc

-- a class that is named by a text
class_there : (pool : Constants) (index : ℕ) → IsSome (class_at pool index) → IsClassAt pool index
class_there pool index h = by (option_and_then class_name_of (constant_at pool index)) refl where
  by : (o : Option ℕ) → option_and_then class_name_of (constant_at pool index) ≡ o → IsClassAt pool index
  by (Some n) e = rw e refl
  by None e = absurd (no_some (List ℕ) (subst (λ o. IsSome (option_and_then (utf8_at pool) o)) e h))

-- a class that is named is there, and the name is that of one
pub named_class : (pool : Constants) (at index : ℕ) → AllHold (class_name_checks pool at index) → IsClassAt pool index
named_class pool at index h = class_there pool index h.0

pub class_asked : (class : ClassFile) → IsClassFile class → IsAskedClass class
class_asked class is =
    let parts = parts_hold is.cut is.holds in
    subst IsAskedClass (sym is.is) (record { constants = parts.pool; this_class = class_there is.cut.pool is.cut.this_class parts.this_class.0 })

each_asked : (class : ClassFile) → IsClassFile class → AllByRecursion (MethodAsked (home_of class)) class.methods
each_asked class is =
    subst (λ (c : ClassFile). AllByRecursion (MethodAsked (home_of c)) c.methods) (sym is.is)
    (methods_asked (home_of is.cut) [] (methods_place is.cut + 2) is.cut.methods (class_cut is.version is.rest is.cut is.is_cut).methods (parts_hold is.cut is.holds).methods)

pub each_names : (class : ClassFile) → IsClassFile class → AllByRecursion (IsAskedNames class.pool) class.methods
each_names class is = AllByRecursion-weaker (MethodAsked (home_of class)) (IsAskedNames class.pool) (λ method asked. asked.names) class.methods (each_asked class is)

module _ (class : ClassFile) (is : IsClassFile class) (number : ℕ) (method : Method) (there : slice_get class.methods number ≡ Some method) where
  asked_here : MethodAsked (home_of class) method
  asked_here = at_index (MethodAsked (home_of class)) class.methods number method (each_asked class is) there

  pub names_asked : IsAskedNames class.pool method
  names_asked = asked_here.names

  part_is : (part : CodePart) → PartAsked (home_of class) method part → IsAskedCode class method part
  part_is part asked = record {
    operands = asked.operands;
    handlers = asked.handlers;
    attrs = AllByRecursion-weaker _ (IsAskedInner class method part) (λ attr h. record { name = h.0; frames = h.1 }) part.attrs asked.attrs;
  }

  attr_is : (attr : Attr) → AttrAsked (home_of class) method attr → IsAskedAttr class method attr
  attr_is (Raw name bytes) asked = tt
  attr_is (Code name part) asked = part_is part asked

  -- each code among the attributes of the method
  pub codes_asked : AllByRecursion (IsAskedAttr class method) method.attrs
  codes_asked = AllByRecursion-weaker (AttrAsked (home_of class) method) (IsAskedAttr class method) attr_is method.attrs asked_here.attrs

  pub code_asked : (part : CodePart) → code_of method.attrs ≡ Some part → IsAskedCode class method part
  code_asked part of_method =
      code_has (IsAskedAttr class method) (IsAskedCode class method) (λ name own asked. asked) method.attrs part codes_asked of_method
