-- A field constructor is typed where it stands in the written class.
use Rattle.std.proofs.Common.{◌≡◌, ◌++◌, ◌+◌, ◌-◌, ◌*◌, ◌^◌, ◌≤◌, ◌<◌, ◌∙◌, max, ℕ, Bool as BoolType, true, false, if◌then◌else◌, bytes_eq, List, [], ◌∷◌, length, map, replicate, Option, Some, None, Ok, refl, sym, ap, subst, arith, append-nil, length-append}
use Rattle.std.specs.List.{AllByRecursion, flat_map}
use Rattle.std.proofs.Math.Nat.{le-max_left, le-max_right}
use Rattle.std.proofs.lemmas.Grind.{flat_map-append}
use Rattle.std.proofs.lemmas.List.{drop_all, length-map, map-append}
use Rattle.std.proofs.lemmas.Option.{same_Some}
use Rattle.class_model.specs.Checks.{AllHold, Check}
use Rattle.class_model.specs.Code.{entry_frame, verification_type}
use Rattle.class_model.specs.Descriptors.{kind_of, parameters_of, type_of}
use Rattle.class_model.specs.Frames.{depth, filled, units, units_of_entries}
use Rattle.class_model.specs.Header.{header_of}
use Rattle.class_model.specs.Instructions.{decoded, targets}
use Rattle.class_model.specs.Laws.Checks.{both_hold}
use Rattle.class_model.specs.Members.{PUBLIC}
use Rattle.class_model.specs.MethodCode.{code_of}
use Rattle.class_model.specs.Methods.{home_of}
use Rattle.class_model.specs.Names.{init}
use Rattle.class_model.specs.Pool.{Constants}
use Rattle.class_model.specs.PoolChecks.{text_or_empty, utf8_at}
use Rattle.class_model.specs.declared.class_file.ClassFile.{ClassFile}
use Rattle.class_model.specs.declared.class_file.CodePart.{CodePart}
use Rattle.class_model.specs.declared.class_file.Handler.{Handler}
use Rattle.class_model.specs.declared.descriptor.FieldType.{FieldType}
use Rattle.class_model.specs.declared.descriptor.FieldType.TheVariants.{Byte, Char, Short, Bool, Int, Long, Float, Double, Named}
use Rattle.class_model.specs.declared.descriptor.Kind.TheVariants as kinds
use Rattle.class_model.specs.declared.frame.Frame.{Frame}
use Rattle.class_model.specs.declared.frame.VType.{VType}
use Rattle.class_model.specs.declared.frame.VType.TheVariants as types
use Rattle.class_model.specs.declared.header.Member.{Member}
use Rattle.class_model.specs.declared.instr.Instr.{Instr}
use Rattle.class_model.specs.declared.instr.Instr.TheVariants.{Return}
use Rattle.class_model.specs.declared.instr.Placed.{Placed}
use Rattle.class_tree.specs.Headers.{IsClassFile, Headers, Name}
use Rattle.class_tree.specs.Layouts.{instance_fields, own_fields}
use Rattle.class_tree.specs.Names.{object}
use Rattle.code_bytes.specs.Forms.{instr_bytes}
use Rattle.making_code.specs.Constants.{text_index}
use Rattle.making_code.specs.ConstructorCode.{SYNTHETIC, bytes_from, constructor_depth, constructor_instrs, depth_of_call, depth_of_stores, greatest_units, indexed_instr}
use Rattle.making_code.specs.FieldConstructor.{CInstr, call_above, constructor_items, fields_above, puts_from, simple, super_call, units_of_fields}
use Rattle.making_code.specs.Laws.AddedConstants.{Compares}
use Rattle.member_link.specs.Bodies.{Body, BodyCatch, BodyPoint, flows_on}
use Rattle.member_link.specs.BodyTyping.{RowHolds}
use Rattle.member_link.specs.RowScope.{RowScope}
use Rattle.member_link.specs.Rows.MemberRows.{MayReturn, NoUninitThis}
use Rattle.member_link.specs.Rows.Operands.{AllFit, under}
use Rattle.member_link.specs.Rows.Row.{Row, row_frame}
use Rattle.member_link.specs.Rows.Table.{row_of}
use Rattle.member_link.specs.Scope.{Scope, instructions, row_scope}
use Rattle.member_link.specs.Signatures.{result_of}
use Rattle.row_frames.specs.Laws.MorePools.{text_more}
use Rattle.type_rules.specs.Checks.{IsTypedAt, handler_checks, target_checks}
use Rattle.type_rules.specs.Grown.{IsGrownClass, IsGrownHeader}
use Rattle.type_rules.specs.Handlers.{caught_in, catches_at}
use Rattle.type_rules.specs.MethodBodies.{body_of, point_of}
use Rattle.type_rules.specs.Rule.{row_checks}
use Rattle.type_rules.specs.Typed.{AreTyped, CaughtIsThrowable, Typed}
use Rattle.type_rules.specs.declared.fault.TypeRule.{TypeRule}
use Rattle.written_files.proofs.FieldConstructors.Bytes.{IsSmall, Spells, decoded_back, placed}
use Rattle.written_files.proofs.FieldConstructors.Calls.{both_small, call_many, call_small, call_steps, puts_many, puts_small, small_return}
use Rattle.written_files.proofs.FieldConstructors.Constants.{Names, items_named}
use Rattle.written_files.proofs.FieldConstructors.Member.{HasTexts, texts_had}
use Rattle.written_files.proofs.FieldConstructors.Sequences.{entries, entries_deep, fields_both, held, no_this, puts_steps}
use Rattle.written_files.proofs.FieldConstructors.Steps.{Steps, framed, steps_both}
use Rattle.written_files.specs.FieldConstructors.{IsConstructorIn}

-- ---- a code without handlers and stated frames

module _ (s : Scope) (no_handlers : s.part.handlers ≡ []) (no_attrs : s.part.attrs ≡ []) where
  abbrev body : Body
  body = body_of s

  none_stated : (at : ℕ) → body.stated at ≡ None
  none_stated at = rw (no_attrs) refl

  no_catches : (at : ℕ) → catches_at s at s.part.handlers ≡ []
  no_catches at = rw (no_handlers) refl

  abbrev point_at : ℕ → Instr → BodyPoint
  point_at at instr = point_of s (record { at = at; len = length (instr_bytes at instr); instr = instr })

  row_all : (f : Frame) (row : Row) → RowHolds (row_scope s) f row → AllHold (row_checks (row_scope s) f row)
  row_all f row h = (h.operands, (h.local, (h.depth_fits, ((h.further, h.access), tt))))

  typed_here : (at : ℕ) (instr : Instr) (f : Frame) → RowHolds (row_scope s) f (row_of (row_scope s) f at instr)
      → targets instr ≡ []
      → IsTypedAt body (Some f) (point_at at instr) f
  typed_here at instr f holds no_targets =
      let row = row_of (row_scope s) f at instr in
      let of_handlers : List (Check TypeRule) = handler_checks body f (catches_at s at s.part.handlers) in
      let of_row : List (Check TypeRule) = row_checks (row_scope s) f row in
      let of_targets : List (Check TypeRule) = target_checks body (row_frame f row) (targets instr) in
      let handlers : AllHold of_handlers = subst (λ (catches : List BodyCatch). AllHold (handler_checks body f catches)) (sym (no_catches at)) tt in
      let targets : AllHold of_targets = subst (λ (all : List ℕ). AllHold (target_checks body (row_frame f row) all)) (sym no_targets) tt in
      record {
        before_is = rw (none_stated at) refl;
        holds = (
          rw (none_stated at) tt,
          both_hold (of_handlers ++ of_row) of_targets (both_hold of_handlers of_row handlers (row_all f row holds)) targets,
        );
      }

  -- it may return behind this frame, and nothing is on the stack
  pub record Ends (f : Frame) : Type 0 where
    pub may : MayReturn (row_scope s) f
    pub empty : f.stack ≡ []

  return_holds : (f : Frame) (at : ℕ) → Ends f → RowHolds (row_scope s) f (row_of (row_scope s) f at (Return None))
  return_holds f at ends = record {
    operands = subst (AllFit (row_scope s) []) (sym (drop_all (length f.stack - 0) f.stack (omega arith))) tt;
    local = tt;
    depth_fits = subst (λ (stack : List VType). depth (under 0 stack ++ []) ≤ (row_scope s).max_stack) (sym ends.empty) (omega arith);
    further = ends.may;
    access = tt;
  }

  pub typed_by_steps : (at : ℕ) (instrs : List Instr) (f last : Frame) → Steps (row_scope s) instrs f last → Ends last
      → (frames : List Frame) × AreTyped body (Some f) (map (point_of s) (placed at (instrs ++ Return None ∷ []))) frames
  typed_by_steps at [] f last steps may =
      let here : Ends f = subst Ends (sym steps) may in
      (f ∷ [], (typed_here at (Return None) f (return_holds f at here) refl, refl))
  typed_by_steps at (instr ∷ instrs) f last (next, step, rest) may =
      let below = typed_by_steps (at + length (instr_bytes at instr)) instrs next last rest may in
      let flows : flows_on (point_at at instr) f ≡ Some next = rw (step.falls) (step.left at) in (
        f ∷ below.0,
        (
          typed_here at instr f (step.held at) step.no_targets,
          subst (λ (flow : Option Frame). AreTyped body flow (map (point_of s) (placed (at + length (instr_bytes at instr)) (instrs ++ Return None ∷ []))) below.0)
              (sym flows) below.1,
        ),
      )

-- ---- the constructor

-- what the laws of other crates say
pub record Laws : Type 0 where
  pub compares : Compares
  pub spells : Spells
  pub header : (old new : ClassFile) → IsClassFile old → IsGrownClass old new → IsGrownHeader (header_of old) (header_of new)

one_unit : (last : FieldType) → kind_of last ≡ kinds.Ref → units (verification_type last) ≡ verification_type last ∷ []
one_unit (Named name) is = refl
one_unit Byte is = absurd cc
one_unit Char is = absurd cc
one_unit Short is = absurd cc
one_unit Bool is = absurd cc
one_unit Int is = absurd cc
one_unit Long is = absurd cc
one_unit Float is = absurd cc
one_unit Double is = absurd cc

no_this_last : (last : FieldType) → NoUninitThis (verification_type last ∷ [])
no_this_last (Named name) = (λ e. absurd cc, tt)
no_this_last Byte = (λ e. absurd cc, tt)
no_this_last Char = (λ e. absurd cc, tt)
no_this_last Short = (λ e. absurd cc, tt)
no_this_last Bool = (λ e. absurd cc, tt)
no_this_last Int = (λ e. absurd cc, tt)
no_this_last Long = (λ e. absurd cc, tt)
no_this_last Float = (λ e. absurd cc, tt)
no_this_last Double = (λ e. absurd cc, tt)

module _ (laws : Laws) (headers : Headers) (constructor : Name → List ℕ) (file : ClassFile) (s : Scope)
    (c : IsConstructorIn headers constructor file s) where
  abbrev name : Name
  name = (header_of file).name

  abbrev scope : RowScope
  scope = row_scope s

  abbrev fields : List Member
  fields = instance_fields headers name

  abbrev own : List Member
  own = own_fields headers name

  abbrev last : FieldType
  last = c.described.last

  -- ---- its part

  pub part_same : s.part ≡ c.method.part
  part_same =
      same_Some s.part c.method.part (sym c.code ∙ ap code_of c.method.attrs)

  code_is : s.part.code ≡ bytes_from 0 (constructor_instrs headers c.pool constructor name)
  code_is = ap (λ (part : CodePart). part.code) part_same ∙ c.method.is_part.code

  pub no_handlers : s.part.handlers ≡ []
  no_handlers = ap (λ (part : CodePart). part.handlers) part_same ∙ c.method.is_part.handlers

  pub no_attrs : s.part.attrs ≡ []
  no_attrs = ap (λ (part : CodePart). part.attrs) part_same ∙ c.method.is_part.attrs

  stack_is : s.part.max_stack ≡ constructor_depth headers name
  stack_is = ap (λ (part : CodePart). part.max_stack) part_same ∙ c.method.is_part.max_stack

  pub locals_are : s.part.max_locals ≡ 1 + units_of_fields fields + 1
  locals_are = ap (λ (part : CodePart). part.max_locals) part_same ∙ c.method.is_part.max_locals

  -- ---- its constants

  pub texts : HasTexts headers constructor name c.pool
  texts = texts_had laws.compares headers constructor name c.before c.pool c.grows

  pub text_there : (index : ℕ) (text : List ℕ) → utf8_at c.pool index ≡ Some text → utf8_at s.class.pool index ≡ Some text
  text_there index text is = ap (λ (all : Constants). utf8_at all index) c.has ∙ text_more c.pool c.more index text is

  pub name_text : utf8_at s.class.pool s.method.name ≡ Some init
  name_text =
      ap (utf8_at s.class.pool) c.method.name
      ∙ text_there (text_index c.pool init) init texts.name

  pub desc_text : utf8_at s.class.pool s.method.desc ≡ Some (constructor name)
  desc_text =
      ap (utf8_at s.class.pool) c.method.desc
      ∙ text_there (text_index c.pool (constructor name)) (constructor name) texts.desc

  -- ---- what its rows read

  grown : IsGrownHeader (header_of file) (header_of s.class)
  grown = laws.header file s.class c.is_class_file c.class

  pub own_name : scope.own.name ≡ name
  own_name = grown.alike.same_name

  own_super : scope.own.super_name ≡ Some c.above
  own_super = grown.alike.same_super ∙ c.superclass

  pub no_result : scope.result ≡ None
  no_result = ap (λ (text : Option (List ℕ)). result_of (text_or_empty text)) desc_text ∙ c.described.no_result

  -- ---- its items

  abbrev by_above : Option Name → List CInstr
  by_above super = call_above headers super ++ puts_from name (1 + units_of_fields (fields_above headers super)) own

  abbrev pub first_put : ℕ
  first_put = 1 + units_of_fields (instance_fields headers c.above)

  abbrev pub front : List CInstr
  front = super_call headers c.above ++ puts_from name first_put own

  pub items_are : constructor_items headers name ≡ front ++ simple (Return None) ∷ []
  items_are = ap (λ (super : Option Name). by_above super ++ simple (Return None) ∷ []) c.is_above

  abbrev pub indexed : List CInstr → List Instr
  indexed items = map (indexed_instr c.pool constructor) items

  pub instrs_are : constructor_instrs headers c.pool constructor name ≡ indexed front ++ Return None ∷ []
  instrs_are =
      ap (map (indexed_instr c.pool constructor)) items_are
      ∙ map-append (indexed_instr c.pool constructor) front (simple (Return None) ∷ [])

  named_all : AllByRecursion (Names constructor c.pool scope.pool) (front ++ simple (Return None) ∷ [])
  named_all =
      subst (AllByRecursion (Names constructor c.pool scope.pool)) items_are
      (subst (λ (all : Constants). AllByRecursion (Names constructor c.pool all) (constructor_items headers name)) (sym c.has)
      (items_named laws.compares 65535 constructor c.pool c.more texts.items_from (constructor_items headers name) texts.items_grow))

  first_of : (P : CInstr → Type 0) (one other : List CInstr) → AllByRecursion P (one ++ other) → AllByRecursion P one
  first_of P [] other all = tt
  first_of P (item ∷ one) other all = (all.0, first_of P one other all.1)

  last_of : (P : CInstr → Type 0) (one other : List CInstr) → AllByRecursion P (one ++ other) → AllByRecursion P other
  last_of P [] other all = all
  last_of P (item ∷ one) other all = last_of P one other all.1

  named_front : AllByRecursion (Names constructor c.pool scope.pool) front
  named_front = first_of (Names constructor c.pool scope.pool) front (simple (Return None) ∷ []) named_all

  pub named_call : AllByRecursion (Names constructor c.pool scope.pool) (super_call headers c.above)
  named_call = first_of (Names constructor c.pool scope.pool) (super_call headers c.above) (puts_from name first_put own) named_front

  pub named_puts : AllByRecursion (Names constructor c.pool scope.pool) (puts_from name first_put own)
  named_puts = last_of (Names constructor c.pool scope.pool) (super_call headers c.above) (puts_from name first_put own) named_front

  -- ---- its bytes

  pub units_both : units_of_fields fields ≡ units_of_fields (instance_fields headers c.above) + units_of_fields own
  units_both = ap units_of_fields c.fields ∙ fields_both (instance_fields headers c.above) own

  pub small : AllByRecursion IsSmall (indexed (front ++ simple (Return None) ∷ []))
  small =
      let few = c.few in
      let units_sum = units_both in
      both_small c.pool scope.pool constructor c.count front (simple (Return None) ∷ [])
      (both_small c.pool scope.pool constructor c.count (super_call headers c.above) (puts_from name first_put own)
      (call_small c.pool scope.pool constructor c.count headers c.above (omega (arith, few, units_sum)) named_call)
      (puts_small c.pool scope.pool constructor c.count name first_put own (omega (arith, few, units_sum)) named_puts))
      (small_return, tt)

  pub many : 4 * length (indexed (front ++ simple (Return None) ∷ [])) < 2 ^ 31
  many =
      let few = c.few in
      let units_sum = units_both in
      let calls = call_many headers c.above in
      let puts = puts_many name first_put own in
      let all = length-map (front ++ simple (Return None) ∷ []) (indexed_instr c.pool constructor) in
      let whole = length-append front (simple (Return None) ∷ []) in
      let parts = length-append (super_call headers c.above) (puts_from name first_put own) in
      omega (arith, few, units_sum, calls, puts, all, whole, parts)

  abbrev pub instrs : List Instr
  instrs = indexed front ++ Return None ∷ []

  pub code_spelled : s.part.code ≡ bytes_from 0 instrs
  code_spelled =
      code_is
      ∙ ap (λ (all : List CInstr). bytes_from 0 (indexed all)) items_are
      ∙ ap (bytes_from 0) (map-append (indexed_instr c.pool constructor) front (simple (Return None) ∷ []))

  pub decodes : decoded s.part.code ≡ Ok (placed 0 instrs)
  decodes =
      ap decoded code_is
      ∙ ap (λ (all : List CInstr). decoded (bytes_from 0 (indexed all))) items_are
      ∙ decoded_back laws.spells (indexed (front ++ simple (Return None) ∷ [])) small many
      ∙ ap (λ (all : List Instr). Ok (placed 0 all)) (map-append (indexed_instr c.pool constructor) front (simple (Return None) ∷ []))

  pub instructions_are : instructions s ≡ placed 0 instrs
  instructions_are = rw (decodes) refl

  -- ---- the frame that it begins with

  abbrev locals_with : VType → List VType
  locals_with this = held scope c.pool constructor fields this (verification_type last)

  abbrev parameters : List FieldType
  parameters = map (λ (field : Member). type_of field.desc) fields

  units_are : units_of_entries (types.UninitThis ∷ map verification_type (parameters ++ last ∷ [])) ≡ locals_with types.UninitThis
  units_are =
      ap (λ (all : List VType). types.UninitThis ∷ all)
      (ap (flat_map units) (map-append verification_type parameters (last ∷ []))
      ∙ flat_map-append units (map verification_type parameters) (verification_type last ∷ [])
      ∙ ap (λ (all : List VType). flat_map units (entries fields) ++ all)
      (append-nil (units (verification_type last)) ∙ one_unit last c.described.is_reference))

  filled_are : filled (1 + units_of_fields fields + 1) (types.UninitThis ∷ map verification_type (parameters ++ last ∷ [])) ≡ locals_with types.UninitThis
  filled_are =
      let count : length (locals_with types.UninitThis) ≡ 1 + units_of_fields fields + 1 =
      (let two = length-append (flat_map units (entries fields)) (verification_type last ∷ []) in
      let deep = entries_deep fields in
      omega (arith, two, deep)) in
      let none : 1 + units_of_fields fields + 1 - length (locals_with types.UninitThis) ≡ 0 = omega (arith, count) in
      ap (λ (all : List VType). all ++ replicate (1 + units_of_fields fields + 1 - length all) types.Top) units_are
      ∙ ap (λ (n : ℕ). locals_with types.UninitThis ++ replicate n types.Top) none
      ∙ append-nil (locals_with types.UninitThis)

  abbrev entry_by : ℕ → List ℕ → List FieldType → ℕ → Frame
  entry_by flags text params room = entry_frame flags text (home_of s.class).name params room

  entry_is : (body_of s).entry ≡ framed (locals_with types.UninitThis) []
  entry_is =
      ap (λ (flags : ℕ). entry_by flags (text_or_empty (utf8_at s.class.pool s.method.name))
      (parameters_of (text_or_empty (utf8_at s.class.pool s.method.desc))) s.part.max_locals) c.method.flags
      ∙ ap (λ (text : Option (List ℕ)). entry_by (PUBLIC + SYNTHETIC) (text_or_empty text)
      (parameters_of (text_or_empty (utf8_at s.class.pool s.method.desc))) s.part.max_locals) name_text
      ∙ ap (λ (text : Option (List ℕ)). entry_by (PUBLIC + SYNTHETIC) init (parameters_of (text_or_empty text)) s.part.max_locals) desc_text
      ∙ ap (λ (params : List FieldType). entry_by (PUBLIC + SYNTHETIC) init params s.part.max_locals) c.described.parameters
      ∙ ap (entry_by (PUBLIC + SYNTHETIC) init (parameters ++ last ∷ [])) locals_are
      ∙ ap (λ (locals : List VType). framed locals []) filled_are

  -- ---- its instructions

  depth_is : scope.max_stack ≡ max (depth_of_call headers (Some c.above)) (depth_of_stores own)
  depth_is = stack_is ∙ ap (λ (super : Option Name). max (depth_of_call headers super) (depth_of_stores own)) c.is_above

  call_deep : depth_of_call headers (Some c.above) ≤ scope.max_stack
  call_deep =
      let left = le-max_left (depth_of_call headers (Some c.above)) (depth_of_stores own) in
      let whole = depth_is in
      omega (arith, left, whole)

  call_some : 1 ≤ depth_of_call headers (Some c.above)
  call_some = by (bytes_eq c.above object) where
    by : (b : BoolType) → 1 ≤ (if b then 1 else 1 + units_of_fields (instance_fields headers c.above) + 1)
    by true = omega arith
    by false = omega arith

  stores_deep : (stored : List Member) (room : ℕ) → depth_of_stores stored ≤ room → 1 ≤ room → 1 + greatest_units stored ≤ room
  stores_deep [] room deep some = omega (arith, some)
  stores_deep (field ∷ stored) room deep some = deep

  puts_deep : 1 + greatest_units own ≤ scope.max_stack
  puts_deep =
      let right = le-max_right (depth_of_call headers (Some c.above)) (depth_of_stores own) in
      let whole = depth_is in
      let some = call_some in
      let call = call_deep in
      stores_deep own scope.max_stack (omega (arith, right, whole)) (omega (arith, some, call))

  abbrev after : List VType
  after = locals_with (types.Object scope.own.name)

  calls : Steps scope (indexed (super_call headers c.above)) (framed (locals_with types.UninitThis) []) (framed after [])
  calls =
      call_steps headers constructor scope c.pool fields (verification_type last) c.above own_super own c.fields (no_this_last last)
      c.described_above call_deep named_call

  puts : Steps scope (indexed (puts_from name first_put own)) (framed after []) (framed after [])
  puts =
      subst (λ (class : Name). Steps scope (indexed (puts_from class first_put own)) (framed after []) (framed after [])) own_name
      (puts_steps scope c.pool constructor fields (types.Object scope.own.name) (verification_type last) refl (instance_fields headers c.above) own
      first_put c.fields refl puts_deep
      (subst (λ (class : Name). AllByRecursion (Names constructor c.pool scope.pool) (puts_from class first_put own)) (sym own_name) named_puts))

  steps : Steps scope (indexed front) (framed (locals_with types.UninitThis) []) (framed after [])
  steps =
      subst (λ (all : List Instr). Steps scope all (framed (locals_with types.UninitThis) []) (framed after []))
      (sym (map-append (indexed_instr c.pool constructor) (super_call headers c.above) (puts_from name first_put own)))
      (steps_both scope (indexed (super_call headers c.above)) (indexed (puts_from name first_put own)) (framed (locals_with types.UninitThis) [])
      (framed after []) (framed after []) calls puts)

  ends : Ends s no_handlers no_attrs (framed after [])
  ends = record {
    may = record {
      no_result = no_result;
      initialised = λ is_init. ((λ e. absurd cc, no_this fields (verification_type last ∷ []) (no_this_last last)), tt);
    };
    empty = refl;
  }

  -- ---- the whole

  pub constructor_typed : (frames : List Frame) × Typed s frames
  constructor_typed =
      let typed = typed_by_steps s no_handlers no_attrs 0 (indexed front) (framed (locals_with types.UninitThis) []) (framed after []) steps ends in
      let by_points : AreTyped (body_of s) (Some (framed (locals_with types.UninitThis) [])) (body_of s).points typed.0 =
      subst (λ (all : List Placed). AreTyped (body_of s) (Some (framed (locals_with types.UninitThis) [])) (map (point_of s) all) typed.0)
      (sym instructions_are) typed.1 in (
        typed.0,
        record {
          catch_types =
              subst (λ (table : List Handler). AllByRecursion (CaughtIsThrowable s.headers) (map (caught_in s) table)) (sym no_handlers) tt;
          instrs =
              subst (λ (first : Frame). AreTyped (body_of s) (Some first) (body_of s).points typed.0) (sym entry_is) by_points;
        },
      )
