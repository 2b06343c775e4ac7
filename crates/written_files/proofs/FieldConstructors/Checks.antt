-- A field constructor passes the checks of a method in the class file that has it.
use Rattle.std.proofs.Common.{◌≡◌, ◌++◌, ◌+◌, ◌*◌, ◌≤◌, ◌<◌, ◌∙◌, ◌&&◌, ◌||◌, not, nat_lt, ℕ, Bool, true, false, if◌then◌else◌, IsFalse, codes, List, [], ◌∷◌, length, map, Option, Some, None, Result, IfSome, IsSome, inl, refl, sym, ap, subst, arith, length-append}
use Rattle.std.specs.List.{AllByRecursion, list_all}
use Rattle.std.proofs.lemmas.Bool.Decides.{nat_tests}
use Rattle.std.proofs.lemmas.List.{length-map, map-append}
use Rattle.std.proofs.lemmas.List.Sums.{sum_by-cons}
use Rattle.class_model.specs.Checks.{AllHold, Fault, asked_if, asked_of, check}
use Rattle.class_model.specs.Code.{OperandFits, handlers_checks, inners_checks, jump_checks, operand_checks}
use Rattle.class_model.specs.Descriptors.{kind_of, parameter_units, parameters_of, type_of, units_of}
use Rattle.class_model.specs.Frames.{Setting}
use Rattle.class_model.specs.Header.{header_of}
use Rattle.class_model.specs.Instructions.{is_start}
use Rattle.class_model.specs.Laws.Checks.{both_hold, ◌▸◌}
use Rattle.class_model.specs.Laws.Descriptors.{bytes_spell}
use Rattle.class_model.specs.Members.{ABSTRACT, INTERFACE, NATIVE, PUBLIC, STATIC, Signature, attrs_checks, has, has_named, is_text, one_visibility}
use Rattle.class_model.specs.Methods.{IsDescriptorOf, code, entry_of, fits_method, home_of, instructions_checks, method_attr_checks, method_checks, part_checks, placed_at, this_units, units_at_call}
use Rattle.class_model.specs.Names.{IsMethodName, clinit, init}
use Rattle.class_model.specs.Pool.{Constants}
use Rattle.class_model.specs.PoolChecks.{InitIsVoid, ReturnsVoid, utf8_at}
use Rattle.class_model.specs.declared.class_file.Attr.{Attr}
use Rattle.class_model.specs.declared.class_file.Attr.TheVariants.{Code}
use Rattle.class_model.specs.declared.class_file.ClassFile.{ClassFile}
use Rattle.class_model.specs.declared.class_file.CodePart.{CodePart}
use Rattle.class_model.specs.declared.class_file.Handler.{Handler}
use Rattle.class_model.specs.declared.class_file.InnerAttr.{InnerAttr}
use Rattle.class_model.specs.declared.descriptor.FieldType.{FieldType}
use Rattle.class_model.specs.declared.descriptor.Kind.{Kind}
use Rattle.class_model.specs.declared.descriptor.Kind.TheVariants.{Ref}
use Rattle.class_model.specs.declared.fault.FileRule.TheVariants as rules
use Rattle.class_model.specs.declared.header.Member.{Member}
use Rattle.class_model.specs.declared.instr.Instr.{Instr}
use Rattle.class_model.specs.declared.instr.Instr.TheVariants.{Return}
use Rattle.class_model.specs.declared.instr.Placed.{Placed}
use Rattle.class_tree.specs.Headers.{Headers, Name}
use Rattle.class_tree.specs.Layouts.{instance_fields, own_fields}
use Rattle.code_bytes.specs.Forms.{instr_bytes}
use Rattle.making_code.specs.Constants.{text_index}
use Rattle.making_code.specs.ConstructorCode.{SYNTHETIC, bytes_from, indexed_instr}
use Rattle.making_code.specs.FieldConstructor.{CInstr, puts_from, simple, super_call, units_of_fields}
use Rattle.member_link.specs.Laws.ResultTexts.{result_spelled}
use Rattle.member_link.specs.Scope.{Scope}
use Rattle.written_files.proofs.FieldConstructors.Bytes.{IsSmall, placed}
use Rattle.written_files.proofs.FieldConstructors.Calls.{call_many, puts_many}
use Rattle.written_files.proofs.FieldConstructors.Member.{ReadsParameters}
use Rattle.written_files.proofs.FieldConstructors.Operands.{both_fit, call_above_fits, puts_fit}
use Rattle.written_files.proofs.FieldConstructors.Typing.{Laws, code_spelled, decodes, desc_text, first_put, front, instrs, locals_are, name_text, named_call, named_puts, no_attrs, no_handlers, part_same, small, text_there, texts, units_both}
use Rattle.written_files.specs.CheckedConstructors.{IsNewMethod}
use Rattle.written_files.specs.FieldConstructors.{IsConstructorIn}

-- ---- its bytes

some_end : (at : ℕ) (all : List Instr) → 1 ≤ length (bytes_from at (all ++ Return None ∷ []))
unfolding instr_bytes
some_end at [] = omega arith
some_end at (instr ∷ all) =
    let both = length-append (instr_bytes at instr) (bytes_from (at + length (instr_bytes at instr)) (all ++ Return None ∷ [])) in
    let rest = some_end (at + length (instr_bytes at instr)) all in
    omega (arith, both, rest)

few_bytes : (at : ℕ) (all : List Instr) → AllByRecursion IsSmall all → length (bytes_from at all) ≤ 4 * length all
few_bytes at [] small = omega arith
few_bytes at (instr ∷ all) small =
    let both = length-append (instr_bytes at instr) (bytes_from (at + length (instr_bytes at instr)) all) in
    let one = small.0.short at in
    let rest = few_bytes (at + length (instr_bytes at instr)) all small.1 in
    omega (arith, both, one, rest)

-- ---- over the instructions

jumps_pass : (start : ℕ) (whole : List Placed) (at : ℕ) (all : List Instr) → AllByRecursion IsSmall all
    → AllHold (jump_checks start whole (placed at all))
jumps_pass start whole at [] are = tt
jumps_pass start whole at (instr ∷ all) are = (
  ap (λ (ends : List ℕ). list_all (is_start whole) ends) are.0.no_targets,
  jumps_pass start whole (at + length (instr_bytes at instr)) all are.1,
)

operands_pass : (start : ℕ) (pool : Constants) (major room at : ℕ) (all : List Instr) → AllByRecursion (OperandFits pool major room) all
    → AllHold (operand_checks start pool major room (placed at all))
operands_pass start pool major room at [] fit = tt
operands_pass start pool major room at (instr ∷ all) fit = (
  fit.0,
  operands_pass start pool major room (at + length (instr_bytes at instr)) all fit.1,
)

-- ---- its flags

-- what is asked of the flags of a method, by what they are and by what is known of its class and its name
abbrev fits_by : ℕ → Option (List ℕ) → (interface low coded starts : Bool) → Bool
fits_by flags name interface low coded starts =
    one_visibility flags
    && (if is_text clinit name then starts else not (low && interface && coded) && not (has flags STATIC && has flags ABSTRACT))
    && (not (is_text init name) || (not (has flags STATIC) && not (has flags ABSTRACT) && not (has flags NATIVE) && not interface))

public_fits : (low coded starts : Bool) → fits_by (PUBLIC + SYNTHETIC) (Some init) false low coded starts ≡ true
public_fits true coded starts = refl
public_fits false coded starts = refl

abbrev lacks_code : ℕ → Bool
lacks_code flags = has flags ABSTRACT || has flags NATIVE

or_true : (b : Bool) → (b || true) ≡ true
or_true true = refl
or_true false = refl

within : (count : ℕ) → 1 ≤ count → count < 65536 → (nat_lt 0 count && nat_lt count 65536) ≡ true
within count some few = grind (arith, nat_tests)

-- ---- its parameters

units_one_more : (fields : List Member) (last : FieldType) → kind_of last ≡ Ref
    → parameter_units (map (λ (field : Member). type_of field.desc) fields ++ last ∷ []) ≡ units_of_fields fields + 1
units_one_more [] last reference = ap (λ (kind : Kind). 0 + units_of kind) reference
units_one_more (field ∷ fields) last reference =
    let rest = units_one_more fields last reference in
    let first = sum_by-cons (λ (type : FieldType). units_of (kind_of type)) (type_of field.desc)
    (map (λ (field : Member). type_of field.desc) fields ++ last ∷ []) in
    omega (arith, rest, first)

module _ (laws : Laws) (reads : ReadsParameters) (headers : Headers) (constructor : Name → List ℕ) (file : ClassFile) (s : Scope)
    (c : IsConstructorIn headers constructor file s) where
  abbrev name : Name
  name = (header_of file).name

  abbrev fields : List Member
  fields = instance_fields headers name

  abbrev pool : Constants
  pool = s.class.pool

  abbrev items : List CInstr
  items = front laws headers constructor file s c

  abbrev all : List Instr
  all = instrs laws headers constructor file s c

  abbrev room : ℕ
  room = s.part.max_locals

  -- ---- its instructions

  items_joined : map (indexed_instr c.pool constructor) (items ++ simple (Return None) ∷ []) ≡ all
  items_joined = map-append (indexed_instr c.pool constructor) items (simple (Return None) ∷ [])

  small_all : AllByRecursion IsSmall all
  small_all = subst (AllByRecursion IsSmall) items_joined (small laws headers constructor file s c)

  operands_all : AllByRecursion (OperandFits pool s.class.major room) all
  operands_all =
      let few = c.few in
      let sum = units_both laws headers constructor file s c in
      let locals = locals_are laws headers constructor file s c in
      subst (AllByRecursion (OperandFits pool s.class.major room)) items_joined
      (both_fit c.pool pool constructor s.class.major room items (simple (Return None) ∷ [])
      (both_fit c.pool pool constructor s.class.major room (super_call headers c.above)
      (puts_from name (first_put laws headers constructor file s c) (own_fields headers name))
      (call_above_fits c.pool pool constructor s.class.major room headers c.above (omega (arith, sum, locals))
      (named_call laws headers constructor file s c))
      (puts_fit c.pool pool constructor s.class.major room name (first_put laws headers constructor file s c) (own_fields headers name)
      (omega (arith, sum, locals)) (omega (arith, locals)) (named_puts laws headers constructor file s c)))
      (tt, tt))

  code_some : 1 ≤ length s.part.code
  code_some =
      let is = ap (λ (bytes : List ℕ). length bytes) (code_spelled laws headers constructor file s c) in
      let some = some_end 0 (map (indexed_instr c.pool constructor) items) in
      omega (arith, is, some)

  code_few : length s.part.code < 65536
  code_few =
      let is = ap (λ (bytes : List ℕ). length bytes) (code_spelled laws headers constructor file s c) in
      let few = few_bytes 0 all small_all in
      let units = c.few in
      let sum = units_both laws headers constructor file s c in
      let calls = call_many headers c.above in
      let puts = puts_many name (first_put laws headers constructor file s c) (own_fields headers name) in
      let parts = length-append (super_call headers c.above)
      (puts_from name (first_put laws headers constructor file s c) (own_fields headers name)) in
      let whole = length-append (map (indexed_instr c.pool constructor) items) (Return None ∷ []) in
      let mapped = length-map items (indexed_instr c.pool constructor) in
      omega (arith, is, few, units, sum, calls, puts, parts, whole, mapped)

  instructions_pass : (at : ℕ) → AllHold (instructions_checks (home_of s.class) s.method at s.part (placed 0 all))
  instructions_pass at =
      let start = at + 14 in
      let table = start + length s.part.code + 2 in
      let inners = table + 8 * length s.part.handlers + 2 in
      let setting : Setting = record { pool = pool; max_locals = room; max_stack = s.part.max_stack; code = placed 0 all } in
      let jumps = jump_checks start (placed 0 all) (placed 0 all) in
      let operands = operand_checks start pool s.class.major room (placed 0 all) in
      let handlers = handlers_checks pool (placed 0 all) (length s.part.code) table s.part.handlers in
      let attrs = inners_checks setting (entry_of (home_of s.class) s.method s.part) false inners s.part.attrs in
      both_hold (jumps ++ operands ++ handlers) attrs
      (both_hold (jumps ++ operands) handlers
      (both_hold jumps operands (jumps_pass start (placed 0 all) 0 all small_all)
      (operands_pass start pool s.class.major room 0 all operands_all))
      (subst (λ (some : List Handler). AllHold (handlers_checks pool (placed 0 all) (length s.part.code) table some))
      (sym (no_handlers laws headers constructor file s c)) tt))
      (subst (λ (some : List InnerAttr). AllHold (inners_checks setting (entry_of (home_of s.class) s.method s.part) false inners some))
      (sym (no_attrs laws headers constructor file s c)) tt)

  -- ---- its descriptor

  flags_are : s.method.flags ≡ PUBLIC + SYNTHETIC
  flags_are = c.method.flags

  desc_there : utf8_at pool s.method.desc ≡ Some (constructor name)
  desc_there = desc_text laws headers constructor file s c

  name_there : utf8_at pool s.method.name ≡ Some init
  name_there = name_text laws headers constructor file s c

  units_are : parameter_units (parameters_of (constructor name)) ≡ units_of_fields fields + 1
  units_are =
      ap parameter_units c.described.parameters
      ∙ units_one_more fields c.described.last c.described.is_reference

  this_is : this_units s.method.flags ≡ 1
  this_is = ap this_units flags_are

  locals_fit : units_at_call s.method.flags (constructor name) ≤ room
  locals_fit =
      let units = units_are in
      let this = this_is in
      let locals = locals_are laws headers constructor file s c in
      omega (arith, units, this, locals)

  pub part_passes : (at : ℕ) → AllHold (part_checks (home_of s.class) s.method at s.part)
  part_passes at = (
    within (length s.part.code) code_some code_few,
    (
      subst (λ (text : Option (List ℕ)). IfSome text (λ text. units_at_call s.method.flags text ≤ room)) (sym desc_there) locals_fit,
      subst (λ (read : Result (List Placed) Fault).
          AllHold (asked_of (placed_at (at + 14) read) (instructions_checks (home_of s.class) s.method at s.part)))
          (sym (decodes laws headers constructor file s c)) (instructions_pass at),
    ),
  )

  -- ---- the method

  attrs_are : s.method.attrs ≡ Code (text_index c.pool (codes "Code")) s.part ∷ []
  attrs_are =
      c.method.attrs
      ∙ ap (λ (part : CodePart). Code (text_index c.pool (codes "Code")) part ∷ []) (sym (part_same laws headers constructor file s c))

  code_there : utf8_at pool (text_index c.pool (codes "Code")) ≡ Some (codes "Code")
  code_there =
      text_there laws headers constructor file s c (text_index c.pool (codes "Code")) (codes "Code")
      (texts laws headers constructor file s c).code

  is_coded : has_named pool code s.method.attrs ≡ true
  is_coded =
      ap (has_named pool code) attrs_are
      ∙ ap (λ (text : Option (List ℕ)). is_text code text || false) code_there

  module _ (before : List Signature) (new : IsNewMethod (constructor name) s before) where
    returns : ReturnsVoid (constructor name)
    returns = record {
      descriptor = new.descriptor;
      spelled = bytes_spell (constructor name) new.descriptor new.spells;
      no_result =
          sym (result_spelled (constructor name) new.descriptor (reads (constructor name) new.descriptor new.spells) new.spells)
          ∙ c.described.no_result;
    }

    is_descriptor : IsDescriptorOf s.method.flags (constructor name)
    is_descriptor =
        let read = reads (constructor name) new.descriptor new.spells in
        let units : parameter_units new.descriptor.params ≡ units_of_fields fields + 1 = ap parameter_units (sym read) ∙ units_are in
        let this = this_is in
        let few = c.few in
        record { descriptor = new.descriptor; spelled = new.spells; units = omega (arith, units, this, few) }

    flags_fit : fits_method (home_of s.class) s.method ≡ true
    flags_fit =
        let low = nat_lt s.class.major 52 in
        let coded = has_named pool code s.method.attrs in
        let starts = has s.method.flags STATIC && is_text (codes "()V") (utf8_at pool s.method.desc) in
        ap (λ (flags : ℕ). fits_by flags (utf8_at pool s.method.name) (has s.class.flags INTERFACE) low coded starts) flags_are
        ∙ ap (λ (text : Option (List ℕ)). fits_by (PUBLIC + SYNTHETIC) text (has s.class.flags INTERFACE) low coded starts) name_there
        ∙ ap (λ (interface : Bool). fits_by (PUBLIC + SYNTHETIC) (Some init) interface low coded starts) new.no_interface
        ∙ public_fits low coded starts

    attr_passes : (at : ℕ) → AllHold (method_attr_checks (home_of s.class) s.method [] at (Code (text_index c.pool (codes "Code")) s.part))
    attr_passes at = (
      subst IsSome (sym code_there) refl,
      subst (λ (named : Bool). AllHold (asked_if named
          (check at rules.Twice (IsFalse (has_named pool code [])) ∷ part_checks (home_of s.class) s.method at s.part)))
          (sym (ap (is_text code) code_there)) (refl, part_passes at),
    )

    pub method_passes : (at : ℕ) → AllHold (method_checks (home_of s.class) before at s.method)
    method_passes at =
        flags_fit
        ▸ new.is_first
        ▸ (ap (λ (coded : Bool). lacks_code s.method.flags || coded) is_coded ∙ or_true (lacks_code s.method.flags))
        ▸ ap (λ (flags : ℕ). not (lacks_code flags) || not (has_named pool code s.method.attrs)) flags_are
        ▸ subst IsSome (sym name_there) refl
        ▸ subst (λ (text : Option (List ℕ)). IfSome text (λ name. IsMethodName name × InitIsVoid name (utf8_at pool s.method.desc)))
        (sym name_there) (inl refl, subst (InitIsVoid init) (sym desc_there) (λ same is. returns))
        ▸ subst IsSome (sym desc_there) refl
        ▸ subst (λ (text : Option (List ℕ)). IfSome text (IsDescriptorOf s.method.flags)) (sym desc_there) is_descriptor
        ▸ subst (λ (attrs : List Attr). AllHold (attrs_checks (method_attr_checks (home_of s.class) s.method) [] (at + 8) attrs)) (sym attrs_are)
        (both_hold (method_attr_checks (home_of s.class) s.method [] (at + 8) (Code (text_index c.pool (codes "Code")) s.part)) [] (attr_passes (at + 8)) tt)
