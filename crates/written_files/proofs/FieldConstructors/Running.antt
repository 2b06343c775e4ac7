-- What a field constructor does where it stands in the written class is what its instructions do.
use Rattle.std.proofs.Common.{◌≡◌, ◌++◌, ◌+◌, ◌∙◌, ℕ, Bool, true, false, if◌then◌else◌, bytes_eq, codes, List, [], ◌∷◌, length, map, Option, Some, None, option_map, refl, sym, ap, subst}
use Rattle.std.specs.List.{AllByRecursion}
use Rattle.class_model.specs.Descriptors.{kind_of, type_of, units_of}
use Rattle.class_model.specs.Header.{header_of, method_member}
use Rattle.class_model.specs.Members.{is_text}
use Rattle.class_model.specs.Names.{init}
use Rattle.class_model.specs.Pool.{Constants}
use Rattle.class_model.specs.declared.class_file.ClassFile.{ClassFile}
use Rattle.class_model.specs.declared.class_file.Handler.{Handler}
use Rattle.class_model.specs.declared.descriptor.FieldType.{FieldType}
use Rattle.class_model.specs.declared.descriptor.Kind.TheVariants as kinds
use Rattle.class_model.specs.declared.header.Member.{Member}
use Rattle.class_model.specs.declared.instr.Imm.TheVariants as imms
use Rattle.class_model.specs.declared.instr.Instr.TheVariants.{Const, Invoke, Load, Return}
use Rattle.class_model.specs.declared.instr.Placed.{Placed}
use Rattle.class_model.specs.declared.opcodes.TheConstants.{INVOKESPECIAL}
use Rattle.class_tree.specs.Headers.{Classes, Name, headers_of}
use Rattle.class_tree.specs.Layouts.{instance_fields, own_fields}
use Rattle.class_tree.specs.Names.{object}
use Rattle.code_bytes.specs.Forms.{instr_bytes}
use Rattle.making_code.specs.Constants.{index_in, needs_member, of_field, of_method}
use Rattle.making_code.specs.ConstructorCode.{constructor_instrs, indexed_instr}
use Rattle.making_code.specs.FieldConstructor.{CInstr, calls_constructor, calls_object, constructor_items, loads_from, puts_field, puts_from, simple, super_call, units_of_fields}
use Rattle.making_code.specs.Laws.MeantConstants.{NamesMember}
use Rattle.member_link.specs.Machine.Classes.{run_method_of}
use Rattle.member_link.specs.Machine.Codes.{call_op, catches_at, code_point, initialises, instr_op, method_code, number_at, or_meaningless, renumbered, return_op, run_code, run_point}
use Rattle.member_link.specs.Machine.Ops.{Op, put_field}
use Rattle.member_link.specs.Machine.Programs.{Code, Links, Point, RunMethod}
use Rattle.member_link.specs.References.{Reference}
use Rattle.member_link.specs.RowScope.{RowScope}
use Rattle.member_link.specs.Scope.{Scope, instructions, row_scope, scope_of}
use Rattle.plan_flow.specs.Written.WrittenPrograms.{constructor_code, constructor_method, constructor_op, constructor_point, constructor_scope}
use Rattle.written_files.proofs.FieldConstructors.Bytes.{placed}
use Rattle.written_files.proofs.FieldConstructors.Constants.{Names, refers_by}
use Rattle.written_files.proofs.FieldConstructors.Member.{constructor_is_member}
use Rattle.written_files.proofs.FieldConstructors.Typing.{Laws, first_put, instructions_are, instrs_are, items_are, locals_are, name_text, named_call, named_puts, no_handlers, no_result, own_name}
use Rattle.written_files.specs.FieldConstructors.{IsConstructorIn}

module _ (laws : Laws) (classes : Classes) (links : Links) (constructor : Name → List ℕ) (file : ClassFile) (s : Scope)
    (c : IsConstructorIn (headers_of classes) constructor file s)
    (calls : (reference : Reference)
    → call_op links (row_scope s) INVOKESPECIAL reference ≡ call_op links (constructor_scope classes file) INVOKESPECIAL reference) where
  abbrev before : RowScope
  before = constructor_scope classes file

  abbrev name : Name
  name = (header_of file).name

  -- ---- one instruction

  -- an item's instruction does what it means
  abbrev Means : (ℕ → ℕ) → CInstr → Type 0
  Means number item =
      instr_op links number (row_scope s) (indexed_instr c.pool constructor item) ≡ constructor_op links before constructor item

  is_init_there : (row_scope s).is_init ≡ true
  is_init_there =
      ap (is_text init) (name_text laws (headers_of classes) constructor file s c)

  initialises_same : initialises (row_scope s).is_init (row_scope s).own ≡ Some name
  initialises_same =
      ap (λ (is : Bool). initialises is (row_scope s).own) is_init_there
      ∙ ap Some (own_name laws (headers_of classes) constructor file s c)

  called : (number : ℕ → ℕ) (class : Name) (desc : List ℕ)
      → NamesMember (row_scope s).pool (index_in c.pool (needs_member of_method class init desc)) of_method class init desc
      → instr_op links number (row_scope s) (Invoke INVOKESPECIAL (index_in c.pool (needs_member of_method class init desc)) 0)
      ≡ call_op links before INVOKESPECIAL (record { class = class; name = init; desc = desc })
  called number class desc named =
      ap (λ (found : Option Reference). or_meaningless (option_map (call_op links (row_scope s) INVOKESPECIAL) found))
      (refers_by (row_scope s).pool (index_in c.pool (needs_member of_method class init desc)) of_method class init desc named)
      ∙ calls (record { class = class; name = init; desc = desc })

  put : (number : ℕ → ℕ) (class : Name) (field desc : List ℕ)
      → NamesMember (row_scope s).pool (index_in c.pool (needs_member of_field class field desc)) of_field class field desc
      → Means number (puts_field class field desc)
  put number class field desc named =
      ap (λ (found : Option Reference). or_meaningless (option_map (λ (r : Reference). put_field r (initialises (row_scope s).is_init (row_scope s).own)) found))
      (refers_by (row_scope s).pool (index_in c.pool (needs_member of_field class field desc)) of_field class field desc named)
      ∙ ap (put_field (record { class = class; name = field; desc = desc })) initialises_same

  returned : (number : ℕ → ℕ) → Means number (simple (Return None))
  returned number =
      ap (λ (result : Option FieldType). return_op result None) (no_result laws (headers_of classes) constructor file s c)

  -- ---- its instructions

  abbrev AllMean : (ℕ → ℕ) → List CInstr → Type 0
  AllMean number items = AllByRecursion (Means number) items

  abbrev AreNamed : List CInstr → Type 0
  AreNamed items = AllByRecursion (Names constructor c.pool (row_scope s).pool) items

  both_mean : (number : ℕ → ℕ) (front back : List CInstr) → AllMean number front → AllMean number back → AllMean number (front ++ back)
  both_mean number [] back one other = other
  both_mean number (item ∷ front) back one other = (one.0, both_mean number front back one.1 other)

  loads_mean : (number : ℕ → ℕ) (unit : ℕ) (fields : List Member) → AllMean number (loads_from unit fields)
  loads_mean number unit [] = tt
  loads_mean number unit (field ∷ fields) = (refl, loads_mean number (unit + units_of (kind_of (type_of field.desc))) fields)

  puts_mean : (number : ℕ → ℕ) (class : Name) (unit : ℕ) (fields : List Member) → AreNamed (puts_from class unit fields)
      → AllMean number (puts_from class unit fields)
  puts_mean number class unit [] names = tt
  puts_mean number class unit (field ∷ fields) names = (
    refl,
    (
      refl,
      (
        put number class field.name field.desc names.1.1.0,
        puts_mean number class (unit + units_of (kind_of (type_of field.desc))) fields names.1.1.1,
      ),
    ),
  )

  call_means : (number : ℕ → ℕ) (above : Name) → AreNamed (super_call (headers_of classes) above) → AllMean number (super_call (headers_of classes) above)
  call_means number above names = by (bytes_eq above object) names where
    last_of : (front back : List CInstr) → AreNamed (front ++ back) → AreNamed back
    last_of [] back all = all
    last_of (item ∷ front) back all = last_of front back all.1

    by : (b : Bool)
        → AreNamed (if b then simple (Load kinds.Ref 0) ∷ calls_object ∷ []
        else ((simple (Load kinds.Ref 0) ∷ []) ++ loads_from 1 (instance_fields (headers_of classes) above))
        ++ (simple (Const imms.Null) ∷ calls_constructor above ∷ []))
        → AllMean number (if b then simple (Load kinds.Ref 0) ∷ calls_object ∷ []
        else ((simple (Load kinds.Ref 0) ∷ []) ++ loads_from 1 (instance_fields (headers_of classes) above))
        ++ (simple (Const imms.Null) ∷ calls_constructor above ∷ []))
    by true known = (refl, (called number object (codes "()V") known.1.0, tt))
    by false known =
        let front : List CInstr = (simple (Load kinds.Ref 0) ∷ []) ++ loads_from 1 (instance_fields (headers_of classes) above) in
        let back : List CInstr = simple (Const imms.Null) ∷ calls_constructor above ∷ [] in
        both_mean number front back (refl, loads_mean number 1 (instance_fields (headers_of classes) above))
        (refl, (called number above (constructor above) (last_of front back known).1.0, tt))

  all_mean : (number : ℕ → ℕ) → AllMean number (constructor_items (headers_of classes) name)
  all_mean number =
      let own = own_fields (headers_of classes) name in
      let unit = first_put laws (headers_of classes) constructor file s c in
      let front : List CInstr = super_call (headers_of classes) c.above ++ puts_from name unit own in
      subst (AllMean number) (sym (items_are laws (headers_of classes) constructor file s c))
      (both_mean number front (simple (Return None) ∷ [])
      (both_mean number (super_call (headers_of classes) c.above) (puts_from name unit own)
      (call_means number c.above (named_call laws (headers_of classes) constructor file s c))
      (puts_mean number name unit own (named_puts laws (headers_of classes) constructor file s c)))
      (returned number, tt))

  -- ---- its code

  abbrev point_by : (ℕ → ℕ) → ℕ → Op → List Handler → Point
  point_by number at op handlers = record { op = op; catches = map (renumbered number) (catches_at s.class.pool handlers at) }

  points_are : (number : ℕ → ℕ) (at : ℕ) (items : List CInstr) → AllMean number items
      → map (run_point links number) (map (code_point s) (placed at (map (indexed_instr c.pool constructor) items)))
      ≡ map (constructor_point links before constructor) items
  points_are number at [] all = refl
  points_are number at (item ∷ items) all =
      let instr = indexed_instr c.pool constructor item in
      let behind = at + length (instr_bytes at instr) in
      ap (λ (handlers : List Handler). point_by number at (instr_op links number (row_scope s) instr) handlers
      ∷ map (run_point links number) (map (code_point s) (placed behind (map (indexed_instr c.pool constructor) items))))
      (no_handlers laws (headers_of classes) constructor file s c)
      ∙ ap (λ (op : Op). point_by number at op []
      ∷ map (run_point links number) (map (code_point s) (placed behind (map (indexed_instr c.pool constructor) items)))) all.0
      ∙ ap (λ (points : List Point). constructor_point links before constructor item ∷ points) (points_are number behind items all.1)

  instructions_of : instructions s ≡ placed 0 (constructor_instrs (headers_of classes) c.pool constructor name)
  instructions_of =
      instructions_are laws (headers_of classes) constructor file s c
      ∙ ap (placed 0) (sym (instrs_are laws (headers_of classes) constructor file s c))

  code_is : method_code links s ≡ constructor_code classes links constructor file
  code_is =
      let all : List Placed = placed 0 (constructor_instrs (headers_of classes) c.pool constructor name) in
      let number : ℕ → ℕ = number_at (map (code_point s) all) in
      let made : ℕ → List Point → Code = λ locals points. record { locals = locals; points = points } in
      ap (λ (instrs : List Placed). run_code links s.part.max_locals (map (code_point s) instrs)) instructions_of
      ∙ ap (λ (locals : ℕ). made locals (map (run_point links number) (map (code_point s) all))) (locals_are laws (headers_of classes) constructor file s c)
      ∙ ap (made (1 + units_of_fields (instance_fields (headers_of classes) name) + 1))
      (points_are number 0 (constructor_items (headers_of classes) name) (all_mean number))

  pub constructor_runs : run_method_of links s.headers s.class s.method ≡ constructor_method classes links constructor file
  constructor_runs =
      let there : scope_of s.headers s.class s.method ≡ Some s = rw (c.code) refl in
      let made : Member → Option Code → RunMethod = λ member code. record { member = member; code = code } in
      ap (made (method_member s.class.pool s.method)) (ap (option_map (method_code links)) there ∙ ap Some code_is)
      ∙ ap (λ (member : Member). made member (Some (constructor_code classes links constructor file)))
      (ap (λ (pool : Constants). method_member pool s.method) c.has
      ∙ constructor_is_member laws.compares (headers_of classes) constructor name c.before c.pool c.more s.method c.grows c.method)
