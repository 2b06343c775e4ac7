-- The references of a field constructor pass where it stands in the written class.
use Rattle.std.proofs.Common.{◌≡◌, ◌++◌, ◌+◌, ◌∙◌, ℕ, not, Bool, true, false, List, [], ◌∷◌, bytes_eq, codes, filter, length, map, Option, Some, None, Result, IsTrue, IsFalse, inr, if◌then◌else◌, refl, sym, ap, subst}
use Rattle.std.specs.List.{AllByRecursion}
use Rattle.std.proofs.lemmas.Bool.{not-true}
use Rattle.std.proofs.lemmas.List.{map-append}
use Rattle.std.proofs.lemmas.Option.{none-some, same_Some}
use Rattle.class_model.specs.Checks.{AllHold, Check, Fault, asked_each}
use Rattle.class_model.specs.Descriptors.{kind_of, type_of, units_of}
use Rattle.class_model.specs.Header.{header_of}
use Rattle.class_model.specs.Instructions.{decoded}
use Rattle.class_model.specs.Laws.Checks.{both_hold}
use Rattle.class_model.specs.Members.{PRIVATE, PROTECTED, PUBLIC, STATIC, has}
use Rattle.class_model.specs.Methods.{home_of}
use Rattle.class_model.specs.Names.{init}
use Rattle.class_model.specs.Pool.{Constants}
use Rattle.class_model.specs.Stated.{stated_in}
use Rattle.class_model.specs.declared.class_file.Attr.{Attr}
use Rattle.class_model.specs.declared.class_file.Attr.TheVariants.{Code}
use Rattle.class_model.specs.declared.class_file.ClassFile.{ClassFile}
use Rattle.class_model.specs.declared.class_file.CodePart.{CodePart}
use Rattle.class_model.specs.declared.class_file.Handler.{Handler}
use Rattle.class_model.specs.declared.class_file.InnerAttr.{InnerAttr}
use Rattle.class_model.specs.declared.header.Member.{Member}
use Rattle.class_model.specs.declared.descriptor.Kind.TheVariants as kinds
use Rattle.class_model.specs.declared.instr.Imm.TheVariants as imms
use Rattle.class_model.specs.declared.instr.Instr.{Instr}
use Rattle.class_model.specs.declared.instr.Instr.TheVariants.{Const, Invoke, Load, PutField, Return}
use Rattle.class_model.specs.declared.instr.Placed.{Placed}
use Rattle.class_model.specs.declared.opcodes.TheConstants.{INVOKESPECIAL}
use Rattle.class_model.specs.declared.pool.Const.TheVariants.{Methodref}
use Rattle.class_tree.specs.Headers.{IsThere, Headers, Name}
use Rattle.class_tree.specs.Layouts.{instance_fields, own_fields}
use Rattle.class_tree.specs.Alike.{AreFieldsAlike}
use Rattle.class_tree.specs.Names.{is_member, object}
use Rattle.class_tree.specs.Problems.{Problem}
use Rattle.code_bytes.specs.Forms.{instr_bytes}
use Rattle.making_code.specs.Constants.{index_in, needs_member, of_field, of_method, text_index}
use Rattle.making_code.specs.ConstructorCode.{indexed_instr}
use Rattle.making_code.specs.FieldConstructor.{CInstr, calls_constructor, calls_object, loads_from, puts_from, simple, super_call}
use Rattle.making_code.specs.Laws.MeantConstants.{NamesMember}
use Rattle.member_link.specs.Access.{IsAccessible, IsClassAccessible, in_package, is_own_private, is_public}
use Rattle.member_link.specs.DeclaredMembers.{Declared, declared, declared_by}
use Rattle.member_link.specs.Fields.{FindsField, in_class}
use Rattle.member_link.specs.Forms.{FitsCall, IsInstanceForm}
use Rattle.member_link.specs.LinkedPlaces.{FieldPasses, MemberPasses, MethodPasses}
use Rattle.member_link.specs.Methods.{FindsMethod}
use Rattle.member_link.specs.References.{DescriptorNames, FieldTypeNames, IsNamedAccessible, Reference, reference_at}
use Rattle.member_link.specs.Scope.{Scope}
use Rattle.member_link.specs.Uses.{UseScope, attr_checks, code_use_checks, frame_checks, handler_use_checks, instr_use_checks, instrs_checks, member_checks}
use Rattle.same_runs.specs.Laws.ReplacedPrograms.{static_stays}
use Rattle.type_rules.specs.Grown.{AreOpened, IsGrownHeader, IsOpened}
use Rattle.written_files.proofs.FieldConstructors.Bytes.{placed}
use Rattle.written_files.proofs.FieldConstructors.Constants.{Names}
use Rattle.written_files.proofs.FieldConstructors.Typing.{Laws, decodes, first_put, front, instrs, named_call, named_puts, no_attrs, no_handlers, part_same}
use Rattle.written_files.specs.FieldConstructors.{IsConstructorIn}
use Rattle.written_files.specs.LinkedConstructors.{HasLinkedMembers, IsLinkedMethod, called_of, uses_in}

-- what member_link says of look-ups
pub record FindsOne : Type 0 where
  pub field : (headers : Headers) (class : Name) (name desc : List ℕ) (one other : Option Declared) → FindsField headers class name desc one
      → FindsField headers class name desc other
      → one ≡ other
  pub method : (headers : Headers) (class : Name) (name desc : List ℕ) (one other : Option Declared) → FindsMethod headers class name desc one
      → FindsMethod headers class name desc other
      → one ≡ other

-- ---- members that pass

-- all that is asked of a member holds
member_asked : (u : UseScope) (r : Reference) (Others : Type 0) (Finds : Option Declared → Type 0) (HasForm : Declared → Type 0)
    → ((one other : Option Declared) → Finds one → Finds other → one ≡ other)
    → MemberPasses u r Others Finds HasForm
    → AllHold (member_checks u r Others Finds HasForm)
member_asked u r Others Finds HasForm is_one passes = (
  (passes.there, passes.others_there),
  (
    passes.class_accessible,
    (
      (passes.member, passes.found),
      (
        λ member found. subst HasForm (same member found) passes.form,
        (λ member found. subst (IsAccessible u.headers u.site.class r.class) (same member found) passes.accessible, tt),
      ),
    ),
  ),
) where
  same : (member : Declared) → Finds (Some member) → passes.member ≡ member
  same member found = same_Some passes.member member (is_one (Some passes.member) (Some member) passes.found found)

-- ---- instructions

module _ (finds : FindsOne) (u : UseScope) where
  put_asked : (index : ℕ) (class : Name) (name desc : List ℕ) → NamesMember u.pool index of_field class name desc
      → FieldPasses u IsInstanceForm (record { class = class; name = name; desc = desc })
      → AllHold (instr_use_checks u (PutField index))
  put_asked index class name desc named passes =
      let r : Reference = record { class = class; name = name; desc = desc } in
      let there : reference_at u.pool named.of_class named.named ≡ Some r = rw (named.class_is, named.name_is, named.desc_is) refl in
      rw (named.is, there)
      (member_asked u r (FieldTypeNames (IsThere u.headers) desc) (FindsField u.headers class name desc) IsInstanceForm
      (finds.field u.headers class name desc) passes)

  -- a Methodref asks the same, whichever it is
  called_alike : (one other also more : ℕ) (r : Reference) (method : Declared) → FitsCall u.headers INVOKESPECIAL (Some (Methodref one other)) r method
      → FitsCall u.headers INVOKESPECIAL (Some (Methodref also more)) r method
  called_alike one other also more r method fits = record {
    of_static = fits.of_static;
    of_instance = fits.of_instance;
    kind = fits.kind;
    initialiser = fits.initialiser;
    no_private = fits.no_private;
  }

  call_asked : (index : ℕ) (class : Name) (name desc : List ℕ) → NamesMember u.pool index of_method class name desc
      → MethodPasses u (FitsCall u.headers INVOKESPECIAL (Some (Methodref 0 0))) (record { class = class; name = name; desc = desc })
      → AllHold (instr_use_checks u (Invoke INVOKESPECIAL index 0))
  call_asked index class name desc named passes =
      let r : Reference = record { class = class; name = name; desc = desc } in
      let there : reference_at u.pool named.of_class named.named ≡ Some r = rw (named.class_is, named.name_is, named.desc_is) refl in
      rw (named.is, there)
      (member_asked u r (DescriptorNames (IsThere u.headers) desc) (FindsMethod u.headers class name desc)
      (FitsCall u.headers INVOKESPECIAL (Some (Methodref named.of_class named.named)) r) (finds.method u.headers class name desc)
      (record {
        there = passes.there;
        others_there = passes.others_there;
        class_accessible = passes.class_accessible;
        member = passes.member;
        found = passes.found;
        form = called_alike 0 0 named.of_class named.named r passes.member passes.form;
        accessible = passes.accessible;
      }))

  -- ---- the items of a constructor

  module _ (constructor : Name → List ℕ) (pool : Constants) where
    abbrev pub AreAsked : List CInstr → Type 0
    AreAsked items = AllByRecursion (λ (instr : Instr). AllHold (instr_use_checks u instr)) (map (indexed_instr pool constructor) items)

    pub both_asked : (front back : List CInstr) → AreAsked front → AreAsked back → AreAsked (front ++ back)
    both_asked [] back one other = other
    both_asked (item ∷ front) back one other = (one.0, both_asked front back one.1 other)

    loads_asked : (unit : ℕ) (fields : List Member) → AreAsked (loads_from unit fields)
    loads_asked unit [] = tt
    loads_asked unit (field ∷ fields) = (tt, loads_asked (unit + units_of (kind_of (type_of field.desc))) fields)

    abbrev pub StoresPass : Name → List Member → Type 0
    StoresPass class fields =
        AllByRecursion (λ (field : Member). FieldPasses u IsInstanceForm (record { class = class; name = field.name; desc = field.desc })) fields

    pub puts_asked : (class : Name) (unit : ℕ) (fields : List Member) → AllByRecursion (Names constructor pool u.pool) (puts_from class unit fields)
        → StoresPass class fields
        → AreAsked (puts_from class unit fields)
    puts_asked class unit [] names passes = tt
    puts_asked class unit (field ∷ fields) names passes = (
      tt,
      (
        tt,
        (
          put_asked (index_in pool (needs_member of_field class field.name field.desc)) class field.name field.desc names.1.1.0 passes.0,
          puts_asked class (unit + units_of (kind_of (type_of field.desc))) fields names.1.1.1 passes.1,
        ),
      ),
    )

    names_last : (front back : List CInstr) → AllByRecursion (Names constructor pool u.pool) (front ++ back)
        → AllByRecursion (Names constructor pool u.pool) back
    names_last [] back all = all
    names_last (item ∷ front) back all = names_last front back all.1

    pub super_asked : (headers : Headers) (above : Name) → AllByRecursion (Names constructor pool u.pool) (super_call headers above)
        → MethodPasses u (FitsCall u.headers INVOKESPECIAL (Some (Methodref 0 0))) (called_of constructor above)
        → AreAsked (super_call headers above)
    super_asked headers above names passes = by (bytes_eq above object) names passes where
      by : (b : Bool)
          → AllByRecursion (Names constructor pool u.pool) (if b then simple (Load kinds.Ref 0) ∷ calls_object ∷ []
          else ((simple (Load kinds.Ref 0) ∷ []) ++ loads_from 1 (instance_fields headers above)) ++ (simple (Const imms.Null) ∷ calls_constructor above ∷ []))
          → MethodPasses u (FitsCall u.headers INVOKESPECIAL (Some (Methodref 0 0)))
          (if b then record { class = object; name = init; desc = codes "()V" } else record { class = above; name = init; desc = constructor above })
          → AreAsked (if b then simple (Load kinds.Ref 0) ∷ calls_object ∷ []
          else ((simple (Load kinds.Ref 0) ∷ []) ++ loads_from 1 (instance_fields headers above)) ++ (simple (Const imms.Null) ∷ calls_constructor above ∷ []))
      by true known pass =
          (tt, (call_asked (index_in pool (needs_member of_method object init (codes "()V"))) object init (codes "()V") known.1.0 pass, tt))
      by false known pass =
          let front : List CInstr = (simple (Load kinds.Ref 0) ∷ []) ++ loads_from 1 (instance_fields headers above) in
          let back : List CInstr = simple (Const imms.Null) ∷ calls_constructor above ∷ [] in
          let named = names_last front back known in
          both_asked front back (tt, loads_asked 1 (instance_fields headers above))
          (tt, (call_asked (index_in pool (needs_member of_method above init (constructor above))) above init (constructor above) named.1.0 pass, tt))

  pub placed_asked : (at : ℕ) (instrs : List Instr) → AllByRecursion (λ (instr : Instr). AllHold (instr_use_checks u instr)) instrs
      → AllHold (asked_each (λ (one : Placed). instr_use_checks u one.instr) (placed at instrs))
  placed_asked at [] all = tt
  placed_asked at (instr ∷ instrs) all =
      let next = at + length (instr_bytes at instr) in
      both_hold (instr_use_checks u instr) (asked_each (λ (one : Placed). instr_use_checks u one.instr) (placed next instrs)) all.0
      (placed_asked next instrs all.1)

-- ---- the class's own fields

-- a member of opened fields is that of the fields, but for flags
record IsOpenedThere (name desc : List ℕ) (old : Member) (news : List Member) : Type 0 where
  new : Member
  there : declared name desc news ≡ Some new
  opened : IsOpened old new

opened_there : (name desc : List ℕ) (olds news : List Member) (old : Member) → AreFieldsAlike olds news → AreOpened olds news
    → declared name desc olds ≡ Some old
    → IsOpenedThere name desc old news
opened_there name desc [] [] old alike opened is = absurd (none-some old is)
opened_there name desc [] (new ∷ news) old alike opened is = absurd alike
opened_there name desc (first ∷ olds) [] old alike opened is = absurd alike
opened_there name desc (first ∷ olds) (new ∷ news) old alike opened is =
    by (is_member name desc first) refl is (opened_there name desc olds news old alike.1 opened.1) where
      same : is_member name desc new ≡ is_member name desc first
      same = rw (alike.0.same_name, alike.0.same_desc) refl

      by : (b : Bool) → is_member name desc first ≡ b
          → (if b then Some first else declared name desc olds) ≡ Some old
          → (declared name desc olds ≡ Some old → IsOpenedThere name desc old news)
          → IsOpenedThere name desc old (new ∷ news)
      by true e found rest =
          let here : is_member name desc new ≡ true = same ∙ e in
          record {
            new = new;
            there = rw (here) refl;
            opened = subst (λ (one : Member). IsOpened one new) (same_Some first old found) opened.0;
          }
      by false e found rest =
          let here : is_member name desc new ≡ false = same ∙ e in
          let later = rest found in
          record { new = later.new; there = rw (here) later.there; opened = later.opened }

-- items that a filter leaves pass its test
filtered : (test : Member → Bool) (items : List Member) → AllByRecursion (λ (item : Member). test item ≡ true) (filter test items)
filtered test [] = tt
filtered test (item ∷ items) = by (test item) refl (filtered test items) where
  by : (b : Bool) → test item ≡ b → AllByRecursion (λ (one : Member). test one ≡ true) (filter test items)
      → AllByRecursion (λ (one : Member). test one ≡ true) (filter test (item ∷ items))
  by true e rest = rw (e) (e, rest)
  by false e rest = rw (e) rest

-- a member of the class itself may be used
own_accessible : (headers : Headers) (class named : Name) (member : Member) → IsAccessible headers class named (declared_by class member)
own_accessible headers class named member = by (has member.flags PUBLIC) refl
    (has member.flags PROTECTED) refl (has member.flags PRIVATE) refl where
      by : (a : Bool) → has member.flags PUBLIC ≡ a
          → (b : Bool) → has member.flags PROTECTED ≡ b
          → (c : Bool) → has member.flags PRIVATE ≡ c
          → IsAccessible headers class named (declared_by class member)
      by true ae b be c ce = is_public (subst (λ (x : Bool). IsTrue x) (sym ae) refl)
      by false ae true be c ce =
          in_package (subst (λ (x : Bool). IsTrue x) (sym (rw (ae, be) refl)) refl) refl
      by false ae false be true ce = is_own_private (subst (λ (x : Bool). IsTrue x) (sym ce) refl) refl
      by false ae false be false ce =
          in_package (subst (λ (x : Bool). IsTrue x) (sym (rw (ae, be, ce) refl)) refl) refl

module _ (headers : Headers) (constructor : Name → List ℕ) (file : ClassFile) (above : Name) (s : Scope)
    (grown : IsGrownHeader (header_of file) (header_of s.class)) (linked : HasLinkedMembers headers constructor file above s) where
  abbrev name : Name
  name = (header_of file).name

  field_passes : (field : Member) → declared field.name field.desc (header_of file).fields ≡ Some field
      → not (has field.flags STATIC) ≡ true
      → FieldTypeNames (IsThere s.headers) field.desc
      → FieldPasses (uses_in s) IsInstanceForm (record { class = name; name = field.name; desc = field.desc })
  field_passes field is instance types =
      let there = opened_there field.name field.desc (header_of file).fields (header_of s.class).fields field grown.alike.fields grown.opened is in
      let static : has there.new.flags STATIC ≡ has field.flags STATIC =
      ap (λ (flags : ℕ). has flags STATIC) there.opened.flags ∙ static_stays field.flags there.opened.cleared in
      let own : IsClassAccessible s.headers name name = record { header = header_of s.class; found = linked.named; is_open = inr refl } in
      record {
        there = rw (linked.no_array) (rw (linked.named) refl);
        others_there = types;
        class_accessible =
            subst (λ (from : Name). IsNamedAccessible s.headers from name) (sym grown.alike.same_name)
            (rw (linked.no_array) own);
        member = declared_by name there.new;
        found = in_class name [] (header_of s.class) there.new linked.named there.there;
        form = subst (λ (b : Bool). IsFalse b) (sym (static ∙ not-true (has field.flags STATIC) instance)) refl;
        accessible =
            subst (λ (from : Name). IsAccessible s.headers from name (declared_by name there.new)) (sym grown.alike.same_name)
            (own_accessible s.headers name name there.new);
      }

  fields_pass : (fields : List Member)
      → AllByRecursion (λ (field : Member). declared field.name field.desc (header_of file).fields ≡ Some field) fields
      → AllByRecursion (λ (field : Member). not (has field.flags STATIC) ≡ true) fields
      → AllByRecursion (λ (field : Member). FieldTypeNames (IsThere s.headers) field.desc) fields
      → AllByRecursion (λ (field : Member). FieldPasses (uses_in s) IsInstanceForm (record { class = name; name = field.name; desc = field.desc })) fields
  fields_pass [] once instance types = tt
  fields_pass (field ∷ fields) once instance types =
      (field_passes field once.0 instance.0 types.0, fields_pass fields once.1 instance.1 types.1)

  pub own_pass : AllByRecursion (λ (field : Member). FieldPasses (uses_in s) IsInstanceForm (record { class = name; name = field.name; desc = field.desc }))
      (own_fields headers name)
  own_pass =
      fields_pass (own_fields headers name) linked.once
      (subst (AllByRecursion (λ (field : Member). not (has field.flags STATIC) ≡ true)) (sym linked.own)
      (filtered (λ (field : Member). not (has field.flags STATIC)) (header_of file).fields)) linked.types

-- ---- the whole

module _ (laws : Laws) (finds : FindsOne) (headers : Headers) (constructor : Name → List ℕ) (file : ClassFile) (s : Scope)
    (c : IsConstructorIn headers constructor file s) (linked : HasLinkedMembers headers constructor file c.above s) where
  abbrev asked_instrs : List CInstr → Type 0
  asked_instrs items = AreAsked finds (uses_in s) constructor c.pool items

  stores : asked_instrs (puts_from (header_of file).name (first_put laws headers constructor file s c) (own_fields headers (header_of file).name))
  stores =
      puts_asked finds (uses_in s) constructor c.pool (header_of file).name (first_put laws headers constructor file s c)
      (own_fields headers (header_of file).name) (named_puts laws headers constructor file s c)
      (own_pass headers constructor file c.above s (laws.header file s.class c.is_class_file c.class) linked)

  call : asked_instrs (super_call headers c.above)
  call = super_asked finds (uses_in s) constructor c.pool headers c.above (named_call laws headers constructor file s c) linked.call

  all : AllByRecursion (λ (instr : Instr). AllHold (instr_use_checks (uses_in s) instr)) (instrs laws headers constructor file s c)
  all =
      subst (AllByRecursion (λ (instr : Instr). AllHold (instr_use_checks (uses_in s) instr)))
      (map-append (indexed_instr c.pool constructor) (front laws headers constructor file s c) (simple (Return None) ∷ []))
      (both_asked finds (uses_in s) constructor c.pool (front laws headers constructor file s c) (simple (Return None) ∷ [])
      (both_asked finds (uses_in s) constructor c.pool (super_call headers c.above)
      (puts_from (header_of file).name (first_put laws headers constructor file s c) (own_fields headers (header_of file).name)) call stores)
      (tt, tt))

  abbrev uses_of : Result (List Placed) Fault → List Handler → List InnerAttr → List (Check Problem)
  uses_of code handlers attrs =
      instrs_checks (uses_in s) code ++ asked_each (handler_use_checks (uses_in s)) handlers
      ++ asked_each (frame_checks (uses_in s)) (stated_in (home_of s.class) s.method s.part attrs)

  of_part : AllHold (code_use_checks (uses_in s) (home_of s.class) s.method s.part)
  of_part =
      let no_table : AllHold (uses_of (decoded s.part.code) [] []) =
      subst (λ (code : Result (List Placed) Fault). AllHold (uses_of code [] [])) (sym (decodes laws headers constructor file s c))
      (both_hold (asked_each (λ (one : Placed). instr_use_checks (uses_in s) one.instr) (placed 0 (instrs laws headers constructor file s c)) ++ []) []
      (both_hold (asked_each (λ (one : Placed). instr_use_checks (uses_in s) one.instr) (placed 0 (instrs laws headers constructor file s c))) []
      (placed_asked finds (uses_in s) 0 (instrs laws headers constructor file s c) all) tt) tt) in
      subst (λ (table : List Handler). AllHold (uses_of (decoded s.part.code) table s.part.attrs)) (sym (no_handlers laws headers constructor file s c))
      (subst (λ (attrs : List InnerAttr). AllHold (uses_of (decoded s.part.code) [] attrs)) (sym (no_attrs laws headers constructor file s c)) no_table)

  pub constructor_linked : IsLinkedMethod s
  constructor_linked =
      let one : AllHold (asked_each (attr_checks (uses_in s) (home_of s.class) s.method) (Code (text_index c.pool (codes "Code")) c.method.part ∷ [])) =
      subst (λ (part : CodePart). AllHold (asked_each (attr_checks (uses_in s) (home_of s.class) s.method) (Code (text_index c.pool (codes "Code")) part ∷ [])))
      (part_same laws headers constructor file s c)
      (both_hold (code_use_checks (uses_in s) (home_of s.class) s.method s.part) [] of_part tt) in
      subst (λ (attrs : List Attr). AllHold (asked_each (attr_checks (uses_in s) (home_of s.class) s.method) attrs)) (sym c.method.attrs) one
