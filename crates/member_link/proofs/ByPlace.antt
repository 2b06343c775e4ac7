-- What a linked folder is asked, place by place.
use Rattle.std.proofs.Common.{◌≡◌, ◌↔◌, ℕ, zero, suc, List, [], ◌∷◌, ◌++◌, slice_get, Option, Some, Result, Ok, Err, refl, subst}
use Rattle.std.proofs.lemmas.Option.{same_Some}
use Rattle.class_model.specs.Checks.{Check, Fault, AllHold, asked_each}
use Rattle.class_model.specs.Laws.Checks.{both_hold, first_holds, others_hold}
use Rattle.class_model.specs.Header.{header_of}
use Rattle.class_model.specs.Instructions.{decoded}
use Rattle.class_model.specs.Methods.{Home, home_of}
use Rattle.class_model.specs.Stated.{stated_in}
use Rattle.class_model.specs.declared.class_file.Attr.{Attr}
use Rattle.class_model.specs.declared.class_file.Attr.TheVariants.{Raw, Code}
use Rattle.class_model.specs.declared.class_file.ClassFile.{ClassFile}
use Rattle.class_model.specs.declared.class_file.CodePart.{CodePart}
use Rattle.class_model.specs.declared.class_file.Method.{Method}
use Rattle.class_model.specs.declared.header.Header.{Header}
use Rattle.class_model.specs.declared.header.Member.{Member}
use Rattle.class_model.specs.declared.instr.Placed.{Placed}
use Rattle.class_tree.specs.Headers.{Headers, Classes, IsThere, headers_of}
use Rattle.class_tree.specs.Problems.{Problem}
use Rattle.member_link.specs.Access.{IsAccessible}
use Rattle.member_link.specs.Declarations.{declaration_checks, site_of}
use Rattle.member_link.specs.DeclaredMembers.{Declared}
use Rattle.member_link.specs.Linked.{IsLinked}
use Rattle.member_link.specs.LinkedPlaces.{CodeAt, use_scope, frames_stated, IsLinkedByPlace, ClassPasses, MemberPasses, FieldPasses, MethodPasses}
use Rattle.member_link.specs.Fields.{FindsField}
use Rattle.member_link.specs.Methods.{FindsMethod}
use Rattle.member_link.specs.References.{Reference, FieldTypeNames, DescriptorNames}
use Rattle.member_link.specs.Uses.{UseScope, named_class_checks, member_checks, field_use_checks, method_use_checks, instr_use_checks, instrs_checks, handler_use_checks, frame_checks, code_use_checks, attr_checks, methods_use_checks, use_checks}
use Rattle.member_link.proofs.FieldsOnce.{field_once}
use Rattle.member_link.proofs.MethodsOnce.{method_once}

-- ---- each of a list

pub each_passes : {F X : Type 0} (asks : X → List (Check F)) (items : List X) → AllHold (asked_each asks items) → (number : ℕ) (item : X) → slice_get items number ≡ Some item → AllHold (asks item)
each_passes asks [] hold number item is = absurd cc
each_passes asks (first ∷ items) hold zero item is = subst (λ x. AllHold (asks x)) (same_Some first item is) (first_holds (asks first) (asked_each asks items) hold)
each_passes asks (first ∷ items) hold (suc number) item is = each_passes asks items (others_hold (asks first) (asked_each asks items) hold) number item is

pub all_pass : {F X : Type 0} (asks : X → List (Check F)) (items : List X) → ((number : ℕ) (item : X) → slice_get items number ≡ Some item → AllHold (asks item)) → AllHold (asked_each asks items)
all_pass asks [] each = tt
all_pass asks (first ∷ items) each = both_hold (asks first) (asked_each asks items) (each 0 first refl) (all_pass asks items (λ number item is. each (suc number) item is))

-- ---- each method of a class

module _ (headers : Headers) (class : ClassFile) (header : Header) where
  abbrev asked_of_method : Method → Member → List (Check Problem)
  asked_of_method method member = asked_each (attr_checks (record { headers = headers; pool = class.pool; site = site_of header member }) (home_of class) method) method.attrs

  each_method : (methods : List Method) (members : List Member) → AllHold (methods_use_checks headers class header methods members) → (number : ℕ) (method : Method) (member : Member) → slice_get methods number ≡ Some method → slice_get members number ≡ Some member → AllHold (asked_of_method method member)
  each_method [] members hold number method member is also = absurd cc
  each_method (first ∷ methods) [] hold number method member is also = absurd cc
  each_method (first ∷ methods) (named ∷ members) hold zero method member is also =
      subst (λ m. AllHold (asked_of_method m member)) (same_Some first method is)
      (subst (λ n. AllHold (asked_of_method first n)) (same_Some named member also) (first_holds (asked_of_method first named) (methods_use_checks headers class header methods members) hold))
  each_method (first ∷ methods) (named ∷ members) hold (suc number) method member is also =
      each_method methods members (others_hold (asked_of_method first named) (methods_use_checks headers class header methods members) hold) number method member is also

  all_methods : (methods : List Method) (members : List Member) → ((number : ℕ) (method : Method) (member : Member) → slice_get methods number ≡ Some method → slice_get members number ≡ Some member → AllHold (asked_of_method method member)) → AllHold (methods_use_checks headers class header methods members)
  all_methods [] members each = tt
  all_methods (first ∷ methods) [] each = tt
  all_methods (first ∷ methods) (named ∷ members) each =
      both_hold (asked_of_method first named) (methods_use_checks headers class header methods members) (each 0 first named refl refl)
      (all_methods methods members (λ number method member is also. each (suc number) method member is also))

-- ---- the code of a method

module _ (s : UseScope) (home : Home) (method : Method) (part : CodePart) where
  abbrev instrs : List (Check Problem)
  instrs = instrs_checks s (decoded part.code)

  abbrev handlers : List (Check Problem)
  handlers = asked_each (handler_use_checks s) part.handlers

  abbrev inners : List (Check Problem)
  inners = asked_each (frame_checks s) (stated_in home method part part.attrs)

  -- what the parts of a code are asked
  record CodePasses : Type 0 where
    instrs_pass : AllHold instrs
    handlers_pass : AllHold handlers
    inners_pass : AllHold inners

  code_passes : AllHold (code_use_checks s home method part) → CodePasses
  code_passes hold = record {
    instrs_pass = first_holds instrs handlers (first_holds (instrs ++ handlers) inners hold);
    handlers_pass = others_hold instrs handlers (first_holds (instrs ++ handlers) inners hold);
    inners_pass = others_hold (instrs ++ handlers) inners hold;
  }

  code_holds : CodePasses → AllHold (code_use_checks s home method part)
  code_holds passes = both_hold (instrs ++ handlers) inners (both_hold instrs handlers passes.instrs_pass passes.handlers_pass) passes.inners_pass

instr_passes : (s : UseScope) (read : Result (List Placed) Fault) → AllHold (instrs_checks s read) → (number : ℕ) (instrs : List Placed) (placed : Placed) → read ≡ Ok instrs → slice_get instrs number ≡ Some placed → AllHold (instr_use_checks s placed.instr)
instr_passes s read hold number instrs placed ok is =
    each_passes (λ placed. instr_use_checks s placed.instr) instrs (subst (λ r. AllHold (instrs_checks s r)) ok hold) number placed is

instrs_hold : (s : UseScope) (read : Result (List Placed) Fault) → ((number : ℕ) (instrs : List Placed) (placed : Placed) → read ≡ Ok instrs → slice_get instrs number ≡ Some placed → AllHold (instr_use_checks s placed.instr)) → AllHold (instrs_checks s read)
instrs_hold s (Ok instrs) each = all_pass (λ placed. instr_use_checks s placed.instr) instrs (λ number placed is. each number instrs placed refl is)
instrs_hold s (Err fault) each = tt

-- ---- the folder

module _ (classes : Classes) where
  abbrev headers : Headers
  headers = headers_of classes

  -- what the code at a place is asked
  at_code : AllHold (asked_each (use_checks headers) classes.folder) → (class method : ℕ) (at : CodeAt classes class method) → CodePasses (use_scope classes class method at) (home_of at.class) at.method at.part
  at_code hold class method at =
      let s = use_scope classes class method at in
      let in_class = each_passes (use_checks headers) classes.folder hold class at.class at.class_is in
      let in_method = each_method headers at.class (header_of at.class) at.class.methods (header_of at.class).methods in_class method at.method at.member at.method_is at.member_is in
      code_passes s (home_of at.class) at.method at.part (each_passes (attr_checks s (home_of at.class) at.method) at.method.attrs in_method at.attr_number (Code at.name at.part) at.code_is)

  passes_by_place : IsLinked classes → IsLinkedByPlace classes
  passes_by_place linked =
      let front = asked_each (declaration_checks headers) headers.folder in
      let back = asked_each (use_checks headers) classes.folder in
      let uses = others_hold front back linked in
      record {
        declarations = each_passes (declaration_checks headers) headers.folder (first_holds front back linked);
        instructions = λ class method number at instrs placed read is.
            instr_passes (use_scope classes class method at) (decoded at.part.code) (at_code uses class method at).instrs_pass number instrs placed read is;
        handlers = λ class method number at handler is.
            each_passes (handler_use_checks (use_scope classes class method at)) at.part.handlers (at_code uses class method at).handlers_pass number handler is;
        frames = λ class method number at frame is.
            each_passes (frame_checks (use_scope classes class method at)) (frames_stated classes class method at) (at_code uses class method at).inners_pass number frame is;
      }

  module _ (passes : IsLinkedByPlace classes) where
    code_at : (class method : ℕ) (at : CodeAt classes class method) → AllHold (code_use_checks (use_scope classes class method at) (home_of at.class) at.method at.part)
    code_at class method at =
        let s = use_scope classes class method at in
        code_holds s (home_of at.class) at.method at.part (record {
          instrs_pass = instrs_hold s (decoded at.part.code) (λ number instrs placed read is. passes.instructions class method number at instrs placed read is);
          handlers_pass = all_pass (handler_use_checks s) at.part.handlers (λ number handler is. passes.handlers class method number at handler is);
          inners_pass = all_pass (frame_checks s) (frames_stated classes class method at) (λ number frame is. passes.frames class method number at frame is);
        })

    attr_at : (class_number method_number attr_number : ℕ) (class : ClassFile) (method : Method) (member : Member) (attr : Attr) → slice_get classes.folder class_number ≡ Some class → slice_get class.methods method_number ≡ Some method → slice_get (header_of class).methods method_number ≡ Some member → slice_get method.attrs attr_number ≡ Some attr → AllHold (attr_checks (record { headers = headers; pool = class.pool; site = site_of (header_of class) member }) (home_of class) method attr)
    attr_at class_number method_number attr_number class method member (Raw name bytes) class_is method_is member_is attr_is = tt
    attr_at class_number method_number attr_number class method member (Code name part) class_is method_is member_is attr_is =
        code_at class_number method_number (record {
          class = class;
          method = method;
          member = member;
          attr_number = attr_number;
          name = name;
          part = part;
          class_is = class_is;
          method_is = method_is;
          member_is = member_is;
          code_is = attr_is;
        })

    links_by_place : IsLinked classes
    links_by_place =
        both_hold (asked_each (declaration_checks headers) headers.folder) (asked_each (use_checks headers) classes.folder) (all_pass (declaration_checks headers) headers.folder passes.declarations)
        (all_pass (use_checks headers) classes.folder (λ class_number class class_is.
        all_methods headers class (header_of class) class.methods (header_of class).methods (λ method_number method member method_is member_is.
        all_pass (attr_checks (record { headers = headers; pool = class.pool; site = site_of (header_of class) member }) (home_of class) method) method.attrs (λ attr_number attr attr_is.
        attr_at class_number method_number attr_number class method member attr class_is method_is member_is attr_is))))

  pub linked_by_place : IsLinked classes ↔ IsLinkedByPlace classes
  linked_by_place = (passes_by_place, links_by_place)

-- ---- fact by fact

pub class_passes : (s : UseScope) (name : List ℕ) → AllHold (named_class_checks s name) ↔ ClassPasses s name
class_passes s name = (λ hold. record { there = hold.0; accessible = hold.1.0 }, λ passes. (passes.there, (passes.accessible, tt)))

member_passes : (s : UseScope) (reference : Reference) (OthersAreThere : Type 0) (Finds : Option Declared → Type 0) (HasForm : Declared → Type 0) → ((one other : Option Declared) → Finds one → Finds other → one ≡ other) → AllHold (member_checks s reference OthersAreThere Finds HasForm) ↔ MemberPasses s reference OthersAreThere Finds HasForm
member_passes s reference OthersAreThere Finds HasForm once = (
  λ hold. record {
    there = hold.0.0;
    others_there = hold.0.1;
    class_accessible = hold.1.0;
    member = hold.1.1.0.0;
    found = hold.1.1.0.1;
    form = hold.1.1.1.0 hold.1.1.0.0 hold.1.1.0.1;
    accessible = hold.1.1.1.1.0 hold.1.1.0.0 hold.1.1.0.1;
  },
  λ passes.
      let same : (other : Declared) → Finds (Some other) → passes.member ≡ other = λ other finds. same_Some passes.member other (once (Some passes.member) (Some other) passes.found finds) in (
        (passes.there, passes.others_there),
        (
          passes.class_accessible,
          (
            (passes.member, passes.found),
            (
              λ other finds. subst HasForm (same other finds) passes.form,
              (λ other finds. subst (IsAccessible s.headers s.site.class reference.class) (same other finds) passes.accessible, tt),
            ),
          ),
        ),
      ),
)

pub field_passes : (s : UseScope) (HasForm : Declared → Type 0) (reference : Reference) → AllHold (field_use_checks s HasForm reference) ↔ FieldPasses s HasForm reference
field_passes s HasForm reference =
    member_passes s reference (FieldTypeNames (IsThere s.headers) reference.desc) (FindsField s.headers reference.class reference.name reference.desc) HasForm (field_once s.headers reference.class reference.name reference.desc)

pub method_passes : (s : UseScope) (HasForm : Reference → Declared → Type 0) (reference : Reference) → AllHold (method_use_checks s HasForm reference) ↔ MethodPasses s HasForm reference
method_passes s HasForm reference =
    member_passes s reference (DescriptorNames (IsThere s.headers) reference.desc) (FindsMethod s.headers reference.class reference.name reference.desc) (HasForm reference) (method_once s.headers reference.class reference.name reference.desc)
