-- A field of the folder that flat code stores into is not final in the first program, where it stores into an object of one of its sites: the field is of
-- the chain of the site's class, so that its final flag is cleared.
use Rattle.std.proofs.Common.{◌≡◌, ℕ, zero, suc, Bool, true, false, List, [], ◌∷◌, bytes_eq, slice_get, Option, Some, None, IsTrue, refl, sym, ap, subst, ◌∙◌, inl, inr}
use Rattle.std.specs.List.{list_any}
use Rattle.std.proofs.lemmas.Bool.{false≢true}
use Rattle.std.proofs.lemmas.Option.{none-some, same_Some}
use Rattle.std.proofs.lemmas.Slice.Eq.{bytes_eq-Decides}
use Rattle.class_model.specs.Laws.Lists.{at_index}
use Rattle.class_model.specs.Members.{FINAL, STATIC, has}
use Rattle.class_model.specs.Pool.{constant_at}
use Rattle.class_model.specs.declared.frame.Frame.{Frame}
use Rattle.class_model.specs.declared.frame.VType.{VType}
use Rattle.class_model.specs.declared.frame.VType.TheVariants as types
use Rattle.class_model.specs.declared.header.Header.{Header}
use Rattle.class_model.specs.declared.header.Member.{Member}
use Rattle.class_model.specs.declared.instr.Instr.TheVariants.{PutField}
use Rattle.class_tree.specs.Headers.{Headers, IsThere, Name, class_named, headers_of}
use Rattle.class_tree.specs.Hierarchy.{IsHierarchy}
use Rattle.class_tree.specs.Layouts.{chain}
use Rattle.class_tree.specs.Names.{is_interface, object as object_name}
use Rattle.expanded_code.specs.Candidates.{IsCandidate}
use Rattle.flow_code.specs.ReadTypes.{read_frame}
use Rattle.flow_code.specs.declared.point.FlatInstr.{FlatInstr}
use Rattle.flow_code.specs.declared.point.FlatInstr.TheVariants.{Of}
use Rattle.flow_code.specs.declared.point.Point.{Point}
use Rattle.flow_code.specs.declared.point.Site.{Site}
use Rattle.machine_values.specs.Frames.{MethodState}
use Rattle.machine_values.specs.Heaps.{object_at}
use Rattle.machine_values.specs.declared.frame.RunFrame.{RunFrame}
use Rattle.machine_values.specs.declared.frame.RunFrame.TheVariants.{Method}
use Rattle.machine_values.specs.declared.object.Object.{Object}
use Rattle.machine_values.specs.declared.object.Shape.TheVariants.{Folder}
use Rattle.machine_values.specs.declared.value.Value.{Value}
use Rattle.machine_values.specs.declared.value.Value.TheVariants.{Ref}
use Rattle.member_link.specs.Assignability.{IsAssignable}
use Rattle.member_link.specs.Bodies.{item_row}
use Rattle.member_link.specs.BodyTyping.{RowHolds}
use Rattle.member_link.specs.Fields.{FindsField, above_class, absent_class, in_class, in_no_class, in_other_class}
use Rattle.member_link.specs.DeclaredMembers.{Declared}
use Rattle.member_link.specs.FoundAbove.{IsFieldAbove}
use Rattle.member_link.specs.Laws.FolderClasses.{class_of_folder}
use Rattle.member_link.specs.Machine.FieldSteps.{static_number}
use Rattle.member_link.specs.Machine.Locals as machine
use Rattle.member_link.specs.Machine.Programs.{Program, RunClass, field_of, first_member, folder_number, has_flag, header_named, member_of, name_of_class}
use Rattle.member_link.specs.Machine.Replaced.{without_flags}
use Rattle.member_link.specs.Machine.Worlds.{World}
use Rattle.member_link.specs.References.{Reference}
use Rattle.member_link.specs.RowScope.{RowScope}
use Rattle.member_link.specs.Rows.MemberRows.{MayPut, put_field_row}
use Rattle.member_link.specs.Rows.Operands.{AllFit, assignable_or_this, assignable_to, topmost}
use Rattle.member_link.specs.Rows.Readings.{row_by}
use Rattle.member_link.specs.Rows.Row.{access_aside}
use Rattle.member_link.specs.Signatures.{field_type, reference_of}
use Rattle.plan_flow.specs.Written.WrittenPrograms.{WrittenMethod}
use Rattle.same_runs.specs.ClearedFields.{ClearsFinal}
use Rattle.same_runs.specs.Flats.{flat_code, flat_item, instr_scope, pool_of}
use Rattle.same_runs.specs.Laws.CallWork.{class_named_first}
use Rattle.same_runs.specs.Laws.ClearedFlags.{IsCleared, field_as_it_was, field_less_flags, field_of_none, field_replaced}
use Rattle.same_runs.specs.Laws.FirstBeginnings.{folder_name}
use Rattle.same_runs.specs.Laws.FoundMembers.{FieldLaws}
use Rattle.same_runs.specs.Laws.KeptFinals.{FieldFound, StandsAtNumbers, field_found, field_is, stands_at_numbers}
use Rattle.same_runs.specs.Laws.MethodPoints.{method_of_code}
use Rattle.same_runs.specs.Laws.Programs.{same_name, same_number, same_static_field}
use Rattle.same_runs.specs.Laws.ReplacedPrograms.{final_gone, final_stays}
use Rattle.member_link.specs.Laws.Scopes.{scope_is_at}
use Rattle.same_runs.specs.Laws.Scopes.{class_there}
use Rattle.same_runs.specs.TypedFlats.{reading_of}
use Rattle.typed_runs.specs.Conforming.{AllConform, Conforms, and_value, of_this}
use Rattle.typed_runs.specs.FolderTypings.{HasFlatTypings}
use Rattle.typed_runs.specs.TypedWorlds.{TypedWorld}
use Rattle.written_runs.specs.Inner.Setup.{IsSetup, Setup, first}
use Rattle.written_runs.specs.Laws.ClimbedClasses.{in_chain}
use Rattle.written_runs.specs.Laws.OwnOperations.{site_is_candidate}
use Rattle.written_runs.specs.Laws.ReceiverClasses.{Up, from_interface, from_object, interface_is, receiver_up, up_linked, up_more, up_of}
use Rattle.written_runs.specs.Laws.SameBoth.{own, own_same}
use Rattle.written_runs.specs.Laws.SameForms.{top_conforms}
use Rattle.written_runs.specs.Laws.TypedEntries.{typed_frame}
use Rattle.written_runs.specs.Laws.WrittenCodes.{flat_code_at}
use Rattle.written_runs.specs.WrittenRuns.{IsReadyMethod}

-- a class in which a field is found is there
found_there : (headers : Headers) (name desc : List ℕ) (class : Name) (found : Option Declared) → FindsField headers class name desc found
    → (field : Declared)
    → found ≡ Some field
    → (header : Header) × (class_named headers class ≡ Some header)
found_there headers name desc class _ (in_class _ _ header member is declares) field same = (header, is)
found_there headers name desc class _ (above_class _ _ header other is none finds) field same = (header, is)
found_there headers name desc class _ (in_other_class _ _ header found is none above rest) field same = (header, is)
found_there headers name desc class _ (absent_class _ _ found none in_no_class) field same = absurd (none-some field same)

at_first : (r : Reference) (members : List Member) (member : Member) → first_member r members ≡ Some member
    → (n : ℕ) × (slice_get members n ≡ Some member)
at_first r [] member is = absurd (none-some member is)
at_first r (first ∷ members) member is = by (member_of r first) refl (at_first r members member) where
  by : (b : Bool) → member_of r first ≡ b → (first_member r members ≡ Some member → (n : ℕ) × (slice_get members n ≡ Some member))
      → (n : ℕ) × (slice_get (first ∷ members) n ≡ Some member)
  by true e rest = (zero, sym (rw (e) refl) ∙ is)
  by false e rest = let later = rest (sym (rw (e) refl) ∙ is) in (suc later.0, later.1)

module _ (u : Setup) (setup : IsSetup u) (hierarchy : IsHierarchy (headers_of u.classes)) (fields : FieldLaws) where
  abbrev P : Program
  P = first u

  abbrev H : Headers
  H = headers_of u.classes

  module _ (r field : Reference) (links : u.links.field r ≡ Some field) (number : ℕ) (numbered : folder_number P field.class ≡ Some number)
      (instance : has_flag (field_of P field) STATIC ≡ false) (member : Member) (is_member : field_of P field ≡ Some member) where
    f : FieldFound u.classes r field
    f = field_found u.classes u.links fields hierarchy setup.linked r field links

    above : IsFieldAbove H r.class r.name r.desc f.found
    above = fields.above H r.class r.name r.desc f.found hierarchy f.finds

    class_is : f.found.class ≡ field.class
    class_is = ap (λ (one : Reference). one.class) f.same

    header_found : class_named H field.class ≡ Some above.header
    header_found = subst (λ (name : Name). class_named H name ≡ Some above.header) class_is above.found

    named_there : (header : Header) × (class_named H r.class ≡ Some header)
    named_there = found_there H r.name r.desc r.class (Some f.found) f.finds f.found refl

    field_up : Up u setup hierarchy r.class field.class
    field_up = subst (Up u setup hierarchy r.class) class_is (up_of u setup hierarchy r.class f.found.class (rw (named_there.1) refl) above.above)

    no_object : field.class ≡ object_name → ⊥
    no_object same = none-some number (sym setup.program.base.of_object.outside ∙ ap (folder_number P) (sym same) ∙ numbered)

    -- an interface has no field of an object
    no_interface : is_interface above.header ≡ false
    no_interface = by (is_interface above.header) refl where
      run : (class : RunClass) × (slice_get P.classes number ≡ Some class) × (header_named P field.class ≡ Some class.header)
      run = class_named_first field.class P.library P.classes number numbered

      is_first : first_member field run.0.header.fields ≡ Some member
      is_first = sym (rw (run.2) refl) ∙ is_member

      by : (b : Bool) → is_interface above.header ≡ b → is_interface above.header ≡ false
      by false e = e
      by true e =
          let kind : is_interface run.0.header ≡ true = sym (rw (run.2) refl) ∙ interface_is u setup hierarchy field.class above.header header_found ∙ e in
          let there = at_first field run.0.header.fields member is_first in
          let static = at_index (λ (one : Member). IsTrue (has one.flags STATIC)) run.0.header.fields there.0 member
          ((setup.program.classes number run.0 run.1).of_interface kind) there.1 in
          absurd (false≢true (sym instance ∙ rw (is_member) static))

    named_no_interface : is_interface named_there.0 ≡ false
    named_no_interface = by (is_interface named_there.0) refl where
      by : (b : Bool) → is_interface named_there.0 ≡ b → is_interface named_there.0 ≡ false
      by false e = e
      by true e =
          absurd (no_object (from_interface u setup hierarchy above.header (interface_is u setup hierarchy r.class named_there.0 named_there.1 ∙ e) header_found
          no_interface field_up))

    named_no_object : r.class ≡ object_name → ⊥
    named_no_object same = no_object (from_object u setup hierarchy (subst (λ (name : Name). Up u setup hierarchy name field.class) same field_up))

    chained : (low : Name) → IsThere H low → Up u setup hierarchy low r.class → IsTrue (list_any (bytes_eq field.class) (chain H low))
    chained low there up =
        in_chain H hierarchy low field.class above.header there header_found no_interface apart (up_more u setup hierarchy up field_up) where
          apart : bytes_eq field.class object_name ≡ false
          apart = by (bytes_eq field.class object_name) refl where
            by : (b : Bool) → bytes_eq field.class object_name ≡ b → bytes_eq field.class object_name ≡ false
            by false e = e
            by true e = absurd (no_object ((bytes_eq-Decides field.class object_name).0 e))

  -- ---- the class of the object

  module _ (typings : HasFlatTypings u.flats u.typings) (world : World) (f : MethodState) (rest : List RunFrame) (w : WrittenMethod) (point : Point)
      (class index : ℕ) (r : Reference) (value : Value) (reference : ℕ) (below : List Value) (object : Object) (number : ℕ)
      (typed : TypedWorld (first u) u.typings world) (stands : world.frames ≡ Method f ∷ rest) (written : u.written f.at ≡ Some w)
      (there : slice_get w.flat.points f.place ≡ Some point) (instr : point.instr ≡ Of class (PutField index))
      (names : reference_of (pool_of u.classes class) (constant_at (pool_of u.classes class) index) ≡ Some r)
      (stack : f.stack ≡ value ∷ Ref reference ∷ below) (in_heap : object_at world.memory.heap reference ≡ Some object)
      (shape : object.shape ≡ Folder number) (number_there : IsThere H (name_of_class P number)) where
    ready : IsReadyMethod u.classes u.links f.at w
    ready = setup.ready f.at w written

    abbrev read : Frame
    read = read_frame w.flat point.typed

    abbrev scope : RowScope
    scope = instr_scope u.classes ready.scope w.flat (Of class (PutField index))

    abbrev TypedRow : FlatInstr → Type 0
    TypedRow i =
        RowHolds (instr_scope u.classes ready.scope w.flat i) read
        (row_by (reading_of u.classes w.flat f.place point.typed i) read
        (item_row (instr_scope u.classes ready.scope w.flat i) read f.place (flat_item i)))

    row : RowHolds scope read (access_aside (put_field_row scope read (Some r)))
    row =
        subst (λ (found : Option Reference). RowHolds scope read (access_aside (put_field_row scope read found))) names
        (subst TypedRow instr (ready.code.typed.points f.place point there).row)

    -- the method's own class, by its typing
    own_class : (u.typings f.at).scope.own.name ≡ scope.own.name
    own_class =
        let method = method_of_code (first u) f.at (flat_code u.classes u.links ready.scope w.flat)
        (flat_code_at u setup f.at w ready.scope written ready.is_scope) in
        (setup.program.methods f.at method.0 (flat_code u.classes u.links ready.scope w.flat) method.1 method.2).own
        ∙ same_name (own_same setup) f.at.class
        ∙ rw (class_there u.classes u.links f.at ready.scope (scope_is_at u.classes f.at ready.scope ready.is_scope)) refl

    module _ (named : Header) (found : class_named H r.class ≡ Some named) (no_interface : is_interface named ≡ false)
        (no_object : r.class ≡ object_name → ⊥) where
      abbrev Receives : VType → Type 0
      Receives type = Conforms P (u.typings f.at).scope world.memory.heap type (Ref reference)

      of_this_class : Receives types.UninitThis → MayPut scope r types.UninitThis → Up u setup hierarchy (name_of_class P number) r.class
      of_this_class (of_this {class = other} has is) own =
          up_linked u setup hierarchy (name_of_class P number) r.class number_there
          (subst (λ (name : Name). IsTrue (P.links.below (name_of_class P number) name)) (own_class ∙ sym own.0)
          (subst (λ (n : ℕ). IsTrue (P.links.below (name_of_class P n) (u.typings f.at).scope.own.name)) same is)) where
            shapes_same : Folder other ≡ Folder number
            shapes_same = sym has.same ∙ ap (λ (x : Object). x.shape) (same_Some has.object object (sym has.is_there ∙ in_heap)) ∙ shape

            same : other ≡ number
            same = let e = shapes_same in cc

      by_operands : (on_stack : List VType) → topmost 2 read.stack ≡ on_stack
          → AllFit scope (assignable_or_this (types.Object r.class) ∷ assignable_to (field_type r.desc) ∷ []) on_stack
          → AllConform P (u.typings f.at).scope world.memory.heap on_stack (Ref reference ∷ value ∷ [])
          → Up u setup hierarchy (name_of_class P number) r.class
      by_operands [] is fits conforms = absurd fits
      by_operands (type ∷ []) is fits conforms = absurd fits.1
      by_operands (type ∷ other ∷ third ∷ more) is fits conforms = absurd fits.1.1
      by_operands (type ∷ other ∷ []) is (inl assignable, second) (and_value conforms more) =
          receiver_up u setup hierarchy r.class named found no_interface no_object (u.typings f.at).scope world.memory.heap reference number object in_heap
          shape number_there type (types.Object r.class)
          (subst (λ (headers : Headers). IsAssignable headers type (types.Object r.class))
          (scope_is_at u.classes f.at ready.scope ready.is_scope).headers assignable) refl conforms
      by_operands (type ∷ other ∷ []) is (inr this, second) (and_value conforms more) =
          of_this_class (subst Receives this conforms)
          (subst (MayPut scope r) (sym (ap (λ (all : List VType). lowest_in all) (sym is)) ∙ this) row.further) where
            lowest_in : List VType → VType
            lowest_in [] = types.Top
            lowest_in (lowest ∷ rest) = lowest

      receiver_class : Up u setup hierarchy (name_of_class P number) r.class
      receiver_class =
          by_operands (topmost 2 read.stack) refl row.operands
          (subst (λ (values : List Value). AllConform P (u.typings f.at).scope world.memory.heap (topmost 2 read.stack) (machine.topmost 2 values)) stack
          (top_conforms 2 read.stack f.stack (typed_frame u setup typings world f rest w point typed stands written there).stack))

  -- ---- the whole

  pub not_final : HasFlatTypings u.flats u.typings
      → (world : World) (f : MethodState) (rest : List RunFrame) (w : WrittenMethod) (point : Point) (class index : ℕ)
      (r field : Reference) (number : ℕ) (value : Value) (reference : ℕ) (below : List Value) (object : Object) (of class_number : ℕ) (site : Site)
      → TypedWorld (first u) u.typings world
      → world.frames ≡ Method f ∷ rest
      → u.written f.at ≡ Some w
      → slice_get w.flat.points f.place ≡ Some point
      → point.instr ≡ Of class (PutField index)
      → reference_of (pool_of u.classes class) (constant_at (pool_of u.classes class) index) ≡ Some r
      → u.links.field r ≡ Some field
      → folder_number (first u) field.class ≡ Some number
      → has_flag (field_of (first u) field) STATIC ≡ false
      → f.stack ≡ value ∷ Ref reference ∷ below
      → object_at world.memory.heap reference ≡ Some object
      → object.shape ≡ Folder class_number
      → folder_number (first u) site.class ≡ Some class_number
      → slice_get w.flat.sites of ≡ Some site
      → has_flag (field_of (first u) field) FINAL ≡ false
  not_final typings world f rest w point class index r field number value reference below object of class_number site typed stands written there instr
      names links numbered instance stack in_heap shape site_numbered is_site =
      by (field_of (first u) field) refl where
        candidate : IsCandidate u.classes site.class
        candidate = site_is_candidate setup f.at w of site written is_site

        named_so : name_of_class (first u) class_number ≡ site.class
        named_so = folder_name (first u) site.class class_number site_numbered

        site_there : IsThere (headers_of u.classes) site.class
        site_there = rw (class_of_folder (headers_of u.classes) site.class candidate.header candidate.found) refl

        number_there : IsThere (headers_of u.classes) (name_of_class (first u) class_number)
        number_there = subst (IsThere (headers_of u.classes)) (sym named_so) site_there

        fnd : FieldFound u.classes r field
        fnd = field_found u.classes u.links fields hierarchy setup.linked r field links

        class_same : fnd.found.class ≡ field.class
        class_same = ap (λ (one : Reference). one.class) fnd.same

        no_static : has_flag (field_of (own u) field) STATIC ≡ false
        no_static = sym (same_static_field (own_same setup) field) ∙ instance

        field_there : field_of (own u) field ≡ Some fnd.found.member
        field_there = field_is u.classes u.links fields hierarchy setup.linked fnd

        found_instance : has fnd.found.member.flags STATIC ≡ false
        found_instance = sym (rw (field_there) refl) ∙ no_static

        of_site_chain : (member : Member) → field_of (first u) field ≡ Some member
            → IsTrue (list_any (bytes_eq fnd.found.class) (chain (headers_of u.classes) site.class))
        of_site_chain member is_member =
            let named = named_there r field links number numbered instance member is_member in
            subst (λ (name : Name). IsTrue (list_any (bytes_eq name) (chain (headers_of u.classes) site.class))) (sym class_same)
            (chained r field links number numbered instance member is_member site.class site_there
            (subst (λ (name : Name). Up u setup hierarchy name r.class) named_so
            (receiver_class typings world f rest w point class index r value reference below object class_number typed stands written there instr names
            stack in_heap shape number_there named.0 named.1
            (named_no_interface r field links number numbered instance member is_member)
            (named_no_object r field links number numbered instance member is_member))))

        clears : (one two : ℕ) → StandsAtNumbers u.classes fnd.found one two → (member : Member) → field_of (first u) field ≡ Some member
            → IsTrue (has fnd.found.member.flags FINAL)
            → ClearsFinal u.classes u.flats one two
        clears one two numbers member is_member final = record {
          field = fnd.found;
          is_field = record {
            header = numbers.header;
            of_folder = numbers.of_folder;
            declared = numbers.declares;
            of_class = numbers.of_class;
            instance = found_instance;
          };
          final = final;
          at = f.at;
          flat = w.flat;
          is_flat = setup.flats.each f.at ∙ rw (written) refl;
          of = of;
          site = site;
          is_site = is_site;
          of_chain = of_site_chain member is_member;
          stored = record {
            number = f.place;
            point = point;
            is = there;
            class = class;
            index = index;
            stores = instr;
            finds = record { reference = r; names = names; finds = fnd.finds };
          };
        }

        gone : (one two : ℕ) → folder_number (own u) field.class ≡ Some one → static_number (own u) one field ≡ Some two
            → (member : Member)
            → field_of (first u) field ≡ Some member
            → (cleared final : Bool)
            → has (u.r.cleared one two) FINAL ≡ cleared
            → has fnd.found.member.flags FINAL ≡ final
            → has (without_flags fnd.found.member.flags (u.r.cleared one two)) FINAL ≡ false
        gone one two is_one is_two member is_member true final is_cleared is_final = final_gone fnd.found.member.flags (u.r.cleared one two) is_cleared
        gone one two is_one is_two member is_member false false is_cleared is_final =
            final_stays fnd.found.member.flags (u.r.cleared one two) is_cleared ∙ is_final
        gone one two is_one is_two member is_member false true is_cleared is_final =
            let c = clears one two (stands_at_numbers u.classes u.links fields hierarchy setup.linked fnd one two is_one is_two) member is_member is_final in
            absurd (false≢true (sym is_cleared ∙ (setup.replaces.finals one two).1 c))

        of_member : (member : Member) → field_of (first u) field ≡ Some member
            → (before other : Option Member)
            → field_of (own u) field ≡ before
            → IsCleared (own u) u.r field before other
            → has_flag other FINAL ≡ false
        of_member member is_member before other is_before (field_as_it_was outside) =
            absurd (none-some number (sym outside ∙ sym (same_number (own_same setup) field.class) ∙ numbered))
        of_member member is_member before other is_before field_of_none = refl
        of_member member is_member before other is_before (field_less_flags {member = old} one two is_one is_two) =
            subst (λ (m : Member). has (without_flags m.flags (u.r.cleared one two)) FINAL ≡ false)
            (same_Some fnd.found.member old (sym field_there ∙ is_before))
            (gone one two is_one is_two member is_member (has (u.r.cleared one two) FINAL) (has fnd.found.member.flags FINAL) refl refl)

        by : (found : Option Member) → field_of (first u) field ≡ found → has_flag (field_of (first u) field) FINAL ≡ false
        by None none = rw (none) refl
        by (Some member) some =
            of_member member some (field_of (own u) field) (field_of (first u) field) refl (field_replaced (own u) u.r field)
