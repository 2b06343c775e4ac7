-- The names in the typed frames of an expanded flat code, of its sites and of the constants of its instructions are texts that a Class constant may have,
-- and the classes that they name are there.
use Rattle.std.proofs.Common.{◌≡◌, ◌+◌, ℕ, zero, suc, not, bytes_eq, Bool, true, false, List, [], ◌∷◌, ◌++◌, filter, length, map, reverse, slice_get, Option, Some, None, IfSome, IsSome, option_map, if◌then◌else◌, refl, sym, ap, subst, ◌∙◌}
use Rattle.std.specs.List.{AllByRecursion, flat_map}
use Rattle.std.proofs.lemmas.Bool.{false≢true}
use Rattle.std.proofs.lemmas.Option.{none-some, same_Some, slice_get-map}
use Rattle.std.proofs.lemmas.Slice.Eq.{bytes_eq-Decides}
use Rattle.class_model.specs.Checks.{AllHold, asked_each}
use Rattle.class_model.specs.ClassOf.{ClassOf, fields_checks}
use Rattle.class_model.specs.Code.{OperandFits, verification_type}
use Rattle.class_model.specs.Descriptors.{type_of}
use Rattle.class_model.specs.Header.{field_member, header_of}
use Rattle.class_model.specs.Laws.Checks.{first_holds, others_hold}
use Rattle.class_model.specs.Laws.ClassFiles.{fields_place, parts_hold}
use Rattle.class_model.specs.Laws.Lists.{at_index}
use Rattle.class_model.specs.Members.{STATIC, Signature, field_checks, field_signature, has}
use Rattle.class_model.specs.Pool.{Constants}
use Rattle.class_model.specs.PoolChecks.{IsFieldDescriptor, text_or_empty, utf8_at}
use Rattle.class_model.specs.Spelling.{class_bytes, field_bytes}
use Rattle.class_model.specs.declared.class_file.ClassFile.{ClassFile}
use Rattle.class_model.specs.declared.class_file.Field.{Field}
use Rattle.class_model.specs.declared.class_file.MethodAt.{MethodAt}
use Rattle.class_model.specs.declared.descriptor.FieldType.{FieldType}
use Rattle.class_model.specs.declared.frame.Frame.{Frame}
use Rattle.class_model.specs.declared.frame.VType.{VType}
use Rattle.class_model.specs.declared.frame.VType.TheVariants as types
use Rattle.class_model.specs.declared.header.Header.{Header}
use Rattle.class_model.specs.declared.header.Member.{Member}
use Rattle.class_model.specs.declared.instr.Instr.{Instr}
use Rattle.class_model.specs.declared.instr.Instr.TheVariants.{Nop, Const, Ldc, Ldc2, Load, Store, Iinc, ArrayLoad, ArrayStore, Shuffle, Pure, Divide, FloatAsk, If, If2, IfSame, IfNull, Goto, Table, Lookup, Return, GetStatic, PutStatic, GetField, PutField, Invoke, Dynamic, New, NewArray, NewRefArray, NewMulti, Length, Throw, Cast, InstanceOf, Enter, Leave}
use Rattle.class_tree.specs.Headers.{Classes, Headers, IsClassFile, Name, class_named, headers_of, named}
use Rattle.class_tree.specs.Hierarchy.{IsHierarchy}
use Rattle.class_tree.specs.Layouts.{instance_fields, own_fields, superclasses}
use Rattle.class_tree.specs.Trees.{IsTree}
use Rattle.class_tree.specs.declared.place.Place.TheVariants as places
use Rattle.expanded_code.specs.CandidateSites.{HasCandidateSites, IsSite}
use Rattle.expanded_code.specs.ExpandAnswers.{IsExpanded}
use Rattle.expanded_code.specs.Sites.{HasFrames}
use Rattle.expanded_runs.proofs.Types.FlatNames.{PointHas, expanded_has, frames_have}
use Rattle.expanded_runs.proofs.Types.FoundNames.{instr_finds}
use Rattle.expanded_runs.proofs.Types.InstrNames.{FileFacts, instr_named, utf8_text}
use Rattle.expanded_runs.proofs.Types.KnownTypes.{NameLaws, entry_names, file_facts, method_named}
use Rattle.expanded_runs.proofs.Types.NamedDescriptors.{field_named}
use Rattle.expanded_runs.proofs.Types.NamedTypes.{named_there}
use Rattle.expanded_runs.proofs.Types.OwnPoints.{TypingLaws, typed_method}
use Rattle.expanded_runs.proofs.Types.SpelledFrames.{entry_spelled, method_spelled, own_name}
use Rattle.expanded_runs.proofs.Types.SpelledInstrs.{class_has, field_has, instr_spelled}
use Rattle.expanded_runs.specs.NamedFrames.{FindsNames, FrameHas, HasFramedNames, IsFramedName, IsFramedSite, IsSpelledName, PoolHas, TypeHas, TypesHave}
use Rattle.flow_code.specs.FlatCode.{FlatCode}
use Rattle.flow_code.specs.TypedFrames.{FolderFrames}
use Rattle.flow_code.specs.declared.point.Point.{Point}
use Rattle.flow_code.specs.declared.point.Site.{Site}
use Rattle.member_link.specs.Declarations.{Site as LinkSite, declared_field_checks, declared_method_checks, site_of}
use Rattle.member_link.specs.Laws.Scopes.{IsScopeAt, scope_is_at}
use Rattle.member_link.specs.Linked.{IsLinked}
use Rattle.member_link.specs.References.{IsNamedThere}
use Rattle.member_link.specs.RowScope.{RowScope}
use Rattle.member_link.specs.Scope.{Scope, row_scope}
use Rattle.member_link.specs.Signatures.{field_type}
use Rattle.member_link.specs.Uses.{instr_use_checks}
use Rattle.same_runs.specs.Flats.{pool_of}
use Rattle.same_runs.specs.ReadyCode.{IsReadyCode, IsReadyInstr, IsReadyItem}
use Rattle.type_rules.specs.Verified.{TypesFolder}

-- ---- two properties of names

module _ (headers : Headers) where
  type_both : (type : VType) → TypeHas (IsNamedThere headers) type → TypeHas IsSpelledName type → TypeHas (IsFramedName headers) type
  type_both (types.Object name) there spelled = record { there = there; spelled = spelled }
  type_both types.Top there spelled = tt
  type_both types.Int there spelled = tt
  type_both types.Float there spelled = tt
  type_both types.Long there spelled = tt
  type_both types.Double there spelled = tt
  type_both types.Null there spelled = tt
  type_both types.UninitThis there spelled = tt
  type_both (types.Uninit at) there spelled = tt

  types_both : (all : List VType) → TypesHave (IsNamedThere headers) all → TypesHave IsSpelledName all → TypesHave (IsFramedName headers) all
  types_both [] there spelled = tt
  types_both (type ∷ all) there spelled = (type_both type there.0 spelled.0, types_both all there.1 spelled.1)

  frame_both : (frame : Frame) → FrameHas (IsNamedThere headers) frame → FrameHas IsSpelledName frame → FrameHas (IsFramedName headers) frame
  frame_both frame there spelled = record {
    locals = types_both frame.locals there.locals spelled.locals;
    stack = types_both frame.stack there.stack spelled.stack;
  }

  pool_both : (s : RowScope) (instr : Instr) → PoolHas (IsNamedThere headers) s instr → PoolHas IsSpelledName s instr
      → PoolHas (IsFramedName headers) s instr
  pool_both s (Ldc index) there spelled = λ f. types_both _ (there f) (spelled f)
  pool_both s (Ldc2 index) there spelled = λ f. types_both _ (there f) (spelled f)
  pool_both s (GetStatic index) there spelled = λ r is. types_both (field_type r.desc ∷ []) (there r is) (spelled r is)
  pool_both s (GetField index) there spelled = λ r is. types_both (field_type r.desc ∷ []) (there r is) (spelled r is)
  pool_both s (Invoke opcode index count) there spelled = λ r is.
      (record { there = (there r is).0; spelled = (spelled r is).0 }, types_both _ (there r is).1 (spelled r is).1)
  pool_both s (Dynamic index) there spelled = λ f. types_both _ (there f) (spelled f)
  pool_both s (NewRefArray index) there spelled = λ name is. record { there = there name is; spelled = spelled name is }
  pool_both s (NewMulti index dimensions) there spelled = λ name is. record { there = there name is; spelled = spelled name is }
  pool_both s (Cast index) there spelled = λ name is. record { there = there name is; spelled = spelled name is }
  pool_both s Nop there spelled = tt
  pool_both s (Const imm) there spelled = tt
  pool_both s (Load kind unit) there spelled = tt
  pool_both s (Store kind unit) there spelled = tt
  pool_both s (Iinc unit by) there spelled = tt
  pool_both s (ArrayLoad opcode) there spelled = tt
  pool_both s (ArrayStore opcode) there spelled = tt
  pool_both s (Shuffle opcode) there spelled = tt
  pool_both s (Pure opcode) there spelled = tt
  pool_both s (Divide opcode) there spelled = tt
  pool_both s (FloatAsk opcode) there spelled = tt
  pool_both s (If opcode target) there spelled = tt
  pool_both s (If2 opcode target) there spelled = tt
  pool_both s (IfSame opcode target) there spelled = tt
  pool_both s (IfNull opcode target) there spelled = tt
  pool_both s (Goto target) there spelled = tt
  pool_both s (Table low other targets) there spelled = tt
  pool_both s (Lookup other pairs) there spelled = tt
  pool_both s (Return kind) there spelled = tt
  pool_both s (PutStatic index) there spelled = tt
  pool_both s (PutField index) there spelled = tt
  pool_both s (New index) there spelled = tt
  pool_both s (NewArray code) there spelled = tt
  pool_both s Length there spelled = tt
  pool_both s Throw there spelled = tt
  pool_both s (InstanceOf index) there spelled = tt
  pool_both s Enter there spelled = tt
  pool_both s Leave there spelled = tt

-- what an instruction's constants give depends on the pool alone
pub same_constants : (Has : Name → Type 0) (s other : RowScope) (instr : Instr) → s.pool ≡ other.pool → PoolHas Has s instr → PoolHas Has other instr
same_constants Has s other (Ldc index) same has = subst (λ (p : Constants). PoolHas Has (record s { pool = p }) (Ldc index)) same has
same_constants Has s other (Ldc2 index) same has = subst (λ (p : Constants). PoolHas Has (record s { pool = p }) (Ldc2 index)) same has
same_constants Has s other (GetStatic index) same has = subst (λ (p : Constants). PoolHas Has (record s { pool = p }) (GetStatic index)) same has
same_constants Has s other (GetField index) same has = subst (λ (p : Constants). PoolHas Has (record s { pool = p }) (GetField index)) same has
same_constants Has s other (Invoke opcode index count) same has =
    subst (λ (p : Constants). PoolHas Has (record s { pool = p }) (Invoke opcode index count)) same has
same_constants Has s other (Dynamic index) same has = subst (λ (p : Constants). PoolHas Has (record s { pool = p }) (Dynamic index)) same has
same_constants Has s other (NewRefArray index) same has = subst (λ (p : Constants). PoolHas Has (record s { pool = p }) (NewRefArray index)) same has
same_constants Has s other (NewMulti index dimensions) same has =
    subst (λ (p : Constants). PoolHas Has (record s { pool = p }) (NewMulti index dimensions)) same has
same_constants Has s other (Cast index) same has = subst (λ (p : Constants). PoolHas Has (record s { pool = p }) (Cast index)) same has
same_constants Has s other Nop same has = tt
same_constants Has s other (Const imm) same has = tt
same_constants Has s other (Load kind unit) same has = tt
same_constants Has s other (Store kind unit) same has = tt
same_constants Has s other (Iinc unit by) same has = tt
same_constants Has s other (ArrayLoad opcode) same has = tt
same_constants Has s other (ArrayStore opcode) same has = tt
same_constants Has s other (Shuffle opcode) same has = tt
same_constants Has s other (Pure opcode) same has = tt
same_constants Has s other (Divide opcode) same has = tt
same_constants Has s other (FloatAsk opcode) same has = tt
same_constants Has s other (If opcode target) same has = tt
same_constants Has s other (If2 opcode target) same has = tt
same_constants Has s other (IfSame opcode target) same has = tt
same_constants Has s other (IfNull opcode target) same has = tt
same_constants Has s other (Goto target) same has = tt
same_constants Has s other (Table low default targets) same has = tt
same_constants Has s other (Lookup default pairs) same has = tt
same_constants Has s other (Return kind) same has = tt
same_constants Has s other (PutStatic index) same has = tt
same_constants Has s other (PutField index) same has = tt
same_constants Has s other (New index) same has = tt
same_constants Has s other (NewArray code) same has = tt
same_constants Has s other Length same has = tt
same_constants Has s other Throw same has = tt
same_constants Has s other (InstanceOf index) same has = tt
same_constants Has s other Enter same has = tt
same_constants Has s other Leave same has = tt

-- ---- a class file of the folder

-- where no method is looked at
abbrev file_scope : Headers → ClassFile → ℕ → Scope
file_scope headers file locals = record {
  headers = headers;
  class = file;
  method = record { flags = 0; name = 0; desc = 0; attrs = [] };
  part = record { max_stack = 0; max_locals = locals; code = []; handlers = []; attrs = [] };
}

named_at : (name : Name) (list : List Header) (header : Header) → named name list ≡ Some header
    → (number : ℕ) × (slice_get list number ≡ Some header) × (header.name ≡ name)
named_at name [] header is = absurd (none-some header is)
named_at name (first ∷ list) header is = by (bytes_eq name first.name) refl is (named_at name list header) where
  by : (same : Bool) → bytes_eq name first.name ≡ same → (if same then Some first else named name list) ≡ Some header
      → (named name list ≡ Some header → (number : ℕ) × (slice_get list number ≡ Some header) × (header.name ≡ name))
      → (number : ℕ) × (slice_get (first ∷ list) number ≡ Some header) × (header.name ≡ name)
  by true same found below =
      let one = same_Some first header found in
      (zero, ap (λ (h : Header). Some h) one, ap (λ (h : Header). h.name) (sym one) ∙ sym ((bytes_eq-Decides name first.name).0 same))
  by false other found below = let b = below found in (suc b.0, b.1, b.2)

file_at : (files : List ClassFile) (number : ℕ) (header : Header) → slice_get (map header_of files) number ≡ Some header
    → (file : ClassFile) × (slice_get files number ≡ Some file) × (header_of file ≡ header)
file_at [] number header is = absurd (none-some header is)
file_at (file ∷ files) zero header is = (file, refl, same_Some (header_of file) header is)
file_at (file ∷ files) (suc number) header is = file_at files number header is

text_known : (found : Option (List ℕ)) → IsSome found → found ≡ Some (text_or_empty found)
text_known None some = absurd (false≢true some)
text_known (Some text) some = refl

if_known : (P : List ℕ → Type 0) (found : Option (List ℕ)) → IsSome found → IfSome found P → P (text_or_empty found)
if_known P None some h = absurd (false≢true some)
if_known P (Some text) some h = h

module _ (laws : NameLaws) {classes : Classes} (tree : IsTree classes) (linked : IsLinked classes) (hierarchy : IsHierarchy (headers_of classes)) where
  abbrev headers : Headers
  headers = headers_of classes

  module _ (number : ℕ) (file : ClassFile) (there : slice_get classes.folder number ≡ Some file) where
    known : FileFacts headers file.major file.pool
    known = file_facts tree hierarchy number file there

    read : ClassOf (class_bytes file) file
    read = at_index IsClassFile classes.folder number file tree.folder there

    abbrev scope : Scope
    scope = file_scope (headers_of classes) file 0

    abbrev any_site : LinkSite
    any_site = site_of (header_of file) (record { flags = 0; name = []; desc = [] })

    header_there : slice_get headers.folder number ≡ Some (header_of file)
    header_there = slice_get-map header_of classes.folder number ∙ ap (option_map header_of) there

    -- its class
    class_framed : IsFramedName headers (header_of file).name
    class_framed = record {
      there =
          let found : class_named headers (header_of file).name ≡ Some (header_of file) =
          (hierarchy.of_place (places.Folder number) (header_of file) header_there).found in
          named_there headers hierarchy.no_array (header_of file).name (rw found refl);
      spelled = class_has laws.descriptors scope any_site known file.this_class (header_of file).name (own_name file read);
    }

    -- its fields
    abbrev FieldFramed : Member → Type 0
    FieldFramed member = TypeHas (IsFramedName (headers_of classes)) (field_type member.desc)

    fields_framed : (flags : ℕ) (before : List Signature) (at : ℕ) (fields : List Field)
        → AllHold (fields_checks file.pool flags before at fields)
        → AllHold (asked_each (declared_field_checks headers (header_of file)) (map (field_member file.pool) fields))
        → AllByRecursion FieldFramed (map (field_member file.pool) fields)
    fields_framed flags before at [] hold asked = tt
    fields_framed flags before at (field ∷ fields) hold asked =
        let others = fields_checks file.pool flags (before ++ field_signature field ∷ []) (at + length (field_bytes field)) fields in
        let one = first_holds (field_checks file.pool flags before at field) others hold in
        let desc = one.1.1.1.1 in
        let member = field_member file.pool field in
        let here = first_holds (declared_field_checks headers (header_of file) member)
        (asked_each (declared_field_checks headers (header_of file)) (map (field_member file.pool) fields)) asked in
        let text = utf8_text laws.descriptors scope any_site known field.desc member.desc (text_known (utf8_at file.pool field.desc) desc.0) in
        let is = if_known IsFieldDescriptor (utf8_at file.pool field.desc) desc.0 desc.1.0 in (
          type_both headers (field_type member.desc) (field_named headers member.desc text is here.0) (field_has member.desc text is),
          fields_framed flags (before ++ field_signature field ∷ []) (at + length (field_bytes field)) fields
              (others_hold (field_checks file.pool flags before at field) others hold)
              (others_hold (declared_field_checks headers (header_of file) member)
              (asked_each (declared_field_checks headers (header_of file)) (map (field_member file.pool) fields)) asked),
        )

    own_fields_framed : AllByRecursion FieldFramed (header_of file).fields
    own_fields_framed =
        let checks = subst (λ (f : ClassFile). AllHold (fields_checks f.pool f.flags [] (fields_place f + 2) f.fields)) (sym read.is)
        (parts_hold read.cut read.holds).fields in
        let declared = (laws.by_place classes linked).declarations number (header_of file) header_there in
        fields_framed file.flags [] (fields_place file + 2) file.fields checks
        (first_holds (asked_each (declared_field_checks headers (header_of file)) (header_of file).fields)
        (asked_each (declared_method_checks headers (header_of file)) (header_of file).methods) declared.1)

    -- the constants of an instruction
    pub constants_framed : (locals : ℕ) (instr : Instr) (scope : RowScope) → scope.pool ≡ file.pool
        → OperandFits file.pool file.major locals instr
        → ((member : Member) → AllHold (instr_use_checks (record {
          headers = headers_of classes;
          pool = file.pool;
          site = site_of (header_of file) member;
        }) instr))
        → PoolHas (IsFramedName (headers_of classes)) scope instr
    constants_framed locals instr other same fits uses =
        same_constants (IsFramedName headers) (row_scope (file_scope headers file locals)) other instr (sym same)
        (pool_both headers (row_scope (file_scope headers file locals)) instr
        (instr_named laws.descriptors (file_scope headers file locals) any_site known instr fits (uses (record { flags = 0; name = []; desc = [] })))
        (instr_spelled laws.descriptors (file_scope headers file locals) any_site known instr fits))

  -- ---- candidate classes

  class_is_framed : (name : Name) (header : Header) → named name headers.folder ≡ Some header → IsFramedName headers name
  class_is_framed name header found =
      let at = named_at name headers.folder header found in
      let of = file_at classes.folder at.0 header at.1 in
      subst (IsFramedName headers) (ap (λ (h : Header). h.name) of.2 ∙ at.2) (class_framed at.0 of.0 of.1)

  filtered : (P : Member → Type 0) (test : Member → Bool) (all : List Member) → AllByRecursion P all → AllByRecursion P (filter test all)
  filtered P test [] has = tt
  filtered P test (member ∷ all) has = by (test member) refl (filtered P test all has.1) where
    by : (b : Bool) → test member ≡ b → AllByRecursion P (filter test all) → AllByRecursion P (filter test (member ∷ all))
    by true is rest = rw (is) (has.0, rest)
    by false is rest = rw (is) rest

  abbrev Framed : Member → Type 0
  Framed member = TypeHas (IsFramedName (headers_of classes)) (field_type member.desc)

  own_framed : (name : Name) → AllByRecursion Framed (own_fields headers name)
  own_framed name = by (named name headers.folder) refl where
    by : (found : Option Header) → named name headers.folder ≡ found → AllByRecursion Framed (own_fields headers name)
    by None is = rw is tt
    by (Some header) is =
        let at = named_at name headers.folder header is in
        let of = file_at classes.folder at.0 header at.1 in
        rw is (filtered Framed (λ field. not (has field.flags STATIC)) header.fields
        (subst (λ (h : Header). AllByRecursion Framed h.fields) of.2 (own_fields_framed at.0 of.0 of.1)))

  joined : (ones others : List Member) → AllByRecursion Framed ones → AllByRecursion Framed others → AllByRecursion Framed (ones ++ others)
  joined [] others one other = other
  joined (member ∷ ones) others one other = (one.0, joined ones others one.1 other)

  all_framed : (names : List Name) → AllByRecursion Framed (flat_map (own_fields headers) names)
  all_framed [] = tt
  all_framed (name ∷ names) = joined (own_fields headers name) (flat_map (own_fields headers) names) (own_framed name) (all_framed names)

  types_framed : (fields : List Member) → AllByRecursion Framed fields
      → AllByRecursion (λ (type : FieldType). TypeHas (IsFramedName (headers_of classes)) (verification_type type)) (map (λ (f : Member). type_of f.desc) fields)
  types_framed [] framed = tt
  types_framed (field ∷ fields) framed = (framed.0, types_framed fields framed.1)

  site_framed : (flat : FlatCode) (site : Site) → IsSite classes flat site → IsFramedSite headers site
  site_framed flat site is = record {
    class = class_is_framed site.class is.candidate.header is.candidate.found;
    fields =
        subst (AllByRecursion (λ (type : FieldType). TypeHas (IsFramedName (headers_of classes)) (verification_type type))) (sym is.fields)
        (types_framed (instance_fields headers site.class) (all_framed (reverse (superclasses headers site.class))));
  }

  -- ---- frames

  module _ (typing : TypingLaws) {typed : FolderFrames} (folder : TypesFolder classes typed) where
    each_has : (at : MethodAt) (s : Scope) (frames : List Frame) → HasFrames classes typed at s frames
        → AllByRecursion (FrameHas (IsFramedName headers)) frames
    each_has at s frames has =
        let where_is = scope_is_at classes at s has.is_scope in
        let is_typed = typed_method typing folder has in
        frames_have (IsFramedName headers) frames
        (λ k frame is. frame_both headers frame
        (subst (λ (hs : Headers). FrameHas (IsNamedThere hs) frame) where_is.headers
        (method_named laws tree linked hierarchy at s where_is frames is_typed k frame is))
        (method_spelled laws tree linked hierarchy at s where_is frames is_typed k frame is))

    -- An expanded flat code.
    pub flat_framed : (at : MethodAt) (flat : FlatCode) (s : Scope) → IsExpanded classes typed at flat → HasCandidateSites classes flat
        → IsReadyCode classes s flat
        → HasFramedNames classes s flat
    flat_framed at flat s is sites ready = record {
      own = class_framed flat.host.class s.class where_is.of_folder;
      entry = λ locals. frame_both headers _ (entry_names laws tree linked hierarchy flat.host s where_is locals)
          (entry_spelled laws tree linked hierarchy flat.host s where_is locals);
      points = λ number point there. at_index (PointHas (IsFramedName headers)) flat.points number point all_points there;
      sites = λ number site there. site_framed flat site (at_index (IsSite classes flat) flat.sites number site sites.sites there);
      instrs = λ number point class instr scope there is_instr same.
          let item = subst (IsReadyItem classes flat.locals) is_instr
          (at_index (λ (p : Point). IsReadyItem classes flat.locals p.instr) flat.points number point ready.points there) in
          instr_framed class instr scope item same;
    } where
      where_is : IsScopeAt classes flat.host s
      where_is = scope_is_at classes flat.host s ready.host

      all_points : AllByRecursion (PointHas (IsFramedName headers)) flat.points
      all_points =
          subst (λ (f : FlatCode). AllByRecursion (PointHas (IsFramedName headers)) f.points) (sym is.is)
          (expanded_has (IsFramedName headers) each_has is.host is.expansion is.expands is.is_host)

      instr_framed : (class : ℕ) (instr : Instr) (scope : RowScope) → IsReadyInstr classes flat.locals class instr → scope.pool ≡ pool_of classes class
          → PoolHas (IsFramedName headers) scope instr × FindsNames scope.pool instr
      instr_framed class instr scope item same =
          let there = item.there in
          let pool_is : pool_of classes class ≡ item.file.pool = rw there refl in
          let pool_same : scope.pool ≡ item.file.pool = same ∙ pool_is in (
            constants_framed class item.file there flat.locals instr scope pool_same item.operand item.linked,
            subst (λ (p : Constants). FindsNames p instr) (sym pool_same)
                (instr_finds item.file.major item.file.pool (known class item.file there).each flat.locals instr item.operand),
          )
