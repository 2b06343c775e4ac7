-- In a verified folder the types of each typed frame name classes that are there.
use Rattle.std.proofs.Common.{◌≡◌, ◌<◌, ℕ, zero, suc, List, [], ◌∷◌, length, slice_get, Option, Some, None, IfSome, IsSome, Result, Ok, Err, option_map, refl, sym, ap, subst, ◌∙◌, arith}
use Rattle.std.specs.List.{AllByRecursion}
use Rattle.std.proofs.lemmas.List.{length-map}
use Rattle.std.proofs.lemmas.Option.{none-some, same_Some, slice_get-map, slice_get_within}
use Rattle.class_model.specs.Checks.{AllHold, Check, Fault, asked_each}
use Rattle.class_model.specs.ClassOf.{ClassOf}
use Rattle.class_model.specs.Code.{OperandFits}
use Rattle.class_model.specs.Descriptors.{parameters_of}
use Rattle.class_model.specs.Header.{header_of, method_member}
use Rattle.class_model.specs.Instructions.{decoded}
use Rattle.class_model.specs.Laws.Checks.{first_holds, others_hold}
use Rattle.class_model.specs.Laws.ClassFiles.{parts_hold}
use Rattle.class_model.specs.Laws.Codes.{code_has}
use Rattle.class_model.specs.Laws.Lists.{at_index}
use Rattle.class_model.specs.MethodCode.{code_of}
use Rattle.class_model.specs.Methods.{IsDescriptorOf, entry_of, home_of}
use Rattle.class_model.specs.PoolChecks.{class_at, entries_checks, text_or_empty, utf8_at}
use Rattle.class_model.specs.Spelling.{class_bytes}
use Rattle.class_model.specs.declared.class_file.Attr.{Attr}
use Rattle.class_model.specs.declared.class_file.Attr.TheVariants.{Code, Raw}
use Rattle.class_model.specs.declared.class_file.ClassFile.{ClassFile}
use Rattle.class_model.specs.declared.class_file.CodePart.{CodePart}
use Rattle.class_model.specs.declared.class_file.Method.{Method}
use Rattle.class_model.specs.declared.class_file.MethodAt.{MethodAt}
use Rattle.class_model.specs.declared.frame.Frame.{Frame}
use Rattle.class_model.specs.declared.frame.VType.{VType}
use Rattle.class_model.specs.declared.instr.Placed.{Placed}
use Rattle.class_model.specs.declared.pool.Const.TheVariants as consts
use Rattle.class_tree.specs.Headers.{Classes, Headers, IsClassFile, IsThere, Name, class_named, headers_of}
use Rattle.class_tree.specs.Hierarchy.{IsHierarchy}
use Rattle.class_tree.specs.Subtype.{IsArray}
use Rattle.class_tree.specs.Trees.{IsTree}
use Rattle.class_tree.specs.declared.place.Place.TheVariants as places
use Rattle.code_bytes.specs.Codes.{HasOperands, HasReadMethods, HasReadOperands, HaveOperands, IsReadMethod}
use Rattle.expanded_code.specs.Sites.{HasFrames}
use Rattle.expanded_runs.proofs.Types.EachFrame.{each_frame, framed_is}
use Rattle.expanded_runs.proofs.Types.FirstFrames.{frames_entered, frames_long}
use Rattle.expanded_runs.proofs.Types.FrameFacts.{FrameFacts}
use Rattle.expanded_runs.proofs.Types.InstrNames.{FileFacts, constant_holds, instr_named}
use Rattle.expanded_runs.proofs.Types.KnownBases.{array_interfaces, classes_there, handles_there, strings_there, types_there}
use Rattle.expanded_runs.proofs.Types.NamedDescriptors.{DescriptorLaws, parameters_named}
use Rattle.expanded_runs.proofs.Types.NamedTypes.{AreNamed, named_known, named_there}
use Rattle.expanded_runs.proofs.Types.OwnPoints.{IsTyped, TypingLaws, typed_method}
use Rattle.expanded_runs.proofs.Types.RowNames.{PoolNamed, there_kept}
use Rattle.expanded_runs.proofs.Types.ShortTexts.{class_texts_short}
use Rattle.expanded_runs.proofs.Types.StatedNames.{all_values_named, entry_frame_has, frame_named, one_of}
use Rattle.expanded_runs.proofs.Types.ThroughClass.{ArrayInterfaces, IsKnown}
use Rattle.expanded_runs.specs.Laws.KeptNames.{load_fits, named_get, row_keeps}
use Rattle.expanded_runs.specs.NamedFrames.{FrameHas, IsKeptName, PoolHas}
use Rattle.flow_code.specs.TypedFrames.{FolderFrames}
use Rattle.member_link.specs.Bodies.{falls_through, flows_on}
use Rattle.member_link.specs.BodyTyping.{RowHolds}
use Rattle.member_link.specs.Declarations.{Site, declared_field_checks, declared_method_checks, site_of}
use Rattle.member_link.specs.Linked.{IsLinked}
use Rattle.member_link.specs.LinkedPlaces.{CodeAt, IsLinkedByPlace}
use Rattle.member_link.specs.References.{DescriptorNames, IsNamedThere, TypeNames}
use Rattle.member_link.specs.Rows.Table.{row_of}
use Rattle.member_link.specs.Scope.{Scope, instructions, own_descriptor, row_scope, scope_at}
use Rattle.member_link.specs.Uses.{frame_checks, instr_use_checks}
use Rattle.member_link.specs.Laws.Scopes.{IsScopeAt, scope_is_at}
use Rattle.type_rules.specs.MethodBodies.{point_of}
use Rattle.type_rules.specs.Stated.{entry, stated, stated_at}
use Rattle.type_rules.specs.Verified.{TypesFolder}

-- ---- of a method by itself

module _ (Has : Name → Type 0) (closed : IsKeptName Has) (s : Scope) (frames : List Frame) (typed : IsTyped s frames)
    (one_each : length frames ≡ length (instructions s)) (own_has : Has (row_scope s).own.name) (entry_has : FrameHas Has (entry s))
    (stated_has : (place : ℕ) (frame : Frame) → stated_at s place ≡ Some frame → FrameHas Has frame)
    (instr_has : (k : ℕ) (placed : Placed) → slice_get (instructions s) k ≡ Some placed → PoolHas Has (row_scope s) placed.instr) where
  behind_has : (placed : Placed) (frame flows : Frame) → PoolHas Has (row_scope s) placed.instr → FrameHas Has frame
      → RowHolds (row_scope s) frame (row_of (row_scope s) frame placed.at placed.instr)
      → flows_on (point_of s placed) frame ≡ Some flows
      → FrameHas Has flows
  behind_has placed frame flows constants has row is =
      let fit = load_fits (row_scope s) frame placed.at placed.instr row.operands in
      let keeps = row_keeps Has closed (row_scope s) (row_scope s) frame own_has has placed.at placed.instr constants fit in
      let same = framed_is (falls_through placed.instr) (row_of (row_scope s) frame placed.at placed.instr).goes_on _ flows is in
      subst (FrameHas Has) same (record { locals = keeps.0; stack = keeps.1 })

  -- What is known of the names of the frames that it begins with and states, and of its constants, is known of those of each frame.
  pub typed_keep : (k : ℕ) (frame : Frame) → slice_get frames k ≡ Some frame → FrameHas Has frame
  typed_keep =
      each_frame s frames typed one_each (FrameHas Has) entry_has stated_has
      (λ k placed there frame flows has row is. behind_has placed frame flows (instr_has k placed there) has row is)

-- ---- of a folder

-- what other crates say: class_model of descriptors, member_link's `a_linked_folder_passes_by_place`, and code_bytes' `a_class_file_has_read_methods`
pub record NameLaws : Type 0 where
  pub descriptors : DescriptorLaws
  pub by_place : (classes : Classes) → IsLinked classes → IsLinkedByPlace classes
  pub methods : (bytes : List ℕ) (class : ClassFile) → ClassOf bytes class → HasReadMethods class
  pub operands : (bytes : List ℕ) (class : ClassFile) → ClassOf bytes class → HasReadOperands class

-- what each of these is asked
pub each_asked : {F X : Type 0} (asks : X → List (Check F)) (items : List X) → AllHold (asked_each asks items)
    → (n : ℕ) (item : X) → slice_get items n ≡ Some item → AllHold (asks item)
each_asked asks [] hold n item is = absurd cc
each_asked asks (first ∷ items) hold zero item is =
    subst (λ x. AllHold (asks x)) (same_Some first item is) (first_holds (asks first) (asked_each asks items) hold)
each_asked asks (first ∷ items) hold (suc n) item is =
    each_asked asks items (others_hold (asks first) (asked_each asks items) hold) n item is

-- a Code attribute among those of a method
pub code_attr : (attrs : List Attr) (part : CodePart) → code_of attrs ≡ Some part → (n : ℕ) × (name : ℕ) × (slice_get attrs n ≡ Some (Code name part))
code_attr [] part is = absurd (none-some part is)
code_attr (Code name own ∷ attrs) part is = (zero, name, ap (λ (p : CodePart). Some (Code name p)) (same_Some own part is))
code_attr (Raw name bytes ∷ attrs) part is = let c = code_attr attrs part is in (suc c.0, c.1, c.2)

-- the code of a method by its place
abbrev pub code_there : {classes : Classes} {at : MethodAt} (s : Scope) → IsScopeAt classes at s → CodeAt classes at.class at.method
code_there {at = at} s where_is =
    let attr = code_attr s.method.attrs s.part where_is.has_code in
    record {
      class = s.class;
      method = s.method;
      member = method_member s.class.pool s.method;
      attr_number = attr.0;
      name = attr.1;
      part = s.part;
      class_is = where_is.of_folder;
      method_is = where_is.of_class;
      member_is = slice_get-map (method_member s.class.pool) s.class.methods at.method ∙ ap (option_map (method_member s.class.pool)) where_is.of_class;
      code_is = attr.2;
    }

-- an instruction of a code that is decoded
pub record DecodedAt (part : CodePart) (number : ℕ) (placed : Placed) : Type 0 where
  pub instrs : List Placed
  pub decodes : decoded part.code ≡ Ok instrs
  pub there : slice_get instrs number ≡ Some placed

pub decoded_at : (s : Scope) (number : ℕ) (placed : Placed) → slice_get (instructions s) number ≡ Some placed → DecodedAt s.part number placed
decoded_at s number placed is = by (decoded s.part.code) refl where
  by : (r : Result (List Placed) Fault) → decoded s.part.code ≡ r → DecodedAt s.part number placed
  by (Ok instrs) e = record { instrs = instrs; decodes = e; there = rw e at is }
  by (Err fault) e = let no : None ≡ Some placed = rw e at is in absurd (none-some placed no)

-- what is known of a class file of the folder
pub file_facts : {classes : Classes} → IsTree classes → IsHierarchy (headers_of classes) → (number : ℕ) (file : ClassFile)
    → slice_get classes.folder number ≡ Some file
    → FileFacts (headers_of classes) file.major file.pool
file_facts {classes} tree hierarchy number file there = record {
  each = constant_holds file.major file.pool
      (subst (λ (f : ClassFile). AllHold (entries_checks f.major f.pool 10 f.pool)) (sym read.is) (parts_hold read.cut read.holds).pool);
  short = class_texts_short file read;
  no_array = hierarchy.no_array;
  strings = strings_there classes some tree.holds;
  classes = classes_there classes some tree.holds;
  handles = λ index kind reference is. handles_there classes some tree.holds number file there index (consts.MethodHandle kind reference) is refl;
  types = λ index desc is. types_there classes some tree.holds number file there index (consts.MethodType desc) is refl;
} where
  some : 0 < length classes.folder
  some = let within = slice_get_within classes.folder number file there in omega (arith, within)

  read : ClassOf (class_bytes file) file
  read = at_index IsClassFile classes.folder number file tree.folder there

module _ (laws : NameLaws) {classes : Classes} (tree : IsTree classes) (linked : IsLinked classes) (hierarchy : IsHierarchy (headers_of classes))
    (at : MethodAt) (s : Scope) (where_is : IsScopeAt classes at s) where
  read : ClassOf (class_bytes s.class) s.class
  read = at_index IsClassFile classes.folder at.class s.class tree.folder where_is.of_folder

  -- ---- the class

  own_found : class_named (headers_of classes) (header_of s.class).name ≡ Some (header_of s.class)
  own_found =
      (hierarchy.of_place (places.Folder at.class) (header_of s.class)
      (slice_get-map header_of classes.folder at.class ∙ ap (option_map header_of) where_is.of_folder)).found

  own_is_there : IsNamedThere (headers_of classes) (header_of s.class).name
  own_is_there =
      let there : IsThere (headers_of classes) (header_of s.class).name = rw own_found refl in
      named_there (headers_of classes) hierarchy.no_array (header_of s.class).name there

  pub facts : FileFacts (headers_of classes) s.class.major s.class.pool
  facts = file_facts tree hierarchy at.class s.class where_is.of_folder

  -- ---- the code by its place

  abbrev pub site : Site
  site = site_of (header_of s.class) (method_member s.class.pool s.method)

  pub operand_fits : (k : ℕ) (placed : Placed) → DecodedAt s.part k placed
      → OperandFits s.class.pool s.class.major s.part.max_locals placed.instr
  operand_fits k placed d =
      let have : HaveOperands s.class.pool s.class.major s.part.max_locals (decoded s.part.code) =
      code_has (HasOperands s.class.pool s.class.major)
      (λ (p : CodePart). HaveOperands s.class.pool s.class.major p.max_locals (decoded p.code)) (λ name p x. x) s.method.attrs s.part
      (at_index (λ (x : Method). AllByRecursion (HasOperands s.class.pool s.class.major) x.attrs) s.class.methods at.method s.method
      (laws.operands (class_bytes s.class) s.class read) where_is.of_class) where_is.has_code in
      at_index (λ (p : Placed). OperandFits s.class.pool s.class.major s.part.max_locals p.instr) d.instrs k placed
      (subst (HaveOperands s.class.pool s.class.major s.part.max_locals) d.decodes have) d.there

  instr_has : (k : ℕ) (placed : Placed) → slice_get (instructions s) k ≡ Some placed → PoolNamed (row_scope s) placed.instr
  instr_has k placed is =
      let d = decoded_at s k placed is in
      let uses = (laws.by_place classes linked).instructions at.class at.method k (code_there s where_is) d.instrs placed d.decodes d.there in
      instr_named laws.descriptors s site
      (subst (λ (hs : Headers). FileFacts hs s.class.major s.class.pool) (sym where_is.headers) facts) placed.instr (operand_fits k placed d)
      (subst (λ (hs : Headers). AllHold (instr_use_checks (record { headers = hs; pool = s.class.pool; site = site }) placed.instr))
      (sym where_is.headers) uses)

  stated_has : (place : ℕ) (frame : Frame) → stated_at s place ≡ Some frame → AreNamed s.headers frame
  stated_has place frame is =
      let one = one_of (stated s) place frame is in
      let checks = (laws.by_place classes linked).frames at.class at.method one.number (code_there s where_is) one.placed one.there in
      subst (AreNamed s.headers) one.same
      (frame_named (record { headers = s.headers; pool = s.class.pool; site = site }) one.placed
      (subst (λ (hs : Headers). AllHold (frame_checks (record { headers = hs; pool = s.class.pool; site = site }) one.placed))
      (sym where_is.headers) checks))

  -- ---- what its code begins with

  own_names : DescriptorNames (IsThere (headers_of classes)) (own_descriptor s)
  own_names =
      let header = header_of s.class in
      let headers = headers_of classes in
      let declared = (laws.by_place classes linked).declarations at.class header
      (slice_get-map header_of classes.folder at.class ∙ ap (option_map header_of) where_is.of_folder) in
      let methods = others_hold (asked_each (declared_field_checks headers header) header.fields)
      (asked_each (declared_method_checks headers header) header.methods) declared.1 in
      (each_asked (declared_method_checks headers header) header.methods methods at.method (method_member s.class.pool s.method)
      (slice_get-map (method_member s.class.pool) s.class.methods at.method
      ∙ ap (option_map (method_member s.class.pool)) where_is.of_class)).0

  own_parameters : AllByRecursion (TypeNames (IsThere (headers_of classes))) (parameters_of (own_descriptor s))
  own_parameters = by (utf8_at s.class.pool s.method.desc) refl method.there method.descriptor where
    method : IsReadMethod s.class.pool s.method
    method = at_index (IsReadMethod s.class.pool) s.class.methods at.method s.method (laws.methods (class_bytes s.class) s.class read)
        where_is.of_class

    by : (text : Option (List ℕ)) → utf8_at s.class.pool s.method.desc ≡ text → IsSome text
        → IfSome text (IsDescriptorOf s.method.flags)
        → AllByRecursion (TypeNames (IsThere (headers_of classes))) (parameters_of (own_descriptor s))
    by None is there of = absurd cc
    by (Some text) is there of =
        let same : own_descriptor s ≡ text = ap text_or_empty is in
        subst (λ (t : List ℕ). AllByRecursion (TypeNames (IsThere (headers_of classes))) (parameters_of t)) (sym same)
        (parameters_named laws.descriptors (headers_of classes) text of.descriptor of.spelled
        (subst (DescriptorNames (IsThere (headers_of classes))) same own_names))

  pub entry_names : (locals : ℕ)
      → AreNamed (headers_of classes) (entry_of (home_of s.class) s.method (record s.part { max_locals = locals }))
  entry_names locals =
      entry_frame_has (IsNamedThere (headers_of classes)) s.method.flags (text_or_empty (utf8_at s.class.pool s.method.name)) (home_of s.class).name
      (parameters_of (own_descriptor s)) locals (by (class_at s.class.pool s.class.this_class) refl)
      (all_values_named (headers_of classes) (parameters_of (own_descriptor s)) own_parameters) where
        by : (name : Option Name) → class_at s.class.pool s.class.this_class ≡ name → IfSome name (IsNamedThere (headers_of classes))
        by None is = tt
        by (Some name) is = subst (IsNamedThere (headers_of classes)) (ap text_or_empty is) own_is_there

  entry_has : AreNamed (headers_of classes) (entry s)
  entry_has = entry_names s.part.max_locals

  pub method_named : (frames : List Frame) → IsTyped s frames → (k : ℕ) (frame : Frame) → slice_get frames k ≡ Some frame
      → AreNamed s.headers frame
  method_named frames typed =
      typed_keep (IsNamedThere s.headers)
      (there_kept s.headers
      (subst (λ (hs : Headers). (name : Name) → IsArray name → class_named hs name ≡ None) (sym where_is.headers) hierarchy.no_array)) s frames typed
      (typed.has.one_each ∙ length-map (instructions s) (point_of s))
      (subst (λ (hs : Headers). IsNamedThere hs (header_of s.class).name) (sym where_is.headers) own_is_there)
      (subst (λ (hs : Headers). AreNamed hs (entry s)) (sym where_is.headers) entry_has) stated_has instr_has

-- The types on the stack of each typed frame are known.
pub frames_known : NameLaws → TypingLaws → {classes : Classes} {typed : FolderFrames} → IsTree classes → IsLinked classes
    → IsHierarchy (headers_of classes)
    → TypesFolder classes typed
    → (at : MethodAt) (s : Scope) (frames : List Frame) → HasFrames classes typed at s frames
    → (k : ℕ) (frame : Frame) → slice_get frames k ≡ Some frame
    → (n : ℕ) (type : VType) → slice_get frame.stack n ≡ Some type
    → IsKnown s.headers type
frames_known laws typing {classes} tree linked hierarchy folder at s frames has k frame is n type there =
    let named = method_named laws tree linked hierarchy at s (scope_is_at classes at s has.is_scope) frames
    (typed_method typing folder has) k frame is in
    named_known s.headers type (named_get (IsNamedThere s.headers) frame.stack n type named.stack there)

-- What is known of the typed frames of a verified folder.
pub frame_facts : NameLaws → TypingLaws → {classes : Classes} {typed : FolderFrames} → IsTree classes → IsLinked classes
    → IsHierarchy (headers_of classes)
    → TypesFolder classes typed
    → FrameFacts classes typed
frame_facts laws typing tree linked hierarchy folder = record {
  long = frames_long typing folder tree.folder;
  entered = frames_entered typing folder;
  known = frames_known laws typing tree linked hierarchy folder;
}

-- The interfaces of arrays are interfaces, where a folder has a method with code.
pub arrays_known : {classes : Classes} → IsTree classes → (at : MethodAt) (s : Scope) → scope_at classes at ≡ Some s → ArrayInterfaces s.headers
arrays_known {classes} tree at s is =
    let where_is = scope_is_at classes at s is in
    let within = slice_get_within classes.folder at.class s.class where_is.of_folder in
    subst ArrayInterfaces (sym where_is.headers) (array_interfaces classes (omega (arith, within)) tree.holds)
