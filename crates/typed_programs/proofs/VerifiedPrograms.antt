use Rattle.std.specs.Prelude.{◌≡◌, ◌<◌, refl, ℕ, Bool, true, false, List, [], length, slice_get, Option, Some, None, IsSome, option_map, option_and_then, if◌then◌else◌}
use Rattle.std.specs.List.{AllByRecursion}
use Rattle.std.proofs.Common.{ap, sym, ◌∙◌, subst}
use Rattle.std.proofs.lemmas.Option.{slice_get-map}
use Rattle.class_model.specs.ClassOf.{entered}
use Rattle.class_model.specs.Header.{method_member}
use Rattle.class_model.specs.Laws.ClassFiles.{parts_hold}
use Rattle.class_model.specs.Laws.Lists.{at_index}
use Rattle.class_model.specs.Members.{has, NATIVE}
use Rattle.class_model.specs.MethodCode.{code_of}
use Rattle.class_model.specs.PoolChecks.{class_at}
use Rattle.class_model.specs.declared.class_file.ClassFile.{ClassFile}
use Rattle.class_model.specs.declared.class_file.CodePart.{CodePart}
use Rattle.class_model.specs.declared.class_file.Method.{Method}
use Rattle.class_model.specs.declared.class_file.MethodAt.{MethodAt}
use Rattle.class_model.specs.declared.frame.Frame.{Frame}
use Rattle.class_tree.specs.Headers.{Name, Classes, headers_of, IsClassFile}
use Rattle.class_tree.specs.Hierarchy.{IsHierarchy}
use Rattle.class_tree.specs.Trees.{IsTree}
use Rattle.flow_code.specs.TypedFrames.{FolderFrames, typed_frames_at}
use Rattle.member_link.specs.Bodies.{Body, BodyPoint}
use Rattle.member_link.specs.BodyTyping.{AreInOrder, GoesToStated, HasFrames, StatesAtPoints}
use Rattle.member_link.specs.Linked.{IsLinked}
use Rattle.member_link.specs.Machine.Classes.{program_of, run_class_of, run_method_of}
use Rattle.member_link.specs.Machine.Codes.{method_code}
use Rattle.member_link.specs.Machine.Links.{AreLinksOf}
use Rattle.member_link.specs.Machine.Programs.{Links, Program, Code, RunClass, RunMethod, run_method, code_run}
use Rattle.member_link.specs.Scope.{Scope, scope_at, instructions, row_scope}
use Rattle.typed_programs.proofs.Bases.{has_base}
use Rattle.typed_programs.proofs.FileClasses.{class_typed}
use Rattle.typed_programs.proofs.Folders.{some_of}
use Rattle.typed_programs.proofs.LinkedCode.{LinkLaws, linked_instr}
use Rattle.typed_programs.proofs.ProgramHeaders.{headers_are}
use Rattle.typed_programs.proofs.TypedCode.{IsTypedCode}
use Rattle.typed_programs.proofs.TypedMethods.{scope_with, method_typed}
use Rattle.type_rules.specs.Checks.{IsTypedAt}
use Rattle.type_rules.specs.Laws.InstructionOrder.{ascend}
use Rattle.type_rules.specs.MethodBodies.{body_of}
use Rattle.type_rules.specs.Typed.{Typed, TypesBody, flows_into}
use Rattle.type_rules.specs.Verified.{TypesFolder, TypesMethod}
use Rattle.typed_runs.specs.FolderTypings.{HasTypings}
use Rattle.typed_runs.specs.TypedPoints.{Typing}
use Rattle.typed_runs.specs.TypedPrograms.{Typings, IsTypedMethod, IsTypedProgram}

-- what the laws of typing say
pub record TypeLaws : Type 0 where
  pub methods : (classes : Classes) (typed : FolderFrames) → TypesFolder classes typed → (at : MethodAt)
      → TypesMethod (scope_at classes at) (typed_frames_at typed at)
  pub count : (b : Body) (frames : List Frame) → TypesBody b frames → length frames ≡ length b.points
  pub each : (b : Body) (frames : List Frame) → TypesBody b frames → (number : ℕ) (point : BodyPoint)
      → slice_get b.points number ≡ Some point
      → (frame : Frame) × (slice_get frames number ≡ Some frame) × IsTypedAt b (flows_into b frames number) point frame
  pub past : (b : Body) (frames : List Frame) → TypesBody b frames → flows_into b frames (length b.points) ≡ None
  pub has : (b : Body) (frames : List Frame) → AreInOrder b.points → TypesBody b frames → HasFrames b frames
  pub edges : (b : Body) (frames : List Frame) → AreInOrder b.points → StatesAtPoints b → TypesBody b frames
      → AllByRecursion (GoesToStated b frames) b.points
  pub order : (s : Scope) → AreInOrder (body_of s).points
  pub stated : (s : Scope) → StatesAtPoints (body_of s)

pub typed_code : TypeLaws → (s : Scope) (frames : List Frame) → Typed s frames → IsTypedCode s frames
typed_code laws s frames typed = record {
  count = laws.count (body_of s) frames typed;
  each = laws.each (body_of s) frames typed;
  past = laws.past (body_of s) frames typed;
  has = laws.has (body_of s) frames (laws.order s) typed;
  edges = laws.edges (body_of s) frames (laws.order s) (laws.stated s) typed;
  order = laws.order s;
}

-- ---- how each method is typed

-- nothing is asked of one without code
abbrev pub no_typing : Classes → Typing
no_typing classes = record {
  scope = record {
    headers = headers_of classes;
    pool = [];
    major = 0;
    own = record { name = []; flags = 0; super_name = None; interfaces = []; fields = []; methods = [] };
    is_init = false;
    is_clinit = false;
    result = None;
    max_stack = 0;
    new_class = λ at. None;
  };
  frames = [];
}

abbrev pub typing_with : Classes → Option Scope → Option (List Frame) → Typing
typing_with classes (Some s) (Some frames) = record { scope = row_scope s; frames = frames }
typing_with classes s frames = no_typing classes

abbrev pub typings_of : Classes → FolderFrames → Typings
typings_of classes typed at = typing_with classes (scope_at classes at) (typed_frames_at typed at)

module _ (laws : TypeLaws) (link_laws : LinkLaws) (classes : Classes) (typed : FolderFrames) (links : Links)
    (hierarchy : IsHierarchy (headers_of classes)) (tree : IsTree classes) (linked : IsLinked classes) (types : TypesFolder classes typed)
    (are_links : AreLinksOf (headers_of classes) links) (has_class : 0 < length classes.folder) where
  abbrev T : Typings
  T = typings_of classes typed

  abbrev Q : Program
  Q = program_of classes links

  here_typed : (at : MethodAt) (file : ClassFile) (m : Method) (part : CodePart) → slice_get classes.folder at.class ≡ Some file
      → slice_get file.methods at.method ≡ Some m → code_of m.attrs ≡ Some part
      → IsTypedMethod Q at (method_member file.pool m) (method_code links (scope_with classes file m part)) (T at)
  here_typed at file m part of_file of_method of_code =
      subst (λ (t : Typing). IsTypedMethod Q at (method_member file.pool m) (method_code links s) t) (sym same)
      (method_typed classes links at file m part found.0 (typed_code laws s found.0 found.2) here named.0 named.1
      (λ number placed there t. linked_instr link_laws.references classes links are_links hierarchy tree has_class link_laws linked at file m part of_file
      of_method of_code (ascend s (instructions s) (laws.order s)) number placed there)) where
        s : Scope
        s = scope_with classes file m part

        scoped : scope_at classes at ≡ Some s
        scoped = rw of_file (rw of_method (rw of_code refl))

        by : (o : Option (List Frame)) → typed_frames_at typed at ≡ o → TypesMethod (Some s) o
            → (frames : List Frame) × (typed_frames_at typed at ≡ Some frames) × Typed s frames
        by None e t = absurd t
        by (Some frames) e t = (frames, e, t)

        found : (frames : List Frame) × (typed_frames_at typed at ≡ Some frames) × Typed s frames
        found = by (typed_frames_at typed at) refl (subst (λ (o : Option Scope). TypesMethod o
            (typed_frames_at typed at)) scoped (laws.methods classes typed types at))

        same : T at ≡ record { scope = row_scope s; frames = found.0 }
        same = ap (λ (o : Option Scope). typing_with classes o (typed_frames_at typed at)) scoped
            ∙ ap (typing_with classes (Some s)) found.1

        here : slice_get Q.classes at.class ≡ Some (run_class_of links (headers_of classes) file)
        here = slice_get-map (run_class_of links (headers_of classes)) classes.folder at.class ∙ (rw of_file refl)

        read : IsClassFile file
        read = at_index IsClassFile classes.folder at.class file tree.folder of_file

        named_in : (f : ClassFile) → f ≡ file → (o : Option Name) → class_at f.pool f.this_class ≡ o → IsSome o
            → (name : Name) × (class_at file.pool file.this_class ≡ Some name)
        named_in f e None d there = cc
        named_in f e (Some name) d there = (name, subst (λ (g : ClassFile). class_at g.pool g.this_class ≡ Some name) e d)

        named : (name : Name) × (class_at file.pool file.this_class ≡ Some name)
        named = named_in (entered read.cut) (sym read.is) (class_at read.cut.pool read.cut.this_class) refl
            (parts_hold read.cut read.holds).this_class.0

  by_code : (at : MethodAt) (file : ClassFile) (m : Method) (code : Code) → slice_get classes.folder at.class ≡ Some file
      → slice_get file.methods at.method ≡ Some m
      → (native : Bool) (part : Option CodePart) → code_of m.attrs ≡ part
      → (if native then None else option_map (method_code links) (option_map (scope_with classes file m) part)) ≡ Some code
      → IsTypedMethod Q at (method_member file.pool m) code (T at)
  by_code at file m code of_file of_method true part of_code e = cc
  by_code at file m code of_file of_method false None of_code e = cc
  by_code at file m code of_file of_method false (Some part) of_code e =
      subst (λ (c : Code). IsTypedMethod Q at (method_member file.pool m) c (T at)) (some_of e)
      (here_typed at file m part of_file of_method of_code)

  methods_typed : (at : MethodAt) (method : RunMethod) (code : Code) → run_method Q at ≡ Some method → code_run method ≡ Some code
      → IsTypedMethod Q at method.member code (T at)
  methods_typed at method code run of_code = by_file (slice_get classes.folder at.class) refl
      (sym (ap (option_and_then (λ (class : RunClass). slice_get class.methods at.method))
      (slice_get-map (run_class_of links (headers_of classes)) classes.folder at.class)) ∙ run) where
        by_method : (file : ClassFile) → slice_get classes.folder at.class ≡ Some file → (o : Option Method)
            → slice_get file.methods at.method ≡ o → option_map (run_method_of links (headers_of classes) file) o ≡ Some method
            → IsTypedMethod Q at method.member code (T at)
        by_method file of_file None e m = cc
        by_method file of_file (Some m) e d =
            let same : run_method_of links (headers_of classes) file m ≡ method = some_of d in
            let coded : code_run (run_method_of links (headers_of classes) file m) ≡ Some code = ap code_run same ∙ of_code in
            subst (λ (x : RunMethod). IsTypedMethod Q at x.member code (T at)) same
            (by_code at file m code of_file e (has m.flags NATIVE) (code_of m.attrs) refl coded)

        by_file : (o : Option ClassFile) → slice_get classes.folder at.class ≡ o
            → option_and_then (λ (class : RunClass). slice_get class.methods at.method)
            (option_map (run_class_of links (headers_of classes)) o) ≡ Some method → IsTypedMethod Q at method.member code (T at)
        by_file None e m = cc
        by_file (Some file) e m =
            by_method file e (slice_get file.methods at.method) refl (sym
            (slice_get-map (run_method_of links (headers_of classes) file) file.methods at.method) ∙ m)

  -- the frames of each method are those that type it
  frames_same : (at : MethodAt) (frames : List Frame) → typed_frames_at typed at ≡ Some frames → (T at).frames ≡ frames
  frames_same at frames is_typed = by (scope_at classes at) refl (subst (TypesMethod (scope_at classes at)) is_typed (laws.methods classes typed types at)) where
    by : (scope : Option Scope) → scope_at classes at ≡ scope → TypesMethod scope (Some frames) → (T at).frames ≡ frames
    by None none types = absurd types
    by (Some s) some types = rw (some, is_typed) refl

  pub program_typed : (T : Typings) × IsTypedProgram (program_of classes links) T × HasTypings typed T
  program_typed = (
    T,
    record {
      hierarchy = subst IsHierarchy (sym (headers_are classes links)) hierarchy;
      links = subst (λ hs. AreLinksOf hs links) (sym (headers_are classes links)) are_links;
      base = has_base classes links are_links tree hierarchy has_class;
      classes = class_typed classes links tree;
      methods = methods_typed;
    },
    frames_same,
  )
