-- A program whose methods run such flat codes is the program of the folder.
use Rattle.std.proofs.Common.{◌≡◌, ◌+◌, ℕ, zero, suc, List, [], ◌∷◌, length, map, Option, Some, None, option_map, refl, sym, ap, subst, ◌∙◌, arith, slice_get}
use Rattle.std.specs.Prelude.{bit_and, option_and_then}
use Rattle.std.proofs.lemmas.List.{append-nil, length-map}
use Rattle.std.proofs.lemmas.Option.{same_Some}
use Rattle.std.specs.Int.Bits.{and_zero_r}
use Rattle.class_model.specs.Members.{PRIVATE, FINAL}
use Rattle.class_model.specs.MethodCode.{code_of}
use Rattle.class_model.specs.declared.class_file.ClassFile.{ClassFile}
use Rattle.class_model.specs.declared.class_file.CodePart.{CodePart}
use Rattle.class_model.specs.declared.class_file.Method.{Method}
use Rattle.class_model.specs.declared.class_file.MethodAt.{MethodAt}
use Rattle.class_model.specs.declared.frame.Frame.{Frame}
use Rattle.class_tree.specs.Headers.{Classes, Headers, headers_of}
use Rattle.expanded_code.specs.Alone.{flat_alone}
use Rattle.expanded_code.specs.AloneAnswers.{IsFlatAlone}
use Rattle.expanded_runs.proofs.AloneCode.{alone-code}
use Rattle.expanded_runs.specs.AlonePrograms.{AreAlone}
use Rattle.flow_code.specs.FlatCode.{FlatCode}
use Rattle.flow_code.specs.TypedFrames.{FolderFrames, typed_frames_at}
use Rattle.member_link.specs.Bodies.{Body}
use Rattle.member_link.specs.Machine.Classes.{program_of, run_class_of, run_method_of}
use Rattle.member_link.specs.Machine.Codes.{method_code}
use Rattle.member_link.specs.Machine.Programs.{Links, RunClass, RunMethod}
use Rattle.member_link.specs.Machine.Replaced.{Replacement, field_cleared, map_numbered, method_replaced, replaced_class, with_body, without_flags}
use Rattle.member_link.specs.Scope.{Scope, instructions, scope_at, scope_of}
use Rattle.same_runs.specs.Flats.{Flats, flat_body, flat_code, flat_program, flats_for_codes, pool_of}
use Rattle.type_rules.specs.MethodBodies.{body_of, point_of}
use Rattle.type_rules.specs.Typed.{TypesBody}
use Rattle.type_rules.specs.Verified.{TypesFolder, TypesMethod}

-- what a change leaves as it is at each number
same-from : {A : Type 0} (change : ℕ → A → A) (number : ℕ) (items : List A) → ((behind : ℕ) (item : A) → slice_get items behind ≡ Some item → change (number + behind) item ≡ item)
    → map_numbered change number items ≡ items
same-from change number [] same = refl
same-from {A} change number (item ∷ items) same =
    let here : number + 0 ≡ number = omega arith in
    let first : change number item ≡ item = subst (λ (n : ℕ). change n item ≡ item) here (same 0 item refl) in
    let later : (behind : ℕ) (other : A) → slice_get items behind ≡ Some other → change (suc number + behind) other ≡ other =
    λ behind other is. let moved : number + suc behind ≡ suc number + behind = omega arith in subst (λ (n : ℕ). change n other ≡ other) moved (same (suc behind) other is) in
    λ i. first i ∷ same-from change (suc number) items later i

same-items : {A : Type 0} (change : ℕ → A → A) (items : List A) → ((at : ℕ) (item : A) → slice_get items at ≡ Some item → change at item ≡ item) → map_numbered change zero items ≡ items
same-items {A} change items same = same-from change zero items (λ at item is. let here : at ≡ zero + at = omega arith in subst (λ (n : ℕ). change n item ≡ item) here (same at item is))

-- an item of a list that a map makes
mapped-at : {A B : Type 0} (f : A → B) (items : List A) (at : ℕ) (made : B) → slice_get (map f items) at ≡ Some made → (item : A) × (slice_get items at ≡ Some item) × (made ≡ f item)
mapped-at f [] at made is = absurd cc
mapped-at f (item ∷ items) zero made is = (item, refl, sym (same_Some (f item) made is))
mapped-at f (item ∷ items) (suc at) made is = mapped-at f items at made is

nothing-cleared : (flags : ℕ) → without_flags flags 0 ≡ flags
nothing-cleared flags = let e : bit_and flags (bit_and 0 (PRIVATE + FINAL)) ≡ 0 = and_zero_r flags in rw e (omega arith)

abbrev pub EachTyped : Type 0
EachTyped = (classes : Classes) (typed : FolderFrames) → TypesFolder classes typed → (at : MethodAt) → TypesMethod (scope_at classes at) (typed_frames_at typed at)

abbrev pub OneEach : Type 0
OneEach = (b : Body) (frames : List Frame) → TypesBody b frames → length frames ≡ length b.points

-- the frames of a method are one for each instruction
pub frames-one-each : EachTyped → OneEach → (classes : Classes) (typed : FolderFrames) → TypesFolder classes typed → (at : MethodAt) (s : Scope) (frames : List Frame)
    → scope_at classes at ≡ Some s → typed_frames_at typed at ≡ Some frames → length frames ≡ length (instructions s)
frames-one-each each one classes typed types at s frames scope are =
    let method = each classes typed types at in
    let named = subst (λ (found : Option Scope). TypesMethod found (typed_frames_at typed at)) scope method in
    let typing = subst (λ (found : Option (List Frame)). TypesMethod (Some s) found) are named in
    one (body_of s) frames typing ∙ length-map (instructions s) (point_of s)

-- the class of a method's scope
in-part : (headers : Headers) (class : ClassFile) (method : Method) (s : Scope) (part : Option CodePart)
    → option_map (λ (part : CodePart). record { headers = headers; class = class; method = method; part = part }) part ≡ Some s → s.class ≡ class
in-part headers class method s None is = absurd cc
in-part headers class method s (Some part) is = let same = same_Some _ _ is in ap (λ (scope : Scope). scope.class) (sym same)

in-method : (headers : Headers) (class : ClassFile) (s : Scope) (method : Option Method) → option_and_then (scope_of headers class) method ≡ Some s → s.class ≡ class
in-method headers class s None is = absurd cc
in-method headers class s (Some method) is = in-part headers class method s (code_of method.attrs) is

-- the constants of the class of a method
pub pool-of-scope : (classes : Classes) (at : MethodAt) (s : Scope) → scope_at classes at ≡ Some s → pool_of classes at.class ≡ s.class.pool
pool-of-scope classes at s is = of-class (slice_get classes.folder at.class) refl is where
  of-class : (class : Option ClassFile) → slice_get classes.folder at.class ≡ class
      → option_and_then (λ (class : ClassFile). option_and_then (scope_of (headers_of classes) class) (slice_get class.methods at.method)) class ≡ Some s → pool_of classes at.class ≡ s.class.pool
  of-class None e found = absurd cc
  of-class (Some class) e found =
      let pool : pool_of classes at.class ≡ class.pool = rw e refl in
      pool ∙ ap (λ (file : ClassFile). file.pool) (sym (in-method (headers_of classes) class s (slice_get class.methods at.method) found))

module _ (each : EachTyped) (one : OneEach) (classes : Classes) (typed : FolderFrames) (links : Links) (flats : Flats) (types : TypesFolder classes typed) (are : AreAlone classes typed flats) where
  -- the code that a method runs is its own
  own-code : (at : MethodAt) (flat : FlatCode) → IsFlatAlone classes typed at flat → (s : Scope) → scope_at classes at ≡ Some s → flat_code classes links s flat ≡ method_code links s
  own-code at flat is s scope =
      let same : is.scope ≡ s = same_Some is.scope s (sym is.is_scope ∙ scope) in
      let flat_is : flat ≡ flat_alone s at is.frames = subst (λ (known : Scope). flat ≡ flat_alone known at is.frames) same is.is in
      let one-each = frames-one-each each one classes typed types at s is.frames scope is.are_frames in
      ap (flat_code classes links s) flat_is ∙ alone-code classes links s at is.frames (pool-of-scope classes at s scope) one-each

  abbrev own-method : ClassFile → Method → RunMethod
  own-method class method = run_method_of links (headers_of classes) class method

  same-method : (at : MethodAt) (class : ClassFile) (method : Method) → slice_get classes.folder at.class ≡ Some class → slice_get class.methods at.method ≡ Some method
      → with_body (own-method class method) (flat_body classes links flats at) ≡ own-method class method
  same-method at class method class_is method_is = of-flat (flats at) refl where
    of-flat : (flat : Option FlatCode) → flats at ≡ flat → with_body (own-method class method) (flat_body classes links flats at) ≡ own-method class method
    of-flat None none = rw none refl
    of-flat (Some flat) some =
        let is = are at flat some in
        let there : scope_at classes at ≡ scope_of (headers_of classes) class method = rw (class_is, method_is) refl in
        let own_scope : scope_of (headers_of classes) class method ≡ Some is.scope = sym there ∙ is.is_scope in
        let body : flat_body classes links flats at ≡ Some (flat_code classes links is.scope flat) = rw (some, is.is_scope) refl in
        let code = own-code at flat is is.scope is.is_scope in
        let runs : with_body (own-method class method) (flat_body classes links flats at) ≡ with_body (own-method class method) (Some (method_code links is.scope)) = ap (with_body (own-method class method)) (body ∙ ap Some code) in
        let kept : with_body (own-method class method) (Some (method_code links is.scope)) ≡ own-method class method = rw own_scope refl in
        runs ∙ kept

  abbrev flats-here : Replacement
  flats-here = flats_for_codes classes links flats

  same-class : (number : ℕ) (class : ClassFile) → slice_get classes.folder number ≡ Some class
      → replaced_class flats-here number (run_class_of links (headers_of classes) class) ≡ run_class_of links (headers_of classes) class
  same-class number class class_is =
      let run = run_class_of links (headers_of classes) class in
      let fields = same-items (field_cleared flats-here number) run.header.fields (λ behind member is. ap (λ flags. record member { flags = flags }) (nothing-cleared member.flags)) in
      let methods = same-items (method_replaced flats-here number) run.methods (λ behind method is.
      let from = mapped-at (run_method_of links (headers_of classes) class) class.methods behind method is in
      subst (λ (run : RunMethod). method_replaced flats-here number behind run ≡ run) (sym from.2)
      (same-method (record { class = number; method = behind }) class from.0 class_is from.1)) in
      λ i. record run {
        header = record run.header {
          fields = fields i;
          methods = append-nil run.header.methods i;
        };
        methods = (append-nil (map_numbered (method_replaced flats-here number) zero run.methods) ∙ methods) i;
      }

  pub program-same : flat_program classes links flats ≡ program_of classes links
  program-same =
      let P = program_of classes links in
      ap (λ (all : List RunClass). record P { classes = all }) (same-items (replaced_class flats-here) P.classes (λ number run is.
      let from = mapped-at (run_class_of links (headers_of classes)) classes.folder number run is in
      subst (λ (run : RunClass). replaced_class flats-here number run ≡ run) (sym from.2) (same-class number from.0 from.1)))
