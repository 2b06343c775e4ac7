-- In a folder whose classes were read the types of each typed frame name classes and arrays by texts that a Class constant may have.
use Rattle.std.proofs.Common.{◌≡◌, ℕ, Bool, true, false, List, [], ◌∷◌, slice_get, Option, Some, None, IfSome, IsSome, Result, Ok, Err, if◌then◌else◌, refl, sym, ap, subst, ◌∙◌}
use Rattle.std.specs.List.{AllByRecursion}
use Rattle.std.proofs.lemmas.Bool.{false≢true}
use Rattle.std.proofs.lemmas.List.{length-map}
use Rattle.class_model.specs.Checks.{Fault}
use Rattle.class_model.specs.ClassOf.{ClassOf}
use Rattle.class_model.specs.Code.{inner_is_named, stack_map_table, verification_type}
use Rattle.class_model.specs.Descriptors.{parameters_of}
use Rattle.class_model.specs.Frames.{Setting, stack_map_table_at}
use Rattle.class_model.specs.Header.{header_of}
use Rattle.class_model.specs.Instructions.{decoded}
use Rattle.class_model.specs.Laws.ClassFiles.{parts_hold}
use Rattle.class_model.specs.Laws.Lists.{at_index}
use Rattle.class_model.specs.Methods.{IsDescriptorOf, entry_of, home_of}
use Rattle.class_model.specs.PoolChecks.{class_at, text_or_empty, utf8_at}
use Rattle.class_model.specs.Spelling.{class_bytes}
use Rattle.class_model.specs.Stated.{read_or_none, stated_frames, stated_in}
use Rattle.class_model.specs.declared.class_file.ClassFile.{ClassFile}
use Rattle.class_model.specs.declared.class_file.InnerAttr.{InnerAttr}
use Rattle.class_model.specs.declared.class_file.MethodAt.{MethodAt}
use Rattle.class_model.specs.declared.frame.Frame.{Frame}
use Rattle.class_model.specs.declared.frame.PlacedFrame.{PlacedFrame}
use Rattle.class_model.specs.declared.instr.Placed.{Placed}
use Rattle.class_tree.specs.Headers.{Classes, Headers, IsClassFile, Name, headers_of}
use Rattle.class_tree.specs.Hierarchy.{IsHierarchy}
use Rattle.class_tree.specs.Trees.{IsTree}
use Rattle.code_bytes.specs.Codes.{IsReadMethod}
use Rattle.expanded_runs.proofs.Types.InstrNames.{FileFacts}
use Rattle.expanded_runs.proofs.Types.KnownTypes.{NameLaws, decoded_at, facts, operand_fits, site, typed_keep}
use Rattle.expanded_runs.proofs.Types.OwnPoints.{IsTyped}
use Rattle.expanded_runs.proofs.Types.SpelledInstrs.{class_has, instr_spelled, values_spelled}
use Rattle.expanded_runs.proofs.Types.StatedClasses.{table_names}
use Rattle.expanded_runs.proofs.Types.StatedNames.{entry_frame_has, one_of}
use Rattle.expanded_runs.specs.Laws.SpelledNames.{spelled_kept}
use Rattle.expanded_runs.specs.NamedFrames.{FrameHas, IsSpelledName, PoolHas, TypeHas}
use Rattle.member_link.specs.Laws.Scopes.{IsScopeAt}
use Rattle.member_link.specs.Linked.{IsLinked}
use Rattle.member_link.specs.Scope.{Scope, instructions, own_descriptor, row_scope}
use Rattle.type_rules.specs.MethodBodies.{point_of}
use Rattle.type_rules.specs.Stated.{entry, stated, stated_at}

-- the name of a class file's own class
pub own_name : (class : ClassFile) → ClassOf (class_bytes class) class → class_at class.pool class.this_class ≡ Some (header_of class).name
own_name class read = subst Own (sym read.is) (by (class_at read.cut.pool read.cut.this_class) (parts_hold read.cut read.holds).this_class.0) where
  Own : ClassFile → Type 0
  Own c = class_at c.pool c.this_class ≡ Some (header_of c).name

  by : (found : Option Name) → IsSome found → found ≡ Some (text_or_empty found)
  by None some = absurd (false≢true some)
  by (Some name) some = refl

module _ (laws : NameLaws) {classes : Classes} (tree : IsTree classes) (linked : IsLinked classes) (hierarchy : IsHierarchy (headers_of classes))
    (at : MethodAt) (s : Scope) (where_is : IsScopeAt classes at s) where
  is_read : ClassOf (class_bytes s.class) s.class
  is_read = at_index IsClassFile classes.folder at.class s.class tree.folder where_is.of_folder

  known : FileFacts s.headers s.class.major s.class.pool
  known = subst (λ (hs : Headers). FileFacts hs s.class.major s.class.pool) (sym where_is.headers) (facts laws tree linked hierarchy at s where_is)

  constants : (index : ℕ) (name : Name) → class_at s.class.pool index ≡ Some name → IsSpelledName name
  constants = class_has laws.descriptors s (site laws tree linked hierarchy at s where_is) known

  own_has : IsSpelledName (header_of s.class).name
  own_has = constants s.class.this_class (header_of s.class).name (own_name s.class is_read)

  -- ---- the frame that its code begins with

  parameters_have : AllByRecursion (λ type. TypeHas IsSpelledName (verification_type type)) (parameters_of (own_descriptor s))
  parameters_have = by (utf8_at s.class.pool s.method.desc) refl method.there method.descriptor where
    method : IsReadMethod s.class.pool s.method
    method = at_index (IsReadMethod s.class.pool) s.class.methods at.method s.method (laws.methods (class_bytes s.class) s.class is_read)
        where_is.of_class

    by : (text : Option (List ℕ)) → utf8_at s.class.pool s.method.desc ≡ text → IsSome text
        → IfSome text (IsDescriptorOf s.method.flags)
        → AllByRecursion (λ type. TypeHas IsSpelledName (verification_type type)) (parameters_of (own_descriptor s))
    by None is there of = absurd (false≢true there)
    by (Some text) is there of =
        let same : own_descriptor s ≡ text = ap text_or_empty is in
        subst (λ (t : List ℕ). AllByRecursion (λ type. TypeHas IsSpelledName (verification_type type)) (parameters_of t)) (sym same)
        (subst (AllByRecursion (λ type. TypeHas IsSpelledName (verification_type type))) (sym (laws.descriptors.parameters text of.descriptor of.spelled))
        (values_spelled of.descriptor.params of.spelled.is_descriptor.params))

  pub entry_spelled : (locals : ℕ) → FrameHas IsSpelledName (entry_of (home_of s.class) s.method (record s.part { max_locals = locals }))
  entry_spelled locals =
      entry_frame_has IsSpelledName s.method.flags (text_or_empty (utf8_at s.class.pool s.method.name)) (home_of s.class).name
      (parameters_of (own_descriptor s)) locals (by (class_at s.class.pool s.class.this_class) refl) parameters_have where
        by : (name : Option Name) → class_at s.class.pool s.class.this_class ≡ name → IfSome name IsSpelledName
        by None is = tt
        by (Some name) is = constants s.class.this_class name is

  entry_has : FrameHas IsSpelledName (entry s)
  entry_has = entry_spelled s.part.max_locals

  -- ---- the frames that it states

  table_has : (attr : InnerAttr) (read : Result (List Placed) Fault)
      → AllByRecursion (λ (placed : PlacedFrame). FrameHas IsSpelledName placed.frame)
      (read_or_none (stated_frames (home_of s.class) s.method s.part read attr))
  table_has attr (Err fault) = tt
  table_has attr (Ok instrs) = by (stack_map_table_at setting (entry_of (home_of s.class) s.method s.part) attr.bytes) refl where
    setting : Setting
    setting = record { pool = s.class.pool; max_locals = s.part.max_locals; max_stack = s.part.max_stack; code = instrs }

    by : (found : Result (List PlacedFrame) Fault) → stack_map_table_at setting (entry_of (home_of s.class) s.method s.part) attr.bytes ≡ found
        → AllByRecursion (λ (placed : PlacedFrame). FrameHas IsSpelledName placed.frame) (read_or_none found)
    by (Err fault) is = tt
    by (Ok frames) is =
        (table_names IsSpelledName setting constants (entry_of (home_of s.class) s.method s.part) attr.bytes entry_has.locals).holds frames is

  all_have : (attrs : List InnerAttr)
      → AllByRecursion (λ (placed : PlacedFrame). FrameHas IsSpelledName placed.frame) (stated_in (home_of s.class) s.method s.part attrs)
  all_have [] = tt
  all_have (attr ∷ attrs) = by (inner_is_named s.class.pool stack_map_table attr) (all_have attrs) where
    by : (named : Bool)
        → AllByRecursion (λ (placed : PlacedFrame). FrameHas IsSpelledName placed.frame) (stated_in (home_of s.class) s.method s.part attrs)
        → AllByRecursion (λ (placed : PlacedFrame). FrameHas IsSpelledName placed.frame)
        (if named then read_or_none (stated_frames (home_of s.class) s.method s.part (decoded s.part.code) attr)
        else stated_in (home_of s.class) s.method s.part attrs)
    by true rest = table_has attr (decoded s.part.code)
    by false rest = rest

  stated_has : (place : ℕ) (frame : Frame) → stated_at s place ≡ Some frame → FrameHas IsSpelledName frame
  stated_has place frame is =
      let one = one_of (stated s) place frame is in
      subst (FrameHas IsSpelledName) one.same
      (at_index (λ (placed : PlacedFrame). FrameHas IsSpelledName placed.frame) (stated s) one.number one.placed (all_have s.part.attrs) one.there)

  -- ---- each frame

  instr_has : (k : ℕ) (placed : Placed) → slice_get (instructions s) k ≡ Some placed → PoolHas IsSpelledName (row_scope s) placed.instr
  instr_has k placed is =
      instr_spelled laws.descriptors s (site laws tree linked hierarchy at s where_is) known placed.instr
      (operand_fits laws tree linked hierarchy at s where_is k placed (decoded_at s k placed is))

  pub method_spelled : (frames : List Frame) → IsTyped s frames → (k : ℕ) (frame : Frame) → slice_get frames k ≡ Some frame
      → FrameHas IsSpelledName frame
  method_spelled frames typed =
      typed_keep IsSpelledName spelled_kept s frames typed (typed.has.one_each ∙ length-map (instructions s) (point_of s)) own_has entry_has stated_has
      instr_has
