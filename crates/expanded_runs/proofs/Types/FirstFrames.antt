-- The frame that the code of a method begins with has the local units of the code, and so have all its typed frames; and it may stand for
-- the first of them.
use Rattle.std.proofs.Common.{◌≡◌, ◌+◌, ◌≤◌, ℕ, Bool, true, false, List, [], ◌∷◌, length, map, slice_get, Option, Some, None, refl, sym, ap, subst, ◌∙◌, arith}
use Rattle.std.specs.List.{AllByRecursion}
use Rattle.std.proofs.lemmas.List.{length-append, length-map}
use Rattle.std.proofs.lemmas.List.Sums.{sum_by-cons}
use Rattle.std.proofs.lemmas.Option.{same_Some, slice_get_within}
use Rattle.class_model.specs.Code.{entry_frame, verification_type}
use Rattle.class_model.specs.Descriptors.{kind_of, parameter_units, parameters_of, units_of}
use Rattle.class_model.specs.Frames.{depth, filled, units, units_of_entries}
use Rattle.class_model.specs.Laws.Lists.{at_index}
use Rattle.class_model.specs.Members.{STATIC, has, is_text}
use Rattle.class_model.specs.Methods.{home_of, this_units}
use Rattle.class_model.specs.Names.{init}
use Rattle.class_model.specs.PoolChecks.{text_or_empty, utf8_at}
use Rattle.class_model.specs.declared.class_file.MethodAt.{MethodAt}
use Rattle.class_model.specs.declared.descriptor.FieldType.{FieldType}
use Rattle.class_model.specs.declared.descriptor.FieldType.TheVariants as field_types
use Rattle.class_model.specs.declared.frame.Frame.{Frame}
use Rattle.class_model.specs.declared.frame.VType.{VType}
use Rattle.class_model.specs.declared.frame.VType.TheVariants as types
use Rattle.class_model.specs.declared.instr.Placed.{Placed}
use Rattle.class_tree.specs.Headers.{Classes, IsClassFile}
use Rattle.expanded_code.specs.Sites.{HasFrames}
use Rattle.expanded_runs.proofs.Runs.ArgumentRoom.{arguments_fit}
use Rattle.expanded_runs.proofs.TypedAloneNumbers.{frame_found, number_of_placed}
use Rattle.expanded_runs.proofs.Types.OwnPoints.{IsTyped, TypingLaws, itself, typed_method}
use Rattle.expanded_code.specs.Laws.EntryUnits.{entry_frame_long}
use Rattle.expanded_runs.proofs.Types.StandingUnits.{folder_long}
use Rattle.flow_code.specs.TypedFrames.{FolderFrames}
use Rattle.member_link.specs.BodyTyping.{FlowsInto, Reaches, begins_at}
use Rattle.member_link.specs.Rows.FrameAssignability.{IsFrameAssignable}
use Rattle.member_link.specs.Scope.{Scope, instructions, scope_at}
use Rattle.member_link.specs.Laws.Scopes.{scope_is_at}
use Rattle.type_rules.specs.MethodBodies.{body_of, point_of}
use Rattle.type_rules.specs.Stated.{entry}
use Rattle.type_rules.specs.Verified.{TypesFolder}

-- ---- of a method of a folder

pub entry_long : (classes : Classes) → AllByRecursion IsClassFile classes.folder → (at : MethodAt) (s : Scope) → scope_at classes at ≡ Some s
    → length (entry s).locals ≡ s.part.max_locals
entry_long classes files at s is =
    let where_is = scope_is_at classes at s is in
    let fits = arguments_fit s.class at.method s.method s.part (at_index IsClassFile classes.folder at.class s.class files where_is.of_folder)
    where_is.of_class where_is.has_code in
    entry_frame_long s.method.flags (text_or_empty (utf8_at s.class.pool s.method.name)) (home_of s.class).name
    (parameters_of (text_or_empty (utf8_at s.class.pool s.method.desc))) s.part.max_locals fits

-- Each typed frame has the units of the code.
pub frames_long : TypingLaws → {classes : Classes} {typed : FolderFrames} → TypesFolder classes typed
    → AllByRecursion IsClassFile classes.folder
    → (at : MethodAt) (s : Scope) (frames : List Frame) → HasFrames classes typed at s frames
    → (k : ℕ) (frame : Frame) → slice_get frames k ≡ Some frame
    → length frame.locals ≡ s.part.max_locals
frames_long laws {classes} {typed} folder files at s frames has k frame is =
    folder_long laws folder at s frames has (entry_long classes files at s has.is_scope) k frame is

-- The frame that the code begins with may stand for the first.
pub frames_entered : TypingLaws → {classes : Classes} {typed : FolderFrames} → TypesFolder classes typed
    → (at : MethodAt) (s : Scope) (frames : List Frame) → HasFrames classes typed at s frames
    → (first : Frame) → slice_get frames 0 ≡ Some first
    → IsFrameAssignable s.headers (entry s) first
frames_entered laws folder at s frames has first is = by_instrs (instructions s) refl where
  typed_is : IsTyped s frames
  typed_is = typed_method laws folder has

  one_each : length frames ≡ length (instructions s)
  one_each = typed_is.has.one_each ∙ length-map (instructions s) (point_of s)

  reaches : (place : ℕ) (found : Frame) → Reaches (body_of s).scope (entry s) found ((body_of s).stated place)
      → IsFrameAssignable s.headers (entry s) found
  reaches place found into = by ((body_of s).stated place) into where
    by : (stated : Option Frame) → Reaches (body_of s).scope (entry s) found stated → IsFrameAssignable s.headers (entry s) found
    by (Some stated) may = may
    by None same = subst (IsFrameAssignable s.headers (entry s)) same (itself s.headers (entry s))

  by_instrs : (instrs : List Placed) → instructions s ≡ instrs → IsFrameAssignable s.headers (entry s) first
  by_instrs [] are =
      let some = slice_get_within frames 0 first is in
      let none : length (instructions s) ≡ 0 = ap length are in
      absurd (omega (arith, some, one_each, none))
  by_instrs (placed ∷ instrs) are =
      let there : slice_get (instructions s) 0 ≡ Some placed = ap (λ (all : List Placed). slice_get all 0) are in
      let into : FlowsInto (body_of s) frames placed.at (Some (entry s)) =
      subst (λ (place : ℕ). FlowsInto (body_of s) frames place (Some (entry s)))
      (ap (λ (all : List Placed). begins_at (map (point_of s) all) (length s.part.code)) are) typed_is.has.entry in
      let same : into.0 ≡ first =
      same_Some into.0 first
      (sym (frame_found s (instructions s) frames placed.at into.0 into.1)
      ∙ ap (slice_get frames) (number_of_placed s (instructions s) typed_is.order 0 placed there) ∙ is) in
      subst (IsFrameAssignable s.headers (entry s)) same (reaches placed.at into.0 into.2)
