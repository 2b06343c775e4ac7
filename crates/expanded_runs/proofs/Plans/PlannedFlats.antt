-- The flat codes of a folder that frames type are as plans ask: control does not leave them, and their numbers fit.
use Rattle.std.proofs.Common.{◌≡◌, ◌+◌, ◌<◌, ◌≤◌, ℕ, suc, List, [], ◌∷◌, length, slice_get, Option, Some, None, Result, Ok, Err, refl, sym, subst, arith, inl, inr}
use Rattle.std.specs.Prelude.{nat_lt}
use Rattle.std.specs.List.{AllByRecursion}
use Rattle.std.proofs.lemmas.Bool.{and_parts}
use Rattle.std.proofs.lemmas.Bool.Decides.{nat_tests}
use Rattle.std.proofs.lemmas.List.{length-replicate}
use Rattle.class_model.specs.Checks.{AllHold, Fault}
use Rattle.class_model.specs.ClassOf.{ClassOf}
use Rattle.class_model.specs.Instructions.{decoded, targets}
use Rattle.class_model.specs.Laws.Codes.{code_has}
use Rattle.class_model.specs.Laws.Lists.{at_index}
use Rattle.class_model.specs.declared.class_file.ClassFile.{ClassFile}
use Rattle.class_model.specs.declared.class_file.CodePart.{CodePart}
use Rattle.class_model.specs.declared.class_file.MethodAt.{MethodAt}
use Rattle.class_model.specs.declared.frame.Frame.{Frame}
use Rattle.class_model.specs.declared.instr.Placed.{Placed}
use Rattle.class_tree.specs.Headers.{Classes, IsClassFile}
use Rattle.class_tree.specs.Trees.{IsTree}
use Rattle.code_bytes.specs.Codes.{HasInstrs, HasReadMethods, IsReadMethod}
use Rattle.code_bytes.specs.Decoding.{decoding_checks}
use Rattle.expanded_code.specs.Alone.{flat_alone}
use Rattle.expanded_code.specs.AloneAnswers.{IsFlatAlone}
use Rattle.expanded_code.specs.ExpandAnswers.{IsExpanded, IsWide, many_sites, many_units}
use Rattle.expanded_code.specs.Expanded.{expanded, host_setting, number_from}
use Rattle.expanded_code.specs.Sites.{HasFrames}
use Rattle.expanded_runs.proofs.AloneProgram.{OneEach, frames-one-each}
use Rattle.expanded_runs.proofs.Plans.FewHandlers.{AreFew, HasFew, few_of_class}
use Rattle.expanded_runs.proofs.Plans.FewTargets.{targets_few}
use Rattle.expanded_runs.proofs.Plans.FlatEnds.{StopsSo, alone_ends, expanded_ends, flows_inside, typed_stops}
use Rattle.expanded_runs.proofs.Plans.FlatPoints.{AreLong, AreNarrow, HasRoomFor, HaveFewTargets, IsNarrowAt, IsNarrowCode, alone_narrow, expanded_narrow, handlers_few}
use Rattle.expanded_runs.proofs.Plans.TakenClasses.{IsFew}
use Rattle.expanded_runs.proofs.Types.FirstFrames.{frames_long}
use Rattle.expanded_runs.proofs.Types.OwnPoints.{TypingLaws}
use Rattle.expanded_runs.proofs.Types.Units.{le_cases}
use Rattle.flow_code.specs.FlatCode.{FlatCode, point_at}
use Rattle.flow_code.specs.TypedFrames.{FolderFrames, typed_frames_at}
use Rattle.flow_code.specs.WrittenUnits.{written_units}
use Rattle.flow_code.specs.declared.point.Point.{Point}
use Rattle.member_link.specs.Scope.{Scope, instructions}
use Rattle.plan_flow.specs.Narrow.{IsNarrow, IsNarrowPoint}
use Rattle.plan_flow.specs.Plans.{FlowsInside}
use Rattle.member_link.specs.Laws.Scopes.{scope_is_at}
use Rattle.type_rules.specs.MethodBodies.{body_of}
use Rattle.type_rules.specs.Typed.{TypesBody}
use Rattle.type_rules.specs.Verified.{TypesFolder, TypesMethod}

-- ---- the numbers of points

at_each : (locals : ℕ) (points : List Point) → AreNarrow locals points → (number : ℕ) (point : Point) → slice_get points number ≡ Some point
    → length point.typed.locals ≡ locals
at_each locals points are number point is = (at_index (IsNarrowAt locals) points number point are is).locals_are

narrow_points : (locals : ℕ) (points : List Point) → locals ≤ 65536 → AreNarrow locals points → AllByRecursion IsNarrowPoint points
narrow_points locals [] fit are = tt
narrow_points locals (point ∷ points) fit are =
    let own = are.0 in (
      record {
        locals = omega (arith, own.locals_are, fit);
        targets = omega (arith, own.targets);
        handlers = omega (arith, own.handlers);
      },
      narrow_points locals points fit are.1,
    )

-- ---- each method

-- the length of a code, as it is checked
pub code_short : (code : List ℕ) → AllHold (decoding_checks code) → length code < 65536
code_short code holds =
    let both = and_parts (nat_lt 0 (length code)) (nat_lt (length code) 65536) holds.0 in
    grind (arith, nat_tests, both.1)

all_long : (most : ℕ) (frames : List Frame) → ((k : ℕ) (frame : Frame) → slice_get frames k ≡ Some frame → length frame.locals ≡ most) → AreLong most frames
all_long most [] each = tt
all_long most (frame ∷ frames) each = (each 0 frame refl, all_long most frames (λ k other is. each (suc k) other is))

module _ (laws : TypingLaws) (one : OneEach) (read : (bytes : List ℕ) (class : ClassFile) → ClassOf bytes class → HasReadMethods class)
    {classes : Classes} {typed : FolderFrames} (tree : IsTree classes) (types : TypesFolder classes typed) where
  module _ (at : MethodAt) (s : Scope) (frames : List Frame) (has : HasFrames classes typed at s frames) where
    is_file : IsClassFile s.class
    is_file = at_index IsClassFile classes.folder at.class s.class tree.folder (scope_is_at classes at s has.is_scope).of_folder

    few : IsFew s.part
    few =
        let where_is = scope_is_at classes at s has.is_scope in
        code_has HasFew IsFew (λ name part own. own) s.method.attrs s.part
        (at_index AreFew s.class.methods at.method s.method (few_of_class s.class is_file) where_is.of_class) where_is.has_code

    pub short : length s.part.code < 65536
    short =
        let where_is = scope_is_at classes at s has.is_scope in
        let method = at_index (IsReadMethod s.class.pool) s.class.methods at.method s.method (read _ s.class is_file) where_is.of_class in
        code_has HasInstrs (λ (part : CodePart). length part.code < 65536) (λ name part own. code_short part.code own) s.method.attrs s.part
        method.codes where_is.has_code

    aims : HaveFewTargets (instructions s)
    aims = by (decoded s.part.code) refl where
      less : (instrs : List Placed) → AllByRecursion (λ (placed : Placed). length (targets placed.instr) ≤ 1 + length s.part.code) instrs
          → HaveFewTargets instrs
      less [] all = tt
      less (placed ∷ instrs) all = (omega (arith, all.0, short), less instrs all.1)

      by : (found : Result (List Placed) Fault) → decoded s.part.code ≡ found → HaveFewTargets (instructions s)
      by (Ok instrs) is = rw (is) (less instrs (targets_few s.part.code instrs is))
      by (Err fault) is = rw (is) tt

    pub narrow_code : IsNarrowCode s frames
    narrow_code = record {
      long = all_long s.part.max_locals frames (frames_long laws types tree.folder at s frames has);
      targets = aims;
    }

    pub stops_so : StopsSo s frames
    stops_so =
        let typing : TypesBody (body_of s) frames =
        subst (λ (o : Option (List Frame)). TypesMethod (Some s) o) has.are_frames
        (subst (λ (o : Option Scope). TypesMethod o (typed_frames_at typed at)) has.is_scope (laws.types_each classes typed types at)) in
        record {
          one_each = frames-one-each laws.types_each one classes typed types at s frames has.is_scope has.are_frames;
          stops = typed_stops s frames typing;
        }

  -- ---- a method by itself

  module _ (at : MethodAt) (flat : FlatCode) (is : IsFlatAlone classes typed at flat) where
    has_alone : HasFrames classes typed at is.scope is.frames
    has_alone = record { is_scope = is.is_scope; are_frames = is.are_frames }

    alone_are : AreNarrow is.scope.part.max_locals (flat_alone is.scope at is.frames).points
    alone_are =
        let code = narrow_code at is.scope is.frames has_alone in
        let own = few at is.scope is.frames has_alone in
        alone_narrow is.scope at.class (instructions is.scope) is.frames (omega (arith, own.handlers)) code.targets code.long

    pub alone_flows : FlowsInside flat
    alone_flows =
        let code = stops_so at is.scope is.frames has_alone in
        subst FlowsInside (sym is.is)
        (flows_inside _ (alone_ends is.scope at.class (instructions is.scope) is.frames code.one_each code.stops))

    pub alone_locals : (number : ℕ) (point : Point) → point_at flat number ≡ Some point → length point.typed.locals ≡ flat.locals
    alone_locals =
        subst (λ (f : FlatCode). (number : ℕ) (point : Point) → point_at f number ≡ Some point → length point.typed.locals ≡ f.locals) (sym is.is)
        (at_each is.scope.part.max_locals _ alone_are)

    pub alone_fits : IsNarrow flat
    alone_fits =
        let own = few at is.scope is.frames has_alone in
        subst IsNarrow (sym is.is) (record {
          sites = omega arith;
          points = narrow_points is.scope.part.max_locals _ (omega (arith, own.locals)) alone_are;
        })

  -- ---- a host with its callees

  module _ (at : MethodAt) (flat : FlatCode) (is : IsExpanded classes typed at flat) where
    abbrev most : ℕ
    most = (expanded is.host is.expansion).locals

    host_room : HasRoomFor most (host_setting is.host is.expansion)
    host_room = record {
      all = length-replicate _ _;
      own = omega arith;
      handlers = λ offset.
          let own = few at is.host.scope is.host.frames is.is_host in
          let less = handlers_few is.host.scope (number_from None 0 (instructions is.host.scope) is.expansion) offset in
          omega (arith, less, own.handlers);
    }

    expanded_are : AreNarrow most (expanded is.host is.expansion).points
    expanded_are =
        let code = narrow_code at is.host.scope is.host.frames is.is_host in
        expanded_narrow most narrow_code is.expands is.host.frames code.targets (host_setting is.host is.expansion) code.long host_room 0
        is.host.scope.part.max_locals (omega arith)

    pub expanded_flows : FlowsInside flat
    expanded_flows =
        let code = stops_so at is.host.scope is.host.frames is.is_host in
        subst FlowsInside (sym is.is)
        (flows_inside _ (expanded_ends stops_so is.expands is.host.frames code.one_each code.stops (host_setting is.host is.expansion) 0
        is.host.scope.part.max_locals))

    pub expanded_locals : (number : ℕ) (point : Point) → point_at flat number ≡ Some point → length point.typed.locals ≡ flat.locals
    expanded_locals =
        subst (λ (f : FlatCode). (number : ℕ) (point : Point) → point_at f number ≡ Some point → length point.typed.locals ≡ f.locals) (sym is.is)
        (at_each most _ expanded_are)

    pub expanded_fits : ¬ IsWide flat → IsNarrow flat
    expanded_fits narrow =
        let few_sites : length flat.sites ≤ 256 = elim (le_cases (length flat.sites) 256) [
          | inl less ↦ less
          | inr more ↦ absurd (narrow (many_sites more))
        ] in
        let few_units : written_units flat ≤ 65535 = elim (le_cases (written_units flat) 65535) [
          | inl less ↦ less
          | inr more ↦ absurd (narrow (many_units more))
        ] in
        let locals : flat.locals ≤ 65535 = omega (arith, few_units) in
        let are = subst (λ (f : FlatCode). AreNarrow f.locals f.points) (sym is.is) expanded_are in
        record {
          sites = omega (arith, few_sites);
          points = narrow_points flat.locals flat.points (omega (arith, locals)) are;
        }
