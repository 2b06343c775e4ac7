-- Methods that run flat code are typed by its typed points.
use Rattle.std.proofs.Common.{◌≡◌, ℕ, zero, slice_get, Option, Some, None, option_map, refl, sym, ap, subst, ◌∙◌}
use Rattle.std.proofs.lemmas.List.{length-map}
use Rattle.std.proofs.lemmas.Option.{none-some, same_Some, slice_get-map}
use Rattle.class_model.specs.Header.{method_member}
use Rattle.class_model.specs.declared.class_file.MethodAt.{MethodAt}
use Rattle.class_model.specs.declared.header.Member.{Member}
use Rattle.class_tree.specs.Headers.{Classes, headers_of}
use Rattle.class_tree.specs.Hierarchy.{IsHierarchy}
use Rattle.class_tree.specs.Trees.{IsTree}
use Rattle.flow_code.specs.FlatCode.{FlatCode}
use Rattle.flow_code.specs.ReadTypes.{read_frame}
use Rattle.flow_code.specs.declared.point.Point.{Point as FlatPoint}
use Rattle.member_link.specs.Machine.Classes.{program_of, run_method_of}
use Rattle.member_link.specs.Machine.Codes.{number_at, run_point}
use Rattle.member_link.specs.Machine.Programs.{Code, Links, Point, RunMethod, code_run, run_method}
use Rattle.member_link.specs.Machine.Replaced.{Replacement, replaced, with_body}
use Rattle.member_link.specs.Scope.{Scope, scope_at}
use Rattle.same_runs.specs.ClearedFields.{ReplacesByFlats}
use Rattle.same_runs.specs.Flats.{Flats, flat_body, flat_code, flat_point, flat_points}
use Rattle.same_runs.specs.Laws.Numbered.{from_zero, length_numbered}
use Rattle.same_runs.specs.Laws.ReplacedPrograms.{body_is}
use Rattle.member_link.specs.Laws.Scopes.{IsScopeAt, scope_is_at}
use Rattle.same_runs.specs.Laws.Scopes.{own_run, program_headers}
use Rattle.same_runs.specs.ReadyCode.{IsReadyCode}
use Rattle.typed_flats.proofs.FlatMethods.{entry_is, own_class, own_name}
use Rattle.typed_flats.proofs.FlatPoints.{flat_point_typed, goes_leads}
use Rattle.typed_flats.proofs.GrownLaws.{GrownLaws}
use Rattle.typed_flats.proofs.MovedPoints.{replaced_typed}
use Rattle.typed_flats.specs.FlatTypings.{AreReady, SitesAreNews, flat_typing, flat_typings}
use Rattle.typed_flats.specs.TypedReplacements.{TypesCodes, all_typed_in}
use Rattle.typed_runs.specs.FolderTypings.{HasFlatTypings}
use Rattle.typed_runs.specs.LinkedInstrs.{LinksInstrs}
use Rattle.typed_runs.specs.TypedPoints.{LeadsTo, TypedPoint}
use Rattle.typed_runs.specs.TypedPrograms.{IsTypedMethod, IsTypedProgram, Typings}

module _ (classes : Classes) (links : Links) (tree : IsTree classes) (instrs : LinksInstrs (program_of classes links) classes)
    (hierarchy : IsHierarchy (headers_of classes)) where
  module _ (at : MethodAt) (s : Scope) (flat : FlatCode) (is : IsScopeAt classes at s) (ready : IsReadyCode classes s flat)
      (sites : SitesAreNews classes flat) where
    flat_points_typed : (number : ℕ) (point : Point) → slice_get (flat_code classes links s flat).points number ≡ Some point
        → TypedPoint (program_of classes links) (flat_typing classes s flat) number point
    flat_points_typed number point there = by (slice_get flat.points number) refl
        (sym (slice_get-map (run_point links (number_at (flat_points classes s flat))) (flat_points classes s flat) number
        ∙ ap (option_map (run_point links (number_at (flat_points classes s flat)))) (from_zero (flat_point classes s flat) flat.points number)) ∙ there) where
          by : (found : Option FlatPoint) → slice_get flat.points number ≡ found
              → option_map (run_point links (number_at (flat_points classes s flat))) (option_map (flat_point classes s flat number) found) ≡ Some point
              → TypedPoint (program_of classes links) (flat_typing classes s flat) number point
          by None e same = absurd (none-some point same)
          by (Some own) e same =
              subst (TypedPoint (program_of classes links) (flat_typing classes s flat) number)
              (same_Some (run_point links (number_at (flat_points classes s flat)) (flat_point classes s flat number own)) point same)
              (flat_point_typed classes s flat links instrs (own_class classes links at s is hierarchy) sites ready number own e)

    pub flat_method_typed :
        IsTypedMethod (program_of classes links) at (method_member s.class.pool s.method) (flat_code classes links s flat) (flat_typing classes s flat)
    flat_method_typed = record {
      headers = is.headers ∙ sym (program_headers classes links);
      own = own_name classes links at s is;
      result = refl;
      one_each =
          length-map flat.points (λ (point : FlatPoint). read_frame flat point.typed)
          ∙ sym (length-map (flat_points classes s flat) (run_point links (number_at (flat_points classes s flat)))
          ∙ length_numbered (flat_point classes s flat) zero flat.points);
      entry_leads =
          subst (LeadsTo (flat_typing classes s flat) 0) (entry_is classes links at s is tree flat) (goes_leads classes s flat 0 _ ready.typed.entry);
      points = flat_points_typed;
    }

  -- ---- the program

  module _ (typings : Typings) (typed : IsTypedProgram (program_of classes links) typings) (flats : Flats) (ready : AreReady classes flats)
      (r : Replacement) (replaces : ReplacesByFlats classes links flats r) where
    codes_typed : TypesCodes (program_of classes links) r (flat_typings classes flats typings)
    codes_typed = record {
      codes = λ at method code is runs. by at method code is (flats at) refl (scope_at classes at) refl
          (subst (λ (body : Option Code). code_run (with_body method body) ≡ Some code) (replaces.bodies at) runs);
    } where
      by : (at : MethodAt) (method : RunMethod) (code : Code) → run_method (program_of classes links) at ≡ Some method
          → (flat : Option FlatCode) → flats at ≡ flat → (scope : Option Scope) → scope_at classes at ≡ scope
          → code_run (with_body method (flat_body classes links flats at)) ≡ Some code
          → IsTypedMethod (program_of classes links) at method.member code (flat_typings classes flats typings at)
      by at method code is None e scope f runs = rw e (typed.methods at method code is (rw e at runs))
      by at method code is (Some flat) e None f runs = rw (e, f) (typed.methods at method code is (rw (e, f) at runs))
      by at method code is (Some flat) e (Some s) f runs =
          let known = scope_is_at classes at s f in
          let same : code ≡ flat_code classes links s flat = body_is method (flat_code classes links s flat) code (rw (e, f) at runs) in
          let stated = ready at flat e in
          let own =
          flat_method_typed at s flat known
          (subst (λ (x : Scope). IsReadyCode classes x flat) (same_Some stated.scope s (sym stated.is_scope ∙ f)) stated.ready) stated.sites in
          let here : method_member s.class.pool s.method ≡ method.member =
          ap (λ (m : RunMethod). m.member) (same_Some (run_method_of links (headers_of classes) s.class s.method) method
          (sym (own_run classes links at s known) ∙ is)) in
          rw (e, f)
          (subst (λ (member : Member). IsTypedMethod (program_of classes links) at member code (flat_typing classes s flat)) here
          (subst (λ (c : Code). IsTypedMethod (program_of classes links) at (method_member s.class.pool s.method) c (flat_typing classes s flat))
          (sym same) own))

    pub flat_program_typed : GrownLaws
        → IsTypedProgram (replaced (program_of classes links) r) (all_typed_in (replaced (program_of classes links) r) (flat_typings classes flats typings))
    flat_program_typed laws =
        replaced_typed typed r replaces.none_added laws (flat_typings classes flats typings) codes_typed

-- the frames of the methods that run flat codes
pub flat_frames : (classes : Classes) (links : Links) (typings : Typings) (flats : Flats) (r : Replacement) → AreReady classes flats
    → HasFlatTypings flats (all_typed_in (replaced (program_of classes links) r) (flat_typings classes flats typings))
flat_frames classes links typings flats r ready at flat e = let own = ready at flat e in rw (e, own.is_scope) refl
