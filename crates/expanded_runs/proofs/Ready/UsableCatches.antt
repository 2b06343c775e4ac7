-- The classes that the handlers of an expanded flat code catch are named in the host's exception table.
use Rattle.std.proofs.Common.{◌≡◌, ◌==◌, ℕ, Bool, true, false, not, List, [], ◌∷◌, slice_get, Option, Some, None, if◌then◌else◌, refl, sym, subst, ◌∙◌, inl, inr}
use Rattle.std.specs.List.{AllByRecursion, flat_map}
use Rattle.std.proofs.lemmas.Option.{same_Some}
use Rattle.class_model.specs.Checks.{AllHold, asked_if}
use Rattle.class_model.specs.Header.{header_of, method_member}
use Rattle.class_model.specs.Laws.Lists.{at_index}
use Rattle.class_model.specs.PoolChecks.{class_at}
use Rattle.class_model.specs.declared.class_file.Handler.{Handler}
use Rattle.class_model.specs.declared.class_file.MethodAt.{MethodAt}
use Rattle.class_tree.specs.Headers.{Classes, Headers, Name}
use Rattle.expanded_code.specs.Alone.{handler_by}
use Rattle.expanded_code.specs.ExpandAnswers.{IsExpanded}
use Rattle.expanded_code.specs.Expanded.{expanded, host_setting, instr_points, points_of_entry, set_frame}
use Rattle.expanded_code.specs.Expansions.{Coded, Expands, Expansion}
use Rattle.expanded_code.specs.Sites.{HasFrames}
use Rattle.expanded_runs.proofs.AloneProgram.{OneEach}
use Rattle.expanded_runs.proofs.Ready.CandidateSites.{by_index}
use Rattle.expanded_runs.proofs.Runs.Positions.{Standing, block_of, host_standing}
use Rattle.expanded_runs.proofs.Runs.StandingLaws.{stands_so}
use Rattle.expanded_runs.proofs.Runs.Standings.{IsStanding, Stands, callee_stands, host_stands}
use Rattle.expanded_runs.proofs.Types.FlatParts.{Part, part_of}
use Rattle.expanded_runs.proofs.Types.FlatTyped.{HasHandlers, entry_have, instr_have}
use Rattle.expanded_runs.proofs.Types.KnownTypes.{code_there}
use Rattle.expanded_runs.proofs.Types.OwnPoints.{TypingLaws}
use Rattle.expanded_runs.specs.UsableNames.{AreUsableCatches, uses_of}
use Rattle.flow_code.specs.FlatCode.{FlatCode}
use Rattle.flow_code.specs.TypedFrames.{FolderFrames}
use Rattle.flow_code.specs.declared.handlers.FlatHandler.{FlatHandler}
use Rattle.flow_code.specs.declared.point.Point.{Point}
use Rattle.member_link.specs.Declarations.{site_of}
use Rattle.member_link.specs.Laws.Scopes.{IsScopeAt, scope_is_at}
use Rattle.member_link.specs.LinkedPlaces.{ClassPasses, IsLinkedByPlace}
use Rattle.member_link.specs.Machine.Codes.{covers}
use Rattle.member_link.specs.Scope.{Scope, instructions, scope_at}
use Rattle.member_link.specs.Uses.{UseScope, class_use_checks, handler_use_checks, named_class_checks}
use Rattle.same_runs.specs.Laws.ComeFirst.{all_appended}
use Rattle.type_rules.specs.Verified.{TypesFolder}

-- ---- from the exception table

class_passes : (s : UseScope) (index : ℕ) (name : Name) → class_at s.pool index ≡ Some name → AllHold (class_use_checks s index) → ClassPasses s name
class_passes s index name is hold =
    let checks : AllHold (named_class_checks s name) = rw (is) at hold in
    record { there = checks.0; accessible = checks.1.0 }

module _ (s : Scope) (number : ℕ → ℕ) (place : ℕ) where
  -- the class that a handler catches passes
  abbrev Passes : FlatHandler → Type 0
  Passes handler = (name : Name) → handler.catch_class ≡ Some name → ClassPasses (uses_of s) name

  one_passes : (handler : Handler) → AllHold (handler_use_checks (uses_of s) handler) → AllByRecursion Passes (handler_by s number handler)
  one_passes handler hold = by (handler.catch_type == 0) refl (class_at s.class.pool handler.catch_type) refl where
    by : (any : Bool) → (handler.catch_type == 0) ≡ any → (class : Option Name) → class_at s.class.pool handler.catch_type ≡ class
        → AllByRecursion Passes (handler_by s number handler)
    by true any class named = rw (any) ((λ name is. absurd cc), tt)
    by false any None named = rw (any, named) tt
    by false any (Some name) named =
        let checks : AllHold (class_use_checks (uses_of s) handler.catch_type) =
        subst (λ (b : Bool). AllHold (asked_if (not b) (class_use_checks (uses_of s) handler.catch_type))) any hold in
        rw (any, named) (
          (λ other is. subst (ClassPasses (uses_of s)) (same_Some name other is)
              (class_passes (uses_of s) handler.catch_type name named checks)),
          tt,
        )

  all_pass : (handlers : List Handler) → AllByRecursion (λ (handler : Handler). AllHold (handler_use_checks (uses_of s) handler)) handlers
      → AllByRecursion Passes (flat_map (λ (handler : Handler). if covers handler place then handler_by s number handler else []) handlers)
  all_pass [] all = tt
  all_pass (handler ∷ handlers) all =
      all_appended Passes (if covers handler place then handler_by s number handler else [])
      (flat_map (λ (handler : Handler). if covers handler place then handler_by s number handler else []) handlers)
      (by (covers handler place)) (all_pass handlers all.1) where
        by : (around : Bool) → AllByRecursion Passes (if around then handler_by s number handler else [])
        by true = one_passes handler all.0
        by false = tt

-- ---- the points

module _ (laws : TypingLaws) (one : OneEach) (classes : Classes) (by_place : IsLinkedByPlace classes) (typed : FolderFrames)
    (types : TypesFolder classes typed) (host : Coded) (e : Expansion) (has : HasFrames classes typed host.at host.scope host.frames)
    (expands : Expands classes typed host.at [] host.at (instructions host.scope) e) where
  stands : (chain : List MethodAt) (p : Standing) → IsStanding host e chain p → Stands classes typed host e chain p
  stands chain p standing = stands_so laws.types_each one classes typed types host e has expands standing

  abbrev Catches : FlatHandler → Type 0
  Catches handler = (name : Name) → handler.catch_class ≡ Some name → ClassPasses (uses_of host.scope) name

  host_linked : AllByRecursion (λ (handler : Handler). AllHold (handler_use_checks (uses_of host.scope) handler)) host.scope.part.handlers
  host_linked =
      let s = host.scope in
      let here : IsScopeAt classes host.at s = scope_is_at classes host.at s has.is_scope in
      by_index (λ (handler : Handler). AllHold (handler_use_checks (uses_of s) handler)) s.part.handlers
      (λ n handler is.
      subst (λ (headers : Headers). AllHold (handler_use_checks (record {
        headers = headers;
        pool = s.class.pool;
        site = site_of (header_of s.class) (method_member s.class.pool s.method);
      }) handler)) (sym here.headers) (by_place.handlers host.at.class host.at.method n (code_there s here) handler is))

  -- the handlers around a callee are those around its call
  handlers_catch : {chain : List MethodAt} {p : Standing} → IsStanding host e chain p → (at : ℕ) → AllByRecursion Catches (p.setting.handlers at)
  handlers_catch host_stands at = all_pass host.scope (host_setting host e).number at host.scope.part.handlers host_linked
  handlers_catch (callee_stands k placed frame g inner below here) at = handlers_catch below placed.at

  part_catches : (number : ℕ) (point : Point) → Part host e number point → AllByRecursion Catches point.handlers
  part_catches number point (inl own) =
      let t = own.p.setting in
      subst (AllByRecursion Catches)
      (sym (at_index (HasHandlers (t.handlers own.placed.at)) (instr_points t own.placed own.frame) own.behind point
      (instr_have t own.placed own.frame) own.there)) (handlers_catch own.standing own.placed.at)
  part_catches number point (inr part) =
      let t = part.p.setting in
      subst (AllByRecursion Catches)
      (sym (at_index (HasHandlers (t.handlers part.placed.at))
      (points_of_entry t part.placed.at (set_frame t part.frame) part.g.scope (block_of part.p part.k)) part.behind point
      (entry_have t part.placed.at (set_frame t part.frame) part.g.scope (block_of part.p part.k)) part.there))
      (handlers_catch part.standing part.placed.at)

  pub points_catch : (number : ℕ) (point : Point) → slice_get (expanded host e).points number ≡ Some point
      → (at : ℕ) (handler : FlatHandler) → slice_get point.handlers at ≡ Some handler
      → (name : Name) → handler.catch_class ≡ Some name
      → ClassPasses (uses_of host.scope) name
  points_catch number point is at handler there name catches =
      at_index Catches point.handlers at handler
      (part_catches number point (part_of host e (stands [] (host_standing host e) host_stands).fits number point is)) there name catches

-- Each class that an expanded flat code catches.
pub usable_catches : TypingLaws → OneEach → (classes : Classes) → IsLinkedByPlace classes → (typed : FolderFrames) (at : MethodAt) (flat : FlatCode)
    (s : Scope)
    → TypesFolder classes typed
    → IsExpanded classes typed at flat
    → scope_at classes at ≡ Some s
    → AreUsableCatches s flat
usable_catches laws one classes by_place typed at flat s types is is_scope =
    subst (AreUsableCatches s) (sym is.is)
    (subst (λ (host : Scope). AreUsableCatches host (expanded is.host is.expansion)) (same_Some is.host.scope s (sym is.is_host.is_scope ∙ is_scope))
    (λ number point n handler name there around catches.
    points_catch laws one classes by_place typed types is.host is.expansion
    (subst (λ (a : MethodAt). HasFrames classes typed a is.host.scope is.host.frames) (sym is.own) is.is_host)
    (subst (λ (a : MethodAt). Expands classes typed a [] a (instructions is.host.scope) is.expansion) (sym is.own) is.expands) number point there n handler
    around name catches))
