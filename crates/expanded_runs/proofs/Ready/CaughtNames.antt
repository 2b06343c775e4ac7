-- The classes that the handlers of an expanded flat code catch are named in the pool of the host's class.
use Rattle.std.proofs.Common.{◌≡◌, ◌==◌, ℕ, Bool, true, false, List, [], ◌∷◌, slice_get, Option, Some, None, if◌then◌else◌, refl, sym, subst, ◌∙◌, inl, inr}
use Rattle.std.specs.List.{AllByRecursion, flat_map}
use Rattle.std.proofs.lemmas.Option.{same_Some}
use Rattle.class_model.specs.Laws.Lists.{at_index}
use Rattle.class_model.specs.PoolChecks.{class_at}
use Rattle.class_model.specs.declared.class_file.Handler.{Handler}
use Rattle.class_model.specs.declared.class_file.MethodAt.{MethodAt}
use Rattle.class_tree.specs.Headers.{Classes, Name}
use Rattle.expanded_code.specs.Alone.{handler_by}
use Rattle.expanded_code.specs.ExpandAnswers.{IsExpanded}
use Rattle.expanded_code.specs.Expanded.{expanded, host_setting, instr_points, points_of_entry, set_frame}
use Rattle.expanded_code.specs.Expansions.{Coded, Expands, Expansion}
use Rattle.expanded_code.specs.Sites.{HasFrames}
use Rattle.expanded_runs.proofs.AloneProgram.{OneEach}
use Rattle.expanded_runs.proofs.Runs.Positions.{Standing, block_of, host_standing}
use Rattle.expanded_runs.proofs.Runs.StandingLaws.{stands_so}
use Rattle.expanded_runs.proofs.Runs.Standings.{IsStanding, Stands, callee_stands, host_stands}
use Rattle.expanded_runs.proofs.Types.FlatParts.{Part, part_of}
use Rattle.expanded_runs.proofs.Types.FlatTyped.{HasHandlers, entry_have, instr_have}
use Rattle.expanded_runs.proofs.Types.OwnPoints.{TypingLaws}
use Rattle.expanded_runs.specs.CaughtNames.{AreNamedCatches}
use Rattle.flow_code.specs.FlatCode.{FlatCode}
use Rattle.flow_code.specs.TypedFrames.{FolderFrames}
use Rattle.flow_code.specs.declared.handlers.FlatHandler.{FlatHandler}
use Rattle.flow_code.specs.declared.point.Point.{Point}
use Rattle.member_link.specs.Machine.Codes.{covers}
use Rattle.member_link.specs.Scope.{Scope, instructions, scope_at}
use Rattle.same_runs.specs.Laws.ComeFirst.{all_appended}
use Rattle.type_rules.specs.Verified.{TypesFolder}

-- ---- from the exception table

module _ (s : Scope) (number : ℕ → ℕ) (place : ℕ) where
  -- the class that a handler catches is named in the pool
  abbrev Named : FlatHandler → Type 0
  Named handler = (name : Name) → handler.catch_class ≡ Some name → (index : ℕ) × (class_at s.class.pool index ≡ Some name)

  one_named : (handler : Handler) → AllByRecursion Named (handler_by s number handler)
  one_named handler = by (handler.catch_type == 0) refl (class_at s.class.pool handler.catch_type) refl where
    by : (any : Bool) → (handler.catch_type == 0) ≡ any → (class : Option Name) → class_at s.class.pool handler.catch_type ≡ class
        → AllByRecursion Named (handler_by s number handler)
    by true any class named = rw (any) ((λ name is. absurd cc), tt)
    by false any None named = rw (any, named) tt
    by false any (Some name) named = rw (any, named) ((λ other is. (handler.catch_type, named ∙ is)), tt)

  all_named : (handlers : List Handler)
      → AllByRecursion Named (flat_map (λ (handler : Handler). if covers handler place then handler_by s number handler else []) handlers)
  all_named [] = tt
  all_named (handler ∷ handlers) =
      all_appended Named (if covers handler place then handler_by s number handler else [])
      (flat_map (λ (handler : Handler). if covers handler place then handler_by s number handler else []) handlers)
      (by (covers handler place)) (all_named handlers) where
        by : (around : Bool) → AllByRecursion Named (if around then handler_by s number handler else [])
        by true = one_named handler
        by false = tt

-- ---- the points

module _ (laws : TypingLaws) (one : OneEach) (classes : Classes) (typed : FolderFrames)
    (types : TypesFolder classes typed) (host : Coded) (e : Expansion) (has : HasFrames classes typed host.at host.scope host.frames)
    (expands : Expands classes typed host.at [] host.at (instructions host.scope) e) where
  stands : (chain : List MethodAt) (p : Standing) → IsStanding host e chain p → Stands classes typed host e chain p
  stands chain p standing = stands_so laws.types_each one classes typed types host e has expands standing

  abbrev Catches : FlatHandler → Type 0
  Catches handler = (name : Name) → handler.catch_class ≡ Some name → (index : ℕ) × (class_at host.scope.class.pool index ≡ Some name)

  -- the handlers around a callee are those around its call
  handlers_catch : {chain : List MethodAt} {p : Standing} → IsStanding host e chain p → (at : ℕ) → AllByRecursion Catches (p.setting.handlers at)
  handlers_catch host_stands at = all_named host.scope (host_setting host e).number at host.scope.part.handlers
  handlers_catch (callee_stands k placed frame g inner below here) at = handlers_catch below placed.at

  part_catches : (number : ℕ) (point : Point) → Part host e number point → AllByRecursion Catches point.handlers
  part_catches number point (inl own) =
      let t = own.p.setting in
      subst (AllByRecursion Catches)
      (sym (at_index (HasHandlers (t.handlers own.placed.at)) (instr_points t own.placed own.frame) own.behind point
      (instr_have t own.placed own.frame) own.there)) (handlers_catch own.standing own.placed.at)
  part_catches number point (inr part) =
      let t = part.p.setting in
      subst (AllByRecursion Catches)
      (sym (at_index (HasHandlers (t.handlers part.placed.at))
      (points_of_entry t part.placed.at (set_frame t part.frame) part.g.scope (block_of part.p part.k)) part.behind point
      (entry_have t part.placed.at (set_frame t part.frame) part.g.scope (block_of part.p part.k)) part.there))
      (handlers_catch part.standing part.placed.at)

  pub points_catch : (number : ℕ) (point : Point) → slice_get (expanded host e).points number ≡ Some point
      → (at : ℕ) (handler : FlatHandler) → slice_get point.handlers at ≡ Some handler
      → (name : Name) → handler.catch_class ≡ Some name
      → (index : ℕ) × (class_at host.scope.class.pool index ≡ Some name)
  points_catch number point is at handler there name catches =
      at_index Catches point.handlers at handler
      (part_catches number point (part_of host e (stands [] (host_standing host e) host_stands).fits number point is)) there name catches

-- Each class that an expanded flat code catches.
pub named_catches : TypingLaws → OneEach → (classes : Classes) (typed : FolderFrames) (at : MethodAt) (flat : FlatCode)
    (s : Scope)
    → TypesFolder classes typed
    → IsExpanded classes typed at flat
    → scope_at classes at ≡ Some s
    → AreNamedCatches s flat
named_catches laws one classes typed at flat s types is is_scope =
    subst (AreNamedCatches s) (sym is.is)
    (subst (λ (host : Scope). AreNamedCatches host (expanded is.host is.expansion)) (same_Some is.host.scope s (sym is.is_host.is_scope ∙ is_scope))
    (λ number point n handler name there around catches.
    points_catch laws one classes typed types is.host is.expansion
    (subst (λ (a : MethodAt). HasFrames classes typed a is.host.scope is.host.frames) (sym is.own) is.is_host)
    (subst (λ (a : MethodAt). Expands classes typed a [] a (instructions is.host.scope) is.expansion) (sym is.own) is.expands) number point there n handler
    around name catches))
