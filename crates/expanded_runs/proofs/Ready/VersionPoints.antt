-- The points of an expanded flat code that stand for instructions of callees come from classes of the host's version.
use Rattle.std.proofs.Common.{pos, ◌≡◌, ◌≢◌, ℕ, List, [], ◌∷◌, reverse, slice_get, Some, refl, sym, ap, subst, ◌∙◌, inl, inr}
use Rattle.std.specs.List.{AllByRecursion}
use Rattle.std.proofs.lemmas.Option.{same_Some}
use Rattle.class_model.specs.Laws.Lists.{at_index}
use Rattle.class_model.specs.declared.class_file.ClassFile.{ClassFile}
use Rattle.class_model.specs.declared.class_file.MethodAt.{MethodAt}
use Rattle.class_model.specs.declared.instr.Instr.{Instr}
use Rattle.class_model.specs.declared.instr.Instr.TheVariants.{Const as ConstOf, Goto, Pure, Store}
use Rattle.class_model.specs.declared.instr.Imm.TheVariants as imms
use Rattle.class_model.specs.declared.opcodes.TheConstants.{I2B, I2C, I2S, IAND}
use Rattle.class_model.specs.declared.instr.Placed.{Placed}
use Rattle.class_tree.specs.Headers.{Classes}
use Rattle.expanded_code.specs.Callees.{IsCallee, is_callee}
use Rattle.expanded_code.specs.ExpandAnswers.{IsExpanded}
use Rattle.expanded_code.specs.Expanded.{Argument, Setting, arguments, class_of, expanded, set_frame, set_instr}
use Rattle.expanded_code.specs.Expansions.{Coded, Expands, Expansion}
use Rattle.expanded_code.specs.Sites.{HasFrames}
use Rattle.expanded_runs.proofs.AloneProgram.{OneEach}
use Rattle.expanded_runs.proofs.Ready.CandidateSites.{by_index}
use Rattle.expanded_runs.proofs.Ready.PointKinds.{HasNarrowing, OwnKind, entries_have, own_kind, own_returns, own_stays, returns_have}
use Rattle.expanded_runs.proofs.Runs.Positions.{Standing, block_of, host_standing, instrs_of, scope_of}
use Rattle.expanded_runs.proofs.Runs.StandingLaws.{stands_so}
use Rattle.expanded_runs.proofs.Runs.Standings.{IsStanding, Stands, callee_stands, host_stands}
use Rattle.expanded_runs.proofs.Types.FlatParts.{EntryPart, OwnPart, Part, part_of}
use Rattle.expanded_runs.proofs.Types.OwnPoints.{TypingLaws}
use Rattle.expanded_runs.proofs.Types.StandingPlaces.{callee_here}
use Rattle.expanded_runs.specs.VersionsKept.{AreOfVersion}
use Rattle.flow_code.specs.FlatCode.{FlatCode}
use Rattle.flow_code.specs.TypedFrames.{FolderFrames}
use Rattle.flow_code.specs.declared.point.FlatInstr.{FlatInstr}
use Rattle.flow_code.specs.declared.point.FlatInstr.TheVariants.{NullTest, Of}
use Rattle.flow_code.specs.declared.point.Point.{Point}
use Rattle.member_link.specs.Laws.Scopes.{IsScopeAt, scope_is_at}
use Rattle.member_link.specs.Scope.{Scope, instructions, scope_at}
use Rattle.type_rules.specs.Verified.{TypesFolder}

-- ---- one instruction

-- an instruction of flat code, in a host of the class of this number and of this version
abbrev IsOfVersion : Classes → ℕ → ℕ → FlatInstr → Type 0
IsOfVersion classes host major (Of class instr) =
    (file : ClassFile) → slice_get classes.folder class ≡ Some file → class ≢ host → file.major ≡ major
IsOfVersion classes host major (NullTest unit) = Unit {0}

-- a callee's class has the version of the host's
callee_version : {classes : Classes} {typed : FolderFrames} {host : ℕ} {from : MethodAt} {at : ℕ} {callee : MethodAt} {g : Scope} {file : ClassFile}
    → IsCallee classes typed host from at callee
    → slice_get classes.folder host ≡ Some file
    → scope_at classes callee ≡ Some g
    → g.class.major ≡ file.major
callee_version {g = g} {file = file}
    (is_callee from at callee host_class own scope own_frames frames inner of_host of_caller of_own of_scope of_frames calls may result on_this) of_file is =
    subst (λ (s : Scope). s.class.major ≡ file.major) (same_Some scope g (sym of_scope ∙ is))
    (may.version ∙ ap (λ (f : ClassFile). f.major) (same_Some host_class file (sym of_host ∙ of_file)))

-- ---- the points

module _ (laws : TypingLaws) (one : OneEach) (classes : Classes) (typed : FolderFrames) (types : TypesFolder classes typed) (host : Coded)
    (e : Expansion) (has : HasFrames classes typed host.at host.scope host.frames)
    (expands : Expands classes typed host.at [] host.at (instructions host.scope) e) where
  abbrev Item : FlatInstr → Type 0
  Item instr = IsOfVersion classes host.at.class host.scope.class.major instr

  stands : (chain : List MethodAt) (p : Standing) → IsStanding host e chain p → Stands classes typed host e chain p
  stands chain p standing = stands_so laws.types_each one classes typed types host e has expands standing

  -- an instruction of its class
  own_item : {chain : List MethodAt} {p : Standing} → IsStanding host e chain p → (instr : Instr)
      → (class_of p.setting ≢ host.at.class → (scope_of p).class.major ≡ host.scope.class.major)
      → Item (Of (class_of p.setting) instr)
  own_item {chain} {p} standing instr same = λ file there other.
      let where_is : IsScopeAt classes p.setting.coded.at (scope_of p) =
      scope_is_at classes p.setting.coded.at (scope_of p) (stands chain p standing).has.is_scope in
      subst (λ (f : ClassFile). f.major ≡ host.scope.class.major) (same_Some (scope_of p).class file (sym where_is.of_folder ∙ there)) (same other)

  -- where an instruction stands
  stands_version : {chain : List MethodAt} {p : Standing} → IsStanding host e chain p
      → class_of p.setting ≢ host.at.class
      → (scope_of p).class.major ≡ host.scope.class.major
  stands_version host_stands other = absurd (other refl)
  stands_version {p = p} (callee_stands j call frame g inner below at) other =
      let here = callee_here laws host e stands host.scope (stands [] (host_standing host e) host_stands).has.is_scope below at in
      let own = scope_is_at classes host.at host.scope (stands [] (host_standing host e) host_stands).has.is_scope in
      callee_version here.replaced.is_callee own.of_folder here.callee.is_scope

  own_of : (number : ℕ) (point : Point) → OwnPart host e number point → Item point.instr
  own_of number point own = by (own_kind own.p.setting own.placed own.frame own.behind point own.there) where
    narrows : HasNarrowing Item (class_of own.p.setting)
    narrows = record {
      byte = own_item own.standing (Pure I2B) (stands_version own.standing);
      short = own_item own.standing (Pure I2S) (stands_version own.standing);
      char = own_item own.standing (Pure I2C) (stands_version own.standing);
      one = own_item own.standing (ConstOf (imms.Int (pos 1))) (stands_version own.standing);
      and = own_item own.standing (Pure IAND) (stands_version own.standing);
    }

    by : OwnKind own.p.setting own.placed own.frame own.behind point → Item point.instr
    by (own_stays first stays same) =
        subst (λ (x : Point). Item x.instr) same (own_item own.standing (set_instr own.p.setting own.placed.instr) (stands_version own.standing))
    by (own_returns behind kind b i there) =
        at_index (λ (x : Point). Item x.instr) _ own.behind point
        (returns_have Item own.p.setting own.placed.at (set_frame own.p.setting own.frame) behind narrows
        (own_item own.standing (Goto behind) (stands_version own.standing))) there

  entry_of : (number : ℕ) (point : Point) → EntryPart host e number point → Item point.instr
  entry_of number point part =
      at_index (λ (x : Point). Item x.instr) _ part.behind point
      (entries_have Item part.p.setting part.placed.at (set_frame part.p.setting part.frame) part.g.scope (block_of part.p part.k)
      (stores (reverse (arguments part.g.scope (block_of part.p part.k)))) (λ tests. tt)) part.there
    where
      stores : (args : List Argument) → AllByRecursion (λ (a : Argument). Item (Of (class_of part.p.setting) (Store a.kind a.unit))) args
      stores [] = tt
      stores (argument ∷ args) = (own_item part.standing (Store argument.kind argument.unit) (stands_version part.standing), stores args)

  part_version : (number : ℕ) (point : Point) → Part host e number point → Item point.instr
  part_version number point (inl own) = own_of number point own
  part_version number point (inr part) = entry_of number point part

  pub points_version : AllByRecursion (λ (point : Point). Item point.instr) (expanded host e).points
  points_version =
      by_index (λ (point : Point). Item point.instr) (expanded host e).points
      (λ n point is. part_version n point (part_of host e (stands [] (host_standing host e) host_stands).fits n point is))

-- Each point of an expanded flat code.
pub are_of_version : TypingLaws → OneEach → (classes : Classes) (typed : FolderFrames) (at : MethodAt) (flat : FlatCode) (s : Scope) → TypesFolder classes typed
    → IsExpanded classes typed at flat
    → scope_at classes at ≡ Some s
    → AreOfVersion classes s.class.major flat
are_of_version laws one classes typed at flat s types is there =
    subst (λ (one_flat : FlatCode). AreOfVersion classes s.class.major one_flat) (sym is.is)
    (subst (λ (own : Scope). AreOfVersion classes own.class.major (expanded is.host is.expansion)) (same_Some is.host.scope s (sym is.is_host.is_scope ∙ there))
    (λ number point class instr file stands of_class is_file other.
    subst (IsOfVersion classes is.host.at.class is.host.scope.class.major) of_class
    (at_index (λ (x : Point). IsOfVersion classes is.host.at.class is.host.scope.class.major x.instr) (expanded is.host is.expansion).points number point kept stands)
    file is_file other))
  where
    kept : AllByRecursion (λ (point : Point). IsOfVersion classes is.host.at.class is.host.scope.class.major point.instr) (expanded is.host is.expansion).points
    kept =
        points_version laws one classes typed types is.host is.expansion
        (subst (λ (a : MethodAt). HasFrames classes typed a is.host.scope is.host.frames) (sym is.own) is.is_host)
        (subst (λ (a : MethodAt). Expands classes typed a [] a (instructions is.host.scope) is.expansion) (sym is.own) is.expands)
