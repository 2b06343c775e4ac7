-- The points of an expanded flat code that stand for instructions of callees carry what the host may take over.
use Rattle.std.proofs.Common.{◌≡◌, ◌≢◌, ℕ, List, [], ◌∷◌, reverse, slice_get, Some, refl, sym, subst, ◌∙◌, inl, inr}
use Rattle.std.specs.List.{AllByRecursion}
use Rattle.std.proofs.lemmas.Option.{same_Some}
use Rattle.class_model.specs.Laws.Lists.{at_index}
use Rattle.class_model.specs.Pool.{Constants}
use Rattle.class_model.specs.declared.class_file.ClassFile.{ClassFile}
use Rattle.class_model.specs.declared.class_file.MethodAt.{MethodAt}
use Rattle.class_model.specs.declared.instr.Instr.{Instr}
use Rattle.class_model.specs.declared.instr.Instr.TheVariants.{Dynamic, Goto, If, If2, IfNull, IfSame, Iinc, Ldc, Load, Lookup, Store, Table}
use Rattle.class_model.specs.declared.instr.Placed.{Placed}
use Rattle.class_tree.specs.Headers.{Classes}
use Rattle.expanded_code.specs.Callees.{IsCallee, IsPlain, is_callee}
use Rattle.expanded_code.specs.ExpandAnswers.{IsExpanded}
use Rattle.expanded_code.specs.Expanded.{Argument, Setting, arguments, class_of, expanded, set_frame, set_instr}
use Rattle.expanded_code.specs.Expansions.{Coded, Expands, Expansion}
use Rattle.expanded_code.specs.Sites.{HasFrames}
use Rattle.expanded_runs.proofs.AloneProgram.{OneEach}
use Rattle.expanded_runs.proofs.Ready.CandidateSites.{by_index}
use Rattle.expanded_runs.proofs.Ready.PointKinds.{HasNarrowing, OwnKind, entries_have, own_kind, own_returns, own_stays, returns_have}
use Rattle.expanded_runs.proofs.Runs.Positions.{Standing, block_of, host_standing, instrs_of, scope_of}
use Rattle.expanded_runs.proofs.Runs.StandingLaws.{stands_so}
use Rattle.expanded_runs.proofs.Runs.Standings.{IsStanding, Stands, callee_stands, host_stands}
use Rattle.expanded_runs.proofs.Types.FlatParts.{EntryPart, OwnPart, Part, part_of}
use Rattle.expanded_runs.proofs.Types.OwnPoints.{TypingLaws}
use Rattle.expanded_runs.proofs.Types.StandingPlaces.{callee_here}
use Rattle.expanded_runs.specs.CarriedConstants.{CarriesConstants, IsCarriable}
use Rattle.flow_code.specs.FlatCode.{FlatCode}
use Rattle.flow_code.specs.TypedFrames.{FolderFrames}
use Rattle.flow_code.specs.declared.point.FlatInstr.{FlatInstr}
use Rattle.flow_code.specs.declared.point.FlatInstr.TheVariants.{NullTest, Of}
use Rattle.flow_code.specs.declared.point.Point.{Point}
use Rattle.member_link.specs.Laws.Scopes.{IsScopeAt, scope_is_at}
use Rattle.member_link.specs.Scope.{Scope, instructions, scope_at}
use Rattle.type_rules.specs.Verified.{TypesFolder}

-- ---- one instruction

set_carriable : (t : Setting) (pool : Constants) (instr : Instr) → IsCarriable pool instr → IsCarriable pool (set_instr t instr)
set_carriable t pool (Load kind local) may = tt
set_carriable t pool (Store kind local) may = tt
set_carriable t pool (Iinc local by) may = tt
set_carriable t pool (If opcode to) may = tt
set_carriable t pool (If2 opcode to) may = tt
set_carriable t pool (IfSame opcode to) may = tt
set_carriable t pool (IfNull opcode to) may = tt
set_carriable t pool (Goto to) may = tt
set_carriable t pool (Table low other to) may = tt
set_carriable t pool (Lookup other pairs) may = tt
set_carriable t pool instr may = may

of_plain : (s : Scope) (instr : Instr) → IsPlain s instr → IsCarriable s.class.pool instr
of_plain s (Dynamic index) plain = plain
of_plain s (Ldc index) plain = plain
of_plain s instr plain = tt

-- an instruction of flat code, in a host of the class of this number
abbrev IsCarried : Classes → ℕ → FlatInstr → Type 0
IsCarried classes host (Of class instr) =
    (file : ClassFile) → slice_get classes.folder class ≡ Some file → class ≢ host → IsCarriable file.pool instr
IsCarried classes host (NullTest unit) = Unit {0}

-- a callee's instructions are plain
callee_plain : {classes : Classes} {typed : FolderFrames} {host : ℕ} {from : MethodAt} {at : ℕ} {callee : MethodAt} {g : Scope}
    → IsCallee classes typed host from at callee
    → scope_at classes callee ≡ Some g
    → AllByRecursion (λ (placed : Placed). IsPlain g placed.instr) (instructions g)
callee_plain {g = g}
    (is_callee from at callee host_class own scope own_frames frames inner of_host of_caller of_own of_scope of_frames calls may result on_this) is =
    subst (λ (s : Scope). AllByRecursion (λ (placed : Placed). IsPlain s placed.instr) (instructions s))
    (same_Some scope g (sym of_scope ∙ is)) may.plain

-- ---- the points

module _ (laws : TypingLaws) (one : OneEach) (classes : Classes) (typed : FolderFrames) (types : TypesFolder classes typed) (host : Coded)
    (e : Expansion) (has : HasFrames classes typed host.at host.scope host.frames)
    (expands : Expands classes typed host.at [] host.at (instructions host.scope) e) where
  abbrev Item : FlatInstr → Type 0
  Item instr = IsCarried classes host.at.class instr

  stands : (chain : List MethodAt) (p : Standing) → IsStanding host e chain p → Stands classes typed host e chain p
  stands chain p standing = stands_so laws.types_each one classes typed types host e has expands standing

  -- an instruction of its class
  own_item : {chain : List MethodAt} {p : Standing} → IsStanding host e chain p → (instr : Instr) → IsCarriable (scope_of p).class.pool instr
      → Item (Of (class_of p.setting) instr)
  own_item {chain} {p} standing instr may = λ file there other.
      let where_is : IsScopeAt classes p.setting.coded.at (scope_of p) =
      scope_is_at classes p.setting.coded.at (scope_of p) (stands chain p standing).has.is_scope in
      subst (λ (f : ClassFile). IsCarriable f.pool instr) (same_Some (scope_of p).class file (sym where_is.of_folder ∙ there)) may

  -- an instruction that stays
  stays_carried : {chain : List MethodAt} {p : Standing} → IsStanding host e chain p → (k : ℕ) (placed : Placed)
      → slice_get (instrs_of p) k ≡ Some placed
      → Item (Of (class_of p.setting) (set_instr p.setting placed.instr))
  stays_carried host_stands k placed is = λ file there other. absurd (other refl)
  stays_carried {p = p} (callee_stands j call frame g inner below at) k placed is =
      let here = callee_here laws host e stands host.scope (stands [] (host_standing host e) host_stands).has.is_scope below at in
      let plain = at_index (λ (x : Placed). IsPlain g.scope x.instr) (instructions g.scope) k placed
      (callee_plain here.replaced.is_callee here.callee.is_scope) is in
      own_item (callee_stands j call frame g inner below at) (set_instr p.setting placed.instr)
      (set_carriable p.setting g.scope.class.pool placed.instr (of_plain g.scope placed.instr plain))

  narrows_carried : (class : ℕ) → HasNarrowing Item class
  narrows_carried class = record {
    byte = λ file there other. tt;
    short = λ file there other. tt;
    char = λ file there other. tt;
    one = λ file there other. tt;
    and = λ file there other. tt;
  }

  own_carried : (number : ℕ) (point : Point) → OwnPart host e number point → Item point.instr
  own_carried number point own = by (own_kind own.p.setting own.placed own.frame own.behind point own.there) where
    by : OwnKind own.p.setting own.placed own.frame own.behind point → Item point.instr
    by (own_stays first stays same) =
        subst (λ (x : Point). Item x.instr) same (stays_carried own.standing own.k own.placed own.is)
    by (own_returns behind kind b i there) =
        at_index (λ (x : Point). Item x.instr) _ own.behind point
        (returns_have Item own.p.setting own.placed.at (set_frame own.p.setting own.frame) behind (narrows_carried (class_of own.p.setting))
        (λ file is other. tt)) there

  entry_carried : (number : ℕ) (point : Point) → EntryPart host e number point → Item point.instr
  entry_carried number point part =
      at_index (λ (x : Point). Item x.instr) _ part.behind point
      (entries_have Item part.p.setting part.placed.at (set_frame part.p.setting part.frame) part.g.scope (block_of part.p part.k)
      (stores (reverse (arguments part.g.scope (block_of part.p part.k)))) (λ tests. tt)) part.there
    where
      stores : (args : List Argument) → AllByRecursion (λ (a : Argument). Item (Of (class_of part.p.setting) (Store a.kind a.unit))) args
      stores [] = tt
      stores (argument ∷ args) = ((λ file is other. tt), stores args)

  part_carried : (number : ℕ) (point : Point) → Part host e number point → Item point.instr
  part_carried number point (inl own) = own_carried number point own
  part_carried number point (inr part) = entry_carried number point part

  pub points_carried : AllByRecursion (λ (point : Point). Item point.instr) (expanded host e).points
  points_carried =
      by_index (λ (point : Point). Item point.instr) (expanded host e).points
      (λ n point is. part_carried n point (part_of host e (stands [] (host_standing host e) host_stands).fits n point is))

-- Each point of an expanded flat code.
pub carries_constants : TypingLaws → OneEach → (classes : Classes) (typed : FolderFrames) (at : MethodAt) (flat : FlatCode) → TypesFolder classes typed
    → IsExpanded classes typed at flat
    → CarriesConstants classes flat
carries_constants laws one classes typed at flat types is =
    subst (CarriesConstants classes) (sym is.is) (λ number point class instr file there of_class is_file other.
    subst (IsCarried classes is.host.at.class) of_class
    (at_index (λ (x : Point). IsCarried classes is.host.at.class x.instr) (expanded is.host is.expansion).points number point carried there) file is_file other)
  where
    carried : AllByRecursion (λ (point : Point). IsCarried classes is.host.at.class point.instr) (expanded is.host is.expansion).points
    carried =
        points_carried laws one classes typed types is.host is.expansion
        (subst (λ (a : MethodAt). HasFrames classes typed a is.host.scope is.host.frames) (sym is.own) is.is_host)
        (subst (λ (a : MethodAt). Expands classes typed a [] a (instructions is.host.scope) is.expansion) (sym is.own) is.expands)
