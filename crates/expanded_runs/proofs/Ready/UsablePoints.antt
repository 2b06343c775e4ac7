-- What each instruction of an expanded flat code names, the host's code may use.
use Rattle.std.proofs.Common.{◌≡◌, ℕ, List, [], ◌∷◌, map, reverse, slice_get, pos, Some, option_map, refl, sym, ap, subst, ◌∙◌, inl, inr}
use Rattle.std.specs.List.{AllByRecursion}
use Rattle.std.proofs.lemmas.Option.{same_Some, slice_get-map}
use Rattle.class_model.specs.Checks.{AllHold}
use Rattle.class_model.specs.Header.{header_of, method_member}
use Rattle.class_model.specs.Laws.Lists.{at_index}
use Rattle.class_model.specs.declared.class_file.ClassFile.{ClassFile}
use Rattle.class_model.specs.declared.class_file.MethodAt.{MethodAt}
use Rattle.class_model.specs.declared.frame.Frame.{Frame}
use Rattle.class_model.specs.declared.frame.VType.{VType}
use Rattle.class_model.specs.declared.frame.VType.TheVariants as types
use Rattle.class_model.specs.declared.instr.Imm.TheVariants as imms
use Rattle.class_model.specs.declared.instr.Instr.{Instr}
use Rattle.class_model.specs.declared.instr.Instr.TheVariants.{Const, Goto, If, If2, IfNull, IfSame, Iinc, Load, Lookup, Pure, Store, Table}
use Rattle.class_model.specs.declared.instr.Placed.{Placed}
use Rattle.class_model.specs.declared.opcodes.TheConstants.{I2B, I2C, I2S, IAND}
use Rattle.class_tree.specs.Headers.{Classes, Headers, Name}
use Rattle.expanded_code.specs.Callees.{IsCallee, NamesOpen, is_callee}
use Rattle.expanded_code.specs.ExpandAnswers.{IsExpanded}
use Rattle.expanded_code.specs.Expanded.{Argument, Setting, arguments, class_of, expanded, host_setting, set_frame, set_instr, set_type}
use Rattle.expanded_code.specs.Expansions.{Coded, Expands, Expansion}
use Rattle.expanded_code.specs.Sites.{HasFrames}
use Rattle.expanded_runs.proofs.AloneProgram.{OneEach}
use Rattle.expanded_runs.proofs.Ready.AccessKept.{access_kept, operation_free}
use Rattle.expanded_runs.proofs.Ready.LinkedUses.{uses_set}
use Rattle.expanded_runs.proofs.Ready.PointKinds.{HasNarrowing, OwnKind, entries_have, own_kind, own_returns, own_stays, returns_have}
use Rattle.expanded_runs.proofs.Runs.Positions.{Standing, block_of, frames_of, host_standing, instrs_of, scope_of}
use Rattle.expanded_runs.proofs.Runs.StandingLaws.{stands_so}
use Rattle.expanded_runs.proofs.Runs.Standings.{IsStanding, Stands, callee_stands, host_stands}
use Rattle.expanded_runs.proofs.TypedAloneNumbers.{frame_found, number_of_placed}
use Rattle.expanded_runs.proofs.Types.FlatParts.{EntryPart, OwnPart, Part, part_of}
use Rattle.expanded_runs.proofs.Types.KnownTypes.{code_there, decoded_at}
use Rattle.expanded_runs.proofs.Types.OwnPoints.{IsTyped, TypingLaws, own_point, typed_method}
use Rattle.expanded_runs.proofs.Types.StandingPlaces.{callee_here}
use Rattle.expanded_runs.specs.UsableNames.{IsUsable, IsUsableCode, of_callee, of_host, uses_of}
use Rattle.flow_code.specs.FlatCode.{FlatCode}
use Rattle.flow_code.specs.TypedFrames.{FolderFrames}
use Rattle.flow_code.specs.declared.point.FlatInstr.{FlatInstr}
use Rattle.flow_code.specs.declared.point.FlatInstr.TheVariants.{NullTest, Of}
use Rattle.flow_code.specs.declared.point.Point.{Point}
use Rattle.member_link.specs.BodyTyping.{PointFits}
use Rattle.member_link.specs.Declarations.{site_of}
use Rattle.member_link.specs.Laws.Scopes.{IsScopeAt, scope_is_at}
use Rattle.member_link.specs.LinkedPlaces.{IsLinkedByPlace}
use Rattle.member_link.specs.RowScope.{RowScope}
use Rattle.member_link.specs.Rows.ArithmeticRows.{operation_in, pure_operations}
use Rattle.member_link.specs.Rows.Table.{row_of}
use Rattle.member_link.specs.Scope.{Scope, instructions, row_scope, scope_at}
use Rattle.member_link.specs.Uses.{UseScope, instr_use_checks}
use Rattle.row_frames.specs.Laws.NumberedFrames.{numbered_type}
use Rattle.type_rules.specs.MethodBodies.{body_of, point_of}
use Rattle.type_rules.specs.Verified.{TypesFolder}

-- ---- one instruction

-- it names nothing
record NamesNothing (instr : Instr) : Type 0 where
  linked : (s : UseScope) → AllHold (instr_use_checks s instr)
  access : (s : RowScope) (frame : Frame) (place : ℕ) → (row_of s frame place instr).access
  open_to : (s : Scope) (host : Name) → NamesOpen s host instr

operation_none : (opcode : ℕ) → NamesNothing (Pure opcode)
operation_none opcode = record {
  linked = λ s. tt;
  access = λ s frame place. operation_free frame (operation_in pure_operations opcode);
  open_to = λ s host. tt;
}

-- in its place in flat code
open_set : (t : Setting) (s : Scope) (host : Name) (instr : Instr) → NamesOpen s host instr → NamesOpen s host (set_instr t instr)
open_set t s host (Load kind local) is = tt
open_set t s host (Store kind local) is = tt
open_set t s host (Iinc local by) is = tt
open_set t s host (If opcode to) is = tt
open_set t s host (If2 opcode to) is = tt
open_set t s host (IfSame opcode to) is = tt
open_set t s host (IfNull opcode to) is = tt
open_set t s host (Goto to) is = tt
open_set t s host (Table low other to) is = tt
open_set t s host (Lookup other pairs) is = tt
open_set t s host instr is = is

-- a callee's instructions name what is open to the host's class
callee_open : {classes : Classes} {typed : FolderFrames} {host : ℕ} {from : MethodAt} {at : ℕ} {callee : MethodAt} {g : Scope} {file : ClassFile}
    → IsCallee classes typed host from at callee
    → scope_at classes callee ≡ Some g
    → slice_get classes.folder host ≡ Some file
    → AllByRecursion (λ (placed : Placed). NamesOpen g (header_of file).name placed.instr) (instructions g)
callee_open {g = g} {file = file}
    (is_callee from at callee host_class own scope own_frames frames inner of_folder of_caller of_own of_scope of_frames calls may result on_this) is
    is_file =
    subst (λ (f : ClassFile). AllByRecursion (λ (placed : Placed). NamesOpen g (header_of f).name placed.instr) (instructions g))
    (same_Some host_class file (sym of_folder ∙ is_file))
    (subst (λ (s : Scope). AllByRecursion (λ (placed : Placed). NamesOpen s (header_of host_class).name placed.instr) (instructions s))
    (same_Some scope g (sym of_scope ∙ is)) may.access)

-- the stack of the host in its flat code
host_types : (host : Coded) (e : Expansion) (entries : List VType)
    → map (set_type (host_setting host e)) entries ≡ map (numbered_type (host_setting host e).number) entries
host_types host e [] = refl
host_types host e (entry ∷ entries) = rw (one entry, host_types host e entries) refl where
  one : (type : VType) → set_type (host_setting host e) type ≡ numbered_type (host_setting host e).number type
  one (types.Uninit at) = refl
  one types.UninitThis = refl
  one other = refl

-- ---- the points

module _ (laws : TypingLaws) (one : OneEach) (classes : Classes) (by_place : IsLinkedByPlace classes) (typed : FolderFrames)
    (types : TypesFolder classes typed) (host : Coded) (e : Expansion) (has : HasFrames classes typed host.at host.scope host.frames)
    (expands : Expands classes typed host.at [] host.at (instructions host.scope) e) where
  stands : (chain : List MethodAt) (p : Standing) → IsStanding host e chain p → Stands classes typed host e chain p
  stands chain p standing = stands_so laws.types_each one classes typed types host e has expands standing

  where_is : {chain : List MethodAt} {p : Standing} → IsStanding host e chain p → IsScopeAt classes p.setting.coded.at (scope_of p)
  where_is {chain} {p} standing = scope_is_at classes p.setting.coded.at (scope_of p) (stands chain p standing).has.is_scope

  -- what linking says of an instruction in its own class
  instr_linked : {chain : List MethodAt} {p : Standing} → IsStanding host e chain p → (k : ℕ) (placed : Placed)
      → slice_get (instrs_of p) k ≡ Some placed
      → AllHold (instr_use_checks (uses_of (scope_of p)) placed.instr)
  instr_linked {p = p} standing k placed is =
      let s = scope_of p in
      let here = where_is standing in
      let d = decoded_at s k placed is in
      subst (λ (headers : Headers). AllHold (instr_use_checks (record {
        headers = headers;
        pool = s.class.pool;
        site = site_of (header_of s.class) (method_member s.class.pool s.method);
      }) placed.instr)) (sym here.headers)
      (by_place.instructions p.setting.coded.at.class p.setting.coded.at.method k (code_there s here) d.instrs placed d.decodes d.there)

  -- what typing says of the access of an instruction of the host, behind its own frame
  host_access : (k : ℕ) (placed : Placed) (frame : Frame) → slice_get (instructions host.scope) k ≡ Some placed → slice_get host.frames k ≡ Some frame
      → (row_of (row_scope host.scope) frame placed.at placed.instr).access
  host_access k placed frame is has_frame =
      subst (λ (f : Frame). (row_of (row_scope host.scope) f placed.at placed.instr).access) same fits.row.access where
        method : IsTyped host.scope host.frames
        method = typed_method laws types has

        fits : PointFits (body_of host.scope) host.frames (point_of host.scope placed)
        fits = at_index (PointFits (body_of host.scope) host.frames) (body_of host.scope).points k (point_of host.scope placed) method.has.points
            (slice_get-map (point_of host.scope) (instructions host.scope) k ∙ ap (option_map (point_of host.scope)) is)

        same : fits.frame ≡ frame
        same =
            same_Some fits.frame frame
            (sym (frame_found host.scope (instructions host.scope) host.frames placed.at fits.frame fits.is_at)
            ∙ ap (slice_get host.frames) (number_of_placed host.scope (instructions host.scope) method.order k placed is)
            ∙ has_frame)

  abbrev Usable : Point → ℕ → Instr → Type 0
  Usable point class instr = IsUsable classes host.scope (expanded host e) point class instr

  -- an instruction that is usable behind any stack
  abbrev Anywhere : FlatInstr → Type 0
  Anywhere (Of class instr) = (point : Point) → Usable point class instr
  Anywhere (NullTest unit) = Unit {0}

  names_nothing : {chain : List MethodAt} {p : Standing} → IsStanding host e chain p → (instr : Instr) → NamesNothing instr
      → Anywhere (Of (class_of p.setting) instr)
  names_nothing host_stands instr none = λ point. of_host (record {
    own = refl;
    linked = none.linked (uses_of host.scope);
    access = λ frame place same. none.access (row_scope host.scope) frame place;
  })
  names_nothing (callee_stands k placed frame g inner below at) instr none =
      let here = where_is (callee_stands k placed frame g inner below at) in
      λ point. of_callee (record {
        scope = g.scope;
        headers = here.headers;
        file = here.of_folder;
        linked = none.linked (uses_of g.scope);
        open_to = none.open_to g.scope (header_of host.scope.class).name;
      })

  -- an instruction that stays
  stays_usable : {chain : List MethodAt} {p : Standing} → IsStanding host e chain p → (k : ℕ) (placed : Placed) (frame : Frame)
      → slice_get (instrs_of p) k ≡ Some placed
      → slice_get (frames_of p) k ≡ Some frame
      → Usable (own_point p.setting placed frame) (class_of p.setting) (set_instr p.setting placed.instr)
  stays_usable host_stands k placed frame is has_frame =
      let t = host_setting host e in
      of_host (record {
        own = refl;
        linked = uses_set (uses_of host.scope) t placed.instr (instr_linked host_stands k placed is);
        access = λ behind place same.
            access_kept t.number (row_scope host.scope) frame behind (same ∙ host_types host e frame.stack) t placed.at place placed.instr
            (host_access k placed frame is has_frame);
      })
  stays_usable {p = p} (callee_stands j call before g inner below at) k placed frame is has_frame =
      let standing = callee_stands j call before g inner below at in
      let here = where_is standing in
      let callee = callee_here laws host e stands host.scope (stands [] (host_standing host e) host_stands).has.is_scope below at in
      let open_to = at_index (λ (x : Placed). NamesOpen g.scope (header_of host.scope.class).name x.instr) (instructions g.scope) k placed
      (callee_open callee.replaced.is_callee callee.callee.is_scope (where_is host_stands).of_folder) is in
      of_callee (record {
        scope = g.scope;
        headers = here.headers;
        file = here.of_folder;
        linked = uses_set (uses_of g.scope) p.setting placed.instr (instr_linked standing k placed is);
        open_to = open_set p.setting g.scope (header_of host.scope.class).name placed.instr open_to;
      })

  narrows_usable : {chain : List MethodAt} {p : Standing} → IsStanding host e chain p → HasNarrowing Anywhere (class_of p.setting)
  narrows_usable standing = record {
    byte = names_nothing standing (Pure I2B) (operation_none I2B);
    short = names_nothing standing (Pure I2S) (operation_none I2S);
    char = names_nothing standing (Pure I2C) (operation_none I2C);
    one =
        names_nothing standing (Const (imms.Int (pos 1))) (record {
          linked = λ s. tt;
          access = λ s frame place. tt;
          open_to = λ s host. tt;
        });
    and = names_nothing standing (Pure IAND) (operation_none IAND);
  }

  -- what a point has
  abbrev Item : Point → Type 0
  Item point = (class : ℕ) (instr : Instr) → point.instr ≡ Of class instr → Usable point class instr

  anywhere : (point : Point) → Anywhere point.instr → Item point
  anywhere point usable class instr is = (subst Anywhere is usable) point

  stays_item : (point : Point) (class : ℕ) (instr : Instr) → point.instr ≡ Of class instr → Usable point class instr → Item point
  stays_item point class instr is usable other_class other is_other =
      let both : Of class instr ≡ Of other_class other = sym is ∙ is_other in
      let same_class : class ≡ other_class = cc both in
      let same_instr : instr ≡ other = cc both in
      subst (λ (i : Instr). Usable point other_class i) same_instr (subst (λ (c : ℕ). Usable point c instr) same_class usable)

  own_usable : (number : ℕ) (point : Point) → OwnPart host e number point → Item point
  own_usable number point own = by (own_kind own.p.setting own.placed own.frame own.behind point own.there) where
    by : OwnKind own.p.setting own.placed own.frame own.behind point → Item point
    by (own_stays first stays same) =
        subst Item same (stays_item (own_point own.p.setting own.placed own.frame) (class_of own.p.setting)
        (set_instr own.p.setting own.placed.instr) refl (stays_usable own.standing own.k own.placed own.frame own.is own.has_frame))
    by (own_returns behind kind b i there) =
        anywhere point (at_index (λ (x : Point). Anywhere x.instr) _ own.behind point
        (returns_have Anywhere own.p.setting own.placed.at (set_frame own.p.setting own.frame) behind (narrows_usable own.standing)
        (names_nothing own.standing (Goto behind) (record {
          linked = λ s. tt;
          access = λ s frame place. tt;
          open_to = λ s host. tt;
        }))) there)

  entry_usable : (number : ℕ) (point : Point) → EntryPart host e number point → Item point
  entry_usable number point part =
      anywhere point (at_index (λ (x : Point). Anywhere x.instr) _ part.behind point
      (entries_have Anywhere part.p.setting part.placed.at (set_frame part.p.setting part.frame) part.g.scope (block_of part.p part.k)
      (stores (reverse (arguments part.g.scope (block_of part.p part.k)))) (λ tests. tt)) part.there)
    where
      stores : (args : List Argument) → AllByRecursion (λ (a : Argument). Anywhere (Of (class_of part.p.setting) (Store a.kind a.unit))) args
      stores [] = tt
      stores (argument ∷ args) = (
        names_nothing part.standing (Store argument.kind argument.unit) (record {
          linked = λ s. tt;
          access = λ s frame place. tt;
          open_to = λ s host. tt;
        }),
        stores args,
      )

  part_usable : (number : ℕ) (point : Point) → Part host e number point → Item point
  part_usable number point (inl own) = own_usable number point own
  part_usable number point (inr part) = entry_usable number point part

  pub points_usable : (number : ℕ) (point : Point) → slice_get (expanded host e).points number ≡ Some point → Item point
  points_usable number point is =
      part_usable number point (part_of host e (stands [] (host_standing host e) host_stands).fits number point is)

-- Each instruction of an expanded flat code.
pub usable_code : TypingLaws → OneEach → (classes : Classes) → IsLinkedByPlace classes → (typed : FolderFrames) (at : MethodAt) (flat : FlatCode) (s : Scope)
    → TypesFolder classes typed
    → IsExpanded classes typed at flat
    → scope_at classes at ≡ Some s
    → IsUsableCode classes s flat
usable_code laws one classes by_place typed at flat s types is is_scope =
    subst (IsUsableCode classes s) (sym is.is)
    (subst (λ (host : Scope). IsUsableCode classes host (expanded is.host is.expansion)) (same_Some is.host.scope s (sym is.is_host.is_scope ∙ is_scope))
    (λ number point class instr there of_class.
    points_usable laws one classes by_place typed types is.host is.expansion
    (subst (λ (a : MethodAt). HasFrames classes typed a is.host.scope is.host.frames) (sym is.own) is.is_host)
    (subst (λ (a : MethodAt). Expands classes typed a [] a (instructions is.host.scope) is.expansion) (sym is.own) is.expands) number point there class instr
    of_class))
