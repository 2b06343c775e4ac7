-- Each point of an expanded flat code is an instruction of a class of the folder that reading and linking accept.
use Rattle.std.proofs.Common.{◌≡◌, ◌+◌, ◌≤◌, ◌<◌, ℕ, Bool, true, false, List, [], ◌∷◌, length, map, reverse, slice_get, pos, Some, refl, sym, subst, ◌∙◌, arith, inl, inr}
use Rattle.std.specs.List.{AllByRecursion}
use Rattle.std.proofs.lemmas.List.{length-map}
use Rattle.std.proofs.lemmas.List.Sums.{sum_by-cons}
use Rattle.class_model.specs.Checks.{AllHold}
use Rattle.class_model.specs.Code.{FitsLocal, OperandFits}
use Rattle.class_model.specs.Descriptors.{kind_of, parameter_units, parameters_of, units_of}
use Rattle.class_model.specs.Header.{header_of, method_member}
use Rattle.class_model.specs.Laws.Codes.{code_has}
use Rattle.class_model.specs.Laws.Lists.{at_index}
use Rattle.class_model.specs.Members.{STATIC, has as has_flag}
use Rattle.class_model.specs.Methods.{units_at_call}
use Rattle.class_model.specs.Pool.{Constants}
use Rattle.class_model.specs.declared.class_file.CodePart.{CodePart}
use Rattle.class_model.specs.declared.class_file.MethodAt.{MethodAt}
use Rattle.class_model.specs.declared.descriptor.FieldType.{FieldType}
use Rattle.class_model.specs.declared.descriptor.Kind.{Kind}
use Rattle.class_model.specs.declared.descriptor.Kind.TheVariants as kinds
use Rattle.class_model.specs.declared.header.Member.{Member}
use Rattle.class_model.specs.declared.instr.Instr.{Instr}
use Rattle.class_model.specs.declared.instr.Instr.TheVariants.{Goto, If, If2, IfNull, IfSame, Iinc, Load, Lookup, Store, Table}
use Rattle.class_model.specs.declared.instr.Placed.{Placed}
use Rattle.class_tree.specs.Headers.{IsClassFile, headers_of}
use Rattle.code_bytes.specs.Codes.{HasInstrs, IsReadMethod}
use Rattle.expanded_code.specs.ExpandAnswers.{IsExpanded}
use Rattle.expanded_code.specs.Expanded.{Argument, Setting, arguments, arguments_from, class_of, expanded, set_frame, set_instr}
use Rattle.expanded_code.specs.Expansions.{Coded, Expands, Expansion}
use Rattle.expanded_code.specs.Sites.{HasFrames}
use Rattle.expanded_runs.proofs.AloneProgram.{OneEach}
use Rattle.expanded_runs.proofs.Plans.PlannedFlats.{code_short}
use Rattle.expanded_runs.proofs.Ready.CandidateSites.{by_index}
use Rattle.expanded_runs.proofs.Ready.DecodedForms.{decoded_forms, keys_same}
use Rattle.expanded_runs.proofs.Ready.LinkedUses.{uses_same, uses_set}
use Rattle.expanded_runs.proofs.Ready.PointKinds.{HasNarrowing, OwnKind, entries_have, own_kind, own_returns, own_stays, returns_have}
use Rattle.expanded_runs.proofs.Runs.ArgumentRoom.{arguments_fit}
use Rattle.expanded_runs.proofs.Runs.Positions.{Standing, block_of, host_standing, inner_standing, instrs_of, scope_of}
use Rattle.expanded_runs.proofs.Runs.Setup.{IsSetup, Setup}
use Rattle.expanded_runs.proofs.Runs.StandingLaws.{stands_so}
use Rattle.expanded_runs.proofs.Runs.Standings.{IsStanding, Stands, callee_stands, host_stands}
use Rattle.expanded_runs.proofs.Types.FlatParts.{EntryPart, OwnPart, Part, part_of}
use Rattle.expanded_runs.proofs.Types.KnownTypes.{NameLaws, code_there, decoded_at, operand_fits}
use Rattle.expanded_runs.proofs.Types.OwnPoints.{TypingLaws}
use Rattle.expanded_runs.specs.ByteCodes.{HaveByteCodes}
use Rattle.flow_code.specs.FlatCode.{FlatCode}
use Rattle.flow_code.specs.declared.point.FlatInstr.TheVariants.{Of}
use Rattle.flow_code.specs.declared.point.Point.{Point}
use Rattle.member_link.specs.Declarations.{site_of}
use Rattle.member_link.specs.Linked.{IsLinked}
use Rattle.member_link.specs.Scope.{Scope, instructions, own_descriptor}
use Rattle.member_link.specs.Targets.{HasForm, pair_to}
use Rattle.member_link.specs.Uses.{instr_use_checks}
use Rattle.same_runs.specs.Laws.ComeFirst.{all_appended}
use Rattle.member_link.specs.Laws.Scopes.{IsScopeAt, scope_is_at}
use Rattle.same_runs.specs.ReadyCode.{IsReadyItem}
use Rattle.expanded_runs.proofs.Types.StoredUnits.{last_reversed}
use Rattle.std.specs.Int.{w32}
use Rattle.std.specs.Prelude.{◌+ℤ◌, ◌-◌, FitsSigned}

-- ---- in its place

fits_unit : (most all unit : ℕ) (kind : Kind) (local : ℕ) → unit + most ≤ all → FitsLocal most kind local → FitsLocal all kind (unit + local)
fits_unit most all unit kinds.Long local room fits = omega (arith, room, fits)
fits_unit most all unit kinds.Double local room fits = omega (arith, room, fits)
fits_unit most all unit kinds.Int local room fits = omega (arith, room, fits)
fits_unit most all unit kinds.Float local room fits = omega (arith, room, fits)
fits_unit most all unit kinds.Ref local room fits = omega (arith, room, fits)

-- its local is one of more units, and its constant is the same
operand_set : (t : Setting) (pool : Constants) (major most all : ℕ) → t.unit + most ≤ all → (instr : Instr) → OperandFits pool major most instr
    → OperandFits pool major all (set_instr t instr)
operand_set t pool major most all room (Load kind local) fits = fits_unit most all t.unit kind local room fits
operand_set t pool major most all room (Store kind local) fits = fits_unit most all t.unit kind local room fits
operand_set t pool major most all room (Iinc local by) fits = fits_unit most all t.unit kinds.Int local room fits
operand_set t pool major most all room (If opcode to) fits = tt
operand_set t pool major most all room (If2 opcode to) fits = tt
operand_set t pool major most all room (IfSame opcode to) fits = tt
operand_set t pool major most all room (IfNull opcode to) fits = tt
operand_set t pool major most all room (Goto to) fits = tt
operand_set t pool major most all room (Table low other to) fits = tt
operand_set t pool major most all room (Lookup other pairs) fits = tt
operand_set t pool major most all room instr fits = fits

-- it has its form, whatever its targets and its local are
form_set : (t : Setting) (instr : Instr) → HasForm instr → HasForm (set_instr t instr)
form_set t (Load kind local) form = tt
form_set t (Store kind local) form = tt
form_set t (Iinc local by) form = tt
form_set t (If opcode to) form = form
form_set t (If2 opcode to) form = form
form_set t (IfSame opcode to) form = form
form_set t (IfNull opcode to) form = form
form_set t (Goto to) form = tt
form_set t (Table low other to) form =
    let zeros = length-map {B = ℕ} to (λ (n : ℕ). 0) in
    let set = length-map to t.number in
    let both = length-map {B = ℕ} (map t.number to) (λ (n : ℕ). 0) in
    let same : length (map (λ (n : ℕ). 0) (map t.number to)) ≡ length (map (λ (n : ℕ). 0) to) = omega (arith, zeros, set, both) in
    subst (λ (n : ℕ). (1 ≤ n) × (n ≤ 65535) × FitsSigned w32 (low +ℤ pos (n - 1))) (sym same) form
form_set t (Lookup other pairs) form =
    let set = length-map pairs (pair_to t.number) in
    let zeros = length-map pairs (pair_to (λ _. 0)) in
    let both = length-map (map (pair_to t.number) pairs) (pair_to (λ _. 0)) in (
      omega (arith, form.0, set, zeros, both),
      keys_same (λ _. 0) (map (pair_to t.number) pairs) ∙ keys_same t.number pairs ∙ sym (keys_same (λ _. 0) pairs) ∙ form.1,
    )
form_set t instr form = form

-- ---- arguments

fits_kind : (all : ℕ) (kind : Kind) (unit : ℕ) → unit + units_of kind ≤ all → FitsLocal all kind unit
fits_kind all kinds.Long unit fits = fits
fits_kind all kinds.Double unit fits = fits
fits_kind all kinds.Int unit fits = fits
fits_kind all kinds.Float unit fits = fits
fits_kind all kinds.Ref unit fits = fits

abbrev Fit : ℕ → List Argument → Type 0
Fit all args = AllByRecursion (λ (a : Argument). FitsLocal all a.kind a.unit) args

from_fit : (all unit : ℕ) (params : List FieldType) → unit + parameter_units params ≤ all → Fit all (arguments_from unit params)
from_fit all unit [] fits = tt
from_fit all unit (type ∷ params) fits =
    let both = sum_by-cons (λ (t : FieldType). units_of (kind_of t)) type params in (
      fits_kind all (kind_of type) unit (omega (arith, fits, both)),
      from_fit all (unit + units_of (kind_of type)) params (omega (arith, fits, both)),
    )

each_fit : (all unit : ℕ) (s : Scope) → unit + units_at_call s.method.flags (own_descriptor s) ≤ all → Fit all (arguments s unit)
each_fit all unit s fits = by (has_flag s.method.flags STATIC) refl where
  by : (static : Bool) → has_flag s.method.flags STATIC ≡ static → Fit all (arguments s unit)
  by true is =
      let own : unit + (parameter_units (parameters_of (own_descriptor s)) + 0) ≤ all = rw (is) at fits in
      rw (is) (from_fit all unit (parameters_of (own_descriptor s)) (omega (arith, own)))
  by false is =
      let own : unit + (parameter_units (parameters_of (own_descriptor s)) + 1) ≤ all = rw (is) at fits in
      rw (is) (omega (arith, own), from_fit all (unit + 1) (parameters_of (own_descriptor s)) (omega (arith, own)))

reversed_fit : (all : ℕ) (args : List Argument) → Fit all args → Fit all (reverse args)
reversed_fit all [] fits = tt
reversed_fit all (argument ∷ args) fits =
    subst (Fit all) (sym (last_reversed argument args))
    (all_appended (λ (a : Argument). FitsLocal all a.kind a.unit) (reverse args) (argument ∷ []) (reversed_fit all args fits.1) (fits.0, tt))

-- ---- the points

module _ (u : Setup) (is_setup : IsSetup u) (linked : IsLinked u.classes) (names : NameLaws) (laws : TypingLaws) (one : OneEach)
    (bytes : HaveByteCodes u.classes) (host : Coded) (e : Expansion) (has : HasFrames u.classes u.typed host.at host.scope host.frames)
    (expands : Expands u.classes u.typed host.at [] host.at (instructions host.scope) e) where
  stands : (chain : List MethodAt) (p : Standing) → IsStanding host e chain p → Stands u.classes u.typed host e chain p
  stands chain p standing = stands_so laws.types_each one u.classes u.typed is_setup.types host e has expands standing

  module _ {chain : List MethodAt} {p : Standing} (standing : IsStanding host e chain p) where
    where_is : IsScopeAt u.classes p.setting.coded.at (scope_of p)
    where_is = scope_is_at u.classes p.setting.coded.at (scope_of p) (stands chain p standing).has.is_scope

    is_file : IsClassFile (scope_of p).class
    is_file = at_index IsClassFile u.classes.folder p.setting.coded.at.class (scope_of p).class is_setup.tree.folder where_is.of_folder

    -- an instruction of its class
    ready : (instr : Instr) → OperandFits (scope_of p).class.pool (scope_of p).class.major (expanded host e).locals instr → HasForm instr
        → ((member : Member) → AllHold (instr_use_checks (record {
          headers = headers_of u.classes;
          pool = (scope_of p).class.pool;
          site = site_of (header_of (scope_of p).class) member;
        }) instr))
        → IsReadyItem u.classes (expanded host e).locals (Of (class_of p.setting) instr)
    ready instr operand form uses = record {
      file = (scope_of p).class;
      there = where_is.of_folder;
      operand = operand;
      form = form;
      linked = uses;
    }

    short : length (scope_of p).part.code ≤ 65535
    short =
        let method = at_index (IsReadMethod (scope_of p).class.pool) (scope_of p).class.methods p.setting.coded.at.method (scope_of p).method
        (names.methods _ (scope_of p).class is_file) where_is.of_class in
        let less = code_has HasInstrs (λ (part : CodePart). length part.code < 65536) (λ name part own. code_short part.code own) (scope_of p).method.attrs
        (scope_of p).part method.codes where_is.has_code in
        omega (arith, less)

    own_room : p.setting.unit + (scope_of p).part.max_locals ≤ (expanded host e).locals
    own_room = let st = stands chain p standing in omega (arith, st.own_units, st.all_units)

    -- an instruction that stays
    stays_ready : (k : ℕ) (placed : Placed) → slice_get (instrs_of p) k ≡ Some placed
        → IsReadyItem u.classes (expanded host e).locals (Of (class_of p.setting) (set_instr p.setting placed.instr))
    stays_ready k placed is =
        let d = decoded_at (scope_of p) k placed is in
        let form = at_index (λ (x : Placed). HasForm x.instr) d.instrs k placed
        (decoded_forms (scope_of p).part.code d.instrs
        (bytes.each p.setting.coded.at (scope_of p) (stands chain p standing).has.is_scope) short d.decodes) d.there in
        let operand = operand_fits names is_setup.tree linked is_setup.hierarchy p.setting.coded.at (scope_of p) where_is k placed d in
        let there = code_there (scope_of p) where_is in
        let uses = (names.by_place u.classes linked).instructions p.setting.coded.at.class p.setting.coded.at.method k there d.instrs placed d.decodes
        d.there in
        ready (set_instr p.setting placed.instr)
        (operand_set p.setting (scope_of p).class.pool (scope_of p).class.major (scope_of p).part.max_locals (expanded host e).locals own_room placed.instr
        operand) (form_set p.setting placed.instr form)
        (λ member.
        uses_set (record {
          headers = headers_of u.classes;
          pool = (scope_of p).class.pool;
          site = site_of (header_of (scope_of p).class) member;
        }) p.setting placed.instr
        (uses_same (headers_of u.classes) (scope_of p).class.pool (header_of (scope_of p).class) (method_member (scope_of p).class.pool (scope_of p).method)
        member placed.instr uses))

    narrows_ready : HasNarrowing (IsReadyItem u.classes (expanded host e).locals) (class_of p.setting)
    narrows_ready = record {
      byte = ready _ tt refl (λ member. tt);
      short = ready _ tt refl (λ member. tt);
      char = ready _ tt refl (λ member. tt);
      one = ready _ tt (omega arith) (λ member. tt);
      and = ready _ tt refl (λ member. tt);
    }

  own_ready : (number : ℕ) (point : Point) → OwnPart host e number point → IsReadyItem u.classes (expanded host e).locals point.instr
  own_ready number point own = by (own_kind own.p.setting own.placed own.frame own.behind point own.there) where
    by : OwnKind own.p.setting own.placed own.frame own.behind point → IsReadyItem u.classes (expanded host e).locals point.instr
    by (own_stays first stays same) =
        subst (λ (x : Point). IsReadyItem u.classes (expanded host e).locals x.instr) same (stays_ready own.standing own.k own.placed own.is)
    by (own_returns behind kind b i there) =
        at_index (λ (x : Point). IsReadyItem u.classes (expanded host e).locals x.instr) _ own.behind point
        (returns_have (IsReadyItem u.classes (expanded host e).locals) own.p.setting own.placed.at (set_frame own.p.setting own.frame) behind
        (narrows_ready own.standing) (ready own.standing (Goto behind) tt tt (λ member. tt))) there

  entry_ready : (number : ℕ) (point : Point) → EntryPart host e number point → IsReadyItem u.classes (expanded host e).locals point.instr
  entry_ready number point part =
      at_index (λ (x : Point). IsReadyItem u.classes (expanded host e).locals x.instr) _ part.behind point
      (entries_have (IsReadyItem u.classes (expanded host e).locals) part.p.setting part.placed.at (set_frame part.p.setting part.frame) part.g.scope
      (block_of part.p part.k) (stores (reverse (arguments part.g.scope (block_of part.p part.k)))
      (reversed_fit (expanded host e).locals (arguments part.g.scope (block_of part.p part.k))
      (each_fit (expanded host e).locals (block_of part.p part.k) part.g.scope room))) (λ tests. tt)) part.there
    where
      inside : IsStanding host e (part.g.at ∷ part.chain) (inner_standing part.p part.k part.placed part.frame part.g part.inner)
      inside = callee_stands part.k part.placed part.frame part.g part.inner part.standing part.here

      room : block_of part.p part.k + units_at_call part.g.scope.method.flags (own_descriptor part.g.scope) ≤ (expanded host e).locals
      room =
          let known = where_is inside in
          let units = arguments_fit part.g.scope.class part.g.at.method part.g.scope.method part.g.scope.part (is_file inside) known.of_class known.has_code in
          let own = own_room inside in
          omega (arith, units, own)

      stores : (args : List Argument) → Fit (expanded host e).locals args
          → AllByRecursion (λ (a : Argument). IsReadyItem u.classes (expanded host e).locals (Of (class_of part.p.setting) (Store a.kind a.unit))) args
      stores [] fits = tt
      stores (argument ∷ args) fits =
          (ready part.standing (Store argument.kind argument.unit) fits.0 tt (λ member. tt), stores args fits.1)

  part_ready : (number : ℕ) (point : Point) → Part host e number point → IsReadyItem u.classes (expanded host e).locals point.instr
  part_ready number point (inl own) = own_ready number point own
  part_ready number point (inr part) = entry_ready number point part

  pub points_ready : AllByRecursion (λ (point : Point). IsReadyItem u.classes (expanded host e).locals point.instr) (expanded host e).points
  points_ready =
      by_index (λ (point : Point). IsReadyItem u.classes (expanded host e).locals point.instr) (expanded host e).points
      (λ n point is. part_ready n point (part_of host e (stands [] (host_standing host e) host_stands).fits n point is))

-- Each point of an expanded flat code.
pub expanded_points_ready : (u : Setup) → IsSetup u → IsLinked u.classes → NameLaws → TypingLaws → OneEach → HaveByteCodes u.classes
    → (at : MethodAt) (code : FlatCode)
    → IsExpanded u.classes u.typed at code
    → AllByRecursion (λ (point : Point). IsReadyItem u.classes code.locals point.instr) code.points
expanded_points_ready u is_setup linked names laws one bytes at code is =
    subst (λ (f : FlatCode). AllByRecursion (λ (point : Point). IsReadyItem u.classes f.locals point.instr) f.points) (sym is.is)
    (points_ready u is_setup linked names laws one bytes is.host is.expansion
    (subst (λ (a : MethodAt). HasFrames u.classes u.typed a is.host.scope is.host.frames) (sym is.own) is.is_host)
    (subst (λ (a : MethodAt). Expands u.classes u.typed a [] a (instructions is.host.scope) is.expansion) (sym is.own) is.expands))
