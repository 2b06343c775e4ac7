-- Each method that stands in flat code has its place there: numbers of its own, its own constants, and the classes of what it makes.
use Rattle.std.proofs.Common.{◌≡◌, ◌==◌, ◌+◌, ℕ, zero, suc, Bool, true, false, List, [], ◌∷◌, slice_get, Option, Some, None, if◌then◌else◌, refl, sym, ap, subst, ◌∙◌, arith}
use Rattle.std.specs.Prelude.{option_and_then}
use Rattle.std.proofs.lemmas.Bool.{eqb-true, eq-eqb, false≢true, ne_eqb}
use Rattle.std.proofs.lemmas.Option.{none-some, same_Some, slice_get_within}
use Rattle.class_model.specs.Pool.{Constants}
use Rattle.class_model.specs.PoolChecks.{class_at}
use Rattle.class_model.specs.declared.class_file.ClassFile.{ClassFile}
use Rattle.class_model.specs.declared.class_file.MethodAt.{MethodAt}
use Rattle.class_model.specs.declared.frame.Frame.{Frame}
use Rattle.class_model.specs.declared.instr.Instr.{Instr}
use Rattle.class_model.specs.declared.instr.Instr.TheVariants.{Invoke, New}
use Rattle.class_model.specs.declared.instr.Placed.{Placed}
use Rattle.class_tree.specs.Headers.{Classes, Name}
use Rattle.expanded_code.specs.Alone.{number_in}
use Rattle.expanded_code.specs.Callees.{Calls, IsCallee, is_callee}
use Rattle.expanded_code.specs.Expanded.{Setting, callee_of, class_of, expanded, instr_points, set_instr}
use Rattle.expanded_code.specs.Expansions.{Coded, Expansion}
use Rattle.expanded_code.specs.Laws.Instructions.{calls_of}
use Rattle.expanded_code.specs.Laws.NumberedInstrs.{number-within}
use Rattle.expanded_code.specs.Sites.{HasFrames, IsReplaced}
use Rattle.expanded_runs.proofs.Runs.CallTargets.{scope_has}
use Rattle.expanded_runs.proofs.Runs.LinkedInstrs.{instr_there}
use Rattle.expanded_runs.proofs.Runs.PositionLaws.{length_fits, part_stands, points_at}
use Rattle.expanded_runs.proofs.Runs.Positions.{Becomes, IsReplacedAt, Standing, becomes, block_of, frames_of, instrs_of, scope_of, start_of}
use Rattle.expanded_runs.proofs.Runs.StandingLaws.{BecomesAs, as_replaced, becomes_as, it_is_replaced, it_makes_site, it_remains}
use Rattle.expanded_runs.proofs.Runs.Standings.{IsStanding, Stands, callee_stands, host_stands}
use Rattle.expanded_runs.proofs.TypedAloneNumbers.{IsNumber, is_number, number_of_placed}
use Rattle.expanded_runs.proofs.Types.FlatParts.{IsOwn, own_remains, own_site}
use Rattle.expanded_runs.proofs.Types.InstrStarts.{one_start}
use Rattle.expanded_runs.proofs.Types.OwnPoints.{TypingLaws, own_point}
use Rattle.expanded_runs.proofs.Types.Units.{item_there}
use Rattle.flow_code.specs.FlatCode.{FlatCode}
use Rattle.flow_code.specs.TypedFrames.{FolderFrames}
use Rattle.flow_code.specs.declared.point.FlatInstr.{FlatInstr}
use Rattle.flow_code.specs.declared.point.FlatInstr.TheVariants.{Of}
use Rattle.flow_code.specs.declared.point.Point.{Point}
use Rattle.member_link.specs.Scope.{Scope, class_of_new, instructions, scope_at}
use Rattle.same_runs.specs.Flats.{class_of_flat_new, pool_of}

-- ---- a new, by its offset

module _ (s : Scope) (at : ℕ) (class : Name) where
  abbrev class_made : Instr → Option Name
  class_made (New index) = class_at s.class.pool index
  class_made other = None

  abbrev new_among : List Placed → Option Name
  new_among [] = None
  new_among (placed ∷ others) = if placed.at == at then class_made placed.instr else new_among others

  pub record NewAt (instrs : List Placed) : Type 0 where
    pub number : ℕ
    pub placed : Placed
    pub is : slice_get instrs number ≡ Some placed
    pub offset : placed.at ≡ at
    pub index : ℕ
    pub instr : placed.instr ≡ New index
    pub names : class_at s.class.pool index ≡ Some class

  new_in : (instrs : List Placed) → new_among instrs ≡ Some class → NewAt instrs
  new_in [] is = absurd (none-some class is)
  new_in (first ∷ others) is = by (first.at == at) refl is (new_in others) where
    here : first.at ≡ at → (instr : Instr) → first.instr ≡ instr → class_made instr ≡ Some class → NewAt (first ∷ others)
    here offset (New index) i made =
        record { number = zero; placed = first; is = refl; offset = offset; index = index; instr = i; names = made }
    here offset other i made = absurd cc

    by : (b : Bool) → (first.at == at) ≡ b → (if b then class_made first.instr else new_among others) ≡ Some class
        → (new_among others ≡ Some class → NewAt others)
        → NewAt (first ∷ others)
    by true same made rest = here (eqb-true first.at at same) first.instr refl made
    by false other made rest =
        let later = rest made in
        record {
          number = suc later.number;
          placed = later.placed;
          is = later.is;
          offset = later.offset;
          index = later.index;
          instr = later.instr;
          names = later.names;
        }

  pub new_at : class_of_new s at ≡ Some class → NewAt (instructions s)
  new_at makes = new_in (instructions s) makes

-- ---- the points of an instruction that stays

pub new_points : (t : Setting) (placed : Placed) (frame : Frame) (index : ℕ) → placed.instr ≡ New index
    → instr_points t placed frame ≡ own_point t placed frame ∷ []
new_points t placed frame index i = by t.behind refl where
  by : (behind : Option ℕ) → t.behind ≡ behind → instr_points t placed frame ≡ own_point t placed frame ∷ []
  by None b = rw (b) refl
  by (Some behind) b = rw (b, i) refl

-- ---- the callee

-- a callee has the version of the host
pub callee_version : {classes : Classes} {typed : FolderFrames} {host : ℕ} {from : MethodAt} {at : ℕ} {callee : MethodAt} {g : Scope} {file : ClassFile}
    → IsCallee classes typed host from at callee
    → scope_at classes callee ≡ Some g
    → slice_get classes.folder host ≡ Some file
    → g.class.major ≡ file.major
callee_version {g = g} {file = file}
    (is_callee from at callee host_class own scope own_frames frames inner of_host of_caller of_own of_scope of_frames calls may result on_this) is
    is_file =
    let one : scope ≡ g = same_Some scope g (sym of_scope ∙ is) in
    let two : host_class ≡ file = same_Some host_class file (sym of_host ∙ is_file) in
    sym (ap (λ (s : Scope). s.class.major) one) ∙ may.version ∙ ap (λ (c : ClassFile). c.major) two

module _ (laws : TypingLaws) {classes : Classes} {typed : FolderFrames} (host : Coded) (e : Expansion)
    (stands : (chain : List MethodAt) (p : Standing) → IsStanding host e chain p → Stands classes typed host e chain p)
    (s : Scope) (is_host : scope_at classes host.at ≡ Some s) where
  abbrev flat : FlatCode
  flat = expanded host e

  pub host_scope_is : host.scope ≡ s
  host_scope_is = same_Some host.scope s (sym (stands [] _ host_stands).has.is_scope ∙ is_host)

  -- a callee in place of a call
  pub record CalleeHere (chain : List MethodAt) (p : Standing) (placed : Placed) (g : Coded) (inner : Expansion) : Type 0 where
    pub replaced : IsReplaced classes typed host.at chain p.setting.coded.at placed.at g.at
    pub caller : HasFrames classes typed p.setting.coded.at (scope_of p) (frames_of p)
    pub callee : HasFrames classes typed g.at g.scope g.frames
    pub calls : Calls classes (scope_of p) placed.at g.at

  pub callee_here : {chain : List MethodAt} {p : Standing} {k : ℕ} {placed : Placed} {frame : Frame} {g : Coded} {inner : Expansion}
      → IsStanding host e chain p
      → IsReplacedAt p k placed frame g inner
      → CalleeHere chain p placed g inner
  callee_here {chain} {p} {k} {placed} below at =
      let own = stands chain p below in
      let found = as_replaced (becomes_as chain p.setting.coded.at (instrs_of p) p.expansion own.expands k placed at.is) at.becomes in
      record { replaced = found.0; caller = own.has; callee = found.1; calls = calls_of found.0.is_callee own.has.is_scope }

  pub own_major : {chain : List MethodAt} {p : Standing} → IsStanding host e chain p → (scope_of p).class.major ≡ s.class.major
  own_major host_stands = ap (λ (x : Scope). x.class.major) host_scope_is
  own_major (callee_stands k placed frame g inner below at) =
      let here = callee_here below at in
      let known = scope_has classes host.at s is_host in
      callee_version here.replaced.is_callee here.callee.is_scope known.is_file ∙ sym (ap (λ (x : Scope). x.class.major) known.same)

  module _ {chain : List MethodAt} {p : Standing} (standing : IsStanding host e chain p) where
    own_stands : Stands classes typed host e chain p
    own_stands = stands chain p standing

    pub own_pool : pool_of classes (class_of p.setting) ≡ (scope_of p).class.pool
    own_pool =
        let known = scope_has classes p.setting.coded.at (scope_of p) own_stands.has.is_scope in
        rw (known.is_file) (sym (ap (λ (x : Scope). x.class.pool) known.same))

    pub number_of_instr : (k : ℕ) (placed : Placed) → slice_get (instrs_of p) k ≡ Some placed → number_in (instrs_of p) placed.at ≡ k
    number_of_instr k placed is = number_of_placed (scope_of p) (instrs_of p) (laws.in_order (scope_of p)) k placed is

    -- the number of an instruction's offset is where it begins
    pub start_number : (k : ℕ) (placed : Placed) → slice_get (instrs_of p) k ≡ Some placed → p.setting.number placed.at ≡ start_of p k
    start_number k placed is = own_stands.numbers placed.at ∙ ap (start_of p) (number_of_instr k placed is)

    -- no other offset has the number of an instruction
    pub numbers_apart : (k : ℕ) (placed : Placed) → slice_get (instrs_of p) k ≡ Some placed → (other : ℕ)
        → (p.setting.number other == p.setting.number placed.at) ≡ (other == placed.at)
    numbers_apart k placed is other = by (other == placed.at) refl where
      by : (same : Bool) → (other == placed.at) ≡ same → (p.setting.number other == p.setting.number placed.at) ≡ same
      by true same = eq-eqb (p.setting.number other) (p.setting.number placed.at) (ap p.setting.number (eqb-true other placed.at same))
      by false differ = ne_eqb (p.setting.number other) (p.setting.number placed.at) (λ equal.
          let within = slice_get_within (instrs_of p) k placed is in
          let one : start_of p (number_in (instrs_of p) other) ≡ start_of p k =
          sym (own_stands.numbers other) ∙ equal ∙ start_number k placed is in
          let at_k : number_in (instrs_of p) other ≡ k =
          one_start (callee_of p.setting) p.first own_stands.fits (number_in (instrs_of p) other) k (number-within (instrs_of p) other)
          (omega (arith, within)) one in
          let there : IsNumber (instrs_of p) other k = is_number (instrs_of p) other k at_k within in
          let same : there.placed ≡ placed = same_Some there.placed placed (sym there.stands ∙ is) in
          let place : other ≡ placed.at = sym there.place_is ∙ ap (λ (x : Placed). x.at) same in
          false≢true (sym differ ∙ eq-eqb other placed.at place))

    -- ---- a new stays

    -- a call that is replaced is one
    pub replaced_is_call : (k : ℕ) (placed : Placed) → slice_get (instrs_of p) k ≡ Some placed → (callee : MethodAt)
        → IsReplaced classes typed host.at chain p.setting.coded.at placed.at callee
        → (opcode : ℕ) × (index : ℕ) × (count : ℕ) × (placed.instr ≡ Invoke opcode index count)
    replaced_is_call k placed is callee replaced =
        let calls = calls_of replaced.is_callee own_stands.has.is_scope in
        let call = calls.is_call in
        let there = instr_there (scope_of p) placed.at (Invoke calls.opcode call.index call.count) call.is in
        let same : there.placed ≡ placed =
        same_Some there.placed placed (sym there.is ∙ ap (slice_get (instrs_of p)) (number_of_instr k placed is) ∙ is) in
        (calls.opcode, call.index, call.count, sym (ap (λ (x : Placed). x.instr) same) ∙ there.same)

    pub new_is_own : (k : ℕ) (placed : Placed) (index : ℕ) → slice_get (instrs_of p) k ≡ Some placed → placed.instr ≡ New index
        → IsOwn (becomes p.expansion k)
    new_is_own k placed index is instr =
        by (becomes p.expansion k) (becomes_as chain p.setting.coded.at (instrs_of p) p.expansion own_stands.expands k placed is) where
          by : (b : Becomes) → BecomesAs classes typed host.at chain p.setting.coded.at placed.at b → IsOwn b
          by _ (it_remains no_call no_site) = own_remains
          by _ (it_makes_site makes) = own_site
          by _ (it_is_replaced {g = g} call has within) =
              let invoke = replaced_is_call k placed is g.at call in
              let same : New index ≡ Invoke invoke.0 invoke.1 invoke.2 = sym instr ∙ invoke.3 in
              absurd cc

    -- there is a frame for each instruction
    pub frame_there : (k : ℕ) (placed : Placed) → slice_get (instrs_of p) k ≡ Some placed → (frame : Frame) × (slice_get (frames_of p) k ≡ Some frame)
    frame_there k placed is =
        item_there (frames_of p) k (omega (arith, length_fits own_stands.fits, slice_get_within (instrs_of p) k placed is))

    -- the point of a new
    pub new_point : (k : ℕ) (placed : Placed) (index : ℕ) (frame : Frame) → slice_get (instrs_of p) k ≡ Some placed → placed.instr ≡ New index
        → slice_get (frames_of p) k ≡ Some frame
        → slice_get (expanded host e).points (start_of p k) ≡ Some (own_point p.setting placed frame)
    new_point k placed index frame is instr has =
        let part = part_stands (expanded host e).points p.setting p.first p.block own_stands.fits k placed frame is has own_stands.points in
        let here : start_of p k + 0 ≡ start_of p k = omega arith in
        subst (λ (n : ℕ). slice_get (expanded host e).points n ≡ Some (own_point p.setting placed frame)) here
        (part 0 (own_point p.setting placed frame) (by (becomes p.expansion k) (new_is_own k placed index is instr))) where
          by : (b : Becomes) → IsOwn b
              → slice_get (points_at p.setting (start_of p k) (block_of p k) placed frame b) 0 ≡ Some (own_point p.setting placed frame)
          by _ own_remains = ap (λ (all : List Point). slice_get all 0) (new_points p.setting placed frame index instr)
          by _ own_site = ap (λ (all : List Point). slice_get all 0) (new_points p.setting placed frame index instr)

    -- it makes an object of the same class
    pub new_kept : (at : ℕ) (class : Name) → class_of_new (scope_of p) at ≡ Some class
        → class_of_flat_new classes (expanded host e) (p.setting.number at) ≡ Some class
    new_kept at class makes =
        let new = new_at (scope_of p) at class makes in
        let frame = frame_there new.number new.placed new.is in
        let number : p.setting.number at ≡ start_of p new.number =
        ap p.setting.number (sym new.offset) ∙ start_number new.number new.placed new.is in
        let point = new_point new.number new.placed new.index frame.0 new.is new.instr frame.1 in
        let made : class_of_flat_new classes (expanded host e) (start_of p new.number) ≡ made_in (own_point p.setting new.placed frame.0).instr =
        ap (option_and_then (λ (point : Point). made_in point.instr)) point in
        ap (class_of_flat_new classes (expanded host e)) number
        ∙ made
        ∙ ap (λ (instr : Instr). made_in (Of (class_of p.setting) (set_instr p.setting instr))) new.instr
        ∙ ap (λ (pool : Constants). class_at pool new.index) own_pool
        ∙ new.names where
          made_in : FlatInstr → Option Name
          made_in (Of class (New index)) = class_at (pool_of classes class) index
          made_in other = None

    pub new_apart : (at : ℕ) (class : Name) → class_of_new (scope_of p) at ≡ Some class → (other : ℕ)
        → (p.setting.number other == p.setting.number at) ≡ (other == at)
    new_apart at class makes other =
        let new = new_at (scope_of p) at class makes in
        subst (λ (a : ℕ). (p.setting.number other == p.setting.number a) ≡ (other == a)) new.offset
        (numbers_apart new.number new.placed new.is other)
