-- What a callee leaves where it returns may stand for the frame behind its call, in its place.
use Rattle.flow_code.specs.ReadTypes.{read_type}
use Rattle.std.proofs.Common.{◌≡◌, ◌≢◌, ◌+◌, ◌-◌, ◌≤◌, ℕ, suc, Bool, List, [], ◌∷◌, ◌++◌, length, map, take, drop, slice_get, Option, Some, None, option_map, if◌then◌else◌, refl, sym, ap, subst, ◌∙◌, arith, inl}
use Rattle.std.specs.Prelude.{IsSome}
use Rattle.std.proofs.lemmas.List.{append_assoc, length-append, length-map, map-append, take-map}
use Rattle.std.proofs.lemmas.Option.{same_Some, slice_get-map, slice_get_within}
use Rattle.std.proofs.Math.Seq.{take-append-add}
use Rattle.class_model.specs.Code.{verification_type}
use Rattle.class_model.specs.declared.class_file.MethodAt.{MethodAt}
use Rattle.class_model.specs.declared.descriptor.FieldType.{FieldType}
use Rattle.class_model.specs.declared.frame.Frame.{Frame}
use Rattle.class_model.specs.declared.frame.VType.{VType}
use Rattle.class_model.specs.declared.frame.VType.TheVariants as types
use Rattle.class_model.specs.declared.instr.Placed.{Placed}
use Rattle.class_tree.specs.Headers.{Classes, Headers, headers_of}
use Rattle.class_tree.specs.Hierarchy.{IsHierarchy}
use Rattle.expanded_code.specs.Callees.{ResultSaysAtMost, SaysAtMost}
use Rattle.expanded_code.specs.Expanded.{Setting, arguments, expanded, set_frame, set_type}
use Rattle.expanded_code.specs.Expansions.{Coded, Expansion}
use Rattle.expanded_runs.proofs.Runs.PositionLaws.{block_least, length_arguments}
use Rattle.expanded_runs.proofs.Runs.Positions.{IsReplacedAt, Standing, block_of, frames_of, inner_setting, inner_standing, instrs_of, scope_of}
use Rattle.expanded_runs.proofs.Runs.Standings.{IsStanding, Stands, callee_stands}
use Rattle.expanded_runs.proofs.TypedAloneNumbers.{frame_found}
use Rattle.expanded_runs.proofs.Types.CallFacts.{CallFacts, Returned, result_passes, returned_none, returned_one}
use Rattle.expanded_runs.proofs.Types.Edges.{locals_through, placed_frame, placed_type, set_this, set_unit, stack_through, this_through}
use Rattle.expanded_runs.proofs.Types.FrameFacts.{FrameFacts, frame_fits, tops_behind, whole}
use Rattle.expanded_runs.proofs.Types.Handlers.{SameBefore, same_before_assignable}
use Rattle.expanded_runs.proofs.Types.OwnPoints.{TypingLaws, flows_to, next_at, next_is}
use Rattle.expanded_runs.proofs.Types.ThroughClass.{ArrayInterfaces, IsKnown}
use Rattle.expanded_runs.proofs.Types.Units.{ThisAt, TopsFrom, append_assignable, as_long, each_assignable, get_inside, get_outside, has_this, inside, outside, this_at, where_is}
use Rattle.flow_code.specs.FlatCode.{FlatCode}
use Rattle.flow_code.specs.TypedFrames.{FolderFrames}
use Rattle.member_link.specs.Assignability.{IsAssignable}
use Rattle.member_link.specs.BodyTyping.{FlowsInto}
use Rattle.member_link.specs.Rows.FrameAssignability.{AreAssignable, IsFrameAssignable}
use Rattle.member_link.specs.Rows.MemberRows.{result_types}
use Rattle.member_link.specs.Rows.Operands.{lowest_of, topmost, under}
use Rattle.member_link.specs.Rows.Row.{row_frame}
use Rattle.member_link.specs.Rows.Table.{row_of}
use Rattle.member_link.specs.Scope.{Scope, own_descriptor, row_scope}
use Rattle.member_link.specs.Signatures.{result_of}
use Rattle.type_rules.specs.MethodBodies.{body_of}
use Rattle.type_rules.specs.Verified.{TypesFolder}

-- ---- stacks

pub drop_front : {A : Type 0} (ones others : List A) → drop (length ones) (ones ++ others) ≡ others
drop_front [] others = refl
drop_front (one ∷ ones) others = drop_front ones others

pub take_front : {A : Type 0} (ones others : List A) → take (length ones) (ones ++ others) ≡ ones
take_front [] others = refl
take_front (one ∷ ones) others = ap (λ (rest : List _). one ∷ rest) (take_front ones others)

pub topmost_back : (below tops : List VType) → topmost (length tops) (below ++ tops) ≡ tops
topmost_back below tops =
    let count : length (below ++ tops) - length tops ≡ length below = omega (arith, length-append below tops) in
    ap (λ (n : ℕ). drop n (below ++ tops)) count ∙ drop_front below tops

pub under_back : (below tops : List VType) → under (length tops) (below ++ tops) ≡ below
under_back below tops =
    let count : length (below ++ tops) - length tops ≡ length below = omega (arith, length-append below tops) in
    ap (λ (n : ℕ). take n (below ++ tops)) count ∙ take_front below tops

pub lowest_back : (below : List VType) (type : VType) → lowest_of 1 (below ++ type ∷ []) ≡ type
lowest_back below type = rw (topmost_back below (type ∷ [])) refl

-- entries under the arguments of a call, in their place
pub under_set : (t : Setting) (count : ℕ) (below stack : List VType) → count ≤ length stack
    → under count (below ++ map (set_type t) stack) ≡ below ++ map (set_type t) (under count stack)
under_set t count below stack enough =
    let long : length (below ++ map (set_type t) stack) - count ≡ length below + (length stack - count) =
    omega (arith, enough, length-append below (map (set_type t) stack), length-map stack (set_type t)) in
    ap (λ (n : ℕ). take n (below ++ map (set_type t) stack)) long
    ∙ take-append-add below (map (set_type t) stack) (length stack - count)
    ∙ ap (λ (entries : List VType). below ++ entries) (take-map (set_type t) (length stack - count) stack)

-- entries of which the first ones and the others are apart
pub record IsSplit (headers : Headers) (ones others all : List VType) : Type 0 where
  pub first : List VType
  pub second : List VType
  pub same : all ≡ first ++ second
  pub one : AreAssignable headers ones first
  pub other : AreAssignable headers others second

pub split : (headers : Headers) (ones others all : List VType) → AreAssignable headers (ones ++ others) all → IsSplit headers ones others all
split headers [] others all are = record { first = []; second = all; same = refl; one = tt; other = are }
split headers (one ∷ ones) others [] are = absurd are
split headers (one ∷ ones) others (high ∷ all) are =
    let rest = split headers ones others all are.1 in
    record {
      first = high ∷ rest.first;
      second = rest.second;
      same = ap (λ (entries : List VType). high ∷ entries) rest.same;
      one = (are.0, rest.one);
      other = rest.other;
    }

pub no_entries : (headers : Headers) (entries : List VType) → AreAssignable headers [] entries → entries ≡ []
no_entries headers [] are = refl
no_entries headers (entry ∷ entries) are = absurd are

one_entry : (headers : Headers) (type : VType) (entries : List VType) → AreAssignable headers (type ∷ []) entries
    → (said : VType) × (entries ≡ said ∷ []) × IsAssignable headers type said
one_entry headers type [] are = absurd are
one_entry headers type (said ∷ []) are = (said, refl, are.0)
one_entry headers type (said ∷ other ∷ rest) are = absurd are.1

-- ---- behind a call

module _ (laws : TypingLaws) {classes : Classes} {typed : FolderFrames} (folder : TypesFolder classes typed) (facts : FrameFacts classes typed)
    (host : Coded) (e : Expansion) (stands : (chain : List MethodAt) (p : Standing) → IsStanding host e chain p → Stands classes typed host e chain p)
    (s : Scope) (headers : s.headers ≡ headers_of classes)
    (this_known : (chain : List MethodAt) (p : Standing) → IsStanding host e chain p → IsSome p.setting.behind → p.setting.this ≢ types.UninitThis)
    (hierarchy : IsHierarchy s.headers) (arrays : ArrayInterfaces s.headers) where
  abbrev flat : FlatCode
  flat = expanded host e

  module _ {chain : List MethodAt} {p : Standing} (standing : IsStanding host e chain p) (k : ℕ) (placed : Placed) (frame : Frame) (g : Coded)
      (inner : Expansion) (at : IsReplacedAt p k placed frame g inner) (call : CallFacts (expanded host e) s.headers p placed frame g) where
    abbrev t : Setting
    t = p.setting

    abbrev q : Setting
    q = inner_setting p k placed frame g inner

    own_stands : IsStanding host e (g.at ∷ chain) (inner_standing p k placed frame g inner)
    own_stands = callee_stands k placed frame g inner standing at

    -- the frame there
    pub record BehindCall : Type 0 where
      pub next : Frame
      pub there : slice_get (frames_of p) (suc k) ≡ Some next
      pub assignable : IsFrameAssignable s.headers call.own next

    pub behind_call : BehindCall
    behind_call =
        let flowing : FlowsInto (body_of (scope_of p)) (frames_of p) (placed.at + placed.len) (Some call.own) =
        subst (FlowsInto (body_of (scope_of p)) (frames_of p) (placed.at + placed.len)) call.own_is
        (subst (λ (b : Bool). FlowsInto (body_of (scope_of p)) (frames_of p) (placed.at + placed.len)
        (if b then row_frame frame (row_of (row_scope (scope_of p)) frame placed.at placed.instr) else None)) call.falls
        (next_at laws folder facts host e stands s headers standing k placed frame at.is at.has_frame)) in
        let flows = flows_to laws folder facts host e stands s headers standing k placed frame at.is at.has_frame (placed.at + placed.len) call.own
        flowing in
        record {
          next = flows.0;
          there =
              ap (slice_get (frames_of p)) (sym (next_is laws folder facts host e stands s headers standing k placed frame at.is at.has_frame))
              ∙ frame_found (scope_of p) (instrs_of p) (frames_of p) (placed.at + placed.len) flows.0 flows.1;
          assignable = flows.2;
        }

    module _ (b : BehindCall) where
      long : length frame.locals ≡ length b.next.locals
      long =
          sym (length-map frame.locals call.becomes)
          ∙ ap (λ (l : List VType). length l) (sym call.own_locals)
          ∙ as_long s.headers call.own.locals b.next.locals b.assignable.locals

      became : (m : ℕ) (low : VType) → slice_get frame.locals m ≡ Some low → slice_get call.own.locals m ≡ Some (call.becomes low)
      became m low is =
          ap (λ (l : List VType). slice_get l m) call.own_locals
          ∙ slice_get-map call.becomes frame.locals m
          ∙ ap (option_map call.becomes) is

      each : (m : ℕ) (low high : VType) → slice_get frame.locals m ≡ Some low → slice_get b.next.locals m ≡ Some high
          → IsAssignable s.headers (placed_type (expanded host e) t low) (placed_type (expanded host e) t high)
      each m low high low_is high_is =
          call.through low high
          (each_assignable s.headers call.own.locals b.next.locals b.assignable.locals m (call.becomes low) high (became m low low_is) high_is)

      this : (m : ℕ) (low : VType) → slice_get frame.locals m ≡ Some low → set_type t low ≡ types.UninitThis
          → ThisAt b.next.locals × (low ≡ types.UninitThis)
      this m low is set = (
        this_at b.next.locals (b.assignable.keeps_this (has_this call.own.locals m (became m low is ∙ ap Some (call.keeps low set)))),
        set_this (expanded host e) t low set,
      )

      fits : t.unit + length frame.locals ≤ length t.below.locals
      fits = frame_fits facts host e stands standing k frame at.has_frame

      -- the entries under the arguments
      all_through : (ones others : List VType) → AreAssignable s.headers (map call.becomes ones) others
          → AreAssignable s.headers (map (read_type (expanded host e)) (map (set_type t) ones)) (map (read_type (expanded host e)) (map (set_type t) others))
      all_through [] [] are = tt
      all_through [] (high ∷ highs) are = absurd are
      all_through (low ∷ lows) [] are = absurd are
      all_through (low ∷ lows) (high ∷ highs) are = (call.through low high are.0, all_through lows highs are.1)

      -- ---- of a frame of the callee

      module _ (n : ℕ) (within : Frame) (has : slice_get g.frames n ≡ Some within) (own_headers_same : g.scope.headers ≡ s.headers)
          (returns : Returned s.headers (result_of (own_descriptor g.scope)) within.stack)
          (says : ResultSaysAtMost s.headers (result_of (own_descriptor g.scope)) b.next) where
        own_fits : q.unit + length (map (set_type q) within.locals) ≤ length q.below.locals
        own_fits =
            let own = frame_fits facts host e stands own_stands n within has in
            omega (arith, own, length-map within.locals (set_type q))

        behind_own : (m : ℕ) → t.unit + (scope_of p).part.max_locals ≤ block_of p k
        behind_own m =
            let least = block_least p.block p.expansion k in
            let own = (stands chain p standing).own_units in
            omega (arith, least, own)

        same_units : SameBefore (block_of p k) (set_frame t frame).locals (set_frame q within).locals
        same_units = record {
          long = whole facts host e stands own_stands n within has ∙ sym (whole facts host e stands standing k frame at.has_frame);
          same = λ m before. get_outside q.unit (map (set_type q) within.locals) q.below.locals own_fits m (inl before);
          no_this = λ m behind is. elim (where_is q.unit (length (map (set_type q) within.locals)) m) [
            | outside out ↦
                let there = sym (get_outside q.unit (map (set_type q) within.locals) q.below.locals own_fits m out) ∙ is in
                let room = slice_get_within (set_frame t frame).locals m types.UninitThis there in
                let top = (tops_behind facts host e stands standing k frame at.has_frame).each m (omega (arith, behind, behind_own m)) room in
                let same : types.Top ≡ types.UninitThis = same_Some types.Top types.UninitThis (sym top ∙ there) in
                absurd cc
            | inside unit place room ↦
                let there = get_inside q.unit (map (set_type q) within.locals) q.below.locals own_fits unit room in
                let one = set_unit (expanded host e) q within.locals unit types.UninitThis
                (sym there ∙ ap (slice_get (set_frame q within).locals) (sym place) ∙ is) in
                let is_this = set_this (expanded host e) q one.0 (sym one.2) in
                this_known _ (inner_standing p k placed frame g inner) own_stands refl (sym (one.2 ∙ ap (set_type q) is_this))
          ];
        }

        result_part : (second first : List VType) → b.next.stack ≡ first ++ second
            → AreAssignable s.headers (result_types (result_of (own_descriptor g.scope))) second
            → AreAssignable s.headers (map (read_type (expanded host e)) (map (set_type q) within.stack))
            (map (read_type (expanded host e)) (map (set_type t) second))
        result_part second first same are = by returns where
          by : Returned s.headers (result_of (own_descriptor g.scope)) within.stack
              → AreAssignable s.headers (map (read_type (expanded host e)) (map (set_type q) within.stack))
              (map (read_type (expanded host e)) (map (set_type t) second))
          by (returned_none none empty) =
              let no_second = no_entries s.headers second (subst (λ (r : Option FieldType). AreAssignable s.headers (result_types r) second) none are) in
              rw (empty, no_second) tt
          by (returned_one type value some alone kind assignable) =
              let one = one_entry s.headers (verification_type type) second
              (subst (λ (r : Option FieldType). AreAssignable s.headers (result_types r) second) some are) in
              let said : SaysAtMost s.headers type (lowest_of 1 b.next.stack) =
              subst (λ (r : Option FieldType). ResultSaysAtMost s.headers r b.next) some says in
              let is : lowest_of 1 b.next.stack ≡ one.0 =
              ap (lowest_of 1) (same ∙ ap (λ (l : List VType). first ++ l) one.1) ∙ lowest_back first one.0 in
              let known = subst (λ (h : Headers). IsKnown h value) own_headers_same
              (facts.known g.at g.scope g.frames (stands _ _ own_stands).has n within has 0 value (ap (λ (l : List VType). slice_get l 0) alone)) in
              let passes = result_passes (expanded host e) s.headers hierarchy arrays q t type value one.0 kind assignable one.2
              (subst (SaysAtMost s.headers type) is said) known in
              rw (alone, one.1) (passes, tt)

        stacks : AreAssignable s.headers (map (read_type (expanded host e)) (set_frame q within).stack)
            (map (read_type (expanded host e)) (set_frame t b.next).stack)
        stacks =
            let count = length_arguments g.scope (block_of p k) in
            let left = under (length (arguments g.scope 0)) frame.stack in
            let below : q.below.stack ≡ t.below.stack ++ map (set_type t) left =
            ap (λ (n : ℕ). under n (set_frame t frame).stack) count
            ∙ under_set t (length (arguments g.scope 0)) t.below.stack frame.stack call.enough in
            let same : (set_frame q within).stack ≡ t.below.stack ++ (map (set_type t) left ++ map (set_type q) within.stack) =
            ap (λ (l : List VType). l ++ map (set_type q) within.stack) below
            ∙ append_assoc t.below.stack (map (set_type t) left) (map (set_type q) within.stack) in
            let parts = split s.headers (map call.becomes left) (result_types (result_of (own_descriptor g.scope))) b.next.stack
            (subst (λ (l : List VType). AreAssignable s.headers l b.next.stack) call.own_stack b.assignable.stack) in
            let above : AreAssignable s.headers (map (read_type (expanded host e)) (map (set_type t) left ++ map (set_type q) within.stack))
            (map (read_type (expanded host e)) (map (set_type t) b.next.stack)) =
            subst (λ (l : List VType). AreAssignable s.headers l (map (read_type (expanded host e)) (map (set_type t) b.next.stack)))
            (sym (map-append (read_type (expanded host e)) (map (set_type t) left) (map (set_type q) within.stack)))
            (subst (λ (l : List VType). AreAssignable s.headers
            (map (read_type (expanded host e)) (map (set_type t) left) ++ map (read_type (expanded host e)) (map (set_type q) within.stack))
            (map (read_type (expanded host e)) (map (set_type t) l))) (sym parts.same)
            (subst (AreAssignable s.headers
            (map (read_type (expanded host e)) (map (set_type t) left) ++ map (read_type (expanded host e)) (map (set_type q) within.stack)))
            (sym (ap (map (read_type (expanded host e))) (map-append (set_type t) parts.first parts.second)
            ∙ map-append (read_type (expanded host e)) (map (set_type t) parts.first) (map (set_type t) parts.second)))
            (append_assignable s.headers _ _ _ _ (all_through left parts.first parts.one)
            (result_part parts.second parts.first parts.same parts.other)))) in
            subst (λ (l : List VType). AreAssignable s.headers (map (read_type (expanded host e)) l)
            (map (read_type (expanded host e)) (set_frame t b.next).stack)) (sym same)
            (stack_through (expanded host e) s.headers t.below.stack (map (set_type t) left ++ map (set_type q) within.stack)
            (map (set_type t) b.next.stack) above)

        -- The frame before a return may stand for that behind the call.
        pub return_assignable : IsFrameAssignable s.headers (placed_frame (expanded host e) q within) (placed_frame (expanded host e) t b.next)
        return_assignable =
            same_before_assignable (expanded host e) s.headers (block_of p k) (set_frame t frame).locals (set_frame q within).locals
            (map (read_type (expanded host e)) (set_frame q within).stack) (set_frame t b.next)
            (record {
              locals = locals_through (expanded host e) t s.headers frame.locals b.next.locals long fits each this;
              stack = stacks;
              keeps_this = this_through (expanded host e) t s.headers frame.locals b.next.locals long fits each this;
            }) tops same_units
          where
            tops : TopsFrom (block_of p k) (set_frame t b.next).locals
            tops = record {
              each = λ m behind room. (tops_behind facts host e stands standing (suc k) b.next b.there).each m (omega (arith, behind, behind_own m)) room;
            }
