-- A method has one reason, in a pool as the methods before it leave it, and what is written of it leaves one pool.
use Rattle.std.proofs.Common.{◌≡◌, ◌⊎◌, ◌<◌, ℕ, nat_le, Bool, List, [], ◌∷◌, length, map, Option, Some, refl, sym, ap, subst, ◌∙◌, inl, inr, arith, if◌then◌else◌}
use Rattle.std.proofs.lemmas.Option.{none-some, same_Some}
use Rattle.class_model.specs.Pool.{Constants}
use Rattle.class_model.specs.Spelling.{code_part_bytes}
use Rattle.class_model.specs.declared.class_file.MethodAt.{MethodAt}
use Rattle.class_model.specs.declared.instr.Instr.{Instr}
use Rattle.class_model.specs.declared.frame.Frame.{Frame}
use Rattle.class_rewrite.specs.Laws.OneLength.{code_len}
use Rattle.class_rewrite.specs.Laws.OneReason.{HasEarlyReason, one_reason}
use Rattle.class_rewrite.specs.Rewriting.Methods.{CodeIsPast, FramesArePast, GainsNothing, HasReasonIn, IsCoded, IsDeepCode, IsFramedIn, IsHugeCode, IsLongCode, IsPlanned, IsRewritten, IsShallow, IsTooLong, IsWholeCode, Rewriting, Rewritten, short_items}
use Rattle.code_layout.specs.Layout.{end_from, short_spelled}
use Rattle.code_layout.specs.PlainItems.{plain_item, plain_items}
use Rattle.code_layout.specs.declared.emitted.Catch.{Catch}
use Rattle.code_layout.specs.declared.emitted.EmitItem.{EmitItem}
use Rattle.expanded_code.specs.ExpandAnswers.{IsExpanded}
use Rattle.flow_code.specs.FlatCode.{FlatCode}
use Rattle.flow_code.specs.declared.reason.Reason.{Reason}
use Rattle.flow_code.specs.declared.reason.Reason.TheVariants as reasons
use Rattle.making_code.specs.IndexedItems.{IndexedItem}
use Rattle.member_link.specs.Bodies.{Body}
use Rattle.member_link.specs.Scope.{Scope, scope_at}
use Rattle.plan_flow.specs.Effect.{IsEffect}
use Rattle.plan_flow.specs.Gain.{Gains}
use Rattle.plan_flow.specs.Laws.OneRouting.{routing_is_one}
use Rattle.plan_flow.specs.PlanScope.{PlanScope, scope_of}
use Rattle.plan_flow.specs.Plans.{IsLeast, Plan}
use Rattle.plan_flow.specs.Written.FramedCode.{IsFramed, body_of_items, greatest_of}
use Rattle.plan_flow.specs.Written.Routes.{IsRouted, Routes}
use Rattle.plan_flow.specs.Written.WrittenCode.{Form, short, wide}
use Rattle.plan_flow.specs.Written.WrittenConstants.{code_pool, indexed_items}
use Rattle.plan_flow.specs.Written.WrittenPrograms.{WrittenMethod, finished_of, plan_scope}
use Rattle.plan_flow.specs.declared.edge.Edge.{Edge}
use Rattle.stackmap_emit.specs.FrameConstants.{frames_pool}
use Rattle.stackmap_emit.specs.Laws.OneFraming.{frames_are_one, stated_alike, statements_are_one}
use Rattle.stackmap_emit.specs.PlacedFrames.{stated_from}
use Rattle.virtual_state.specs.States.{State}

-- ---- items

abbrev catch : ℕ → ℕ → Catch
catch to type = record { to = to; catch_type = type }

catch_is_one : (one other : Catch) → one.to ≡ other.to → one.catch_type ≡ other.catch_type → one ≡ other
catch_is_one one other to type = made one.to other.to to one.catch_type other.catch_type type where
  made : (to to_also : ℕ) → to ≡ to_also → (type type_also : ℕ) → type ≡ type_also → catch to type ≡ catch to_also type_also
  made to to_also a type type_also b = rw a (rw b refl)

abbrev plain_catch : Catch → ℕ × ℕ
plain_catch catch = (catch.to, catch.catch_type)

catches_are_one : (ones others : List Catch)
    → map plain_catch ones ≡ map plain_catch others
    → ones ≡ others
catches_are_one [] [] same = refl
catches_are_one [] (other ∷ others) same = absurd cc
catches_are_one (one ∷ ones) [] same = absurd cc
catches_are_one (one ∷ ones) (other ∷ others) same =
    let pair : plain_catch one ≡ plain_catch other = cc same in
    let to : one.to ≡ other.to = ap (λ (x : ℕ × ℕ). x.0) pair in
    let type : one.catch_type ≡ other.catch_type = ap (λ (x : ℕ × ℕ). x.1) pair in
    let behind : map plain_catch ones ≡ map plain_catch others = cc same in
    let first : one ≡ other = catch_is_one one other to type in
    let rest : ones ≡ others = catches_are_one ones others behind in
    cc (first, rest)

abbrev item : Instr → Bool → List Catch → EmitItem
item instr near catches = record { instr = instr; near = near; catches = catches }

item_is_one : (one other : EmitItem) → plain_item one ≡ plain_item other → one ≡ other
item_is_one one other same =
    made one.instr other.instr (ap (λ (x : IndexedItem). x.instr) same) one.near other.near (ap (λ (x : IndexedItem). x.near) same)
    one.catches other.catches (catches_are_one one.catches other.catches (ap (λ (x : IndexedItem). x.catches) same)) where
      made : (instr instr_also : Instr) → instr ≡ instr_also → (near near_also : Bool) → near ≡ near_also
          → (catches catches_also : List Catch) → catches ≡ catches_also
          → item instr near catches ≡ item instr_also near_also catches_also
      made instr instr_also a near near_also b catches catches_also d = rw a (rw b (rw d refl))

-- items that are the same as plain ones are the same
pub items_are_one : (ones others : List EmitItem) → plain_items ones ≡ plain_items others → ones ≡ others
items_are_one [] [] same = refl
items_are_one [] (other ∷ others) same = absurd cc
items_are_one (one ∷ ones) [] same = absurd cc
items_are_one (one ∷ ones) (other ∷ others) same =
    let here : plain_item one ≡ plain_item other = cc same in
    let behind : plain_items ones ≡ plain_items others = cc same in
    let first : one ≡ other = item_is_one one other here in
    let rest : ones ≡ others = items_are_one ones others behind in
    cc (first, rest)

-- ---- reasons before and behind a plan

-- the reasons of methods of which a plan is made, as one
abbrev early : Reason → Reason
early reasons.Host = reasons.Host
early reasons.Float = reasons.Float
early reasons.Expanded = reasons.Expanded
early reasons.NoSite = reasons.NoSite
early reasons.Wide = reasons.Wide
early reasons.NoGain = reasons.NoGain
early reasons.Long = reasons.NoGain
early reasons.PoolFull = reasons.NoGain
early reasons.Rewritten = reasons.NoGain

data HasPlan : Reason → Type 0 where
  planned_nogain : HasPlan reasons.NoGain
  planned_long : HasPlan reasons.Long
  planned_poolfull : HasPlan reasons.PoolFull
  planned_rewritten : HasPlan reasons.Rewritten

-- reasons that are one before a plan are one, or both are of methods that have a plan
same_or_planned : (one other : Reason) → early one ≡ early other → (one ≡ other) ⊎ (HasPlan one × HasPlan other)
same_or_planned reasons.Host reasons.Host same = inl refl
same_or_planned reasons.Host reasons.Float same = absurd cc
same_or_planned reasons.Host reasons.Expanded same = absurd cc
same_or_planned reasons.Host reasons.NoSite same = absurd cc
same_or_planned reasons.Host reasons.Wide same = absurd cc
same_or_planned reasons.Host reasons.NoGain same = absurd cc
same_or_planned reasons.Host reasons.Long same = absurd cc
same_or_planned reasons.Host reasons.PoolFull same = absurd cc
same_or_planned reasons.Host reasons.Rewritten same = absurd cc
same_or_planned reasons.Float reasons.Host same = absurd cc
same_or_planned reasons.Float reasons.Float same = inl refl
same_or_planned reasons.Float reasons.Expanded same = absurd cc
same_or_planned reasons.Float reasons.NoSite same = absurd cc
same_or_planned reasons.Float reasons.Wide same = absurd cc
same_or_planned reasons.Float reasons.NoGain same = absurd cc
same_or_planned reasons.Float reasons.Long same = absurd cc
same_or_planned reasons.Float reasons.PoolFull same = absurd cc
same_or_planned reasons.Float reasons.Rewritten same = absurd cc
same_or_planned reasons.Expanded reasons.Host same = absurd cc
same_or_planned reasons.Expanded reasons.Float same = absurd cc
same_or_planned reasons.Expanded reasons.Expanded same = inl refl
same_or_planned reasons.Expanded reasons.NoSite same = absurd cc
same_or_planned reasons.Expanded reasons.Wide same = absurd cc
same_or_planned reasons.Expanded reasons.NoGain same = absurd cc
same_or_planned reasons.Expanded reasons.Long same = absurd cc
same_or_planned reasons.Expanded reasons.PoolFull same = absurd cc
same_or_planned reasons.Expanded reasons.Rewritten same = absurd cc
same_or_planned reasons.NoSite reasons.Host same = absurd cc
same_or_planned reasons.NoSite reasons.Float same = absurd cc
same_or_planned reasons.NoSite reasons.Expanded same = absurd cc
same_or_planned reasons.NoSite reasons.NoSite same = inl refl
same_or_planned reasons.NoSite reasons.Wide same = absurd cc
same_or_planned reasons.NoSite reasons.NoGain same = absurd cc
same_or_planned reasons.NoSite reasons.Long same = absurd cc
same_or_planned reasons.NoSite reasons.PoolFull same = absurd cc
same_or_planned reasons.NoSite reasons.Rewritten same = absurd cc
same_or_planned reasons.Wide reasons.Host same = absurd cc
same_or_planned reasons.Wide reasons.Float same = absurd cc
same_or_planned reasons.Wide reasons.Expanded same = absurd cc
same_or_planned reasons.Wide reasons.NoSite same = absurd cc
same_or_planned reasons.Wide reasons.Wide same = inl refl
same_or_planned reasons.Wide reasons.NoGain same = absurd cc
same_or_planned reasons.Wide reasons.Long same = absurd cc
same_or_planned reasons.Wide reasons.PoolFull same = absurd cc
same_or_planned reasons.Wide reasons.Rewritten same = absurd cc
same_or_planned reasons.NoGain reasons.Host same = absurd cc
same_or_planned reasons.NoGain reasons.Float same = absurd cc
same_or_planned reasons.NoGain reasons.Expanded same = absurd cc
same_or_planned reasons.NoGain reasons.NoSite same = absurd cc
same_or_planned reasons.NoGain reasons.Wide same = absurd cc
same_or_planned reasons.NoGain reasons.NoGain same = inr (planned_nogain, planned_nogain)
same_or_planned reasons.NoGain reasons.Long same = inr (planned_nogain, planned_long)
same_or_planned reasons.NoGain reasons.PoolFull same = inr (planned_nogain, planned_poolfull)
same_or_planned reasons.NoGain reasons.Rewritten same = inr (planned_nogain, planned_rewritten)
same_or_planned reasons.Long reasons.Host same = absurd cc
same_or_planned reasons.Long reasons.Float same = absurd cc
same_or_planned reasons.Long reasons.Expanded same = absurd cc
same_or_planned reasons.Long reasons.NoSite same = absurd cc
same_or_planned reasons.Long reasons.Wide same = absurd cc
same_or_planned reasons.Long reasons.NoGain same = inr (planned_long, planned_nogain)
same_or_planned reasons.Long reasons.Long same = inr (planned_long, planned_long)
same_or_planned reasons.Long reasons.PoolFull same = inr (planned_long, planned_poolfull)
same_or_planned reasons.Long reasons.Rewritten same = inr (planned_long, planned_rewritten)
same_or_planned reasons.PoolFull reasons.Host same = absurd cc
same_or_planned reasons.PoolFull reasons.Float same = absurd cc
same_or_planned reasons.PoolFull reasons.Expanded same = absurd cc
same_or_planned reasons.PoolFull reasons.NoSite same = absurd cc
same_or_planned reasons.PoolFull reasons.Wide same = absurd cc
same_or_planned reasons.PoolFull reasons.NoGain same = inr (planned_poolfull, planned_nogain)
same_or_planned reasons.PoolFull reasons.Long same = inr (planned_poolfull, planned_long)
same_or_planned reasons.PoolFull reasons.PoolFull same = inr (planned_poolfull, planned_poolfull)
same_or_planned reasons.PoolFull reasons.Rewritten same = inr (planned_poolfull, planned_rewritten)
same_or_planned reasons.Rewritten reasons.Host same = absurd cc
same_or_planned reasons.Rewritten reasons.Float same = absurd cc
same_or_planned reasons.Rewritten reasons.Expanded same = absurd cc
same_or_planned reasons.Rewritten reasons.NoSite same = absurd cc
same_or_planned reasons.Rewritten reasons.Wide same = absurd cc
same_or_planned reasons.Rewritten reasons.NoGain same = inr (planned_rewritten, planned_nogain)
same_or_planned reasons.Rewritten reasons.Long same = inr (planned_rewritten, planned_long)
same_or_planned reasons.Rewritten reasons.PoolFull same = inr (planned_rewritten, planned_poolfull)
same_or_planned reasons.Rewritten reasons.Rewritten same = inr (planned_rewritten, planned_rewritten)

-- What is known to be one: the expanded flat code of a method, the least plan of a flat code, and what an instruction leaves.
pub record HaveOne (r : Rewriting) : Type 0 where
  pub expanded : (at : MethodAt) (one other : FlatCode)
      → IsExpanded r.classes r.typed at one
      → IsExpanded r.classes r.typed at other
      → one ≡ other
  pub least : (s : PlanScope) (plan also : Plan) → IsLeast s plan → IsLeast s also → plan ≡ also
  pub effect : (s : PlanScope) (at : ℕ) (state : State) (edges also : List Edge)
      → IsEffect s at state edges
      → IsEffect s at state also
      → edges ≡ also

module _ (r : Rewriting) (known : HaveOne r) where
  before_plan : (at : MethodAt) (pool : Constants) (reason : Reason) → HasReasonIn r at pool reason → HasEarlyReason r.classes r.typed at (early reason)
  before_plan at pool reasons.Host has = has
  before_plan at pool reasons.Float has = has
  before_plan at pool reasons.Expanded has = has
  before_plan at pool reasons.NoSite has = has
  before_plan at pool reasons.Wide has = has
  before_plan at pool reasons.NoGain has = (has.one.flat, has.planned.flat)
  before_plan at pool reasons.Long (inl has) = (has.w.one.flat, has.coded.planned.flat)
  before_plan at pool reasons.Long (inr (inl has)) = (has.w.one.flat, has.coded.planned.flat)
  before_plan at pool reasons.Long (inr (inr has)) = (has.w.one.flat, has.is.coded.planned.flat)
  before_plan at pool reasons.PoolFull (inl has) = (has.one.flat, has.planned.flat)
  before_plan at pool reasons.PoolFull (inr has) = (has.w.one.flat, has.coded.planned.flat)
  before_plan at pool reasons.Rewritten has = (has.0.one.flat, has.1.coded.planned.flat)

  -- ---- plans

  abbrev with_form : FlatCode → Routes → Form → WrittenMethod
  with_form flat routes form = record { flat = flat; routes = routes; form = form }

  record SamePlanned (one other : WrittenMethod) (plan also : Plan) : Type 0 where
    flat : one.flat ≡ other.flat
    plans : plan ≡ also
    routes : one.routes ≡ other.routes

  same_planned : (at : MethodAt) (one other : WrittenMethod) (plan also : Plan) → IsPlanned r at one plan → IsPlanned r at other also
      → SamePlanned one other plan also
  same_planned at one other plan also p q =
      let flat : one.flat ≡ other.flat = known.expanded at one.flat other.flat p.flat.1 q.flat.1 in
      let least : IsLeast (scope_of r.classes r.links one.flat) also =
      subst (λ (x : FlatCode). IsLeast (scope_of r.classes r.links x) also) (sym flat) q.least in
      let plans : plan ≡ also = known.least (scope_of r.classes r.links one.flat) plan also p.least least in
      let routed : IsRouted (scope_of r.classes r.links one.flat) also other.routes =
      subst (λ (x : FlatCode). IsRouted (scope_of r.classes r.links x) also other.routes) (sym flat) q.routed in
      let routed_also : IsRouted (scope_of r.classes r.links one.flat) plan other.routes =
      subst (λ (x : Plan). IsRouted (scope_of r.classes r.links one.flat) x other.routes) (sym plans) routed in
      record {
        flat = flat;
        plans = plans;
        routes = routing_is_one (scope_of r.classes r.links one.flat) (known.effect (scope_of r.classes r.links one.flat)) plan
            one.routes other.routes p.routed routed_also;
      }

  in_form : (one other : WrittenMethod) (plan also : Plan) (form : Form) → SamePlanned one other plan also
      → with_form one.flat one.routes form ≡ with_form other.flat other.routes form
  in_form one other plan also form same = made one.flat other.flat same.flat one.routes other.routes same.routes where
    made : (flat flat_also : FlatCode) → flat ≡ flat_also → (routes routes_also : Routes) → routes ≡ routes_also
        → with_form flat routes form ≡ with_form flat_also routes_also form
    made flat flat_also a routes routes_also b = rw a (rw b refl)

  gains_also : (one other : WrittenMethod) (plan also : Plan) → SamePlanned one other plan also
      → Gains (scope_of r.classes r.links one.flat) plan
      → Gains (scope_of r.classes r.links other.flat) also
  gains_also one other plan also same gains =
      subst (λ (x : Plan). Gains (scope_of r.classes r.links other.flat) x) same.plans
      (subst (λ (x : FlatCode). Gains (scope_of r.classes r.links x) plan) same.flat gains)

  -- the pool with the constants of a method's code
  abbrev grown_by : WrittenMethod → Constants → Option Constants
  grown_by one pool = code_pool (plan_scope r.classes r.links one) r.constructor (short_items r one) pool

  same_grown : (one other : WrittenMethod) (plan also : Plan) (pool : Constants) → SamePlanned one other plan also
      → grown_by one pool ≡ grown_by other pool
  same_grown one other plan also pool same = ap (λ (x : WrittenMethod). grown_by x pool) (in_form one other plan also short same)

  -- ---- written code

  abbrev written_in : WrittenMethod → Form → Constants → List IndexedItem
  written_in one form pool =
      indexed_items (plan_scope r.classes r.links one) r.constructor pool form (finished_of r.classes r.links one)

  abbrev chosen : List EmitItem → Form
  chosen items = if nat_le (end_from short_spelled 0 items) 32767 then short else wide

  pub record SameCoded (w v : Rewritten) : Type 0 where
    pub one : w.one ≡ v.one
    pub pool : w.code_pool ≡ v.code_pool
    pub items : w.items ≡ v.items

  pub same_coded : (at : MethodAt) (pool : Constants) (w v : Rewritten) → IsCoded r at pool w → IsCoded r at pool v → SameCoded w v
  same_coded at pool w v p q =
      let planned = same_planned at w.one v.one w.plan v.plan p.planned q.planned in
      let pools : w.code_pool ≡ v.code_pool =
      same_Some w.code_pool v.code_pool (sym p.grows ∙ same_grown w.one v.one w.plan v.plan pool planned ∙ q.grows) in
      let shorts : with_form w.one.flat w.one.routes short ≡ with_form v.one.flat v.one.routes short = in_form w.one v.one w.plan v.plan short planned in
      let of_short : plain_items p.chosen.items ≡ plain_items q.chosen.items =
      p.chosen.are_items ∙ ap (λ (x : WrittenMethod). written_in x short w.code_pool) shorts
      ∙ ap (λ (x : Constants). written_in v.one short x) pools
      ∙ sym q.chosen.are_items in
      let short_same : p.chosen.items ≡ q.chosen.items = items_are_one p.chosen.items q.chosen.items of_short in
      let forms : w.one.form ≡ v.one.form = p.chosen.form ∙ ap (λ (x : List EmitItem). chosen x) short_same ∙ sym q.chosen.form in
      let ones : w.one ≡ v.one =
      ap (λ (x : Form). with_form w.one.flat w.one.routes x) forms ∙ in_form w.one v.one w.plan v.plan v.one.form planned in
      let all : plain_items w.items ≡ plain_items v.items =
      p.items ∙ ap (λ (x : WrittenMethod). written_in x x.form w.code_pool) ones ∙ ap (λ (x : Constants). written_in v.one v.one.form x) pools ∙ sym q.items in
      record { one = ones; pool = pools; items = items_are_one w.items v.items all }

  -- ---- frames

  abbrev framed_in : WrittenMethod → List EmitItem → Body → List Frame → Type 0
  framed_in one items body frames = IsFramed one.flat one.form (finished_of r.classes r.links one) (plain_items items) body frames

  abbrev framed_so : WrittenMethod → Scope → Constants → List EmitItem → (ℕ → Option Frame) → List Frame → Type 0
  framed_so one host pool items state frames =
      framed_in one items (body_of_items host one.flat pool 0 (plain_items items) state) frames

  abbrev deepest_so : WrittenMethod → Scope → Constants → List EmitItem → (ℕ → Option Frame) → List Frame → ℕ
  deepest_so one host pool items state frames =
      greatest_of (body_of_items host one.flat pool 0 (plain_items items) state).points frames

  record SameFramed (w v : Rewritten) (host also : Scope) : Type 0 where
    hosts : host ≡ also
    stated : w.stated ≡ v.stated
    greatest : greatest_of w.body.points w.frames ≡ greatest_of v.body.points v.frames

  same_framed : (at : MethodAt) (w v : Rewritten) (host also : Scope) → SameCoded w v
      → scope_at r.classes at ≡ Some host
      → scope_at r.classes at ≡ Some also
      → IsFramedIn r host w
      → IsFramedIn r also v
      → SameFramed w v host also
  same_framed at w v host also coded is is_also p q =
      let hosts : host ≡ also = same_Some host also (sym is ∙ is_also) in
      let there : framed_so v.one also v.code_pool v.items p.state w.frames =
      subst (λ (x : Scope). framed_so v.one x v.code_pool v.items p.state w.frames) hosts
      (subst (λ (x : Constants). framed_so v.one host x v.items p.state w.frames) coded.pool
      (subst (λ (x : List EmitItem). framed_so v.one host w.code_pool x p.state w.frames) coded.items
      (subst (λ (x : WrittenMethod). framed_so x host w.code_pool w.items p.state w.frames) coded.one
      (subst (λ (x : Body). framed_in w.one w.items x w.frames) p.body p.framed)))) in
      let there_also : framed_so v.one also v.code_pool v.items q.state v.frames =
      subst (λ (x : Body). framed_in v.one v.items x v.frames) q.body q.framed in
      let states = statements_are_one also v.one.flat v.one.form (finished_of r.classes r.links v.one) v.code_pool 0 (plain_items v.items)
      p.state q.state w.frames v.frames there there_also in
      record {
        hosts = hosts;
        stated = p.stated
            ∙ ap (λ (x : Body). stated_from x.stated 0 w.items) p.body
            ∙ ap (λ (x : List EmitItem). stated_from p.state 0 x) coded.items
            ∙ stated_alike p.state q.state 0 v.items states
            ∙ ap (λ (x : Body). stated_from x.stated 0 v.items) (sym q.body)
            ∙ sym q.stated;
        greatest = ap (λ (x : Body). greatest_of x.points w.frames) p.body
            ∙ ap (λ (x : List EmitItem). deepest_so w.one host w.code_pool x p.state w.frames) coded.items
            ∙ ap (λ (x : WrittenMethod). deepest_so x host w.code_pool v.items p.state w.frames) coded.one
            ∙ ap (λ (x : Constants). deepest_so v.one host x v.items p.state w.frames) coded.pool
            ∙ ap (λ (x : Scope). deepest_so v.one x v.code_pool v.items p.state w.frames) hosts
            ∙ ap (λ (x : List Frame). deepest_so v.one also v.code_pool v.items p.state x)
            (frames_are_one also v.one.flat v.one.form (finished_of r.classes r.links v.one) v.code_pool 0 (plain_items v.items)
            p.state q.state w.frames v.frames there there_also)
            ∙ ap (λ (x : Body). greatest_of x.points v.frames) (sym q.body);
      }

  -- the pool with the constants of frames
  same_frames_pool : (w v : Rewritten) (host also : Scope) → SameCoded w v → SameFramed w v host also
      → frames_pool host.class.major w.stated w.code_pool ≡ frames_pool also.class.major v.stated v.code_pool
  same_frames_pool w v host also coded framed =
      ap (λ (x : Scope). frames_pool x.class.major w.stated w.code_pool) framed.hosts
      ∙ ap (λ (x : List (Option Frame)). frames_pool also.class.major x w.code_pool) framed.stated
      ∙ ap (λ (x : Constants). frames_pool also.class.major v.stated x) coded.pool

  -- what is written of a method leaves one pool
  pub pool_is_one : {asked also : ℕ → Type 0} (at : MethodAt) (pool : Constants) (w v : Rewritten) → IsWholeCode asked r at pool w
      → IsWholeCode also r at pool v
      → w.pool ≡ v.pool
  pool_is_one at pool w v p q =
      let coded = same_coded at pool w v p.coded q.coded in
      let framed = same_framed at w v p.host q.host coded p.is_host q.is_host p.framed q.framed in
      same_Some w.pool v.pool (sym p.grows ∙ same_frames_pool w v p.host q.host coded framed ∙ q.grows)

  -- and is one but for the list of indices by which its frames are spelled
  pub method_is_one : (at : MethodAt) (pool : Constants) (w v : Rewritten) → IsRewritten r at pool w → IsRewritten r at pool v → w.one ≡ v.one
  method_is_one at pool w v p q = (same_coded at pool w v p.coded q.coded).one

  -- its Code has one number of bytes
  len_is_one : {asked also : ℕ → Type 0} (at : MethodAt) (pool : Constants) (w v : Rewritten) → IsWholeCode asked r at pool w
      → IsWholeCode also r at pool v
      → length (code_part_bytes w.part) ≡ length (code_part_bytes v.part)
  len_is_one at pool w v p q =
      let coded = same_coded at pool w v p.coded q.coded in
      let framed = same_framed at w v p.host q.host coded p.is_host q.is_host p.framed q.framed in
      code_len w v p q coded.one coded.items framed.hosts framed.stated

  -- ---- reasons

  no_gain : (at : MethodAt) (one : WrittenMethod) (plan : Plan) → GainsNothing r at → IsPlanned r at one plan
      → Gains (scope_of r.classes r.links one.flat) plan
      → ⊥
  no_gain at one plan none p gains =
      none.none (gains_also one none.one plan none.plan (same_planned at one none.one plan none.plan p none.planned) gains)

  not_past : (at : MethodAt) (pool : Constants) (w : Rewritten) → CodeIsPast r at pool → IsCoded r at pool w → ⊥
  not_past at pool w past p =
      none-some w.code_pool
      (sym past.past ∙ same_grown past.one w.one past.plan w.plan pool (same_planned at past.one w.one past.plan w.plan past.planned p.planned) ∙ p.grows)

  not_long : (at : MethodAt) (pool : Constants) (w : Rewritten) → IsLongCode r at pool → IsCoded r at pool w → ¬ IsTooLong w.one.form w.items → ⊥
  not_long at pool w long p fits =
      let coded = same_coded at pool long.w w long.coded p in
      fits (subst (λ (x : List EmitItem). IsTooLong w.one.form x) coded.items
      (subst (λ (x : WrittenMethod). IsTooLong x.form long.w.items) coded.one long.long))

  not_deep : (at : MethodAt) (pool : Constants) (w : Rewritten) (host : Scope) → IsDeepCode r at pool → IsCoded r at pool w
      → scope_at r.classes at ≡ Some host
      → IsFramedIn r host w
      → IsShallow w
      → ⊥
  not_deep at pool w host deep p is_host framed shallow =
      let coded = same_coded at pool deep.w w deep.coded p in
      let same = same_framed at deep.w w deep.host host coded deep.is_host is_host deep.framed framed in
      deep.deep (subst (λ (depth : ℕ). depth < 65535) (sym same.greatest) shallow)

  not_huge : (at : MethodAt) (pool : Constants) (w : Rewritten) → IsHugeCode r at pool → IsRewritten r at pool w → ⊥
  not_huge at pool w huge p =
      let same = len_is_one at pool w huge.w p huge.is in
      let few = p.short in
      let many = huge.is.short in
      omega (arith, same, few, many)

  not_past_frames : {asked : ℕ → Type 0} (at : MethodAt) (pool : Constants) (w : Rewritten) → FramesArePast r at pool → IsWholeCode asked r at pool w → ⊥
  not_past_frames at pool w past p =
      let coded = same_coded at pool past.w w past.coded p.coded in
      let framed = same_framed at past.w w past.host p.host coded past.is_host p.is_host past.framed p.framed in
      none-some w.pool (sym past.past ∙ same_frames_pool past.w w past.host p.host coded framed ∙ p.grows)

  -- of methods that have a plan
  of_planned : (at : MethodAt) (pool : Constants) (one other : Reason) → HasPlan one → HasPlan other
      → HasReasonIn r at pool one
      → HasReasonIn r at pool other
      → one ≡ other
  of_planned at pool reasons.NoGain reasons.NoGain planned_nogain planned_nogain x y = refl
  of_planned at pool reasons.NoGain reasons.Long planned_nogain planned_long x (inl y) =
      absurd (no_gain at y.w.one y.w.plan x (y.coded.planned) (y.coded.gains))
  of_planned at pool reasons.NoGain reasons.Long planned_nogain planned_long x (inr (inl y)) =
      absurd (no_gain at y.w.one y.w.plan x (y.coded.planned) (y.coded.gains))
  of_planned at pool reasons.NoGain reasons.Long planned_nogain planned_long x (inr (inr y)) =
      absurd (no_gain at y.w.one y.w.plan x (y.is.coded.planned) (y.is.coded.gains))
  of_planned at pool reasons.NoGain reasons.PoolFull planned_nogain planned_poolfull x (inl y) = absurd (no_gain at y.one y.plan x (y.planned) (y.gains))
  of_planned at pool reasons.NoGain reasons.PoolFull planned_nogain planned_poolfull x (inr y) =
      absurd (no_gain at y.w.one y.w.plan x (y.coded.planned) (y.coded.gains))
  of_planned at pool reasons.NoGain reasons.Rewritten planned_nogain planned_rewritten x y =
      absurd (no_gain at y.0.one y.0.plan x (y.1.coded.planned) (y.1.coded.gains))
  of_planned at pool reasons.Long reasons.NoGain planned_long planned_nogain (inl x) y =
      absurd (no_gain at x.w.one x.w.plan y (x.coded.planned) (x.coded.gains))
  of_planned at pool reasons.Long reasons.NoGain planned_long planned_nogain (inr (inl x)) y =
      absurd (no_gain at x.w.one x.w.plan y (x.coded.planned) (x.coded.gains))
  of_planned at pool reasons.Long reasons.NoGain planned_long planned_nogain (inr (inr x)) y =
      absurd (no_gain at x.w.one x.w.plan y (x.is.coded.planned) (x.is.coded.gains))
  of_planned at pool reasons.Long reasons.Long planned_long planned_long x y = refl
  of_planned at pool reasons.Long reasons.PoolFull planned_long planned_poolfull (inl x) (inl y) = absurd (not_past at pool x.w y (x.coded))
  of_planned at pool reasons.Long reasons.PoolFull planned_long planned_poolfull (inr (inl x)) (inl y) = absurd (not_past at pool x.w y (x.coded))
  of_planned at pool reasons.Long reasons.PoolFull planned_long planned_poolfull (inr (inr x)) (inl y) = absurd (not_past at pool x.w y (x.is.coded))
  of_planned at pool reasons.Long reasons.PoolFull planned_long planned_poolfull (inl x) (inr y) =
      absurd (not_long at pool y.w x (y.coded) (y.framed.fits))
  of_planned at pool reasons.Long reasons.PoolFull planned_long planned_poolfull (inr (inl x)) (inr y) =
      absurd (not_deep at pool y.w y.host x y.coded y.is_host y.framed y.shallow)
  of_planned at pool reasons.Long reasons.PoolFull planned_long planned_poolfull (inr (inr x)) (inr y) = absurd (not_past_frames at pool x.w y x.is)
  of_planned at pool reasons.Long reasons.Rewritten planned_long planned_rewritten (inl x) y =
      absurd (not_long at pool y.0 x (y.1.coded) (y.1.framed.fits))
  of_planned at pool reasons.Long reasons.Rewritten planned_long planned_rewritten (inr (inl x)) y =
      absurd (not_deep at pool y.0 y.1.host x y.1.coded y.1.is_host y.1.framed y.1.shallow)
  of_planned at pool reasons.Long reasons.Rewritten planned_long planned_rewritten (inr (inr x)) y = absurd (not_huge at pool y.0 x y.1)
  of_planned at pool reasons.PoolFull reasons.NoGain planned_poolfull planned_nogain (inl x) y = absurd (no_gain at x.one x.plan y (x.planned) (x.gains))
  of_planned at pool reasons.PoolFull reasons.NoGain planned_poolfull planned_nogain (inr x) y =
      absurd (no_gain at x.w.one x.w.plan y (x.coded.planned) (x.coded.gains))
  of_planned at pool reasons.PoolFull reasons.Long planned_poolfull planned_long (inl x) (inl y) = absurd (not_past at pool y.w x (y.coded))
  of_planned at pool reasons.PoolFull reasons.Long planned_poolfull planned_long (inl x) (inr (inl y)) = absurd (not_past at pool y.w x (y.coded))
  of_planned at pool reasons.PoolFull reasons.Long planned_poolfull planned_long (inl x) (inr (inr y)) = absurd (not_past at pool y.w x (y.is.coded))
  of_planned at pool reasons.PoolFull reasons.Long planned_poolfull planned_long (inr x) (inl y) =
      absurd (not_long at pool x.w y (x.coded) (x.framed.fits))
  of_planned at pool reasons.PoolFull reasons.Long planned_poolfull planned_long (inr x) (inr (inl y)) =
      absurd (not_deep at pool x.w x.host y x.coded x.is_host x.framed x.shallow)
  of_planned at pool reasons.PoolFull reasons.Long planned_poolfull planned_long (inr x) (inr (inr y)) = absurd (not_past_frames at pool y.w x y.is)
  of_planned at pool reasons.PoolFull reasons.PoolFull planned_poolfull planned_poolfull x y = refl
  of_planned at pool reasons.PoolFull reasons.Rewritten planned_poolfull planned_rewritten (inl x) y = absurd (not_past at pool y.0 x (y.1.coded))
  of_planned at pool reasons.PoolFull reasons.Rewritten planned_poolfull planned_rewritten (inr x) y = absurd (not_past_frames at pool y.0 x y.1)
  of_planned at pool reasons.Rewritten reasons.NoGain planned_rewritten planned_nogain x y =
      absurd (no_gain at x.0.one x.0.plan y (x.1.coded.planned) (x.1.coded.gains))
  of_planned at pool reasons.Rewritten reasons.Long planned_rewritten planned_long x (inl y) =
      absurd (not_long at pool x.0 y (x.1.coded) (x.1.framed.fits))
  of_planned at pool reasons.Rewritten reasons.Long planned_rewritten planned_long x (inr (inl y)) =
      absurd (not_deep at pool x.0 x.1.host y x.1.coded x.1.is_host x.1.framed x.1.shallow)
  of_planned at pool reasons.Rewritten reasons.Long planned_rewritten planned_long x (inr (inr y)) = absurd (not_huge at pool x.0 y x.1)
  of_planned at pool reasons.Rewritten reasons.PoolFull planned_rewritten planned_poolfull x (inl y) = absurd (not_past at pool x.0 y (x.1.coded))
  of_planned at pool reasons.Rewritten reasons.PoolFull planned_rewritten planned_poolfull x (inr y) = absurd (not_past_frames at pool x.0 y x.1)
  of_planned at pool reasons.Rewritten reasons.Rewritten planned_rewritten planned_rewritten x y = refl
  of_planned at pool reasons.Host other p q x y = elim p [ ]
  of_planned at pool reasons.Float other p q x y = elim p [ ]
  of_planned at pool reasons.Expanded other p q x y = elim p [ ]
  of_planned at pool reasons.NoSite other p q x y = elim p [ ]
  of_planned at pool reasons.Wide other p q x y = elim p [ ]
  of_planned at pool reasons.NoGain reasons.Host p q x y = elim q [ ]
  of_planned at pool reasons.NoGain reasons.Float p q x y = elim q [ ]
  of_planned at pool reasons.NoGain reasons.Expanded p q x y = elim q [ ]
  of_planned at pool reasons.NoGain reasons.NoSite p q x y = elim q [ ]
  of_planned at pool reasons.NoGain reasons.Wide p q x y = elim q [ ]
  of_planned at pool reasons.Long reasons.Host p q x y = elim q [ ]
  of_planned at pool reasons.Long reasons.Float p q x y = elim q [ ]
  of_planned at pool reasons.Long reasons.Expanded p q x y = elim q [ ]
  of_planned at pool reasons.Long reasons.NoSite p q x y = elim q [ ]
  of_planned at pool reasons.Long reasons.Wide p q x y = elim q [ ]
  of_planned at pool reasons.PoolFull reasons.Host p q x y = elim q [ ]
  of_planned at pool reasons.PoolFull reasons.Float p q x y = elim q [ ]
  of_planned at pool reasons.PoolFull reasons.Expanded p q x y = elim q [ ]
  of_planned at pool reasons.PoolFull reasons.NoSite p q x y = elim q [ ]
  of_planned at pool reasons.PoolFull reasons.Wide p q x y = elim q [ ]
  of_planned at pool reasons.Rewritten reasons.Host p q x y = elim q [ ]
  of_planned at pool reasons.Rewritten reasons.Float p q x y = elim q [ ]
  of_planned at pool reasons.Rewritten reasons.Expanded p q x y = elim q [ ]
  of_planned at pool reasons.Rewritten reasons.NoSite p q x y = elim q [ ]
  of_planned at pool reasons.Rewritten reasons.Wide p q x y = elim q [ ]

  -- A method has one reason, in a pool.
  pub reason_is_one : (at : MethodAt) (pool : Constants) (one other : Reason) → HasReasonIn r at pool one → HasReasonIn r at pool other → one ≡ other
  reason_is_one at pool one other has also =
      by (same_or_planned one other
      (one_reason r.classes r.typed at (known.expanded at) (early one) (early other) (before_plan at pool one has) (before_plan at pool other also))) where
        by : (one ≡ other) ⊎ (HasPlan one × HasPlan other) → one ≡ other
        by (inl same) = same
        by (inr planned) = of_planned at pool one other planned.0 planned.1 has also
