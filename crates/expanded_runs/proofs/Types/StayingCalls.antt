-- Special calls that stay in flat code: an initialiser is called on the object of no candidate site, but that of java/lang/Object on the object
-- of an initialiser that is a callee.
use Rattle.flow_code.specs.ReadTypes.{class_of_site, is_site_object}
use Rattle.std.proofs.Common.{◌≡◌, ◌≢◌, ◌==◌, ◌+◌, ℕ, Bool, true, false, List, ◌∷◌, bytes_eq, length, slice_get, Option, Some, None, option_map, IsSome, IsTrue, refl, sym, ap, subst, ◌∙◌}
use Rattle.std.proofs.lemmas.Bool.{eqb-true, false≢true}
use Rattle.std.proofs.lemmas.Option.{same_Some}
use Rattle.std.proofs.lemmas.Slice.Eq.{bytes_eq-Decides}
use Rattle.class_model.specs.Descriptors.{parameters_of}
use Rattle.class_model.specs.Names.{init}
use Rattle.class_model.specs.declared.class_file.MethodAt.{MethodAt}
use Rattle.class_model.specs.declared.frame.Frame.{Frame}
use Rattle.class_model.specs.declared.frame.VType.{VType}
use Rattle.class_model.specs.declared.frame.VType.TheVariants as types
use Rattle.class_model.specs.declared.instr.Instr.TheVariants.{Invoke, New}
use Rattle.class_model.specs.declared.instr.Placed.{Placed}
use Rattle.class_model.specs.declared.opcodes.TheConstants.{INVOKESPECIAL}
use Rattle.class_tree.specs.Headers.{Classes, Name}
use Rattle.class_tree.specs.Names.{object}
use Rattle.expanded_code.specs.Alone.{number_in}
use Rattle.expanded_code.specs.Callees.{InitialisesAt, IsCall, IsCallee}
use Rattle.expanded_code.specs.Expanded.{expanded}
use Rattle.expanded_code.specs.Expansions.{Coded, Expansion}
use Rattle.expanded_code.specs.Laws.Instructions.{calls_of}
use Rattle.expanded_code.specs.Sites.{Constructs, HasFrames, IsReplaced, IsSite, constructs}
use Rattle.expanded_runs.proofs.Runs.CallLaws.{CallLaws}
use Rattle.expanded_runs.proofs.Runs.CallTargets.{placed_is}
use Rattle.expanded_runs.proofs.Runs.CalleeLaws.{site_makes, typed_here}
use Rattle.expanded_runs.proofs.Runs.FlatCodes.{own_point, point_before}
use Rattle.expanded_runs.proofs.Runs.Positions.{Becomes, Standing, becomes, frames_of, instrs_of, scope_of, start_of}
use Rattle.expanded_runs.proofs.Runs.Setup.{IsSetup, Setup, before}
use Rattle.expanded_runs.proofs.Runs.StandingLaws.{BecomesAs, becomes_as, it_is_replaced, it_makes_site, it_remains}
use Rattle.expanded_runs.proofs.Runs.Standings.{IsStanding, Stands, callee_stands, host_stands}
use Rattle.expanded_runs.proofs.Types.FlatParts.{IsOwn}
use Rattle.expanded_runs.proofs.Types.FlatRows.{named_by}
use Rattle.expanded_runs.proofs.Types.FrameFacts.{FrameFacts}
use Rattle.expanded_runs.proofs.Types.InitCallees.{one_callee, one_object}
use Rattle.expanded_runs.proofs.Types.ObjectsApart.{of_lowest}
use Rattle.expanded_runs.proofs.Types.OwnPoints.{TypingLaws}
use Rattle.expanded_runs.proofs.Types.SiteObjects.{call, init_row_at, initialises as callee_initialises, row_of_callee, there}
use Rattle.expanded_runs.proofs.Types.SitesThere.{is_own, made_by, own_true, site_here}
use Rattle.expanded_runs.proofs.Types.StandingPlaces.{host_scope_is, new_at, new_is_own, number_of_instr, start_number}
use Rattle.expanded_runs.proofs.Types.ThisWithin.{NoThisStanding}
use Rattle.flow_code.specs.TypedFrames.{FolderFrames, typed_frames_at}
use Rattle.member_link.specs.BodyTyping.{RowHolds}
use Rattle.member_link.specs.Machine.CallSteps.{is_object_init}
use Rattle.member_link.specs.Machine.Codes.{call_op, instr_op, or_meaningless, special_start}
use Rattle.member_link.specs.Machine.Ops.{call_special}
use Rattle.member_link.specs.Machine.Programs.{point_at}
use Rattle.member_link.specs.References.{Reference}
use Rattle.member_link.specs.Rows.MemberRows.{MayInitialise, init_row, receiver}
use Rattle.member_link.specs.Scope.{Scope, is_init, row_scope, scope_at}
use Rattle.member_link.specs.Signatures.{result_of}
use Rattle.typed_runs.specs.LinkedCalls.{IsLinkedCall}

-- ---- constructed objects

-- scopes and frames of a method are one
in_frames : {classes : Classes} {typed : FolderFrames} {from : MethodAt} {s other : Scope} {frames others : List Frame}
    (P : Scope → List Frame → Type 0)
    → HasFrames classes typed from s frames
    → HasFrames classes typed from other others
    → P s frames → P other others
in_frames {s = s} {other = other} {frames = frames} {others = others} P one two is =
    let scope : s ≡ other = same_Some s other (sym one.is_scope ∙ two.is_scope) in
    let same : frames ≡ others = same_Some frames others (sym one.are_frames ∙ two.are_frames) in
    subst (λ (x : Scope). P x others) scope (subst (P s) same is)

-- a call on the object of a site is of an initialiser that constructs
site_constructs : {classes : Classes} {typed : FolderFrames} {host : MethodAt} {chain : List MethodAt} {from : MethodAt} {new : ℕ} {class : Name}
    {s : Scope} {frames : List Frame}
    → IsSite classes typed host chain from new class
    → HasFrames classes typed from s frames
    → (at : ℕ) (r : Reference) → InitialisesAt s frames at (types.Uninit new) r
    → Constructs classes typed host chain from at
site_constructs {new = new} site has at r initialises =
    site.constructed at r
    (in_frames (λ (x : Scope). λ (all : List Frame). InitialisesAt x all at (types.Uninit new) r) has site.is initialises)

abbrev OfSite : Classes → FolderFrames → MethodAt → List MethodAt → MethodAt → ℕ → Type 0
OfSite classes typed host chain from at =
    (scope : Scope) (frames : List Frame) (new : ℕ) (reference : Reference)
    → HasFrames classes typed from scope frames
    → InitialisesAt scope frames at (types.Uninit new) reference
    → (class : Name) × IsSite classes typed host chain from new class

abbrev OfThis : Classes → FolderFrames → MethodAt → List MethodAt → MethodAt → ℕ → Type 0
OfThis classes typed host chain from at =
    (scope : Scope) (frames : List Frame) (reference : Reference)
    → HasFrames classes typed from scope frames
    → InitialisesAt scope frames at types.UninitThis reference
    → IsTrue (is_init scope) × Constructs classes typed host chain from at

-- what constructs is replaced
replaced_so : {classes : Classes} {typed : FolderFrames} {host : MethodAt} {chain : List MethodAt} {from : MethodAt} {at : ℕ}
    → Constructs classes typed host chain from at
    → OfSite classes typed host chain from at
    → OfThis classes typed host chain from at
    → (callee : MethodAt) × IsReplaced classes typed host chain from at callee
replaced_so (constructs chain from at callee scope frames callee_is follows has within) of_site of_this =
    (callee, record { is_callee = callee_is; follows = follows; of_site = of_site; of_this = of_this })

-- and so does each call on its own object, but that of java/lang/Object
inner_constructs : {classes : Classes} {typed : FolderFrames} {host : MethodAt} {chain : List MethodAt} {from : MethodAt} {at : ℕ}
    → Constructs classes typed host chain from at
    → (g : Coded) → HasFrames classes typed g.at g.scope g.frames
    → ((callee : MethodAt) (scope : Scope) → IsCallee classes typed host.class from at callee → scope_at classes callee ≡ Some scope → callee ≡ g.at)
    → (within : ℕ) (r : Reference) → is_init g.scope ≡ true → InitialisesAt g.scope g.frames within types.UninitThis r → r.class ≢ object
    → Constructs classes typed host (g.at ∷ chain) g.at within
inner_constructs {classes} {typed} {host} (constructs chain from at callee scope frames callee_is follows has on_this) g has_own one within r
    own initialises other =
    let same : callee ≡ g.at = one callee scope callee_is has.is_scope in
    let scopes : g.scope ≡ scope = same_Some g.scope scope (sym has_own.is_scope ∙ ap (scope_at classes) (sym same) ∙ has.is_scope) in
    let all : g.frames ≡ frames =
    same_Some g.frames frames (sym has_own.are_frames ∙ ap (typed_frames_at typed) (sym same) ∙ has.are_frames) in
    let there : InitialisesAt scope frames within types.UninitThis r =
    subst (λ (x : Scope). InitialisesAt x frames within types.UninitThis r) scopes
    (subst (λ (f : List Frame). InitialisesAt g.scope f within types.UninitThis r) all initialises) in
    subst (λ (c : MethodAt). Constructs classes typed host (c ∷ chain) c within) same (on_this within r (ap is_init (sym scopes) ∙ own) there other)

module _ (u : Setup) (is_setup : IsSetup u) (call_laws : CallLaws) (laws : TypingLaws) (facts : FrameFacts u.classes u.typed)
    (host : Coded) (e : Expansion)
    (stands : (chain : List MethodAt) (p : Standing) → IsStanding host e chain p → Stands u.classes u.typed host e chain p)
    (s : Scope) (is_host : scope_at u.classes host.at ≡ Some s) (no_init : is_init s ≡ false) (outside : NoThisStanding host e) where
  host_none : is_init host.scope ≡ false
  host_none = ap is_init (host_scope_is laws host e stands s is_host) ∙ no_init

  -- the object of a candidate site is that of a callee alone
  callee_of_site : {chain : List MethodAt} {p : Standing} → IsStanding host e chain p → is_site_object (expanded host e) p.setting.this ≡ true
      → IsSome p.setting.behind
  callee_of_site host_stands site = absurd cc
  callee_of_site (callee_stands k placed frame g inner below at) site = refl

  -- an initialiser that is a callee constructs by each call on its own object
  own_constructs : {chain : List MethodAt} {p : Standing} → IsStanding host e chain p → is_init (scope_of p) ≡ true
      → (within : ℕ) (r : Reference) → InitialisesAt (scope_of p) (frames_of p) within types.UninitThis r → r.class ≢ object
      → Constructs u.classes u.typed host.at chain p.setting.coded.at within
  own_constructs host_stands is within r initialises other = let none = host_none in absurd cc
  own_constructs (callee_stands {chain = chain} {p = p} k placed frame g inner below at) is within r initialises other =
      let known = there u is_setup call_laws laws facts host e stands s is_host no_init below k placed frame g inner at is in
      let init_call = call u is_setup call_laws laws facts host e stands s is_host no_init below k placed frame g inner at is in
      let row = row_of_callee u is_setup call_laws laws facts host e stands s is_host no_init below k placed frame g inner at is in
      inner_constructs (by (receiver frame init_call.reference.desc) refl row.further) g known.callee (λ callee scope is_callee has_scope.
      one_callee u is_setup call_laws p.setting.coded.at (scope_of p) known.caller.is_scope init_call.is_call init_call.of_init callee g.at scope g.scope
      (calls_of is_callee known.caller.is_scope) has_scope known.calls known.callee.is_scope) within r is initialises other
    where
      by : (object : VType)
          → receiver frame (call u is_setup call_laws laws facts host e stands s is_host no_init below k placed frame g inner at is).reference.desc
          ≡ object
          → MayInitialise (row_scope (scope_of p))
          (call u is_setup call_laws laws facts host e stands s is_host no_init below k placed frame g inner at is).reference object
          → Constructs u.classes u.typed host.at chain p.setting.coded.at placed.at
      by (types.Uninit new) on may =
          let known = there u is_setup call_laws laws facts host e stands s is_host no_init below k placed frame g inner at is in
          let init_call = call u is_setup call_laws laws facts host e stands s is_host no_init below k placed frame g inner at is in
          let initialises = callee_initialises u is_setup call_laws laws facts host e stands s is_host no_init below k placed frame g inner at is
          (types.Uninit new) on in
          let site = known.replaced.of_site (scope_of p) (frames_of p) new init_call.reference known.caller initialises in
          site_constructs site.1 known.caller placed.at init_call.reference initialises
      by types.UninitThis on may =
          let known = there u is_setup call_laws laws facts host e stands s is_host no_init below k placed frame g inner at is in
          let init_call = call u is_setup call_laws laws facts host e stands s is_host no_init below k placed frame g inner at is in
          let initialises = callee_initialises u is_setup call_laws laws facts host e stands s is_host no_init below k placed frame g inner at is
          types.UninitThis on in
          (known.replaced.of_this (scope_of p) (frames_of p) init_call.reference known.caller initialises).1
      by other on may = absurd may

  module _ {chain : List MethodAt} {p : Standing} (standing : IsStanding host e chain p) (k : ℕ) (placed : Placed) (frame : Frame)
      (is : slice_get (instrs_of p) k ≡ Some placed) (has : slice_get (frames_of p) k ≡ Some frame) (own : IsOwn (becomes p.expansion k))
      (opcode index count : ℕ) (instr : placed.instr ≡ Invoke opcode index count) where
    known_stands : Stands u.classes u.typed host e chain p
    known_stands = stands chain p standing

    not_replaced : (callee : MethodAt) → ¬ IsReplaced u.classes u.typed host.at chain p.setting.coded.at placed.at callee
    not_replaced callee replaced =
        by (becomes p.expansion k) (own_true (becomes p.expansion k) own)
        (becomes_as chain p.setting.coded.at (instrs_of p) p.expansion known_stands.expands k placed is) where
          by : (b : Becomes) → is_own b ≡ true → BecomesAs u.classes u.typed host.at chain p.setting.coded.at placed.at b → ⊥
          by _ stays (it_remains no_call no_site) = no_call callee replaced
          by _ stays (it_makes_site {class = class} makes) =
              let new = new_at (scope_of p) placed.at class (site_makes u (scope_of p) known_stands.has.is_scope makes) in
              let one = number_of_instr laws host e stands s is_host standing new.number new.placed new.is in
              let two = number_of_instr laws host e stands s is_host standing k placed is in
              let number : new.number ≡ k = sym one ∙ ap (number_in (instrs_of p)) new.offset ∙ two in
              let same : new.placed ≡ placed =
              same_Some new.placed placed (sym new.is ∙ ap (slice_get (instrs_of p)) number ∙ is) in
              let equal : New new.index ≡ Invoke opcode index count =
              sym new.instr ∙ ap (λ (x : Placed). x.instr) same ∙ instr in
              absurd cc
          by _ stays (it_is_replaced call has within) = absurd cc

    module _ (special : (opcode == INVOKESPECIAL) ≡ true) (r : Reference) (named : named_by p.setting index ≡ Some r) where
      opcode_is : opcode ≡ INVOKESPECIAL
      opcode_is = eqb-true opcode INVOKESPECIAL special

      is_call : IsCall (scope_of p) placed.at INVOKESPECIAL r
      is_call = record {
        index = index;
        count = count;
        is =
            ap (option_map (λ (x : Placed). x.instr)) (placed_is call_laws.consecutive (scope_of p) k placed is)
            ∙ ap Some (instr ∙ ap (λ (o : ℕ). Invoke o index count) opcode_is);
        names = named;
      }

      initialises : bytes_eq r.name init ≡ true → (object : VType) → receiver frame r.desc ≡ object
          → InitialisesAt (scope_of p) (frames_of p) placed.at object r
      initialises is_init receives on = record {
        is_call = is_call;
        of_init = (bytes_eq-Decides r.name init).0 is_init;
        frame = frame;
        before = ap (slice_get (frames_of p)) (number_of_instr laws host e stands s is_host standing k placed is) ∙ has;
        on = on;
      }

      row : bytes_eq r.name init ≡ true → RowHolds (row_scope (scope_of p)) frame (init_row (row_scope (scope_of p)) frame r)
      row is_init =
          init_row_at u is_setup call_laws laws facts host e stands s is_host no_init standing k placed frame is has opcode index count instr special r
          named is_init

      -- ---- on a new

      no_construct_of_new : (is_init : bytes_eq r.name init ≡ true) (new : ℕ) → receiver frame r.desc ≡ types.Uninit new
          → (class : Name) → IsSite u.classes u.typed host.at chain p.setting.coded.at new class → ⊥
      no_construct_of_new is_init new on class site =
          let here = initialises is_init (types.Uninit new) on in
          let found = replaced_so (site_constructs site known_stands.has placed.at r here)
          (λ scope frames other reference has_other there.
          let own_there = in_frames (λ (x : Scope). λ (all : List Frame). InitialisesAt x all placed.at (types.Uninit other) reference) has_other
          known_stands.has there in
          let same : types.Uninit new ≡ types.Uninit other = one_object (scope_of p) (frames_of p) placed.at here own_there in
          let number : new ≡ other = cc in
          (class, subst (λ (n : ℕ). IsSite u.classes u.typed host.at chain p.setting.coded.at n class) number site))
          (λ scope frames reference has_other there.
          let own_there = in_frames (λ (x : Scope). λ (all : List Frame). InitialisesAt x all placed.at types.UninitThis reference) has_other
          known_stands.has there in
          let same : types.Uninit new ≡ types.UninitThis = one_object (scope_of p) (frames_of p) placed.at here own_there in
          absurd cc) in
          not_replaced found.0 found.1

      pub on_new : bytes_eq r.name init ≡ true → (new : ℕ) → receiver frame r.desc ≡ types.Uninit new
          → class_of_site (expanded host e).sites (p.setting.number new) ≡ None
      on_new is_init new on =
          let may : MayInitialise (row_scope (scope_of p)) r (types.Uninit new) =
          subst (MayInitialise (row_scope (scope_of p)) r) on (row is_init).further in
          let made = new_at (scope_of p) new r.class may in
          let stays = new_is_own laws host e stands s is_host standing made.number made.placed made.index made.is made.instr in
          let number : p.setting.number new ≡ start_of p made.number =
          ap p.setting.number (sym made.offset) ∙ start_number laws host e stands s is_host standing made.number made.placed made.is in
          ap (class_of_site (expanded host e).sites) number
          ∙ site_here host e standing made.number made.placed made.is stays
          ∙ by (becomes p.expansion made.number) (own_true (becomes p.expansion made.number) stays)
          (subst (λ (at : ℕ). BecomesAs u.classes u.typed host.at chain p.setting.coded.at at (becomes p.expansion made.number)) made.offset
          (becomes_as chain p.setting.coded.at (instrs_of p) p.expansion known_stands.expands made.number made.placed made.is)) where
            by : (b : Becomes) → is_own b ≡ true → BecomesAs u.classes u.typed host.at chain p.setting.coded.at new b → made_by b ≡ None
            by _ stays (it_remains no_call no_site) = refl
            by _ stays (it_makes_site {class = class} site) = absurd (no_construct_of_new is_init new on class site)
            by _ stays (it_is_replaced call has within) = absurd cc

      -- ---- on this

      no_construct_of_this : bytes_eq r.name init ≡ true → receiver frame r.desc ≡ types.UninitThis → is_init (scope_of p) ≡ true → r.class ≢ object → ⊥
      no_construct_of_this named_init on own_init other =
          let here = initialises named_init types.UninitThis on in
          let found = own_constructs standing own_init placed.at r here other in
          let so = replaced_so found
          (λ scope frames new reference has_other there.
          let own_there = in_frames (λ (x : Scope). λ (all : List Frame). InitialisesAt x all placed.at (types.Uninit new) reference) has_other
          known_stands.has there in
          let same : types.UninitThis ≡ types.Uninit new = one_object (scope_of p) (frames_of p) placed.at here own_there in
          absurd cc)
          (λ scope frames reference has_other there.
          (in_frames (λ (x : Scope). λ (all : List Frame). IsTrue (is_init x)) known_stands.has has_other own_init, found)) in
          not_replaced so.0 so.1

      -- in a callee that is no initialiser there is none
      no_this_here : IsSome p.setting.behind → is_init (scope_of p) ≡ false → receiver frame r.desc ≢ types.UninitThis
      no_this_here callee none =
          of_lowest (λ (type : VType). type ≢ types.UninitThis) (λ same. absurd cc) (length (parameters_of r.desc) + 1) frame.stack
          (outside chain p standing callee none k frame has).1

      pub on_this : bytes_eq r.name init ≡ true → receiver frame r.desc ≡ types.UninitThis
          → is_site_object (expanded host e) p.setting.this ≡ true
          → is_object_init r ≡ true
      on_this named_init on site = by (bytes_eq r.class object) refl (is_init (scope_of p)) refl where
        by : (same : Bool) → bytes_eq r.class object ≡ same → (initialiser : Bool) → is_init (scope_of p) ≡ initialiser → is_object_init r ≡ true
        by true same initialiser own_is = rw (same, named_init) refl
        by false other false own_is = absurd (no_this_here (callee_of_site standing site) own_is on)
        by false other true own_is =
            absurd (no_construct_of_this named_init on own_is
            (λ class. false≢true (sym other ∙ (bytes_eq-Decides r.class object).1 class)))

      -- ---- results

      pub no_result : bytes_eq r.name init ≡ true → result_of r.desc ≡ None
      no_result named_init =
          let at = p.setting.coded.at in
          let point = own_point u.links (scope_of p) placed in
          let scope = known_stands.has.is_scope in
          let here : point_at (before u) at k ≡ Some point =
          point_before u is_setup at (scope_of p) scope k ∙ ap (option_map (own_point u.links (scope_of p))) is in
          let typed = typed_here u is_setup at (scope_of p) scope k point here in
          let called : point.op ≡ call_op u.links (row_scope (scope_of p)) opcode r =
          ap (instr_op u.links (number_in (instrs_of p)) (row_scope (scope_of p))) instr
          ∙ ap (λ (found : Option Reference). or_meaningless (option_map (call_op u.links (row_scope (scope_of p)) opcode) found)) named in
          let op : point.op ≡ call_special r (special_start u.links (row_scope (scope_of p)) r.class) =
          called ∙ ap (λ (n : ℕ). call_op u.links (row_scope (scope_of p)) n r) opcode_is in
          let linked = subst (IsLinkedCall (before u) typed.scope) op typed.call in
          linked.void ((bytes_eq-Decides r.name init).0 named_init)
