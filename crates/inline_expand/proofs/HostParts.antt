-- Which methods are hosts, and what is answered of them.
use Rattle.std.proofs.Common.{◌≡◌, ◌⊎◌, ◌||◌, ◌<◌, ℕ, zero, suc, Bool, true, false, List, [], ◌∷◌, length, slice_get, Option, Some, None, Result, Ok, Err, IsTrue, refl, sym, ap, subst, ◌∙◌, arith}
use Rattle.std.proofs.lemmas.Bool.{false≢true}
use Rattle.std.proofs.lemmas.Option.{none-some, same_Some}
use Rattle.std.specs.List.{list_any}
use Rattle.class_model.specs.Laws.Lists.{AllByRecursion-weaker}
use Rattle.class_model.specs.declared.class_file.MethodAt.{MethodAt}
use Rattle.class_model.specs.declared.frame.Frame.{Frame}
use Rattle.class_model.specs.declared.instr.Instr.{Instr}
use Rattle.class_model.specs.declared.instr.Instr.TheVariants.{FloatAsk}
use Rattle.class_model.specs.declared.instr.Placed.{Placed}
use Rattle.class_tree.specs.Headers.{Classes}
use Rattle.expanded_code.specs.ExpandAnswers.{AnswersExpanded, HasFloat, IsExpanded, IsNoHost, IsOpenHost, has_no_code, is_initialiser}
use Rattle.expanded_code.specs.Expanded.{expanded, host_setting, points_of}
use Rattle.expanded_code.specs.Expansions.{Coded, Expands, Expansion}
use Rattle.expanded_code.specs.Sites.{HasFrames}
use Rattle.flow_code.specs.FlatCode.{FlatCode}
use Rattle.flow_code.specs.TypedFrames.{FolderFrames, typed_frames_at}
use Rattle.flow_code.specs.declared.reason.KeptFault.{KeptFault}
use Rattle.flow_code.specs.declared.reason.KeptFault.TheVariants as faults
use Rattle.flow_code.specs.declared.reason.Reason.TheVariants as reasons
use Rattle.inline_expand.proofs.ExpandedFlat.{expanded-is-flat}
use Rattle.inline_expand.proofs.ExpandedPoints.{points-length, sites-are-candidates}
use Rattle.inline_expand.proofs.OneExpansion.{coded_once}
use Rattle.member_link.specs.Laws.Scopes.{scope_is_at}
use Rattle.inline_expand.specs.Inner.Growths.{IsHostExpansion, IsWhole}
use Rattle.inline_expand.specs.Inner.Measures.{host_expansion}
use Rattle.inline_expand.specs.Inner.Steps.{IsBody, coded_of}
use Rattle.inline_expand.specs.Inner.TypedMethods.{IsTypedMethod}
use Rattle.inline_expand.specs.Inner.WholeCodes.{AnswersWhole, IsHostFound, IsWholeCode, asks_float}
use Rattle.inline_expand.specs.declared.coded.CodedMethod.{CodedMethod}
use Rattle.inline_expand.specs.declared.expansions.Body.{Body}
use Rattle.inline_expand.specs.declared.expansions.HostBodies.{HostBodies}
use Rattle.member_link.specs.Scope.{Scope, instructions, is_clinit, is_init, scope_at}
use Rattle.type_rules.specs.Verified.{TypesMethod}

-- ---- arithmetic of float and double

asks-one : (instr : Instr) → asks_float instr ≡ true → (opcode : ℕ) × (instr ≡ FloatAsk opcode)
asks-one (FloatAsk opcode) asks = (opcode, refl)
asks-one instr asks = absurd cc

abbrev pub asks : Placed → Bool
asks placed = asks_float placed.instr

pub record Asking (instrs : List Placed) : Type 0 where
  pub number : ℕ
  pub placed : Placed
  pub there : slice_get instrs number ≡ Some placed
  pub opcode : ℕ
  pub is : placed.instr ≡ FloatAsk opcode

asking : (instrs : List Placed) → list_any asks instrs ≡ true → Asking instrs
asking [] any = absurd cc
asking (first ∷ instrs) any = by (asks first) refl any (λ later. asking instrs later) where
  by : (here : Bool) → asks first ≡ here → here || list_any asks instrs ≡ true → (list_any asks instrs ≡ true → Asking instrs) → Asking (first ∷ instrs)
  by true is any others = let one = asks-one first.instr is in record { number = zero; placed = first; there = refl; opcode = one.0; is = one.1 }
  by false is any others = let later = others any in record { number = suc later.number; placed = later.placed; there = later.there; opcode = later.opcode; is = later.is }

none-asks : (instrs : List Placed) → list_any asks instrs ≡ false → (number : ℕ) (placed : Placed) (opcode : ℕ) → slice_get instrs number ≡ Some placed → placed.instr ≡ FloatAsk opcode → ⊥
none-asks [] none number placed opcode there is = none-some placed there
none-asks (first ∷ instrs) none number placed opcode there is = by (asks first) refl none number there (λ later at found. none-asks instrs later at placed opcode found is) where
  by : (here : Bool) → asks first ≡ here → here || list_any asks instrs ≡ false → (number : ℕ) → slice_get (first ∷ instrs) number ≡ Some placed
      → (list_any asks instrs ≡ false → (at : ℕ) → slice_get instrs at ≡ Some placed → ⊥) → ⊥
  by true asked none number there others = absurd cc
  by false asked none zero there others =
      let same = same_Some first placed there in
      false≢true (sym asked ∙ ap (λ (p : Placed). asks p) same ∙ ap asks_float is)
  by false asked none (suc number) there others = others none number there

-- ---- hosts

-- a method without frames has no code
no-code : (classes : Classes) (typed : FolderFrames) (at : MethodAt) → TypesMethod (scope_at classes at) (typed_frames_at typed at)
    → ((s : Scope) (frames : List Frame) → ¬ HasFrames classes typed at s frames) → scope_at classes at ≡ None
no-code classes typed at types none = by (scope_at classes at) (typed_frames_at typed at) refl refl types where
  by : (scope : Option Scope) (frames : Option (List Frame)) → scope_at classes at ≡ scope → typed_frames_at typed at ≡ frames → TypesMethod scope frames → scope_at classes at ≡ None
  by None frames is are types = is
  by (Some s) (Some frames) is are types = absurd (none s frames (record { is_scope = is; are_frames = are }))
  by (Some s) None is are types = elim types [ ]

pub no-host : (classes : Classes) (typed : FolderFrames) (at : MethodAt) → TypesMethod (scope_at classes at) (typed_frames_at typed at)
    → ((s : Scope) (frames : List Frame) → ¬ HasFrames classes typed at s frames) → IsNoHost classes at
no-host classes typed at types none = has_no_code (no-code classes typed at types none)

module _ (classes : Classes) (at : MethodAt) (s : Scope) (is_scope : scope_at classes at ≡ Some s) where
  pub initialises : IsTrue (is_init s) ⊎ IsTrue (is_clinit s) → IsNoHost classes at
  initialises is = is_initialiser s is_scope is

  pub a-host : ¬ (IsTrue (is_init s) ⊎ IsTrue (is_clinit s)) → ¬ IsNoHost classes at
  a-host never (has_no_code none) = none-some s (sym none ∙ is_scope)
  a-host never (is_initialiser scope found is) =
      never (subst (λ (own : Scope). IsTrue (is_init own) ⊎ IsTrue (is_clinit own)) (same_Some scope s (sym found ∙ is_scope)) is)

  pub a-float : list_any asks (instructions s) ≡ true → HasFloat classes at
  a-float any =
      let one = asking (instructions s) any in
      record { scope = s; is_scope = is_scope; number = one.number; placed = one.placed; is = one.there; opcode = one.opcode; float = one.is }

  pub no-float : list_any asks (instructions s) ≡ false → ¬ HasFloat classes at
  no-float none has =
      let same = same_Some has.scope s (sym has.is_scope ∙ is_scope) in
      none-asks (instructions s) none has.number has.placed has.opcode (subst (λ (own : Scope). slice_get (instructions own) has.number ≡ Some has.placed) same has.is) has.float

-- what is answered where it is no open host
pub host-kept : (classes : Classes) (typed : FolderFrames) (at : MethodAt) (fault : KeptFault) → IsHostFound classes typed at (Err fault) → AnswersExpanded classes typed at (Err fault)
host-kept classes typed at (faults.Kept reasons.Host) is = is
host-kept classes typed at (faults.Kept reasons.Float) is = is
host-kept classes typed at (faults.Kept reasons.Expanded) is = elim is [ ]
host-kept classes typed at (faults.Kept reasons.NoSite) is = elim is [ ]
host-kept classes typed at (faults.Kept reasons.Wide) is = elim is [ ]
host-kept classes typed at (faults.Kept reasons.NoGain) is = elim is [ ]
host-kept classes typed at (faults.Kept reasons.Long) is = elim is [ ]
host-kept classes typed at (faults.Kept reasons.PoolFull) is = elim is [ ]
host-kept classes typed at (faults.Kept reasons.Rewritten) is = elim is [ ]
host-kept classes typed at faults.NoMemory is = tt

-- ---- the flat code of a host

module _ (classes : Classes) (typed : FolderFrames)
    (each : (at : MethodAt) (s : Scope) (frames : List Frame) → HasFrames classes typed at s frames → IsTypedMethod s frames)
    (host : MethodAt) where
  -- a host and an expansion of it
  pub record IsHostCode (coded : Coded) (expansion : Expansion) : Type 0 where
    pub own : coded.at ≡ host
    pub frames : HasFrames classes typed coded.at coded.scope coded.frames
    pub expands : Expands classes typed coded.at [] coded.at (instructions coded.scope) expansion

  code-length : (coded : Coded) (expansion : Expansion) → IsHostCode coded expansion → length (expanded coded expansion).points ≡ points_of None (instructions coded.scope) expansion
  code-length coded expansion is =
      points-length classes typed coded.at each [] coded.at (instructions coded.scope) expansion is.expands (host_setting coded expansion) 0 coded.scope.part.max_locals coded.frames (each coded.at coded.scope coded.frames is.frames).one_each

  -- what is expanded of a host is so
  of-expanded : (flat : FlatCode) (is : IsExpanded classes typed host flat) → IsHostCode is.host is.expansion
  of-expanded flat is = record {
    own = is.own;
    frames = subst (λ (m : MethodAt). HasFrames classes typed m is.host.scope is.host.frames) (sym is.own) is.is_host;
    expands = subst (λ (m : MethodAt). Expands classes typed m [] m (instructions is.host.scope) is.expansion) (sym is.own) is.expands;
  }

  module _ (coded : Coded) (own : coded.at ≡ host) (frames : HasFrames classes typed coded.at coded.scope coded.frames) where
    same-host : (other : Coded) → other.at ≡ host → HasFrames classes typed other.at other.scope other.frames → other ≡ coded
    same-host other same is = coded_once other coded (same ∙ sym own) is frames

    -- where each expansion has more points than so many
    pub too-long : (most : ℕ) → ((expansion : Expansion) → Expands classes typed coded.at [] coded.at (instructions coded.scope) expansion → most < points_of None (instructions coded.scope) expansion)
        → (flat : FlatCode) → IsExpanded classes typed host flat → most < length flat.points
    too-long most long flat is =
        let code = of-expanded flat is in
        let same = same-host is.host is.own code.frames in
        let here = subst (λ (c : Coded). Expands classes typed c.at [] c.at (instructions c.scope) is.expansion) same code.expands in
        let points = ap (λ (f : FlatCode). length f.points) is.is ∙ code-length is.host is.expansion code ∙ ap (λ (c : Coded). points_of None (instructions c.scope) is.expansion) same in
        omega (arith, long is.expansion here, points)

    module _ (expansion : Expansion) (expands : Expands classes typed coded.at [] coded.at (instructions coded.scope) expansion) where
      pub its-code : IsHostCode coded expansion
      its-code = record { own = own; frames = frames; expands = expands }

      pub is-expanded : IsExpanded classes typed host (expanded coded expansion)
      is-expanded = record {
        host = coded;
        own = own;
        is_host = subst (λ (m : MethodAt). HasFrames classes typed m coded.scope coded.frames) own frames;
        expansion = expansion;
        expands = subst (λ (m : MethodAt). Expands classes typed m [] m (instructions coded.scope) expansion) own expands;
        is = refl;
      }

      pub whole-answers : (result : Result FlatCode KeptFault) → IsOpenHost classes host → AnswersWhole (expanded coded expansion) result → AnswersExpanded classes typed host result
      whole-answers (Ok flat) open_ w = subst (λ (f : FlatCode). AnswersExpanded classes typed host (Ok f)) (sym w.0) (open_, is-expanded, w.1, w.2, w.3)
      whole-answers (Err (faults.Kept reasons.Host)) open_ w = elim w [ ]
      whole-answers (Err (faults.Kept reasons.Float)) open_ w = elim w [ ]
      whole-answers (Err (faults.Kept reasons.Expanded)) open_ w = (open_, expanded coded expansion, is-expanded, w)
      whole-answers (Err (faults.Kept reasons.NoSite)) open_ w = (open_, expanded coded expansion, is-expanded, w.0, w.1)
      whole-answers (Err (faults.Kept reasons.Wide)) open_ w = (open_, expanded coded expansion, is-expanded, w.0, w.1, w.2)
      whole-answers (Err (faults.Kept reasons.NoGain)) open_ w = elim w [ ]
      whole-answers (Err (faults.Kept reasons.Long)) open_ w = elim w [ ]
      whole-answers (Err (faults.Kept reasons.PoolFull)) open_ w = elim w [ ]
      whole-answers (Err (faults.Kept reasons.Rewritten)) open_ w = elim w [ ]
      whole-answers (Err faults.NoMemory) open_ w = tt

  -- ---- as its bodies are kept

  whole-body : (body : Body) → IsWhole classes typed body → IsBody body
  whole-body body is =
      let method = each body.at body.host body.frames.now is.stands in
      record { typed = method.typed; one_each = method.one_each; long = method.long; steps = is.steps; units = method.units; callable = method.callable }

  module _ (method : CodedMethod) (bodies : HostBodies) (found : IsHostExpansion classes typed method bodies) where
    abbrev its-expansion : Expansion
    its-expansion = host_expansion bodies.callees.items bodies.body

    pub body-expands : Expands classes typed bodies.body.at [] bodies.body.at (instructions bodies.body.host) its-expansion
    body-expands = subst (λ (c : Coded). Expands classes typed c.at [] c.at (instructions c.scope) its-expansion) (sym found.coded) found.expands

    pub whole-code : bodies.body.at ≡ host → IsWholeCode classes bodies
    whole-code own =
        let code = its-code (coded_of bodies.body) own found.whole.stands its-expansion body-expands in
        record {
          headers = (scope_is_at classes bodies.body.at bodies.body.host found.whole.stands.is_scope).headers;
          host = whole-body bodies.body found.whole;
          callees = AllByRecursion-weaker (IsWhole classes typed) IsBody whole-body bodies.callees.items found.callees;
          flat = expanded-is-flat classes typed each (coded_of bodies.body) its-expansion found.whole.stands body-expands;
          long = code-length (coded_of bodies.body) its-expansion code;
          sites = sites-are-candidates classes typed bodies.body.at each bodies.body.host.headers [] bodies.body.at (instructions bodies.body.host) its-expansion body-expands None 0;
        }
