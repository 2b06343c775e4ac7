-- What becomes of a method of a folder: what is written of it by its least plan, in a constant pool as the methods of its class before it leave it. It
-- is this project's profile.
use Rattle.std.specs.Prelude.{◌≡◌, ◌⊎◌, ◌<◌, ◌≤◌, ◌^◌, ℕ, nat_le, List, [], length, Option, Some, None, Ok, if◌then◌else◌}
use Rattle.class_model.specs.Pool.{Constants}
use Rattle.class_model.specs.Spelling.{code_part_bytes}
use Rattle.class_model.specs.declared.class_file.CodePart.{CodePart}
use Rattle.class_model.specs.declared.class_file.MethodAt.{MethodAt}
use Rattle.class_model.specs.declared.frame.Frame.{Frame}
use Rattle.class_rewrite.specs.Reasons.{IsNotExpanded}
use Rattle.class_tree.specs.Headers.{Name, Classes}
use Rattle.code_layout.specs.Layout.{end_from, short_spelled, start_in, table_len}
use Rattle.code_layout.specs.PlainItems.{plain_items}
use Rattle.code_layout.specs.declared.emitted.EmitItem.{EmitItem}
use Rattle.code_layout.specs.declared.laid.Laid.{Laid}
use Rattle.expanded_code.specs.ExpandAnswers.{AnswersExpanded}
use Rattle.flow_code.specs.TypedFrames.{FolderFrames}
use Rattle.flow_code.specs.WrittenUnits.{written_units}
use Rattle.flow_code.specs.declared.reason.Reason.{Reason}
use Rattle.flow_code.specs.declared.reason.Reason.TheVariants as reasons
use Rattle.making_code.specs.Items.{WItem}
use Rattle.member_link.specs.Bodies.{Body}
use Rattle.member_link.specs.Machine.Programs.{Links}
use Rattle.member_link.specs.Scope.{Scope, scope_at}
use Rattle.plan_flow.specs.Gain.{Gains}
use Rattle.plan_flow.specs.Plans.{IsLeast, Plan}
use Rattle.plan_flow.specs.Written.FramedCode.{IsFramed, body_of_items, greatest_of}
use Rattle.plan_flow.specs.Written.Routes.{IsRouted}
use Rattle.plan_flow.specs.Written.WrittenCode.{Form, short, wide, written_items}
use Rattle.plan_flow.specs.Written.WrittenConstants.{code_pool, indexed_items}
use Rattle.stackmap_emit.specs.FrameConstants.{frames_pool}
use Rattle.stackmap_emit.specs.FramesAttribute.{IsFramesAttribute}
use Rattle.stackmap_emit.specs.PlacedFrames.{IsLaidIn, placed_frames, spelled_in, stated_from}
use Rattle.plan_flow.specs.Written.WrittenPrograms.{WrittenMethod, finished_of, plan_scope}

-- what becoming of methods goes by: the folder with its frames and links, and the descriptors of field constructors
pub record Rewriting : Type 0 where
  pub classes : Classes
  pub typed : FolderFrames
  pub links : Links
  pub constructor : Name → List ℕ

abbrev pub rewriting_of : Classes → FolderFrames → Links → (Name → List ℕ) → Rewriting
rewriting_of classes typed links constructor = record {
  classes = classes;
  typed = typed;
  links = links;
  constructor = constructor;
}

-- ---- the least plan

-- The method has a flat code with its callees, and this is its least plan.
pub record IsPlanned (r : Rewriting) (at : MethodAt) (one : WrittenMethod) (plan : Plan) : Type 0 where
  pub flat : AnswersExpanded r.classes r.typed at (Ok one.flat)
  pub least : IsLeast (plan_scope r.classes r.links one) plan
  pub routed : IsRouted (plan_scope r.classes r.links one) plan one.routes

-- ---- the form

-- its items in the short form; those of the wide one need the same constants
abbrev pub short_items : Rewriting → WrittenMethod → List WItem
short_items r one = written_items short (finished_of r.classes r.links one)

-- the items of a written method in a pool, in a form, are emitted as these
abbrev pub AreItems : Rewriting → WrittenMethod → Form → Constants → List EmitItem → Type 0
AreItems r one form pool items =
    plain_items items
    ≡ indexed_items (plan_scope r.classes r.links one) r.constructor pool form
    (finished_of r.classes r.links one)

-- the short form is chosen where it has at most 32,767 bytes
pub record IsChosen (r : Rewriting) (one : WrittenMethod) (pool : Constants) : Type 0 where
  pub items : List EmitItem
  pub are_items : AreItems r one short pool items
  pub form : one.form ≡ (if nat_le (end_from short_spelled 0 items) 32767 then short else wide)

-- the chosen form has more than 65,535 bytes, or the exception table more than 65,535 entries
abbrev pub IsTooLong : Form → List EmitItem → Type 0
IsTooLong form items = (65535 < end_from (spelled_in form) 0 items) ⊎ (65535 < table_len items)

-- ---- the written code

-- What is written of a method: by its flat code and its least plan, its items and frames, and the pool that it leaves.
pub record Rewritten : Type 0 where
  pub one : WrittenMethod
  pub plan : Plan
  pub code_pool : Constants
  pub items : List EmitItem
  pub laid : Laid
  pub body : Body
  pub frames : List Frame
  pub stated : List (Option Frame)
  pub pool : Constants
  pub part : CodePart

-- its code, by the constants that the pool has then
pub record IsCoded (r : Rewriting) (at : MethodAt) (pool : Constants) (w : Rewritten) : Type 0 where
  pub planned : IsPlanned r at w.one w.plan
  pub gains : Gains (plan_scope r.classes r.links w.one) w.plan
  pub grows : code_pool (plan_scope r.classes r.links w.one) r.constructor
      (short_items r w.one) pool ≡ Some w.code_pool
  pub chosen : IsChosen r w.one w.code_pool
  pub items : AreItems r w.one w.one.form w.code_pool w.items

-- and laid out, with its frames, which do not depend on how deep the stack may be
pub record IsFramedIn (r : Rewriting) (host : Scope) (w : Rewritten) : Type 0 where
  pub fits : ¬ IsTooLong w.one.form w.items
  pub laid : IsLaidIn w.one.form w.items w.laid
  pub state : ℕ → Option Frame
  pub body : w.body
      ≡ body_of_items host w.one.flat w.code_pool 0 (plain_items w.items) state
  pub framed : IsFramed w.one.flat w.one.form (finished_of r.classes r.links w.one)
      (plain_items w.items) w.body w.frames
  pub stated : w.stated ≡ stated_from w.body.stated 0 w.items

-- the stack is not as deep as a method may say, and so it is told how deep it is
abbrev pub IsShallow : Rewritten → Type 0
IsShallow w = greatest_of w.body.points w.frames < 65535

-- The whole, where the number of the bytes of its Code is as is asked.
pub record IsWholeCode (asked : ℕ → Type 0) (r : Rewriting) (at : MethodAt) (pool : Constants)
    (w : Rewritten)
    : Type 0 where
  pub coded : IsCoded r at pool w
  pub host : Scope
  pub is_host : scope_at r.classes at ≡ Some host
  pub framed : IsFramedIn r host w
  pub shallow : IsShallow w
  pub grows : frames_pool host.class.major w.stated w.code_pool ≡ Some w.pool
  pub max_stack : w.part.max_stack ≡ greatest_of w.body.points w.frames
  pub max_locals : w.part.max_locals ≡ written_units w.one.flat
  pub code : w.part.code ≡ w.laid.code
  pub handlers : w.part.handlers ≡ w.laid.handlers
  pub attrs : IsFramesAttribute w.pool w.body.entry
      (if nat_le 50 host.class.major then placed_frames (start_in w.laid.starts) 0 w.stated else [])
      w.part.attrs
  pub short : asked (length (code_part_bytes w.part))

-- a class file gives the length of an attribute in four bytes
abbrev pub IsRewritten : Rewriting → MethodAt → Constants → Rewritten → Type 0
IsRewritten r at pool w = IsWholeCode (λ bytes. bytes < 2 ^ 32) r at pool w

-- ---- reasons

-- the least plan has no gain
pub record GainsNothing (r : Rewriting) (at : MethodAt) : Type 0 where
  pub one : WrittenMethod
  pub plan : Plan
  pub planned : IsPlanned r at one plan
  pub none : ¬ Gains (plan_scope r.classes r.links one) plan

-- there is no room for the constants of its code
pub record CodeIsPast (r : Rewriting) (at : MethodAt) (pool : Constants) : Type 0 where
  pub one : WrittenMethod
  pub plan : Plan
  pub planned : IsPlanned r at one plan
  pub gains : Gains (plan_scope r.classes r.links one) plan
  pub past : code_pool (plan_scope r.classes r.links one) r.constructor
      (short_items r one) pool ≡ None

-- its code or its exception table is too long
pub record IsLongCode (r : Rewriting) (at : MethodAt) (pool : Constants) : Type 0 where
  pub w : Rewritten
  pub coded : IsCoded r at pool w
  pub long : IsTooLong w.one.form w.items

-- its stack is as deep as a method may say, or deeper
pub record IsDeepCode (r : Rewriting) (at : MethodAt) (pool : Constants) : Type 0 where
  pub w : Rewritten
  pub coded : IsCoded r at pool w
  pub host : Scope
  pub is_host : scope_at r.classes at ≡ Some host
  pub framed : IsFramedIn r host w
  pub deep : ¬ IsShallow w

-- its Code has more bytes than an attribute may have
pub record IsHugeCode (r : Rewriting) (at : MethodAt) (pool : Constants) : Type 0 where
  pub w : Rewritten
  pub is : IsWholeCode (λ bytes. 2 ^ 32 ≤ bytes) r at pool w

-- there is no room for the constants of its frames
pub record FramesArePast (r : Rewriting) (at : MethodAt) (pool : Constants) : Type 0 where
  pub w : Rewritten
  pub coded : IsCoded r at pool w
  pub host : Scope
  pub is_host : scope_at r.classes at ≡ Some host
  pub framed : IsFramedIn r host w
  pub shallow : IsShallow w
  pub past : frames_pool host.class.major w.stated w.code_pool ≡ None

-- The first reason that holds of a method, in the order of the reasons, in a pool.
abbrev pub HasReasonIn : Rewriting → MethodAt → Constants → Reason → Type 0
HasReasonIn r at pool reasons.NoGain = GainsNothing r at
HasReasonIn r at pool reasons.PoolFull = CodeIsPast r at pool ⊎ FramesArePast r at pool
HasReasonIn r at pool reasons.Long =
    IsLongCode r at pool ⊎ (IsDeepCode r at pool ⊎ IsHugeCode r at pool)
HasReasonIn r at pool reasons.Rewritten = (w : Rewritten) × IsRewritten r at pool w
HasReasonIn r at pool reason = IsNotExpanded r.classes r.typed at reason
