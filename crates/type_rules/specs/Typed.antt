-- What it means that frames type a body and a method, and how these fail first (JVM Specification SE 8, 4.10.1.6).
use Rattle.std.specs.Prelude.{◌≡◌, ◌⊎◌, ℕ, zero, suc, List, [], ◌∷◌, slice_get, Option, Some, None}
use Rattle.std.specs.List.{AllByRecursion}
use Rattle.class_model.specs.declared.frame.Frame.{Frame}
use Rattle.class_tree.specs.Headers.{Headers}
use Rattle.member_link.specs.Bodies.{Body, BodyCaught, BodyPoint, flows_on}
use Rattle.member_link.specs.BodyTyping.{IsThrowable}
use Rattle.type_rules.specs.Checks.{FailsAt, IsTypedAt}
use Rattle.type_rules.specs.MethodBodies.{body_of}
use Rattle.member_link.specs.Scope.{Scope}
use Rattle.type_rules.specs.declared.fault.TypeRule.{TypeRule}
use Rattle.type_rules.specs.declared.fault.TypeRule.TheVariants as rules

-- each instruction is typed by its frame, behind what flows into the first; nothing flows past the last
abbrev pub AreTyped : Body → Option Frame → List BodyPoint → List Frame → Type 0
AreTyped b flows [] [] = flows ≡ None
AreTyped b flows (point ∷ points) (frame ∷ frames) =
    IsTypedAt b flows point frame × AreTyped b (flows_on point frame) points frames
AreTyped b flows points frames = ⊥

-- an entry of the exception table catches throwables
abbrev pub CaughtIsThrowable : Headers → BodyCaught → Type 0
CaughtIsThrowable headers caught = IsThrowable headers caught.class

-- a frame an instruction
pub record TypesBody (b : Body) (frames : List Frame) : Type 0 where
  pub catch_types : AllByRecursion (CaughtIsThrowable b.scope.headers) b.table
  pub instrs : AreTyped b (Some b.entry) b.points frames

-- the frames type a method's code
abbrev pub Typed : Scope → List Frame → Type 0
Typed s frames = TypesBody (body_of s) frames

-- what flows on behind an instruction, where both are there
abbrev flows_behind : Option BodyPoint → Option Frame → Option Frame
flows_behind (Some point) (Some frame) = flows_on point frame
flows_behind point frame = None

-- what flows into the instruction of a number: behind its end, what flows past the code
abbrev pub flows_into : Body → List Frame → ℕ → Option Frame
flows_into b frames zero = Some b.entry
flows_into b frames (suc number) =
    flows_behind (slice_get b.points number) (slice_get frames number)

-- ---- the first failure: a place and the rule that fails there

-- the first handler that catches something else
abbrev pub FailsInTable : Headers → List BodyCaught → ℕ → Type 0
FailsInTable headers [] at = ⊥
FailsInTable headers (caught ∷ others) at =
    ((¬ CaughtIsThrowable headers caught) × (at ≡ caught.start))
    ⊎ (CaughtIsThrowable headers caught × FailsInTable headers others at)

-- the first instruction that is typed by no frame, or what flows past the last
abbrev pub FailsIn : Body → Option Frame → List BodyPoint → ℕ → TypeRule → Type 0
FailsIn b flows [] at rule =
    ((frame : Frame) × (flows ≡ Some frame)) × (at ≡ b.end) × (rule ≡ rules.FallsOff)
FailsIn b flows (point ∷ points) at rule =
    (FailsAt b flows point rule × (at ≡ point.place))
    ⊎ ((frame : Frame)
    × IsTypedAt b flows point frame
    × FailsIn b (flows_on point frame) points at rule)

abbrev pub BodyFails : Body → ℕ → TypeRule → Type 0
BodyFails b at rule =
    (FailsInTable b.scope.headers b.table at × (rule ≡ rules.CatchType))
    ⊎ (AllByRecursion (CaughtIsThrowable b.scope.headers) b.table
    × FailsIn b (Some b.entry) b.points at rule)

-- of a method's code, at an offset in bytes
abbrev pub IsFirstFailure : Scope → ℕ → TypeRule → Type 0
IsFirstFailure s at rule = BodyFails (body_of s) at rule
