-- What other parts of the proof give of instructions that are written as they are.
use Rattle.std.proofs.Common.{◌≡◌, ℕ, List, [], ◌∷◌, slice_get, Some, true}
use Rattle.class_model.specs.Descriptors.{parameters_of}
use Rattle.class_model.specs.declared.instr.Instr.TheVariants.{Invoke}
use Rattle.class_model.specs.declared.opcodes.TheConstants.{INVOKESPECIAL}
use Rattle.flow_code.specs.declared.point.FlatInstr.TheVariants.{Of}
use Rattle.member_link.specs.Machine.CallSteps.{is_object_init}
use Rattle.member_link.specs.References.{Reference}
use Rattle.plan_flow.specs.PlanScope.{member_of}
use Rattle.class_model.specs.declared.class_file.MethodAt.{MethodAt}
use Rattle.flow_code.specs.ReadTypes.{read_frame}
use Rattle.flow_code.specs.declared.point.Point.{Point}
use Rattle.machine_values.specs.Frames.{MethodState}
use Rattle.machine_values.specs.declared.frame.RunFrame.{RunFrame}
use Rattle.machine_values.specs.declared.frame.RunFrame.TheVariants.{Method}
use Rattle.member_link.specs.Machine.Codes.{item_op, number_at}
use Rattle.member_link.specs.Machine.Programs.{code_at}
use Rattle.member_link.specs.Machine.Worlds.{World}
use Rattle.member_link.specs.Scope.{Scope, scope_at}
use Rattle.plan_flow.specs.Written.Routes.{Route}
use Rattle.plan_flow.specs.Written.WrittenPrograms.{WrittenMethod}
use Rattle.same_runs.specs.Flats.{flat_code, flat_item, flat_points, instr_scope}
use Rattle.same_runs.specs.Laws.Operations.{WorksOnOperands}
use Rattle.same_runs.specs.SamePrograms.{IsInBoth}
use Rattle.typed_runs.specs.TypedFrames.{ConformsTo}
use Rattle.typed_runs.specs.TypedWorlds.{TypedWorld}
use Rattle.written_runs.specs.Inner.PlannedFrames.{IsCarried, IsReached, scope_in}
use Rattle.written_runs.specs.Inner.Setup.{Setup, first, second}
use Rattle.written_runs.specs.Laws.Carried.PlannedEdges.{RowsFit}
use Rattle.written_runs.specs.Laws.OwnTurns.{TurnLaws}
use Rattle.written_runs.specs.Laws.Settling.{SettleLaws}

-- what holds whatever the turns at other frames are
pub record CarriedFacts (u : Setup) : Type 0 where
  pub settle : SettleLaws u
  -- the first program runs flat code
  pub flat_code : (at : MethodAt) (w : WrittenMethod) (host : Scope)
      → u.written at ≡ Some w
      → scope_at u.classes at ≡ Some host
      → code_at (first u) at ≡ Some (flat_code u.classes u.links host w.flat)
  -- rows fit the types of the flat code
  pub rows_fit : (at : MethodAt) (w : WrittenMethod) → u.written at ≡ Some w → RowsFit (scope_in u w)

pub record CarriedLaws (u : Setup) : Type 0 where
  pub turns : TurnLaws u
  -- the first program runs flat code
  pub flat_code : (at : MethodAt) (w : WrittenMethod) (host : Scope)
      → u.written at ≡ Some w
      → scope_at u.classes at ≡ Some host
      → code_at (first u) at ≡ Some (flat_code u.classes u.links host w.flat)
  -- the values of the topmost frame conform to the types of its typed point, as they are read
  pub conforms : (world : World) (f : MethodState) (rest : List RunFrame) (w : WrittenMethod) (point : Point)
      → TypedWorld (first u) u.typings world
      → world.frames ≡ Method f ∷ rest
      → u.written f.at ≡ Some w
      → slice_get w.flat.points f.place ≡ Some point
      → ConformsTo (first u) u.typings world.memory.heap (read_frame w.flat point.typed) f
  -- rows fit the types of the flat code
  pub rows_fit : (at : MethodAt) (w : WrittenMethod) → u.written at ≡ Some w → RowsFit (scope_in u w)
  -- an operation on operands does the same in both
  pub in_both : (at : MethodAt) (w : WrittenMethod) (host : Scope) (place : ℕ) (point : Point) (route : Route)
      → u.written at ≡ Some w
      → scope_at u.classes at ≡ Some host
      → IsReached w place point route
      → IsCarried u w place point route
      → WorksOnOperands (item_op u.links (number_at (flat_points u.classes host w.flat)) (instr_scope u.classes host w.flat point.instr)
      (flat_item point.instr))
      → IsInBoth (first u) (second u)
      (item_op u.links (number_at (flat_points u.classes host w.flat)) (instr_scope u.classes host w.flat point.instr) (flat_item point.instr))
  -- java/lang/Object's constructor is called by invokespecial, without arguments
  pub object_inits : (at : MethodAt) (w : WrittenMethod) (place : ℕ) (point : Point) (class opcode index count : ℕ) (r : Reference)
      → u.written at ≡ Some w
      → slice_get w.flat.points place ≡ Some point
      → point.instr ≡ Of class (Invoke opcode index count)
      → member_of (scope_in u w) class index ≡ Some r
      → is_object_init r ≡ true
      → (opcode ≡ INVOKESPECIAL) × (parameters_of r.desc ≡ [])

abbrev pub facts_of : {u : Setup} → CarriedLaws u → CarriedFacts u
facts_of laws = record { settle = laws.turns.settle; flat_code = laws.flat_code; rows_fit = laws.rows_fit }
