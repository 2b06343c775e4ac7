-- Instructions that go to their targets alone.
use Rattle.std.specs.Prelude.{Bool, true}
use Rattle.class_model.specs.declared.frame.Frame.{Frame}
use Rattle.class_model.specs.declared.instr.Instr.{Instr}
use Rattle.class_model.specs.declared.instr.Instr.TheVariants.{Goto}
use Rattle.plan_flow.specs.Written.Templates.{is_folded}
use Rattle.virtual_state.specs.States.{State}

abbrev pub decides : Frame → State → Instr → Bool
decides f state (Goto to) = true
decides f state instr = is_folded f state instr
