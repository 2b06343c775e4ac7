-- A turn at an instruction of which a template is written, by the kinds of instructions.
use Rattle.std.proofs.Common.{◌≡◌, ℕ, List, Some}
use Rattle.std.proofs.lemmas.Option.{none-some}
use Rattle.class_model.specs.declared.instr.Instr.{Instr}
use Rattle.class_model.specs.declared.instr.Instr.TheVariants.{Load, Store, Shuffle, IfSame, IfNull, Goto, GetField, PutField, Invoke, New, Cast, InstanceOf, Enter, Leave}
use Rattle.flow_code.specs.declared.point.FlatInstr.TheVariants.{Of}
use Rattle.making_code.specs.Items.{WInstr}
use Rattle.member_link.specs.Machine.Runs.{Run}
use Rattle.written_runs.specs.Inner.Setup.{Setup}
use Rattle.written_runs.specs.Laws.PlannedTurns.{AtPlanned, written_at}
use Rattle.written_runs.specs.Laws.Simulation.{KeepsTurn}
use Rattle.written_runs.specs.Laws.Templates.Classes.{cast_turns, instance_turns}
use Rattle.written_runs.specs.Laws.Templates.Gets.{get_turns}
use Rattle.written_runs.specs.Laws.Templates.Gotos.{goto_turns, null_turns}
use Rattle.written_runs.specs.Laws.Templates.Inits.{init_turns}
use Rattle.written_runs.specs.Laws.Templates.Known.{TemplateLaws}
use Rattle.written_runs.specs.Laws.Templates.Loads.{load_turns}
use Rattle.written_runs.specs.Laws.Templates.Monitors.{enter_turns, leave_turns}
use Rattle.written_runs.specs.Laws.Templates.News.{new_turns}
use Rattle.written_runs.specs.Laws.Templates.Puts.{put_turns}
use Rattle.written_runs.specs.Laws.Templates.Sames.{same_turns}
use Rattle.written_runs.specs.Laws.Templates.ShuffleTurns.{shuffle_turns}
use Rattle.written_runs.specs.Laws.Templates.Stores.{store_turns}

-- the turn at an instruction of which a template is written
abbrev pub TurnsAt : (u : Setup) (measure : ℕ) (one other : Run) → AtPlanned u measure one other → ℕ → Instr → Type 0
TurnsAt u measure one other a class instr =
    (instrs : List WInstr) → a.settled.point.instr ≡ Of class instr → written_at a class instr ≡ Some instrs → KeepsTurn u measure one other

pub template_turns : (u : Setup) → TemplateLaws u → (measure : ℕ) (one other : Run) (a : AtPlanned u measure one other)
    (class : ℕ) (instr : Instr)
    → TurnsAt u measure one other a class instr
template_turns u laws measure one other a class (New index) instrs is told = new_turns u laws a class index is instrs told
template_turns u laws measure one other a class (Load kind local) instrs is told = load_turns u laws a class kind local is instrs told
template_turns u laws measure one other a class (Store kind local) instrs is told = store_turns u laws a class kind local is instrs told
template_turns u laws measure one other a class (Cast index) instrs is told = cast_turns u laws a class index is instrs told
template_turns u laws measure one other a class Enter instrs is told = enter_turns u laws a class is instrs told
template_turns u laws measure one other a class Leave instrs is told = leave_turns u laws a class is instrs told
template_turns u laws measure one other a class (GetField index) instrs is told = get_turns u laws a class index is instrs told
template_turns u laws measure one other a class (IfNull opcode to) instrs is told = null_turns u laws a class opcode to is instrs told
template_turns u laws measure one other a class (IfSame opcode to) instrs is told = same_turns u laws a class opcode to is instrs told
template_turns u laws measure one other a class (InstanceOf index) instrs is told = instance_turns u laws a class index is instrs told
template_turns u laws measure one other a class (Goto to) instrs is told = goto_turns u laws a class to is instrs told
template_turns u laws measure one other a class (PutField index) instrs is told = put_turns u laws a class index is instrs told
template_turns u laws measure one other a class (Invoke opcode index count) instrs is told =
    init_turns u laws a class opcode index count is instrs told
template_turns u laws measure one other a class (Shuffle opcode) instrs is told = shuffle_turns u laws a class opcode is
template_turns u laws measure one other a class instr instrs is told = absurd (none-some instrs told)
