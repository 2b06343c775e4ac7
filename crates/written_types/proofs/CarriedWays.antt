-- Where an instruction that is written as it is goes, and what it names.
use Rattle.std.proofs.Common.{◌≡◌, ℕ, true, false, slice_get, Some, None, sym, ap, ◌∙◌}
use Rattle.std.proofs.lemmas.Option.{none-some}
use Rattle.class_model.specs.Instructions.{targets}
use Rattle.class_model.specs.Pool.{Constants}
use Rattle.class_model.specs.PoolChecks.{class_at}
use Rattle.class_model.specs.declared.instr.Instr.{Instr}
use Rattle.class_model.specs.declared.instr.Instr.TheVariants.{Nop, Const, Ldc, Ldc2, Load, Store, Iinc, ArrayLoad, ArrayStore, Shuffle, Pure, Divide, FloatAsk, If, If2, IfSame, IfNull, Goto, Table, Lookup, Return, GetStatic, PutStatic, GetField, PutField, Invoke, Dynamic, New, NewArray, NewRefArray, NewMulti, Length, Throw, Cast, InstanceOf, Enter, Leave}
use Rattle.class_tree.specs.Headers.{headers_of}
use Rattle.class_tree.specs.Trees.{IsTree}
use Rattle.flow_code.specs.declared.point.FlatInstr.TheVariants.{Of}
use Rattle.flow_code.specs.declared.point.Point.{Point}
use Rattle.member_link.specs.Bodies.{falls_through}
use Rattle.member_link.specs.Machine.Links.{AreLinksOf}
use Rattle.plan_flow.specs.PlanScope.{PlanScope}
use Rattle.plan_flow.specs.Written.Blocks.{is_decided, state_written}
use Rattle.plan_flow.specs.Written.Routes.{Route}
use Rattle.plan_flow.specs.Written.Templates.{is_folded, template}
use Rattle.same_runs.specs.Flats.{pool_of as flat_pool}
use Rattle.same_runs.specs.ReadyCode.{IsReadyInstr}
use Rattle.written_types.proofs.KeptTable.{IsFound}
use Rattle.written_types.proofs.ReadyPoints.{FindsOne, class_there, get_found, put_found, same_file}
use Rattle.written_types.proofs.RowTable.{CallsObjectInit, IsGoing}
use Rattle.written_types.proofs.CarriedGuards.{folds_nothing}

-- the block of the instruction goes on to the one behind it
pub not_decided : (s : PlanScope) (at : ℕ) (point : Point) (route : Route) (class : ℕ) (instr : Instr) → point.instr ≡ Of class instr
    → template s at point.typed (state_written route) route class instr ≡ None
    → is_decided point route ≡ false
not_decided s at point route class instr is none = rw is (each instr none (folds_nothing s at point.typed (state_written route) route class instr none)) where
  each : (one : Instr) → template s at point.typed (state_written route) route class one ≡ None
      → is_folded point.typed (state_written route) one ≡ false
      → is_decided (record point { instr = Of class one }) route ≡ false
  each Nop free folded = folded
  each (Const imm) free folded = folded
  each (Ldc index) free folded = folded
  each (Ldc2 index) free folded = folded
  each (Load kind local) free folded = folded
  each (Store kind local) free folded = folded
  each (Iinc local by) free folded = folded
  each (ArrayLoad opcode) free folded = folded
  each (ArrayStore opcode) free folded = folded
  each (Shuffle opcode) free folded = folded
  each (Pure opcode) free folded = folded
  each (Divide opcode) free folded = folded
  each (FloatAsk opcode) free folded = folded
  each (If opcode to) free folded = folded
  each (If2 opcode to) free folded = folded
  each (IfSame opcode to) free folded = folded
  each (IfNull opcode to) free folded = folded
  each (Goto to) free folded = absurd (none-some _ (sym free))
  each (Table low other to) free folded = folded
  each (Lookup other pairs) free folded = folded
  each (Return kind) free folded = folded
  each (GetStatic index) free folded = folded
  each (PutStatic index) free folded = folded
  each (GetField index) free folded = folded
  each (PutField index) free folded = folded
  each (Invoke opcode index count) free folded = folded
  each (Dynamic index) free folded = folded
  each (New index) free folded = folded
  each (NewArray code) free folded = folded
  each (NewRefArray index) free folded = folded
  each (NewMulti index dimensions) free folded = folded
  each Length free folded = folded
  each Throw free folded = folded
  each (Cast index) free folded = folded
  each (InstanceOf index) free folded = folded
  each Enter free folded = folded
  each Leave free folded = folded

-- ---- what is found

pub found_at : (s : PlanScope) (locals class : ℕ) (tree : IsTree s.classes) → AreLinksOf (headers_of s.classes) s.links → FindsOne
    → (instr : Instr)
    → IsReadyInstr s.classes locals class instr
    → CallsObjectInit s (Of class instr)
    → IsFound s (flat_pool s.classes class) instr
found_at s locals class tree links one Nop ready inits = tt
found_at s locals class tree links one (Const imm) ready inits = tt
found_at s locals class tree links one (Ldc index) ready inits = tt
found_at s locals class tree links one (Ldc2 index) ready inits = tt
found_at s locals class tree links one (Load kind local) ready inits = tt
found_at s locals class tree links one (Store kind local) ready inits = tt
found_at s locals class tree links one (Iinc local by) ready inits = tt
found_at s locals class tree links one (ArrayLoad opcode) ready inits = tt
found_at s locals class tree links one (ArrayStore opcode) ready inits = tt
found_at s locals class tree links one (Shuffle opcode) ready inits = tt
found_at s locals class tree links one (Pure opcode) ready inits = tt
found_at s locals class tree links one (Divide opcode) ready inits = tt
found_at s locals class tree links one (FloatAsk opcode) ready inits = tt
found_at s locals class tree links one (If opcode to) ready inits = tt
found_at s locals class tree links one (If2 opcode to) ready inits = tt
found_at s locals class tree links one (IfSame opcode to) ready inits = tt
found_at s locals class tree links one (IfNull opcode to) ready inits = tt
found_at s locals class tree links one (Goto to) ready inits = tt
found_at s locals class tree links one (Table low other to) ready inits = tt
found_at s locals class tree links one (Lookup other pairs) ready inits = tt
found_at s locals class tree links one (Return kind) ready inits = tt
found_at s locals class tree links one (GetStatic index) ready inits = tt
found_at s locals class tree links one (PutStatic index) ready inits = tt
found_at s locals class tree links one (GetField index) ready inits = get_found s.classes tree s.links links one locals class index ready
found_at s locals class tree links one (PutField index) ready inits = put_found s.classes tree s.links links one locals class index ready
found_at s locals class tree links one (Invoke opcode index count) ready inits = inits
found_at s locals class tree links one (Dynamic index) ready inits = tt
found_at s locals class tree links one (New index) ready inits = tt
found_at s locals class tree links one (NewArray code) ready inits = tt
found_at s locals class tree links one (NewRefArray index) ready inits = tt
found_at s locals class tree links one (NewMulti index dimensions) ready inits = tt
found_at s locals class tree links one Length ready inits = tt
found_at s locals class tree links one Throw ready inits = tt
found_at s locals class tree links one (Cast index) ready inits = tt
found_at s locals class tree links one (InstanceOf index) ready inits =
    let named = class_there s.classes tree class ready.file index ready.there ready.operand in
    (named.0, ap (λ (pool : Constants). class_at pool index) (same_file s.classes tree class ready.file ready.there) ∙ named.1)
found_at s locals class tree links one Enter ready inits = tt
found_at s locals class tree links one Leave ready inits = tt

pub goes_on : (instr : Instr) → falls_through instr ≡ true → IsGoing instr
goes_on Nop falls = tt
goes_on (Const imm) falls = tt
goes_on (Ldc index) falls = tt
goes_on (Ldc2 index) falls = tt
goes_on (Load kind local) falls = tt
goes_on (Store kind local) falls = tt
goes_on (Iinc local by) falls = tt
goes_on (ArrayLoad opcode) falls = tt
goes_on (ArrayStore opcode) falls = tt
goes_on (Shuffle opcode) falls = tt
goes_on (Pure opcode) falls = tt
goes_on (Divide opcode) falls = tt
goes_on (FloatAsk opcode) falls = tt
goes_on (If opcode to) falls = tt
goes_on (If2 opcode to) falls = tt
goes_on (IfSame opcode to) falls = tt
goes_on (IfNull opcode to) falls = tt
goes_on (Goto to) falls = tt
goes_on (Table low other to) falls = tt
goes_on (Lookup other pairs) falls = tt
goes_on (Return kind) falls = absurd cc
goes_on (GetStatic index) falls = tt
goes_on (PutStatic index) falls = tt
goes_on (GetField index) falls = tt
goes_on (PutField index) falls = tt
goes_on (Invoke opcode index count) falls = tt
goes_on (Dynamic index) falls = tt
goes_on (New index) falls = tt
goes_on (NewArray code) falls = tt
goes_on (NewRefArray index) falls = tt
goes_on (NewMulti index dimensions) falls = tt
goes_on Length falls = tt
goes_on Throw falls = absurd cc
goes_on (Cast index) falls = tt
goes_on (InstanceOf index) falls = tt
goes_on Enter falls = tt
goes_on Leave falls = tt

pub jumps_on : (instr : Instr) (number to : ℕ) → slice_get (targets instr) number ≡ Some to → IsGoing instr
jumps_on Nop number to is = tt
jumps_on (Const imm) number to is = tt
jumps_on (Ldc index) number to is = tt
jumps_on (Ldc2 index) number to is = tt
jumps_on (Load kind local) number to is = tt
jumps_on (Store kind local) number to is = tt
jumps_on (Iinc local by) number to is = tt
jumps_on (ArrayLoad opcode) number to is = tt
jumps_on (ArrayStore opcode) number to is = tt
jumps_on (Shuffle opcode) number to is = tt
jumps_on (Pure opcode) number to is = tt
jumps_on (Divide opcode) number to is = tt
jumps_on (FloatAsk opcode) number to is = tt
jumps_on (If opcode target) number to is = tt
jumps_on (If2 opcode target) number to is = tt
jumps_on (IfSame opcode target) number to is = tt
jumps_on (IfNull opcode target) number to is = tt
jumps_on (Goto target) number to is = tt
jumps_on (Table low other target) number to is = tt
jumps_on (Lookup other pairs) number to is = tt
jumps_on (Return kind) number to is = absurd (none-some to is)
jumps_on (GetStatic index) number to is = tt
jumps_on (PutStatic index) number to is = tt
jumps_on (GetField index) number to is = tt
jumps_on (PutField index) number to is = tt
jumps_on (Invoke opcode index count) number to is = tt
jumps_on (Dynamic index) number to is = tt
jumps_on (New index) number to is = tt
jumps_on (NewArray code) number to is = tt
jumps_on (NewRefArray index) number to is = tt
jumps_on (NewMulti index dimensions) number to is = tt
jumps_on Length number to is = tt
jumps_on Throw number to is = absurd (none-some to is)
jumps_on (Cast index) number to is = tt
jumps_on (InstanceOf index) number to is = tt
jumps_on Enter number to is = tt
jumps_on Leave number to is = tt
