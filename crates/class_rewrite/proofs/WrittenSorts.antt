-- Each instruction of written code is one of its flat code's, whose operands fit its class, or names no constant by itself.
use Rattle.std.proofs.Common.{◌≡◌, ◌≢◌, ℕ, zero, suc, List, [], ◌∷◌, slice_get, Option, Some, None, refl, sym, ap, subst, ◌∙◌}
use Rattle.std.specs.List.{AllByRecursion}
use Rattle.std.proofs.lemmas.Option.{none-some, same_Some}
use Rattle.class_model.specs.Code.{OperandFits}
use Rattle.class_model.specs.Pool.{Constants}
use Rattle.class_model.specs.declared.class_file.ClassFile.{ClassFile}
use Rattle.class_model.specs.declared.instr.Instr.{Instr}
use Rattle.class_model.specs.declared.instr.Instr.TheVariants.{Nop, Const, Ldc, Ldc2, Load, Store, Iinc, ArrayLoad, ArrayStore, Shuffle, Pure, Divide, FloatAsk, If, If2, IfSame, IfNull, Goto, Table, Lookup, Return, GetStatic, PutStatic, GetField, PutField, Invoke, Dynamic, New, NewArray, NewRefArray, NewMulti, Length, Throw, Cast, InstanceOf, Enter, Leave}
use Rattle.class_rewrite.proofs.WrittenInstrs.{HoldsOfWritten, each_written}
use Rattle.class_rewrite.proofs.WrittenPoints.{IsCarriedWell, Sort}
use Rattle.expanded_runs.specs.CarriedConstants.{CarriesConstants, IsCarriable}
use Rattle.flow_code.specs.declared.point.FlatInstr.TheVariants.{Of}
use Rattle.flow_code.specs.declared.point.Point.{Point}
use Rattle.making_code.specs.Items.{WItem, carried}
use Rattle.making_code.specs.Opposites.{opposite_instr}
use Rattle.member_link.specs.Scope.{Scope}
use Rattle.plan_flow.specs.PlanScope.{PlanScope}
use Rattle.plan_flow.specs.Written.Blocks.{blocks_of}
use Rattle.plan_flow.specs.Written.Finish.{finish}
use Rattle.plan_flow.specs.Written.Routes.{Routes}
use Rattle.plan_flow.specs.Written.WrittenCode.{Form, written_items}
use Rattle.same_runs.specs.ReadyCode.{IsReadyCode, IsReadyInstr, IsReadyItem}

-- the opposite of a conditional jump names nothing
opposite_fits : (pool : Constants) (major locals : ℕ) (instr other : Instr) → opposite_instr instr ≡ Some other → OperandFits pool major locals other
opposite_fits pool major locals (If opcode to) other is = subst (OperandFits pool major locals) (same_Some _ other is) tt
opposite_fits pool major locals (If2 opcode to) other is = subst (OperandFits pool major locals) (same_Some _ other is) tt
opposite_fits pool major locals (IfSame opcode to) other is = subst (OperandFits pool major locals) (same_Some _ other is) tt
opposite_fits pool major locals (IfNull opcode to) other is = subst (OperandFits pool major locals) (same_Some _ other is) tt
opposite_fits pool major locals Nop other is = absurd (none-some other is)
opposite_fits pool major locals (Const imm) other is = absurd (none-some other is)
opposite_fits pool major locals (Ldc index) other is = absurd (none-some other is)
opposite_fits pool major locals (Ldc2 index) other is = absurd (none-some other is)
opposite_fits pool major locals (Load kind local) other is = absurd (none-some other is)
opposite_fits pool major locals (Store kind local) other is = absurd (none-some other is)
opposite_fits pool major locals (Iinc local amount) other is = absurd (none-some other is)
opposite_fits pool major locals (ArrayLoad opcode) other is = absurd (none-some other is)
opposite_fits pool major locals (ArrayStore opcode) other is = absurd (none-some other is)
opposite_fits pool major locals (Shuffle opcode) other is = absurd (none-some other is)
opposite_fits pool major locals (Pure opcode) other is = absurd (none-some other is)
opposite_fits pool major locals (Divide opcode) other is = absurd (none-some other is)
opposite_fits pool major locals (FloatAsk opcode) other is = absurd (none-some other is)
opposite_fits pool major locals (Goto to) other is = absurd (none-some other is)
opposite_fits pool major locals (Table low default to) other is = absurd (none-some other is)
opposite_fits pool major locals (Lookup default pairs) other is = absurd (none-some other is)
opposite_fits pool major locals (Return kind) other is = absurd (none-some other is)
opposite_fits pool major locals (GetStatic index) other is = absurd (none-some other is)
opposite_fits pool major locals (PutStatic index) other is = absurd (none-some other is)
opposite_fits pool major locals (GetField index) other is = absurd (none-some other is)
opposite_fits pool major locals (PutField index) other is = absurd (none-some other is)
opposite_fits pool major locals (Invoke opcode index count) other is = absurd (none-some other is)
opposite_fits pool major locals (Dynamic index) other is = absurd (none-some other is)
opposite_fits pool major locals (New index) other is = absurd (none-some other is)
opposite_fits pool major locals (NewArray code) other is = absurd (none-some other is)
opposite_fits pool major locals (NewRefArray index) other is = absurd (none-some other is)
opposite_fits pool major locals (NewMulti index dimensions) other is = absurd (none-some other is)
opposite_fits pool major locals Length other is = absurd (none-some other is)
opposite_fits pool major locals Throw other is = absurd (none-some other is)
opposite_fits pool major locals (Cast index) other is = absurd (none-some other is)
opposite_fits pool major locals (InstanceOf index) other is = absurd (none-some other is)
opposite_fits pool major locals Enter other is = absurd (none-some other is)
opposite_fits pool major locals Leave other is = absurd (none-some other is)

opposite_carriable : (pool : Constants) (instr other : Instr) → opposite_instr instr ≡ Some other → IsCarriable pool other
opposite_carriable pool (If opcode to) other is = subst (IsCarriable pool) (same_Some _ other is) tt
opposite_carriable pool (If2 opcode to) other is = subst (IsCarriable pool) (same_Some _ other is) tt
opposite_carriable pool (IfSame opcode to) other is = subst (IsCarriable pool) (same_Some _ other is) tt
opposite_carriable pool (IfNull opcode to) other is = subst (IsCarriable pool) (same_Some _ other is) tt
opposite_carriable pool Nop other is = absurd (none-some other is)
opposite_carriable pool (Const imm) other is = absurd (none-some other is)
opposite_carriable pool (Ldc index) other is = absurd (none-some other is)
opposite_carriable pool (Ldc2 index) other is = absurd (none-some other is)
opposite_carriable pool (Load kind local) other is = absurd (none-some other is)
opposite_carriable pool (Store kind local) other is = absurd (none-some other is)
opposite_carriable pool (Iinc local amount) other is = absurd (none-some other is)
opposite_carriable pool (ArrayLoad opcode) other is = absurd (none-some other is)
opposite_carriable pool (ArrayStore opcode) other is = absurd (none-some other is)
opposite_carriable pool (Shuffle opcode) other is = absurd (none-some other is)
opposite_carriable pool (Pure opcode) other is = absurd (none-some other is)
opposite_carriable pool (Divide opcode) other is = absurd (none-some other is)
opposite_carriable pool (FloatAsk opcode) other is = absurd (none-some other is)
opposite_carriable pool (Goto to) other is = absurd (none-some other is)
opposite_carriable pool (Table low default to) other is = absurd (none-some other is)
opposite_carriable pool (Lookup default pairs) other is = absurd (none-some other is)
opposite_carriable pool (Return kind) other is = absurd (none-some other is)
opposite_carriable pool (GetStatic index) other is = absurd (none-some other is)
opposite_carriable pool (PutStatic index) other is = absurd (none-some other is)
opposite_carriable pool (GetField index) other is = absurd (none-some other is)
opposite_carriable pool (PutField index) other is = absurd (none-some other is)
opposite_carriable pool (Invoke opcode index count) other is = absurd (none-some other is)
opposite_carriable pool (Dynamic index) other is = absurd (none-some other is)
opposite_carriable pool (New index) other is = absurd (none-some other is)
opposite_carriable pool (NewArray code) other is = absurd (none-some other is)
opposite_carriable pool (NewRefArray index) other is = absurd (none-some other is)
opposite_carriable pool (NewMulti index dimensions) other is = absurd (none-some other is)
opposite_carriable pool Length other is = absurd (none-some other is)
opposite_carriable pool Throw other is = absurd (none-some other is)
opposite_carriable pool (Cast index) other is = absurd (none-some other is)
opposite_carriable pool (InstanceOf index) other is = absurd (none-some other is)
opposite_carriable pool Enter other is = absurd (none-some other is)
opposite_carriable pool Leave other is = absurd (none-some other is)

module _ (s : PlanScope) (host : Scope) (ready : IsReadyCode s.classes host s.flat) (carries : CarriesConstants s.classes s.flat) where
  item_ready : (points : List Point) (at : ℕ) (point : Point) → AllByRecursion (λ (one : Point). IsReadyItem s.classes s.flat.locals one.instr) points
      → slice_get points at ≡ Some point
      → IsReadyItem s.classes s.flat.locals point.instr
  item_ready [] at point all is = absurd (none-some point is)
  item_ready (first ∷ points) zero point all is = subst (λ (one : Point). IsReadyItem s.classes s.flat.locals one.instr) (same_Some first point is) all.0
  item_ready (first ∷ points) (suc at) point all is = item_ready points at point all.1 is

  holds : HoldsOfWritten s (Sort s)
  holds = record {
    simple = record {
      loads = λ kind unit. tt;
      stores = λ kind unit. tt;
      consts = λ value form. tt;
      pures = λ opcode form. tt;
      shuffles = λ opcode form. tt;
    };
    enter = tt;
    made = λ number site is. tt;
    constructed = λ number site is. tt;
    carries = λ at point class instr there is.
        let one : IsReadyInstr s.classes s.flat.locals class instr = subst (IsReadyItem s.classes s.flat.locals) is (item_ready s.flat.points at point ready.points there) in
        record {
          file = one.file;
          there = one.there;
          locals = s.flat.locals;
          fits = one.operand;
          carriable = λ foreign. carries at point class instr one.file there is one.there foreign;
        };
    opposite = λ class instr other well is. record {
      file = well.file;
      there = well.there;
      locals = well.locals;
      fits = opposite_fits well.file.pool well.file.major well.locals instr other is;
      carriable = λ foreign. opposite_carriable well.file.pool instr other is;
    };
    goto = tt;
    nop = tt;
    null_jump = tt;
    throw = tt;
  }

  -- What is known of each instruction of written code.
  pub sorts_are : (form : Form) (routes : Routes) → AllByRecursion (λ (one : WItem). Sort s one.instr) (written_items form (finish s.flat (blocks_of s routes)))
  sorts_are form routes = each_written s (Sort s) holds form routes
