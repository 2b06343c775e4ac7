-- The constant of an instruction that is written as it is means the same by the index that it has in written code.
use Rattle.std.proofs.Common.{◌≡◌, ◌++◌, ℕ, Bool, true, false, List, ◌∷◌, Option, Some, None, refl, sym, ap, subst, ◌∙◌}
use Rattle.std.specs.Prelude.{◌==◌}
use Rattle.std.proofs.lemmas.Bool.{eqb-true}
use Rattle.class_model.specs.Code.{IsLoadable2}
use Rattle.class_model.specs.Pool.{Constants, constant_at}
use Rattle.class_model.specs.PoolChecks.{utf8_at}
use Rattle.class_model.specs.declared.instr.Instr.{Instr}
use Rattle.class_model.specs.declared.instr.Instr.TheVariants.{Nop, Const, Ldc, Ldc2, Load, Store, Iinc, ArrayLoad, ArrayStore, Shuffle, Pure, Divide, FloatAsk, If, If2, IfSame, IfNull, Goto, Table, Lookup, Return, GetStatic, PutStatic, GetField, PutField, Invoke, Dynamic, New, NewArray, NewRefArray, NewMulti, Length, Throw, Cast, InstanceOf, Enter, Leave}
use Rattle.class_model.specs.declared.pool.Const.{Const as Constant}
use Rattle.class_model.specs.declared.pool.Const.TheVariants as consts
use Rattle.class_tree.specs.Headers.{Classes}
use Rattle.class_tree.specs.Trees.{IsTree}
use Rattle.expanded_code.specs.Callees.{IsNoHandle}
use Rattle.making_code.specs.IndexedMaking.{index_of_last}
use Rattle.making_code.specs.Items.{WItem, carried}
use Rattle.making_code.specs.Laws.GrownPools.{Begins}
use Rattle.plan_flow.specs.PlanScope.{pool_of}
use Rattle.plan_flow.specs.Written.WrittenCode.{short, written_items}
use Rattle.plan_flow.specs.Written.WrittenConstants.{carried_instr, carried_needs, named_index, with_index}
use Rattle.same_runs.specs.Flats.{pool_of as flat_pool}
use Rattle.same_runs.specs.ReadyCode.{IsReadyInstr}
use Rattle.written_types.proofs.Given.{Given}
use Rattle.written_types.proofs.ItemRows.{own_index, with_own}
use Rattle.written_types.proofs.KeptTable.{Meant}
use Rattle.making_code.specs.Laws.MeantConstants.{Means}
use Rattle.written_types.proofs.NamedConstants.{IsReadable, begins_dynamic, begins_loaded, begins_named, meant_loaded, meant_named}
use Rattle.written_types.proofs.ReadyPoints.{class_text, string_text}
use Rattle.written_types.proofs.RowTable.{same_pool}
use Rattle.written_types.proofs.WrittenPool.{PoolLaws, meant_item, own_begins}
use Rattle.expanded_runs.specs.CarriedConstants.{IsCarriable}
use Rattle.written_types.specs.Writing.{Writing}

-- ---- in the host's own class

own_meant : (old pool : Constants) → Begins old pool → (instr : Instr) → Meant old pool (own_index instr) instr
own_meant old pool begins Nop = tt
own_meant old pool begins (Const imm) = tt
own_meant old pool begins (Ldc index) = begins_loaded old pool begins index
own_meant old pool begins (Ldc2 index) = begins_loaded old pool begins index
own_meant old pool begins (Load kind local) = tt
own_meant old pool begins (Store kind local) = tt
own_meant old pool begins (Iinc local by) = tt
own_meant old pool begins (ArrayLoad opcode) = tt
own_meant old pool begins (ArrayStore opcode) = tt
own_meant old pool begins (Shuffle opcode) = tt
own_meant old pool begins (Pure opcode) = tt
own_meant old pool begins (Divide opcode) = tt
own_meant old pool begins (FloatAsk opcode) = tt
own_meant old pool begins (If opcode to) = tt
own_meant old pool begins (If2 opcode to) = tt
own_meant old pool begins (IfSame opcode to) = tt
own_meant old pool begins (IfNull opcode to) = tt
own_meant old pool begins (Goto to) = tt
own_meant old pool begins (Table low other to) = tt
own_meant old pool begins (Lookup other pairs) = tt
own_meant old pool begins (Return kind) = tt
own_meant old pool begins (GetStatic index) = begins_named old pool begins index
own_meant old pool begins (PutStatic index) = begins_named old pool begins index
own_meant old pool begins (GetField index) = begins_named old pool begins index
own_meant old pool begins (PutField index) = begins_named old pool begins index
own_meant old pool begins (Invoke opcode index count) = begins_named old pool begins index
own_meant old pool begins (Dynamic index) = begins_dynamic old pool begins index
own_meant old pool begins (New index) = begins_named old pool begins index
own_meant old pool begins (NewArray code) = tt
own_meant old pool begins (NewRefArray index) = begins_named old pool begins index
own_meant old pool begins (NewMulti index dimensions) = begins_named old pool begins index
own_meant old pool begins Length = tt
own_meant old pool begins Throw = tt
own_meant old pool begins (Cast index) = begins_named old pool begins index
own_meant old pool begins (InstanceOf index) = tt
own_meant old pool begins Enter = tt
own_meant old pool begins Leave = tt

-- ---- in another

-- what is loaded can be read
loads_number : (old : Constants) (index : ℕ) (pool : Constants) (other : ℕ) (means : Means old index pool other) (classes : Classes) (tree : IsTree classes)
    (locals class : ℕ)
    → (ready : IsReadyInstr classes locals class (Ldc2 index))
    → old ≡ ready.file.pool
    → IsReadable old index pool other means (constant_at old index)
loads_number old index pool other means classes tree locals class ready same =
    subst (λ (p : Constants). IsReadable old index pool other means (constant_at p index)) (sym same) (by (constant_at ready.file.pool index) ready.operand) where
      by : (found : Option Constant) → IsLoadable2 found → IsReadable old index pool other means found
      by (Some (consts.Long number)) may = tt
      by (Some (consts.Double bits)) may = tt
      by None may = absurd may
      by (Some (consts.Utf8 text)) may = absurd may
      by (Some (consts.Integer number)) may = absurd may
      by (Some (consts.Float bits)) may = absurd may
      by (Some (consts.Class name)) may = absurd may
      by (Some (consts.String text)) may = absurd may
      by (Some (consts.Fieldref owner member)) may = absurd may
      by (Some (consts.Methodref owner member)) may = absurd may
      by (Some (consts.InterfaceMethodref owner member)) may = absurd may
      by (Some (consts.NameAndType name desc)) may = absurd may
      by (Some (consts.MethodHandle kind reference)) may = absurd may
      by (Some (consts.MethodType desc)) may = absurd may
      by (Some (consts.InvokeDynamic bootstrap member)) may = absurd may

loads_constant : (old : Constants) (index : ℕ) (pool : Constants) (other : ℕ) (means : Means old index pool other) (classes : Classes) (tree : IsTree classes)
    (locals class : ℕ)
    → (ready : IsReadyInstr classes locals class (Ldc index))
    → old ≡ ready.file.pool
    → IsNoHandle (constant_at old index)
    → IsReadable old index pool other means (constant_at old index)
loads_constant old index pool other means classes tree locals class ready same handle = by (constant_at old index) refl handle where
  in_file : (constant : Constant) → constant_at old index ≡ Some constant → constant_at ready.file.pool index ≡ Some constant
  in_file constant is = ap (λ (p : Constants). constant_at p index) (sym same) ∙ is

  text_in : (text : ℕ) → (bytes : List ℕ) × (utf8_at ready.file.pool text ≡ Some bytes)
      → (bytes : List ℕ) × (utf8_at old text ≡ Some bytes)
  text_in text found = (found.0, ap (λ (p : Constants). utf8_at p text) same ∙ found.1)

  by : (found : Option Constant) → constant_at old index ≡ found → IsNoHandle found → IsReadable old index pool other means found
  by None is may = tt
  by (Some (consts.Utf8 text)) is may = tt
  by (Some (consts.Integer number)) is may = tt
  by (Some (consts.Float bits)) is may = tt
  by (Some (consts.Long number)) is may = tt
  by (Some (consts.Double bits)) is may = tt
  by (Some (consts.Class text)) is may = text_in text (class_text classes tree class ready.file index text ready.there (in_file (consts.Class text) is))
  by (Some (consts.String text)) is may = text_in text (string_text classes tree class ready.file index text ready.there (in_file (consts.String text) is))
  by (Some (consts.Fieldref owner member)) is may = tt
  by (Some (consts.Methodref owner member)) is may = tt
  by (Some (consts.InterfaceMethodref owner member)) is may = tt
  by (Some (consts.NameAndType name desc)) is may = tt
  by (Some (consts.MethodHandle kind reference)) is may = absurd may
  by (Some (consts.MethodType desc)) is may = absurd may
  by (Some (consts.InvokeDynamic bootstrap member)) is may = tt

module _ (classes : Classes) (tree : IsTree classes) (locals class : ℕ) (old pool : Constants) (other : ℕ) where
  other_meant : (instr : Instr) → (ready : IsReadyInstr classes locals class instr) → old ≡ ready.file.pool → IsCarriable old instr
      → ((index : ℕ) → named_index instr ≡ Some index → Means old index pool other)
      → Meant old pool other instr
  other_meant Nop ready same may means = tt
  other_meant (Const imm) ready same may means = tt
  other_meant (Ldc index) ready same may means =
      meant_loaded old index pool other (means index refl)
      (loads_constant old index pool other (means index refl) classes tree locals class ready same may)
  other_meant (Ldc2 index) ready same may means =
      meant_loaded old index pool other (means index refl)
      (loads_number old index pool other (means index refl) classes tree locals class ready same)
  other_meant (Load kind local) ready same may means = tt
  other_meant (Store kind local) ready same may means = tt
  other_meant (Iinc local by) ready same may means = tt
  other_meant (ArrayLoad opcode) ready same may means = tt
  other_meant (ArrayStore opcode) ready same may means = tt
  other_meant (Shuffle opcode) ready same may means = tt
  other_meant (Pure opcode) ready same may means = tt
  other_meant (Divide opcode) ready same may means = tt
  other_meant (FloatAsk opcode) ready same may means = tt
  other_meant (If opcode to) ready same may means = tt
  other_meant (If2 opcode to) ready same may means = tt
  other_meant (IfSame opcode to) ready same may means = tt
  other_meant (IfNull opcode to) ready same may means = tt
  other_meant (Goto to) ready same may means = tt
  other_meant (Table low other to) ready same may means = tt
  other_meant (Lookup other pairs) ready same may means = tt
  other_meant (Return kind) ready same may means = tt
  other_meant (GetStatic index) ready same may means = meant_named old index pool other (means index refl)
  other_meant (PutStatic index) ready same may means = meant_named old index pool other (means index refl)
  other_meant (GetField index) ready same may means = meant_named old index pool other (means index refl)
  other_meant (PutField index) ready same may means = meant_named old index pool other (means index refl)
  other_meant (Invoke opcode index count) ready same may means = meant_named old index pool other (means index refl)
  other_meant (Dynamic index) ready same may means = absurd may
  other_meant (New index) ready same may means = meant_named old index pool other (means index refl)
  other_meant (NewArray code) ready same may means = tt
  other_meant (NewRefArray index) ready same may means = meant_named old index pool other (means index refl)
  other_meant (NewMulti index dimensions) ready same may means = meant_named old index pool other (means index refl)
  other_meant Length ready same may means = tt
  other_meant Throw ready same may means = tt
  other_meant (Cast index) ready same may means = meant_named old index pool other (means index refl)
  other_meant (InstanceOf index) ready same may means = tt
  other_meant Enter ready same may means = tt
  other_meant Leave ready same may means = tt

-- ---- both

-- The instruction with the index that it has in written code.
pub record Indexed (w : Writing) (class : ℕ) (instr : Instr) : Type 0 where
  pub new : ℕ
  pub is : carried_instr w.s w.pool class instr ≡ with_index new instr
  pub meant : Meant (flat_pool w.s.classes class) w.pool new instr

pub indexed : (w : Writing) (given : Given w) (laws : PoolLaws) (left right : List WItem) (one : WItem) (class : ℕ) (instr : Instr)
    → written_items short w.blocks ≡ left ++ (one ∷ right)
    → one.instr ≡ carried class instr
    → IsReadyInstr w.s.classes w.s.flat.locals class instr
    → ((class == w.s.flat.host.class) ≡ false → IsCarriable (pool_of w.s class) instr)
    → Indexed w class instr
indexed w given laws left right one class instr is of_item ready may = by (class == w.s.flat.host.class) refl where
  old_is : pool_of w.s class ≡ flat_pool w.s.classes class
  old_is = same_pool w.s class

  in_file : flat_pool w.s.classes class ≡ ready.file.pool
  in_file = let there = ready.there in rw there refl

  by : (same : Bool) → (class == w.s.flat.host.class) ≡ same → Indexed w class instr
  by true same = record {
    new = own_index instr;
    is = rw same (sym (with_own instr));
    meant = own_meant (flat_pool w.s.classes class) w.pool
        (subst (λ (pool : Constants). Begins pool w.pool)
        (ap (pool_of w.s) (sym (eqb-true class w.s.flat.host.class same)) ∙ old_is) (own_begins w given laws)) instr;
  }
  by false other = record {
    new = index_of_last w.pool (carried_needs w.s class instr);
    is = rw other refl;
    meant = other_meant w.s.classes given.setting.tree w.s.flat.locals class (flat_pool w.s.classes class) w.pool
        (index_of_last w.pool (carried_needs w.s class instr)) instr ready in_file (subst (λ (pool : Constants). IsCarriable pool instr) old_is (may other))
        (λ index named.
        subst (λ (pool : Constants). Means pool index w.pool (index_of_last w.pool (carried_needs w.s class instr))) old_is
        (meant_item w given laws left right one class index instr is of_item other named));
  }
