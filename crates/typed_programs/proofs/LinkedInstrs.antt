use Rattle.std.specs.Prelude.{◌≡◌, ◌==◌, ◌<◌, ◌&&◌, refl, ℕ, zero, suc, nat_le, List, [], ◌∷◌, slice_get, Option, Some, None, IfSome, if◌then◌else◌}
use Rattle.std.proofs.Common.{inl, inr, sym, ◌∙◌, subst}
use Rattle.class_model.specs.Checks.{AllHold}
use Rattle.class_model.specs.Characters.{left_bracket}
use Rattle.class_model.specs.Code.{OperandFits, IsDynamicConstant}
use Rattle.class_model.specs.Descriptors.{named_text}
use Rattle.class_model.specs.Laws.Checks.{others_hold}
use Rattle.class_model.specs.Laws.Lists.{at_index}
use Rattle.class_model.specs.Pool.{Constants, constant_at}
use Rattle.class_model.specs.PoolChecks.{class_at}
use Rattle.class_model.specs.declared.descriptor.Kind.TheVariants as kinds
use Rattle.class_model.specs.declared.frame.Frame.{Frame}
use Rattle.class_model.specs.declared.instr.Instr.{Instr}
use Rattle.class_model.specs.declared.instr.Instr.TheVariants as instrs
use Rattle.class_model.specs.declared.instr.Placed.{Placed}
use Rattle.class_model.specs.declared.opcodes.TheConstants.{IALOAD, SALOAD, IASTORE, SASTORE, IFEQ, IFLE, IF_ICMPEQ, IF_ICMPLE, IF_ACMPEQ, IF_ACMPNE, IFNULL, IFNONNULL}
use Rattle.class_model.specs.declared.pool.Const.{Const}
use Rattle.class_model.specs.declared.pool.Const.TheVariants as consts
use Rattle.class_tree.specs.Headers.{Name, IsThere}
use Rattle.class_tree.specs.declared.fault.LinkRule.TheVariants as rules
use Rattle.member_link.specs.BodyTyping.{RowHolds}
use Rattle.member_link.specs.Declarations.{asked}
use Rattle.member_link.specs.Forms.{IsStaticForm, IsInstanceForm, IsInstantiable}
use Rattle.member_link.specs.Machine.Codes.{instr_op, dynamic_op, initialises}
use Rattle.member_link.specs.Machine.Ops.{jump_by_int, jump_by_ints, jump_by_references, jump_by_null, load_element, store_element, get_static, put_static, get_field, put_field, new_object, new_array, new_arrays, check_cast, instance_of}
use Rattle.member_link.specs.Machine.Programs.{Program, Links, headers_in}
use Rattle.member_link.specs.References.{IsNamedThere}
use Rattle.member_link.specs.RowScope.{RowScope}
use Rattle.member_link.specs.Rows.ArrayRows.{primitive_array, array_of, made_row}
use Rattle.member_link.specs.Rows.Operands.{of_kind}
use Rattle.member_link.specs.Rows.Row.{access_aside}
use Rattle.member_link.specs.Rows.Table.{row_of}
use Rattle.member_link.specs.Signatures.{reference_of}
use Rattle.member_link.specs.Uses.{UseScope, instr_use_checks, named_class_checks}
use Rattle.typed_programs.proofs.Folders.{some_of}
use Rattle.typed_programs.proofs.KnownRows.{jump_known, load_known, store_known, no_row_holds, primitive_named, array_there}
use Rattle.typed_programs.proofs.LinkedOps.{ReferenceLaws, Around, tested, found, return_linked, constant_linked, field_there, call_linked, class_linked, class_there}
use Rattle.typed_programs.proofs.PlacedFrames.{same_place, other_place}
use Rattle.type_rules.specs.Laws.InstructionOrder.{Ascend}
use Rattle.typed_programs.proofs.PoolNames.{class_text, member_text}
use Rattle.typed_programs.proofs.SomeDimensions.{SomeIn}
use Rattle.typed_runs.specs.LinkedInstrs.{HoldsAsItIs, IsLinkedAt, new_named}

-- ---- the class of a new

abbrev pub new_among : Constants → ℕ → List Placed → Option Name
new_among pool at [] = None
new_among pool at (p ∷ ps) = if p.at == at then new_named pool p.instr else new_among pool at ps

pub new_found : (pool : Constants) (ps : List Placed) → Ascend ps → (n : ℕ) (p : Placed) → slice_get ps n ≡ Some p
    → new_among pool p.at ps ≡ new_named pool p.instr
new_found pool [] order n p is = cc
new_found pool (q ∷ ps) order zero p is =
    let same : q ≡ p = some_of is in
    subst (λ (x : Placed). new_among pool x.at (q ∷ ps) ≡ new_named pool x.instr) same (rw (same_place q.at) refl)
new_found pool (q ∷ ps) order (suc n) p is =
    rw (other_place q.at p.at (at_index (λ (x : Placed). q.at < x.at) ps n p order.0 is)) (new_found pool ps order.1 n p is)

-- ---- an instruction

-- what its row asks where it is read as it is
pub holds_as_it_is : (s : RowScope) (frame : Frame) (place : ℕ) (i : Instr) → RowHolds s frame (access_aside (row_of s frame place i))
    → HoldsAsItIs s frame place i
holds_as_it_is s frame place (instrs.New index) holds = tt
holds_as_it_is s frame place (instrs.Invoke opcode index count) holds = tt
holds_as_it_is s frame place i holds = holds

-- an instruction of a pool, in code of any class
module _ (laws : ReferenceLaws) (links : Links) (numbered : ℕ → ℕ) (locals major : ℕ) (us : UseScope) (own : RowScope) (Q : Program)
    (around : Around Q us.headers major us.pool own.own) where
  abbrev s : RowScope
  s = record own { pool = us.pool }

  pub instr_linked : (place : ℕ) (i : Instr) → OperandFits us.pool major locals i
      → AllHold (instr_use_checks us i) → SomeIn i
      → own.new_class place ≡ new_named us.pool i
      → (frame : Frame) → HoldsAsItIs (record own { pool = us.pool }) frame place i
      → IsLinkedAt Q (record own { pool = us.pool }) place (instr_op links numbered (record own { pool = us.pool }) i)
  instr_linked place instrs.Nop fits uses some new frame holds = record { linked = tt; call = tt }
  instr_linked place (instrs.Const imm) fits uses some new frame holds = record { linked = tt; call = tt }
  instr_linked place (instrs.Ldc index) fits uses some new frame holds = constant_linked laws Q s place us major around index
      (constant_at us.pool index) refl (inl fits)
  instr_linked place (instrs.Ldc2 index) fits uses some new frame holds = constant_linked laws Q s place us major around index
      (constant_at us.pool index) refl (inr fits)
  instr_linked place (instrs.Load kind at) fits uses some new frame holds = record { linked = tt; call = tt }
  instr_linked place (instrs.Store kind at) fits uses some new frame holds = record { linked = tt; call = tt }
  instr_linked place (instrs.Iinc at by) fits uses some new frame holds = record { linked = tt; call = tt }
  instr_linked place (instrs.ArrayLoad opcode) fits uses some new frame holds = tested Q s place
      (nat_le IALOAD opcode && nat_le opcode SALOAD) (load_element opcode) (load_known s frame opcode holds) (record { linked = tt; call = tt })
  instr_linked place (instrs.ArrayStore opcode) fits uses some new frame holds = tested Q s place
      (nat_le IASTORE opcode && nat_le opcode SASTORE) (store_element opcode) (store_known s frame opcode holds) (record { linked = tt; call = tt })
  instr_linked place (instrs.Shuffle opcode) fits uses some new frame holds = record { linked = tt; call = tt }
  instr_linked place (instrs.Pure opcode) fits uses some new frame holds = record { linked = tt; call = tt }
  instr_linked place (instrs.Divide opcode) fits uses some new frame holds = record { linked = tt; call = tt }
  instr_linked place (instrs.FloatAsk opcode) fits uses some new frame holds = record { linked = tt; call = tt }
  instr_linked place (instrs.If opcode target) fits uses some new frame holds =
      tested Q s place (nat_le IFEQ opcode && nat_le opcode IFLE) (jump_by_int opcode
      (numbered target))
      (jump_known s frame (nat_le IFEQ opcode && nat_le opcode IFLE) (of_kind kinds.Int ∷ []) holds) (record { linked = tt; call = tt })
  instr_linked place (instrs.If2 opcode target) fits uses some new frame holds =
      tested Q s place (nat_le IF_ICMPEQ opcode && nat_le opcode IF_ICMPLE)
      (jump_by_ints opcode (numbered target))
      (jump_known s frame (nat_le IF_ICMPEQ opcode && nat_le opcode IF_ICMPLE) (of_kind kinds.Int ∷ of_kind kinds.Int ∷ []) holds) (record { linked = tt; call = tt })
  instr_linked place (instrs.IfSame opcode target) fits uses some new frame holds =
      tested Q s place (nat_le IF_ACMPEQ opcode && nat_le opcode IF_ACMPNE)
      (jump_by_references opcode (numbered target))
      (jump_known s frame (nat_le IF_ACMPEQ opcode && nat_le opcode IF_ACMPNE) (of_kind kinds.Ref ∷ of_kind kinds.Ref ∷ []) holds) (record { linked = tt; call = tt })
  instr_linked place (instrs.IfNull opcode target) fits uses some new frame holds =
      tested Q s place (nat_le IFNULL opcode && nat_le opcode IFNONNULL)
      (jump_by_null opcode (numbered target))
      (jump_known s frame (nat_le IFNULL opcode && nat_le opcode IFNONNULL) (of_kind kinds.Ref ∷ []) holds) (record { linked = tt; call = tt })
  instr_linked place (instrs.Goto target) fits uses some new frame holds = record { linked = tt; call = tt }
  instr_linked place (instrs.Table low other targets) fits uses some new frame holds = record { linked = tt; call = tt }
  instr_linked place (instrs.Lookup other pairs) fits uses some new frame holds = record { linked = tt; call = tt }
  instr_linked place (instrs.Return kind) fits uses some new frame holds = return_linked Q s place frame kind holds
  instr_linked place (instrs.GetStatic index) fits uses some new frame holds =
      let f = field_there laws Q s place us major around IsStaticForm (laws.static_field us) index fits uses in
      found Q s place (reference_of us.pool (constant_at us.pool index)) f.0 get_static f.1 (record { linked = f.2; call = tt })
  instr_linked place (instrs.PutStatic index) fits uses some new frame holds =
      let f = field_there laws Q s place us major around IsStaticForm (laws.static_field us) index fits uses in
      found Q s place (reference_of us.pool (constant_at us.pool index)) f.0 (λ r. put_static r (initialises s.is_clinit s.own)) f.1
      (record { linked = f.2; call = tt })
  instr_linked place (instrs.GetField index) fits uses some new frame holds =
      let f = field_there laws Q s place us major around IsInstanceForm (laws.instance_field us) index fits uses in
      found Q s place (reference_of us.pool (constant_at us.pool index)) f.0 get_field f.1 (record { linked = f.2; call = tt })
  instr_linked place (instrs.PutField index) fits uses some new frame holds =
      let f = field_there laws Q s place us major around IsInstanceForm (laws.instance_field us) index fits uses in
      found Q s place (reference_of us.pool (constant_at us.pool index)) f.0 (λ r. put_field r (initialises s.is_init s.own)) f.1
      (record { linked = f.2; call = tt })
  instr_linked place (instrs.Invoke opcode index count) fits uses some new frame holds = call_linked laws Q s place us major around
      links opcode index count fits uses
  instr_linked place (instrs.Dynamic index) fits uses some new frame holds = by (constant_at us.pool index) refl fits where
    by : (c : Option Const) → constant_at us.pool index ≡ c → IsDynamicConstant c → IsLinkedAt Q s place (dynamic_op s c)
    by (Some (consts.InvokeDynamic bootstrap member)) e is =
        let t = member_text major us.pool around.each member (around.each index (consts.InvokeDynamic bootstrap member) e).1.0 in
        rw t.is_name (rw t.is_desc (record { linked = tt; call = tt }))
    by c e is = absurd is
  instr_linked place (instrs.New index) fits uses some new frame holds =
      class_linked laws Q s place us major around index new_object fits
      (λ name e. record {
        linked = (
          subst (λ hs. IsInstantiable hs name) (sym around.same)
              (others_hold (named_class_checks us name) (asked us.site rules.WrongForm (IsInstantiable us.headers name) ∷ [])
              (rw e at uses)).0,
          new ∙ e,
        );
        call = tt;
      })
  instr_linked place (instrs.NewArray code) fits uses some new frame holds = by (primitive_array code) refl holds where
    by : (o : Option Name) → primitive_array code ≡ o → RowHolds s frame (access_aside (made_row frame 1 o))
        → IsLinkedAt Q s place (instr_op links numbered s (instrs.NewArray code))
    by None e h = absurd (no_row_holds s frame h)
    by (Some name) e h = let p = primitive_named code name e in found Q s place (primitive_array code) name new_array e
        (record { linked = (p.0, subst (λ o. IfSome o (IsThere (headers_in Q))) (sym p.1) tt); call = tt })
  instr_linked place (instrs.NewRefArray index) fits uses some new frame holds =
      let c = class_text major us.pool around.each index fits.0 in
      found Q s place (array_of (class_at us.pool index)) (left_bracket ∷ named_text c.0) new_array (rw c.1 refl) (record {
        linked = (
          (named_text c.0, refl),
          subst (λ hs. IsNamedThere hs (left_bracket ∷ named_text c.0)) (sym around.same)
              (array_there us.headers c.0 (class_there laws Q s place us major around index c.0 c.1 uses)),
        );
        call = tt;
      })
  instr_linked place (instrs.NewMulti index dimensions) fits uses some new frame holds =
      let c = class_text major us.pool around.each index fits.0 in
      found Q s place (class_at us.pool index) c.0 (λ name. new_arrays name dimensions) c.1 (record {
        linked = (
          rw c.1 at fits.1,
          some,
          subst (λ hs. IsNamedThere hs c.0) (sym around.same)
              (class_there laws Q s place us major around index c.0 c.1 uses),
        );
        call = tt;
      })
  instr_linked place instrs.Length fits uses some new frame holds = record { linked = tt; call = tt }
  instr_linked place instrs.Throw fits uses some new frame holds = record { linked = tt; call = tt }
  instr_linked place (instrs.Cast index) fits uses some new frame holds = class_linked laws Q s place us major around index
      check_cast fits (λ name e. record { linked = tt; call = tt })
  instr_linked place (instrs.InstanceOf index) fits uses some new frame holds = class_linked laws Q s place us major around index
      instance_of fits (λ name e. record { linked = tt; call = tt })
  instr_linked place instrs.Enter fits uses some new frame holds = record { linked = tt; call = tt }
  instr_linked place instrs.Leave fits uses some new frame holds = record { linked = tt; call = tt }
