use Rattle.std.specs.Prelude.{◌≡◌, refl, ℕ, true, List, [], ◌∷◌, Option, Some, None, IsTrue, option_map}
use Rattle.std.proofs.Common.{arith, sym, subst}
use Rattle.class_model.specs.declared.frame.Frame.{Frame}
use Rattle.class_model.specs.declared.frame.VType.{VType}
use Rattle.class_model.specs.declared.instr.Imm.{Imm}
use Rattle.class_model.specs.declared.instr.Imm.TheVariants as imms
use Rattle.machine_values.specs.Frames.{MethodState}
use Rattle.class_model.specs.declared.frame.VType.TheVariants as types
use Rattle.class_tree.specs.Headers.{Name}
use Rattle.class_tree.specs.Subtype.{itself}
use Rattle.machine_values.specs.Heaps.{Heap, class_of_constant, constant_made}
use Rattle.machine_values.specs.declared.object.Constant.{Constant}
use Rattle.machine_values.specs.declared.value.Value.TheVariants as values
use Rattle.machine_values.specs.declared.frame.RunFrame.{RunFrame}
use Rattle.machine_values.specs.declared.value.Value.{Value}
use Rattle.member_link.specs.Machine.Codes.{value_of_imm, or_meaningless}
use Rattle.member_link.specs.Machine.Ops.{push_value, push_constant}
use Rattle.member_link.specs.Machine.Programs.{Program}
use Rattle.member_link.specs.Machine.Stepping.{op_step}
use Rattle.member_link.specs.Machine.Worlds.{World, with_heap}
use Rattle.member_link.specs.RowScope.{RowScope}
use Rattle.member_link.specs.Rows.LocalRows.{type_of_imm}
use Rattle.member_link.specs.Rows.Row.{plain}
use Rattle.typed_runs.proofs.ConstantObjects.{constant_typed}
use Rattle.typed_runs.proofs.Here.{Here, worked, gives_same, gives_values}
use Rattle.typed_runs.specs.Conforming.{Conforms, by_class, to_below, an_object, an_int, a_long, a_float, a_double, only_null, no_values, and_value}
use Rattle.typed_runs.specs.TypedPrograms.{Typings}
use Rattle.typed_runs.specs.TypedWorlds.{StaysTyped}

pub imm_conforms : {P : Program} {s : RowScope} {h : Heap} (imm : Imm) → Conforms P s h (type_of_imm imm) (value_of_imm imm)
imm_conforms imms.Null = only_null
imm_conforms (imms.Int n) = an_int
imm_conforms (imms.Long n) = a_long
imm_conforms (imms.Float n) = a_float
imm_conforms (imms.Double n) = a_double

pub value_stays : {P : Program} {T : Typings} {w : World} {f : MethodState} {rest : List RunFrame} {s : RowScope} {frame : Frame} {place : ℕ} {numbered : ℕ → ℕ} (t : VType) (v : Value)
    → Conforms P (T f.at).scope w.memory.heap t v → Here P T w f rest s frame place numbered (plain frame [] (t ∷ [])) (push_value v) true []
    → StaysTyped P T w (op_step P w f rest (push_value v))
value_stays t v conforms h = worked h 0 refl (omega arith) (gives_same h (v ∷ []) (and_value conforms no_values))

-- ---- a constant of an object

pub pushed_stays : {P : Program} {T : Typings} {w : World} {f : MethodState} {rest : List RunFrame} {s : RowScope} {frame : Frame} {place : ℕ} {numbered : ℕ → ℕ} (c : Constant)
    → Here P T w f rest s frame place numbered (plain frame [] (types.Object (class_of_constant c) ∷ [])) (push_constant c) true []
    → StaysTyped P T w (op_step P w f rest (push_constant c))
pushed_stays {P = P} {w = w} c h =
    let made = constant_typed P w.memory c h.typed.memory h.linked in
    let itself_below : IsTrue (P.links.below (class_of_constant c) (class_of_constant c)) = (h.typed.program.links.below (class_of_constant c) (class_of_constant c)).1 (itself (class_of_constant c)) in
    worked h 0 refl (omega arith)
    (gives_values h (with_heap w.memory (constant_made w.memory.heap c).heap) made.keep made.typed (values.Ref (constant_made w.memory.heap c).reference ∷ [])
    (and_value (an_object made.shape (by_class (to_below itself_below))) no_values))

pub named_stays : {P : Program} {T : Typings} {w : World} {f : MethodState} {rest : List RunFrame} {s : RowScope} {frame : Frame} {place : ℕ} {numbered : ℕ → ℕ} {A : Type 0} (o : Option A) (make : A → Constant) (class : Name)
    → ((a : A) → class_of_constant (make a) ≡ class)
    → Here P T w f rest s frame place numbered (plain frame [] (types.Object class ∷ [])) (or_meaningless (option_map (λ a. push_constant (make a)) o)) true []
    → StaysTyped P T w (op_step P w f rest (or_meaningless (option_map (λ a. push_constant (make a)) o)))
named_stays None make class same h = absurd h.linked
named_stays {P = P} {T = T} {w = w} {f = f} {rest = rest} {s = s} {frame = frame} {place = place} {numbered = numbered} (Some a) make class same h =
    pushed_stays (make a) (subst (λ n. Here P T w f rest s frame place numbered (plain frame [] (types.Object n ∷ [])) (push_constant (make a)) true []) (sym (same a)) h)
