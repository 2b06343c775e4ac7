-- Small programs and what they show: objects, static fields, joins, loops, monitors and handlers.
use Rattle.std.specs.Prelude.{ℕ, ℤ, pos, negsuc, List, [], ◌∷◌, codes, Some, None, ◌++◌, ◌+◌}
use Rattle.class_model.specs.declared.descriptor.FieldType.TheVariants as types
use Rattle.class_model.specs.declared.descriptor.Kind.TheVariants as kinds
use Rattle.class_model.specs.declared.opcodes.TheConstants.{DUP, IADD, IDIV, IFEQ, IFNE, IFLE, IF_ICMPNE, IF_ICMPGE, IFNULL, IFNONNULL}
use Rattle.class_tree.specs.Names.{object}
use Rattle.machine_values.specs.declared.action.Action.{Action}
use Rattle.machine_values.specs.declared.action.Action.TheVariants as actions
use Rattle.machine_values.specs.declared.action.Given.TheVariants as given
use Rattle.machine_values.specs.declared.event.End.TheVariants as ends
use Rattle.machine_values.specs.declared.event.EventKind.TheVariants as events
use Rattle.machine_values.specs.declared.event.Seen.TheVariants as seen
use Rattle.machine_values.specs.declared.value.Value.TheVariants as values
use Rattle.machine_laws.specs.TestPrograms.{reference, member, program, with_code, without_code, class, int, init_of_object, use_of_L, keep_of_L, init_of, super_init, x_of_P, init_of_P, call_y_of_P, P_class, T_fields, shows, event, result_int, new_ref, old_ref, call_T, with_catches, range, shows_in, new_external, result, threw_new, made, asked_use}
use Rattle.member_link.specs.Machine.Ops as ops
use Rattle.member_link.specs.Machine.Ops.{Op}
use Rattle.member_link.specs.Machine.Programs.{Program, RunMethod}
use Rattle.member_link.specs.References.{Reference}

-- static Key last;
-- static int hit(int k) { Key q = new Key(k); if (last != null && q.same(last)) return 1; last =
-- q; return 0; }
abbrev pub key_init : RunMethod
key_init = with_code 0 (codes "<init>") (codes "(I)V") 2 (
    ops.load_local kinds.Ref 0
    ∷ ops.call_special init_of_object object
    ∷ ops.load_local kinds.Ref 0
    ∷ ops.load_local kinds.Int 1
    ∷ ops.put_field (reference (codes "Key") (codes "n") (codes "I")) (Some (codes "Key"))
    ∷ ops.return_nothing
    ∷ []
    )

abbrev pub key_same : RunMethod
key_same = with_code 0 (codes "same") (codes "(LKey;)Z") 2 (
    ops.load_local kinds.Ref 0
    ∷ ops.get_field (reference (codes "Key") (codes "n") (codes "I"))
    ∷ ops.load_local kinds.Ref 1
    ∷ ops.get_field (reference (codes "Key") (codes "n") (codes "I"))
    ∷ ops.jump_by_ints IF_ICMPNE 7
    ∷ int (pos 1)
    ∷ ops.return_value types.Bool
    ∷ int (pos 0)
    ∷ ops.return_value types.Bool
    ∷ []
    )

abbrev pub key_hit : RunMethod
key_hit = with_code 9 (codes "hit") (codes "(I)I") 2 (
    ops.new_object (codes "Key")
    ∷ ops.shuffle_stack DUP
    ∷ ops.load_local kinds.Int 0
    ∷ ops.call_special (reference (codes "Key") (codes "<init>") (codes "(I)V")) (codes "Key")
    ∷ ops.store_local kinds.Ref 1
    ∷ ops.get_static (reference (codes "T") (codes "last") (codes "LKey;"))
    ∷ ops.jump_by_null IFNULL 13
    ∷ ops.load_local kinds.Ref 1
    ∷ ops.get_static (reference (codes "T") (codes "last") (codes "LKey;"))
    ∷ ops.call_virtual (reference (codes "Key") (codes "same") (codes "(LKey;)Z"))
    ∷ ops.jump_by_int IFEQ 13
    ∷ int (pos 1)
    ∷ ops.return_value types.Int
    ∷ ops.load_local kinds.Ref 1
    ∷ ops.put_static (reference (codes "T") (codes "last") (codes "LKey;")) None
    ∷ int (pos 0)
    ∷ ops.return_value types.Int
    ∷ []
    )

abbrev pub key_program : Program
key_program = program (
    class 33 (codes "Key") (member 0 (codes "n") (codes "I") ∷ []) (key_init ∷ key_same ∷ [])
    ∷ T_fields (member 8 (codes "last") (codes "LKey;") ∷ []) (key_hit ∷ [])
    ∷ []
    )

-- static int j(int b) { P p = new P(1, 2); if (b == 2) return 9; if (b == 1) L.use(p); return
-- p.x; }
abbrev pub j_of_T : RunMethod
j_of_T = with_code 9 (codes "j") (codes "(I)I") 2 (
    ops.new_object (codes "P")
    ∷ ops.shuffle_stack DUP
    ∷ int (pos 1)
    ∷ int (pos 2)
    ∷ ops.call_special init_of_P (codes "P")
    ∷ ops.store_local kinds.Ref 1
    ∷ ops.load_local kinds.Int 0
    ∷ int (pos 2)
    ∷ ops.jump_by_ints IF_ICMPNE 11
    ∷ int (pos 9)
    ∷ ops.return_value types.Int
    ∷ ops.load_local kinds.Int 0
    ∷ int (pos 1)
    ∷ ops.jump_by_ints IF_ICMPNE 16
    ∷ ops.load_local kinds.Ref 1
    ∷ ops.call_static use_of_L
    ∷ ops.load_local kinds.Ref 1
    ∷ ops.get_field x_of_P
    ∷ ops.return_value types.Int
    ∷ []
    )

abbrev pub j_program : Program
j_program = program (
    P_class
    ∷ T_fields [] (j_of_T ∷ [])
    ∷ []
    )

-- static int l(int n) { int s = 0; for (int i = 0; i < n; i++) { P p = new P(i, i); s += p.x; }
-- return s; }
abbrev pub l_of_T : RunMethod
l_of_T = with_code 9 (codes "l") (codes "(I)I") 4 (
    int (pos 0)
    ∷ ops.store_local kinds.Int 1
    ∷ int (pos 0)
    ∷ ops.store_local kinds.Int 2
    ∷ ops.load_local kinds.Int 2
    ∷ ops.load_local kinds.Int 0
    ∷ ops.jump_by_ints IF_ICMPGE 20
    ∷ ops.new_object (codes "P")
    ∷ ops.shuffle_stack DUP
    ∷ ops.load_local kinds.Int 2
    ∷ ops.load_local kinds.Int 2
    ∷ ops.call_special init_of_P (codes "P")
    ∷ ops.store_local kinds.Ref 3
    ∷ ops.load_local kinds.Int 1
    ∷ ops.load_local kinds.Ref 3
    ∷ ops.get_field x_of_P
    ∷ ops.pure_arithmetic IADD
    ∷ ops.store_local kinds.Int 1
    ∷ ops.increment_local 2 (pos 1)
    ∷ ops.jump_to 4
    ∷ ops.load_local kinds.Int 1
    ∷ ops.return_value types.Int
    ∷ []
    )

abbrev pub l_program : Program
l_program = program (
    P_class
    ∷ T_fields [] (l_of_T ∷ [])
    ∷ []
    )

-- static int s(int n) { P p = new P(n, 0); synchronized (p) { ..; return p.x; } }, by the operations that stand for .. and the number
-- of the point behind the return
abbrev locking_P : List Op → ℕ → RunMethod
locking_P inside behind = with_catches 9 (codes "s") (codes "(I)I") 4 (
    ops.new_object (codes "P")
    ∷ ops.shuffle_stack DUP
    ∷ ops.load_local kinds.Int 0
    ∷ int (pos 0)
    ∷ ops.call_special init_of_P (codes "P")
    ∷ ops.store_local kinds.Ref 1
    ∷ ops.load_local kinds.Ref 1
    ∷ ops.shuffle_stack DUP
    ∷ ops.store_local kinds.Ref 2
    ∷ ops.enter_monitor
    ∷ (inside
    ++ ops.load_local kinds.Ref 1
    ∷ ops.get_field x_of_P
    ∷ ops.load_local kinds.Ref 2
    ∷ ops.leave_monitor
    ∷ ops.return_value types.Int
    ∷ ops.store_local kinds.Ref 3
    ∷ ops.load_local kinds.Ref 2
    ∷ ops.leave_monitor
    ∷ ops.load_local kinds.Ref 3
    ∷ ops.throw_reference
    ∷ [])
    ) (
    range 10 behind behind None
    ∷ range behind (behind + 3) behind None
    ∷ []
    )

-- .. is L.use(p);
abbrev pub s_of_T : RunMethod
s_of_T = locking_P (ops.load_local kinds.Ref 1 ∷ ops.call_static use_of_L ∷ []) 17

abbrev pub s_program : Program
s_program = program (
    P_class
    ∷ T_fields [] (s_of_T ∷ [])
    ∷ []
    )

-- static int t(int d) {
--   P p = new P(d, 1);
--   if (d == 7) return 7;
--   try { int q = 10 / d; L.use(p); return q; } catch (ArithmeticException e) { return p.x; }
-- }
abbrev pub t_of_T : RunMethod
t_of_T = with_catches 9 (codes "t") (codes "(I)I") 4 (
    ops.new_object (codes "P")
    ∷ ops.shuffle_stack DUP
    ∷ ops.load_local kinds.Int 0
    ∷ int (pos 1)
    ∷ ops.call_special init_of_P (codes "P")
    ∷ ops.store_local kinds.Ref 1
    ∷ ops.load_local kinds.Int 0
    ∷ int (pos 7)
    ∷ ops.jump_by_ints IF_ICMPNE 11
    ∷ int (pos 7)
    ∷ ops.return_value types.Int
    ∷ int (pos 10)
    ∷ ops.load_local kinds.Int 0
    ∷ ops.division IDIV
    ∷ ops.store_local kinds.Int 2
    ∷ ops.load_local kinds.Ref 1
    ∷ ops.call_static use_of_L
    ∷ ops.load_local kinds.Int 2
    ∷ ops.return_value types.Int
    ∷ ops.store_local kinds.Ref 3
    ∷ ops.load_local kinds.Ref 1
    ∷ ops.get_field x_of_P
    ∷ ops.return_value types.Int
    ∷ []
    ) (
    range 11 19 19 (Some (codes "java/lang/ArithmeticException"))
    ∷ []
    )

abbrev pub t_program : Program
t_program = program (
    P_class
    ∷ T_fields [] (t_of_T ∷ [])
    ∷ []
    )

-- a value put into a byte field keeps its low 8 bits
abbrev pub byte_init : RunMethod
byte_init = with_code 0 (codes "<init>") (codes "()V") 1 (
    ops.load_local kinds.Ref 0
    ∷ ops.call_special init_of_object object
    ∷ ops.return_nothing
    ∷ []
    )

abbrev pub byte_f : RunMethod
byte_f = with_code 9 (codes "f") (codes "()I") 1 (
    ops.new_object (codes "B")
    ∷ ops.shuffle_stack DUP
    ∷ ops.call_special (reference (codes "B") (codes "<init>") (codes "()V")) (codes "B")
    ∷ ops.store_local kinds.Ref 0
    ∷ ops.load_local kinds.Ref 0
    ∷ int (pos 300)
    ∷ ops.put_field (reference (codes "B") (codes "b") (codes "B")) None
    ∷ ops.load_local kinds.Ref 0
    ∷ ops.get_field (reference (codes "B") (codes "b") (codes "B"))
    ∷ ops.return_value types.Int
    ∷ []
    )

abbrev pub byte_g : RunMethod
byte_g = with_code 9 (codes "g") (codes "()B") 0 (
    int (pos 300)
    ∷ ops.return_value types.Byte
    ∷ []
    )

abbrev pub byte_program : Program
byte_program = program (
    class 33 (codes "B") (member 0 (codes "b") (codes "B") ∷ []) (byte_init ∷ [])
    ∷ T_fields [] (byte_f ∷ byte_g ∷ [])
    ∷ []
    )

-- static int f(int a) { P p = new P(a, 2); return p.x + p.y(); }
abbrev pub f_of_T : RunMethod
f_of_T = with_code 9 (codes "f") (codes "(I)I") 2 (
    ops.new_object (codes "P")
    ∷ ops.shuffle_stack DUP
    ∷ ops.load_local kinds.Int 0
    ∷ int (pos 2)
    ∷ ops.call_special init_of_P (codes "P")
    ∷ ops.store_local kinds.Ref 1
    ∷ ops.load_local kinds.Ref 1
    ∷ ops.get_field x_of_P
    ∷ ops.load_local kinds.Ref 1
    ∷ ops.call_virtual call_y_of_P
    ∷ ops.pure_arithmetic IADD
    ∷ ops.return_value types.Int
    ∷ []
    )

abbrev pub f_program : Program
f_program = program (P_class ∷ T_fields [] (f_of_T ∷ []) ∷ [])

-- static int c(int n) { P p = new P(0, 0); while (n-- > 0) p = new P(p.x + 1, 0); return p.x; }
abbrev pub c_of_T : RunMethod
c_of_T = with_code 9 (codes "c") (codes "(I)I") 2 (
    ops.new_object (codes "P")
    ∷ ops.shuffle_stack DUP
    ∷ int (pos 0)
    ∷ int (pos 0)
    ∷ ops.call_special init_of_P (codes "P")
    ∷ ops.store_local kinds.Ref 1
    ∷ ops.load_local kinds.Int 0
    ∷ ops.increment_local 0 (negsuc 0)
    ∷ ops.jump_by_int IFLE 19
    ∷ ops.new_object (codes "P")
    ∷ ops.shuffle_stack DUP
    ∷ ops.load_local kinds.Ref 1
    ∷ ops.get_field x_of_P
    ∷ int (pos 1)
    ∷ ops.pure_arithmetic IADD
    ∷ int (pos 0)
    ∷ ops.call_special init_of_P (codes "P")
    ∷ ops.store_local kinds.Ref 1
    ∷ ops.jump_to 6
    ∷ ops.load_local kinds.Ref 1
    ∷ ops.get_field x_of_P
    ∷ ops.return_value types.Int
    ∷ []
    )

abbrev pub c_program : Program
c_program = program (P_class ∷ T_fields [] (c_of_T ∷ []) ∷ [])

-- nothing stands for ..
abbrev pub locking_s : RunMethod
locking_s = locking_P [] 15

abbrev pub locking_program : Program
locking_program = program (P_class ∷ T_fields [] (locking_s ∷ []) ∷ [])

-- class A { B b; } class B { A a; }
-- static int y() { A a = new A(); B b = new B(); a.b = b; b.a = a; return 1; }
abbrev pub cycle_y : RunMethod
cycle_y = with_code 9 (codes "y") (codes "()I") 2 (
    ops.new_object (codes "A")
    ∷ ops.shuffle_stack DUP
    ∷ ops.call_special (init_of (codes "A")) (codes "A")
    ∷ ops.store_local kinds.Ref 0
    ∷ ops.new_object (codes "B")
    ∷ ops.shuffle_stack DUP
    ∷ ops.call_special (init_of (codes "B")) (codes "B")
    ∷ ops.store_local kinds.Ref 1
    ∷ ops.load_local kinds.Ref 0
    ∷ ops.load_local kinds.Ref 1
    ∷ ops.put_field (reference (codes "A") (codes "b") (codes "LB;")) None
    ∷ ops.load_local kinds.Ref 1
    ∷ ops.load_local kinds.Ref 0
    ∷ ops.put_field (reference (codes "B") (codes "a") (codes "LA;")) None
    ∷ int (pos 1)
    ∷ ops.return_value types.Int
    ∷ []
    )

abbrev pub cycle_program : Program
cycle_program = program (
    class 33 (codes "A") (member 0 (codes "b") (codes "LB;") ∷ []) (super_init object ∷ [])
    ∷ class 33 (codes "B") (member 0 (codes "a") (codes "LA;") ∷ []) (super_init object ∷ [])
    ∷ T_fields [] (cycle_y ∷ [])
    ∷ []
    )

-- class Box { Object v; Box(Object a) { v = a; } }
abbrev pub init_of_Box : Reference
init_of_Box = reference (codes "Box") (codes "<init>") (codes "(Ljava/lang/Object;)V")

abbrev pub v_of_Box : Reference
v_of_Box = reference (codes "Box") (codes "v") (codes "Ljava/lang/Object;")

abbrev pub Box_init : RunMethod
Box_init = with_code 0 (codes "<init>") init_of_Box.desc 2 (
    ops.load_local kinds.Ref 0
    ∷ ops.call_special init_of_object object
    ∷ ops.load_local kinds.Ref 0
    ∷ ops.load_local kinds.Ref 1
    ∷ ops.put_field v_of_Box (Some (codes "Box"))
    ∷ ops.return_nothing
    ∷ []
    )

-- static int o() { Box b = new Box(new Box(null)); L.use(b.v); return 1; }
abbrev pub box_o : RunMethod
box_o = with_code 9 (codes "o") (codes "()I") 1 (
    ops.new_object (codes "Box")
    ∷ ops.shuffle_stack DUP
    ∷ ops.new_object (codes "Box")
    ∷ ops.shuffle_stack DUP
    ∷ ops.push_value values.Null
    ∷ ops.call_special init_of_Box (codes "Box")
    ∷ ops.call_special init_of_Box (codes "Box")
    ∷ ops.store_local kinds.Ref 0
    ∷ ops.load_local kinds.Ref 0
    ∷ ops.get_field v_of_Box
    ∷ ops.call_static use_of_L
    ∷ int (pos 1)
    ∷ ops.return_value types.Int
    ∷ []
    )

abbrev pub take_of_T : Reference
take_of_T = reference (codes "T") (codes "take") (codes "(LI;)I")

-- static int take(I i) { return 1; }
abbrev pub box_take : RunMethod
box_take =
    with_code 9 take_of_T.name take_of_T.desc 1 (int (pos 1) ∷ ops.return_value types.Int ∷ [])

-- an int[1] goes through a Box to a parameter of an interface type
abbrev pub box_a : RunMethod
box_a = with_code 9 (codes "a") (codes "()I") 1 (
    ops.new_object (codes "Box")
    ∷ ops.shuffle_stack DUP
    ∷ int (pos 1)
    ∷ ops.new_array (codes "[I")
    ∷ ops.call_special init_of_Box (codes "Box")
    ∷ ops.get_field v_of_Box
    ∷ ops.call_static take_of_T
    ∷ ops.return_value types.Int
    ∷ []
    )

abbrev pub box_program : Program
box_program = program (
    class 33 (codes "Box") (member 0 (codes "v") (codes "Ljava/lang/Object;") ∷ []) (Box_init ∷ [])
    ∷ class 1537 (codes "I") [] []
    ∷ T_fields [] (box_o ∷ box_take ∷ box_a ∷ [])
    ∷ []
    )

-- static int n() { P p = new P(1, 2); if (p == null) return 1; Object q = p; if (!(q instanceof
-- P)) return 2; return 3; }
abbrev pub n_of_T : RunMethod
n_of_T = with_code 9 (codes "n") (codes "()I") 2 (
    ops.new_object (codes "P")
    ∷ ops.shuffle_stack DUP
    ∷ int (pos 1)
    ∷ int (pos 2)
    ∷ ops.call_special init_of_P (codes "P")
    ∷ ops.store_local kinds.Ref 0
    ∷ ops.load_local kinds.Ref 0
    ∷ ops.jump_by_null IFNONNULL 10
    ∷ int (pos 1)
    ∷ ops.return_value types.Int
    ∷ ops.load_local kinds.Ref 0
    ∷ ops.store_local kinds.Ref 1
    ∷ ops.load_local kinds.Ref 1
    ∷ ops.instance_of (codes "P")
    ∷ ops.jump_by_int IFNE 17
    ∷ int (pos 2)
    ∷ ops.return_value types.Int
    ∷ int (pos 3)
    ∷ ops.return_value types.Int
    ∷ []
    )

-- static int g(P p) { P q = new P(1, 1); return p.y() + q.x; }
abbrev pub g_of_T : RunMethod
g_of_T = with_code 9 (codes "g") (codes "(LP;)I") 2 (
    ops.new_object (codes "P")
    ∷ ops.shuffle_stack DUP
    ∷ int (pos 1)
    ∷ int (pos 1)
    ∷ ops.call_special init_of_P (codes "P")
    ∷ ops.store_local kinds.Ref 1
    ∷ ops.load_local kinds.Ref 0
    ∷ ops.call_virtual call_y_of_P
    ∷ ops.load_local kinds.Ref 1
    ∷ ops.get_field x_of_P
    ∷ ops.pure_arithmetic IADD
    ∷ ops.return_value types.Int
    ∷ []
    )

abbrev pub null_program : Program
null_program = program (P_class ∷ T_fields [] (n_of_T ∷ g_of_T ∷ []) ∷ [])

-- class Q { private int z; Q(int a) { z = a; } int z() { return z; } }
abbrev pub z_of_Q : Reference
z_of_Q = reference (codes "Q") (codes "z") (codes "I")

abbrev pub init_of_Q : Reference
init_of_Q = reference (codes "Q") (codes "<init>") (codes "(I)V")

abbrev pub call_z_of_Q : Reference
call_z_of_Q = reference (codes "Q") (codes "z") (codes "()I")

abbrev pub Q_init : RunMethod
Q_init = with_code 0 (codes "<init>") (codes "(I)V") 2 (
    ops.load_local kinds.Ref 0
    ∷ ops.call_special init_of_object object
    ∷ ops.load_local kinds.Ref 0
    ∷ ops.load_local kinds.Int 1
    ∷ ops.put_field z_of_Q (Some (codes "Q"))
    ∷ ops.return_nothing
    ∷ []
    )

abbrev pub Q_z : RunMethod
Q_z = with_code 0 (codes "z") (codes "()I") 1 (
    ops.load_local kinds.Ref 0
    ∷ ops.get_field z_of_Q
    ∷ ops.return_value types.Int
    ∷ []
    )

-- static Q make(int a) { return new Q(a); }
abbrev pub private_make : RunMethod
private_make = with_code 9 (codes "make") (codes "(I)LQ;") 1 (
    ops.new_object (codes "Q")
    ∷ ops.shuffle_stack DUP
    ∷ ops.load_local kinds.Int 0
    ∷ ops.call_special init_of_Q (codes "Q")
    ∷ ops.return_value (types.Named (codes "Q"))
    ∷ []
    )

-- static int h(Q r) { Q q = new Q(1); return r.z() + q.z(); }
abbrev pub private_h : RunMethod
private_h = with_code 9 (codes "h") (codes "(LQ;)I") 2 (
    ops.new_object (codes "Q")
    ∷ ops.shuffle_stack DUP
    ∷ int (pos 1)
    ∷ ops.call_special init_of_Q (codes "Q")
    ∷ ops.store_local kinds.Ref 1
    ∷ ops.load_local kinds.Ref 0
    ∷ ops.call_virtual call_z_of_Q
    ∷ ops.load_local kinds.Ref 1
    ∷ ops.call_virtual call_z_of_Q
    ∷ ops.pure_arithmetic IADD
    ∷ ops.return_value types.Int
    ∷ []
    )

abbrev pub private_program : Program
private_program = program (
    class 32 (codes "Q") (member 2 (codes "z") (codes "I") ∷ []) (Q_init ∷ Q_z ∷ [])
    ∷ T_fields [] (private_make ∷ private_h ∷ [])
    ∷ []
    )

-- interface F { int get(); }
-- static int w(int a) { P p = new P(a, 0); if (a == 0) return 0; F f = () -> p.x; L.keep(f);
-- return 1; }
abbrev pub lambda_w : RunMethod
lambda_w = with_code 9 (codes "w") (codes "(I)I") 3 (
    ops.new_object (codes "P")
    ∷ ops.shuffle_stack DUP
    ∷ ops.load_local kinds.Int 0
    ∷ int (pos 0)
    ∷ ops.call_special init_of_P (codes "P")
    ∷ ops.store_local kinds.Ref 1
    ∷ ops.load_local kinds.Int 0
    ∷ ops.jump_by_int IFNE 10
    ∷ int (pos 0)
    ∷ ops.return_value types.Int
    ∷ ops.load_local kinds.Ref 1
    ∷ ops.call_dynamic (codes "T") 0 (codes "get") (codes "(LP;)LF;")
    ∷ ops.store_local kinds.Ref 2
    ∷ ops.load_local kinds.Ref 2
    ∷ ops.call_static keep_of_L
    ∷ int (pos 1)
    ∷ ops.return_value types.Int
    ∷ []
    )

-- private static int lambda$w$0(P p) { return p.x; }
abbrev pub lambda_body : RunMethod
lambda_body = with_code 4106 (codes "lambda$w$0") (codes "(LP;)I") 1 (
    ops.load_local kinds.Ref 0
    ∷ ops.get_field x_of_P
    ∷ ops.return_value types.Int
    ∷ []
    )

abbrev pub lambda_program : Program
lambda_program = program (
    P_class
    ∷ class 1536 (codes "F") [] (without_code 1025 (codes "get") (codes "()I") ∷ [])
    ∷ T_fields [] (lambda_w ∷ lambda_body ∷ [])
    ∷ []
    )

-- one call of a method of T on an int, and then the end
abbrev pub calls_int : List ℕ → ℤ → List Action
calls_int name number = call_T name (codes "(I)I") (given.Int number ∷ []) ∷ actions.Stop ∷ []

abbrev pub calls_nothing : List ℕ → List Action
calls_nothing name = call_T name (codes "()I") [] ∷ actions.Stop ∷ []

pub record RunWorkedPrograms : Type 0 where
  pub key_shows : shows key_program (
      call_T (codes "hit") (codes "(I)I") (given.Int (pos 3) ∷ [])
      ∷ call_T (codes "hit") (codes "(I)I") (given.Int (pos 3) ∷ [])
      ∷ actions.Stop
      ∷ []
      ) (result_int (pos 0) 1 0 [] ∷ result_int (pos 1) 2 0 [] ∷ []) ends.Stopped
  pub j_2 : shows j_program (
      call_T (codes "j") (codes "(I)I") (given.Int (pos 2) ∷ [])
      ∷ actions.Stop
      ∷ []
      ) (result_int (pos 9) 1 0 [] ∷ []) ends.Stopped
  pub j_1 : shows j_program (
      call_T (codes "j") (codes "(I)I") (given.Int (pos 1) ∷ [])
      ∷ actions.Return None
      ∷ actions.Stop
      ∷ []
      ) (
      asked_use (seen.Ref (new_ref 0 (codes "P"))) 1 0 (0 ∷ [])
      ∷ result_int (pos 1) 1 0 (0 ∷ [])
      ∷ []
      ) ends.Stopped
  pub j_0 : shows j_program (
      call_T (codes "j") (codes "(I)I") (given.Int (pos 0) ∷ [])
      ∷ actions.Stop
      ∷ []
      ) (result_int (pos 1) 1 0 [] ∷ []) ends.Stopped
  pub l_4 : shows_in l_program 400 (
      call_T (codes "l") (codes "(I)I") (given.Int (pos 4) ∷ [])
      ∷ actions.Stop
      ∷ []
      ) (result_int (pos 6) 4 0 [] ∷ []) ends.Stopped
  pub s_holds : shows s_program (
      call_T (codes "s") (codes "(I)I") (given.Int (pos 5) ∷ [])
      ∷ actions.Return None
      ∷ actions.Stop
      ∷ []
      ) (
      asked_use (seen.Ref (new_ref 0 (codes "P"))) 1 1 (1 ∷ [])
      ∷ result_int (pos 5) 1 1 (0 ∷ [])
      ∷ []
      ) ends.Stopped
  -- an exception leaves the monitor by the handler
  pub s_thrown : shows s_program (
      call_T (codes "s") (codes "(I)I") (given.Int (pos 5) ∷ [])
      ∷ actions.NewExternal (codes "java/lang/ArithmeticException") []
      ∷ actions.Throw 1
      ∷ actions.Stop
      ∷ []
      ) (
      asked_use (seen.Ref (new_ref 0 (codes "P"))) 1 1 (1 ∷ [])
      ∷ made 1 (codes "java/lang/ArithmeticException") 1 1 (1 ∷ 0 ∷ [])
      ∷ event (events.Threw (old_ref 1)) 1 1 (0 ∷ 0 ∷ [])
      ∷ []
      ) ends.Stopped
  pub t_0 : shows t_program (
      call_T (codes "t") (codes "(I)I") (given.Int (pos 0) ∷ [])
      ∷ actions.Stop
      ∷ []
      ) (result_int (pos 0) 1 0 [] ∷ []) ends.Stopped
  pub t_5 : shows t_program (
      call_T (codes "t") (codes "(I)I") (given.Int (pos 5) ∷ [])
      ∷ actions.NewExternal (codes "java/lang/ArithmeticException") []
      ∷ actions.Throw 1
      ∷ actions.Stop
      ∷ []
      ) (
      asked_use (seen.Ref (new_ref 0 (codes "P"))) 1 0 (0 ∷ [])
      ∷ made 1 (codes "java/lang/ArithmeticException") 1 0 (0 ∷ 0 ∷ [])
      ∷ result_int (pos 5) 1 0 (0 ∷ 0 ∷ [])
      ∷ []
      ) ends.Stopped
  pub byte_field : shows byte_program (call_T (codes "f") (codes "()I") [] ∷ actions.Stop ∷ []) (
      result_int (pos 44) 1 0 []
      ∷ []
      ) ends.Stopped
  pub byte_return : shows byte_program (call_T (codes "g") (codes "()B") [] ∷ actions.Stop ∷ []) (
      result_int (pos 44) 0 0 []
      ∷ []
      ) ends.Stopped
  pub t_7 : shows t_program (calls_int (codes "t") (pos 7)) (result_int (pos 7) 1 0 [] ∷ [])
      ends.Stopped
  pub f_5 : shows f_program (calls_int (codes "f") (pos 5)) (result_int (pos 7) 1 0 [] ∷ [])
      ends.Stopped
  pub no_actions : shows f_program [] [] ends.Waits
  pub one_step : shows_in f_program 1 (calls_int (codes "f") (pos 5)) [] ends.Running
  pub nothing_to_return : shows f_program (actions.Return None ∷ []) [] (ends.LibraryFault 0)
  pub c_3 : shows c_program (calls_int (codes "c") (pos 3)) (result_int (pos 3) 4 0 [] ∷ [])
      ends.Stopped
  pub s_5 : shows locking_program (calls_int (codes "s") (pos 5)) (result_int (pos 5) 1 1 [] ∷ [])
      ends.Stopped
  pub cycle : shows cycle_program (calls_nothing (codes "y")) (result_int (pos 1) 2 0 [] ∷ [])
      ends.Stopped
  pub inner_box : shows box_program (
      call_T (codes "o") (codes "()I") []
      ∷ actions.Return None
      ∷ actions.Stop
      ∷ []
      ) (
      asked_use (seen.Ref (new_ref 0 (codes "Box"))) 2 0 (0 ∷ [])
      ∷ result_int (pos 1) 2 0 (0 ∷ [])
      ∷ []
      ) ends.Stopped
  pub array_as_interface : shows box_program (calls_nothing (codes "a"))
      (result_int (pos 1) 2 0 [] ∷ []) ends.Stopped
  pub not_null : shows null_program (calls_nothing (codes "n")) (result_int (pos 3) 1 0 [] ∷ [])
      ends.Stopped
  pub null_receiver : shows null_program
      (call_T (codes "g") (codes "(LP;)I") (given.Null ∷ []) ∷ actions.Stop ∷ [])
      (threw_new 0 (codes "java/lang/NullPointerException") 1 0 (0 ∷ []) ∷ []) ends.Stopped
  pub private_field : shows private_program (
      call_T (codes "make") (codes "(I)LQ;") (given.Int (pos 4) ∷ [])
      ∷ call_T (codes "h") (codes "(LQ;)I") (given.Known 0 ∷ [])
      ∷ actions.Stop
      ∷ []
      ) (
      result (seen.Ref (new_ref 0 (codes "Q"))) 1 0 (0 ∷ [])
      ∷ result_int (pos 5) 2 0 (0 ∷ [])
      ∷ []
      ) ends.Stopped
  -- the library answers a dynamic call with an object of its own, and calls back while it is asked
  pub lambda : shows lambda_program (
      call_T (codes "w") (codes "(I)I") (given.Int (pos 3) ∷ [])
      ∷ actions.NewExternal object (codes "F" ∷ [])
      ∷ actions.Return (Some (given.Known 1))
      ∷ call_T (codes "lambda$w$0") (codes "(LP;)I") (given.Known 0 ∷ [])
      ∷ actions.Return None
      ∷ actions.Stop
      ∷ []
      ) (
      event
      (events.Dynamic (codes "T") 0 (codes "get") (codes "(LP;)LF;")
      (seen.Ref (new_ref 0 (codes "P")) ∷ [])) 1 0 (0 ∷ [])
      ∷ event (events.Made (new_external 1 object (codes "F" ∷ []))) 1 0 (0 ∷ 0 ∷ [])
      ∷ event (events.Call (codes "L") (codes "keep") keep_of_L.desc (seen.Ref (old_ref 1) ∷ [])) 1
      0 (0 ∷ 0 ∷ [])
      ∷ result_int (pos 3) 1 0 (0 ∷ 0 ∷ [])
      ∷ result_int (pos 1) 1 0 (0 ∷ 0 ∷ [])
      ∷ []
      ) ends.Stopped
  pub no_lambda : shows lambda_program (calls_int (codes "w") (pos 0))
      (result_int (pos 0) 1 0 [] ∷ []) ends.Stopped
