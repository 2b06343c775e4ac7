-- Small programs and what they show: calls that select nothing, several defaults, or what is not
-- public; interfaces; a superclass's method; signature polymorphic methods; switches; and the
-- classes and monitors that calls begin and enter.
use Rattle.std.specs.Prelude.{◌≡◌, ℕ, ℤ, pos, negsuc, List, [], ◌∷◌, false, bytes_eq, codes, Some, None, if◌then◌else◌}
use Rattle.class_model.specs.declared.descriptor.FieldType.TheVariants as types
use Rattle.class_model.specs.declared.descriptor.Kind.TheVariants as kinds
use Rattle.class_model.specs.declared.header.Header.{Header}
use Rattle.class_model.specs.declared.opcodes.TheConstants.{DUP, IADD, INVOKESPECIAL}
use Rattle.class_tree.specs.Headers.{Name}
use Rattle.class_tree.specs.Names.{object, method_handle}
use Rattle.machine_values.specs.declared.action.Action.{Action}
use Rattle.machine_values.specs.declared.action.Action.TheVariants as actions
use Rattle.machine_values.specs.declared.action.Given.TheVariants as given
use Rattle.machine_values.specs.declared.event.End.TheVariants as ends
use Rattle.machine_values.specs.declared.event.Event.{Event}
use Rattle.machine_values.specs.declared.event.EventKind.TheVariants as events
use Rattle.machine_values.specs.declared.event.Seen.{Seen}
use Rattle.machine_values.specs.declared.event.Seen.TheVariants as seen
use Rattle.machine_values.specs.declared.object.Constant.TheVariants as constants
use Rattle.machine_values.specs.declared.value.Value.TheVariants as values
use Rattle.machine_laws.specs.TestPrograms.{reference, member, library_class, base, program, with_code, without_code, class_above, class, int, use_of_L, init_of, super_init, made_by_library, init_of_P, P_class, T_fields, shows, event, result_int, new_ref, old_ref, call_T, string_ref, result, threw_new, asked_use}
use Rattle.member_link.specs.Machine.Codes.{call_op}
use Rattle.member_link.specs.Machine.Ops as ops
use Rattle.member_link.specs.Machine.Ops.{Op}
use Rattle.member_link.specs.Machine.Programs.{Program, RunClass, RunMethod, Links, Chosen, abstract_method, several_defaults, not_public, headers_in}
use Rattle.member_link.specs.References.{Reference}
use Rattle.member_link.specs.RowScope.{RowScope}

-- ---- what a selection answers

-- new P(1, 2)
abbrev pub new_P : List Op → List Op
new_P rest =
    ops.new_object (codes "P")
    ∷ ops.shuffle_stack DUP
    ∷ int (pos 1)
    ∷ int (pos 2)
    ∷ ops.call_special init_of_P (codes "P")
    ∷ rest

abbrev pub y_of : Name → Reference
y_of class = reference class (codes "y") (codes "()I")

abbrev pub Q_y : RunMethod
Q_y = with_code 1 (codes "y") (codes "()I") 1 (int (pos 7) ∷ ops.return_value types.Int ∷ [])

-- new P(1, 2).y()
abbrev pub calling_p : RunMethod
calling_p = with_code 9 (codes "p") (codes "()I") 0 (
    new_P (ops.call_virtual (y_of (codes "P")) ∷ ops.return_value types.Int ∷ [])
    )

-- the same by interface I
abbrev pub calling_i : RunMethod
calling_i = with_code 9 (codes "i") (codes "()I") 0 (
    new_P (ops.call_interface (y_of (codes "I")) ∷ ops.return_value types.Int ∷ [])
    )

abbrev pub calling_q : RunMethod
calling_q = with_code 9 (codes "q") (codes "()I") 0 (
    ops.new_object (codes "Q")
    ∷ ops.shuffle_stack DUP
    ∷ ops.call_special (init_of (codes "Q")) (codes "Q")
    ∷ ops.call_interface (y_of (codes "I"))
    ∷ ops.return_value types.Int
    ∷ []
    )

abbrev pub calling_null : RunMethod
calling_null = with_code 9 (codes "null") (codes "()I") 0 (
    ops.push_value values.Null
    ∷ ops.call_interface (y_of (codes "I"))
    ∷ ops.return_value types.Int
    ∷ []
    )

-- an interface I, a class Q that implements it, and a class T that calls y of P and of I
abbrev pub calling_program : Program
calling_program = program (
    P_class
    ∷ class 1537 (codes "I") [] (without_code 1025 (codes "y") (codes "()I") ∷ [])
    ∷ class_above 33 (codes "Q") object (codes "I" ∷ []) [] (super_init object ∷ Q_y ∷ [])
    ∷ T_fields [] (calling_p ∷ calling_i ∷ calling_q ∷ calling_null ∷ [])
    ∷ []
    )

-- the same where each selection answers this
abbrev pub choosing : Chosen → Program
choosing choice = record calling_program {
  links = record calling_program.links { select = λ receiver method form. choice };
}

abbrev pub call_y : List ℕ → Action
call_y name = call_T name (codes "()I") []

-- T.p and T.i end in this throwable
abbrev pub throws_behind : Program → List ℕ → Name → Type 0
throws_behind P name class =
    shows P (call_y name ∷ actions.Stop ∷ []) (threw_new 0 class 1 0 (0 ∷ []) ∷ []) ends.Stopped

-- ---- calls of a superclass's method

-- int NAME() { return CALL + number; }, of a call on this
abbrev pub adding : List ℕ → Op → ℤ → RunMethod
adding name call number = with_code 1 name (codes "()I") 1 (
    ops.load_local kinds.Ref 0
    ∷ call
    ∷ int number
    ∷ ops.pure_arithmetic IADD
    ∷ ops.return_value types.Int
    ∷ []
    )

abbrev pub m_of : Name → Reference
m_of class = reference class (codes "m") (codes "()I")

abbrev pub top_m : RunMethod
top_m = with_code 1 (codes "m") (codes "()I") 1 (int (pos 1) ∷ ops.return_value types.Int ∷ [])

-- static int NAME() { return new CLASS().method(); }
abbrev pub calling_new : List ℕ → Name → List ℕ → RunMethod
calling_new name class method = with_code 9 name (codes "()I") 0 (
    ops.new_object class
    ∷ ops.shuffle_stack DUP
    ∷ ops.call_special (init_of class) class
    ∷ ops.call_virtual (reference class method (codes "()I"))
    ∷ ops.return_value types.Int
    ∷ []
    )

-- class Low extends Middle { int m() { return super.m() + 100; } }, where far names the m of Top
abbrev pub low_class : RunClass
low_class = class_above 33 (codes "Low") (codes "Middle") [] [] (
    super_init (codes "Middle")
    ∷ adding (codes "m") (ops.call_special (m_of (codes "Middle")) (codes "Middle")) (pos 100)
    ∷ adding (codes "far") (ops.call_special (m_of (codes "Top")) (codes "Middle")) (pos 1000)
    ∷ []
    )

-- class Top { int m() { return 1; } }
-- class Middle extends Top { int m() { return super.m() + 10; } }
abbrev pub super_program : Program
super_program = program (
    class 33 (codes "Top") [] (super_init object ∷ top_m ∷ [])
    ∷ class_above 33 (codes "Middle") (codes "Top") [] [] (
    super_init (codes "Top")
    ∷ adding (codes "m") (ops.call_special (m_of (codes "Top")) (codes "Top")) (pos 10)
    ∷ []
    )
    ∷ low_class
    ∷ class 1537 (codes "I") [] []
    ∷ T_fields [] (
    calling_new (codes "middle") (codes "Middle") (codes "m")
    ∷ calling_new (codes "low") (codes "Low") (codes "m")
    ∷ calling_new (codes "far") (codes "Low") (codes "far")
    ∷ []
    )
    ∷ []
    )

abbrev pub super_gives : List ℕ → ℤ → Type 0
super_gives name answer = shows super_program (call_y name ∷ actions.Stop ∷ [])
    (result_int answer 1 0 [] ∷ []) ends.Stopped

-- the instruction invokespecial in class Low, of the method m of a class, starts its selection at
-- this class
abbrev pub low_scope : RowScope
low_scope = record {
  headers = headers_in super_program;
  pool = [];
  major = 52;
  own = low_class.header;
  is_init = false;
  is_clinit = false;
  result = Some types.Int;
  max_stack = 2;
  new_class = λ place. None;
}

abbrev pub starts_at : Name → Name → Type 0
starts_at named start =
    call_op super_program.links low_scope INVOKESPECIAL (m_of named)
    ≡ ops.call_special (m_of named) start

-- ---- signature polymorphic methods

abbrev pub any_invoke : Reference
any_invoke =
    reference method_handle (codes "invoke") (codes "([Ljava/lang/Object;)Ljava/lang/Object;")

abbrev pub invoke_int : Reference
invoke_int = reference method_handle (codes "invoke") (codes "(I)I")

abbrev pub A_invoke : RunMethod
A_invoke = with_code 1 (codes "invoke") any_invoke.desc 2 (
    ops.push_value values.Null
    ∷ ops.return_value (types.Named object)
    ∷ []
    )

abbrev pub A_m : Op → RunMethod
A_m call = with_code 1 (codes "m") (codes "(I)I") 2 (
    ops.load_local kinds.Ref 0
    ∷ ops.load_local kinds.Int 1
    ∷ call
    ∷ ops.return_value types.Int
    ∷ []
    )

-- class A below MethodHandle, with a method invoke of its own, and a method m that does a call
abbrev pub A_class : Op → RunClass
A_class call = made_by_library (codes "A")
    (class_above 33 (codes "A") method_handle [] []
    (super_init method_handle ∷ A_invoke ∷ A_m call ∷ []))

-- the library's MethodHandle, with a method invoke of these flags
abbrev pub handle_class : ℕ → Header
handle_class flags = library_class method_handle (Some object) 33 (
    member 1 (codes "<init>") (codes "()V")
    ∷ member flags (codes "invoke") any_invoke.desc
    ∷ []
    )

-- invoke is found under each descriptor
abbrev pub finding_invoke : Links → Links
finding_invoke links = record links {
  method = λ named.
      if bytes_eq named.name (codes "invoke") then Some any_invoke else links.method named;
}

abbrev pub invoking : ℕ → Op → Program
invoking flags call = of (program (A_class call ∷ [])) where
  of : Program → Program
  of P = record P { library = handle_class flags ∷ base; links = finding_invoke P.links }

abbrev pub asked_handle : List ℕ → List ℕ → List Seen → Event
asked_handle name desc shown = event (events.Call method_handle name desc shown) 0 0 (0 ∷ [])

abbrev pub call_init : Event
call_init = asked_handle (codes "<init>") (codes "()V") (seen.Ref (new_ref 0 (codes "A")) ∷ [])

-- new A(), and its m(5), of which the library is asked
abbrev pub call_m : List Action
call_m =
    actions.Construct (codes "A") (codes "()V") []
    ∷ actions.Return None
    ∷ actions.Call (codes "A") (codes "m") (codes "(I)I") (given.Known 0 ∷ given.Int (pos 5) ∷ [])
    ∷ actions.Return (Some (given.Int (pos 3)))
    ∷ actions.Stop
    ∷ []

abbrev pub asks_of_invoke : Program → Type 0
asks_of_invoke P = shows P call_m (
    call_init
    ∷ result (seen.Ref (old_ref 0)) 0 0 (0 ∷ [])
    ∷ asked_handle (codes "invoke") (codes "(I)I") (seen.Ref (old_ref 0) ∷ seen.Int (pos 5) ∷ [])
    ∷ result_int (pos 3) 0 0 (0 ∷ [])
    ∷ []
    ) ends.Stopped

-- the same of a static method invoke, whose receiver stays on the stack below
abbrev pub asks_of_static_invoke : Program → Type 0
asks_of_static_invoke P = shows P call_m (
    call_init
    ∷ result (seen.Ref (old_ref 0)) 0 0 (0 ∷ [])
    ∷ asked_handle (codes "invoke") (codes "(I)I") (seen.Int (pos 5) ∷ [])
    ∷ result_int (pos 3) 0 0 (0 ∷ [])
    ∷ []
    ) ends.Stopped

-- ---- an abstract instance initialiser of the library

abbrev pub above_class : Header
above_class = library_class (codes "Above") (Some object) 1057
    (member 1025 (codes "<init>") (codes "()V") ∷ [])

abbrev pub B_class : RunClass
B_class =
    made_by_library (codes "B")
    (class_above 33 (codes "B") (codes "Above") [] [] (super_init (codes "Above") ∷ []))

abbrev pub abstract_super : Program
abstract_super = of (program (B_class ∷ [])) where
  of : Program → Program
  of P = record P { library = above_class ∷ base }

-- ---- switches, fields of the library, and monitors

abbrev pub two_ways : Op → List Op
two_ways switch =
    ops.load_local kinds.Int 0
    ∷ switch
    ∷ int (pos 9)
    ∷ ops.return_value types.Int
    ∷ int (pos 1)
    ∷ ops.return_value types.Int
    ∷ int (pos 2)
    ∷ ops.return_value types.Int
    ∷ []

abbrev pub others_table : RunMethod
others_table = with_code 9 (codes "table") (codes "(I)I") 1
    (two_ways (ops.table_switch (pos 1) 2 (4 ∷ 6 ∷ [])))

abbrev pub others_lookup : RunMethod
others_lookup = with_code 9 (codes "lookup") (codes "(I)I") 1 (
    two_ways (ops.lookup_switch 2 (
    record { key = negsuc 4; to = 4 }
    ∷ record { key = pos 1000; to = 6 }
    ∷ []
    ))
    )

abbrev pub others_put : RunMethod
others_put = with_code 9 (codes "put") (codes "(I)V") 1 (
    ops.load_local kinds.Int 0
    ∷ ops.put_static (reference (codes "L") (codes "n") (codes "I")) None
    ∷ ops.return_nothing
    ∷ []
    )

abbrev pub others_n : RunMethod
others_n = with_code 9 (codes "n") (codes "()V") 0 (
    ops.call_static (reference (codes "T") (codes "native") (codes "()V"))
    ∷ ops.return_nothing
    ∷ []
    )

-- reads the static field x of a class
abbrev pub reading : List ℕ → Name → RunMethod
reading name class = with_code 9 name (codes "()I") 0 (
    ops.get_static (reference class (codes "x") (codes "I"))
    ∷ ops.return_value types.Int
    ∷ []
    )

-- a class initialiser of these flags that calls L.use of what it pushes
abbrev pub using : ℕ → Op → RunMethod
using flags pushes = with_code flags (codes "<clinit>") (codes "()V") 0
    (pushes ∷ ops.call_static use_of_L ∷ ops.return_nothing ∷ [])

abbrev pub using_text : List ℕ → RunMethod
using_text text = using 8 (ops.push_constant (constants.Str text))

abbrev pub J_z : RunMethod
J_z = with_code 1 (codes "z") (codes "()I") 1 (int (pos 0) ∷ ops.return_value types.Int ∷ [])

-- class C has a synchronized class initialiser; interface J a default method, and K none; D
-- implements both
abbrev pub others_program : Program
others_program = program (
    T_fields [] (
    others_table
    ∷ others_lookup
    ∷ others_put
    ∷ without_code 297 (codes "native") (codes "()V")
    ∷ others_n
    ∷ reading (codes "c") (codes "C")
    ∷ reading (codes "d") (codes "D")
    ∷ []
    )
    ∷ class 33 (codes "C") (member 8 (codes "x") (codes "I") ∷ [])
    (using 40 (ops.push_value values.Null) ∷ [])
    ∷ class 1537 (codes "J") [] (J_z ∷ using_text (codes "J") ∷ [])
    ∷ class 1537 (codes "K") []
    (without_code 1025 (codes "w") (codes "()I") ∷ using_text (codes "K") ∷ [])
    ∷ class_above 33 (codes "D") object (codes "K" ∷ codes "J" ∷ [])
    (member 8 (codes "x") (codes "I") ∷ []) (using_text (codes "D") ∷ [])
    ∷ []
    )

abbrev pub gives_int : List ℕ → ℤ → ℤ → Type 0
gives_int name number answer = shows others_program
    (call_T name (codes "(I)I") (given.Int number ∷ []) ∷ actions.Stop ∷ [])
    (result_int answer 0 0 [] ∷ []) ends.Stopped

abbrev pub used : ℕ → List ℕ → List ℕ → Event
used number text monitors = asked_use (seen.Ref (string_ref number text)) 0 0 monitors

pub record RunCalls : Type 0 where
  pub abstract_choice : throws_behind (choosing abstract_method) (codes "p")
      (codes "java/lang/AbstractMethodError")
  pub several_choices : throws_behind (choosing several_defaults) (codes "p")
      (codes "java/lang/IncompatibleClassChangeError")
  pub choice_not_public : throws_behind (choosing not_public) (codes "i")
      (codes "java/lang/IncompatibleClassChangeError")
  pub choice_not_public_there : shows (choosing not_public) (
      call_y (codes "q")
      ∷ actions.Stop
      ∷ []
      ) (threw_new 0 (codes "java/lang/IllegalAccessError") 1 0 (0 ∷ []) ∷ []) ends.Stopped
  -- the interface is tested before the selection
  pub not_implemented : throws_behind calling_program (codes "i")
      (codes "java/lang/IncompatibleClassChangeError")
  pub implemented : shows calling_program (call_y (codes "q") ∷ actions.Stop ∷ []) (
      result_int (pos 7) 1 0 []
      ∷ []
      ) ends.Stopped
  pub null_receiver : shows calling_program (call_y (codes "null") ∷ actions.Stop ∷ []) (
      threw_new 0 (codes "java/lang/NullPointerException") 0 0 (0 ∷ [])
      ∷ []
      ) ends.Stopped
  -- the class itself overrides m, and the superclass's runs, whatever the receiver's class is
  pub super_runs_method_above : super_gives (codes "middle") (pos 11)
  pub super_of_super : super_gives (codes "low") (pos 111)
  -- the named class is further up, and the superclass's method runs
  pub super_by_class_above : super_gives (codes "far") (pos 1011)
  pub superclass_named : starts_at (codes "Middle") (codes "Middle")
  pub class_above_named : starts_at (codes "Top") (codes "Middle")
  pub own_class_named : starts_at (codes "Low") (codes "Low")
  pub interface_named : starts_at (codes "I") (codes "I")
  -- class A has a method invoke, and the library is asked by the descriptor of the call
  pub virtual_invoke : asks_of_invoke (invoking 257 (ops.call_virtual invoke_int))
  pub special_invoke : asks_of_invoke (invoking 257 (ops.call_special invoke_int method_handle))
  pub static_invoke : asks_of_static_invoke (invoking 265 (ops.call_static invoke_int))
  pub abstract_initialiser : shows abstract_super (
      actions.Construct (codes "B") (codes "()V") []
      ∷ actions.Stop
      ∷ []
      ) (threw_new 0 (codes "java/lang/AbstractMethodError") 0 0 (0 ∷ []) ∷ []) ends.Stopped
  pub table_low : gives_int (codes "table") (pos 1) (pos 1)
  pub table_high : gives_int (codes "table") (pos 2) (pos 2)
  pub table_below : gives_int (codes "table") (pos 0) (pos 9)
  pub table_above : gives_int (codes "table") (pos 3) (pos 9)
  pub lookup_negative : gives_int (codes "lookup") (negsuc 4) (pos 1)
  pub lookup_far : gives_int (codes "lookup") (pos 1000) (pos 2)
  pub lookup_other : gives_int (codes "lookup") (pos 1) (pos 9)
  pub put_of_library : shows others_program (
      call_T (codes "put") (codes "(I)V") (given.Int (pos 5) ∷ [])
      ∷ actions.Return None
      ∷ actions.Stop
      ∷ []
      ) (
      event (events.Put (codes "L") (codes "n") (codes "I") None (seen.Int (pos 5))) 0 0 []
      ∷ event (events.Result None) 0 0 []
      ∷ []
      ) ends.Stopped
  -- a native method enters no monitor
  pub native_synchronized : shows others_program (
      call_T (codes "n") (codes "()V") []
      ∷ actions.Return None
      ∷ actions.Stop
      ∷ []
      ) (
      event (events.Call (codes "T") (codes "native") (codes "()V") []) 0 0 []
      ∷ event (events.Result None) 0 0 []
      ∷ []
      ) ends.Stopped
  -- nor does a class initialiser
  pub initialiser_synchronized : shows others_program (
      call_T (codes "c") (codes "()I") []
      ∷ actions.Return None
      ∷ actions.Stop
      ∷ []
      ) (asked_use seen.Null 0 0 [] ∷ result_int (pos 0) 0 0 [] ∷ []) ends.Stopped
  -- an interface is begun before the class if it has a default method
  pub interface_first : shows others_program (
      call_T (codes "d") (codes "()I") []
      ∷ actions.Return None
      ∷ actions.Return None
      ∷ actions.Stop
      ∷ []
      ) (
      used 0 (codes "J") (0 ∷ [])
      ∷ used 1 (codes "D") (0 ∷ 0 ∷ [])
      ∷ result_int (pos 0) 0 0 (0 ∷ 0 ∷ [])
      ∷ []
      ) ends.Stopped
  pub waits : shows others_program (call_T (codes "c") (codes "()I") [] ∷ []) (
      asked_use seen.Null 0 0 []
      ∷ []
      ) ends.Waits
