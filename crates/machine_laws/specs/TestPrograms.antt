-- Small closed programs.
use Rattle.std.specs.Prelude.{◌≡◌, nat_le, nat_lt, ◌==◌, ◌&&◌, ◌||◌, ℕ, zero, suc, ℤ, Bool, false, List, [], ◌∷◌, ◌++◌, map, bytes_eq, codes, Option, Some, None, option_map, if◌then◌else◌}
use Rattle.std.specs.List.{list_any, flat_map}
use Rattle.class_model.specs.declared.descriptor.FieldType.TheVariants as types
use Rattle.class_model.specs.declared.descriptor.Kind.TheVariants as kinds
use Rattle.class_model.specs.declared.header.Header.{Header}
use Rattle.class_model.specs.declared.header.Member.{Member}
use Rattle.class_tree.specs.Headers.{Name}
use Rattle.class_tree.specs.Names.{object}
use Rattle.machine_values.specs.declared.action.Action.{Action}
use Rattle.machine_values.specs.declared.action.Action.TheVariants as actions
use Rattle.machine_values.specs.declared.action.Given.{Given}
use Rattle.machine_values.specs.declared.event.End.{End}
use Rattle.machine_values.specs.declared.event.Event.{Event}
use Rattle.machine_values.specs.declared.event.EventKind.{EventKind}
use Rattle.machine_values.specs.declared.event.EventKind.TheVariants as events
use Rattle.machine_values.specs.declared.event.Seen.{Seen}
use Rattle.machine_values.specs.declared.event.Seen.TheVariants as seen
use Rattle.machine_values.specs.declared.event.SeenRef.{SeenRef}
use Rattle.machine_values.specs.declared.object.Constant.{Constant}
use Rattle.machine_values.specs.declared.object.Constant.TheVariants as constants
use Rattle.machine_values.specs.declared.value.Value.TheVariants as values
use Rattle.member_link.specs.Machine.Runs.{shown_after}
use Rattle.member_link.specs.Machine.Ops as ops
use Rattle.member_link.specs.Machine.Ops.{Op}
use Rattle.member_link.specs.Machine.Programs.{Program, RunClass, RunMethod, Point, Catch, Links, Chosen, chosen, abstract_method, first_member}
use Rattle.member_link.specs.References.{Reference}

abbrev pub reference : Name → List ℕ → List ℕ → Reference
reference class name desc = record { class = class; name = name; desc = desc }

abbrev pub member : ℕ → List ℕ → List ℕ → Member
member flags name desc = record { flags = flags; name = name; desc = desc }

abbrev pub library_class : Name → Option Name → ℕ → List Member → Header
library_class name super_name flags methods = record {
  name = name;
  flags = flags;
  super_name = super_name;
  interfaces = [];
  fields = [];
  methods = methods;
}

abbrev init_member : List Member
init_member = member 1 (codes "<init>") (codes "()V") ∷ []

abbrev throwable_class : Name → Header
throwable_class name = library_class name (Some (codes "java/lang/Throwable")) 33 init_member

abbrev members_of_object : List Member
members_of_object =
    member 1 (codes "<init>") (codes "()V")
    ∷ member 260 (codes "clone") (codes "()Ljava/lang/Object;")
    ∷ []

-- class L { static int n; static native void use(Object o); static native void keep(Object o); }
-- and more of that kind
abbrev members_of_L : List Member
members_of_L =
    member 265 (codes "use") (codes "(Ljava/lang/Object;)V")
    ∷ member 265 (codes "keep") (codes "(Ljava/lang/Object;)V")
    ∷ member 265 (codes "number") (codes "()B")
    ∷ []

abbrev fields_of_L : List Member
fields_of_L = member 9 (codes "n") (codes "I") ∷ member 9 (codes "z") (codes "Z") ∷ []

abbrev pub base : List Header
base =
    library_class object None 33 members_of_object
    ∷ library_class (codes "java/lang/String") (Some object) 49 []
    ∷ library_class (codes "java/lang/Class") (Some object) 49 []
    ∷ library_class (codes "java/lang/Throwable") (Some object) 33 init_member
    ∷ throwable_class (codes "java/lang/NullPointerException")
    ∷ throwable_class (codes "java/lang/ArithmeticException")
    ∷ throwable_class (codes "java/lang/ArrayIndexOutOfBoundsException")
    ∷ throwable_class (codes "java/lang/ArrayStoreException")
    ∷ throwable_class (codes "java/lang/NegativeArraySizeException")
    ∷ throwable_class (codes "java/lang/ClassCastException")
    ∷ throwable_class (codes "java/lang/IllegalMonitorStateException")
    ∷ throwable_class (codes "java/lang/IllegalAccessError")
    ∷ throwable_class (codes "java/lang/IncompatibleClassChangeError")
    ∷ throwable_class (codes "java/lang/AbstractMethodError")
    ∷ record (library_class (codes "L") (Some object) 33 members_of_L) { fields = fields_of_L }
    ∷ []

-- ---- links by plain walks, as many steps as there are classes

abbrev named_in : List Header → Name → Option Header
named_in [] name = None
named_in (header ∷ headers) name =
    if bytes_eq header.name name then Some header else named_in headers name

abbrev supers_of : Option Header → List Name
supers_of None = []
supers_of (Some header) = opt header.super_name ++ header.interfaces where
  opt : Option Name → List Name
  opt None = []
  opt (Some name) = name ∷ []

abbrev reaches : List Header → ℕ → Name → Name → Bool
reaches all zero low high = bytes_eq low high
reaches all (suc left) low high =
    bytes_eq low high
    || list_any (λ name. reaches all left name high) (supers_of (named_in all low))

abbrev first_some : {A : Type 0} → Option A → Option A → Option A
first_some (Some one) other = Some one
first_some None other = other

abbrev super_in : Option Header → Option Name
super_in None = None
super_in (Some header) = header.super_name

-- a member of a class, as one that this class declares
abbrev declared_in : (Header → List Member) → Reference → Name → Option Header → Option Reference
declared_in members r name None = None
declared_in members r name (Some header) =
    option_map (λ member. record r { class = name }) (first_member r (members header))

abbrev upwards :
    List Header → (Header → List Member) → Reference → ℕ → Option Name → Option Reference
upwards all members r zero name = None
upwards all members r (suc left) None = None
upwards all members r (suc left) (Some name) =
    first_some (declared_in members r name (named_in all name))
    (upwards all members r left (super_in (named_in all name)))

abbrev is_array_name : Name → Bool
is_array_name [] = false
is_array_name (first ∷ rest) = first == 91

abbrev or_object : Name → Name
or_object name = if is_array_name name then object else name

abbrev pub walks : List Header → Links
walks all = record {
  below = λ low high. reaches all 4 low high || (is_array_name low && bytes_eq high object);
  field = λ r. upwards all (λ header. header.fields) r 4 (Some r.class);
  method = λ r. upwards all (λ header. header.methods) r 4 (Some (or_object r.class));
  select = λ receiver r form.
      of (upwards all (λ header. header.methods) r 4 (Some (or_object receiver)));
} where
  of : Option Reference → Chosen
  of None = abstract_method
  of (Some r) = chosen r

abbrev pub program : List RunClass → Program
program classes = record {
  classes = classes;
  library = base;
  links = walks (map (λ class. class.header) classes ++ base);
}

-- ---- classes

abbrev pub plain_points : List Op → List Point
plain_points code = map (λ op. record { op = op; catches = [] }) code

abbrev pub with_code : ℕ → List ℕ → List ℕ → ℕ → List Op → RunMethod
with_code flags name desc locals code = record {
  member = member flags name desc;
  code = Some (record { locals = locals; points = plain_points code });
}

-- an abstract or native method
abbrev pub without_code : ℕ → List ℕ → List ℕ → RunMethod
without_code flags name desc = record { member = member flags name desc; code = None }

-- a class with a superclass and interfaces
abbrev pub class_above : ℕ → Name → Name → List Name → List Member → List RunMethod → RunClass
class_above flags name super_name interfaces fields methods = record {
  header = record {
    name = name;
    flags = flags;
    super_name = Some super_name;
    interfaces = interfaces;
    fields = fields;
    methods = map (λ m. m.member) methods;
  };
  methods = methods;
  starts = [];
  handles = [];
}

abbrev pub class : ℕ → Name → List Member → List RunMethod → RunClass
class flags name fields methods = class_above flags name object [] fields methods

abbrev pub int : ℤ → Op
int number = ops.push_value (values.Int number)

-- ---- members that many programs name

abbrev pub init_of_object : Reference
init_of_object = reference object (codes "<init>") (codes "()V")

abbrev pub use_of_L : Reference
use_of_L = reference (codes "L") (codes "use") (codes "(Ljava/lang/Object;)V")

abbrev pub keep_of_L : Reference
keep_of_L = reference (codes "L") (codes "keep") (codes "(Ljava/lang/Object;)V")

abbrev pub init_of : Name → Reference
init_of class = reference class (codes "<init>") (codes "()V")

-- the default constructor of a class below this one
abbrev pub super_init : Name → RunMethod
super_init super_name = with_code 1 (codes "<init>") (codes "()V") 1 (
    ops.load_local kinds.Ref 0
    ∷ ops.call_special (init_of super_name) super_name
    ∷ ops.return_nothing
    ∷ []
    )

-- static int number() { return L.number(); }, which gives a byte
abbrev pub asking_number : RunMethod
asking_number = with_code 9 (codes "number") (codes "()I") 0 (
    ops.call_static (reference (codes "L") (codes "number") (codes "()B"))
    ∷ ops.return_value types.Int
    ∷ []
    )

-- the library can make objects of a class that has such a handle
abbrev pub made_by_library : Name → RunClass → RunClass
made_by_library name class = record class {
  handles = constants.Handle 8 name (codes "<init>") (codes "()V") ∷ [];
}

-- class P { int x; int y; P(int a, int b) { x = a; y = b; } int y() { return y; } }
abbrev pub x_of_P : Reference
x_of_P = reference (codes "P") (codes "x") (codes "I")

abbrev pub y_of_P : Reference
y_of_P = reference (codes "P") (codes "y") (codes "I")

abbrev pub init_of_P : Reference
init_of_P = reference (codes "P") (codes "<init>") (codes "(II)V")

abbrev pub call_y_of_P : Reference
call_y_of_P = reference (codes "P") (codes "y") (codes "()I")

abbrev P_init : RunMethod
P_init = with_code 0 (codes "<init>") (codes "(II)V") 3 (
    ops.load_local kinds.Ref 0
    ∷ ops.call_special init_of_object object
    ∷ ops.load_local kinds.Ref 0
    ∷ ops.load_local kinds.Int 1
    ∷ ops.put_field x_of_P (Some (codes "P"))
    ∷ ops.load_local kinds.Ref 0
    ∷ ops.load_local kinds.Int 2
    ∷ ops.put_field y_of_P (Some (codes "P"))
    ∷ ops.return_nothing
    ∷ []
    )

abbrev P_y : RunMethod
P_y = with_code 0 (codes "y") (codes "()I") 1 (
    ops.load_local kinds.Ref 0
    ∷ ops.get_field y_of_P
    ∷ ops.return_value types.Int
    ∷ []
    )

abbrev pub P_class : RunClass
P_class = class 32 (codes "P")
    (member 0 (codes "x") (codes "I") ∷ member 0 (codes "y") (codes "I") ∷ []) (P_init ∷ P_y ∷ [])

-- class T with these static fields and methods
abbrev pub T_fields : List Member → List RunMethod → RunClass
T_fields fields methods = class 33 (codes "T") fields methods

-- ---- what is shown

abbrev pub shows : Program → List Action → List Event → End → Type 0
shows P actions events end = shown_after P actions 200 ≡ record { events = events; end = end }

abbrev pub event : EventKind → ℕ → ℕ → List ℕ → Event
event kind a m monitors = record { kind = kind; allocations = a; entries = m; monitors = monitors }

abbrev pub result_int : ℤ → ℕ → ℕ → List ℕ → Event
result_int number a m monitors = event (events.Result (Some (seen.Int number))) a m monitors

-- a reference that appears first, and one that is known
abbrev pub new_ref : ℕ → Name → SeenRef
new_ref number class = record {
  number = number;
  first = Some (record { class = class; also = []; constant = None });
}

abbrev pub old_ref : ℕ → SeenRef
old_ref number = record { number = number; first = None }

abbrev pub call_T : List ℕ → List ℕ → List Given → Action
call_T name desc given = actions.Call (codes "T") name desc given

-- ---- exception tables, by numbers of points

pub record Range : Type 0 where
  pub from : ℕ
  pub until : ℕ
  pub to : ℕ
  pub class : Option Name

abbrev catches_of : List Range → ℕ → List Catch
catches_of ranges at = flat_map around ranges where
  around : Range → List Catch
  around r =
      if nat_le r.from at && nat_lt at r.until
      then record { to = r.to; class = r.class } ∷ []
      else []

abbrev points_from : ℕ → List Range → List Op → List Point
points_from at ranges [] = []
points_from at ranges (op ∷ rest) =
    record { op = op; catches = catches_of ranges at } ∷ points_from (suc at) ranges rest

abbrev pub with_catches : ℕ → List ℕ → List ℕ → ℕ → List Op → List Range → RunMethod
with_catches flags name desc locals code ranges = record {
  member = member flags name desc;
  code = Some (record { locals = locals; points = points_from 0 ranges code });
}

abbrev pub range : ℕ → ℕ → ℕ → Option Name → Range
range from until to class = record { from = from; until = until; to = to; class = class }

abbrev pub shows_in : Program → ℕ → List Action → List Event → End → Type 0
shows_in P count actions events end =
    shown_after P actions count ≡ record { events = events; end = end }

-- an object of the library that also implements interfaces, and a string
abbrev pub new_external : ℕ → Name → List Name → SeenRef
new_external number class also = record {
  number = number;
  first = Some (record { class = class; also = also; constant = None });
}

abbrev pub constant_ref : ℕ → Name → Constant → SeenRef
constant_ref number class constant = record {
  number = number;
  first = Some (record { class = class; also = []; constant = Some constant });
}

abbrev pub string_ref : ℕ → List ℕ → SeenRef
string_ref number text = constant_ref number (codes "java/lang/String") (constants.Str text)

-- ---- events, each with the two counts and the monitors of the known references

abbrev pub result : Seen → ℕ → ℕ → List ℕ → Event
result value a m monitors = event (events.Result (Some value)) a m monitors

abbrev pub result_nothing : ℕ → ℕ → List ℕ → Event
result_nothing a m monitors = event (events.Result None) a m monitors

-- a throwable that the library sees first as it is thrown
abbrev pub threw_new : ℕ → Name → ℕ → ℕ → List ℕ → Event
threw_new number class a m monitors = event (events.Threw (new_ref number class)) a m monitors

abbrev pub made : ℕ → Name → ℕ → ℕ → List ℕ → Event
made number class a m monitors = event (events.Made (new_ref number class)) a m monitors

-- L.use of a value
abbrev pub asked_use : Seen → ℕ → ℕ → List ℕ → Event
asked_use value a m monitors =
    event (events.Call (codes "L") (codes "use") use_of_L.desc (value ∷ [])) a m monitors
