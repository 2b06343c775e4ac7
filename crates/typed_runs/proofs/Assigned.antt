use Rattle.std.specs.Prelude.{List, [], ◌∷◌, Option}
use Rattle.std.specs.List.{AllByRecursion}
use Rattle.class_model.specs.declared.frame.VType.{VType}
use Rattle.class_tree.specs.Headers.{Name}
use Rattle.machine_values.specs.Heaps.{Heap}
use Rattle.machine_values.specs.declared.object.Shape.{Shape}
use Rattle.machine_values.specs.declared.value.Value.{Value}
use Rattle.member_link.specs.Assignability.{IsAssignable, to_same, to_top as to_top_type, from_null, of_names, IsNameAssignable}
use Rattle.member_link.specs.Machine.Programs.{Program, headers_in}
use Rattle.member_link.specs.RowScope.{RowScope}
use Rattle.member_link.specs.Rows.FrameAssignability.{AreAssignable}
use Rattle.typed_runs.proofs.AssignedNames.{name_assigned}
use Rattle.typed_runs.proofs.Kept.{there}
use Rattle.typed_runs.specs.Conforming.{IsValueInHeap, ShapeConforms, by_class, by_interface, Conforms, to_top, an_int, a_long, a_float, a_double, only_null, null_object, an_object, of_new, of_this, AllConform, no_values, and_value, UnitConforms, no_value, has_value, UnitsConform, no_units, and_unit}
use Rattle.typed_runs.specs.TypedPrograms.{Typings, IsTypedProgram}

pub conforms_in_heap : {P : Program} {s : RowScope} {h : Heap} {t : VType} {v : Value} → Conforms P s h t v → IsValueInHeap h v
conforms_in_heap (to_top is) = is
conforms_in_heap an_int = tt
conforms_in_heap a_long = tt
conforms_in_heap a_float = tt
conforms_in_heap a_double = tt
conforms_in_heap only_null = tt
conforms_in_heap null_object = tt
conforms_in_heap (an_object shape is) = there shape
conforms_in_heap (of_new new shape class) = there shape
conforms_in_heap (of_this shape below) = there shape

pub all_in_heap : {P : Program} {s : RowScope} {h : Heap} {ts : List VType} {vs : List Value} → AllConform P s h ts vs → AllByRecursion (IsValueInHeap h) vs
all_in_heap no_values = tt
all_in_heap (and_value c others) = (conforms_in_heap c, all_in_heap others)

pub shape_assigned : (P : Program) (T : Typings) → IsTypedProgram P T → {shape : Shape} (low high : Name)
    → IsNameAssignable (headers_in P) low high → ShapeConforms P shape low → ShapeConforms P shape high
shape_assigned P T program low high assignable (by_class is) = by_class (name_assigned P T program low high assignable is)
shape_assigned P T program low high assignable (by_interface number also is) = by_interface number also (name_assigned P T program low high assignable is)

pub assigned : (P : Program) (T : Typings) → IsTypedProgram P T → {s : RowScope} {h : Heap} {from to : VType} {v : Value}
    → IsAssignable (headers_in P) from to → Conforms P s h from v → Conforms P s h to v
assigned P T program (to_same t) is = is
assigned P T program (to_top_type t) is = to_top (conforms_in_heap is)
assigned P T program (from_null name) only_null = null_object
assigned P T program (of_names low high assignable) null_object = null_object
assigned P T program (of_names low high assignable) (an_object shape is) = an_object shape (shape_assigned P T program low high assignable is)

pub all_assigned : (P : Program) (T : Typings) → IsTypedProgram P T → {s : RowScope} {h : Heap} (froms tos : List VType) {vs : List Value}
    → AreAssignable (headers_in P) froms tos → AllConform P s h froms vs → AllConform P s h tos vs
all_assigned P T program [] [] all no_values = no_values
all_assigned P T program (f ∷ fs) (t ∷ ts) all (and_value one others) =
    and_value (assigned P T program all.0 one) (all_assigned P T program fs ts all.1 others)
all_assigned P T program [] (t ∷ ts) all is = absurd all
all_assigned P T program (f ∷ fs) [] all is = absurd all

pub unit_assigned : (P : Program) (T : Typings) → IsTypedProgram P T → {s : RowScope} {h : Heap} {from to : VType} {u : Option Value}
    → IsAssignable (headers_in P) from to → UnitConforms P s h from u → UnitConforms P s h to u
unit_assigned P T program (to_same t) no_value = no_value
unit_assigned P T program (to_top_type t) no_value = no_value
unit_assigned P T program assignable (has_value is) = has_value (assigned P T program assignable is)

pub units_assigned : (P : Program) (T : Typings) → IsTypedProgram P T → {s : RowScope} {h : Heap} (froms tos : List VType) {us : List (Option Value)}
    → AreAssignable (headers_in P) froms tos → UnitsConform P s h froms us → UnitsConform P s h tos us
units_assigned P T program [] [] all no_units = no_units
units_assigned P T program (f ∷ fs) (t ∷ ts) all (and_unit one others) =
    and_unit (unit_assigned P T program all.0 one) (units_assigned P T program fs ts all.1 others)
units_assigned P T program [] (t ∷ ts) all is = absurd all
units_assigned P T program (f ∷ fs) [] all is = absurd all
