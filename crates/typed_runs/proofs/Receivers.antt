use Rattle.std.specs.Prelude.{ℕ}
use Rattle.class_model.specs.declared.frame.VType.TheVariants as types
use Rattle.class_tree.specs.Headers.{Name}
use Rattle.machine_values.specs.Heaps.{Heap}
use Rattle.machine_values.specs.declared.object.Shape.{Shape}
use Rattle.machine_values.specs.declared.value.Value.{Value}
use Rattle.machine_values.specs.declared.value.Value.TheVariants as values
use Rattle.member_link.specs.Machine.Programs.{Program}
use Rattle.member_link.specs.RowScope.{RowScope}
use Rattle.typed_runs.specs.Conforming.{HasShape, ShapeConforms, Conforms, null_object, an_object}

-- null, or an object that conforms to a class
pub data IsReceiver (P : Program) (h : Heap) (name : Name) : Value → Type 0 where
  no_receiver : IsReceiver P h name values.Null
  a_receiver : {reference : ℕ} {shape : Shape} → HasShape h reference shape → ShapeConforms P shape name → IsReceiver P h name (values.Ref reference)

pub receiver_of : {P : Program} {s : RowScope} {h : Heap} {name : Name} {v : Value} → Conforms P s h (types.Object name) v → IsReceiver P h name v
receiver_of null_object = no_receiver
receiver_of (an_object has is) = a_receiver has is
