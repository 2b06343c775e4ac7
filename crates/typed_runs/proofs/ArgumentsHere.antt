use Rattle.std.specs.Prelude.{◌≡◌, ◌⊎◌, ◌+◌, refl, ℕ, List, [], ◌∷◌, length, drop, Some}
use Rattle.std.proofs.Common.{arith, inl, inr, sym, subst}
use Rattle.std.proofs.lemmas.List.{length-map}
use Rattle.class_model.specs.Descriptors.{parameters_of}
use Rattle.class_model.specs.declared.frame.VType.{VType}
use Rattle.class_model.specs.declared.frame.VType.TheVariants as types
use Rattle.class_tree.specs.Headers.{Name}
use Rattle.machine_values.specs.Frames.{MethodState}
use Rattle.machine_values.specs.Heaps.{Heap, object_at}
use Rattle.machine_values.specs.declared.object.Object.{Object}
use Rattle.machine_values.specs.declared.value.Value.{Value}
use Rattle.machine_values.specs.declared.value.Value.TheVariants as values
use Rattle.member_link.specs.Machine.Programs.{Program, headers_in}
use Rattle.member_link.specs.References.{Reference}
use Rattle.member_link.specs.RowScope.{RowScope}
use Rattle.member_link.specs.Rows.MemberRows.{argument_needs}
use Rattle.member_link.specs.Rows.Operands.{Need, AllFit, Fits}
use Rattle.typed_runs.proofs.Arguments.{AreArguments, arguments}
use Rattle.typed_runs.specs.Conforming.{HasShape, ShapeConforms, Conforms, null_object, an_object, AllConform, and_value}
use Rattle.typed_runs.specs.TypedPrograms.{Typings, IsTypedProgram}

-- as many operands as parameters
pub as_many_needs : (desc : List ℕ) → length (parameters_of desc) ≡ length (argument_needs desc)
as_many_needs desc = sym (length-map (parameters_of desc) _)

pub with_receiver_needs : (need : Need) (desc : List ℕ) → length (parameters_of desc) + 1 ≡ length (need ∷ argument_needs desc)
with_receiver_needs need desc = let e = as_many_needs desc in omega (arith, e)

-- what is under the receiver and the arguments of a call
abbrev pub stack_under : Need → Reference → MethodState → List Value
stack_under need r f = drop (length (need ∷ argument_needs r.desc)) f.stack

-- the operands of a call with a receiver
pub record Received (P : Program) (s : RowScope) (h : Heap) (r : RowScope) (need : Need) (desc : List ℕ) (ts : List VType)
    (vs : List Value) : Type 0 where
  pub type : VType
  pub others : List VType
  pub are_types : ts ≡ type ∷ others
  pub receiver : Value
  pub args : List Value
  pub are : vs ≡ receiver ∷ args
  pub fits : Fits r need type
  pub conforms : Conforms P s h type receiver
  pub arguments : AreArguments P h desc args

pub received : (P : Program) (T : Typings) → IsTypedProgram P T → {s : RowScope} {h : Heap} (r : RowScope) → r.headers ≡ headers_in P
    → (need : Need) (desc : List ℕ) (ts : List VType) {vs : List Value}
    → AllFit r (need ∷ argument_needs desc) ts → AllConform P s h ts vs → Received P s h r need desc ts vs
received P T program r same need desc (t ∷ ts) fit (and_value {value = v} {values = vs} c others) = record {
  type = t;
  others = ts;
  are_types = refl;
  receiver = v;
  args = vs;
  are = refl;
  fits = fit.0;
  conforms = c;
  arguments = arguments P T program r same desc ts fit.1 others;
}
received P T program r same need desc [] fit all = absurd fit

-- an object that conforms to a name
pub record ObjectOf (P : Program) (h : Heap) (name : Name) (v : Value) : Type 0 where
  pub reference : ℕ
  pub is : v ≡ values.Ref reference
  pub object : Object
  pub is_there : object_at h reference ≡ Some object
  pub conforms : ShapeConforms P object.shape name

pub shape_of : {P : Program} {h : Heap} {name : Name} {v : Value} (o : ObjectOf P h name v) → HasShape h o.reference o.object.shape
shape_of o = record { object = o.object; is_there = o.is_there; same = refl }

pub object_value : {P : Program} {s : RowScope} {h : Heap} {name : Name} {v : Value} → Conforms P s h (types.Object name) v
    → (v ≡ values.Null) ⊎ ObjectOf P h name v
object_value null_object = inl refl
object_value {P = P} {name = name} (an_object {reference = r} has c) =
    inr (record {
      reference = r;
      is = refl;
      object = has.object;
      is_there = has.is_there;
      conforms =
          subst (λ shape. ShapeConforms P shape name) (sym has.same) c;
    })
