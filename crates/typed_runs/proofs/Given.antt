use Rattle.std.specs.Prelude.{◌≡◌, ◌==◌, ◌&&◌, ◌||◌, refl, ℕ, Bool, true, false, List, [], ◌∷◌, map, Option, Some, None}
use Rattle.std.proofs.Common.{ap, sym, subst, ◌∙◌}
use Rattle.std.proofs.lemmas.Slice.Eq.{bytes_eq-Decides}
use Rattle.class_model.specs.Characters.{left_bracket}
use Rattle.class_model.specs.Code.{verification_type}
use Rattle.class_model.specs.declared.descriptor.FieldType.{FieldType}
use Rattle.class_model.specs.declared.descriptor.FieldType.TheVariants as field_types
use Rattle.class_tree.specs.Headers.{Name}
use Rattle.class_tree.specs.Names.{object}
use Rattle.machine_values.specs.Heaps.{Heap, object_at}
use Rattle.machine_values.specs.Values.{component_text, narrowed}
use Rattle.machine_values.specs.declared.object.Object.{Object}
use Rattle.machine_values.specs.declared.object.Shape.{Shape}
use Rattle.machine_values.specs.declared.object.Shape.TheVariants as shapes
use Rattle.machine_values.specs.declared.value.Value.{Value}
use Rattle.machine_values.specs.declared.value.Value.TheVariants as values
use Rattle.member_link.specs.Machine.Acting.{all_conform}
use Rattle.member_link.specs.Machine.Programs.{Program, is_interface_named}
use Rattle.member_link.specs.Machine.Shapes.{component_named, is_object, class_conforms, both_conform, components_conform, shape_conforms, value_conforms}
use Rattle.member_link.specs.Machine.Worlds.{World}
use Rattle.member_link.specs.RowScope.{RowScope}
use Rattle.typed_runs.proofs.Basics.{and_first, and_second}
use Rattle.typed_runs.proofs.Unwinding.{instance_conforms}
use Rattle.typed_runs.specs.Conforming.{NameConforms, to_below, to_interface, to_object, of_components, ShapeConforms, by_class, Conforms, an_int, a_long, a_float, a_double, null_object, an_object, AllConform, no_values, and_value, RefersTo, to_none, to_one, FieldConforms}

-- ---- what the machine's test of an object tells

pub class_taken : (P : Program) (low high : Name) → class_conforms P low high ≡ true → NameConforms P low high
class_taken P low high is = by (is_interface_named P high) refl where
  by_object : (b : Bool) → is_object high ≡ b → (b || P.links.below low high) ≡ true → NameConforms P low high
  by_object true e rest = subst (NameConforms P low) (sym ((bytes_eq-Decides high object).0 e)) to_object
  by_object false e rest = to_below rest

  by : (b : Bool) → is_interface_named P high ≡ b → NameConforms P low high
  by true e = to_interface e
  by false e = by_object (is_object high) refl (rw e at is)

-- two arrays of references, by the texts of their components
pub references_taken : (P : Program) (low high : Name) (one other : List ℕ) → component_text low ≡ one → component_text high ≡ other
    → both_conform P (component_named one) (component_named other) ≡ true → NameConforms P low high
references_taken P low high one other of_low of_high is = by (component_named one) refl (component_named other) refl where
  by : (a : Option Name) → component_named one ≡ a → (b : Option Name) → component_named other ≡ b → NameConforms P low high
  by (Some a) e (Some b) d = of_components (ap component_named of_low ∙ e) (ap component_named of_high ∙ d)
      (class_taken P a b (rw e at (rw d at is)))
  by (Some a) e None d = let no : false ≡ true = rw e at (rw d at is) in cc
  by None e b d = let no : false ≡ true = rw e at is in cc

pub bracket_text : (first : ℕ) (rest : List ℕ) → (first == left_bracket) ≡ true → component_text (first ∷ rest) ≡ rest
bracket_text first rest is = rw is refl

pub bracket_named : (first : ℕ) (rest : List ℕ) → (first == left_bracket) ≡ true → component_named (first ∷ rest) ≡ Some (first ∷ rest)
bracket_named first rest is = rw is refl

pub components_taken : (P : Program) (low high : Name) (lows highs : List ℕ) → component_text low ≡ lows → component_text high ≡ highs
    → components_conform P lows highs ≡ true → NameConforms P low high
components_taken P low high [] highs of_low of_high is = cc
components_taken P low high (l ∷ lows) [] of_low of_high is = cc
components_taken P low high (l ∷ lows) (g ∷ highs) of_low of_high is =
    by (both_conform P (component_named (l ∷ lows)) (component_named (g ∷ highs))) refl
    (λ one other. components_taken P (l ∷ lows) (g ∷ highs) lows highs one other) where
      by : (b : Bool) → both_conform P (component_named (l ∷ lows)) (component_named (g ∷ highs)) ≡ b
          → (component_text (l ∷ lows) ≡ lows → component_text (g ∷ highs) ≡ highs → components_conform P lows highs ≡ true
          → NameConforms P (l ∷ lows) (g ∷ highs)) → NameConforms P low high
      by true e next = references_taken P low high (l ∷ lows) (g ∷ highs) of_low of_high e
      by false e next =
          let both : (l == left_bracket && (g == left_bracket && components_conform P lows highs)) ≡ true = rw e at is in
          let one : (l == left_bracket) ≡ true = and_first (l == left_bracket) (g == left_bracket && components_conform P lows highs) both
          in
          let others : (g == left_bracket && components_conform P lows highs) ≡ true = and_second (l == left_bracket)
          (g == left_bracket && components_conform P lows highs) both in
          let other : (g == left_bracket) ≡ true = and_first (g == left_bracket) (components_conform P lows highs) others in
          of_components (ap component_named of_low ∙ bracket_named l lows one) (ap component_named of_high ∙ bracket_named g highs other)
          (next (bracket_text l lows one) (bracket_text g highs other) (and_second (g == left_bracket) (components_conform P lows highs)
          others))

pub shape_taken : (P : Program) (s : Shape) (name : Name) → shape_conforms P s name ≡ true → ShapeConforms P s name
shape_taken P (shapes.Array desc len) name is = by (is_interface_named P name) refl where
  by_below : (b : Bool) → P.links.below desc name ≡ b → (b || components_conform P (component_text desc) (component_text name)) ≡ true
      → NameConforms P desc name
  by_below true e rest = to_below e
  by_below false e rest = components_taken P desc name (component_text desc) (component_text name) refl refl rest

  by : (b : Bool) → is_interface_named P name ≡ b → ShapeConforms P (shapes.Array desc len) name
  by true e = by_class (to_interface e)
  by false e =
      let rest : (P.links.below desc name || components_conform P (component_text desc) (component_text name)) ≡ true = rw e at is in
      by_class (by_below (P.links.below desc name) refl rest)
shape_taken P (shapes.Folder class) name is = by (is_interface_named P name) refl where
  by : (b : Bool) → is_interface_named P name ≡ b → ShapeConforms P (shapes.Folder class) name
  by true e = by_class (to_interface e)
  by false e = instance_conforms P (shapes.Folder class) name (rw e at is)
shape_taken P (shapes.External class also) name is = by (is_interface_named P name) refl where
  by : (b : Bool) → is_interface_named P name ≡ b → ShapeConforms P (shapes.External class also) name
  by true e = by_class (to_interface e)
  by false e = instance_conforms P (shapes.External class also) name (rw e at is)

-- ---- values that the library gives

pub given_refers : (P : Program) (h : Heap) (name : Name) (v : Value) → value_conforms P h (field_types.Named name) v ≡ true
    → RefersTo P h name v
given_refers P h name values.Null is = to_none
given_refers P h name (values.Ref r) is = by (object_at h r) refl where
  by : (o : Option Object) → object_at h r ≡ o → RefersTo P h name (values.Ref r)
  by None e = let no : false ≡ true = rw e at is in cc
  by (Some o) e = to_one (record { object = o; is_there = e; same = refl }) (shape_taken P o.shape name (rw e at is))
given_refers P h name (values.Int n) is = cc
given_refers P h name (values.Long n) is = cc
given_refers P h name (values.Float n) is = cc
given_refers P h name (values.Double n) is = cc

pub refers_conforms : {P : Program} {s : RowScope} {h : Heap} {name : Name} {v : Value} → RefersTo P h name v
    → Conforms P s h (verification_type (field_types.Named name)) v
refers_conforms to_none = null_object
refers_conforms (to_one shape is) = an_object shape is

-- to the verification type of the type that it is given at
pub given_conforms : (P : Program) (s : RowScope) (h : Heap) (t : FieldType) (v : Value) → value_conforms P h t v ≡ true
    → Conforms P s h (verification_type t) v
given_conforms P s h (field_types.Named name) v is = refers_conforms (given_refers P h name v is)
given_conforms P s h field_types.Byte (values.Int n) is = an_int
given_conforms P s h field_types.Short (values.Int n) is = an_int
given_conforms P s h field_types.Char (values.Int n) is = an_int
given_conforms P s h field_types.Bool (values.Int n) is = an_int
given_conforms P s h field_types.Int (values.Int n) is = an_int
given_conforms P s h field_types.Long (values.Long n) is = a_long
given_conforms P s h field_types.Float (values.Float n) is = a_float
given_conforms P s h field_types.Double (values.Double n) is = a_double
given_conforms P s h t v is = cc

pub narrowed_conforms : (P : Program) (s : RowScope) (h : Heap) (t : FieldType) (v : Value) → value_conforms P h t v ≡ true
    → Conforms P s h (verification_type t) (narrowed t v)
narrowed_conforms P s h (field_types.Named name) v is = refers_conforms (given_refers P h name v is)
narrowed_conforms P s h field_types.Byte (values.Int n) is = an_int
narrowed_conforms P s h field_types.Short (values.Int n) is = an_int
narrowed_conforms P s h field_types.Char (values.Int n) is = an_int
narrowed_conforms P s h field_types.Bool (values.Int n) is = an_int
narrowed_conforms P s h field_types.Int (values.Int n) is = an_int
narrowed_conforms P s h field_types.Long (values.Long n) is = a_long
narrowed_conforms P s h field_types.Float (values.Float n) is = a_float
narrowed_conforms P s h field_types.Double (values.Double n) is = a_double
narrowed_conforms P s h t v is = cc

-- what a field or element of the type holds
pub narrowed_fits : (P : Program) (h : Heap) (t : FieldType) (v : Value) → value_conforms P h t v ≡ true
    → FieldConforms P h t (narrowed t v)
narrowed_fits P h (field_types.Named name) v is = given_refers P h name v is
narrowed_fits P h field_types.Byte (values.Int n) is = refl
narrowed_fits P h field_types.Short (values.Int n) is = refl
narrowed_fits P h field_types.Char (values.Int n) is = refl
narrowed_fits P h field_types.Bool (values.Int n) is = refl
narrowed_fits P h field_types.Int (values.Int n) is = refl
narrowed_fits P h field_types.Long (values.Long n) is = refl
narrowed_fits P h field_types.Float (values.Float n) is = refl
narrowed_fits P h field_types.Double (values.Double n) is = refl
narrowed_fits P h t v is = cc

-- arguments
pub all_given : (P : Program) (w : World) (s : RowScope) (ts : List FieldType) (vs : List Value) → all_conform P w ts vs ≡ true
    → AllConform P s w.memory.heap (map verification_type ts) vs
all_given P w s [] [] is = no_values
all_given P w s (t ∷ ts) (v ∷ vs) is =
    and_value (given_conforms P s w.memory.heap t v (and_first (value_conforms P w.memory.heap t v) (all_conform P w ts vs) is))
    (all_given P w s ts vs (and_second (value_conforms P w.memory.heap t v) (all_conform P w ts vs) is))
all_given P w s [] (v ∷ vs) is = cc
all_given P w s (t ∷ ts) [] is = cc
