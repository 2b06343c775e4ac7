-- What make code asks of a flat code and a state, and what it is in a constant pool that grows by what it needs.
use Rattle.std.specs.Prelude.{◌≡◌, ◌≤◌, ◌<◌, ◌++◌, ℕ, List, length, map, Some, IsTrue}
use Rattle.std.specs.List.{AllByRecursion}
use Rattle.class_model.specs.Pool.{Constants}
use Rattle.class_model.specs.declared.instr.Instr.{Instr}
use Rattle.class_tree.specs.Headers.{Classes, Name, headers_of}
use Rattle.class_tree.specs.Order.{place_of}
use Rattle.class_tree.specs.declared.place.Place.TheVariants.{Folder}
use Rattle.flow_code.specs.FlatCode.{FlatCode, point_at}
use Rattle.flow_code.specs.WrittenUnits.{written_units}
use Rattle.flow_code.specs.declared.point.Point.{Point}
use Rattle.making_code.specs.IndexedMaking.{all_making_needs, made_instr}
use Rattle.making_code.specs.MakeCode.{make_code}
use Rattle.making_code.specs.MakeOrder.{IsMakeOrder}
use Rattle.field_constructors.specs.Constructors.{IsConstructor}
use Rattle.materialise.specs.Growing.{Grows}
use Rattle.member_link.specs.FieldConstructors.{HasFieldConstructor}
use Rattle.pool_edit.specs.Edits.{Edit, grown}
use Rattle.virtual_state.specs.Sites.{has}
use Rattle.virtual_state.specs.States.{State, is_present}

-- ---- what is asked

-- the local units at a point have numbers of 16 bits
abbrev pub HasFewLocals : FlatCode → ℕ → Type 0
HasFewLocals flat at =
    (point : Point) → point_at flat at ≡ Some point → length point.typed.locals ≤ 65536

-- a class of the folder that may have a field constructor
pub record IsMadeClass (classes : Classes) (class : Name) : Type 0 where
  pub number : ℕ
  pub of_folder : place_of (headers_of classes) class ≡ Some (Folder number)
  pub may : HasFieldConstructor classes class

abbrev pub HaveConstructors : Classes → FlatCode → Type 0
HaveConstructors classes flat = AllByRecursion (λ site. IsMadeClass classes site.class) flat.sites

-- A flat code that is not too wide, a state of it at a point or on an edge there, and present sites.
pub record CanMake (flat : FlatCode) (at : ℕ) (state : State) (sites : List ℕ) : Type 0 where
  pub few_units : written_units flat ≤ 65535
  pub few_locals : HasFewLocals flat at
  pub of_sites : (site : ℕ) → IsTrue (is_present state.objects site) → site < length flat.sites
  pub present : (site : ℕ) → IsTrue (has sites site) → IsTrue (is_present state.objects site)

-- ---- what is given

-- the descriptors of the field constructors of the classes that may have one
abbrev pub DescribesConstructors : Classes → (Name → List ℕ) → Type 0
DescribesConstructors classes constructor =
    (class desc : Name) → IsConstructor classes class (Some desc) → constructor class ≡ desc

-- The make code of a set of sites, and the pool that has grown by what it needs, whatever order of the sites is meant: there is one. Its
-- instructions name the same constants in whatever the pool grows to.
pub record IsMakeCode (classes : Classes) (flat : FlatCode) (at : ℕ) (state : State)
    (sites : List ℕ) (old new : Edit) (instrs : List Instr)
    : Type 0 where
  pub grows : (constructor : Name → List ℕ) (order : List ℕ)
      → DescribesConstructors classes constructor
      → IsMakeOrder state.objects sites order
      → Grows old (all_making_needs constructor (make_code flat at state sites order)) new
  pub instrs_are : (constructor : Name → List ℕ) (order : List ℕ)
      → DescribesConstructors classes constructor
      → IsMakeOrder state.objects sites order
      → (more : Constants)
      → instrs
      ≡ map (made_instr flat constructor (grown new ++ more)) (make_code flat at state sites order)
