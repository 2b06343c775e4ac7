-- What an instruction asks of an operand (JVM Specification SE 8, 4.10.1.2 and 4.10.1.9).
use Rattle.std.specs.Prelude.{◌≡◌, ◌⊎◌, ◌-◌, ◌&&◌, not, ℕ, Bool, List, [], ◌∷◌, length, take, drop, IsTrue}
use Rattle.class_model.specs.Frames.{is_wide, is_top}
use Rattle.class_model.specs.declared.descriptor.Kind.{Kind}
use Rattle.class_model.specs.declared.descriptor.Kind.TheVariants as kinds
use Rattle.class_model.specs.declared.frame.VType.{VType}
use Rattle.class_model.specs.declared.frame.VType.TheVariants as types
use Rattle.class_tree.specs.Headers.{Name}
use Rattle.class_tree.specs.Subtype.{IsArray, IsReferenceComponent}
use Rattle.member_link.specs.RowScope.{RowScope}
use Rattle.member_link.specs.Rows.Assigning.{IsAssignableIn}

-- ---- sorts of types

-- a reference, also one that is not initialised
abbrev pub IsReference : VType → Type 0
IsReference types.Null = Unit {0}
IsReference (types.Object name) = Unit {0}
IsReference types.UninitThis = Unit {0}
IsReference (types.Uninit at) = Unit {0}
IsReference other = ⊥

-- an initialised reference, or null
abbrev pub IsInitialised : VType → Type 0
IsInitialised types.Null = Unit {0}
IsInitialised (types.Object name) = Unit {0}
IsInitialised other = ⊥

-- a reference that is not initialised
abbrev pub IsUninitialised : VType → Type 0
IsUninitialised types.UninitThis = Unit {0}
IsUninitialised (types.Uninit at) = Unit {0}
IsUninitialised other = ⊥

-- null, or an object with a name of this sort
abbrev pub IsNullOr : (Name → Type 0) → VType → Type 0
IsNullOr Named types.Null = Unit {0}
IsNullOr Named (types.Object name) = Named name
IsNullOr Named other = ⊥

-- a value of a kind
abbrev pub IsOfKind : Kind → VType → Type 0
IsOfKind kinds.Int type = type ≡ types.Int
IsOfKind kinds.Long type = type ≡ types.Long
IsOfKind kinds.Float type = type ≡ types.Float
IsOfKind kinds.Double type = type ≡ types.Double
IsOfKind kinds.Ref type = IsReference type

-- a value of one unit; a Top is none
abbrev pub is_single : VType → Bool
is_single type = not (is_wide type) && not (is_top type)

-- ---- what is asked of an operand

pub data Need : Type 0 where
  -- a value of a kind
  of_kind : Kind → Need
  -- a reference that is initialised, or null
  initialised : Need
  -- one that is not
  uninitialised : Need
  -- a value that is assignable to a type
  assignable_to : VType → Need
  -- the same, or an uninitialised this
  assignable_or_this : VType → Need
  -- null, or one of these arrays by its type
  array_among : List Name → Need
  -- null, or an array of references
  array_of_references : Need
  -- null, or any array
  some_array : Need
  -- a value of one unit, and of two
  single : Need
  double : Need
  -- no value
  nothing : Need

abbrev pub IsAmong : List Name → Name → Type 0
IsAmong [] name = ⊥
IsAmong (first ∷ names) name = (name ≡ first) ⊎ IsAmong names name

abbrev pub Fits : RowScope → Need → VType → Type 0
Fits s (of_kind kind) type = IsOfKind kind type
Fits s initialised type = IsInitialised type
Fits s uninitialised type = IsUninitialised type
Fits s (assignable_to wanted) type = IsAssignableIn s.headers s.major type wanted
Fits s (assignable_or_this wanted) type =
    IsAssignableIn s.headers s.major type wanted ⊎ (type ≡ types.UninitThis)
Fits s (array_among names) type = IsNullOr (IsAmong names) type
Fits s array_of_references type =
    IsNullOr (λ name. (component : Name) × IsReferenceComponent name component) type
Fits s some_array type = IsNullOr IsArray type
Fits s single type = IsTrue (is_single type)
Fits s double type = IsTrue (is_wide type)
Fits s nothing type = ⊥

-- each operand fits what is asked of it
abbrev pub AllFit : RowScope → List Need → List VType → Type 0
AllFit s [] [] = Unit {0}
AllFit s (need ∷ needs) (type ∷ stack) = Fits s need type × AllFit s needs stack
AllFit s needs stack = ⊥

-- ---- the stack, the topmost entry last

-- the topmost entries, so many
abbrev pub topmost : ℕ → List VType → List VType
topmost count stack = drop (length stack - count) stack

-- the entries under them
abbrev pub under : ℕ → List VType → List VType
under count stack = take (length stack - count) stack

-- the lowest of the topmost entries, so many
abbrev pub lowest_of : ℕ → List VType → VType
lowest_of count stack = first_or_top (topmost count stack) where
  first_or_top : List VType → VType
  first_or_top [] = types.Top
  first_or_top (first ∷ rest) = first
