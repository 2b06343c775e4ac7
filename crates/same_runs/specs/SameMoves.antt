-- What instructions that move values, and those that go on elsewhere, give in two runs.
use Rattle.std.specs.Prelude.{◌≡◌, ◌⊎◌, ◌+◌, ◌≤◌, ℕ, ℤ, Bool, List, ◌∷◌, ◌++◌, length, map, slice_get, Option, Some, None}
use Rattle.class_model.specs.declared.descriptor.Kind.{Kind}
use Rattle.class_model.specs.declared.instr.Pair.{Pair}
use Rattle.machine_values.specs.Frames.{MethodState}
use Rattle.machine_values.specs.declared.frame.RunFrame.{RunFrame}
use Rattle.machine_values.specs.declared.frame.RunFrame.TheVariants.{Method}
use Rattle.machine_values.specs.declared.value.Value.{Value}
use Rattle.member_link.specs.Machine.Locals.{Jump, local_value, width_of}
use Rattle.member_link.specs.Machine.Ops.{Op, no_operation, load_local, store_local, increment_local, test_local, shuffle_stack, jump_by_int, jump_by_ints, jump_by_references, jump_by_null, jump_to, table_switch, lookup_switch}
use Rattle.member_link.specs.Machine.Programs.{Program}
use Rattle.same_runs.specs.Renamings.{Names, NamesMore, SameUnits, SameValue, SameValues}
use Rattle.same_runs.specs.SameFrames.{Unwinds}
use Rattle.same_runs.specs.SameWorlds.{Comparison}

-- the same stacks, or none in both
pub data SameStacks (names : Names) : Option (List Value) → Option (List Value) → Type 0 where
  no_stack : SameStacks names None None
  have_stack : {ones others : List Value} → SameValues names ones others → SameStacks names (Some ones) (Some others)

-- both jump, or go on, over the same stacks; or neither does
pub data SameJumps (names : Names) : Jump → Jump → Type 0 where
  no_jump : SameJumps names None None
  have_jump : {taken : Bool} {ones others : List Value}
      → SameValues names ones others
      → SameJumps names (Some (taken, ones)) (Some (taken, others))

-- the same local units, or none in both
pub data SameStores (names : Names)
    : Option (List (Option Value)) → Option (List (Option Value)) → Type 0 where
  no_store : SameStores names None None
  have_store : {ones others : List (Option Value)}
      → SameUnits names ones others
      → SameStores names (Some ones) (Some others)

-- Local units of the first, so many, that stand in the second from a base on. Where the first holds a value that fits, the second holds the
-- same. Others hold anything.
pub record ShiftedUnits (names : Names) (base size : ℕ) (ones others : List (Option Value)) : Type 0 where
  pub holds : (at : ℕ) (value : Value)
      → slice_get ones at ≡ Some (Some value)
      → at + width_of value ≤ size
      → (also : Value) × (slice_get others (base + at) ≡ Some (Some also)) × SameValue names value also
  pub count : length ones ≤ size
  pub room : base + size ≤ length others

-- Units outside of those from a base on stay: each value that lies there is there as before.
pub record KeepsOutside (base size : ℕ) (before after : List (Option Value)) : Type 0 where
  pub count : length after ≡ length before
  pub stays : (at : ℕ) (value : Value)
      → (at + width_of value ≤ base) ⊎ (base + size ≤ at)
      → slice_get before at ≡ Some (Some value)
      → slice_get after at ≡ Some (Some value)

-- ---- operations of the frame alone

pub data IsMove : Op → Type 0 where
  is_no_operation : IsMove no_operation
  is_load : {kind : Kind} {at : ℕ} → IsMove (load_local kind at)
  is_store : {kind : Kind} {at : ℕ} → IsMove (store_local kind at)
  is_increment : {at : ℕ} {by : ℤ} → IsMove (increment_local at by)
  is_test : {at : ℕ} → IsMove (test_local at)
  is_shuffle : {opcode : ℕ} → IsMove (shuffle_stack opcode)
  is_jump_by_int : {opcode to : ℕ} → IsMove (jump_by_int opcode to)
  is_jump_by_ints : {opcode to : ℕ} → IsMove (jump_by_ints opcode to)
  is_jump_by_references : {opcode to : ℕ} → IsMove (jump_by_references opcode to)
  is_jump_by_null : {opcode to : ℕ} → IsMove (jump_by_null opcode to)
  is_jump : {to : ℕ} → IsMove (jump_to to)
  is_table_switch : {low : ℤ} {other : ℕ} {targets : List ℕ} → IsMove (table_switch low other targets)
  is_lookup_switch : {other : ℕ} {pairs : List Pair} → IsMove (lookup_switch other pairs)

-- an operation whose locals are those from a base on, and whose targets are renumbered
abbrev pub moved : ℕ → (ℕ → ℕ) → Op → Op
moved base start (load_local kind at) = load_local kind (base + at)
moved base start (store_local kind at) = store_local kind (base + at)
moved base start (increment_local at by) = increment_local (base + at) by
moved base start (test_local at) = test_local (base + at)
moved base start (jump_by_int opcode to) = jump_by_int opcode (start to)
moved base start (jump_by_ints opcode to) = jump_by_ints opcode (start to)
moved base start (jump_by_references opcode to) = jump_by_references opcode (start to)
moved base start (jump_by_null opcode to) = jump_by_null opcode (start to)
moved base start (jump_to to) = jump_to (start to)
moved base start (table_switch low other targets) = table_switch low (start other) (map start targets)
moved base start (lookup_switch other pairs) =
    lookup_switch (start other) (map (λ (pair : Pair). record pair { to = start pair.to }) pairs)
moved base start op = op

-- a value that an operation loads is one of the units that there are
abbrev pub LoadFits : ℕ → List (Option Value) → Op → Type 0
LoadFits size locals (load_local kind at) =
    (value : Value) → local_value kind locals at ≡ Some value → at + width_of value ≤ size
LoadFits size locals op = Unit {0}

-- The top frames of both at an operation that is in both, moved in the second: what their stacks and units are, and which frames go
-- together behind it. The second's stack may go on below.
pub record Moves (P Q : Program) (c : Comparison) (names : Names) (base size : ℕ) (start : ℕ → ℕ)
    (below : List Value) (f g : MethodState) (rest rest_also : List RunFrame)
    : Type 0 where
  pub place : g.place ≡ start f.place
  pub next : start (f.place + 1) ≡ start f.place + 1
  pub top : List Value
  pub stack : g.stack ≡ top ++ below
  pub same : SameValues names f.stack top
  pub units : ShiftedUnits names base size f.locals g.locals
  pub goes : (place : ℕ) (ones others : List Value) (units units_also : List (Option Value))
      → SameValues names ones others
      → ShiftedUnits names base size units units_also
      → KeepsOutside base size g.locals units_also
      → c.frames names (Method (record f { place = place; stack = ones; locals = units }) ∷ rest)
      (Method (record g { place = start place; stack = others ++ below; locals = units_also }) ∷ rest_also)
  pub unwinds : (more : Names)
      → NamesMore names more
      → Unwinds P Q c.frames c.lands more (Method f ∷ rest) (Method g ∷ rest_also)

-- The top frames of both at the same operation, where stacks and units are the same.
pub record MovesAlike (P Q : Program) (c : Comparison) (names : Names) (f g : MethodState)
    (rest rest_also : List RunFrame)
    : Type 0 where
  pub place : g.place ≡ f.place
  pub same : SameValues names f.stack g.stack
  pub units : SameUnits names f.locals g.locals
  pub goes : (place : ℕ) (ones others : List Value) (units units_also : List (Option Value))
      → SameValues names ones others
      → SameUnits names units units_also
      → c.frames names (Method (record f { place = place; stack = ones; locals = units }) ∷ rest)
      (Method (record g { place = place; stack = others; locals = units_also }) ∷ rest_also)
  pub unwinds : (more : Names)
      → NamesMore names more
      → Unwinds P Q c.frames c.lands more (Method f ∷ rest) (Method g ∷ rest_also)
