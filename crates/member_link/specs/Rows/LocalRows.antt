-- Constants, and instructions on locals (JVM Specification SE 8, 6.5: load, store and iinc; 6.5.ldc).
use Rattle.std.specs.Prelude.{◌≡◌, ◌+◌, ◌≤◌, ℕ, zero, suc, List, [], ◌∷◌, length, slice_get, slice_set, codes, Option, Some, None, if◌then◌else◌}
use Rattle.class_model.specs.Frames.{is_wide, units}
use Rattle.class_model.specs.declared.descriptor.Kind.{Kind}
use Rattle.class_model.specs.declared.descriptor.Kind.TheVariants as kinds
use Rattle.class_model.specs.declared.frame.Frame.{Frame}
use Rattle.class_model.specs.declared.frame.VType.{VType}
use Rattle.class_model.specs.declared.frame.VType.TheVariants as types
use Rattle.class_model.specs.declared.instr.Imm.{Imm}
use Rattle.class_model.specs.declared.instr.Imm.TheVariants as imms
use Rattle.class_model.specs.declared.pool.Const.{Const}
use Rattle.class_model.specs.declared.pool.Const.TheVariants as consts
use Rattle.class_tree.specs.Names.{method_handle, method_type}
use Rattle.member_link.specs.Rows.Operands.{of_kind, IsOfKind, lowest_of}
use Rattle.member_link.specs.Rows.Row.{Row, plain, no_row}

-- ---- constants

abbrev pub type_of_imm : Imm → VType
type_of_imm imms.Null = types.Null
type_of_imm (imms.Int number) = types.Int
type_of_imm (imms.Long number) = types.Long
type_of_imm (imms.Float bits) = types.Float
type_of_imm (imms.Double bits) = types.Double

-- the type of a constant of the pool that is loaded
abbrev pub type_of_const : Const → Option VType
type_of_const (consts.Integer number) = Some types.Int
type_of_const (consts.Float bits) = Some types.Float
type_of_const (consts.Long number) = Some types.Long
type_of_const (consts.Double bits) = Some types.Double
type_of_const (consts.String text) = Some (types.Object (codes "java/lang/String"))
type_of_const (consts.Class name) = Some (types.Object (codes "java/lang/Class"))
type_of_const (consts.MethodHandle kind reference) = Some (types.Object method_handle)
type_of_const (consts.MethodType descriptor) = Some (types.Object method_type)
type_of_const other = None

abbrev pub imm_row : Frame → Imm → Row
imm_row f imm = plain f [] (type_of_imm imm ∷ [])

abbrev pub const_row : Frame → Option Const → Row
const_row f None = no_row f
const_row f (Some constant) = of_type (type_of_const constant) where
  of_type : Option VType → Row
  of_type None = no_row f
  of_type (Some type) = plain f [] (type ∷ [])

-- ---- locals

-- the local is there and of a kind
abbrev pub HoldsKind : Kind → List VType → ℕ → Type 0
HoldsKind kind locals at = (type : VType) × (slice_get locals at ≡ Some type) × IsOfKind kind type

-- the type of the local, if it is there
abbrev pub local_entry : List VType → ℕ → List VType
local_entry locals at = of_entry (slice_get locals at) where
  of_entry : Option VType → List VType
  of_entry None = []
  of_entry (Some type) = type ∷ []

abbrev pub load_row : Frame → Kind → ℕ → Row
load_row f kind at =
    record (plain f [] (local_entry f.locals at)) { local = HoldsKind kind f.locals at }

-- A long or double whose second unit is written is none any more.
abbrev pub cut_before : ℕ → List VType → List VType
cut_before zero locals = locals
cut_before (suc at) locals = of_unit (slice_get locals at) where
  of_unit : Option VType → List VType
  of_unit None = locals
  of_unit (Some type) = if is_wide type then slice_set locals at types.Top else locals

-- units written from a local on
abbrev pub with_units : ℕ → List VType → List VType → List VType
with_units at [] locals = locals
with_units at (type ∷ rest) locals = with_units (at + 1) rest (slice_set locals at type)

-- the locals after a store
abbrev pub stored : ℕ → VType → List VType → List VType
stored at type locals = with_units at (units type) (cut_before at locals)

-- its units are there
abbrev pub HasRoom : Kind → List VType → ℕ → Type 0
HasRoom kinds.Long locals at = at + 2 ≤ length locals
HasRoom kinds.Double locals at = at + 2 ≤ length locals
HasRoom kind locals at = at + 1 ≤ length locals

abbrev pub store_row : Frame → Kind → ℕ → Row
store_row f kind at =
    record (plain f (of_kind kind ∷ []) []) {
      local = HasRoom kind f.locals at;
      locals = stored at
          (lowest_of 1 f.stack) f.locals;
    }

abbrev pub iinc_row : Frame → ℕ → Row
iinc_row f at = record (plain f [] []) { local = HoldsKind kinds.Int f.locals at }

-- A test of a local for null, which flat code has: it asks for a reference and gives nothing.
abbrev pub null_test_row : Frame → ℕ → Row
null_test_row f at = record (plain f [] []) { local = HoldsKind kinds.Ref f.locals at }
