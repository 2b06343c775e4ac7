-- The frames that a method of a linked folder states, and the one that its code begins with, name classes that are there.
use Rattle.std.proofs.Common.{◌≡◌, ◌-◌, ℕ, zero, suc, Bool, true, false, List, [], ◌∷◌, length, map, replicate, slice_get, Option, Some, None, IfSome, if◌then◌else◌, refl}
use Rattle.std.specs.Prelude.{◌==◌}
use Rattle.std.specs.List.{AllByRecursion}
use Rattle.std.proofs.lemmas.Option.{none-some, same_Some}
use Rattle.class_model.specs.Checks.{AllHold, asked_each}
use Rattle.class_model.specs.Code.{entry_frame, verification_type}
use Rattle.class_model.specs.Frames.{filled, units_of_entries}
use Rattle.class_model.specs.Laws.Checks.{first_holds, others_hold}
use Rattle.class_model.specs.Members.{STATIC, has, is_text}
use Rattle.class_model.specs.Names.{init}
use Rattle.class_model.specs.Stated.{frame_for}
use Rattle.class_model.specs.declared.descriptor.FieldType.{FieldType}
use Rattle.class_model.specs.declared.descriptor.FieldType.TheVariants.{Named, Byte, Char, Short, Bool as Boolean, Int, Long, Float, Double}
use Rattle.class_model.specs.declared.frame.Frame.{Frame}
use Rattle.class_model.specs.declared.frame.PlacedFrame.{PlacedFrame}
use Rattle.class_model.specs.declared.frame.VType.{VType}
use Rattle.class_model.specs.declared.frame.VType.TheVariants as types
use Rattle.class_tree.specs.Headers.{Headers, IsThere, Name}
use Rattle.expanded_runs.proofs.Types.NamedTypes.{AreNamed, AreNamedTypes, IsNamedType}
use Rattle.expanded_runs.specs.Laws.KeptNames.{named_append}
use Rattle.expanded_runs.specs.NamedFrames.{FrameHas, TypeHas, TypesHave}
use Rattle.member_link.specs.References.{TypeNames}
use Rattle.member_link.specs.Uses.{UseScope, frame_checks, type_checks}

-- ---- stated frames

type_named : (s : UseScope) (type : VType) → AllHold (type_checks s type) → IsNamedType s.headers type
type_named s (types.Object name) hold = hold.0
type_named s types.Top hold = tt
type_named s types.Int hold = tt
type_named s types.Float hold = tt
type_named s types.Long hold = tt
type_named s types.Double hold = tt
type_named s types.Null hold = tt
type_named s types.UninitThis hold = tt
type_named s (types.Uninit at) hold = tt

types_named : (s : UseScope) (entries : List VType) → AllHold (asked_each (type_checks s) entries) → AreNamedTypes s.headers entries
types_named s [] hold = tt
types_named s (type ∷ entries) hold = (
  type_named s type (first_holds (type_checks s type) (asked_each (type_checks s) entries) hold),
  types_named s entries (others_hold (type_checks s type) (asked_each (type_checks s) entries) hold),
)

pub frame_named : (s : UseScope) (placed : PlacedFrame) → AllHold (frame_checks s placed) → AreNamed s.headers placed.frame
frame_named s placed hold =
    let locals = asked_each (type_checks s) placed.frame.locals in
    let stack = asked_each (type_checks s) placed.frame.stack in
    record {
      locals = types_named s placed.frame.locals (first_holds locals stack hold);
      stack = types_named s placed.frame.stack (others_hold locals stack hold);
    }

-- the frame for an offset is one of them
pub record IsOneOf (frames : List PlacedFrame) (frame : Frame) : Type 0 where
  pub number : ℕ
  pub placed : PlacedFrame
  pub there : slice_get frames number ≡ Some placed
  pub same : placed.frame ≡ frame

pub one_of : (frames : List PlacedFrame) (at : ℕ) (frame : Frame) → frame_for frames at ≡ Some frame → IsOneOf frames frame
one_of [] at frame is = absurd (none-some frame is)
one_of (placed ∷ others) at frame is = by (placed.at == at) is (one_of others at frame) where
  by : (here : Bool) → (if here then Some placed.frame else frame_for others at) ≡ Some frame
      → (frame_for others at ≡ Some frame → IsOneOf others frame)
      → IsOneOf (placed ∷ others) frame
  by true found below = record { number = zero; placed = placed; there = refl; same = same_Some placed.frame frame found }
  by false found below =
      let one = below found in
      record { number = suc one.number; placed = one.placed; there = one.there; same = one.same }

-- ---- the frame that a code begins with

pub value_named : (headers : Headers) (type : FieldType) → TypeNames (IsThere headers) type → IsNamedType headers (verification_type type)
value_named headers (Named name) there = there
value_named headers Byte there = tt
value_named headers Char there = tt
value_named headers Short there = tt
value_named headers Boolean there = tt
value_named headers Int there = tt
value_named headers Long there = tt
value_named headers Float there = tt
value_named headers Double there = tt

pub all_values_named : (headers : Headers) (params : List FieldType) → AllByRecursion (TypeNames (IsThere headers)) params
    → AllByRecursion (λ type. IsNamedType headers (verification_type type)) params
all_values_named headers [] there = tt
all_values_named headers (param ∷ params) there = (value_named headers param there.0, all_values_named headers params there.1)

module _ (Has : Name → Type 0) where
  values_named : (params : List FieldType) → AllByRecursion (λ type. TypeHas Has (verification_type type)) params
      → TypesHave Has (map verification_type params)
  values_named [] there = tt
  values_named (param ∷ params) there = (there.0, values_named params there.1)

  tops_named : (count : ℕ) → TypesHave Has (replicate count types.Top)
  tops_named zero = tt
  tops_named (suc count) = (tt, tops_named count)

  units_named : (entries : List VType) → TypesHave Has entries → TypesHave Has (units_of_entries entries)
  units_named [] all = tt
  units_named (types.Long ∷ entries) all = (tt, (tt, units_named entries all.1))
  units_named (types.Double ∷ entries) all = (tt, (tt, units_named entries all.1))
  units_named (types.Top ∷ entries) all = (tt, units_named entries all.1)
  units_named (types.Int ∷ entries) all = (tt, units_named entries all.1)
  units_named (types.Float ∷ entries) all = (tt, units_named entries all.1)
  units_named (types.Null ∷ entries) all = (tt, units_named entries all.1)
  units_named (types.UninitThis ∷ entries) all = (tt, units_named entries all.1)
  units_named (types.Object name ∷ entries) all = (all.0, units_named entries all.1)
  units_named (types.Uninit at ∷ entries) all = (tt, units_named entries all.1)

  filled_named : (max_locals : ℕ) (entries : List VType) → TypesHave Has entries → TypesHave Has (filled max_locals entries)
  filled_named max_locals entries all =
      named_append Has (units_of_entries entries) (replicate (max_locals - length (units_of_entries entries)) types.Top)
      (units_named entries all) (tops_named (max_locals - length (units_of_entries entries)))

  pub entry_frame_has : (flags : ℕ) (name : List ℕ) (class : Option (List ℕ)) (params : List FieldType) (max_locals : ℕ)
      → IfSome class Has
      → AllByRecursion (λ type. TypeHas Has (verification_type type)) params
      → FrameHas Has (entry_frame flags name class params max_locals)
  entry_frame_has flags name class params max_locals own there = record { locals = by (has flags STATIC) refl; stack = tt } where
    rest : TypesHave Has (map verification_type params)
    rest = values_named params there

    of_class : (class_is : Option (List ℕ)) → class ≡ class_is → IfSome class_is Has
        → has flags STATIC ≡ false → is_text init (Some name) ≡ false
        → TypesHave Has (entry_frame flags name class params max_locals).locals
    of_class (Some named) is own static other =
        rw (static, other, is) (filled_named max_locals (types.Object named ∷ map verification_type params) (own, rest))
    of_class None is own static other = rw (static, other, is) (filled_named max_locals (types.Top ∷ map verification_type params) (tt, rest))

    of_name : (is_init : Bool) → is_text init (Some name) ≡ is_init → has flags STATIC ≡ false
        → TypesHave Has (entry_frame flags name class params max_locals).locals
    of_name true is static = rw (static, is) (filled_named max_locals (types.UninitThis ∷ map verification_type params) (tt, rest))
    of_name false is static = of_class class refl own static is

    by : (static : Bool) → has flags STATIC ≡ static → TypesHave Has (entry_frame flags name class params max_locals).locals
    by true is = rw is (filled_named max_locals (map verification_type params) rest)
    by false is = of_name (is_text init (Some name)) refl is
