-- Written code has no more local units of the flat code than the types list.
use Rattle.std.proofs.Common.{◌≡◌, ◌≤◌, refl, sym, ap, ℕ, List, [], ◌∷◌, length, Option, Some, None, arith}
use Rattle.std.specs.Option.{option_map}
use Rattle.std.proofs.lemmas.Option.{none-some}
use Rattle.class_model.specs.declared.frame.Frame.{Frame}
use Rattle.class_model.specs.declared.frame.VType.{VType}
use Rattle.flow_code.specs.FlatCode.{FlatCode, point_at}
use Rattle.flow_code.specs.declared.point.Point.{Point}
use Rattle.making_code.specs.StateFrames.{local_types_from}
use Rattle.virtual_state.specs.declared.slot.Slot.{Slot}
use Rattle.written_frames.specs.FewLocals.{HasFewLocals}

few_from : (flat : FlatCode) (types : List VType) (slots : List Slot) → length (local_types_from flat types slots) ≤ length types
few_from flat [] slots = omega arith
few_from flat (type ∷ types) [] = omega arith
few_from flat (type ∷ types) (slot ∷ slots) = let rest = few_from flat types slots in omega (arith, rest)

pub own_few : (flat : FlatCode) (types own : List VType) (slots : List Slot) → own ≡ local_types_from flat types slots → length types ≤ 65536
    → length own ≤ 18446744073709486080
own_few flat types own slots is few =
    let many : length own ≡ length (local_types_from flat types slots) = ap length is in
    let less = few_from flat types slots in
    omega (arith, many, less, few)

few_at : (found : Option Point) (typed : Frame) → ((point : Point) → found ≡ Some point → length point.typed.locals ≤ 65536)
    → Some typed ≡ option_map (λ (point : Point). point.typed) found → length typed.locals ≤ 65536
few_at None typed few is = absurd (none-some typed (sym is))
few_at (Some point) typed few is =
    let same : typed ≡ point.typed = cc is in
    let many : length typed.locals ≡ length point.typed.locals = ap (λ (f : Frame). length f.locals) same in
    let less = few point refl in
    omega (arith, many, less)

pub few_typed : (flat : FlatCode) (at : ℕ) (typed : Frame) → HasFewLocals flat at → Some typed ≡ option_map (λ (point : Point). point.typed) (point_at flat at)
    → length typed.locals ≤ 65536
few_typed flat at typed few is = few_at (point_at flat at) typed few is
