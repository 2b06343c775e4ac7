-- The handlers around a place of prepared code.
use Rattle.std.proofs.Common.{◌≡◌, ℕ, List, slice_get, Option, Some, None, option_map, option_and_then, refl, ap, sym, ◌∙◌}
use Rattle.std.proofs.lemmas.Option.{slice_get-map}
use Rattle.class_model.specs.declared.class_file.MethodAt.{MethodAt}
use Rattle.machine_values.specs.declared.object.Shape.{Shape}
use Rattle.member_link.specs.Machine.Programs.{Catch, Code, Point, Program, code_at, code_run, point_at}
use Rattle.machine_code.specs.Prepared.{IsPrepared, catches_around, catches_at_point}
use Rattle.machine_code.specs.declared.prepared_method.PreparedMethod.{PreparedMethod}
use Rattle.machine_run.specs.Inner.ThrowTargets.{first_handler, handler_around}

abbrev pub by_catches : Program → Option Shape → Option (List Catch) → Option ℕ
by_catches P shape None = None
by_catches P shape (Some catches) = first_handler P shape catches

by_point :
    (P : Program) (shape : Option Shape) (point : Option Point)
    → by_catches P shape (option_map catches_at_point point) ≡ handler_around P shape point
by_point P shape None = refl
by_point P shape (Some point) = refl

pub handler_by_offset :
    (P : Program) (shape : Option Shape) (at : MethodAt) (prepared : PreparedMethod) (place : ℕ)
    → IsPrepared P at prepared
    → by_catches P shape (option_map (catches_around prepared.handlers.items) (slice_get prepared.offsets.items place))
    ≡ handler_around P shape (point_at P at place)
handler_by_offset P shape at prepared place is =
    let points = is.code.points in
    let code : code_at P at ≡ Some is.code = ap (option_and_then code_run) is.there ∙ is.has_code in
    ap (by_catches P shape)
    (sym (slice_get-map (catches_around prepared.handlers.items) prepared.offsets.items place)
    ∙ ap (λ (lists : List (List Catch)). slice_get lists place) is.catches
    ∙ slice_get-map catches_at_point points place)
    ∙ by_point P shape (slice_get points place)
    ∙ sym (ap (λ (found : Option Code). handler_around P shape (option_and_then (λ (code : Code). slice_get code.points place) found)) code)

-- a method without code has no handler
pub no_handler :
    (P : Program) (shape : Option Shape) (at : MethodAt) (place : ℕ)
    → code_at P at ≡ None
    → None ≡ handler_around P shape (point_at P at place)
no_handler P shape at place none =
    sym (ap (λ (found : Option Code). handler_around P shape (option_and_then (λ (code : Code). slice_get code.points place) found)) none)
