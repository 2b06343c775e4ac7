-- Where a thrown object lands, by the shape that it has: handlers do not look at more of it.
use Rattle.std.specs.Prelude.{ℕ, Bool, true, false, List, [], ◌∷◌, length, Option, Some, None, option_map, if◌then◌else◌}
use Rattle.class_tree.specs.Headers.{Name}
use Rattle.machine_values.specs.Heaps.{Heap, object_at}
use Rattle.machine_values.specs.declared.frame.RunFrame.{RunFrame}
use Rattle.machine_values.specs.declared.frame.RunFrame.TheVariants.{Library, Beginning, Method}
use Rattle.machine_values.specs.declared.object.Shape.{Shape}
use Rattle.member_link.specs.Machine.Performing.{is_initialiser}
use Rattle.member_link.specs.Machine.Programs.{Catch, Point, Program, RunMethod, point_at, run_method}
use Rattle.member_link.specs.Machine.Shapes.{is_instance}
use Rattle.machine_run.specs.declared.throw_targets.Passing.{Passing}
use Rattle.machine_run.specs.declared.throw_targets.Passing.TheVariants.{Lands, Passes, Nowhere}
use Rattle.machine_run.specs.declared.throw_targets.TargetKind.TheVariants as kinds
use Rattle.machine_run.specs.declared.throw_targets.ThrowTarget.{ThrowTarget}

-- ---- handlers

-- the shape of an object that is there
abbrev pub shape_at : Heap → ℕ → Option Shape
shape_at heap reference = option_map (λ object. object.shape) (object_at heap reference)

abbrev pub catches : Program → Option Name → Option Shape → Bool
catches P None shape = true
catches P (Some name) None = false
catches P (Some name) (Some shape) = is_instance P shape name

abbrev pub first_handler : Program → Option Shape → List Catch → Option ℕ
first_handler P shape [] = None
first_handler P shape (first ∷ others) =
    if catches P first.class shape then Some first.to else first_handler P shape others

abbrev pub handler_around : Program → Option Shape → Option Point → Option ℕ
handler_around P shape None = None
handler_around P shape (Some point) = first_handler P shape point.catches

-- ---- frames

-- with so many frames, the one that is looked at and those below it
abbrev pub target_at : ℕ → Passing → Option ThrowTarget → Option ThrowTarget
target_at left (Lands kind) below = Some (record { left = left; kind = kind })
target_at left Passes below = below
target_at left Nowhere below = None

-- what a method without a handler is for an object that is thrown in it
abbrev pub without_handler : Option RunMethod → Passing
without_handler None = Nowhere
without_handler (Some method) = if is_initialiser method then Lands kinds.Initialiser else Passes

abbrev pub passing_by : Option ℕ → Option RunMethod → Passing
passing_by (Some to) method = Lands (kinds.Handler to)
passing_by None method = without_handler method

abbrev pub passing_in : Program → Option Shape → RunFrame → Passing
passing_in P shape (Library made) = Lands kinds.Library
passing_in P shape (Beginning class) = Nowhere
passing_in P shape (Method f) =
    passing_by (handler_around P shape (point_at P f.at f.place)) (run_method P f.at)

abbrev pub target_in : Program → Option Shape → List RunFrame → Option ThrowTarget
target_in P shape [] = None
target_in P shape (frame ∷ rest) =
    target_at (length (frame ∷ rest)) (passing_in P shape frame) (target_in P shape rest)
