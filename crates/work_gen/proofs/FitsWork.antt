-- The lists of generated classes fit the items that count them.
use Rattle.std.proofs.Common.{◌≡◌, ◌≤◌, ℕ, suc, List, [], ◌∷◌, length, ap, refl, arith}
use Rattle.std.specs.List.{AllByRecursion}
use Rattle.class_bytes.specs.Counts.{FitsCounts, FitsMethod, FitsPart}
use Rattle.work_gen.specs.Generated.{generated_folder, indexed, kind_code, point, point_init, point_y, work, work_method}
use Rattle.work_gen.specs.declared.choices.Choice.{Choice}
use Rattle.work_gen.specs.declared.choices.Kind.{Kind}
use Rattle.work_gen.specs.declared.choices.Kind.TheVariants.{Adds, Loops, Branches, Locks}

fits_kind : (kind : Kind) → FitsPart (kind_code kind)
fits_kind Adds = record { content = omega arith; code = omega arith; handlers = omega arith; attrs = record { count = omega arith; each = tt } }
fits_kind Loops = record { content = omega arith; code = omega arith; handlers = omega arith; attrs = record { count = omega arith; each = (omega arith, tt) } }
fits_kind Branches = record { content = omega arith; code = omega arith; handlers = omega arith; attrs = record { count = omega arith; each = (omega arith, tt) } }
fits_kind Locks = record { content = omega arith; code = omega arith; handlers = omega arith; attrs = record { count = omega arith; each = (omega arith, tt) } }

fits_method : (number : ℕ) (choice : Choice) → FitsMethod (work_method number choice)
fits_method number choice = record { count = omega arith; each = (fits_kind choice.kind, tt) }

fits_methods : (number : ℕ) (chosen : List Choice) → AllByRecursion FitsMethod (indexed (λ number choice. work_method number choice ∷ []) number chosen)
fits_methods number [] = tt
fits_methods number (choice ∷ chosen) = (fits_method number choice, fits_methods (suc number) chosen)

methods_length : (number : ℕ) (chosen : List Choice) → length (indexed (λ number choice. work_method number choice ∷ []) number chosen) ≡ length chosen
methods_length number [] = refl
methods_length number (choice ∷ chosen) = ap suc (methods_length (suc number) chosen)

fits_work : (chosen : List Choice) → length chosen ≤ 1000 → FitsCounts (work chosen)
fits_work chosen few = record {
  interfaces = omega arith;
  fields = record { count = omega arith; each = tt };
  methods = record { count = omega (arith, few, methods_length 0 chosen); each = fits_methods 0 chosen };
  attrs = record { count = omega arith; each = tt };
}

fits_init : FitsPart point_init
fits_init = record { content = omega arith; code = omega arith; handlers = omega arith; attrs = record { count = omega arith; each = tt } }

fits_y : FitsPart point_y
fits_y = record { content = omega arith; code = omega arith; handlers = omega arith; attrs = record { count = omega arith; each = tt } }

fits_point : FitsCounts point
fits_point = record {
  interfaces = omega arith;
  fields = record { count = omega arith; each = (record { count = omega arith; each = tt }, (record { count = omega arith; each = tt }, tt)) };
  methods = record { count = omega arith; each = (record { count = omega arith; each = (fits_init, tt) }, (record { count = omega arith; each = (fits_y, tt) }, tt)) };
  attrs = record { count = omega arith; each = tt };
}

pub fits_folder : (chosen : List Choice) → length chosen ≤ 1000 → AllByRecursion FitsCounts (generated_folder chosen)
fits_folder chosen few = (fits_work chosen few, (fits_point, tt))
