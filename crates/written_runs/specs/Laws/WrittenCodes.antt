-- In the methods that are rewritten the first program runs flat code, and the second written code.
use Rattle.std.proofs.Common.{◌≡◌, false, Some, refl, ◌∙◌}
use Rattle.class_model.specs.Members.{NATIVE, has}
use Rattle.class_model.specs.declared.class_file.MethodAt.{MethodAt}
use Rattle.expanded_code.specs.Laws.CodedMethods.{not_native}
use Rattle.member_link.specs.Machine.Programs.{code_at}
use Rattle.member_link.specs.Scope.{Scope, scope_at}
use Rattle.plan_flow.specs.Written.WrittenCode.{written_code}
use Rattle.plan_flow.specs.Written.WrittenPrograms.{WrittenMethod}
use Rattle.same_runs.specs.Flats.{flat_code}
use Rattle.member_link.specs.Laws.Scopes.{IsScopeAt, scope_is_at}
use Rattle.same_runs.specs.Laws.Scopes.{runs_in_place}
use Rattle.written_runs.specs.Inner.PlannedFrames.{blocks_in, scope_in}
use Rattle.written_runs.specs.Inner.Setup.{IsSetup, Setup, first, second}

coded_not_native : (u : Setup) → IsSetup u → (at : MethodAt) (host : Scope) → scope_at u.classes at ≡ Some host → has host.method.flags NATIVE ≡ false
coded_not_native u setup at host is =
    let there = scope_is_at u.classes at host is in
    not_native u.classes setup.tree at host.class host.method host.part there.of_folder there.of_class there.has_code

pub written_code_at : (u : Setup) → IsSetup u → (at : MethodAt) (w : WrittenMethod) (host : Scope)
    → u.written at ≡ Some w
    → scope_at u.classes at ≡ Some host
    → code_at (second u) at ≡ Some (written_code (scope_in u w) host u.constructor w.form (blocks_in u w))
written_code_at u setup at w host written is =
    runs_in_place u.classes u.links u.s at host _ there (coded_not_native u setup at host is)
    (setup.replaces_also.bodies at ∙ rw (written, is) refl) where
      there : IsScopeAt u.classes at host
      there = scope_is_at u.classes at host is

-- the first runs flat code there
pub flat_code_at : (u : Setup) → IsSetup u → (at : MethodAt) (w : WrittenMethod) (host : Scope)
    → u.written at ≡ Some w
    → scope_at u.classes at ≡ Some host
    → code_at (first u) at ≡ Some (flat_code u.classes u.links host w.flat)
flat_code_at u setup at w host written is =
    runs_in_place u.classes u.links u.r at host _ there (coded_not_native u setup at host is)
    (setup.replaces.bodies at ∙ rw (has_flat, is) refl) where
      there : IsScopeAt u.classes at host
      there = scope_is_at u.classes at host is

      has_flat : u.flats at ≡ Some w.flat
      has_flat = setup.flats.each at ∙ rw (written) refl
