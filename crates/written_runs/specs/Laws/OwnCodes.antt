-- A method of the first program that is not rewritten runs its own code in the folder's program, and in both.
use Rattle.std.proofs.Common.{◌≡◌, Option, Some, None, option_map, refl, sym, ap, ◌∙◌}
use Rattle.std.specs.Prelude.{option_and_then}
use Rattle.std.proofs.lemmas.Option.{none-some}
use Rattle.class_model.specs.declared.class_file.MethodAt.{MethodAt}
use Rattle.member_link.specs.Machine.Programs.{Code, RunMethod, code_run, run_method}
use Rattle.member_link.specs.Machine.Replaced.{with_body}
use Rattle.same_runs.specs.Laws.Numbered.{replaced_run, still_runs}
use Rattle.written_runs.specs.Inner.Setup.{IsSetup, Setup, first, second}
use Rattle.written_runs.specs.Laws.MethodsBegin.{RunsOwnCodes}
use Rattle.written_runs.specs.Laws.SameBoth.{own}

module _ {u : Setup} (is : IsSetup u) (at : MethodAt) (none : u.written at ≡ None) where
  no_flat : u.flats at ≡ None
  no_flat = is.flats.each at ∙ rw (none) refl

  -- no other code takes the place of its own
  no_body : u.r.body at ≡ None
  no_body = is.replaces.bodies at ∙ rw (no_flat) refl

  no_body_also : u.s.body at ≡ None
  no_body_also = is.replaces_also.bodies at ∙ rw (none) refl

  pub runs_own : (method : RunMethod) → run_method (first u) at ≡ Some method → run_method (own u) at ≡ Some method
  runs_own method there = by (run_method (own u) at) refl where
    by : (found : Option RunMethod) → run_method (own u) at ≡ found → run_method (own u) at ≡ Some method
    by None e = absurd (none-some method (ap (option_map (λ (m : RunMethod). with_body m (u.r.body at))) (sym e)
        ∙ sym (replaced_run (own u) u.r is.replaces.none_added at) ∙ there))
    by (Some found) e =
        e
        ∙ ap (λ (body : Option Code). Some (with_body found body)) (sym no_body)
        ∙ ap (option_map (λ (m : RunMethod). with_body m (u.r.body at))) (sym e)
        ∙ sym (replaced_run (own u) u.r is.replaces.none_added at)
        ∙ there

  pub runs_own_also : (method : RunMethod) → run_method (first u) at ≡ Some method → run_method (second u) at ≡ Some method
  runs_own_also method there =
      still_runs (own u) u.s at method (runs_own method there)
      ∙ ap (λ (body : Option Code). Some (with_body method body)) no_body_also

pub own_codes : {u : Setup} → IsSetup u → RunsOwnCodes u
own_codes is = record {
  same = λ at method none there. ap (option_and_then code_run) (runs_own_also is at none method there ∙ sym there);
}
