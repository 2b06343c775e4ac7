-- Frames behind a turn of a beginning go together.
use Rattle.std.proofs.Common.{ℕ, Bool, true, false, List, length, sym, subst}
use Rattle.machine_values.specs.declared.frame.RunFrame.{RunFrame}
use Rattle.member_link.specs.Machine.Programs.{Program}
use Rattle.same_runs.specs.Laws.BothBegin.{BeginsOn}
use Rattle.same_runs.specs.Laws.MethodPoints.{awaited_is}
use Rattle.same_runs.specs.Renamings.{Names, no_units, none_held}
use Rattle.written_runs.specs.Laws.BothTurns.{Basis, names_more}
use Rattle.written_runs.specs.Laws.MethodsBegin.{begins_same}
use Rattle.written_runs.specs.Inner.PlannedFrames.{Known}
use Rattle.written_runs.specs.Inner.Setup.{Setup, first, second}
use Rattle.written_runs.specs.Inner.Standing.{HasNone, Stands, beginnings_stand, comparison, stands}
use Rattle.written_runs.specs.VirtualObjects.{Virtuals}

module _ {u : Setup} (basis : Basis u) where
  abbrev P : Program
  P = first u

  abbrev Q : Program
  Q = second u

  -- what goes together behind a turn of a beginning that stands on top of both
  pub begins_on : {virtuals : Virtuals} {known : Known} {names : Names} {rest rest_also : List RunFrame} (class : ℕ)
      → HasNone virtuals (length rest)
      → Stands u virtuals known false names rest rest_also
      → BeginsOn P Q (comparison u virtuals known) names class rest rest_also
  begins_on {virtuals = virtuals} {known = known} {rest = rest} {rest_also = rest_also} class has_none below = record {
    begins = λ more first grows. stands (beginnings_stand (beginnings_stand (names_more grows below)));
    is_over = λ more grows none. stands (names_more grows below);
    initialises = λ more at method grows is is_method.
        begins_same basis.codes at method is_method no_units none_held has_none
        (subst (λ (b : Bool). Stands u virtuals known b more rest rest_also)
        (sym (awaited_is (first u) at method true is_method (basis.initialisers class at method is is_method))) (names_more grows below));
  }
