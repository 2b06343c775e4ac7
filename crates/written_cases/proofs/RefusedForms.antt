-- Of the two forms that are refused: null at an uninitialised object of a site, and frames below an initialiser's.
use Rattle.std.proofs.Common.{◌≡◌, ◌<◌, ◌+◌, ℕ, zero, suc, List, [], ◌∷◌, slice_get, Option, Some, IsTrue, refl, sym, ap, subst, ◌∙◌, arith}
use Rattle.std.proofs.lemmas.Bool.{false≢true}
use Rattle.std.proofs.lemmas.Option.{none-some, same_Some}
use Rattle.class_model.specs.declared.frame.VType.{VType}
use Rattle.class_model.specs.declared.frame.VType.TheVariants.{Int, Null, Uninit}
use Rattle.class_model.specs.declared.descriptor.Kind.TheVariants as kinds
use Rattle.class_model.specs.declared.instr.Instr.TheVariants.{Store}
use Rattle.flow_code.specs.declared.point.FlatInstr.TheVariants.{Of}
use Rattle.flow_code.specs.FlatCode.{point_at}
use Rattle.flow_code.specs.declared.point.Point.{Point}
use Rattle.machine_values.specs.Frames.{MethodState}
use Rattle.machine_values.specs.declared.frame.RunFrame.{RunFrame}
use Rattle.member_link.specs.Machine.Programs.{Catch}
use Rattle.plan_flow.specs.Narrow.{IsNarrow}
use Rattle.plan_flow.specs.PlanRows.{Source, from_place}
use Rattle.plan_flow.specs.PlanTable.{falls_on}
use Rattle.plan_flow.specs.Plans.{FlowsInside}
use Rattle.plan_flow.specs.ReadyForPlans.{KeepsType, KeepsUninit, from_its_new, from_its_type, place_types}
use Rattle.same_runs.specs.Renamings.{Names}
use Rattle.same_runs.specs.SameFrames.{SameCatches, and_catch, in_both, in_first, no_catches}
use Rattle.written_cases.specs.FieldInATry.{Any, InitialisersAlike, NoneThroughBoth}
use Rattle.written_cases.specs.NullAtUninit.{scope}

-- ---- null at an uninitialised object

pub flows_inside : FlowsInside scope.flat
flows_inside = record { some = omega arith; next = next } where
  next : (at : ℕ) (point : Point) → point_at scope.flat at ≡ Some point → IsTrue (falls_on point.instr) → at + 1 < 8
  next zero point is falls = omega arith
  next (suc zero) point is falls = omega arith
  next (suc (suc zero)) point is falls = omega arith
  next (suc (suc (suc zero))) point is falls = omega arith
  next (suc (suc (suc (suc zero)))) point is falls = omega arith
  next (suc (suc (suc (suc (suc zero))))) point is falls = omega arith
  next (suc (suc (suc (suc (suc (suc zero)))))) point is falls = omega arith
  next (suc (suc (suc (suc (suc (suc (suc zero))))))) point is falls =
      absurd (false≢true (subst (λ (p : Point). IsTrue (falls_on p.instr)) (sym (same_Some _ point is)) falls))
  next (suc (suc (suc (suc (suc (suc (suc (suc at)))))))) point is falls = absurd (none-some point is)

pub is_narrow : IsNarrow scope.flat
is_narrow = record {
  sites = omega arith;
  points = (
    record { locals = omega arith; targets = omega arith; handlers = omega arith },
    (
      record { locals = omega arith; targets = omega arith; handlers = omega arith },
      (
        record { locals = omega arith; targets = omega arith; handlers = omega arith },
        (
          record { locals = omega arith; targets = omega arith; handlers = omega arith },
          (
            record { locals = omega arith; targets = omega arith; handlers = omega arith },
            (
              record { locals = omega arith; targets = omega arith; handlers = omega arith },
              (
                record { locals = omega arith; targets = omega arith; handlers = omega arith },
                (
                  record { locals = omega arith; targets = omega arith; handlers = omega arith },
                  tt,
                ),
              ),
            ),
          ),
        ),
      ),
    ),
  );
}

-- the store of null
abbrev fourth : Point
fourth = record { instr = Of 1 (Store kinds.Ref 1); typed = record { locals = Int ∷ Uninit 0 ∷ []; stack = Null ∷ [] }; handlers = [] }

-- the value comes from a place of another type
from_null : (before : List VType) → slice_get before 2 ≡ Some Null → (source : Source) → Some (from_place 2) ≡ Some source → KeepsType 3 before (Uninit 0) source → ⊥
from_null before null (from_place place) is (from_its_type _ there) =
    let two : 2 ≡ place = ap (λ (s : Option Source). place_of s) is in
    let same : Some Null ≡ Some (Uninit 0) = sym null ∙ (ap (slice_get before) two ∙ there) in
    cc
  where
    place_of : Option Source → ℕ
    place_of (Some (from_place n)) = n
    place_of other = 0
from_null before null source is (from_its_new same) = cc

pub keeps_none : ¬ KeepsUninit scope
keeps_none keeps =
    let along = (keeps.along 3 fourth refl).0.locals 1 (Uninit 0) refl refl in
    from_null (place_types fourth.typed) refl along.0 along.1 along.2

-- ---- frames below an initialiser's

apart : (Lands : Names → List RunFrame → List RunFrame → Type 0) (names : Names) (f g : MethodState) (ones others : List RunFrame)
    (catch : Catch) (catches also : List Catch)
    → SameCatches Lands names f g ones others catches also
    → catches ≡ catch ∷ []
    → also ≡ []
    → ⊥
apart Lands names f g ones others catch _ _ no_catches has_one has_none = cc
apart Lands names f g ones others catch _ _ (and_catch lands rest) has_one has_none = cc

pub none_through_both : NoneThroughBoth
none_through_both P Q names f g ones others there (in_both ends held catches frames below) =
    apart Any names f g ones others there.catch _ _ catches there.has_one there.has_none
none_through_both P Q names f g ones others there (in_first passes rest) =
    let none = sym passes.catches_none ∙ there.has_one in cc

pub initialisers_alike : InitialisersAlike
initialisers_alike P Q names f g ones others ends is held catches frames =
    in_both ends held catches frames (λ not_one. absurd (false≢true (sym not_one ∙ is)))
