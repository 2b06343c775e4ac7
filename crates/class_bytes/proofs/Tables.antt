-- Bootstrap methods: how many bytes they take, and their checks one after the other.
use Rattle.std.proofs.Common.{◌≡◌, ℕ, suc, ◌+◌, ◌*◌, ◌<◌, List, ◌∷◌, ◌++◌, length, get_or, drop, Result, Ok, Err, sym, ap, subst, ◌∙◌, arith, add-one, drop-cons}
use Rattle.class_model.specs.Answers.{Tells}
use Rattle.class_model.specs.Checks.{Check, Fault}
use Rattle.class_model.specs.Laws.Answers.{refused}
use Rattle.class_model.specs.Laws.Checks.{Remain, remain}
use Rattle.class_model.specs.Methods.{bootstraps_checks}
use Rattle.class_model.specs.Pool.{Constants}
use Rattle.class_model.specs.declared.fault.ClassFault.{ClassFault}
use Rattle.class_bytes.specs.Inner.Bootstraps.{bootstrap_of, bootstraps_of, bootstraps_len, bootstrap_checks}
use Rattle.class_bytes.specs.declared.bootstraps.CutBootstrap.{CutBootstrap}

-- ---- one method after the other

-- The methods before this place hold; these are left.
pub record MethodsChecked (pool : Constants) (whole : List (Check Fault)) (end : ℕ) (place : ℕ) (left : List CutBootstrap) : Type 0 where
  pub remain : Remain whole (bootstraps_checks pool place (bootstraps_of left))
  pub ends : place + bootstraps_len (bootstraps_of left) ≡ end

-- the next of them
module _ (pool : Constants) (whole : List (Check Fault)) (end : ℕ) (place : ℕ) (methods : List CutBootstrap) (index : ℕ) (method : CutBootstrap) (within : index < length methods) (is : method ≡ get_or methods index method) (so_far : MethodsChecked pool whole end place (drop index methods)) where
  abbrev others : List CutBootstrap
  others = drop (index + 1) methods

  abbrev len : ℕ
  len = 4 + 2 * length method.arguments

  first_left : drop index methods ≡ method ∷ others
  first_left = drop-cons methods index method within ∙ ap (λ (next : CutBootstrap). next ∷ drop (suc index) methods) (sym is) ∙ ap (λ (n : ℕ). method ∷ drop n methods) (sym (add-one index))

  ends : place + bootstraps_len (bootstraps_of (method ∷ others)) ≡ end
  ends = rw first_left at so_far.ends

  abbrev its_checks : List (Check Fault)
  its_checks = bootstrap_checks pool place (bootstrap_of method)

  left : Remain whole (its_checks ++ bootstraps_checks pool (place + 4 + 2 * length method.arguments) (bootstraps_of others))
  left = rw first_left at so_far.remain

  abbrev TellsNext : Result (Unit {0}) ClassFault → Type 0
  TellsNext result = Tells {X = Unit {0}} its_checks (λ done. Unit {0}) result

  pub method_refused : (e : ClassFault) → TellsNext (Err e) → Tells {X = Unit {0}} whole (λ done. Unit {0}) (Err e)
  method_refused e told = refused {X = Unit {0}} {Y = Unit {0}} its_checks _ (λ done. Unit {0}) (λ done. Unit {0}) e left told

  pub one_behind : (done : Unit {0}) → TellsNext (Ok done) → MethodsChecked pool whole end (place + len) others
  one_behind done told =
      let e = ends in
      record {
        remain = subst (λ (at : ℕ). Remain whole (bootstraps_checks pool at (bootstraps_of others))) (omega arith) (remain its_checks _ left told.0);
        ends = omega arith;
      }
