-- The entries of an exception table checked one after the other.
use Rattle.std.proofs.Common.{◌≡◌, ℕ, ◌+◌, ◌<◌, List, ◌∷◌, length, get_or, drop, Ok, Err, sym, ap, subst, ◌∙◌, add-one, drop-cons}
use Rattle.class_model.specs.Answers.{Tells}
use Rattle.class_model.specs.Checks.{Check, Fault}
use Rattle.class_model.specs.Code.{handlers_checks}
use Rattle.class_model.specs.Laws.Answers.{refused}
use Rattle.class_model.specs.Laws.Checks.{Remain, remain}
use Rattle.class_model.specs.Pool.{Constants}
use Rattle.class_model.specs.declared.class_file.Handler.{Handler}
use Rattle.class_model.specs.declared.fault.ClassFault.{ClassFault}
use Rattle.class_model.specs.declared.instr.Placed.{Placed}
use Rattle.class_bytes.specs.Inner.CodeParts.{handler_checks}

-- a fault of an entry, in a code that is equal
pub over_code :
    (pool : Constants) (one other : List Placed) (len at : ℕ) (handler : Handler) (e : ClassFault)
    → one ≡ other
    → Tells {X = Unit {0}} (handler_checks pool one len at handler) (λ done. Unit {0}) (Err e)
    → Tells {X = Unit {0}} (handler_checks pool other len at handler) (λ done. Unit {0}) (Err e)
over_code pool one other len at handler e is told =
    subst (λ (code : List Placed). Tells {X = Unit {0}} (handler_checks pool code len at handler) (λ done. Unit {0}) (Err e)) is told

-- the next of them
module _ (pool : Constants) (code : List Placed) (len : ℕ) (whole : List (Check Fault)) (place : ℕ) (handlers : List Handler) (index : ℕ) (none : Handler) (within : index < length handlers) (left : Remain whole (handlers_checks pool code len place (drop index handlers))) where
  abbrev next : Handler
  next = get_or handlers index none

  abbrev others : List Handler
  others = drop (index + 1) handlers

  first_left : drop index handlers ≡ next ∷ others
  first_left = drop-cons handlers index none within ∙ ap (λ (n : ℕ). next ∷ drop n handlers) (sym (add-one index))

  abbrev Is : Unit {0} → Type 0
  Is done = Unit {0}

  pub entry_refused : (e : ClassFault) → Tells {X = Unit {0}} (handler_checks pool code len place next) Is (Err e) → Tells {X = Unit {0}} whole Is (Err e)
  entry_refused e told = refused (handler_checks pool code len place next) (handlers_checks pool code len (place + 8) others) Is Is e (rw first_left at left) told

  pub entry_more : (done : Unit {0}) → Tells {X = Unit {0}} (handler_checks pool code len place next) Is (Ok done) → Remain whole (handlers_checks pool code len (place + 8) others)
  entry_more done told = remain (handler_checks pool code len place next) _ (rw first_left at left) told.0
