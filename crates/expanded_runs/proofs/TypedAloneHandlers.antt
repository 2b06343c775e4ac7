-- The handlers around the points of a method by itself: they catch throwables, and go where the handlers of the method go.
use Rattle.std.proofs.Common.{◌==◌, ℕ, suc, Bool, true, false, List, [], ◌∷◌, ◌++◌, map, Option, Some, None, if◌then◌else◌}
use Rattle.std.specs.List.{AllByRecursion, flat_map}
use Rattle.class_model.specs.PoolChecks.{class_at}
use Rattle.class_model.specs.declared.class_file.Handler.{Handler}
use Rattle.class_model.specs.declared.frame.Frame.{Frame}
use Rattle.class_model.specs.declared.instr.Placed.{Placed}
use Rattle.class_tree.specs.Headers.{Name}
use Rattle.class_tree.specs.Names.{throwable}
use Rattle.expanded_code.specs.Alone.{alone_points, handler_of, handlers_at, number_at}
use Rattle.flow_code.specs.declared.handlers.FlatHandler.{FlatHandler}
use Rattle.member_link.specs.Bodies.{BodyCatch, BodyCaught}
use Rattle.member_link.specs.BodyTyping.{IsThrowable}
use Rattle.member_link.specs.Machine.Codes.{covers}
use Rattle.member_link.specs.Scope.{Scope}
use Rattle.same_runs.specs.FlatBodies.{body_catch, caught_class, handlers_from}
use Rattle.type_rules.specs.Handlers.{catch_of, catches_at, caught, caught_in}

-- ---- each of a list

all_append : {X : Type 0} (P : X → Type 0) (xs ys : List X) → AllByRecursion P xs → AllByRecursion P ys → AllByRecursion P (xs ++ ys)
all_append P [] ys one other = other
all_append P (x ∷ xs) ys one other = (one.0, all_append P xs ys one.1 other)

module _ (s : Scope) (place : ℕ) where
  -- by the test of a catch type and the class that it names
  abbrev caught_by : Bool → Option Name → Option Name
  caught_by catches_all name = if catches_all then Some throwable else name

  abbrev of_class : ℕ → Option Name → List FlatHandler
  of_class to None = []
  of_class to (Some name) = record { to = number_at s to; catch_class = Some name } ∷ []

  abbrev handlers_by : ℕ → Bool → Option Name → List FlatHandler
  handlers_by to catches_all name = if catches_all then record { to = number_at s to; catch_class = None } ∷ [] else of_class to name

  abbrev flat_handlers : List Handler → List FlatHandler
  flat_handlers handlers = flat_map (λ handler. if covers handler place then handler_of s handler else []) handlers

  -- ---- where they go

  module _ (Goes : Option Name → ℕ → Type 0) (May : BodyCatch → Type 0)
      (may : (class : Option Name) (to : ℕ) → Goes class to → May (record { to = number_at s to; class = class })) where
    one_goes : (to : ℕ) (catches_all : Bool) (name : Option Name) (others : List FlatHandler) → Goes (caught_by catches_all name) to
        → AllByRecursion May (map body_catch others) → AllByRecursion May (map body_catch (handlers_by to catches_all name ++ others))
    one_goes to true name others goes rest = (may (Some throwable) to goes, rest)
    one_goes to false None others goes rest = rest
    one_goes to false (Some name) others goes rest = (may (Some name) to goes, rest)

    this_goes : (handler : Handler) (covered : Bool) (catches : List BodyCatch) (others : List FlatHandler)
        → AllByRecursion (λ catch. Goes catch.class catch.to) (if covered then catch_of s handler ∷ catches else catches)
        → (AllByRecursion (λ catch. Goes catch.class catch.to) catches → AllByRecursion May (map body_catch others))
        → AllByRecursion May (map body_catch ((if covered then handler_of s handler else []) ++ others))
    this_goes handler true catches others all rest =
        one_goes handler.at (handler.catch_type == 0) (class_at s.class.pool handler.catch_type) others all.0 (rest all.1)
    this_goes handler false catches others all rest = rest all

    pub all_catch : (handlers : List Handler) → AllByRecursion (λ catch. Goes catch.class catch.to) (catches_at s place handlers)
        → AllByRecursion May (map body_catch (flat_handlers handlers))
    all_catch [] all = tt
    all_catch (handler ∷ handlers) all =
        this_goes handler (covers handler place) (catches_at s place handlers) (flat_handlers handlers) all (all_catch handlers)

  -- ---- what they catch

  abbrev Throws : FlatHandler → Type 0
  Throws handler = IsThrowable s.headers (caught_class handler.catch_class)

  one_throws : (to : ℕ) (catches_all : Bool) (name : Option Name) → IsThrowable s.headers (caught_by catches_all name)
      → AllByRecursion Throws (handlers_by to catches_all name)
  one_throws to true name is = (is, tt)
  one_throws to false None is = tt
  one_throws to false (Some name) is = (is, tt)

  this_throws : (handler : Handler) (covered : Bool) → IsThrowable s.headers (caught s handler)
      → AllByRecursion Throws (if covered then handler_of s handler else [])
  this_throws handler true is = one_throws handler.at (handler.catch_type == 0) (class_at s.class.pool handler.catch_type) is
  this_throws handler false is = tt

  all_throw : (handlers : List Handler)
      → AllByRecursion (λ (entry : BodyCaught). IsThrowable s.headers entry.class) (map (caught_in s) handlers)
      → AllByRecursion Throws (flat_handlers handlers)
  all_throw [] all = tt
  all_throw (handler ∷ handlers) all =
      all_append Throws (if covers handler place then handler_of s handler else []) (flat_handlers handlers)
      (this_throws handler (covers handler place) all.0) (all_throw handlers all.1)

-- ---- the table of flat code

module _ (s : Scope)
    (all : AllByRecursion (λ (entry : BodyCaught). IsThrowable s.headers entry.class) (map (caught_in s) s.part.handlers)) where
  of_point : (number : ℕ) (handlers : List FlatHandler)
      → AllByRecursion (λ (handler : FlatHandler). IsThrowable s.headers (caught_class handler.catch_class)) handlers
      → AllByRecursion (λ (entry : BodyCaught). IsThrowable s.headers entry.class)
      (map (λ (handler : FlatHandler). record { start = number; class = caught_class handler.catch_class }) handlers)
  of_point number [] throw = tt
  of_point number (handler ∷ handlers) throw = (throw.0, of_point number handlers throw.1)

  pub table_throws : (class : ℕ) (instrs : List Placed) (frames : List Frame) (number : ℕ)
      → AllByRecursion (λ (entry : BodyCaught). IsThrowable s.headers entry.class)
      (handlers_from number (alone_points s class instrs frames))
  table_throws class [] [] number = tt
  table_throws class [] (own ∷ frames) number = tt
  table_throws class (placed ∷ instrs) [] number = tt
  table_throws class (placed ∷ instrs) (own ∷ frames) number =
      all_append (λ (entry : BodyCaught). IsThrowable s.headers entry.class)
      (map (λ (handler : FlatHandler). record { start = number; class = caught_class handler.catch_class }) (handlers_at s placed.at))
      (handlers_from (suc number) (alone_points s class instrs frames))
      (of_point number (handlers_at s placed.at) (all_throw s placed.at s.part.handlers all))
      (table_throws class instrs frames (suc number))
