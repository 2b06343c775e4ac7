-- The exception handlers in force along the code of a method.
use Rattle.std.specs.Prelude.{◌≡◌, ◌⊎◌, ◌+◌, ◌<◌, ◌≤◌, ℕ, true, List, [], slice_get, Option, Some, None, IsPermutation}
use Rattle.std.specs.List.{Contains}
use Rattle.std.specs.List.Sorted.{IsNonDecreasingBy}
use Rattle.class_model.specs.declared.class_file.Handler.{Handler}
use Rattle.class_model.specs.declared.frame.Frame.{Frame}
use Rattle.class_model.specs.declared.frame.VType.{VType}
use Rattle.member_link.specs.BodyTyping.{MayGoTo}
use Rattle.member_link.specs.Scope.{Scope, row_scope}
use Rattle.type_rules.specs.Changes.{AreSameBut}
use Rattle.type_rules.specs.Checks.{frame_before}
use Rattle.type_rules.specs.Handlers.{covers}
use Rattle.type_rules.specs.Inner.Handlers.{caught_frame}
use Rattle.type_rules.specs.Stated.{stated_at}
use Rattle.type_rules.specs.declared.keeping.LocalChanges.{LocalChanges}
use Rattle.type_rules.specs.declared.keeping.LocalChanges.TheVariants.{Nowhere, Within, Anywhere}
use Rattle.verify_folder.specs.declared.active.ActiveHandlers.{ActiveHandlers}

-- ---- one handler

-- a handler may begin with these locals
abbrev pub MayCatch : Scope → List VType → Handler → Type 0
MayCatch s locals handler =
    MayGoTo (row_scope s)
    (Some (caught_frame s (record { locals = locals; stack = [] }) handler))
    (stated_at s handler.at)

abbrev pub MayCatchLast : Scope → Option (List VType) → Handler → Type 0
MayCatchLast s None handler = ⊥
MayCatchLast s (Some locals) handler = MayCatch s locals handler

-- a handler might begin with locals that these are but for units that changed
abbrev pub MightCatch : Scope → LocalChanges → List VType → Handler → Type 0
MightCatch s (Within from end) locals handler =
    (last : List VType) × AreSameBut from end last locals × MayCatch s last handler
MightCatch s other locals handler = Unit {0}

-- so might each of these whose range goes on at an offset
abbrev pub AllMightCatch : Scope → LocalChanges → List VType → ℕ → List Handler → Type 0
AllMightCatch s changes locals at handlers =
    (handler : Handler)
    → Contains handlers handler
    → at < handler.end
    → MightCatch s changes locals handler

-- a handler of the method whose range has an offset may not begin with these locals
pub record OneFails (s : Scope) (locals : List VType) (at : ℕ) : Type 0 where
  pub handler : Handler
  pub is_in : Contains s.part.handlers handler
  pub covers : covers handler at ≡ true
  pub fails : ¬ MayCatch s locals handler

-- ---- active handlers

-- one of these has the target of a handler, and its range ends no earlier
pub record StandsFor (active : List Handler) (handler : Handler) : Type 0 where
  pub own : Handler
  pub is_active : Contains active own
  pub same_target : own.at ≡ handler.at
  pub ends_later : handler.end ≤ own.end

-- a handler has a target
abbrev pub IsOfTarget : Option Handler → ℕ → Type 0
IsOfTarget None target = ⊥
IsOfTarget (Some handler) target = handler.at ≡ target

-- another handler is added to these, or stands for one of them
pub record Activates (old : List Handler) (handler : Handler) (new : List Handler) : Type 0 where
  pub stands : StandsFor new handler
  pub kept : (other : Handler) → StandsFor old other → StandsFor new other
  pub from : (one : Handler) → Contains new one → Contains old one ⊎ (one ≡ handler)

-- those whose range goes on at an offset are kept, and may begin with these locals
pub record AreStill (s : Scope) (locals : List VType) (at : ℕ) (active still : List Handler)
    : Type 0 where
  pub kept : (handler : Handler) → Contains active handler → at < handler.end → Contains still handler
  pub from : (handler : Handler) → Contains still handler → Contains active handler
  pub may : (handler : Handler) → Contains still handler → MayCatch s locals handler

-- one whose range goes on at an offset may not
pub record OneStops (s : Scope) (locals : List VType) (at : ℕ) (active : List Handler) : Type 0 where
  pub handler : Handler
  pub is_active : Contains active handler
  pub goes_on : at < handler.end
  pub fails : ¬ MayCatch s locals handler

-- ---- all of a method

-- the range of the next handler begins behind an offset
abbrev pub NoneBegins : ActiveHandlers → ℕ → Type 0
NoneBegins a at = (handler : Handler) → slice_get a.table.items a.begun ≡ Some handler → at < handler.start

-- one whose range has begun and goes on: it may begin with the locals that were checked last
pub record IsChecked (s : Scope) (a : ActiveHandlers) (handler : Handler) : Type 0 where
  pub stands : StandsFor a.active.items handler
  pub may : MayCatchLast s a.locals handler

-- those of the method
pub record AreInForce (s : Scope) (a : ActiveHandlers) : Type 0 where
  pub table : IsPermutation s.part.handlers a.table.items
  pub by_start : IsNonDecreasingBy (λ (handler : Handler). handler.start) a.table.items
  pub begun : (number : ℕ) (handler : Handler)
      → number < a.begun
      → slice_get a.table.items number ≡ Some handler
      → a.at < handler.end
      → IsChecked s a handler
  pub active : (handler : Handler)
      → Contains a.active.items handler
      → Contains s.part.handlers handler × (handler.start ≤ a.at)
  pub may : (handler : Handler)
      → Contains a.active.items handler
      → a.at < handler.end
      → MayCatchLast s a.locals handler

-- those of the method before any instruction
pub record AreNew (s : Scope) (a : ActiveHandlers) : Type 0 where
  pub in_force : AreInForce s a
  pub none_known : a.changes ≡ Anywhere

-- they were checked with these locals at an offset
pub record AreCheckedAt (s : Scope) (locals : List VType) (at : ℕ) (a : ActiveHandlers) : Type 0 where
  pub in_force : AreInForce s a
  pub locals_are : a.locals ≡ Some locals
  pub at_is : a.at ≡ at

-- these locals are the ones that were checked last, but for units that changed
abbrev pub AreReached : LocalChanges → Option (List VType) → List VType → Type 0
AreReached Nowhere last locals = last ≡ Some locals
AreReached (Within from end) None locals = ⊥
AreReached (Within from end) (Some last) locals = AreSameBut from end last locals
AreReached Anywhere last locals = Unit {0}

-- what is known of the locals of a frame is so
abbrev pub AreKnown : ActiveHandlers → Option Frame → Type 0
AreKnown a None = Unit {0}
AreKnown a (Some frame) = AreReached a.changes a.locals frame.locals

-- so it is with the frame before an instruction at an offset, behind what flows into it
abbrev pub AreKnownAt : Scope → ActiveHandlers → Option Frame → ℕ → Type 0
AreKnownAt s a flows at =
    (before : Frame)
    → frame_before flows (stated_at s at) ≡ Some before
    → AreKnown a (Some before)

-- ---- changes

-- units that change, and then others
abbrev pub both_changes : LocalChanges → LocalChanges → LocalChanges
both_changes Nowhere later = later
both_changes (Within from end) Nowhere = Within from end
both_changes (Within from end) later = Anywhere
both_changes Anywhere later = Anywhere

-- other locals are at hand, which may differ in these units
pub record HasChanged (old : ActiveHandlers) (changes : LocalChanges) (new : ActiveHandlers) : Type 0 where
  pub kept : (s : Scope) → AreInForce s old → AreInForce s new
  pub locals_are : new.locals ≡ old.locals
  pub changes_are : new.changes ≡ changes

-- the same table before any instruction
pub record IsRestart (old new : ActiveHandlers) : Type 0 where
  pub table : new.table.items ≡ old.table.items
  pub begun : new.begun ≡ 0
  pub at_is : new.at ≡ 0
  pub active : new.active.items ≡ []
  pub none_known : new.changes ≡ Anywhere

-- the same at an offset
pub record IsLater (old : ActiveHandlers) (at : ℕ) (new : ActiveHandlers) : Type 0 where
  pub table : new.table.items ≡ old.table.items
  pub begun : new.begun ≡ old.begun
  pub active : new.active.items ≡ old.active.items
  pub locals_are : new.locals ≡ old.locals
  pub at_is : new.at ≡ at

-- other active handlers and locals, at an offset
pub record IsCheckedAgain
    (old : ActiveHandlers) (active : List Handler) (locals : List VType) (at : ℕ)
    (new : ActiveHandlers) : Type 0 where
  pub table : new.table.items ≡ old.table.items
  pub begun : new.begun ≡ old.begun
  pub active_is : new.active.items ≡ active
  pub locals_are : new.locals ≡ Some locals
  pub at_is : new.at ≡ at

-- one more has begun, whose range has ended
pub record HasSkipped (old new : ActiveHandlers) : Type 0 where
  pub table : new.table.items ≡ old.table.items
  pub begun : new.begun ≡ old.begun + 1
  pub active : new.active.items ≡ old.active.items
  pub locals_are : new.locals ≡ old.locals
  pub at_is : new.at ≡ old.at

-- one more has begun, and is active
pub record HasBegun (old : ActiveHandlers) (handler : Handler) (new : ActiveHandlers) : Type 0 where
  pub table : new.table.items ≡ old.table.items
  pub begun : new.begun ≡ old.begun + 1
  pub active : Activates old.active.items handler new.active.items
  pub locals_are : new.locals ≡ old.locals
  pub at_is : new.at ≡ old.at
