-- What is known of the locals since the handlers were checked, from one instruction to the next.
use Rattle.std.proofs.Common.{◌≡◌, ℕ, Bool, true, false, List, [], Option, Some, None, refl, sym, ap, subst, ◌∙◌}
use Rattle.std.specs.Prelude.{if◌then◌else◌}
use Rattle.class_model.specs.declared.class_file.Handler.{Handler}
use Rattle.class_model.specs.declared.frame.Frame.{Frame}
use Rattle.class_model.specs.declared.frame.VType.{VType}
use Rattle.class_model.specs.declared.instr.Placed.{Placed}
use Rattle.class_tree.specs.Headers.{Headers}
use Rattle.member_link.specs.Bodies.{falls_through}
use Rattle.member_link.specs.BodyTyping.{MayGoTo}
use Rattle.member_link.specs.RowScope.{RowScope}
use Rattle.member_link.specs.Rows.FrameAssignability.{IsFrameAssignable}
use Rattle.member_link.specs.Rows.Row.{Row, row_frame, stack_behind}
use Rattle.member_link.specs.Rows.Table.{row_of}
use Rattle.member_link.specs.Scope.{Scope, row_scope}
use Rattle.type_rules.specs.Changes.{AreBehind, AreSameBut}
use Rattle.type_rules.specs.Checks.{frame_before}
use Rattle.type_rules.specs.Inner.Handlers.{caught_frame}
use Rattle.type_rules.specs.Stated.{stated_at}
use Rattle.type_rules.specs.declared.keeping.LocalChanges.{LocalChanges}
use Rattle.type_rules.specs.declared.keeping.LocalChanges.TheVariants.{Nowhere, Within, Anywhere}
use Rattle.verify_folder.specs.declared.active.ActiveHandlers.{ActiveHandlers}
use Rattle.verify_folder.specs.Inner.Active.{AreKnown, AreKnownAt, AreNew, AreReached, HasChanged, MayCatch, MightCatch, both_changes}

-- ---- changes

-- the locals that were checked last are at hand
pub reached_itself : (changes : LocalChanges) (last : Option (List VType)) (locals : List VType) → last ≡ Some locals → AreReached changes last locals
reached_itself Nowhere last locals is = is
reached_itself (Within from end) last locals is =
    subst (λ (o : Option (List VType)). AreReached (Within from end) o locals) (sym is)
    (record { as_many = refl; others = λ unit apart. refl })
reached_itself Anywhere last locals is = tt

-- locals change in units, and then in others
reached_on : (first later : LocalChanges) (last : Option (List VType)) (locals next : List VType) → AreReached first last locals → AreBehind later locals next → AreReached (both_changes first later) last next
reached_on Nowhere Nowhere last locals next is goes = is ∙ ap Some (sym goes)
reached_on Nowhere (Within from end) last locals next is goes = subst (λ (o : Option (List VType)). AreReached (Within from end) o next) (sym is) goes
reached_on Nowhere Anywhere last locals next is goes = tt
reached_on (Within from end) Nowhere last locals next is goes = subst (AreReached (Within from end) last) (sym goes) is
reached_on (Within from end) (Within low high) last locals next is goes = tt
reached_on (Within from end) Anywhere last locals next is goes = tt
reached_on Anywhere later last locals next is goes = tt

-- ---- frames

-- nothing is known of the locals
pub none_known : (a : ActiveHandlers) → a.changes ≡ Anywhere → (flows : Option Frame) → AreKnown a flows
none_known a is None = tt
none_known a is (Some frame) = subst (λ (changes : LocalChanges). AreReached changes a.locals frame.locals) (sym is) tt

pub new_known : (s : Scope) (a : ActiveHandlers) → AreNew s a → (flows : Option Frame) → AreKnown a flows
new_known s a are flows = none_known a are.none_known flows

-- no frame is stated at an offset
pub met : (s : Scope) (a : ActiveHandlers) (at : ℕ) → stated_at s at ≡ None → (flows : Option Frame) → AreKnown a flows → AreKnownAt s a flows at
met s a at none flows known before is =
    subst (AreKnown a) (subst (λ (stated : Option Frame). frame_before flows stated ≡ Some before) none is) known

-- one is
pub met_other : (s : Scope) (old new : ActiveHandlers) (at : ℕ) → HasChanged old Anywhere new → (flows : Option Frame) → AreKnownAt s new flows at
met_other s old new at changed flows before is = none_known new changed.changes_are (Some before)

-- ---- an instruction

module _ (old new : ActiveHandlers) (changes : LocalChanges) (noted : HasChanged old (both_changes old.changes changes) new) where
  framed : (goes : Bool) (frame : Frame) → AreKnown new (Some frame) → AreKnown new (if goes then Some frame else None)
  framed true frame known = known
  framed false frame known = tt

  flowed : (falls : Bool) (behind : Option Frame) → AreKnown new behind → AreKnown new (if falls then behind else None)
  flowed true behind known = known
  flowed false behind known = tt

  behind : (locals next : List VType) → AreReached old.changes old.locals locals → AreBehind changes locals next → AreReached new.changes new.locals next
  behind locals next reached goes =
      subst (λ (c : LocalChanges). AreReached c new.locals next) (sym noted.changes_are)
      (subst (λ (o : Option (List VType)). AreReached (both_changes old.changes changes) o next) (sym noted.locals_are)
      (reached_on old.changes changes old.locals locals next reached goes))

  module _ (s : Scope) (placed : Placed) (before : Frame) (known : AreKnown old (Some before)) (goes : (of : RowScope) (f : Frame) (at : ℕ) → AreBehind changes f.locals (row_of of f at placed.instr).locals) where
    abbrev row : Row
    row = row_of (row_scope s) before placed.at placed.instr

    -- what is known behind it
    pub gone_on : (flows : Option Frame) → flows ≡ (if falls_through placed.instr then row_frame before row else None) → AreKnown new flows
    gone_on flows is =
        subst (AreKnown new) (sym is)
        (flowed (falls_through placed.instr) (row_frame before row)
        (framed row.goes_on (record { locals = row.locals; stack = stack_behind before row })
        (behind before.locals row.locals known (goes (row_scope s) before placed.at))))

-- ---- a handler

-- a handler accepts the units that changed
module _ (s : Scope) (headers : Headers) (same : headers ≡ s.headers) (handler : Handler) (stated : Frame) (found : stated_at s handler.at ≡ Some stated) where
  abbrev begins : List VType → Frame
  begins locals = caught_frame s (record { locals = locals; stack = [] }) handler

  from_catch : (locals : List VType) → MayCatch s locals handler → IsFrameAssignable headers (begins locals) stated
  from_catch locals may =
      subst (λ (h : Headers). IsFrameAssignable h (begins locals) stated) (sym same)
      (subst (MayGoTo (row_scope s) (Some (begins locals))) found may)

  to_catch : (locals : List VType) → IsFrameAssignable headers (begins locals) stated → MayCatch s locals handler
  to_catch locals may =
      subst (MayGoTo (row_scope s) (Some (begins locals))) (sym found)
      (subst (λ (h : Headers). IsFrameAssignable h (begins locals) stated) same may)

  pub accepted : (changes : LocalChanges) (from end : ℕ) → changes ≡ Within from end → (locals : List VType)
      → ((before stack : List VType) → AreSameBut from end before locals → IsFrameAssignable headers (record { locals = before; stack = stack }) stated → IsFrameAssignable headers (record { locals = locals; stack = stack }) stated)
      → MightCatch s changes locals handler → MayCatch s locals handler
  accepted changes from end is locals test might =
      let was : MightCatch s (Within from end) locals handler = subst (λ (c : LocalChanges). MightCatch s c locals handler) is might in
      to_catch locals (test was.0 (begins was.0).stack was.1 (from_catch was.0 was.2))
