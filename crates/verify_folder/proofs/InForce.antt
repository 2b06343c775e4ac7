-- The exception handlers in force, from one instruction to the next.
use Rattle.std.proofs.Common.{◌≡◌, ◌⊎◌, ◌+◌, ◌<◌, ◌≤◌, ℕ, zero, suc, Bool, true, false, List, [], ◌∷◌, ◌++◌, length, get_or, slice_get, Option, Some, None, Contains, IsPermutation, refl, sym, ap, subst, ◌∙◌, inl, inr, arith, le-leb, leb-true, lt-ltb, ltb-true, suc-le-suc, take}
use Rattle.std.specs.Prelude.{nat_le, nat_lt, if◌then◌else◌}
use Rattle.std.specs.List.Sorted.{IsNonDecreasingBy}
use Rattle.std.proofs.lemmas.Bool.{and_from, and_parts, both_ways, cases_lt}
use Rattle.std.proofs.lemmas.List.Elements.{Contains-push, Contains-push_cases, Contains-append_left}
use Rattle.std.proofs.lemmas.List.{get_or_default, take_more}
use Rattle.std.proofs.lemmas.List.Sorted.{Contains-permutation, IsPermutation-sym}
use Rattle.std.proofs.lemmas.Option.{get_or_from_slice_get, same_Some, slice_get-get_or, slice_get_within}
use Rattle.class_model.specs.Checks.{AllHold, Check}
use Rattle.class_model.specs.declared.class_file.Handler.{Handler}
use Rattle.class_model.specs.declared.frame.Frame.{Frame}
use Rattle.class_model.specs.declared.frame.VType.{VType}
use Rattle.member_link.specs.BodyTyping.{MayGoTo}
use Rattle.member_link.specs.Scope.{Scope, row_scope}
use Rattle.type_rules.specs.Checks.{handler_checks}
use Rattle.type_rules.specs.Handlers.{catch_of, catches_at, covers}
use Rattle.type_rules.specs.Inner.Handlers.{caught_frame}
use Rattle.type_rules.specs.MethodBodies.{body_of}
use Rattle.type_rules.specs.Stated.{stated_at}
use Rattle.type_rules.specs.declared.fault.TypeRule.{TypeRule}
use Rattle.type_rules.specs.declared.keeping.LocalChanges.{LocalChanges}
use Rattle.type_rules.specs.declared.keeping.LocalChanges.TheVariants.{Nowhere, Within, Anywhere}
use Rattle.verify_folder.specs.declared.active.ActiveHandlers.{ActiveHandlers}
use Rattle.verify_folder.specs.Inner.Active.{Activates, AreCheckedAt, AreInForce, AreStill, HasBegun, HasSkipped, AreKnown, AreReached, IsChecked, IsCheckedAgain, IsLater, IsRestart, MayCatch, MayCatchLast, AllMightCatch, MightCatch, NoneBegins, OneFails, OneStops, StandsFor}

-- ---- the range of a handler

in_range : (handler : Handler) (at : ℕ) → handler.start ≤ at → at < handler.end → covers handler at ≡ true
in_range handler at from to = and_from (nat_le handler.start at) (nat_lt at handler.end) (le-leb handler.start at from) (lt-ltb at handler.end to)

range_from : (handler : Handler) (at : ℕ) → covers handler at ≡ true → handler.start ≤ at
range_from handler at is = leb-true handler.start at (and_parts (nat_le handler.start at) (nat_lt at handler.end) is).0

range_to : (handler : Handler) (at : ℕ) → covers handler at ≡ true → at < handler.end
range_to handler at is = ltb-true at handler.end (and_parts (nat_le handler.start at) (nat_lt at handler.end) is).1

-- ---- handlers with one target

-- the locals fit a target, and what a handler catches fits it too
module _ (s : Scope) (locals last : List VType) (own handler : Handler) where
  abbrev goes_to : List VType → Handler → Option Frame → Type 0
  goes_to locals handler stated = MayGoTo (row_scope s) (Some (caught_frame s (record { locals = locals; stack = [] }) handler)) stated

  with_stated : (own_stated stated : Option Frame) → own_stated ≡ stated → goes_to locals own own_stated → goes_to last handler stated
      → goes_to locals handler stated
  with_stated None stated same fits fitted = absurd fits
  with_stated (Some one) None same fits fitted = fitted
  with_stated (Some one) (Some stated) same fits fitted =
      let own_fits = subst (λ (frame : Frame). goes_to locals own (Some frame)) (same_Some one stated same) fits in
      record { locals = own_fits.locals; stack = fitted.stack; keeps_this = own_fits.keeps_this }

  same_target : own.at ≡ handler.at → MayCatch s locals own → MayCatch s last handler → MayCatch s locals handler
  same_target is fits fitted = with_stated (stated_at s own.at) (stated_at s handler.at) (ap (stated_at s) is) fits fitted

checked_last : (s : Scope) (locals : List VType) (last : Option (List VType)) (own handler : Handler) → own.at ≡ handler.at
    → MayCatch s locals own → MayCatchLast s last handler → MayCatch s locals handler
checked_last s locals None own handler is fits fitted = absurd fitted
checked_last s locals (Some last) own handler is fits fitted = same_target s locals last own handler is fits fitted

-- ---- the handlers of an instruction

-- all whose range has it may begin
module _ (s : Scope) (before : Frame) (at : ℕ) where
  pub all_hold : (handlers : List Handler)
      → ((handler : Handler) → Contains handlers handler → covers handler at ≡ true → MayCatch s before.locals handler)
      → AllHold (handler_checks (body_of s) before (catches_at s at handlers))
  all_hold [] each = tt
  all_hold (handler ∷ handlers) each =
      by (covers handler at) (λ is. each handler (0, omega arith, refl) is) (all_hold handlers (λ other found. each other (suc found.0, suc-le-suc found.1, found.2)))
    where
      by : (here : Bool) → (here ≡ true → MayCatch s before.locals handler)
          → AllHold (handler_checks (body_of s) before (catches_at s at handlers))
          → AllHold (handler_checks (body_of s) before (if here then catch_of s handler ∷ catches_at s at handlers else catches_at s at handlers))
      by true may rest = (may refl, rest)
      by false may rest = rest

  first_holds : (first handler : Handler) (handlers : List Handler) (here : Bool) → covers first at ≡ here
      → covers handler at ≡ true → first ≡ handler
      → AllHold (handler_checks (body_of s) before (if here then catch_of s first ∷ catches_at s at handlers else catches_at s at handlers))
      → MayCatch s before.locals handler
  first_holds first handler handlers true here is same holds = subst (MayCatch s before.locals) same holds.0
  first_holds first handler handlers false here is same holds = absurd (both_ways (covers first at) here (ap (λ (h : Handler). covers h at) same ∙ is))

  others_hold : (first : Handler) (handlers : List Handler) (here : Bool)
      → AllHold (handler_checks (body_of s) before (if here then catch_of s first ∷ catches_at s at handlers else catches_at s at handlers))
      → AllHold (handler_checks (body_of s) before (catches_at s at handlers))
  others_hold first handlers true holds = holds.1
  others_hold first handlers false holds = holds

  one_holds : (handlers : List Handler) (number : ℕ) (handler : Handler) → slice_get handlers number ≡ Some handler
      → covers handler at ≡ true → AllHold (handler_checks (body_of s) before (catches_at s at handlers))
      → MayCatch s before.locals handler
  one_holds [] number handler found is holds = absurd cc
  one_holds (first ∷ handlers) zero handler found is holds = first_holds first handler handlers (covers first at) refl is (same_Some first handler found) holds
  one_holds (first ∷ handlers) (suc number) handler found is holds = one_holds handlers number handler found is (others_hold first handlers (covers first at) holds)

  -- one fails that holds
  pub none_fails : OneFails s before.locals at → AllHold (handler_checks (body_of s) before (catches_at s at s.part.handlers)) → ⊥
  none_fails one holds =
      one.fails (one_holds s.part.handlers one.is_in.0 one.handler
      (slice_get-get_or s.part.handlers one.is_in.0 one.handler one.is_in.1 ∙ ap Some one.is_in.2) one.covers holds)

-- ---- those that go on

module _ (s : Scope) (locals : List VType) (at : ℕ) where
  pub none_still : AreStill s locals at [] []
  none_still = record { kept = λ handler found goes_on. found; from = λ handler found. found; may = λ handler found. absurd (omega (arith, found.1)) }

  module _ (active still : List Handler) (i : ℕ) (none : Handler) (within : i < length active)
      (are : AreStill s locals at (take i active) still) where
    abbrev handler : Handler
    handler = get_or active i none

    more : take (i + 1) active ≡ take i active ++ handler ∷ []
    more = take_more active i none within

    pub one_goes_on : MayCatch s locals handler → AreStill s locals at (take (i + 1) active) (still ++ handler ∷ [])
    one_goes_on may = record {
      kept = λ other found goes_on.
          elim (Contains-push_cases (take i active) handler other (subst (λ (l : List Handler). Contains l other) more found)) [
            | inl before ↦ Contains-append_left still (handler ∷ []) other (are.kept other before goes_on)
            | inr same ↦ subst (Contains (still ++ handler ∷ [])) same (Contains-push still handler)
          ];
      from = λ other found.
          subst (λ (l : List Handler). Contains l other) (sym more)
          (elim (Contains-push_cases still handler other found) [
            | inl before ↦ Contains-append_left (take i active) (handler ∷ []) other (are.from other before)
            | inr same ↦ subst (Contains (take i active ++ handler ∷ [])) same (Contains-push (take i active) handler)
          ]);
      may = λ other found.
          elim (Contains-push_cases still handler other found) [
            | inl before ↦ are.may other before
            | inr same ↦ subst (MayCatch s locals) same may
          ];
    }

    pub one_has_ended : handler.end ≤ at → AreStill s locals at (take (i + 1) active) still
    one_has_ended ended = record {
      kept = λ other found goes_on.
          elim (Contains-push_cases (take i active) handler other (subst (λ (l : List Handler). Contains l other) more found)) [
            | inl before ↦ are.kept other before goes_on
            | inr same ↦ absurd (omega (arith, ended, ap (λ (h : Handler). h.end) same, goes_on))
          ];
      from = λ other found.
          subst (λ (l : List Handler). Contains l other) (sym more) (Contains-append_left (take i active) (handler ∷ []) other (are.from other found));
      may = are.may;
    }

    pub one_stops : at < handler.end → (MayCatch s locals handler → ⊥) → OneStops s locals at active
    one_stops goes_on fails = record {
      handler = handler;
      is_active = (i, within, get_or_default active i handler none within);
      goes_on = goes_on;
      fails = fails;
    }

-- ---- from one instruction to the next

-- before any instruction
pub none_begun : (s : Scope) (a : ActiveHandlers) → IsPermutation s.part.handlers a.table.items
    → IsNonDecreasingBy (λ (handler : Handler). handler.start) a.table.items → a.begun ≡ 0 → a.active.items ≡ [] → AreInForce s a
none_begun s a table by_start begun active = record {
  table = table;
  by_start = by_start;
  begun = λ number handler below found goes_on. absurd (omega (arith, below, begun));
  active = λ handler found. absurd (none handler (subst (λ (l : List Handler). Contains l handler) active found));
  may = λ handler found goes_on. absurd (none handler (subst (λ (l : List Handler). Contains l handler) active found));
}
  where
    none : (handler : Handler) → Contains [] handler → ⊥
    none handler found = omega (arith, found.1)

-- whatever is known of the locals at hand
pub in_force_anyway : (s : Scope) (a : ActiveHandlers) (changes : LocalChanges) → AreInForce s a → AreInForce s (record a { changes = changes })
in_force_anyway s a changes are = record {
  table = are.table;
  by_start = are.by_start;
  begun = λ number handler below found goes_on.
      let was = are.begun number handler below found goes_on in
      record { stands = was.stands; may = was.may };
  active = are.active;
  may = are.may;
}

pub restarted : (s : Scope) (old new : ActiveHandlers) → AreInForce s old → IsRestart old new → AreInForce s new
restarted s old new are is =
    none_begun s new (subst (IsPermutation s.part.handlers) (sym is.table) are.table)
    (subst (IsNonDecreasingBy (λ (handler : Handler). handler.start)) (sym is.table) are.by_start) is.begun is.active

-- active handlers might begin before the locals changed
pub might_catch : (s : Scope) (locals : List VType) (at : ℕ) (a : ActiveHandlers) → AreInForce s a → a.at ≤ at
    → AreReached a.changes a.locals locals → AllMightCatch s a.changes locals at a.active.items
might_catch s locals at a are later reached handler found goes_on =
    one a.changes a.locals reached (are.may handler found (omega (arith, later, goes_on)))
  where
    one : (changes : LocalChanges) (last : Option (List VType)) → AreReached changes last locals → MayCatchLast s last handler
        → MightCatch s changes locals handler
    one Nowhere last reached may = tt
    one (Within from end) None reached may = absurd reached
    one (Within from end) (Some last) reached may = (last, reached, may)
    one Anywhere last reached may = tt

-- an active handler fails
pub active_fails : (s : Scope) (locals : List VType) (at : ℕ) (a : ActiveHandlers) → AreInForce s a → a.at ≤ at
    → OneStops s locals at a.active.items → OneFails s locals at
active_fails s locals at a are later one = record {
  handler = one.handler;
  is_in = (are.active one.handler one.is_active).0;
  covers = in_range one.handler at (omega (arith, later, (are.active one.handler one.is_active).1)) one.goes_on;
  fails = one.fails;
}

module _ (s : Scope) (locals : List VType) (at : ℕ) (old new : ActiveHandlers) (are : AreInForce s old) (later : old.at ≤ at)
    (table : new.table.items ≡ old.table.items) (begun : new.begun ≡ old.begun) (at_is : new.at ≡ at)
    (locals_are : new.locals ≡ Some locals) where
  was_checked : (number : ℕ) (handler : Handler) → number < new.begun → slice_get new.table.items number ≡ Some handler
      → new.at < handler.end → IsChecked s old handler
  was_checked number handler below found goes_on =
      are.begun number handler (omega (arith, below, begun)) (subst (λ (l : List Handler). slice_get l number ≡ Some handler) table found) (omega (arith, later, at_is, goes_on))

  made : ((number : ℕ) (handler : Handler) → number < new.begun → slice_get new.table.items number ≡ Some handler → new.at < handler.end → IsChecked s new handler)
      → ((handler : Handler) → Contains new.active.items handler → Contains old.active.items handler)
      → ((handler : Handler) → Contains new.active.items handler → at < handler.end → MayCatchLast s new.locals handler)
      → AreCheckedAt s locals at new
  made checked from may = record {
    in_force = record {
      table = subst (IsPermutation s.part.handlers) (sym table) are.table;
      by_start = subst (IsNonDecreasingBy (λ (handler : Handler). handler.start)) (sym table) are.by_start;
      begun = checked;
      active = λ handler found.
          let was = are.active handler (from handler found) in
          (was.0, omega (arith, later, at_is, was.1));
      may = λ handler found goes_on. may handler found (omega (arith, at_is, goes_on));
    };
    locals_are = locals_are;
    at_is = at_is;
  }

  -- the locals are the same
  same_locals : new.active.items ≡ old.active.items → old.locals ≡ Some locals → AreCheckedAt s locals at new
  same_locals active last =
      made
      (λ number handler below found goes_on.
      let was = was_checked number handler below found goes_on in
      record {
        stands = subst (λ (l : List Handler). StandsFor l handler) (sym active) was.stands;
        may = subst (λ (l : Option (List VType)). MayCatchLast s l handler) (last ∙ sym locals_are) was.may;
      })
      (λ handler found. subst (λ (l : List Handler). Contains l handler) active found)
      (λ handler found goes_on.
      subst (λ (l : Option (List VType)). MayCatchLast s l handler) (last ∙ sym locals_are)
      (are.may handler (subst (λ (l : List Handler). Contains l handler) active found) (omega (arith, later, goes_on))))

  -- all were asked again
  other_locals : AreStill s locals at old.active.items new.active.items → AreCheckedAt s locals at new
  other_locals still =
      made
      (λ number handler below found goes_on.
      let was = was_checked number handler below found goes_on in
      let own = still.kept was.stands.own was.stands.is_active (omega (arith, was.stands.ends_later, at_is, goes_on)) in
      record {
        stands = record { own = was.stands.own; is_active = own; same_target = was.stands.same_target; ends_later = was.stands.ends_later };
        may = subst (λ (l : Option (List VType)). MayCatchLast s l handler) (sym locals_are) (checked_last s locals old.locals was.stands.own handler was.stands.same_target (still.may was.stands.own own) was.may);
      })
      still.from
      (λ handler found goes_on. subst (λ (l : Option (List VType)). MayCatchLast s l handler) (sym locals_are) (still.may handler found))

pub went_on : (s : Scope) (locals : List VType) (at : ℕ) (old new : ActiveHandlers) → AreInForce s old → old.at ≤ at
    → IsLater old at new → old.locals ≡ Some locals → AreCheckedAt s locals at new
went_on s locals at old new are later is last = same_locals s locals at old new are later is.table is.begun is.at_is (is.locals_are ∙ last) is.active last

pub asked_again : (s : Scope) (locals : List VType) (at : ℕ) (old new : ActiveHandlers) (still : List Handler) → AreInForce s old
    → old.at ≤ at → IsCheckedAgain old still locals at new → AreStill s locals at old.active.items still
    → AreCheckedAt s locals at new
asked_again s locals at old new still are later is are_still =
    other_locals s locals at old new are later is.table is.begun is.at_is is.locals_are (subst (AreStill s locals at old.active.items) (sym is.active_is) are_still)

-- ---- handlers that begin

module _ (s : Scope) (locals : List VType) (at : ℕ) (old new : ActiveHandlers) (are : AreCheckedAt s locals at old)
    (table : new.table.items ≡ old.table.items) (begun : new.begun ≡ old.begun + 1) (at_is : new.at ≡ old.at)
    (locals_are : new.locals ≡ old.locals)
    (next : Handler) (found : slice_get old.table.items old.begun ≡ Some next) where
  before : (number : ℕ) (handler : Handler) → number < old.begun → slice_get new.table.items number ≡ Some handler
      → new.at < handler.end → IsChecked s old handler
  before number handler below is goes_on =
      are.in_force.begun number handler below (subst (λ (l : List Handler). slice_get l number ≡ Some handler) table is) (omega (arith, at_is, goes_on))

  here : (handler : Handler) → slice_get new.table.items old.begun ≡ Some handler → next ≡ handler
  here handler is = same_Some next handler (sym found ∙ subst (λ (l : List Handler). slice_get l old.begun ≡ Some handler) table is)

  of_number : (handler : Handler) (P : Type 0) (number : ℕ) → number < new.begun → (number < old.begun → P) → (number ≡ old.begun → P) → P
  of_number handler P number below earlier last = elim (cases_lt number old.begun) [ inl less ↦ earlier less | inr more ↦ last (omega (arith, below, begun, more)) ]

  begins : ((number : ℕ) (handler : Handler) → number < new.begun → slice_get new.table.items number ≡ Some handler → new.at < handler.end → IsChecked s new handler)
      → ((handler : Handler) → Contains new.active.items handler → Contains s.part.handlers handler × (handler.start ≤ new.at))
      → ((handler : Handler) → Contains new.active.items handler → new.at < handler.end → MayCatchLast s new.locals handler)
      → AreCheckedAt s locals at new
  begins checked active may = record {
    in_force = record {
      table = subst (IsPermutation s.part.handlers) (sym table) are.in_force.table;
      by_start = subst (IsNonDecreasingBy (λ (handler : Handler). handler.start)) (sym table) are.in_force.by_start;
      begun = checked;
      active = active;
      may = may;
    };
    locals_are = locals_are ∙ are.locals_are;
    at_is = at_is ∙ are.at_is;
  }

  was_caught : (handler : Handler) → Contains old.active.items handler → new.at < handler.end → MayCatchLast s new.locals handler
  was_caught handler in_old goes_on =
      subst (λ (l : Option (List VType)). MayCatchLast s l handler) (sym locals_are) (are.in_force.may handler in_old (omega (arith, at_is, goes_on)))

  -- one whose range has ended
  is_over : new.active.items ≡ old.active.items → next.end ≤ at → AreCheckedAt s locals at new
  is_over active over =
      begins
      (λ number handler below is goes_on.
      of_number handler (IsChecked s new handler) number below
      (λ less.
      let was = before number handler less is goes_on in
      record {
        stands = subst (λ (l : List Handler). StandsFor l handler) (sym active) was.stands;
        may = subst (λ (l : Option (List VType)). MayCatchLast s l handler) (sym locals_are) was.may;
      })
      (λ same.
      let own = here handler (subst (λ (n : ℕ). slice_get new.table.items n ≡ Some handler) same is) in
      absurd (omega (arith, over, ap (λ (h : Handler). h.end) own, goes_on, at_is, are.at_is))))
      (λ handler in_new.
      let was = are.in_force.active handler (subst (λ (l : List Handler). Contains l handler) active in_new) in
      (was.0, omega (arith, was.1, at_is)))
      (λ handler in_new goes_on. was_caught handler (subst (λ (l : List Handler). Contains l handler) active in_new) goes_on)

  -- one that becomes active
  is_begun : Activates old.active.items next new.active.items → next.start ≤ at → MayCatch s locals next → AreCheckedAt s locals at new
  is_begun added from may =
      begins
      (λ number handler below is goes_on.
      of_number handler (IsChecked s new handler) number below
      (λ less.
      let was = before number handler less is goes_on in
      record {
        stands = added.kept handler was.stands;
        may = subst (λ (l : Option (List VType)). MayCatchLast s l handler) (sym locals_are) was.may;
      })
      (λ same.
      let own = here handler (subst (λ (n : ℕ). slice_get new.table.items n ≡ Some handler) same is) in
      subst (IsChecked s new) own
      (record {
        stands = added.stands;
        may = subst (λ (l : Option (List VType)). MayCatchLast s l next) (sym (locals_are ∙ are.locals_are)) may;
      })))
      (λ handler in_new.
      elim (added.from handler in_new) [
        | inl was_in ↦ ((are.in_force.active handler was_in).0, omega (arith, (are.in_force.active handler was_in).1, at_is))
        | inr is ↦ subst (λ (h : Handler). Contains s.part.handlers h × (h.start ≤ new.at)) (sym is) (in_table next found, omega (arith, from, at_is, are.at_is))
      ])
      (λ handler in_new goes_on.
      elim (added.from handler in_new) [
        | inl was_in ↦ was_caught handler was_in goes_on
        | inr is ↦ subst (MayCatchLast s new.locals) (sym is) (subst (λ (l : Option (List VType)). MayCatchLast s l next) (sym (locals_are ∙ are.locals_are)) may)
      ])
    where
      in_table : (handler : Handler) → slice_get old.table.items old.begun ≡ Some handler → Contains s.part.handlers handler
      in_table handler is =
          Contains-permutation old.table.items s.part.handlers handler (IsPermutation-sym s.part.handlers old.table.items are.in_force.table)
          (old.begun, slice_get_within old.table.items old.begun handler is, get_or_from_slice_get old.table.items old.begun handler handler is)

pub one_is_over : (s : Scope) (locals : List VType) (at : ℕ) (old new : ActiveHandlers) → AreCheckedAt s locals at old
    → (next : Handler) → slice_get old.table.items old.begun ≡ Some next → next.end ≤ at → HasSkipped old new
    → AreCheckedAt s locals at new
one_is_over s locals at old new are next found over is = is_over s locals at old new are is.table is.begun is.at_is is.locals_are next found is.active over

pub one_begins : (s : Scope) (locals : List VType) (at : ℕ) (old new : ActiveHandlers) → AreCheckedAt s locals at old
    → (next : Handler) → slice_get old.table.items old.begun ≡ Some next → next.start ≤ at → MayCatch s locals next
    → HasBegun old next new → AreCheckedAt s locals at new
one_begins s locals at old new are next found from may is = is_begun s locals at old new are is.table is.begun is.at_is is.locals_are next found is.active from may

-- one that begins and fails
pub next_fails : (s : Scope) (locals : List VType) (at : ℕ) (a : ActiveHandlers) → AreCheckedAt s locals at a → (next : Handler)
    → slice_get a.table.items a.begun ≡ Some next → next.start ≤ at → at < next.end → (MayCatch s locals next → ⊥)
    → OneFails s locals at
next_fails s locals at a are next found from to fails = record {
  handler = next;
  is_in = Contains-permutation a.table.items s.part.handlers next (IsPermutation-sym s.part.handlers a.table.items are.in_force.table)
      (a.begun, slice_get_within a.table.items a.begun next found, get_or_from_slice_get a.table.items a.begun next next found);
  covers = in_range next at from to;
  fails = fails;
}

-- ---- all of an instruction

module _ (s : Scope) (before : Frame) (at : ℕ) (a : ActiveHandlers) (are : AreInForce s a) (later : a.at ≤ at)
    (none : NoneBegins a at) where
  -- a handler whose range has the offset has begun
  has_begun : (handler : Handler) → Contains s.part.handlers handler → covers handler at ≡ true → IsChecked s a handler
  has_begun handler is_in covered =
      let found = Contains-permutation s.part.handlers a.table.items handler are.table is_in in
      let there : slice_get a.table.items found.0 ≡ Some handler = slice_get-get_or a.table.items found.0 handler found.1 ∙ ap Some found.2 in
      elim (cases_lt found.0 a.begun) [
        | inl less ↦ are.begun found.0 handler less there (omega (arith, later, range_to handler at covered))
        | inr more ↦
            let within : a.begun < length a.table.items = omega (arith, more, found.1) in
            let first : Handler = get_or a.table.items a.begun handler in
            let up : first.start ≤ (get_or a.table.items found.0 handler).start = are.by_start a.begun found.0 handler more found.1 in
            absurd (omega (arith, none first (slice_get-get_or a.table.items a.begun handler within), up, ap (λ (h : Handler). h.start) found.2, range_from handler at covered))
      ]

  abbrev all_checks : List (Check TypeRule)
  all_checks = handler_checks (body_of s) before (catches_at s at s.part.handlers)

  -- none is in force
  pub none_holds : a.active.items ≡ [] → AllHold all_checks
  none_holds active =
      all_hold s before at s.part.handlers
      (λ handler is_in covered. absurd (nobody handler (subst (λ (l : List Handler). StandsFor l handler) active (has_begun handler is_in covered).stands)))
    where
      nobody : (handler : Handler) → StandsFor [] handler → ⊥
      nobody handler stands = omega (arith, stands.is_active.1)

  -- they were checked with the locals before the instruction
  pub checked_hold : a.locals ≡ Some before.locals → AllHold all_checks
  checked_hold locals =
      all_hold s before at s.part.handlers
      (λ handler is_in covered. subst (λ (l : Option (List VType)). MayCatchLast s l handler) locals (has_begun handler is_in covered).may)

  -- none is, or they were
  pub idle_holds : AreKnown a (Some before) → (a.active.items ≡ []) ⊎ (a.changes ≡ Nowhere) → AllHold all_checks
  idle_holds known (inl active) = none_holds active
  idle_holds known (inr none) = checked_hold (subst (λ (changes : LocalChanges). AreReached changes a.locals before.locals) none known)
