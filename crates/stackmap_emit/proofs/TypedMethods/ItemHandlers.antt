-- The handlers of an instruction of a layout are those of its item: each range of the exception table covers one instruction.
use Rattle.std.proofs.Common.{◌≡◌, ◌&&◌, ◌++◌, ◌≤◌, ◌<◌, ◌+◌, ℕ, Bool, leb, ltb, true, false, List, [], ◌∷◌, map, refl, ap, arith, append-nil}
use Rattle.class_model.specs.declared.class_file.Handler.{Handler}
use Rattle.code_layout.specs.Layout.{Spelled, len_of, range_of, ranges_from}
use Rattle.code_layout.specs.declared.emitted.Catch.{Catch}
use Rattle.code_layout.specs.declared.emitted.EmitItem.{EmitItem}
use Rattle.member_link.specs.Bodies.{BodyCatch}
use Rattle.member_link.specs.Scope.{Scope}
use Rattle.type_rules.specs.Handlers.{catch_of, catches_at, covers}

module _ (spelled : Spelled) (s : Scope) (place : ℕ → ℕ) where
  both : (one other : List Handler) (at : ℕ) → catches_at s at (one ++ other) ≡ catches_at s at one ++ catches_at s at other
  both [] other at = refl
  both (handler ∷ one) other at = by (covers handler at) refl (both one other at) where
    by : (b : Bool) → covers handler at ≡ b → catches_at s at (one ++ other) ≡ catches_at s at one ++ catches_at s at other
        → catches_at s at (handler ∷ one ++ other) ≡ catches_at s at (handler ∷ one) ++ catches_at s at other
    by true e rest = rw (e) (ap (λ (all : List BodyCatch). catch_of s handler ∷ all) rest)
    by false e rest = rw (e) rest

  range_none : (start end at : ℕ) → (leb start at && ltb at end) ≡ false → (catches : List Catch)
      → catches_at s at (map (range_of place start end) catches) ≡ []
  range_none start end at none [] = refl
  range_none start end at none (catch ∷ catches) = rw (none, range_none start end at none catches) refl

  range_all : (start end at : ℕ) → (leb start at && ltb at end) ≡ true → (catches : List Catch)
      → catches_at s at (map (range_of place start end) catches) ≡ map (λ (catch : Catch). catch_of s (range_of place start end catch)) catches
  range_all start end at all [] = refl
  range_all start end at all (catch ∷ catches) = rw (all, range_all start end at all catches) refl

  -- ranges that begin behind a place do not cover it
  none_before : (before at : ℕ) (items : List EmitItem) → before < at → catches_at s before (ranges_from spelled place at items) ≡ []
  none_before before at [] less = refl
  none_before before at (item ∷ items) less =
      let next = at + len_of spelled at item.instr in
      rw (
        both (map (range_of place at next) item.catches) (ranges_from spelled place next items) before,
        range_none at next before (grind (arith)) item.catches,
        none_before before next items (omega (arith, less)),
      ) refl

  -- and those that end before it neither
  pub none_behind : (at : ℕ) (item : EmitItem) (items : List EmitItem) (behind : ℕ) → at + len_of spelled at item.instr ≤ behind
      → catches_at s behind (ranges_from spelled place at (item ∷ items))
      ≡ catches_at s behind (ranges_from spelled place (at + len_of spelled at item.instr) items)
  none_behind at item items behind least =
      let next = at + len_of spelled at item.instr in
      rw (
        both (map (range_of place at next) item.catches) (ranges_from spelled place next items) behind,
        range_none at next behind (grind (arith)) item.catches,
      ) refl

  -- so that an item has its own handlers
  pub own_catches : (at : ℕ) (item : EmitItem) (items : List EmitItem) → 0 < len_of spelled at item.instr
      → catches_at s at (ranges_from spelled place at (item ∷ items))
      ≡ map (λ (catch : Catch). catch_of s (range_of place at (at + len_of spelled at item.instr) catch)) item.catches
  own_catches at item items more =
      let next = at + len_of spelled at item.instr in
      rw (
        both (map (range_of place at next) item.catches) (ranges_from spelled place next items) at,
        range_all at next at (grind (arith)) item.catches,
        none_before at next items (omega (arith, more)),
      ) (append-nil _)
