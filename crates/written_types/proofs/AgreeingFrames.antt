-- Frames that agree with a written frame: what flows in where none differs, and what flows over blocks without items.
use Rattle.std.proofs.Common.{◌≡◌, ◌≢◌, ◌⊎◌, suc, Bool, true, false, List, [], ◌∷◌, length, map, IsTrue, refl, sym, subst, ◌∙◌, inl, inr, rules}
use Rattle.std.specs.List.{AllByRecursion, list_any}
use Rattle.std.proofs.lemmas.Bool.{false≢true}
use Rattle.class_model.specs.Frames.{is_top}
use Rattle.class_model.specs.contracts.frame.VTypePartialEq.TheImpl.{ghosts as comparison}
use Rattle.class_model.specs.declared.frame.Frame.{Frame}
use Rattle.class_model.specs.declared.frame.VType.{VType}
use Rattle.class_model.specs.declared.frame.VType.TheVariants as types
use Rattle.class_tree.specs.Headers.{Headers}
use Rattle.making_code.specs.StateFrames.{differ, differs_in}
use Rattle.member_link.specs.Assignability.{IsAssignable, from_null, of_names, to_same, to_top}
use Rattle.member_link.specs.Rows.FrameAssignability.{AreAssignable, is_uninit_this}
use Rattle.written_types.specs.Inner.CarriedFrames.{AgreeIn}

-- ---- lists of types

pub agrees_with_itself : (ones : List VType) → AgreeIn ones ones
agrees_with_itself [] = tt
agrees_with_itself (one ∷ ones) = (inr refl, agrees_with_itself ones)

pub assignable_to_itself : (headers : Headers) (ones : List VType) → AreAssignable headers ones ones
assignable_to_itself headers [] = tt
assignable_to_itself headers (one ∷ ones) = (to_same one, assignable_to_itself headers ones)

pub same_types : (one other : VType) → comparison.eq one other ≡ true → one ≡ other
same_types one other = search rules

pub is_a_top : (type : VType) → is_top type ≡ true → type ≡ types.Top
is_a_top types.Top is = refl
is_a_top types.Int is = absurd (false≢true is)
is_a_top types.Float is = absurd (false≢true is)
is_a_top types.Long is = absurd (false≢true is)
is_a_top types.Double is = absurd (false≢true is)
is_a_top types.Null is = absurd (false≢true is)
is_a_top types.UninitThis is = absurd (false≢true is)
is_a_top (types.Object name) is = absurd (false≢true is)
is_a_top (types.Uninit at) is = absurd (false≢true is)

-- where types do not differ, each later one is Top or the same
pub record NoneDiffers (type other : VType) (ones others : List VType) : Type 0 where
  pub here : (other ≡ types.Top) ⊎ (type ≡ other)
  pub rest : differs_in ones others ≡ false

pub none_differs : (type other : VType) (ones others : List VType)
    → differs_in (type ∷ ones) (other ∷ others) ≡ false
    → NoneDiffers type other ones others
none_differs type other ones others none = by_top (is_top other) refl where
  by_same : (b : Bool) → comparison.eq type other ≡ b → is_top other ≡ false → NoneDiffers type other ones others
  by_same true same top = record { here = inr (same_types type other same); rest = sym (rw (top, same) refl) ∙ none }
  by_same false same top =
      let is : differs_in (type ∷ ones) (other ∷ others) ≡ true = rw (top, same) refl in
      absurd (false≢true (sym none ∙ is))

  by_top : (b : Bool) → is_top other ≡ b → NoneDiffers type other ones others
  by_top true top = record { here = inl (is_a_top other top); rest = sym (rw (top) refl) ∙ none }
  by_top false top = by_same (comparison.eq type other) refl top

pub none_differ_agree : (headers : Headers) (ones others : List VType)
    → AreAssignable headers ones others
    → differs_in ones others ≡ false
    → AgreeIn ones others
none_differ_agree headers [] [] assignable none = tt
none_differ_agree headers [] (other ∷ others) assignable none = absurd assignable
none_differ_agree headers (one ∷ ones) [] assignable none = absurd assignable
none_differ_agree headers (one ∷ ones) (other ∷ others) assignable none =
    let parts = none_differs one other ones others none in
    (parts.here, none_differ_agree headers ones others assignable.1 parts.rest)

-- what is assignable to types is so to later ones that do not differ from these, also where types are changed that are not Top
pub none_differ_assignable : (headers : Headers) (change : VType → VType) (lows ones others : List VType)
    → change types.Top ≡ types.Top
    → length ones ≡ length others
    → AreAssignable headers lows (map change ones)
    → differs_in ones others ≡ false
    → AreAssignable headers lows (map change others)
none_differ_assignable headers change lows [] [] keeps long assignable none = assignable
none_differ_assignable headers change lows [] (other ∷ others) keeps long assignable none = absurd cc
none_differ_assignable headers change lows (one ∷ ones) [] keeps long assignable none = absurd cc
none_differ_assignable headers change [] (one ∷ ones) (other ∷ others) keeps long assignable none = absurd assignable
none_differ_assignable headers change (low ∷ lows) (one ∷ ones) (other ∷ others) keeps long assignable none =
    let parts = none_differs one other ones others none in (
      elim parts.here [
        | inl top ↦ subst (λ (type : VType). IsAssignable headers low (change type)) (sym top)
            (subst (IsAssignable headers low) (sym keeps) (to_top low))
        | inr same ↦ subst (λ (type : VType). IsAssignable headers low (change type)) same assignable.0
      ],
      none_differ_assignable headers change lows ones others keeps (same_tails long) assignable.1 parts.rest,
    )
  where
    same_tails : suc (length ones) ≡ suc (length others) → length ones ≡ length others
    same_tails e = cc

from_top : (headers : Headers) (one low high : VType) → low ≡ types.Top → IsAssignable headers low high → IsAssignable headers one high
from_top headers one low high top (to_same type) = subst (IsAssignable headers one) (sym top) (to_top one)
from_top headers one low high top (to_top type) = to_top one
from_top headers one low high top (from_null name) = absurd cc
from_top headers one low high top (of_names low_name high_name named) = absurd cc

-- types that agree with written ones are assignable to what these are assignable to
pub agreeing_assignable : (headers : Headers) (ones written others : List VType)
    → AgreeIn ones written
    → AreAssignable headers written others
    → AreAssignable headers ones others
agreeing_assignable headers [] [] others agree assignable = assignable
agreeing_assignable headers [] (one ∷ written) others agree assignable = absurd agree
agreeing_assignable headers (one ∷ ones) [] others agree assignable = absurd agree
agreeing_assignable headers (one ∷ ones) (other ∷ written) [] agree assignable = absurd assignable
agreeing_assignable headers (one ∷ ones) (other ∷ written) (high ∷ highs) agree assignable = (
  elim agree.0 [
    | inl top ↦ from_top headers one other high top assignable.0
    | inr same ↦ subst (λ (type : VType). IsAssignable headers type high) (sym same) assignable.0
  ],
  agreeing_assignable headers ones written highs agree.1 assignable.1,
)

-- ---- no uninitialised this

pub none_is_this : (ones : List VType) → AllByRecursion (λ type. type ≢ types.UninitThis) ones → list_any is_uninit_this ones ≡ false
none_is_this [] all = refl
none_is_this (one ∷ ones) all = is_other one all.0 (none_is_this ones all.1) where
  is_other : (one : VType) → one ≢ types.UninitThis → list_any is_uninit_this ones ≡ false → list_any is_uninit_this (one ∷ ones) ≡ false
  is_other types.UninitThis not_this rest = absurd (not_this refl)
  is_other types.Top not_this rest = rest
  is_other types.Int not_this rest = rest
  is_other types.Float not_this rest = rest
  is_other types.Long not_this rest = rest
  is_other types.Double not_this rest = rest
  is_other types.Null not_this rest = rest
  is_other (types.Object name) not_this rest = rest
  is_other (types.Uninit at) not_this rest = rest

pub keeps_no_this : (ones : List VType) (B : Type 0)
    → AllByRecursion (λ type. type ≢ types.UninitThis) ones → IsTrue (list_any is_uninit_this ones) → B
keeps_no_this ones B all is = absurd (false≢true (sym (none_is_this ones all) ∙ is))

-- ---- frames

pub record NoDiffers (one later : Frame) : Type 0 where
  pub locals : differs_in one.locals later.locals ≡ false
  pub stack : differs_in one.stack later.stack ≡ false

pub no_differs : (one later : Frame) → differ one later ≡ false → NoDiffers one later
no_differs one later none = by (differs_in one.locals later.locals) refl where
  by : (b : Bool) → differs_in one.locals later.locals ≡ b → NoDiffers one later
  by true is = absurd (false≢true (sym none ∙ rw (is) refl))
  by false is = record { locals = is; stack = sym (rw (is) refl) ∙ none }
