-- Callees among bodies.
use Rattle.std.proofs.Common.{◌≡◌, ◌+◌, ◌≤◌, ◌<◌, ℕ, zero, suc, List, [], ◌∷◌, ◌++◌, drop, length, slice_get, take, Some, None, refl, sym, ap, subst, ◌∙◌, arith, append-nil, append_assoc}
use Rattle.std.proofs.lemmas.List.{length-take-le, take-append-drop}
use Rattle.std.proofs.lemmas.Option.{same_Some}
use Rattle.std.specs.List.{AllByRecursion}
use Rattle.class_model.specs.Laws.Lists.{drop_item}
use Rattle.inline_expand.specs.Inner.Layouts.{AreLayouts, IsLayout}
use Rattle.inline_expand.specs.Inner.CalleePlaces.{AreReady}
use Rattle.inline_expand.specs.Inner.Steps.{Callee, IsBody, callee_by, callees_behind, callees_of}
use Rattle.inline_expand.specs.declared.expanded.layouts.Layout.{Layout}
use Rattle.inline_expand.specs.declared.expansions.Body.{Body}

-- ---- lists

behind-append : (callees : List Callee) (bodies others : List Body) → callees_behind callees (bodies ++ others) ≡ callees_behind (callees_behind callees bodies) others
behind-append callees [] others = refl
behind-append callees (body ∷ bodies) others = behind-append (callees ++ callee_by callees body ∷ []) bodies others

-- what is added
abbrev more_callees : List Callee → List Body → List Callee
more_callees callees [] = []
more_callees callees (body ∷ bodies) = callee_by callees body ∷ more_callees (callees ++ callee_by callees body ∷ []) bodies

behind-more : (callees : List Callee) (bodies : List Body) → callees_behind callees bodies ≡ callees ++ more_callees callees bodies
behind-more callees [] = sym (append-nil callees)
behind-more callees (body ∷ bodies) =
    behind-more (callees ++ callee_by callees body ∷ []) bodies ∙ append_assoc callees (callee_by callees body ∷ []) (more_callees (callees ++ callee_by callees body ∷ []) bodies)

length-more : (callees : List Callee) (bodies : List Body) → length (more_callees callees bodies) ≡ length bodies
length-more callees [] = refl
length-more callees (body ∷ bodies) = ap suc (length-more (callees ++ callee_by callees body ∷ []) bodies)

pub length-callees : (bodies : List Body) → length (callees_of bodies) ≡ length bodies
length-callees bodies = ap (λ (all : List Callee). length all) (behind-more [] bodies) ∙ length-more [] bodies

item-behind : {A : Type 0} (items : List A) (item : A) (others : List A) → slice_get (items ++ item ∷ others) (length items) ≡ Some item
item-behind [] item others = refl
item-behind (first ∷ items) item others = item-behind items item others

none-behind : {A : Type 0} (items : List A) (at : ℕ) → length items ≤ at → slice_get items at ≡ None
none-behind [] at behind = refl
none-behind (first ∷ items) zero behind = absurd (omega arith)
none-behind (first ∷ items) (suc at) behind = none-behind items at (omega arith)

pub no-callee : (bodies : List Body) (at : ℕ) → length bodies ≤ at → slice_get (callees_of bodies) at ≡ None
no-callee bodies at behind = none-behind (callees_of bodies) at (omega (arith, behind, length-callees bodies))

-- ---- the callee of a number

front-layouts : (callees others : List Callee) (layouts : List Layout) → AreLayouts (callees ++ others) layouts → AreLayouts callees (take (length callees) layouts)
front-layouts [] others layouts are = tt
front-layouts (callee ∷ callees) others [] are = elim are [ ]
front-layouts (callee ∷ callees) others (layout ∷ layouts) are = (are.0, front-layouts callees others layouts are.1)

module _ (bodies : List Body) (at : ℕ) (body : Body) (is : slice_get bodies at ≡ Some body) (inside : at < length bodies) where
  abbrev before : List Callee
  before = callees_of (take at bodies)

  split : bodies ≡ take at bodies ++ body ∷ drop (at + 1) bodies
  split = sym (take-append-drop at bodies) ∙ ap (λ (rest : List Body). take at bodies ++ rest) (drop_item bodies at body is)

  all-callees : callees_of bodies ≡ before ++ callee_by before body ∷ more_callees (before ++ callee_by before body ∷ []) (drop (at + 1) bodies)
  all-callees = ap callees_of split ∙ behind-append [] (take at bodies) (body ∷ drop (at + 1) bodies) ∙ behind-more before (body ∷ drop (at + 1) bodies)

  many-before : length before ≡ at
  many-before = length-callees (take at bodies) ∙ length-take-le at bodies (omega arith)

  pub callee-at : slice_get (callees_of bodies) at ≡ Some (callee_by before body)
  callee-at =
      ap (λ (all : List Callee). slice_get all at) all-callees
      ∙ ap (slice_get (before ++ callee_by before body ∷ more_callees (before ++ callee_by before body ∷ []) (drop (at + 1) bodies))) (sym many-before)
      ∙ item-behind before (callee_by before body) (more_callees (before ++ callee_by before body ∷ []) (drop (at + 1) bodies))

  pub layouts-before : (layouts : List Layout) → AreLayouts (callees_of bodies) layouts → AreLayouts before (take at layouts)
  layouts-before layouts are =
      subst (λ (n : ℕ). AreLayouts before (take n layouts)) many-before
      (front-layouts before (callee_by before body ∷ more_callees (before ++ callee_by before body ∷ []) (drop (at + 1) bodies)) layouts (subst (λ (all : List Callee). AreLayouts all layouts) all-callees are))

front-bodies : (bodies : List Body) (at : ℕ) → AllByRecursion IsBody bodies → AllByRecursion IsBody (take at bodies)
front-bodies bodies zero all = tt
front-bodies [] (suc at) all = tt
front-bodies (body ∷ bodies) (suc at) all = (all.0, front-bodies bodies at all.1)

layout-at : (callees : List Callee) (layouts : List Layout) (at : ℕ) (callee : Callee) (layout : Layout) → AreLayouts callees layouts → slice_get callees at ≡ Some callee → slice_get layouts at ≡ Some layout → IsLayout callee layout
layout-at [] layouts at callee layout are is layout_is = absurd cc
layout-at (own ∷ callees) [] at callee layout are is layout_is = elim are [ ]
layout-at (own ∷ callees) (first ∷ layouts) zero callee layout are is layout_is =
    subst (λ (c : Callee). IsLayout c layout) (same_Some own callee is) (subst (IsLayout own) (same_Some first layout layout_is) are.0)
layout-at (own ∷ callees) (first ∷ layouts) (suc at) callee layout are is layout_is = layout-at callees layouts at callee layout are.1 is layout_is

pub ready-before : (bodies : List Body) (layouts : List Layout) (at : ℕ) (body : Body) → slice_get bodies at ≡ Some body → at < length bodies → AreReady bodies layouts → AreReady (take at bodies) (take at layouts)
ready-before bodies layouts at body is inside ready = record {
  each = front-bodies bodies at ready.each;
  laid = layouts-before bodies at body is inside layouts ready.laid;
}

pub layout-found : (bodies : List Body) (layouts : List Layout) (at : ℕ) (body : Body) (layout : Layout) → slice_get bodies at ≡ Some body → at < length bodies → slice_get layouts at ≡ Some layout → AreReady bodies layouts
    → IsLayout (callee_by (callees_of (take at bodies)) body) layout
layout-found bodies layouts at body layout is inside layout_is ready =
    layout-at (callees_of bodies) layouts at (callee_by (callees_of (take at bodies)) body) layout ready.laid (callee-at bodies at body is inside) layout_is

same-length : (callees : List Callee) (layouts : List Layout) → AreLayouts callees layouts → length layouts ≡ length callees
same-length [] [] are = refl
same-length [] (layout ∷ layouts) are = elim are [ ]
same-length (callee ∷ callees) [] are = elim are [ ]
same-length (callee ∷ callees) (layout ∷ layouts) are = ap suc (same-length callees layouts are.1)

pub length-layouts : (bodies : List Body) (layouts : List Layout) → AreLayouts (callees_of bodies) layouts → length layouts ≡ length bodies
length-layouts bodies layouts are = same-length (callees_of bodies) layouts are ∙ length-callees bodies
