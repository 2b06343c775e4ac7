-- The constants that make code names are there.
use Rattle.std.proofs.Common.{◌≡◌, ◌⊎◌, ◌++◌, ℕ, List, [], ◌∷◌, slice_get, Option, Some, None, refl, sym, ap, subst, ◌∙◌, inl, inr}
use Rattle.std.specs.List.{flat_map}
use Rattle.std.proofs.lemmas.Grind.{flat_map-append}
use Rattle.class_model.specs.PoolChecks.{class_at}
use Rattle.class_model.specs.declared.instr.Instr.{Instr}
use Rattle.class_tree.specs.Headers.{Name}
use Rattle.flow_code.specs.declared.point.Site.{Site}
use Rattle.making_code.specs.Constants.{index_in, needs_class}
use Rattle.class_model.specs.declared.instr.Instr.TheVariants.{Goto}
use Rattle.making_code.specs.Items.{WInstr, WItem, ahead, carried, constructs, item, load, makes, plain, store}
use Rattle.making_code.specs.Opposites.{opposite_instr}
use Rattle.plan_flow.specs.Written.Finish.{Finished, finished_items}
use Rattle.plan_flow.specs.Written.WrittenCode.{Form, over_goto, short, wide, widened, written_items}
use Rattle.written_types.proofs.FinishedBlocks.{Between, InFirst, in_none, in_one, in_two}
use Rattle.written_types.proofs.Given.{Given}
use Rattle.written_types.proofs.ItemPlaces.{StandsAt}
use Rattle.written_types.proofs.MakingPlaces.{MakeConstants, TakesFields}
use Rattle.written_types.proofs.WrittenPool.{PoolLaws, class_grown, constructor_grown, making_item}
use Rattle.written_types.specs.Writing.{Writing}

-- ---- items of make code in both forms

abbrev IsMaking : WInstr → Type 0
IsMaking (makes class) = Unit {0}
IsMaking (constructs class) = Unit {0}
IsMaking instr = ⊥

in_widened : (one x : WItem) (left right : List WItem) → IsMaking x.instr → widened one ≡ left ++ (x ∷ right) → x ≡ one
in_widened one x left right making is = by one.instr refl where
  alone : widened one ≡ one ∷ [] → x ≡ one
  alone same = (in_one one x left right (sym same ∙ is)).0

  no_carried : (class : ℕ) (instr : Instr) → x.instr ≡ carried class instr → ⊥
  no_carried class instr same = subst IsMaking same making

  no_plain : (instr : Instr) → x.instr ≡ plain instr → ⊥
  no_plain instr same = subst IsMaking same making

  two : (first second : WItem) (class : ℕ) (instr other : Instr) → first.instr ≡ carried class instr → second.instr ≡ plain other
      → first ∷ second ∷ [] ≡ left ++ (x ∷ right)
      → ⊥
  two first second class instr other one_is two_is all = among (in_two (first ∷ []) (second ∷ []) left right x all) where
    among : InFirst (first ∷ []) (second ∷ []) x right ⊎ Between (second ∷ []) x right → ⊥
    among (inl here) = no_carried class instr (ap (λ (y : WItem). y.instr) (in_one first x here.between.left here.middle here.between.is).0 ∙ one_is)
    among (inr later) = no_plain other (ap (λ (y : WItem). y.instr) (in_one second x later.left right later.is).0 ∙ two_is)

  by : (instr : WInstr) → one.instr ≡ instr → x ≡ one
  by (carried class instr) same = in_goto (opposite_instr instr) (sym of_form ∙ is) where
    of_form : widened one ≡ over_goto one class (opposite_instr instr)
    of_form = rw same refl

    in_goto : (found : Option Instr) → over_goto one class found ≡ left ++ (x ∷ right) → x ≡ one
    in_goto None all = (in_one one x left right all).0
    in_goto (Some other) all =
        absurd
        (two (record { instr = carried class other; targets = ahead 2 ∷ []; catches = [] })
        (record { instr = plain (Goto 0); targets = one.targets; catches = [] }) class other (Goto 0) refl refl all)
  by (plain instr) same = alone (rw same refl)
  by (load kind unit) same = alone (rw same refl)
  by (store kind unit) same = alone (rw same refl)
  by (makes class) same = alone (rw same refl)
  by (constructs class) same = alone (rw same refl)

-- items of a list
pub record Among (items : List WItem) (x : WItem) : Type 0 where
  pub left : List WItem
  pub right : List WItem
  pub is : items ≡ left ++ (x ∷ right)

among_widened : (items : List WItem) (x : WItem) (left right : List WItem) → IsMaking x.instr → flat_map widened items ≡ left ++ (x ∷ right)
    → Among items x
among_widened [] x left right making is = absurd (in_none x left right is)
among_widened (one ∷ items) x left right making is =
    by (in_two (widened one) (flat_map widened items) left right x is) (λ more same. among_widened items x more right making same) where
      by : InFirst (widened one) (flat_map widened items) x right ⊎ Between (flat_map widened items) x right
          → ((more : List WItem) → flat_map widened items ≡ more ++ (x ∷ right) → Among items x)
          → Among (one ∷ items) x
      by (inl here) below = record {
        left = [];
        right = items;
        is = ap (λ (y : WItem). y ∷ items) (sym (in_widened one x here.between.left here.middle making here.between.is));
      }
      by (inr later) below =
          let rest = below later.left later.is in
          record { left = one ∷ rest.left; right = rest.right; is = ap (λ (xs : List WItem). one ∷ xs) rest.is }

all_widened : (blocks : List Finished) → written_items wide blocks ≡ flat_map widened (written_items short blocks)
all_widened [] = refl
all_widened (one ∷ blocks) =
    ap (λ (rest : List WItem). flat_map widened (finished_items one) ++ rest) (all_widened blocks)
    ∙ sym (flat_map-append widened (finished_items one) (written_items short blocks))

among_short : (form : Form) (blocks : List Finished) (x : WItem) (left right : List WItem) → IsMaking x.instr
    → written_items form blocks ≡ left ++ (x ∷ right)
    → Among (written_items short blocks) x
among_short short blocks x left right making is = record { left = left; right = right; is = is }
among_short wide blocks x left right making is =
    among_widened (written_items short blocks) x left right making (sym (all_widened blocks) ∙ is)

-- ---- the constructors of sites

module _ (w : Writing) (given : Given w) (laws : PoolLaws)
    (takes : (number : ℕ) (one : Site) → slice_get w.s.flat.sites number ≡ Some one → TakesFields w one) where
  classes_named : (number : ℕ) (name : Name) → StandsAt w number (item (makes name)) → class_at w.pool (index_in w.pool (needs_class name)) ≡ Some name
  classes_named number name at =
      let among = among_short w.form w.blocks (item (makes name)) at.left at.right tt at.is in
      let here = making_item w given laws among.left among.right (item (makes name)) among.is in
      class_grown laws 64535 here.start here.middle w.pool name here.grows here.begins

  pub make_constants : MakeConstants w
  make_constants = record {
    class = classes_named;
    constructor = λ number name at.
        let among = among_short w.form w.blocks (item (constructs name)) at.left at.right tt at.is in
        let here = making_item w given laws among.left among.right (item (constructs name)) among.is in
        constructor_grown laws 64535 here.start here.middle w.pool name (w.constructor name) here.grows here.begins;
    parameters = takes;
  }
