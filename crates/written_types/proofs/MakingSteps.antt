-- The items of make code, one by one: the frame behind each.
use Rattle.std.proofs.Common.{◌≡◌, ◌≢◌, ◌-◌, ℕ, suc, List, [], ◌∷◌, ◌++◌, drop, length, map, take, slice_get, Some, refl, sym, ap, subst, ◌∙◌, arith}
use Rattle.std.specs.List.{AllByRecursion}
use Rattle.std.proofs.lemmas.List.{append-nil, length-append}
use Rattle.class_model.specs.declared.descriptor.Kind.{Kind}
use Rattle.class_model.specs.declared.descriptor.Kind.TheVariants as kinds
use Rattle.class_model.specs.declared.frame.Frame.{Frame}
use Rattle.class_model.specs.declared.frame.VType.{VType}
use Rattle.class_model.specs.declared.frame.VType.TheVariants as types
use Rattle.class_model.specs.declared.instr.Imm.TheVariants as imms
use Rattle.class_model.specs.declared.instr.Instr.TheVariants.{Const, Enter}
use Rattle.class_tree.specs.Headers.{Name}
use Rattle.making_code.specs.Items.{WItem, item, load, makes, plain, store}
use Rattle.making_code.specs.Units.{WUnit, unit_number}
use Rattle.member_link.specs.Bodies.{flows_on}
use Rattle.member_link.specs.Rows.LocalRows.{HasRoom, local_entry, stored}
use Rattle.member_link.specs.Rows.Operands.{AllFit, IsOfKind, IsReference, of_kind, topmost, under}
use Rattle.member_link.specs.Rows.Table.{without_older}
use Rattle.written_types.proofs.BlockEnds.{topmost_none, under_none}
use Rattle.written_types.specs.Inner.CarriedFrames.{Carries, ItemHolds, carries_none, carries_on}
use Rattle.written_types.specs.Writing.{Writing, point_in, scope_in}

-- ---- the topmost entries

drop_left : (left right : List VType) (count : ℕ) → count ≡ length left → drop count (left ++ right) ≡ right
drop_left [] right count is = rw (is) refl
drop_left (type ∷ left) right count is = rw (is) (drop_left left right (length left) refl)

take_left : (left right : List VType) (count : ℕ) → count ≡ length left → take count (left ++ right) ≡ left
take_left [] right count is = rw (is) refl
take_left (type ∷ left) right count is = rw (is) (ap (λ (rest : List VType). type ∷ rest) (take_left left right (length left) refl))

pub topmost_are : (below tops : List VType) (count : ℕ) → count ≡ length tops → topmost count (below ++ tops) ≡ tops
topmost_are below tops count is = drop_left below tops (length (below ++ tops) - count) (let long = length-append below tops in omega (arith, long, is))

pub under_are : (below tops : List VType) (count : ℕ) → count ≡ length tops → under count (below ++ tops) ≡ below
under_are below tops count is = take_left below tops (length (below ++ tops) - count) (let long = length-append below tops in omega (arith, long, is))

-- one item, and what flows on
pub one_step : (w : Writing) (number : ℕ) (one : WItem) (frame next : Frame)
    → ItemHolds w number one frame
    → flows_on (point_in w number one) frame ≡ Some next
    → Carries w number (one ∷ []) frame (Some next)
one_step w number one frame next holds flows = carries_on number one [] frame next (Some next) holds flows (carries_none (suc number) next)

-- ---- items that take nothing

pub load_carries : (w : Writing) (number : ℕ) (kind : Kind) (unit : WUnit) (locals stack : List VType) (type : VType)
    → slice_get locals (unit_number w.s.flat unit) ≡ Some type
    → IsOfKind kind type
    → Carries w number (item (load kind unit) ∷ []) (record { locals = locals; stack = stack })
    (Some (record { locals = locals; stack = stack ++ (type ∷ []) }))
load_carries w number kind unit locals stack type is of_kind_it =
    one_step w number (item (load kind unit)) (record { locals = locals; stack = stack }) (record { locals = locals; stack = stack ++ (type ∷ []) })
    (record {
      row = record {
        operands = subst (AllFit (scope_in w) []) (sym (topmost_none stack)) tt;
        local = (type, is, of_kind_it);
        further = tt;
        access = tt;
      };
      targets = tt;
      handlers = tt;
      access = λ usable. tt;
    })
    (λ i. Some (record { locals = locals; stack = under_none stack i ++ entry_is i })) where
      entry_is : local_entry locals (unit_number w.s.flat unit) ≡ type ∷ []
      entry_is = rw (is) refl

pub null_carries : (w : Writing) (number : ℕ) (locals stack : List VType)
    → Carries w number (item (plain (Const imms.Null)) ∷ []) (record { locals = locals; stack = stack })
    (Some (record { locals = locals; stack = stack ++ (types.Null ∷ []) }))
null_carries w number locals stack =
    one_step w number (item (plain (Const imms.Null))) (record { locals = locals; stack = stack })
    (record { locals = locals; stack = stack ++ (types.Null ∷ []) })
    (record {
      row = record { operands = subst (AllFit (scope_in w) []) (sym (topmost_none stack)) tt; local = tt; further = tt; access = tt };
      targets = tt;
      handlers = tt;
      access = λ usable. tt;
    })
    (ap (λ (rest : List VType). Some (record { locals = locals; stack = rest ++ (types.Null ∷ []) })) (under_none stack))

pub new_carries : (w : Writing) (number : ℕ) (class : Name) (locals stack : List VType)
    → AllByRecursion (λ type. type ≢ types.Uninit number) stack
    → Carries w number (item (makes class) ∷ []) (record { locals = locals; stack = stack })
    (Some (record { locals = map (without_older number) locals; stack = stack ++ (types.Uninit number ∷ []) }))
new_carries w number class locals stack fresh =
    one_step w number (item (makes class)) (record { locals = locals; stack = stack })
    (record { locals = map (without_older number) locals; stack = stack ++ (types.Uninit number ∷ []) })
    (record {
      row = record { operands = subst (AllFit (scope_in w) []) (sym (topmost_none stack)) tt; local = tt; further = fresh; access = tt };
      targets = tt;
      handlers = tt;
      access = λ usable. tt;
    })
    (ap (λ (rest : List VType). Some (record { locals = map (without_older number) locals; stack = rest ++ (types.Uninit number ∷ []) }))
    (under_none stack))

-- ---- items that take the topmost entry

pub store_carries : (w : Writing) (number : ℕ) (kind : Kind) (unit : WUnit) (locals below : List VType) (type : VType)
    → IsOfKind kind type
    → HasRoom kind locals (unit_number w.s.flat unit)
    → Carries w number (item (store kind unit) ∷ []) (record { locals = locals; stack = below ++ (type ∷ []) })
    (Some (record { locals = stored (unit_number w.s.flat unit) type locals; stack = below }))
store_carries w number kind unit locals below type of_kind_it room =
    one_step w number (item (store kind unit)) (record { locals = locals; stack = below ++ (type ∷ []) })
    (record { locals = stored (unit_number w.s.flat unit) type locals; stack = below })
    (record {
      row = record {
        operands = subst (AllFit (scope_in w) (of_kind kind ∷ [])) (sym (topmost_are below (type ∷ []) 1 refl))
            (of_kind_it, tt);
        local = room;
        further = tt;
        access = tt;
      };
      targets = tt;
      handlers = tt;
      access = λ usable. tt;
    })
    (rw (topmost_are below (type ∷ []) 1 refl)
    (ap (λ (rest : List VType). Some (record { locals = stored (unit_number w.s.flat unit) type locals; stack = rest }))
    (append-nil (under 1 (below ++ (type ∷ []))) ∙ under_are below (type ∷ []) 1 refl)))

pub enter_carries : (w : Writing) (number : ℕ) (locals below : List VType) (type : VType)
    → IsReference type
    → Carries w number (item (plain Enter) ∷ []) (record { locals = locals; stack = below ++ (type ∷ []) })
    (Some (record { locals = locals; stack = below }))
enter_carries w number locals below type reference =
    one_step w number (item (plain Enter)) (record { locals = locals; stack = below ++ (type ∷ []) })
    (record { locals = locals; stack = below })
    (record {
      row = record {
        operands = subst (AllFit (scope_in w) (of_kind kinds.Ref ∷ []))
            (sym (topmost_are below (type ∷ []) 1 refl)) (reference, tt);
        local = tt;
        further = tt;
        access = tt;
      };
      targets = tt;
      handlers = tt;
      access = λ usable. tt;
    })
    (ap (λ (rest : List VType). Some (record { locals = locals; stack = rest }))
    (append-nil (under 1 (below ++ (type ∷ []))) ∙ under_are below (type ∷ []) 1 refl))
