-- Operands that are gathered one by one.
use Rattle.std.proofs.Common.{◌≡◌, ◌+◌, ◌-◌, ◌<◌, ◌≤◌, ℕ, zero, suc, List, [], ◌∷◌, ◌++◌, take, length, get_or, Option, Some, None, refl, sym, ap, ◌∙◌, arith, append_assoc}
use Rattle.std.proofs.lemmas.List.{append-nil, map-append, map-set, take_more}
use Rattle.class_model.specs.declared.frame.Frame.{Frame}
use Rattle.plan_flow.specs.Inner.RowViews.{locals_behind, plan_row, stored_by, stored_slots}
use Rattle.plan_flow.specs.PlanRows.{Change, from_place}
use Rattle.plan_flow.specs.PlanScope.{PlanScope}
use Rattle.plan_flow.specs.PlanSlots.{edge_locals, held, slot_from, slots_from}
use Rattle.plan_flow.specs.PlanTable.{held_locals, operand, picked_operands}
use Rattle.plan_flow.specs.declared.edge.EdgeKind.{EdgeKind}
use Rattle.plan_flow.specs.declared.edge.EdgeKind.TheVariants.{Next, Jump, Handler}
use Rattle.plan_flow.specs.declared.rows.Row.{Row}
use Rattle.plan_flow.specs.declared.shuffles.Form.{Form}
use Rattle.virtual_state.specs.States.{State}
use Rattle.virtual_state.specs.declared.slot.Slot.{Slot}

pub record Gathered (before after : List Slot) (state : State) (f : Frame) (form : Form) (count : ℕ) : Type 0 where
  pub each : (s : PlanScope) (by : Change) → after ≡ before ++ slots_from s state by (picked_operands f (length form.takes.now) (take count form.gives.now))

pub gathered_none : (before : List Slot) (state : State) (f : Frame) (form : Form) → Gathered before before state f form 0
gathered_none before state f form = record { each = λ s by. sym (append-nil before) }

pub gathered_more :
    (before after more : List Slot) (state : State) (f : Frame) (form : Form) (count behind place : ℕ)
    → Gathered before after state f form count
    → count < length form.gives.now
    → place ≡ operand f (length form.takes.now - (get_or form.gives.now count 0 + 1))
    → more ≡ after ++ held state place ∷ []
    → behind ≡ count + 1
    → Gathered before more state f form behind
gathered_more before after more state f form count behind place has low is pushed one = record {
  each = λ s by.
      let takes = length form.takes.now in
      let numbers = form.gives.now in
      let slots : List ℕ → List Slot = λ list. slots_from s state by (picked_operands f takes list) in
      let last = get_or numbers count 0 in
      let next : slots (take (count + 1) numbers) ≡ slots (take count numbers) ++ held state (operand f (takes - (last + 1))) ∷ [] =
      ap slots (take_more numbers count 0 low)
      ∙ ap (slots_from s state by) (map-append (λ (number : ℕ). from_place (operand f (takes - (number + 1)))) (take count numbers) (last ∷ []))
      ∙ map-append (slot_from s state by) (picked_operands f takes (take count numbers)) (from_place (operand f (takes - (last + 1))) ∷ []) in
      pushed
      ∙ (λ i. has.each s by i ++ held state (is i) ∷ [])
      ∙ append_assoc before (slots (take count numbers)) (held state (operand f (takes - (last + 1))) ∷ [])
      ∙ ap (λ (list : List Slot). before ++ list) (sym next)
      ∙ ap (λ (n : ℕ). before ++ slots (take n numbers)) (sym one);
}

take_past : (n : ℕ) (list : List ℕ) → length list ≤ n → take n list ≡ list
take_past zero [] past = refl
take_past zero (first ∷ list) past = absurd (omega (arith, past))
take_past (suc n) [] past = refl
take_past (suc n) (first ∷ list) past = ap (λ (rest : List ℕ). first ∷ rest) (take_past n list (omega (arith, past)))

pub gathered_all :
    (before after : List Slot) (state : State) (f : Frame) (form : Form) (count : ℕ)
    → Gathered before after state f form count
    → length form.gives.now ≤ count
    → (s : PlanScope) (by : Change)
    → after ≡ before ++ slots_from s state by (picked_operands f (length form.takes.now) form.gives.now)
gathered_all before after state f form count has past s by =
    has.each s by ∙ ap (λ (list : List ℕ). before ++ slots_from s state by (picked_operands f (length form.takes.now) list)) (take_past count form.gives.now past)

-- ---- a local unit that is stored into

pub locals_by : (f : Frame) (row : Row) (by : EdgeKind) → locals_behind f (stored_by row.stored by) ≡ edge_locals (plan_row f row) (length f.locals) by
locals_by f row Next = refl
locals_by f row (Jump number) = refl
locals_by f row (Handler number) = refl

pub stored_is : (s : PlanScope) (state : State) (by : Change) (f : Frame) (local : Option ℕ) → stored_slots state f local (slots_from s state by (held_locals f)) ≡ slots_from s state by (locals_behind f local)
stored_is s state by f None = refl
stored_is s state by f (Some local) = sym (map-set (slot_from s state by) (held_locals f) local (from_place (operand f 0)))
