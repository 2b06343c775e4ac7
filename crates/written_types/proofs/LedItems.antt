-- The item of an instruction that is written as it is, or of a test for null, leads to the targets and to the handlers of its edges without pads.
use Rattle.std.proofs.Common.{◌≡◌, ◌+◌, ◌==◌, ◌||◌, ℕ, zero, suc, Bool, true, false, List, [], ◌∷◌, ◌++◌, length, map, slice_get, Option, Some, None, refl, sym, ap, ◌∙◌, arith}
use Rattle.std.specs.List.{flat_map, list_any}
use Rattle.std.proofs.lemmas.Bool.{eq-eqb, false≢true}
use Rattle.std.proofs.lemmas.Option.{none-some, same_Some}
use Rattle.class_model.specs.Instructions.{targets}
use Rattle.class_model.specs.declared.descriptor.Kind.TheVariants as kinds
use Rattle.class_model.specs.declared.instr.Imm.TheVariants as imms
use Rattle.class_model.specs.declared.instr.Instr.{Instr}
use Rattle.class_model.specs.declared.instr.Instr.TheVariants.{Const, Goto, If, If2, IfNull, IfSame, Throw}
use Rattle.class_model.specs.declared.opcodes.TheConstants.{IFNONNULL}
use Rattle.flow_code.specs.declared.handlers.FlatHandler.{FlatHandler}
use Rattle.flow_code.specs.declared.point.FlatInstr.TheVariants.{Of}
use Rattle.flow_code.specs.declared.point.Point.{Point}
use Rattle.making_code.specs.Items.{WCatch, WInstr, WItem, WTarget, ahead, carried, item, load, plain, to_handler_pad, to_point}
use Rattle.making_code.specs.Opposites.{opposite_instr}
use Rattle.making_code.specs.Units.{own}
use Rattle.plan_flow.specs.Written.Finish.{Finished, begins_point, end_items}
use Rattle.plan_flow.specs.Written.FramedCode.{is_led_to, leads_to}
use Rattle.plan_flow.specs.Written.Routes.{Route, RouteEdge, edge_by}
use Rattle.plan_flow.specs.Written.Templates.{as_it_is, catches_at, catches_from, jump_target, jump_targets, null_test, to_or_pad}
use Rattle.plan_flow.specs.Written.WrittenCode.{Form, block_items, in_form, short, start_of, target_number, wide, widened, written_items}
use Rattle.plan_flow.specs.Written.WrittenConstants.{carried_instr, catch_index, indexed_item}
use Rattle.plan_flow.specs.declared.edge.EdgeKind.TheVariants as edges
use Rattle.written_types.proofs.CarriedBlocks.{stands_inside}
use Rattle.written_types.proofs.CarriedItems.{targets_many}
use Rattle.written_types.proofs.FramedBodies.{leads_to_item}
use Rattle.written_types.proofs.ItemRows.{index_targets, jumping_targets}
use Rattle.written_types.proofs.Placing.{items_and_end, same_form}
use Rattle.written_types.specs.Writing.{Writing, items_in}

-- ---- lists

mapped_long : {A B : Type 0} (change : A → B) (all : List A) → length (map change all) ≡ length all
mapped_long change [] = refl
mapped_long change (first ∷ all) = ap suc (mapped_long change all)

either_second : (a b : Bool) → b ≡ true → (a || b) ≡ true
either_second true b is = refl
either_second false b is = is

either_first : (a b : Bool) → a ≡ true → (a || b) ≡ true
either_first a b is = rw (is) refl

any_left : {A : Type 0} (test : A → Bool) (ones others : List A) → list_any test ones ≡ true → list_any test (ones ++ others) ≡ true
any_left test [] others is = absurd (false≢true is)
any_left test (one ∷ ones) others is = by (test one) refl (any_left test ones others) where
  by : (b : Bool) → test one ≡ b → (list_any test ones ≡ true → list_any test (ones ++ others) ≡ true) → list_any test ((one ∷ ones) ++ others) ≡ true
  by true told rest = rw (told) refl
  by false told rest = rw (told) (rest (sym (rw (told) refl) ∙ is))

any_right : {A : Type 0} (test : A → Bool) (ones others : List A) → list_any test others ≡ true → list_any test (ones ++ others) ≡ true
any_right test [] others is = is
any_right test (one ∷ ones) others is = either_second (test one) (list_any test (ones ++ others)) (any_right test ones others is)

opposite_one : (instr other : Instr) → opposite_instr instr ≡ Some other → length (targets instr) ≡ 1
opposite_one (If opcode to) other is = refl
opposite_one (If2 opcode to) other is = refl
opposite_one (IfSame opcode to) other is = refl
opposite_one (IfNull opcode to) other is = refl
opposite_one instr other is = absurd (none-some other is)

module _ (w : Writing) (front behind : List Finished) (one : Finished) (is : w.blocks ≡ front ++ (one ∷ behind)) where
  abbrev place_of : ℕ → ℕ
  place_of to = start_of w.form w.blocks (begins_point to)

  abbrev first : ℕ
  first = length (written_items w.form front)

  -- an item of the block leads somewhere
  item_led : (left right : List WItem) (one_item : WItem) (to : ℕ)
      → block_items w.form one ≡ left ++ (one_item ∷ right)
      → leads_to to (indexed_item w.s w.constructor w.pool w.form w.blocks (first + length left) one_item) ≡ true
      → is_led_to (items_in w) to ≡ true
  item_led left right one_item to items leads =
      leads_to_item w (first + length left) to one_item
      (stands_inside w front behind one (first + length left) left right one_item (record { is = is; items = items; number_is = refl })) leads

  -- ---- targets

  any_number : (at : ℕ) (route : Route) (n k from : ℕ) (all : List ℕ) (to goes : ℕ)
      → slice_get all k ≡ Some to
      → target_number w.form w.blocks n (jump_target at route (from + k) to) ≡ goes
      → list_any (λ (t : ℕ). t == goes) (map (target_number w.form w.blocks n) (jump_targets at route from all)) ≡ true
  any_number at route n k from [] to goes there same = absurd (none-some to there)
  any_number at route n zero from (next ∷ all) to goes there same =
      either_first _ _
      (eq-eqb (target_number w.form w.blocks n (jump_target at route from next)) goes
      (ap (λ (t : ℕ). target_number w.form w.blocks n (jump_target at route from t)) (same_Some next to there)
      ∙ ap (λ (m : ℕ). target_number w.form w.blocks n (jump_target at route m to)) (the_same from (from + 0) (omega arith)) ∙ same)) where
        the_same : (a b : ℕ) → a ≡ b → a ≡ b
        the_same a b e = e
  any_number at route n (suc k) from (next ∷ all) to goes there same =
      either_second _ _
      (any_number at route n k (suc from) all to goes there
      (ap (λ (m : ℕ). target_number w.form w.blocks n (jump_target at route m to)) (the_same (suc from + k) (from + suc k) (omega arith)) ∙ same)) where
        the_same : (a b : ℕ) → a ≡ b → a ≡ b
        the_same a b e = e

  carried_targets : (class : ℕ) (instr : Instr) → targets (carried_instr w.s w.pool class instr) ≡ targets instr
  carried_targets class instr = by (class == w.s.flat.host.class) refl where
    by : (b : Bool) → (class == w.s.flat.host.class) ≡ b → targets (carried_instr w.s w.pool class instr) ≡ targets instr
    by true own_class = rw (own_class) refl
    by false other = rw (other) (index_targets _ instr)

  -- the item of an instruction as it is, in both forms: it, or a goto, has the targets
  pub carried_jump_led : (at : ℕ) (point : Point) (route : Route) (class : ℕ) (instr : Instr) (k to : ℕ) (edge : RouteEdge)
      → point.instr ≡ Of class instr
      → one.block.items ≡ as_it_is at point route class instr
      → slice_get (targets instr) k ≡ Some to
      → edge_by route (edges.Jump k) ≡ Some edge
      → edge.made ≡ []
      → is_led_to (items_in w) (place_of edge.to) ≡ true
  carried_jump_led at point route class instr k to edge is_instr items there found none = by w.form refl where
    numbers : ℕ → List ℕ
    numbers n = map (target_number w.form w.blocks n) (jump_targets at route 0 (targets instr))

    one_item : WItem
    one_item = record { instr = carried class instr; targets = jump_targets at route 0 (targets instr); catches = catches_at at point route }

    items_are : one.block.items ≡ one_item ∷ []
    items_are = items ∙ rw (is_instr) refl

    count : (n : ℕ) → length (numbers n) ≡ length (targets instr)
    count n = mapped_long (target_number w.form w.blocks n) (jump_targets at route 0 (targets instr)) ∙ targets_many at route 0 (targets instr)

    target_is : (n : ℕ) → target_number w.form w.blocks n (jump_target at route (0 + k) to) ≡ place_of edge.to
    target_is n =
        ap (λ (m : ℕ). target_number w.form w.blocks n (jump_target at route m to)) (the_same (0 + k) k (omega arith)) ∙ rw (found, none) refl where
          the_same : (a b : ℕ) → a ≡ b → a ≡ b
          the_same a b e = e

    any : (n : ℕ) → list_any (λ (t : ℕ). t == place_of edge.to) (numbers n) ≡ true
    any n = any_number at route n k 0 (targets instr) to (place_of edge.to) there (target_is n)

    leads_own : (n : ℕ) → leads_to (place_of edge.to) (indexed_item w.s w.constructor w.pool w.form w.blocks n one_item) ≡ true
    leads_own n =
        either_first _ _
        (ap (list_any (λ (t : ℕ). t == place_of edge.to))
        (jumping_targets (numbers n) (carried_instr w.s w.pool class instr) (ap length (carried_targets class instr) ∙ sym (count n)))
        ∙ any n)

    by : (form : Form) → w.form ≡ form → is_led_to (items_in w) (place_of edge.to) ≡ true
    by short is_form =
        item_led [] (end_items one.end) one_item (place_of edge.to)
        (items_and_end w.form one ∙ ap (λ (f : Form). in_form f one.block.items ++ end_items one.end) is_form
        ∙ ap (λ (all : List WItem). all ++ end_items one.end) items_are) (leads_own (first + 0))
    by wide is_form = of_opposite (opposite_instr instr) refl where
      whole : block_items w.form one ≡ flat_map widened (one_item ∷ []) ++ end_items one.end
      whole =
          items_and_end w.form one ∙ ap (λ (f : Form). in_form f one.block.items ++ end_items one.end) is_form
          ∙ ap (λ (all : List WItem). flat_map widened all ++ end_items one.end) items_are

      of_opposite : (found : Option Instr) → opposite_instr instr ≡ found → is_led_to (items_in w) (place_of edge.to) ≡ true
      of_opposite None no_opposite =
          item_led [] (end_items one.end) one_item (place_of edge.to)
          (whole ∙ ap (λ (all : List WItem). (all ++ []) ++ end_items one.end) (as_one no_opposite)) (leads_own (first + 0)) where
            as_one : opposite_instr instr ≡ None → widened one_item ≡ one_item ∷ []
            as_one e = rw (e) refl
      of_opposite (Some other) is_opposite =
          item_led (over ∷ []) (end_items one.end) goto (place_of edge.to)
          (whole ∙ ap (λ (all : List WItem). (all ++ []) ++ end_items one.end) (as_two is_opposite)) leads_goto where
            over : WItem
            over = record { instr = carried class other; targets = ahead 2 ∷ []; catches = [] }

            goto : WItem
            goto = record { instr = plain (Goto 0); targets = one_item.targets; catches = [] }

            as_two : opposite_instr instr ≡ Some other → widened one_item ≡ over ∷ goto ∷ []
            as_two e = rw (e) refl

            n : ℕ
            n = first + length (over ∷ [])

            leads_goto : leads_to (place_of edge.to) (indexed_item w.s w.constructor w.pool w.form w.blocks n goto) ≡ true
            leads_goto =
                either_first _ _
                (ap (list_any (λ (t : ℕ). t == place_of edge.to))
                (jumping_targets (numbers n) (Goto 0) (sym (count n ∙ opposite_one instr other is_opposite))) ∙ any n)

  -- ---- handlers

  abbrev catch_number : ℕ → WCatch → ℕ × ℕ
  catch_number n catch = (target_number w.form w.blocks n catch.to, catch_index w.pool catch.class)

  any_catch : (at : ℕ) (route : Route) (n k from : ℕ) (all : List FlatHandler) (handler : FlatHandler) (edge : RouteEdge)
      → slice_get all k ≡ Some handler
      → edge_by route (edges.Handler (from + k)) ≡ Some edge
      → edge.made ≡ []
      → list_any (λ (c : ℕ × ℕ). c.0 == place_of edge.to) (map (catch_number n) (catches_from at route from all)) ≡ true
  any_catch at route n k from [] handler edge there found none = absurd (none-some handler there)
  any_catch at route n zero from (next ∷ all) handler edge there found none =
      ap (λ (catches : List WCatch). list_any test (map (catch_number n) catches)) here
      ∙ either_first (target_number w.form w.blocks n (to_or_pad edge.made (to_point edge.to) (to_handler_pad at from)) == place_of edge.to) _
      (eq-eqb (target_number w.form w.blocks n (to_or_pad edge.made (to_point edge.to) (to_handler_pad at from))) (place_of edge.to) target_is) where
        target_is : target_number w.form w.blocks n (to_or_pad edge.made (to_point edge.to) (to_handler_pad at from)) ≡ place_of edge.to
        target_is = rw (none) refl

        test : ℕ × ℕ → Bool
        test c = c.0 == place_of edge.to

        found_here : edge_by route (edges.Handler from) ≡ Some edge
        found_here = ap (λ (m : ℕ). edge_by route (edges.Handler m)) (the_same from (from + 0) (omega arith)) ∙ found where
          the_same : (a b : ℕ) → a ≡ b → a ≡ b
          the_same a b e = e

        here : catches_from at route from (next ∷ all)
            ≡ record { to = to_or_pad edge.made (to_point edge.to) (to_handler_pad at from); class = next.catch_class }
            ∷ catches_from at route (suc from) all
        here = rw (found_here) refl
  any_catch at route n (suc k) from (next ∷ all) handler edge there found none =
      by (edge_by route (edges.Handler from)) refl
      (any_catch at route n k (suc from) all handler edge there
      (ap (λ (m : ℕ). edge_by route (edges.Handler m)) (the_same (suc from + k) (from + suc k) (omega arith)) ∙ found) none) where
        the_same : (a b : ℕ) → a ≡ b → a ≡ b
        the_same a b e = e

        by : (first_edge : Option RouteEdge) → edge_by route (edges.Handler from) ≡ first_edge
            → list_any (λ (c : ℕ × ℕ). c.0 == place_of edge.to) (map (catch_number n) (catches_from at route (suc from) all)) ≡ true
            → list_any (λ (c : ℕ × ℕ). c.0 == place_of edge.to) (map (catch_number n) (catches_from at route from (next ∷ all))) ≡ true
        by None e rest = rw (e) rest
        by (Some other) e rest = rw (e) (either_second _ _ rest)

  -- an item with the catches of its point
  catching_led : (at : ℕ) (point : Point) (route : Route) (left right : List WItem) (instr : WInstr) (tos : List WTarget) (k : ℕ)
      (handler : FlatHandler) (edge : RouteEdge)
      → block_items w.form one ≡ left ++ (record { instr = instr; targets = tos; catches = catches_at at point route } ∷ right)
      → slice_get point.handlers k ≡ Some handler
      → edge_by route (edges.Handler k) ≡ Some edge
      → edge.made ≡ []
      → is_led_to (items_in w) (place_of edge.to) ≡ true
  catching_led at point route left right instr tos k handler edge items there found none =
      item_led left right (record { instr = instr; targets = tos; catches = catches_at at point route }) (place_of edge.to) items
      (either_second _ _
      (any_catch at route (first + length left) k 0 point.handlers handler edge there
      (ap (λ (m : ℕ). edge_by route (edges.Handler m)) (the_same (0 + k) k (omega arith)) ∙ found) none)) where
        the_same : (a b : ℕ) → a ≡ b → a ≡ b
        the_same a b e = e

  pub carried_handler_led : (at : ℕ) (point : Point) (route : Route) (class : ℕ) (instr : Instr) (k : ℕ) (handler : FlatHandler) (edge : RouteEdge)
      → opposite_instr instr ≡ None
      → one.block.items ≡ as_it_is at point route class instr
      → slice_get point.handlers k ≡ Some handler
      → edge_by route (edges.Handler k) ≡ Some edge
      → edge.made ≡ []
      → is_led_to (items_in w) (place_of edge.to) ≡ true
  carried_handler_led at point route class instr k handler edge no_opposite items there found none =
      catching_led at point route [] (end_items one.end) (carried class instr) _ k handler edge
      (items_and_end w.form one ∙ ap (λ (all : List WItem). all ++ end_items one.end) (ap (in_form w.form) items ∙ as_one w.form)) there found none where
        as_one : (form : Form) → in_form form (as_it_is at point route class instr) ≡ as_it_is at point route class instr
        as_one short = refl
        as_one wide = rw (no_opposite) refl

  pub test_handler_led : (at : ℕ) (point : Point) (route : Route) (local k : ℕ) (handler : FlatHandler) (edge : RouteEdge)
      → one.block.items ≡ null_test at point route local
      → slice_get point.handlers k ≡ Some handler
      → edge_by route (edges.Handler k) ≡ Some edge
      → edge.made ≡ []
      → is_led_to (items_in w) (place_of edge.to) ≡ true
  test_handler_led at point route local k handler edge items there found none =
      catching_led at point route
      (item (load kinds.Ref (own local))
      ∷ record { instr = plain (IfNull IFNONNULL 0); targets = ahead 3 ∷ []; catches = [] }
      ∷ item (plain (Const imms.Null))
      ∷ []) (end_items one.end) (plain Throw) [] k handler edge
      (items_and_end w.form one
      ∙ ap (λ (all : List WItem). all ++ end_items one.end)
      (ap (in_form w.form) items ∙ same_form w.form (null_test at point route local) (tt, (tt, (tt, (tt, tt)))))) there found none
