-- The items that are written for an instruction: moves and pushes one after the other, up to the block behind.
use Rattle.std.proofs.Common.{◌≡◌, ◌+◌, ◌++◌, ℕ, suc, Bool, true, false, List, [], ◌∷◌, length, map, slice_get, Some, None, Option, option_and_then, option_map, if◌then◌else◌, refl, sym, ap, subst, ◌∙◌, arith}
use Rattle.std.specs.List.{AllByRecursion}
use Rattle.std.proofs.lemmas.List.{append-nil, append_assoc, length-append, map-append}
use Rattle.std.proofs.lemmas.Option.{none-some, same_Some, slice_get-map, slice_get_within}
use Rattle.class_model.specs.declared.descriptor.Kind.{Kind}
use Rattle.class_model.specs.declared.instr.Instr.TheVariants.{Nop}
use Rattle.flow_code.specs.FlatCode.{FlatCode}
use Rattle.flow_code.specs.declared.point.Point.{Point}
use Rattle.machine_values.specs.Frames.{MethodState}
use Rattle.machine_values.specs.Values.{has_kind}
use Rattle.machine_values.specs.declared.value.Value.{Value}
use Rattle.making_code.specs.Items.{WInstr, WItem, item, plain}
use Rattle.member_link.specs.Machine.Locals.{local_value, shuffled, stored}
use Rattle.member_link.specs.Machine.Ops.{Op, load_local, no_operation, push_value, shuffle_stack, store_local}
use Rattle.member_link.specs.Machine.Programs.{Code, Point as RunPoint}
use Rattle.member_link.specs.Machine.Stepping.{next_with}
use Rattle.plan_flow.specs.Laws.WrittenBlocks.{block_finished, first_item, holds_of_both, next_starts, own_number, own_of}
use Rattle.plan_flow.specs.Written.Blocks.{Block, blocks_of, instruction_block, leaves_to, state_written}
use Rattle.plan_flow.specs.Written.Finish.{End, Finished, empty_end, end_items, end_of, goto_end, is_empty, no_end, nop_end}
use Rattle.plan_flow.specs.Written.Routes.{Route}
use Rattle.plan_flow.specs.Written.Templates.{items_at}
use Rattle.plan_flow.specs.Written.WrittenCode.{Form, block_items, in_form, short, wide, written_code, written_op, written_point}
use Rattle.making_code.specs.StateFrames.{differ}
use Rattle.plan_flow.specs.Written.WrittenFrames.{written_frame}
use Rattle.plan_flow.specs.Written.WrittenPrograms.{WrittenMethod}
use Rattle.same_runs.specs.Laws.QuietMoves.{moves_in_method}
use Rattle.same_runs.specs.QuietMoves.{kept, moved_at, moved_by, moves, popped, pushed}
use Rattle.written_runs.specs.Inner.PlannedFrames.{IsReached, blocks_in, scope_in}
use Rattle.written_runs.specs.Inner.Setup.{Setup, second}
use Rattle.written_runs.specs.Laws.Carried.Standing.{AtOwn, item_there, own_finished}
use Rattle.written_runs.specs.Laws.Templates.Stacks.{get_left, get_right}
use Rattle.written_runs.specs.Laws.MadeItems.{AreOwn, length_made, made_in_form}

-- ---- operations one after the other

abbrev pub all_moved : List Op → MethodState → Option MethodState
all_moved [] g = Some g
all_moved (op ∷ ops) g = option_and_then (all_moved ops) (moved_by g op)

-- control goes on to the next instruction
abbrev pub IsStraight : Op → Type 0
IsStraight op = (g after : MethodState) → moved_by g op ≡ Some after → after.place ≡ g.place + 1

to_next : (now after : MethodState) (place : ℕ) → now.place ≡ place → Some now ≡ Some after → after.place ≡ place
to_next now after place at is = ap (λ (m : MethodState). m.place) (sym (same_Some now after is)) ∙ at

pub nop_is_straight : IsStraight no_operation
nop_is_straight g after is = to_next (next_with g g.stack) after (g.place + 1) refl is

pub push_is_straight : (value : Value) → IsStraight (push_value value)
push_is_straight value g after is = to_next (pushed g value) after (g.place + 1) refl is

pub load_is_straight : (kind : Kind) (at : ℕ) → IsStraight (load_local kind at)
load_is_straight kind at g after is = by (local_value kind g.locals at) is where
  by : (found : Option Value) → option_map (pushed g) found ≡ Some after → after.place ≡ g.place + 1
  by None none = absurd (none-some after none)
  by (Some value) some = to_next (pushed g value) after (g.place + 1) refl some

pub shuffle_is_straight : (opcode : ℕ) → IsStraight (shuffle_stack opcode)
shuffle_is_straight opcode g after is = by (shuffled opcode g.stack) is where
  by : (found : Option (List Value)) → option_map (next_with g) found ≡ Some after → after.place ≡ g.place + 1
  by None none = absurd (none-some after none)
  by (Some stack) some = to_next (next_with g stack) after (g.place + 1) refl some

pub store_is_straight : (kind : Kind) (at : ℕ) → IsStraight (store_local kind at)
store_is_straight kind at g after is = by g.stack is where
  of_units : (stack : List Value) (units : Option (List (Option Value)))
      → option_map (λ now. record (next_with g stack) { locals = now }) units ≡ Some after
      → after.place ≡ g.place + 1
  of_units stack None none = absurd (none-some after none)
  of_units stack (Some units) some = to_next (record (next_with g stack) { locals = units }) after (g.place + 1) refl some

  of_kind : (value : Value) (stack : List Value) (fits : Bool)
      → (if fits then kept g stack at value else None) ≡ Some after
      → after.place ≡ g.place + 1
  of_kind value stack true told = of_units stack (stored at value g.locals) told
  of_kind value stack false none = absurd (none-some after none)

  by : (stack : List Value) → popped g kind at stack ≡ Some after → after.place ≡ g.place + 1
  by [] none = absurd (none-some after none)
  by (value ∷ stack) told = of_kind value stack (has_kind kind value) told

pub all_moved_then : (ops more : List Op) (g middle after : MethodState)
    → all_moved ops g ≡ Some middle
    → all_moved more middle ≡ Some after
    → all_moved (ops ++ more) g ≡ Some after
all_moved_then [] more g middle after is rest = ap (all_moved more) (same_Some g middle is) ∙ rest
all_moved_then (op ∷ ops) more g middle after is rest =
    by (moved_by g op) refl (λ next told. all_moved_then ops more next middle after told rest) where
      by : (next : Option MethodState)
          → moved_by g op ≡ next
          → ((now : MethodState) → all_moved ops now ≡ Some middle → all_moved (ops ++ more) now ≡ Some after)
          → option_and_then (all_moved (ops ++ more)) (moved_by g op) ≡ Some after
      by None none again = absurd (none-some middle (sym (ap (option_and_then (all_moved ops)) none) ∙ is))
      by (Some next) some again =
          ap (option_and_then (all_moved (ops ++ more))) some ∙ again next (sym (ap (option_and_then (all_moved ops)) some) ∙ is)

-- these operations stand in a code from a place on
pub record OpsThere (code : Code) (place : ℕ) (ops : List Op) : Type 0 where
  pub each : (more : ℕ) (op : Op)
      → slice_get ops more ≡ Some op
      → (point : RunPoint) × (slice_get code.points (place + more) ≡ Some point) × (point.op ≡ op)

pub moves_all : (code : Code) (ops : List Op) (g after : MethodState)
    → OpsThere code g.place ops
    → AllByRecursion IsStraight ops
    → all_moved ops g ≡ Some after
    → (moves code (length ops) g ≡ Some after) × (after.place ≡ g.place + length ops)
moves_all code [] g after there straight is = (
  is,
  ap (λ (m : MethodState). m.place) (sym (same_Some g after is)) ∙ omega arith,
)
moves_all code (op ∷ ops) g after there straight is =
    by (moved_by g op) refl (λ next rest_there rest. moves_all code ops next after rest_there straight.1 rest) where
      first : (point : RunPoint) × (slice_get code.points (g.place + 0) ≡ Some point) × (point.op ≡ op)
      first = there.each 0 op refl

      here : g.place + 0 ≡ g.place
      here = omega arith

      at_first : moved_at g (slice_get code.points g.place) ≡ moved_by g op
      at_first =
          ap (λ (n : ℕ). moved_at g (slice_get code.points n)) (sym here) ∙ ap (moved_at g) first.1 ∙ ap (moved_by g) first.2

      by : (next : Option MethodState)
          → moved_by g op ≡ next
          → ((now : MethodState) → OpsThere code now.place ops → all_moved ops now ≡ Some after
          → (moves code (length ops) now ≡ Some after) × (after.place ≡ now.place + length ops))
          → (moves code (suc (length ops)) g ≡ Some after) × (after.place ≡ g.place + suc (length ops))
      by None none again = absurd (none-some after (sym (ap (option_and_then (all_moved ops)) none) ∙ is))
      by (Some next) some again =
          let place = straight.0 g next some in
          let rest = again next (record {
            each = λ more other is_other.
                let behind = there.each (suc more) other is_other in
                let same : g.place + suc more ≡ next.place + more = omega (arith, place) in
                (behind.0, ap (slice_get code.points) (sym same) ∙ behind.1, behind.2);
          }) (sym (ap (option_and_then (all_moved ops)) some) ∙ is) in
          let last = rest.1 in (
            ap (option_and_then (moves code (length ops))) (at_first ∙ some) ∙ rest.0,
            omega (arith, place, last),
          )

-- ---- the items of an instruction

end_in_form : (form : Form) (end : End) → in_form form (end_items end) ≡ end_items end
end_in_form short end = refl
end_in_form wide no_end = refl
end_in_form wide (goto_end to) = refl
end_in_form wide nop_end = refl

-- a block that leaves for no point writes no goto
never_goto : (flat : FlatCode) (block : Block) (behind : List Finished) → block.leaves ≡ None → (to : ℕ) → end_of flat block behind ≡ goto_end to → ⊥
never_goto flat block behind none to is = of_items (is_empty block.items) (sym (rw (none) refl) ∙ is) where
  of_frames : (apart : Bool) → (if apart then nop_end else no_end) ≡ goto_end to → ⊥
  of_frames true same = absurd cc
  of_frames false same = absurd cc

  of_behind : (blocks : List Finished) → empty_end flat block blocks ≡ goto_end to → ⊥
  of_behind [] same = absurd cc
  of_behind (next ∷ others) same = of_frames (differ (written_frame flat block) (written_frame flat next.block)) same

  of_items : (empty : Bool) → (if empty then empty_end flat block behind else no_end) ≡ goto_end to → ⊥
  of_items true same = of_behind behind same
  of_items false same = absurd cc

-- What the second frame is behind the items that are written for an instruction from which control goes on to the next point: it is where the next
-- block begins.
pub record OwnMoves (u : Setup) (w : WrittenMethod) (at : ℕ) (route : Route) (code : Code) (g middle : MethodState) : Type 0 where
  pub count : ℕ
  pub after : MethodState
  pub moved : moves code count g ≡ Some after
  pub place : after.place ≡ first_item w.form (blocks_in u w) (suc (own_number (scope_in u w) w.routes at route))
  pub locals : after.locals ≡ middle.locals
  pub stack : after.stack ≡ middle.stack
  pub method : after.at ≡ g.at
  pub held : after.held ≡ g.held

module _ {u : Setup} {w : WrittenMethod} {at : ℕ} {point : Point} {route : Route} {g : MethodState} (there : AtOwn u w at point route g)
    (reached : IsReached w at point route) (instrs : List WInstr)
    (items : items_at (scope_in u w) at point (state_written route) route ≡ map item instrs) (own : AreOwn instrs) where
  abbrev code : Code
  code = written_code (scope_in u w) there.host u.constructor w.form (blocks_in u w)

  abbrev end : End
  end = (own_finished u w at point route).end

  abbrev pub op_of : WInstr → Op
  op_of instr = written_op (scope_in u w) there.host u.constructor [] instr

  pub whole : block_items w.form (own_finished u w at point route) ≡ map item instrs ++ end_items end
  whole =
      ap (λ (all : List WItem). in_form w.form (all ++ end_items end)) items
      ∙ made_in_form w.form instrs (end_items end) own (end_in_form w.form end)

  -- instructions without targets among the items, as operations of the code
  ops_there : (all : List WInstr) → map item all ≡ map item instrs ++ end_items end → OpsThere code g.place (map op_of all)
  ops_there all same = record {
    each = λ more op is. by more op (slice_get all more) refl (sym (slice_get-map op_of all more) ∙ is);
  } where
    by : (more : ℕ) (op : Op) (instr : Option WInstr)
        → slice_get all more ≡ instr
        → option_map op_of (slice_get all more) ≡ Some op
        → (found : RunPoint) × (slice_get code.points (g.place + more) ≡ Some found) × (found.op ≡ op)
    by more op None none is = absurd (none-some op (sym (ap (option_map op_of) none) ∙ is))
    by more op (Some instr) some is = (
      written_point (scope_in u w) there.host u.constructor w.form (blocks_in u w) (0 + (g.place + more)) (item instr),
      sym (ap (option_and_then (λ (c : Code). slice_get c.points (g.place + more))) there.is_code)
          ∙ item_there there reached more (item instr)
          (ap (λ (found : List WItem). slice_get found more) (whole ∙ sym same) ∙ slice_get-map item all more ∙ ap (option_map item) some),
      same_Some (op_of instr) op (sym (ap (option_map op_of) some) ∙ is),
    )

  many_ops : (all : List WInstr) → length (map op_of all) ≡ length all
  many_ops [] = refl
  many_ops (instr ∷ all) = ap suc (many_ops all)

  next_place : first_item w.form (blocks_in u w) (suc (own_number (scope_in u w) w.routes at route)) ≡ g.place + (length instrs + length (end_items end))
  next_place =
      next_starts w.form (blocks_in u w) (own_number (scope_in u w) w.routes at route) (own_finished u w at point route) is_finished
      ∙ ap (λ (n : ℕ). n + length (block_items w.form (own_finished u w at point route))) (sym there.place)
      ∙ ap (λ (n : ℕ). g.place + n) (ap length whole ∙ length_made instrs (end_items end)) where
        is_finished : slice_get (blocks_in u w) (own_number (scope_in u w) w.routes at route) ≡ Some (own_finished u w at point route)
        is_finished =
            block_finished w.flat (blocks_of (scope_in u w) w.routes) (own_number (scope_in u w) w.routes at route)
            (instruction_block (scope_in u w) at point route) (own_of (scope_in u w) w.routes at point route reached.is_point reached.is_route)

  pub own_items : leaves_to point route ≡ None
      → (middle : MethodState)
      → AllByRecursion IsStraight (map op_of instrs)
      → all_moved (map op_of instrs) g ≡ Some middle
      → OwnMoves u w at route code g middle
  own_items leaves middle straight moved = by end refl where
    behind : (last : MethodState) (all : List WInstr)
        → map item all ≡ map item instrs ++ end_items end
        → length all ≡ length instrs + length (end_items end)
        → AllByRecursion IsStraight (map op_of all)
        → all_moved (map op_of all) g ≡ Some last
        → last.locals ≡ middle.locals
        → last.stack ≡ middle.stack
        → OwnMoves u w at route code g middle
    behind last all same many all_straight all_are locals stack =
        let moves_there = moves_all code (map op_of all) g last (ops_there all same) all_straight all_are in
        let in_method = moves_in_method (second u) code (length (map op_of all)) g last moves_there.0 in
        record {
          count = length (map op_of all);
          after = last;
          moved = moves_there.0;
          place = moves_there.1 ∙ ap (λ (n : ℕ). g.place + n) (many_ops all ∙ many) ∙ sym next_place;
          locals = locals;
          stack = stack;
          method = in_method.0;
          held = in_method.1;
        }

    by : (found : End) → end ≡ found → OwnMoves u w at route code g middle
    by no_end is =
        behind middle instrs
        (sym (append-nil (map item instrs)) ∙ ap (λ (e : End). map item instrs ++ end_items e) (sym is))
        (let none = ap (λ (e : End). length (end_items e)) is in omega (arith, none)) straight moved refl refl
    by (goto_end to) is = absurd (never_goto w.flat (instruction_block (scope_in u w) at point route) _ leaves to is)
    by nop_end is =
        behind (next_with middle middle.stack) (instrs ++ plain Nop ∷ [])
        (map-append item instrs (plain Nop ∷ []) ∙ ap (λ (e : End). map item instrs ++ end_items e) (sym is))
        (length-append instrs (plain Nop ∷ []) ∙ ap (λ (e : End). length instrs + length (end_items e)) (sym is))
        (subst (AllByRecursion IsStraight) (sym (map-append op_of instrs (plain Nop ∷ [])))
        (holds_of_both IsStraight (map op_of instrs) (no_operation ∷ []) straight (nop_is_straight, tt)))
        (ap (λ (ops : List Op). all_moved ops g) (map-append op_of instrs (plain Nop ∷ []))
        ∙ all_moved_then (map op_of instrs) (no_operation ∷ []) g middle (next_with middle middle.stack) moved refl) refl refl

  many_items : (list : List WInstr) → length (map item list) ≡ length list
  many_items [] = refl
  many_items (first ∷ list) = ap suc (many_items list)

  -- operations that stand behind others among the items
  ops_at : (done all : List WInstr) (behind : List WItem) (place : ℕ)
      → map item done ++ (map item all ++ behind) ≡ map item instrs ++ end_items end
      → place ≡ g.place + length done
      → OpsThere code place (map op_of all)
  ops_at done all behind place same here = record {
    each = λ more op is. by more op (slice_get all more) refl (sym (slice_get-map op_of all more) ∙ is);
  } where
    by : (more : ℕ) (op : Op) (instr : Option WInstr)
        → slice_get all more ≡ instr
        → option_map op_of (slice_get all more) ≡ Some op
        → (found : RunPoint) × (slice_get code.points (place + more) ≡ Some found) × (found.op ≡ op)
    by more op None none is = absurd (none-some op (sym (ap (option_map op_of) none) ∙ is))
    by more op (Some instr) some is = (
      written_point (scope_in u w) there.host u.constructor w.form (blocks_in u w) (0 + (g.place + (length done + more))) (item instr),
      ap (slice_get code.points) at_place
          ∙ sym (ap (option_and_then (λ (c : Code). slice_get c.points (g.place + (length done + more)))) there.is_code)
          ∙ item_there there reached (length done + more) (item instr)
          (ap (λ (found : List WItem). slice_get found (length done + more)) (whole ∙ sym same)
          ∙ ap (λ (n : ℕ). slice_get (map item done ++ (map item all ++ behind)) (n + more)) (sym (many_items done))
          ∙ get_right (map item done) (map item all ++ behind) more
          ∙ get_left (map item all) behind more
          (let many = many_items all in let low = slice_get_within all more instr some in omega (arith, many, low))
          ∙ slice_get-map item all more ∙ ap (option_map item) some),
      same_Some (op_of instr) op (sym (ap (option_map op_of) some) ∙ is),
    ) where
      at_place : place + more ≡ g.place + (length done + more)
      at_place = let h = here in omega (arith, h)

  pub done_there : (done rest : List WInstr) → instrs ≡ done ++ rest → OpsThere code g.place (map op_of done)
  done_there done rest parts =
      ops_at [] done (map item rest ++ end_items end) g.place
      (sym (append_assoc (map item done) (map item rest) (end_items end))
      ∙ ap (λ (all : List WItem). all ++ end_items end) (sym (map-append item done rest) ∙ ap (map item) (sym parts))) (omega arith)

  -- the same of items behind others, from where those have led
  pub own_items_behind : leaves_to point route ≡ None
      → (done rest : List WInstr)
      → instrs ≡ done ++ rest
      → (before middle : MethodState)
      → before.place ≡ g.place + length done
      → AllByRecursion IsStraight (map op_of rest)
      → all_moved (map op_of rest) before ≡ Some middle
      → OwnMoves u w at route code before middle
  own_items_behind leaves done rest parts before middle begins straight moved = by end refl where
    behind : (last : MethodState) (all : List WInstr)
        → map item done ++ (map item all ++ []) ≡ map item instrs ++ end_items end
        → length done + length all ≡ length instrs + length (end_items end)
        → AllByRecursion IsStraight (map op_of all)
        → all_moved (map op_of all) before ≡ Some last
        → last.locals ≡ middle.locals
        → last.stack ≡ middle.stack
        → OwnMoves u w at route code before middle
    behind last all same many all_straight all_are locals stack =
        let moves_there = moves_all code (map op_of all) before last (ops_at done all [] before.place same begins) all_straight all_are in
        let in_method = moves_in_method (second u) code (length (map op_of all)) before last moves_there.0 in
        let last_place = moves_there.1 in
        let many_all = many_ops all in
        let next = next_place in
        record {
          count = length (map op_of all);
          after = last;
          moved = moves_there.0;
          place = omega (arith, last_place, many_all, many, begins, next);
          locals = locals;
          stack = stack;
          method = in_method.0;
          held = in_method.1;
        }

    parts_are : map item done ++ map item rest ≡ map item instrs
    parts_are = sym (map-append item done rest) ∙ ap (map item) (sym parts)

    by : (found : End) → end ≡ found → OwnMoves u w at route code before middle
    by no_end is =
        behind middle rest
        (ap (λ (all : List WItem). map item done ++ all) (append-nil (map item rest)) ∙ parts_are
        ∙ sym (append-nil (map item instrs)) ∙ ap (λ (e : End). map item instrs ++ end_items e) (sym is))
        (let none = ap (λ (e : End). length (end_items e)) is in let all = ap length parts ∙ length-append done rest in omega (arith, none, all))
        straight moved refl refl
    by (goto_end to) is = absurd (never_goto w.flat (instruction_block (scope_in u w) at point route) _ leaves to is)
    by nop_end is =
        behind (next_with middle middle.stack) (rest ++ plain Nop ∷ [])
        (ap (λ (all : List WItem). map item done ++ all) (append-nil (map item (rest ++ plain Nop ∷ [])) ∙ map-append item rest (plain Nop ∷ []))
        ∙ sym (append_assoc (map item done) (map item rest) (item (plain Nop) ∷ []))
        ∙ ap (λ (all : List WItem). all ++ item (plain Nop) ∷ []) parts_are
        ∙ ap (λ (e : End). map item instrs ++ end_items e) (sym is))
        (let all = ap length parts ∙ length-append done rest in
        let more = length-append rest (plain Nop ∷ []) in
        let ends = ap (λ (e : End). length (end_items e)) is in
        omega (arith, all, more, ends))
        (subst (AllByRecursion IsStraight) (sym (map-append op_of rest (plain Nop ∷ [])))
        (holds_of_both IsStraight (map op_of rest) (no_operation ∷ []) straight (nop_is_straight, tt)))
        (ap (λ (ops : List Op). all_moved ops before) (map-append op_of rest (plain Nop ∷ []))
        ∙ all_moved_then (map op_of rest) (no_operation ∷ []) before middle (next_with middle middle.stack) moved refl) refl refl
