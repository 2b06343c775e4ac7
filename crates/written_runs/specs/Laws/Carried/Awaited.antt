-- A planned frame that waits below others: where something thrown reaches it, it lands in a handler in both, and behind a result it arrives at the
-- block behind its instruction.
use Rattle.std.proofs.Common.{◌≡◌, ◌+◌, ◌-◌, ◌++◌, ◌&&◌, nat_le, ℕ, suc, Bool, true, false, List, [], ◌∷◌, filter, length, reverse, take, refl, sym, ap, subst, ◌∙◌, arith}
use Rattle.std.proofs.lemmas.List.{length-reverse, reverse-append, reverse-reverse, take_all}
use Rattle.machine_values.specs.Frames.{MethodState}
use Rattle.machine_values.specs.Heaps.{Heap}
use Rattle.machine_values.specs.declared.frame.RunFrame.{RunFrame}
use Rattle.machine_values.specs.declared.frame.RunFrame.TheVariants.{Method}
use Rattle.machine_values.specs.declared.value.Value.{Value}
use Rattle.member_link.specs.Machine.Performing.{resumed}
use Rattle.member_link.specs.Machine.Programs.{Catch}
use Rattle.plan_flow.specs.Laws.WrittenBlocks.{first_item, own_number}
use Rattle.plan_flow.specs.Must.{row_of_point}
use Rattle.plan_flow.specs.PlanScope.{PlanScope}
use Rattle.plan_flow.specs.Written.Blocks.{state_written}
use Rattle.plan_flow.specs.declared.edge.EdgeKind.TheVariants as edges
use Rattle.same_runs.specs.Laws.Names.{names_themselves}
use Rattle.same_runs.specs.Renamings.{Names, SameValues}
use Rattle.same_runs.specs.SameFrames.{SameCatches, and_catch, catches_at, no_catches}
use Rattle.written_runs.specs.Inner.PlannedFrames.{KeepStack, Known, blocks_in, scope_in}
use Rattle.written_runs.specs.Inner.Setup.{Setup, first, second}
use Rattle.written_runs.specs.Inner.Standing.{Stands, is_awaited}
use Rattle.written_runs.specs.Inner.Waiting.{Awaits, IsNoJump, ThrowsThere, WaitsThere}
use Rattle.written_runs.specs.Laws.Carried.Behind.{MovesAlong}
use Rattle.written_runs.specs.Laws.Carried.EdgeBlocks.{EdgeBlock, next_block_at}
use Rattle.written_runs.specs.Laws.Carried.Knowing.{CarriedFacts}
use Rattle.written_runs.specs.Laws.Carried.Landing.{carried_catches, goes_along, own_there, usable_along}
use Rattle.written_runs.specs.Laws.Carried.Operands.{keep_fewer}
use Rattle.written_runs.specs.Laws.Carried.PlannedEdges.{EdgeThere, next_there}
use Rattle.written_runs.specs.Laws.Carried.Points.{next_place}
use Rattle.written_runs.specs.Laws.Carried.Standing.{AtOwn}
use Rattle.written_runs.specs.Laws.Carried.Waiting.{AtCarried, WaitsCarried, at_waiting, instruction_of}
use Rattle.written_runs.specs.Laws.FewerVirtuals.{AllOwned, AreFewer, GoesFewer, same_under, under, under_owned}
use Rattle.written_runs.specs.Laws.OwnFrames.{WaitsPlanned}
use Rattle.written_runs.specs.Laws.Settling.{SettleLaws}
use Rattle.written_runs.specs.Laws.StandingMore.{SameOfFrame, keeps_more, stands_more, tells_same}
use Rattle.written_runs.specs.VirtualObjects.{Virtuals, stack_slots}

-- ---- fewer of fewer

filter_twice : {A : Type 0} (one other : A → Bool) (items : List A) → filter other (filter one items) ≡ filter (λ item. one item && other item) items
filter_twice one other [] = refl
filter_twice {A = A} one other (item ∷ items) = by (one item) refl (other item) refl (filter_twice one other items) where
  by : (first : Bool) → one item ≡ first → (second : Bool) → other item ≡ second
      → filter other (filter one items) ≡ filter (λ it. one it && other it) items
      → filter other (filter one (item ∷ items)) ≡ filter (λ it. one it && other it) (item ∷ items)
  by false is second is_also rest = rw (is) rest
  by true is false is_also rest = rw (is, is_also) rest
  by true is true is_also rest = rw (is, is_also) (ap (λ (all : List A). item ∷ all) rest)

fewer_of_fewer : {virtuals middle left : Virtuals} → AreFewer virtuals middle → AreFewer middle left → AreFewer virtuals left
fewer_of_fewer {virtuals = virtuals} first second = record {
  keeps = λ virtual. first.keeps virtual && second.keeps virtual;
  is = second.is ∙ ap (filter second.keeps) first.is ∙ filter_twice first.keeps second.keeps virtuals;
}

-- what goes together with some of the objects does so with all of them
pub goes_with_more : {u : Setup} {virtuals middle : Virtuals} {known : Known} {names : Names} {ones others : List RunFrame}
    → AreFewer virtuals middle
    → GoesFewer u middle known names ones others
    → GoesFewer u virtuals known names ones others
goes_with_more fewer goes = record { left = goes.left; fewer = fewer_of_fewer fewer goes.fewer; top = goes.top; owned = goes.owned }

catches_with_more : {u : Setup} {virtuals middle : Virtuals} {known : Known} {names : Names} {f g : MethodState} {ones others : List RunFrame}
    {catches also : List Catch}
    → AreFewer virtuals middle
    → SameCatches (GoesFewer u middle known) names f g ones others catches also
    → SameCatches (GoesFewer u virtuals known) names f g ones others catches also
catches_with_more fewer no_catches = no_catches
catches_with_more fewer (and_catch {class = class} {to = to} {to_also = to_also} lands rest) =
    and_catch {class = class} {to = to} {to_also = to_also}
    (λ more reference named grows name. goes_with_more fewer (lands more reference named grows name)) (catches_with_more fewer rest)

-- ---- the frame that waits

-- with the objects of its frame alone
abbrev carried_with : {u : Setup} {virtuals others : Virtuals} {known : Known} {names : Names} {frame : ℕ} {f g : MethodState}
    → SameOfFrame virtuals others frame
    → AtCarried u virtuals known names frame f g
    → AtCarried u others known names frame f g
carried_with {names = names} {frame = frame} {f = f} {g = g} same c = record {
  w = c.w;
  is_written = c.is_written;
  at = c.at;
  held = c.held;
  point = c.point;
  route = c.route;
  block = c.block;
  here = c.here;
  of_instruction = c.of_instruction;
  met = c.met;
  carried = c.carried;
  tells = tells_same same c.point (state_written c.route) f c.tells;
  keeps = keeps_more same c.w.flat c.point (state_written c.route) f g (names_themselves names) c.keeps;
  own = λ number virtual is of_frame.
      let was = same.back virtual.site virtual (record { number = number; is_there = is; of_frame = of_frame; of_site = refl }) in
      c.own was.number virtual was.is_there of_frame;
}

module _ (u : Setup) (laws : CarriedFacts u) {virtuals : Virtuals} {known : Known} {names : Names} {heap : Heap} {f g : MethodState}
    {ones others : List RunFrame} (waits : WaitsPlanned u virtuals known names heap f g ones others) where
  abbrev height : ℕ
  height = suc (length ones)

  abbrev kept : Virtuals
  kept = under height virtuals

  abbrev waiting_there : WaitsCarried u virtuals known names (length ones) f g
  waiting_there = at_waiting waits.in_planned waits.waiting

  abbrev settle : SettleLaws u
  settle = laws.settle

  kept_owned : AllOwned u kept (Method f ∷ ones)
  kept_owned = under_owned waits.owned

  kept_below : Stands u kept known (is_awaited u g.at) names ones others
  kept_below =
      stands_more (λ frame low. same_under height virtuals frame (omega (arith, low))) (record { keeps = λ reference class is. is })
      (names_themselves names) waits.below

  abbrev c : AtCarried u kept known names (length ones) f g
  c = carried_with (same_under height virtuals (length ones) (omega arith)) waiting_there.c

  abbrev pub awaits : Awaits u c.w f c.point c.route c.carried.instr
  awaits = waiting_there.awaits

  abbrev s : PlanScope
  s = scope_in u c.w

  -- An object that is thrown lands in a handler of both, where the row of the instruction says that it throws.
  pub planned_catches : ThrowsThere s f.place c.point c.route
      → IsNoJump c.carried.instr
      → SameCatches (GoesFewer u virtuals known) names f g ones others (catches_at (first u) f) (catches_at (second u) g)
  planned_catches throws no_jump =
      catches_with_more (record { keeps = λ virtual. nat_le (suc virtual.frame) height; is = refl })
      (carried_catches u laws c kept_owned kept_below throws no_jump)

  -- Behind a result both go on to the next point.
  pub planned_resumes : (values also : List Value)
      → SameValues names values also
      → WaitsThere s f.place c.point (state_written c.route) (length f.stack)
      → IsNoJump c.carried.instr
      → GoesFewer u virtuals known names (Method (resumed f values) ∷ ones) (Method (resumed g also) ∷ others)
  planned_resumes values also are so no_jump =
      goes_with_more (record { keeps = λ virtual. nat_le (suc virtual.frame) height; is = refl })
      (goes_along u laws (instruction_of c) kept_owned kept_below edge so.taken so.given so.leaves (resumed f values)
      (resumed g also) moves refl refl refl refl refl block.0
      (ap (λ (n : ℕ). n + 1) own.place ∙ sym (next_place u c.w f.place c.point c.route c.of_instruction.reached c.carried no_jump) ∙ block.1)
      (names_themselves names) lower) where
        own : AtOwn u c.w f.place c.point c.route g
        own = own_there u laws (instruction_of c) kept_owned kept_below

        edge : EdgeThere s f.place c.point c.route (record { by = edges.Next; to = f.place + 1; guard = (row_of_point s f.place c.point).next })
        edge = next_there u settle c.w g.at c.is_written (laws.rows_fit g.at c.w c.is_written) c.of_instruction.reached so.falls so.opens

        left_count : ℕ
        left_count = length c.point.typed.stack - so.taken

        whole : take left_count (reverse f.stack) ≡ reverse f.stack
        whole =
            let many = so.many in
            let back = length-reverse f.stack in
            take_all left_count (reverse f.stack) (omega (arith, many, back))

        moves : MovesAlong s f.place c.point edge.target (state_written c.route)
            (record { by = edges.Next; to = f.place + 1; guard = (row_of_point s f.place c.point).next }) names so.taken so.given f g (resumed f values)
            (resumed g also)
        moves = record {
          long = ap length whole ∙ length-reverse f.stack ∙ so.many;
          locals = refl;
          locals_also = refl;
          ones = values;
          others = also;
          lower = reverse g.stack;
          same = are;
          stack =
              reverse-append (reverse values) f.stack
              ∙ ap (λ (xs : List Value). reverse f.stack ++ xs) (reverse-reverse values)
              ∙ ap (λ (xs : List Value). xs ++ values) (sym whole);
          stack_also =
              reverse-append (reverse also) g.stack
              ∙ ap (λ (xs : List Value). reverse g.stack ++ xs) (reverse-reverse also);
          usable = usable_along u laws (instruction_of c) kept_owned kept_below edge so.leaves.locals;
          uninit = edge.keeps;
          uninit_given = λ number type source value is kept_type site got. absurd (so.none_given number type source is kept_type);
        }

        block : (block : EdgeBlock u c.w (f.place + 1) edge.of_row.edge)
            × (first_item c.w.form (blocks_in u c.w) (suc (own_number s c.w.routes f.place c.route)) ≡ first_item c.w.form (blocks_in u c.w) block.number)
        block =
            next_block_at u settle (resumed f values) (ap u.written c.at ∙ c.is_written) edges.Next c.of_instruction.reached edge.of_row.found
            edge.of_row.is.to edge.is_target refl edge.of_row.is.by

        -- the entries that are left are kept by the slots below the operands
        lower : KeepStack names (take left_count (stack_slots c.point (state_written c.route))) (take left_count (reverse f.stack)) (reverse g.stack)
        lower =
            subst (λ (values : List Value). KeepStack names (take left_count (stack_slots c.point (state_written c.route))) values (reverse g.stack))
            (sym whole)
            (keep_fewer names left_count (stack_slots c.point (state_written c.route)) (reverse f.stack) (reverse g.stack)
            (let many = so.many in let back = length-reverse f.stack in omega (arith, many, back)) c.keeps.stack)
