-- The items at which uninitialised objects are named stand outside of each block that is not that of their new.
use Rattle.std.proofs.Common.{◌≡◌, ◌≢◌, ◌⊎◌, ◌+◌, ◌==◌, ◌<◌, ◌≤◌, ℕ, Bool, true, false, List, [], ◌∷◌, ◌++◌, length, Option, Some, None, refl, sym, ap, ◌∙◌, inl, inr, arith}
use Rattle.std.specs.List.{AllByRecursion, flat_map}
use Rattle.std.proofs.lemmas.Bool.{eqb-true, false≢true}
use Rattle.std.proofs.lemmas.List.{append_assoc, length-append}
use Rattle.std.proofs.lemmas.Option.{none-some, same_Some}
use Rattle.class_model.specs.declared.frame.VType.{VType}
use Rattle.class_model.specs.declared.frame.VType.TheVariants as types
use Rattle.class_model.specs.declared.instr.Instr.TheVariants.{New}
use Rattle.flow_code.specs.FlatCode.{point_at}
use Rattle.flow_code.specs.ReadTypes.{class_of_site, read_type}
use Rattle.flow_code.specs.declared.point.FlatInstr.TheVariants.{Of}
use Rattle.flow_code.specs.declared.point.Point.{Point}
use Rattle.flow_code.specs.declared.point.Site.{Site}
use Rattle.making_code.specs.Items.{WItem}
use Rattle.member_link.specs.Machine.Programs.{number_of_first}
use Rattle.plan_flow.specs.Written.Blocks.{Block, BlockOf, before_point, handler_pad, instruction_block, jump_pad, of_point, on_next_edge}
use Rattle.plan_flow.specs.Written.Finish.{Finished, end_items, is_empty}
use Rattle.plan_flow.specs.Written.FramedCode.{is_of_point, type_by_item}
use Rattle.plan_flow.specs.Written.Routes.{Route}
use Rattle.plan_flow.specs.Written.Templates.{as_it_is}
use Rattle.plan_flow.specs.Written.WrittenCode.{Form, block_items, short, start_from, start_of, wide, widened, written_items}
use Rattle.written_types.proofs.BlockKinds.{BlockKind, IsPad, kind_of_block, makes_before_point, makes_on_next, of_instruction, of_pad}
use Rattle.written_types.proofs.EdgeTargets.{edges_fit}
use Rattle.written_types.proofs.Given.{Given, IsOfNoNew}
use Rattle.written_types.proofs.Placing.{items_and_end}
use Rattle.written_types.specs.FitsTypes.{HasItsNew, IsReachedNew}
use Rattle.written_types.specs.Writing.{Writing}

-- ---- starts

start_above : (form : Form) (is_it : BlockOf → Bool) (number : ℕ) (blocks : List Finished) → number ≤ start_from form is_it number blocks
start_above form is_it number [] = omega arith
start_above form is_it number (one ∷ blocks) = by (is_it one.block.of) refl (start_above form is_it (number + length (block_items form one)) blocks) where
  by : (b : Bool) → is_it one.block.of ≡ b
      → number + length (block_items form one) ≤ start_from form is_it (number + length (block_items form one)) blocks
      → number ≤ start_from form is_it number (one ∷ blocks)
  by true is rest = rw (is) (omega arith)
  by false is rest = rw (is) (omega (arith, rest))

some_long : (items : List WItem) → is_empty items ≡ false → 0 < length items
some_long [] is = absurd (false≢true (sym is))
some_long (one ∷ items) is = omega arith

-- the first block of a kind begins before a block that is none, or behind it
pub start_outside : (form : Form) (is_it : BlockOf → Bool) (number : ℕ) (front behind : List Finished) (one : Finished)
    → AllByRecursion (λ (block : Finished). is_it block.block.of ≡ true → is_empty (block_items form block) ≡ false) front
    → is_it one.block.of ≡ false
    → (start_from form is_it number (front ++ (one ∷ behind)) < number + length (written_items form front))
    ⊎ (number + length (written_items form front) + length (block_items form one) ≤ start_from form is_it number (front ++ (one ∷ behind)))
start_outside form is_it number [] behind one some other =
    let above = start_above form is_it (number + length (block_items form one)) behind in
    inr (rw (other) (omega (arith, above)))
start_outside form is_it number (first ∷ front) behind one some other =
    by (is_it first.block.of) refl (start_outside form is_it (number + length (block_items form first)) front behind one some.1 other) where
      long : length (written_items form (first ∷ front)) ≡ length (block_items form first) + length (written_items form front)
      long = length-append (block_items form first) (written_items form front)

      by : (b : Bool) → is_it first.block.of ≡ b
          → (start_from form is_it (number + length (block_items form first)) (front ++ (one ∷ behind))
          < number + length (block_items form first) + length (written_items form front))
          ⊎ (number + length (block_items form first) + length (written_items form front) + length (block_items form one)
          ≤ start_from form is_it (number + length (block_items form first)) (front ++ (one ∷ behind)))
          → (start_from form is_it number ((first ∷ front) ++ (one ∷ behind)) < number + length (written_items form (first ∷ front)))
          ⊎ (number + length (written_items form (first ∷ front)) + length (block_items form one)
          ≤ start_from form is_it number ((first ∷ front) ++ (one ∷ behind)))
      by true is rest =
          let items = some_long (block_items form first) (some.0 is) in
          inl (rw (is) (omega (arith, items, long)))
      by false is (inl less) = inl (rw (is) (omega (arith, less, long)))
      by false is (inr more) = inr (rw (is) (omega (arith, more, long)))

-- ---- the block of a new

-- a new that stands at no candidate site
no_site : (sites : List Site) (at : ℕ) → class_of_site sites at ≡ None → number_of_first (λ (site : Site). site.at == at) sites ≡ None
no_site [] at is = refl
no_site (one ∷ sites) at is = by (one.at == at) refl (no_site sites at) where
  by : (b : Bool) → (one.at == at) ≡ b
      → (class_of_site sites at ≡ None → number_of_first (λ (site : Site). site.at == at) sites ≡ None)
      → number_of_first (λ (site : Site). site.at == at) (one ∷ sites) ≡ None
  by true here rest = absurd (none-some one.class (sym is ∙ rw (here) refl))
  by false here rest =
      let none = rest (sym (rw (here) refl) ∙ is) in
      rw (here, none) refl

module _ (w : Writing) (given : Given w) where
  -- it writes an item
  new_writes : (at : ℕ) (point : Point) (route : Route) (class index : ℕ) (one : Finished)
      → point.instr ≡ Of class (New index)
      → class_of_site w.s.flat.sites at ≡ None
      → one.block ≡ instruction_block w.s at point route
      → is_empty (block_items w.form one) ≡ false
  new_writes at point route class index one is_new none is =
      by w.form items_are where
        items_are : one.block.items ≡ as_it_is at point route class (New index)
        items_are = ap (λ (b : Block). b.items) is ∙ rw (is_new, no_site w.s.flat.sites at none) refl

        by : (form : Form) → one.block.items ≡ as_it_is at point route class (New index) → is_empty (block_items form one) ≡ false
        by short same = ap is_empty (items_and_end short one ∙ ap (λ (items : List WItem). items ++ end_items one.end) same)
        by wide same =
            ap is_empty (items_and_end wide one ∙ ap (λ (items : List WItem). flat_map widened items ++ end_items one.end) same)

  -- the blocks of a reached new at no site write items
  kind_writes : (at class index : ℕ) (point : Point) (one : Finished) (behind : List Finished)
      → point_at w.s.flat at ≡ Some point
      → point.instr ≡ Of class (New index)
      → class_of_site w.s.flat.sites at ≡ None
      → BlockKind w given one behind
      → is_of_point at one.block.of ≡ true
      → is_empty (block_items w.form one) ≡ false
  kind_writes at class index point one behind there is_new none (makes_before_point number other route is_there is_route is next) of =
      absurd (false≢true (sym (ap (λ (b : Block). is_of_point at b.of) is) ∙ of))
  kind_writes at class index point one behind there is_new none (makes_on_next number n other route edge is_there is_route is_edge is next) of =
      absurd (false≢true (sym (ap (λ (b : Block). is_of_point at b.of) is) ∙ of))
  kind_writes at class index point one behind there is_new none (of_pad number n other route edge kind is_there is_route is_edge pad is rest) of =
      absurd (pad_none kind pad (sym (ap (λ (b : Block). is_of_point at b.of) is) ∙ of)) where
        pad_none : (kind : BlockOf) → IsPad kind → is_of_point at kind ≡ true → ⊥
        pad_none (jump_pad from n) pad e = absurd (false≢true e)
        pad_none (handler_pad from n) pad e = absurd (false≢true e)
        pad_none (before_point n) pad e = absurd pad
        pad_none (of_point n) pad e = absurd pad
        pad_none (on_next_edge n) pad e = absurd pad
  kind_writes at class index point one behind there is_new none (of_instruction number other route here behind_is) of =
      let same : number ≡ at = eqb-true number at (sym (ap (λ (b : Block). is_of_point at b.of) here.is_block) ∙ of) in
      let point_is : other ≡ point = same_Some other point (sym here.there ∙ ap (point_at w.s.flat) same ∙ there) in
      new_writes number other route class index one (ap (λ (p : Point). p.instr) point_is ∙ is_new)
      (ap (class_of_site w.s.flat.sites) same ∙ none) here.is_block

  -- each of the blocks before one that is that of such a new writes items
  all_write : (at class index : ℕ) (point : Point) (front before behind : List Finished)
      → w.blocks ≡ before ++ (front ++ behind)
      → point_at w.s.flat at ≡ Some point
      → point.instr ≡ Of class (New index)
      → class_of_site w.s.flat.sites at ≡ None
      → AllByRecursion (λ (block : Finished). is_of_point at block.block.of ≡ true → is_empty (block_items w.form block) ≡ false) front
  all_write at class index point [] before behind is there is_new none = tt
  all_write at class index point (first ∷ front) before behind is there is_new none = (
    kind_writes at class index point first (front ++ behind) there is_new none
        (kind_of_block w given (edges_fit w given) before (front ++ behind) first is),
    all_write at class index point front (before ++ (first ∷ [])) behind (is ∙ sym (append_assoc before (first ∷ []) (front ++ behind))) there
        is_new none,
  )

  -- where an uninitialised object is named is no item of a block that is none of a new
  pub named_outside : (reached : ℕ → Bool) (front behind : List Finished) (one : Finished) (at number : ℕ)
      → w.blocks ≡ front ++ (one ∷ behind)
      → IsOfNoNew w one
      → IsReachedNew w.s reached at
      → class_of_site w.s.flat.sites at ≡ None
      → length (written_items w.form front) ≤ number
      → number < length (written_items w.form front) + length (block_items w.form one)
      → start_of w.form w.blocks (is_of_point at) ≢ number
  named_outside reached front behind one at number is no_new new none low high same =
      by (is_of_point at one.block.of) refl where
        other_kind : (kind : BlockOf) → one.block.of ≡ kind → is_of_point at kind ≡ true → ⊥
        other_kind (of_point from) kind e =
            let here : from ≡ at = eqb-true from at e in
            no_new at new.class new.index new.point (kind ∙ ap of_point here) new.there new.is_new
        other_kind (jump_pad from n) kind e = absurd (false≢true e)
        other_kind (handler_pad from n) kind e = absurd (false≢true e)
        other_kind (before_point n) kind e = absurd (false≢true e)
        other_kind (on_next_edge n) kind e = absurd (false≢true e)

        by : (b : Bool) → is_of_point at one.block.of ≡ b → ⊥
        by true e = other_kind one.block.of refl e
        by false e =
            outside (start_outside w.form (is_of_point at) 0 front behind one
            (all_write at new.class new.index new.point front [] (one ∷ behind) is new.there new.is_new none) e) where
              start : start_from w.form (is_of_point at) 0 (front ++ (one ∷ behind)) ≡ number
              start = ap (start_from w.form (is_of_point at) 0) (sym is) ∙ same

              outside : (start_from w.form (is_of_point at) 0 (front ++ (one ∷ behind)) < 0 + length (written_items w.form front))
                  ⊎ (0 + length (written_items w.form front) + length (block_items w.form one)
                  ≤ start_from w.form (is_of_point at) 0 (front ++ (one ∷ behind)))
                  → ⊥
              outside (inl less) = absurd (omega (arith, less, start, low))
              outside (inr more) = absurd (omega (arith, more, start, high))

  -- ---- types of units

  -- a type as it is read, by item, is no object of the block
  pub type_apart : (reached : ℕ → Bool) (front behind : List Finished) (one : Finished) (number : ℕ) (type : VType)
      → w.blocks ≡ front ++ (one ∷ behind)
      → IsOfNoNew w one
      → HasItsNew w.s reached (read_type w.s.flat type)
      → length (written_items w.form front) ≤ number
      → number < length (written_items w.form front) + length (block_items w.form one)
      → type_by_item w.form w.blocks (read_type w.s.flat type) ≢ types.Uninit number
  type_apart reached front behind one number (types.Uninit at) is no_new new low high same = by (class_of_site w.s.flat.sites at) refl where
    by : (found : Option (List ℕ)) → class_of_site w.s.flat.sites at ≡ found → ⊥
    by (Some class) some =
        let e : types.Object class ≡ types.Uninit number = sym (rw (some) refl) ∙ same in absurd cc
    by None none =
        let e : types.Uninit (start_of w.form w.blocks (is_of_point at)) ≡ types.Uninit number = sym (rw (none) refl) ∙ same in
        let numbers : start_of w.form w.blocks (is_of_point at) ≡ number = cc in
        let here : IsReachedNew w.s reached at = rw none at new in
        named_outside reached front behind one at number is no_new here none low high numbers
  type_apart reached front behind one number types.Top is no_new new low high same = absurd cc
  type_apart reached front behind one number types.Int is no_new new low high same = absurd cc
  type_apart reached front behind one number types.Float is no_new new low high same = absurd cc
  type_apart reached front behind one number types.Long is no_new new low high same = absurd cc
  type_apart reached front behind one number types.Double is no_new new low high same = absurd cc
  type_apart reached front behind one number types.Null is no_new new low high same = absurd cc
  type_apart reached front behind one number types.UninitThis is no_new new low high same = absurd cc
  type_apart reached front behind one number (types.Object name) is no_new new low high same = absurd cc
