-- News that are written as they are stand at items of their own, which are news of the same classes.
use Rattle.std.proofs.Common.{◌≡◌, ◌⊎◌, ◌+◌, ◌<◌, ◌≤◌, ◌++◌, ℕ, zero, suc, false, List, [], ◌∷◌, drop, length, slice_get, take, Option, Some, None, refl, sym, ap, subst, ◌∙◌, inl, inr, arith}
use Rattle.std.specs.List.{AllByRecursion, flat_map}
use Rattle.std.proofs.lemmas.Bool.{eq-eqb}
use Rattle.std.proofs.lemmas.List.{append_assoc, length-append}
use Rattle.std.proofs.lemmas.Option.{none-some, same_Some}
use Rattle.class_model.specs.declared.instr.Instr.TheVariants.{New}
use Rattle.flow_code.specs.FlatCode.{FlatCode, point_at}
use Rattle.flow_code.specs.ReadTypes.{class_of_site}
use Rattle.flow_code.specs.declared.point.FlatInstr.TheVariants.{Of}
use Rattle.flow_code.specs.declared.point.Point.{Point}
use Rattle.making_code.specs.Items.{WItem, carried}
use Rattle.plan_flow.specs.Laws.WrittenBlocks.{IsFirstOf, block_finished, blocks_left, before_blocks, behind_own, first_item, first_of, holds_of_both, own_number, own_of, split_own, starts_at, take_left}
use Rattle.plan_flow.specs.PlanScope.{PlanScope, site_at}
use Rattle.plan_flow.specs.Written.Blocks.{Block, BlockOf, before_point, blocks_of, handler_pad, instruction_block, jump_pad, make_block, of_point, on_next_edge}
use Rattle.plan_flow.specs.Written.Finish.{Finished, begins_point, end_items, end_of, finish}
use Rattle.plan_flow.specs.Written.FramedCode.{is_of_point}
use Rattle.plan_flow.specs.Written.Routes.{Route, Routes}
use Rattle.plan_flow.specs.Written.Templates.{catches_at}
use Rattle.plan_flow.specs.Written.WrittenCode.{Form, block_items, in_form, short, wide, widened, written_items}
use Rattle.written_types.proofs.ChangedTypes.{new_item}
use Rattle.written_types.proofs.Given.{Given}
use Rattle.written_types.proofs.MemberRows.{site_of_point}
use Rattle.written_types.specs.Writing.{Writing}

-- ---- blocks before one

finished_all : (P : BlockOf → Type 0) (flat : FlatCode) (blocks : List Block) (number : ℕ)
    → AllByRecursion (λ (block : Block). P block.of) (take number blocks)
    → AllByRecursion (λ (one : Finished). P one.block.of) (take number (finish flat blocks))
finished_all P flat blocks zero all = tt
finished_all P flat [] (suc number) all = tt
finished_all P flat (block ∷ blocks) (suc number) all = (all.0, finished_all P flat blocks number all.1)

not_of_point : (to : ℕ) (of : BlockOf) → begins_point to of ≡ false → is_of_point to of ≡ false
not_of_point to (of_point at) none = none
not_of_point to (before_point at) none = refl
not_of_point to (on_next_edge at) none = refl
not_of_point to (jump_pad at number) none = refl
not_of_point to (handler_pad at number) none = refl

all_not : (to : ℕ) (blocks : List Block) → AllByRecursion (λ (block : Block). begins_point to block.of ≡ false) blocks
    → AllByRecursion (λ (block : Block). is_of_point to block.of ≡ false) blocks
all_not to [] all = tt
all_not to (block ∷ blocks) all = (not_of_point to block.of all.0, all_not to blocks all.1)

module _ (s : PlanScope) (routes : Routes) (at : ℕ) (point : Point) (route : Route) (there : slice_get s.flat.points at ≡ Some point)
    (is_route : slice_get routes at ≡ Some (Some route)) where
  left_none : AllByRecursion (λ (block : Block). is_of_point at block.of ≡ false) (blocks_left s routes at)
  left_none =
      let first : IsFirstOf s routes at point route (length (blocks_left s routes at)) = first_of s routes at point route there is_route in
      all_not at (blocks_left s routes at)
      (subst (AllByRecursion (λ (block : Block). begins_point at block.of ≡ false))
      (ap (take (length (blocks_left s routes at)))
      (split_own s routes at point route there is_route
      ∙ append_assoc (blocks_left s routes at) (before_blocks s at route) (instruction_block s at point route ∷ behind_own s routes at route))
      ∙ take_left (blocks_left s routes at) (before_blocks s at route ++ (instruction_block s at point route ∷ behind_own s routes at route)))
      first.none_before)

  before_none : AllByRecursion (λ (block : Block). is_of_point at block.of ≡ false) (before_blocks s at route)
  before_none = by route.made where
    by : (made : List ℕ)
        → AllByRecursion (λ (block : Block). is_of_point at block.of ≡ false) (make_block s (before_point at) at route.state made route.order None)
    by [] = tt
    by (site ∷ sites) = (refl, tt)

  none_before : AllByRecursion (λ (block : Block). is_of_point at block.of ≡ false) (take (own_number s routes at route) (blocks_of s routes))
  none_before =
      subst (AllByRecursion (λ (block : Block). is_of_point at block.of ≡ false))
      (sym (ap (take (own_number s routes at route)) (split_own s routes at point route there is_route)
      ∙ take_left (blocks_left s routes at ++ before_blocks s at route) (instruction_block s at point route ∷ behind_own s routes at route)))
      (holds_of_both (λ (block : Block). is_of_point at block.of ≡ false) (blocks_left s routes at) (before_blocks s at route) left_none before_none)

-- ---- the block of a point

-- The finished block of a reached point's instruction, by its number: there begins what the point writes.
pub record OwnBlock (w : Writing) (at : ℕ) (point : Point) (route : Route) : Type 0 where
  pub number : ℕ
  pub one : Finished
  pub is : slice_get w.blocks number ≡ Some one
  pub is_block : one.block ≡ instruction_block w.s at point route
  pub starts : new_item w at ≡ first_item w.form w.blocks number

pub own_block : (w : Writing) (given : Given w) (at : ℕ) (point : Point) (route : Route) → point_at w.s.flat at ≡ Some point
    → slice_get given.setting.routes at ≡ Some (Some route)
    → OwnBlock w at point route
own_block w given at point route there is_route = record {
  number = k;
  one = one;
  is = one_is;
  is_block = refl;
  starts =
      let same : 0 + first_item w.form w.blocks k ≡ first_item w.form w.blocks k = omega arith in
      starts_at w.form (is_of_point at) w.blocks 0 k one one_is (eq-eqb at at refl) none ∙ same;
} where
  k : ℕ
  k = own_number w.s given.setting.routes at route

  one : Finished
  one = record {
    block = instruction_block w.s at point route;
    end = end_of w.s.flat (instruction_block w.s at point route) (finish w.s.flat (drop (suc k) (blocks_of w.s given.setting.routes)));
  }

  one_is : slice_get w.blocks k ≡ Some one
  one_is =
      ap (λ (blocks : List Finished). slice_get blocks k) given.setting.blocks
      ∙ block_finished w.s.flat (blocks_of w.s given.setting.routes) k (instruction_block w.s at point route)
      (own_of w.s given.setting.routes at point route there is_route)

  none : AllByRecursion (λ (other : Finished). is_of_point at other.block.of ≡ false) (take k w.blocks)
  none =
      subst (λ (blocks : List Finished). AllByRecursion (λ (other : Finished). is_of_point at other.block.of ≡ false) (take k blocks))
      (sym given.setting.blocks)
      (finished_all (λ of. is_of_point at of ≡ false) w.s.flat (blocks_of w.s given.setting.routes) k
      (none_before w.s given.setting.routes at point route there is_route))

-- by which number it stands
pub own_place : (w : Writing) (given : Given w) (at : ℕ) (point : Point) (route : Route) (there : point_at w.s.flat at ≡ Some point)
    (is_route : slice_get given.setting.routes at ≡ Some (Some route))
    → (own_block w given at point route there is_route).number ≡ own_number w.s given.setting.routes at route
unfolding own_block
own_place w given at point route there is_route = refl

-- ---- blocks with items begin apart

-- a later block begins behind the items of an earlier one
pub below : (form : Form) (blocks : List Finished) (number later : ℕ) (one : Finished) → slice_get blocks number ≡ Some one → number < later
    → first_item form blocks number + length (block_items form one) ≤ first_item form blocks later
below form [] number later one is less = absurd (none-some one is)
below form (first ∷ blocks) zero zero one is less = absurd (omega (arith, less))
below form (first ∷ blocks) zero (suc later) one is less =
    let head = length-append (block_items form first) (written_items form (take later blocks)) in
    let same : length (block_items form first) ≡ length (block_items form one) = ap (λ (x : Finished). length (block_items form x)) (same_Some first one is) in
    omega (arith, head, same)
below form (first ∷ blocks) (suc number) zero one is less = absurd (omega (arith, less))
below form (first ∷ blocks) (suc number) (suc later) one is less =
    let head = length-append (block_items form first) (written_items form (take number blocks)) in
    let also = length-append (block_items form first) (written_items form (take later blocks)) in
    let rest = below form blocks number later one is (omega (arith, less)) in
    omega (arith, head, also, rest)

pub compare : (one other : ℕ) → (one ≡ other) ⊎ ((one < other) ⊎ (other < one))
compare zero zero = inl refl
compare zero (suc other) = inr (inl (omega arith))
compare (suc one) zero = inr (inr (omega arith))
compare (suc one) (suc other) = by (compare one other) where
  by : (one ≡ other) ⊎ ((one < other) ⊎ (other < one)) → (suc one ≡ suc other) ⊎ ((suc one < suc other) ⊎ (suc other < suc one))
  by (inl same) = inl (ap suc same)
  by (inr (inl less)) = inr (inl (omega (arith, less)))
  by (inr (inr more)) = inr (inr (omega (arith, more)))

-- ---- what a new is written as

no_site : (flat : FlatCode) (at : ℕ) → class_of_site flat.sites at ≡ None → site_at flat at ≡ None
no_site flat at none = by (site_at flat at) refl where
  by : (found : Option ℕ) → site_at flat at ≡ found → site_at flat at ≡ None
  by None is = is
  by (Some number) is = absurd (none-some _ (sym none ∙ (site_of_point flat.sites at number is).class))

-- The block of a new begins with it.
pub record NewBlock (w : Writing) (at : ℕ) (point : Point) (route : Route) (class index : ℕ) : Type 0 where
  pub own : OwnBlock w at point route
  pub short_items : own.one.block.items ≡ record { instr = carried class (New index); targets = []; catches = catches_at at point route } ∷ []
  pub more : List WItem
  pub items : block_items w.form own.one ≡ record { instr = carried class (New index); targets = []; catches = catches_at at point route } ∷ more

abbrev pub new_of : ℕ → Point → Route → ℕ → ℕ → WItem
new_of at point route class index = record { instr = carried class (New index); targets = []; catches = catches_at at point route }

in_forms : (form : Form) (one : WItem) (class index : ℕ) (behind : List WItem) → one.instr ≡ carried class (New index)
    → (more : List WItem) × (in_form form (one ∷ behind) ≡ one ∷ more)
in_forms short one class index behind is = (behind, refl)
in_forms wide one class index behind is = (flat_map widened behind, rw is refl)

pub new_block : (w : Writing) (given : Given w) (at : ℕ) (point : Point) (route : Route) (class index : ℕ) → point_at w.s.flat at ≡ Some point
    → slice_get given.setting.routes at ≡ Some (Some route)
    → point.instr ≡ Of class (New index)
    → class_of_site w.s.flat.sites at ≡ None
    → NewBlock w at point route class index
new_block w given at point route class index there is_route is_new none =
    record { own = own; short_items = items_are; more = forms.0; items = ap (λ (items : List WItem). in_form w.form (items ++ end_items own.one.end)) items_are ∙ forms.1 } where
      own : OwnBlock w at point route
      own = own_block w given at point route there is_route

      items_are : own.one.block.items ≡ new_of at point route class index ∷ []
      items_are = ap (λ (block : Block). block.items) own.is_block ∙ rw (is_new, no_site w.s.flat at none) refl

      forms : (more : List WItem) × (in_form w.form (new_of at point route class index ∷ end_items own.one.end) ≡ new_of at point route class index ∷ more)
      forms = in_forms w.form (new_of at point route class index) class index (end_items own.one.end) refl
