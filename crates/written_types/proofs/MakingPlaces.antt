-- Where the items of make code stand, and what is asked of the constants that they name.
use Rattle.std.proofs.Common.{◌≡◌, ◌≢◌, ◌+◌, ◌<◌, ◌≤◌, ℕ, zero, List, [], ◌∷◌, ◌++◌, length, slice_get, Option, Some, None, option_and_then, refl, sym, ap, subst, ◌∙◌, arith}
use Rattle.std.specs.List.{AllByRecursion}
use Rattle.std.proofs.lemmas.List.{append_assoc, length-append}
use Rattle.class_model.specs.Descriptors.{parameters_of}
use Rattle.class_model.specs.Names.{init}
use Rattle.class_model.specs.Pool.{constant_at}
use Rattle.class_model.specs.PoolChecks.{class_at}
use Rattle.class_model.specs.declared.descriptor.FieldType.TheVariants as field_types
use Rattle.class_model.specs.declared.frame.VType.{VType}
use Rattle.class_model.specs.declared.frame.VType.TheVariants as types
use Rattle.class_model.specs.declared.instr.Instr.{Instr}
use Rattle.class_model.specs.declared.instr.Instr.TheVariants.{New}
use Rattle.class_tree.specs.Headers.{Name}
use Rattle.flow_code.specs.declared.point.Site.{Site}
use Rattle.making_code.specs.Constants.{constructor_needs, index_in, needs_class}
use Rattle.making_code.specs.IndexedItems.{IndexedItem}
use Rattle.making_code.specs.IndexedMaking.{index_of_last}
use Rattle.making_code.specs.Items.{WInstr, WItem, constructs, item, makes}
use Rattle.member_link.specs.DeclaredMembers.{own_method}
use Rattle.member_link.specs.Machine.Replaced.{map_numbered}
use Rattle.member_link.specs.Signatures.{reference_of, result_of}
use Rattle.plan_flow.specs.Written.WrittenConstants.{indexed_item}
use Rattle.written_types.proofs.ItemPlaces.{StandsAt, numbered_behind}
use Rattle.written_types.proofs.MakingCalls.{constructor_of}
use Rattle.written_types.specs.Writing.{Writing, items_in, scope_in}

-- ---- constants of make code

-- the parameters of a site's constructor are the fields of its objects, and an array; and no class has it yet
pub record TakesFields (w : Writing) (one : Site) : Type 0 where
  pub array : Name
  pub parameters : parameters_of (w.constructor one.class) ≡ one.fields ++ (field_types.Named array ∷ [])
  pub no_result : result_of (w.constructor one.class) ≡ None
  pub free : own_method w.host.headers one.class init (w.constructor one.class) ≡ None

-- The constants that items of make code name are there, and constructors have their descriptors.
pub record MakeConstants (w : Writing) : Type 0 where
  pub class : (number : ℕ) (name : Name)
      → StandsAt w number (item (makes name))
      → class_at w.pool (index_in w.pool (needs_class name)) ≡ Some name
  pub constructor : (number : ℕ) (name : Name)
      → StandsAt w number (item (constructs name))
      → reference_of w.pool (constant_at w.pool (index_of_last w.pool (constructor_needs name (w.constructor name)))) ≡ Some (constructor_of w name)
  pub parameters : (number : ℕ) (one : Site) → slice_get w.s.flat.sites number ≡ Some one → TakesFields w one

-- the class of a new, by its number
pub new_class_there : (w : Writing) (number : ℕ) (class : Name)
    → MakeConstants w
    → StandsAt w number (item (makes class))
    → (scope_in w).new_class number ≡ Some class
new_class_there w number class constants at =
    ap (λ (found : Option IndexedItem). option_and_then (λ (one : IndexedItem). of_instr one.instr) found) there
    ∙ constants.class number class at where
      of_instr : Instr → Option Name
      of_instr (New index) = class_at w.pool index
      of_instr other = None

      change : ℕ → WItem → IndexedItem
      change = indexed_item w.s w.constructor w.pool w.form w.blocks

      there : slice_get (items_in w) number ≡ Some (change number (item (makes class)))
      there =
          ap (λ (all : List WItem). slice_get (map_numbered change zero all) number) at.is
          ∙ ap (slice_get (map_numbered change zero (at.left ++ (item (makes class) ∷ at.right)))) at.number_is
          ∙ numbered_behind change zero at.left at.right (item (makes class))
          ∙ ap (λ (n : ℕ). Some (change n (item (makes class))))
          (let is = at.number_is in the_same (zero + length at.left) number (omega (arith, is)))
        where
          the_same : (a b : ℕ) → a ≡ b → a ≡ b
          the_same a b e = e

-- ---- places

-- instructions stand at items from a number on, in a range of items
pub record PlacedFrom (w : Writing) (low high number : ℕ) (instrs : List WInstr) : Type 0 where
  pub each : (left right : List WInstr) (instr : WInstr) → instrs ≡ left ++ (instr ∷ right) → StandsAt w (number + length left) (item instr)
  pub from : low ≤ number
  pub to : number + length instrs ≤ high

pub first_placed : (w : Writing) (low high number : ℕ) (first rest : List WInstr)
    → PlacedFrom w low high number (first ++ rest)
    → PlacedFrom w low high number first
first_placed w low high number first rest placed = record {
  each = λ left right instr is.
      placed.each left (right ++ rest) instr
      (ap (λ (all : List WInstr). all ++ rest) is ∙ append_assoc left (instr ∷ right) rest);
  from = placed.from;
  to = let all = placed.to in let long = length-append first rest in omega (arith, all, long);
}

pub rest_placed : (w : Writing) (low high number : ℕ) (first rest : List WInstr)
    → PlacedFrom w low high number (first ++ rest)
    → PlacedFrom w low high (number + length first) rest
rest_placed w low high number first rest placed = record {
  each = λ left right instr is.
      subst (λ (n : ℕ). StandsAt w n (item instr))
      (let long = length-append first left in the_same (number + length (first ++ left)) (number + length first + length left) (omega (arith, long)))
      (placed.each (first ++ left) right instr
      (ap (λ (all : List WInstr). first ++ all) is ∙ sym (append_assoc first left (instr ∷ right))));
  from = let low_one = placed.from in omega (arith, low_one);
  to = let all = placed.to in let long = length-append first rest in omega (arith, all, long);
} where
  the_same : (a b : ℕ) → a ≡ b → a ≡ b
  the_same a b e = e

-- the first of them
pub one_placed : (w : Writing) (low high number : ℕ) (instr : WInstr) (rest : List WInstr)
    → PlacedFrom w low high number (instr ∷ rest)
    → StandsAt w number (item instr)
one_placed w low high number instr rest placed =
    subst (λ (n : ℕ). StandsAt w n (item instr)) (the_same (number + 0) number (omega arith)) (placed.each [] rest instr refl) where
      the_same : (a b : ℕ) → a ≡ b → a ≡ b
      the_same a b e = e

-- no object of the range is among types
abbrev pub NoneOf : ℕ → ℕ → List VType → Type 0
NoneOf low high all = (number : ℕ) → low ≤ number → number < high → AllByRecursion (λ type. type ≢ types.Uninit number) all
