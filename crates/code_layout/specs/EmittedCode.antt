-- Emitted code as points, in the constants of the class file that it is emitted into.
use Rattle.std.specs.Prelude.{◌≡◌, ℕ, zero, List, slice_get, Option, None, option_and_then}
use Rattle.std.specs.List.{flat_map}
use Rattle.class_model.specs.Pool.{Constants}
use Rattle.class_model.specs.PoolChecks.{class_at}
use Rattle.class_model.specs.declared.instr.Instr.{Instr}
use Rattle.class_model.specs.declared.instr.Instr.TheVariants.{New}
use Rattle.class_tree.specs.Headers.{Name}
use Rattle.member_link.specs.Bodies.{item_instr}
use Rattle.member_link.specs.Machine.Codes.{CodePoint, catch_by, method_code, run_code}
use Rattle.member_link.specs.Machine.Programs.{Catch, Code, Links}
use Rattle.member_link.specs.Machine.Replaced.{map_numbered}
use Rattle.member_link.specs.RowScope.{RowScope}
use Rattle.member_link.specs.Scope.{Scope, row_scope}
use Rattle.code_layout.specs.declared.emitted.Catch.{Catch as EmittedCatch}
use Rattle.code_layout.specs.declared.emitted.EmitItem.{EmitItem}
use Rattle.code_layout.specs.declared.laid.Laid.{Laid}

-- A handler of catch type 0 catches everything, and one whose catch type names no class nothing.
abbrev pub catch_of : Constants → EmittedCatch → List Catch
catch_of pool catch = catch_by pool catch.to catch.catch_type

-- an item stands at its number
abbrev pub item_point : RowScope → ℕ → EmitItem → CodePoint
item_point s number item = record {
  place = number;
  scope = s;
  item = item_instr item.instr;
  catches = flat_map (catch_of s.pool) item.catches;
}

abbrev pub item_points : RowScope → List EmitItem → List CodePoint
item_points s items = map_numbered (item_point s) zero items

-- the class of the new of a number, if a new stands there
abbrev pub class_of_new_item : Constants → List EmitItem → ℕ → Option Name
class_of_new_item pool items number =
    option_and_then (λ item. of_instr item.instr) (slice_get items number) where
      of_instr : Instr → Option Name
      of_instr (New index) = class_at pool index
      of_instr other = None

-- what instructions read that are the code of a method
abbrev pub items_scope : Scope → List EmitItem → RowScope
items_scope s items = record (row_scope s) { new_class = class_of_new_item s.class.pool items }

-- the code of a method, of which these are the instructions
abbrev pub items_code : Links → Scope → List EmitItem → Code
items_code links s items =
    run_code links s.part.max_locals (item_points (items_scope s items) items)

-- Whichever method of whichever class has these bytes and this exception table, its code is that of the items.
abbrev pub HasCodeOf : List EmitItem → Laid → Type 0
HasCodeOf items laid =
    (links : Links) (s : Scope)
    → s.part.code ≡ laid.code
    → s.part.handlers ≡ laid.handlers
    → method_code links s ≡ items_code links s items
