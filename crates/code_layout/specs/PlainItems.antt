-- Code that was emitted, as plain items. It is this project's profile.
use Rattle.std.specs.Prelude.{List, map}
use Rattle.code_layout.specs.declared.emitted.EmitItem.{EmitItem}
use Rattle.making_code.specs.IndexedItems.{IndexedItem}

abbrev pub plain_item : EmitItem → IndexedItem
plain_item item = record {
  instr = item.instr;
  near = item.near;
  catches = map (λ catch. (catch.to, catch.catch_type)) item.catches;
}

abbrev pub plain_items : List EmitItem → List IndexedItem
plain_items items = map plain_item items
