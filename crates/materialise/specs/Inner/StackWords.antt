-- Entries of the operand stack as the code keeps them.
use Rattle.std.specs.Prelude.{◌≡◌, ℕ, List, [], ◌∷◌, ◌++◌, map, reverse}
use Rattle.std.specs.List.{filter, flat_map}
use Rattle.flow_code.specs.FlatCode.{FlatCode, point_at}
use Rattle.making_code.specs.Items.{WInstr}
use Rattle.making_code.specs.MakeCode.{Entry, copy_locals_from, copy_object, from_lowest, is_plain, load_entry, local_slots_in, save}
use Rattle.making_code.specs.Units.{scratch}
use Rattle.materialise.specs.Inner.UnitWords.{kept_unit}
use Rattle.materialise.specs.declared.stack.Restacked.{Restacked}
use Rattle.materialise.specs.declared.stack.StackEntry.{StackEntry}
use Rattle.virtual_state.specs.States.{State}

abbrev pub entry_meant : StackEntry → Entry
entry_meant entry =
    record { place = entry.place; below = entry.below; kind = entry.kind; slot = entry.slot }

abbrev pub place_and_unit : FlatCode → StackEntry → Restacked
place_and_unit flat entry =
    record { place = entry.place; unit = kept_unit flat (scratch entry.below) }

-- the plain ones of entries are saved, the topmost first
abbrev pub saving : List StackEntry → List WInstr
saving entries =
    map (λ entry. save (entry_meant entry)) (reverse (filter (λ entry. is_plain entry.slot) entries))

-- what make code does once the objects of a set are made
abbrev pub copying : FlatCode → ℕ → State → List ℕ → List StackEntry → List WInstr
copying flat at state sites entries =
    copy_locals_from sites 0 (local_slots_in (point_at flat at) state)
    ++ flat_map (copy_object sites) state.objects
    ++ flat_map (λ entry. load_entry sites (entry_meant entry)) entries

-- what is gathered, and what is left, make all
abbrev pub Gathers : List ℕ → List StackEntry → List Entry → List Entry → Type 0
Gathers sites [] rest all = from_lowest sites rest ≡ all
Gathers sites (entry ∷ done) rest all = map entry_meant (entry ∷ done) ++ rest ≡ all
