-- How many objects of sites written code makes, and how many monitors it enters. It is this project's profile.
use Rattle.std.specs.Prelude.{ℕ, Bool, true, false, count_by, List}
use Rattle.class_model.specs.declared.instr.Instr.{Instr}
use Rattle.class_model.specs.declared.instr.Instr.TheVariants.{Enter}
use Rattle.making_code.specs.IndexedItems.{IndexedItem}
use Rattle.making_code.specs.Items.{WInstr, WItem, carried, constructs, load, makes, plain, store}

-- an object of a site is made: a new of the flat code is none
abbrev pub makes_site : WInstr → Bool
makes_site (makes class) = true
makes_site (constructs class) = false
makes_site (carried class instr) = false
makes_site (plain instr) = false
makes_site (load kind unit) = false
makes_site (store kind unit) = false

-- a monitor is entered
abbrev pub is_enter : Instr → Bool
is_enter Enter = true
is_enter instr = false

-- the objects of sites that written items make
abbrev pub site_news : List WItem → ℕ
site_news items = count_by (λ one. makes_site one.instr) items

-- the monitorenters of items
abbrev pub enters_in : List IndexedItem → ℕ
enters_in items = count_by (λ one. is_enter one.instr) items
