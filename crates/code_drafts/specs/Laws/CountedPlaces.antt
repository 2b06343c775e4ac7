-- The monitorenters of items are as many as those among what they make and enter, and the objects of sites as those where no new counts.
use Rattle.std.proofs.Common.{if◌then◌else◌, ◌≡◌, ◌+◌, ◌++◌, ℕ, Bool, List, [], ◌∷◌, Option, Some, None, refl, sym, ap, ◌∙◌}
use Rattle.std.proofs.lemmas.List.Sums.{sum_by-cons}
use Rattle.class_model.specs.Pool.{Constants}
use Rattle.class_model.specs.PoolChecks.{class_at}
use Rattle.class_model.specs.declared.instr.Instr.{Instr}
use Rattle.class_model.specs.declared.instr.Instr.TheVariants.{Nop, Const, Ldc, Ldc2, Load, Store, Iinc, ArrayLoad, ArrayStore, Shuffle, Pure, Divide, FloatAsk, If, If2, IfSame, IfNull, Goto, Table, Lookup, Return, GetStatic, PutStatic, GetField, PutField, Invoke, Dynamic, New, NewArray, NewRefArray, NewMulti, Length, Throw, Cast, InstanceOf, Enter, Leave}
use Rattle.class_tree.specs.Headers.{Name}
use Rattle.code_drafts.specs.ItemPlaces.{Naming, enters, enters_of, item_places, makes_one, new_of, objects_of, places_in, site_places_of}
use Rattle.making_code.specs.CountedItems.{enters_in, is_enter, makes_site, site_news}
use Rattle.code_drafts.specs.Laws.PlacedBlocks.{placed_by}
use Rattle.code_drafts.specs.Laws.ReachedStarts.{finished}
use Rattle.code_drafts.specs.Laws.WrittenPlaces.{carried_places, plain_places, winstr_places, witem_places}
use Rattle.making_code.specs.Items.{WCatch, WInstr, WItem, WTarget, carried, constructs, load, makes, plain, store}
use Rattle.plan_flow.specs.PlanScope.{PlanScope}
use Rattle.plan_flow.specs.Plans.{Plan}
use Rattle.plan_flow.specs.Written.Routes.{IsRouted, Routes}
use Rattle.plan_flow.specs.Written.WrittenCode.{short, written_items}
use Rattle.making_code.specs.IndexedItems.{IndexedItem}
use Rattle.plan_flow.specs.Written.Places.{Place, enters_monitor, makes_object}

instr_enters : (pool : Constants) (instr : Instr) (items : List IndexedItem) (places : List Place)
    → enters_in items ≡ enters_of places
    → (catches : List (ℕ × ℕ)) (near : Bool)
    → enters_in (record { instr = instr; near = near; catches = catches } ∷ items) ≡ enters_of (places_in pool instr ++ places)
instr_enters pool Nop items places same catches near = same
instr_enters pool (Const imm) items places same catches near = same
instr_enters pool (Ldc index) items places same catches near = same
instr_enters pool (Ldc2 index) items places same catches near = same
instr_enters pool (Load kind local) items places same catches near = same
instr_enters pool (Store kind local) items places same catches near = same
instr_enters pool (Iinc local by) items places same catches near = same
instr_enters pool (ArrayLoad opcode) items places same catches near = same
instr_enters pool (ArrayStore opcode) items places same catches near = same
instr_enters pool (Shuffle opcode) items places same catches near = same
instr_enters pool (Pure opcode) items places same catches near = same
instr_enters pool (Divide opcode) items places same catches near = same
instr_enters pool (FloatAsk opcode) items places same catches near = same
instr_enters pool (If opcode to) items places same catches near = same
instr_enters pool (If2 opcode to) items places same catches near = same
instr_enters pool (IfSame opcode to) items places same catches near = same
instr_enters pool (IfNull opcode to) items places same catches near = same
instr_enters pool (Goto to) items places same catches near = same
instr_enters pool (Table low other to) items places same catches near = same
instr_enters pool (Lookup other pairs) items places same catches near = same
instr_enters pool (Return kind) items places same catches near = same
instr_enters pool (GetStatic index) items places same catches near = same
instr_enters pool (PutStatic index) items places same catches near = same
instr_enters pool (GetField index) items places same catches near = same
instr_enters pool (PutField index) items places same catches near = same
instr_enters pool (Invoke opcode index count) items places same catches near = same
instr_enters pool (Dynamic index) items places same catches near = same
instr_enters pool (New index) items places same catches near = by (class_at pool index) where
  by : (name : Option Name) → enters_in items ≡ enters_of (new_of name ++ places)
  by None = same
  by (Some name) = same
instr_enters pool (NewArray code) items places same catches near = same
instr_enters pool (NewRefArray index) items places same catches near = same
instr_enters pool (NewMulti index dimensions) items places same catches near = same
instr_enters pool Length items places same catches near = same
instr_enters pool Throw items places same catches near = same
instr_enters pool (Cast index) items places same catches near = same
instr_enters pool (InstanceOf index) items places same catches near = same
instr_enters pool Enter items places same catches near =
    sum_by-cons (λ (one : IndexedItem). if is_enter one.instr then 1 else 0) (record { instr = Enter; near = near; catches = catches }) items
    ∙ ap (λ (n : ℕ). 1 + n) same
    ∙ sym (sum_by-cons (λ (place : Place). if enters place then 1 else 0) enters_monitor places)
instr_enters pool Leave items places same catches near = same

pub enters_counted : (pool : Constants) (items : List IndexedItem) → enters_in items ≡ enters_of (item_places pool items)
enters_counted pool [] = refl
enters_counted pool (one ∷ items) = instr_enters pool one.instr items (item_places pool items) (enters_counted pool items) one.catches one.near

-- ---- objects of sites

abbrev none_named : Naming
none_named class index = None

carried_none : (class : ℕ) (instr : Instr) (places : List Place) → objects_of (carried_places none_named class instr ++ places) ≡ objects_of places
carried_none class Nop places = refl
carried_none class (Const imm) places = refl
carried_none class (Ldc index) places = refl
carried_none class (Ldc2 index) places = refl
carried_none class (Load kind local) places = refl
carried_none class (Store kind local) places = refl
carried_none class (Iinc local by) places = refl
carried_none class (ArrayLoad opcode) places = refl
carried_none class (ArrayStore opcode) places = refl
carried_none class (Shuffle opcode) places = refl
carried_none class (Pure opcode) places = refl
carried_none class (Divide opcode) places = refl
carried_none class (FloatAsk opcode) places = refl
carried_none class (If opcode to) places = refl
carried_none class (If2 opcode to) places = refl
carried_none class (IfSame opcode to) places = refl
carried_none class (IfNull opcode to) places = refl
carried_none class (Goto to) places = refl
carried_none class (Table low other to) places = refl
carried_none class (Lookup other pairs) places = refl
carried_none class (Return kind) places = refl
carried_none class (GetStatic index) places = refl
carried_none class (PutStatic index) places = refl
carried_none class (GetField index) places = refl
carried_none class (PutField index) places = refl
carried_none class (Invoke opcode index count) places = refl
carried_none class (Dynamic index) places = refl
carried_none class (New index) places = refl
carried_none class (NewArray code) places = refl
carried_none class (NewRefArray index) places = refl
carried_none class (NewMulti index dimensions) places = refl
carried_none class Length places = refl
carried_none class Throw places = refl
carried_none class (Cast index) places = refl
carried_none class (InstanceOf index) places = refl
carried_none class Enter places = refl
carried_none class Leave places = refl

plain_none : (instr : Instr) (places : List Place) → objects_of (plain_places instr ++ places) ≡ objects_of places
plain_none Nop places = refl
plain_none (Const imm) places = refl
plain_none (Ldc index) places = refl
plain_none (Ldc2 index) places = refl
plain_none (Load kind local) places = refl
plain_none (Store kind local) places = refl
plain_none (Iinc local by) places = refl
plain_none (ArrayLoad opcode) places = refl
plain_none (ArrayStore opcode) places = refl
plain_none (Shuffle opcode) places = refl
plain_none (Pure opcode) places = refl
plain_none (Divide opcode) places = refl
plain_none (FloatAsk opcode) places = refl
plain_none (If opcode to) places = refl
plain_none (If2 opcode to) places = refl
plain_none (IfSame opcode to) places = refl
plain_none (IfNull opcode to) places = refl
plain_none (Goto to) places = refl
plain_none (Table low other to) places = refl
plain_none (Lookup other pairs) places = refl
plain_none (Return kind) places = refl
plain_none (GetStatic index) places = refl
plain_none (PutStatic index) places = refl
plain_none (GetField index) places = refl
plain_none (PutField index) places = refl
plain_none (Invoke opcode index count) places = refl
plain_none (Dynamic index) places = refl
plain_none (New index) places = refl
plain_none (NewArray code) places = refl
plain_none (NewRefArray index) places = refl
plain_none (NewMulti index dimensions) places = refl
plain_none Length places = refl
plain_none Throw places = refl
plain_none (Cast index) places = refl
plain_none (InstanceOf index) places = refl
plain_none Enter places = refl
plain_none Leave places = refl

instr_news : (instr : WInstr) (targets : List WTarget) (catches : List WCatch) (items : List WItem) (places : List Place)
    → site_news items ≡ objects_of places
    → site_news (record { instr = instr; targets = targets; catches = catches } ∷ items) ≡ objects_of (winstr_places none_named instr ++ places)
instr_news (carried class instr) targets catches items places same = same ∙ sym (carried_none class instr places)
instr_news (plain instr) targets catches items places same = same ∙ sym (plain_none instr places)
instr_news (load kind unit) targets catches items places same = same
instr_news (store kind unit) targets catches items places same = same
instr_news (constructs class) targets catches items places same = same
instr_news (makes class) targets catches items places same =
    sum_by-cons (λ (one : WItem). if makes_site one.instr then 1 else 0) (record { instr = makes class; targets = targets; catches = catches }) items
    ∙ ap (λ (n : ℕ). 1 + n) same
    ∙ sym (sum_by-cons (λ (place : Place). if makes_one place then 1 else 0) (makes_object class) places)

pub news_counted : (items : List WItem) → site_news items ≡ objects_of (witem_places none_named items)
news_counted [] = refl
news_counted (one ∷ items) = instr_news one.instr one.targets one.catches items (witem_places none_named items) (news_counted items)

pub site_objects_counted : (s : PlanScope) (plan : Plan) (routes : Routes) → IsRouted s plan routes
    → site_news (written_items short (finished s routes)) ≡ objects_of (site_places_of s routes)
site_objects_counted s plan routes routed =
    news_counted (written_items short (finished s routes)) ∙ ap objects_of (placed_by none_named s plan routes routed)
