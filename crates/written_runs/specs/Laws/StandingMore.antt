-- Frames that go together do so under more names, with more known classes, and where virtual objects of frames above them are made.
use Rattle.std.proofs.Common.{◌<◌, ℕ, Bool, List, [], ◌∷◌, length, reverse, refl, arith}
use Rattle.std.proofs.lemmas.Bool.{false≢true}
use Rattle.class_model.specs.declared.descriptor.FieldType.{FieldType}
use Rattle.flow_code.specs.FlatCode.{FlatCode}
use Rattle.flow_code.specs.declared.point.Point.{Point}
use Rattle.machine_values.specs.Frames.{MethodState}
use Rattle.machine_values.specs.declared.frame.RunFrame.{RunFrame}
use Rattle.machine_values.specs.declared.value.Value.{Value}
use Rattle.member_link.specs.Machine.Programs.{Program}
use Rattle.plan_flow.specs.PlanScope.{PlanScope}
use Rattle.plan_flow.specs.Written.Blocks.{Block}
use Rattle.plan_flow.specs.Written.WrittenPrograms.{WrittenMethod}
use Rattle.same_runs.specs.Laws.Names.{held_more, units_more, value_more, values_more}
use Rattle.same_runs.specs.Renamings.{Names, NamesMore}
use Rattle.virtual_state.specs.States.{State}
use Rattle.virtual_state.specs.declared.slot.Slot.{Slot}
use Rattle.virtual_state.specs.declared.slot.Slot.TheVariants.{Plain, Virt, Unusable}
use Rattle.virtual_state.specs.declared.slot.VObject.{VObject}
use Rattle.written_runs.specs.Inner.PlannedFrames.{InPlanned, IsKnown, IsMet, IsOfSite, KeepStack, Keeps, KeptIn, Known, Moment, arrives, stays, waits}
use Rattle.written_runs.specs.Inner.Setup.{Setup}
use Rattle.written_runs.specs.Inner.Standing.{IsWaiting, Stands, beginnings_stand, libraries_stand, none_stand, own_stand, planned_stand}
use Rattle.written_runs.specs.VirtualObjects.{HasVirtual, RefersTo, TellFields, Tells, TellsField, TellsObject, Virtual, Virtuals, tells_plain, tells_virtual}

-- ---- one frame

-- the virtual objects of a frame are the same in both lists
pub record SameOfFrame (virtuals others : Virtuals) (frame : ℕ) : Type 0 where
  pub forth : (site : ℕ) (virtual : Virtual) → HasVirtual virtuals frame site virtual → HasVirtual others frame site virtual
  pub back : (site : ℕ) (virtual : Virtual) → HasVirtual others frame site virtual → HasVirtual virtuals frame site virtual

-- each class that is known stays known
pub record KnowsMore (known more : Known) : Type 0 where
  pub keeps : (reference class : ℕ) → IsKnown known reference class → IsKnown more reference class

module _ {virtuals others : Virtuals} {frame : ℕ} (same : SameOfFrame virtuals others frame) where
  refers_same : (site : ℕ) (value : Value) → RefersTo virtuals frame site value → RefersTo others frame site value
  refers_same site value refers =
      record { virtual = refers.virtual; has = same.forth site refers.virtual refers.has; is = refers.is }

  fields_same : (types : List FieldType) (values : List Value) (slots : List Slot)
      → TellFields virtuals frame types values slots
      → TellFields others frame types values slots
  fields_same [] [] [] told = tt
  fields_same [] [] (slot ∷ slots) told = absurd told
  fields_same [] (value ∷ values) slots told = absurd told
  fields_same (type ∷ types) [] slots told = absurd told
  fields_same (type ∷ types) (value ∷ values) [] told = absurd told
  fields_same (type ∷ types) (value ∷ values) (slot ∷ slots) told =
      (by slot told.0, fields_same types values slots told.1) where
        by : (slot : Slot) → TellsField virtuals frame type value slot → TellsField others frame type value slot
        by (Virt site) (tells_virtual refers) = tells_virtual (refers_same site value refers)
        by Plain (tells_plain fits kept) = tells_plain fits kept
        by Unusable told = elim told [ ]

  object_same : {P : Program} {s : PlanScope} (told : VObject) → TellsObject P s virtuals frame told → TellsObject P s others frame told
  object_same told tells = record {
    site = tells.site;
    is_site = tells.is_site;
    virtual = tells.virtual;
    has = same.forth told.site tells.virtual tells.has;
    class = tells.class;
    of_folder = tells.of_folder;
    shape = tells.shape;
    monitor = tells.monitor;
    fields = fields_same tells.site.fields tells.virtual.object.values told.fields tells.fields;
  }

  pub tells_same : {P : Program} {s : PlanScope} (point : Point) (state : State) (f : MethodState)
      → Tells P s virtuals frame point state f
      → Tells P s others frame point state f
  tells_same point state f tells = record {
    locals = λ unit site is.
        let found = tells.locals unit site is in
        (found.0, found.1, refers_same site found.0 found.2);
    stack = λ place site value is here. refers_same site value (tells.stack place site value is here);
    uninit_locals = tells.uninit_locals;
    uninit_stack = tells.uninit_stack;
    objects = λ site told is. object_same told (tells.objects site told is);
  }

  kept_more : {names more : Names} (g : MethodState) (unit : ℕ) (value : Value) → NamesMore names more
      → KeptIn names g unit value
      → KeptIn more g unit value
  kept_more g unit value grows kept = record { also = kept.also; is = kept.is; same = value_more grows kept.same }

  stack_more : {names more : Names} (slots : List Slot) (values also : List Value) → NamesMore names more
      → KeepStack names slots values also
      → KeepStack more slots values also
  stack_more [] values also grows keep = values_more grows keep
  stack_more (Plain ∷ slots) [] also grows keep = keep
  stack_more (Unusable ∷ slots) [] also grows keep = keep
  stack_more (Virt site ∷ slots) [] also grows keep = keep
  stack_more (Virt site ∷ slots) (value ∷ values) also grows keep = stack_more slots values also grows keep
  stack_more (Plain ∷ slots) (value ∷ values) [] grows keep = absurd keep
  stack_more (Plain ∷ slots) (value ∷ values) (one ∷ also) grows keep = (value_more grows keep.0, stack_more slots values also grows keep.1)
  stack_more (Unusable ∷ slots) (value ∷ values) [] grows keep = absurd keep
  stack_more (Unusable ∷ slots) (value ∷ values) (one ∷ also) grows keep = (value_more grows keep.0, stack_more slots values also grows keep.1)

  pub keeps_more : {names more : Names} (flat : FlatCode) (point : Point) (state : State) (f g : MethodState)
      → NamesMore names more
      → Keeps flat names virtuals frame [] point state f g
      → Keeps flat more others frame [] point state f g
  keeps_more flat point state f g grows keeps = record {
    locals = λ unit value is here. kept_more g unit value grows (keeps.locals unit value is here);
    stack = stack_more _ (reverse f.stack) (reverse g.stack) grows keeps.stack;
    fields = λ site number told virtual value is there plain here.
        kept_more g _ value grows (keeps.fields site number told virtual value is (same.back site virtual there) plain here);
    made = λ site done. absurd (false≢true done);
    room = keeps.room;
  }

pub met_more : {u : Setup} {known more : Known} {one : WrittenMethod} (point : Point) (state : State) (f : MethodState)
    → KnowsMore known more
    → IsMet u known one point state f
    → IsMet u more one point state f
met_more {u = u} {known = known} {more = more} {one = one} point state f knows met = record {
  locals = λ unit site is.
      let found = met.locals unit site is in
      (found.0, found.1, of_site site found.0 found.2);
  stack = λ place site value is here. of_site site value (met.stack place site value is here);
} where
  of_site : (site : ℕ) (value : Value) → IsOfSite u known one site value → IsOfSite u more one site value
  of_site number value is = record {
    site = is.site;
    is_site = is.is_site;
    class = is.class;
    of_folder = is.of_folder;
    reference = is.reference;
    refers = is.refers;
    is_known = knows.keeps is.reference is.class is.is_known;
  }

abbrev pub moment_more : {u : Setup} {known more : Known} {one : WrittenMethod} {f g : MethodState} {block : Block}
    → KnowsMore known more
    → Moment u known one f g block
    → Moment u more one f g block
moment_more knows (arrives here told) = arrives here told
moment_more {f = f} knows (stays point route here of_instruction met) =
    stays point route here of_instruction (met_more point route.state f knows met)
moment_more {f = f} knows (waits point route here of_instruction met carried awaits) =
    waits point route here of_instruction (met_more point route.state f knows met) carried awaits

-- it waits as before
waits_more : {u : Setup} {known more : Known} {one : WrittenMethod} {f g : MethodState} {block : Block} (knows : KnowsMore known more)
    (moment : Moment u known one f g block)
    → IsWaiting moment
    → IsWaiting (moment_more knows moment)
waits_more knows (arrives here told) waiting = absurd waiting
waits_more knows (stays point route here of_instruction met) waiting = absurd waiting
waits_more knows (waits point route here of_instruction met carried awaits) waiting = tt

abbrev pub in_planned_more : {u : Setup} {virtuals others : Virtuals} {known more_known : Known} {names more : Names} {frame : ℕ} {f g : MethodState}
    → SameOfFrame virtuals others frame
    → KnowsMore known more_known
    → NamesMore names more
    → InPlanned u virtuals known names frame f g
    → InPlanned u others more_known more frame f g
in_planned_more {frame = frame} {f = f} {g = g} same knows grows in_planned = record {
  one = in_planned.one;
  is_written = in_planned.is_written;
  at = in_planned.at;
  held = held_more grows in_planned.held;
  block = in_planned.block;
  moment = moment_more knows in_planned.moment;
  point = in_planned.point;
  is_point = in_planned.is_point;
  tells = tells_same same in_planned.point in_planned.block.state f in_planned.tells;
  keeps = keeps_more same in_planned.one.flat in_planned.point in_planned.block.state f g grows in_planned.keeps;
  own = λ number virtual is of_frame.
      let was = same.back virtual.site virtual (record { number = number; is_there = is; of_frame = of_frame; of_site = refl }) in
      in_planned.own was.number virtual was.is_there of_frame;
}

-- ---- all frames

-- the virtual objects of frames below a height are the same in both lists
abbrev pub SameBelow : Virtuals → Virtuals → ℕ → Type 0
SameBelow virtuals others height = (frame : ℕ) → frame < height → SameOfFrame virtuals others frame

pub stands_more : {u : Setup} {virtuals others : Virtuals} {known more_known : Known} {names more : Names} {waiting : Bool} {ones also : List RunFrame}
    → SameBelow virtuals others (length ones)
    → KnowsMore known more_known
    → NamesMore names more
    → Stands u virtuals known waiting names ones also
    → Stands u others more_known waiting more ones also
stands_more same knows grows none_stand = none_stand
stands_more same knows grows (libraries_stand held below) =
    libraries_stand (held_more grows held) (stands_more (λ frame low. same frame (omega (arith, low))) knows grows below)
stands_more same knows grows (beginnings_stand below) =
    beginnings_stand (stands_more (λ frame low. same frame (omega (arith, low))) knows grows below)
stands_more same knows grows (own_stand in_own below) =
    own_stand (record {
      not_written = in_own.not_written;
      at = in_own.at;
      place = in_own.place;
      locals = units_more grows in_own.locals;
      stack = values_more grows in_own.stack;
      held = held_more grows in_own.held;
    }) (stands_more (λ frame low. same frame (omega (arith, low))) knows grows below)
stands_more same knows grows (planned_stand {ones = rest} in_planned waits_here below) =
    planned_stand (in_planned_more (same (length rest) (omega arith)) knows grows in_planned)
    (λ waiting. waits_more knows in_planned.moment (waits_here waiting))
    (stands_more (λ frame low. same frame (omega (arith, low))) knows grows below)
