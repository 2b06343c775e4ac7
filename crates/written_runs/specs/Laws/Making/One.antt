-- Make code of one site: its object is made by its field constructor, locked as often as the virtual one, and stands in its unit.
use Rattle.std.proofs.Common.{◌≡◌, ◌+◌, ◌<◌, ℕ, Bool, true, false, List, [], ◌∷◌, ◌++◌, bytes_eq, length, reverse, slice_get, Some, IsTrue, refl, sym, ap, subst, ◌∙◌, arith}
use Rattle.std.proofs.lemmas.List.{length-map}
use Rattle.std.proofs.lemmas.Option.{slice_get_within}
use Rattle.class_model.specs.Laws.Lists.{at_index}
use Rattle.class_model.specs.declared.descriptor.FieldType.{FieldType}
use Rattle.class_model.specs.declared.descriptor.Kind.TheVariants as kinds
use Rattle.class_model.specs.declared.header.Header.{Header}
use Rattle.class_model.specs.declared.header.Member.{Member}
use Rattle.class_model.specs.declared.instr.Imm.TheVariants as imms
use Rattle.class_model.specs.declared.instr.Instr.TheVariants.{Const, Shuffle}
use Rattle.class_model.specs.declared.opcodes.TheConstants.{DUP}
use Rattle.class_tree.specs.Headers.{Name, headers_of, named}
use Rattle.class_tree.specs.Layouts.{instance_fields}
use Rattle.expanded_code.specs.CandidateSites.{IsSite}
use Rattle.machine_values.specs.Heaps.{object_at}
use Rattle.machine_values.specs.Values.{blank_value, blank_values}
use Rattle.machine_values.specs.declared.object.Object.{Object}
use Rattle.machine_values.specs.declared.object.Shape.TheVariants.{Folder}
use Rattle.machine_values.specs.declared.value.Value.{Value}
use Rattle.machine_values.specs.declared.value.Value.TheVariants.{Null, Ref}
use Rattle.making_code.specs.Items.{WInstr, constructs, item, makes, plain, store}
use Rattle.making_code.specs.MakeCode.{Entry, enters, load_fields_from, make_object}
use Rattle.making_code.specs.Units.{field_unit, object_unit, unit_number}
use Rattle.member_link.specs.Machine.Locals.{stored}
use Rattle.member_link.specs.Machine.Programs.{RunClass, folder_number, headers_in, name_of_class}
use Rattle.member_link.specs.Machine.Worlds.{Memory}
use Rattle.plan_flow.specs.Written.WrittenPrograms.{MakesClass, WrittenMethod}
use Rattle.same_runs.specs.Laws.Apart.{IsNoName, name_made, second_changes}
use Rattle.same_runs.specs.Laws.BegunClasses.{folder_class}
use Rattle.same_runs.specs.Laws.FirstBeginnings.{folder_name}
use Rattle.same_runs.specs.Laws.Heaps.{new_no_name, second_allocates}
use Rattle.same_runs.specs.Laws.Names.{more_and_more, named_here, named_too, named_too_more, names_themselves, value_more, values_more}
use Rattle.same_runs.specs.Laws.Objects.{get_new}
use Rattle.same_runs.specs.Laws.Programs.{same_number}
use Rattle.same_runs.specs.Laws.Stored.{IsStored, Units, stored_is, stores}
use Rattle.same_runs.specs.Renamings.{Names, NamesMore, SameObject, same_reference}
use Rattle.same_runs.specs.SameMemories.{SameHeaps, SameMemories, SameStatics, StaysApart}
use Rattle.virtual_state.specs.Sites.{has}
use Rattle.virtual_state.specs.States.{object_of}
use Rattle.virtual_state.specs.declared.slot.Slot.TheVariants.{Virt}
use Rattle.virtual_state.specs.declared.slot.VObject.{VObject}
use Rattle.written_runs.specs.Inner.MadeObjects.{StandAt, left_of}
use Rattle.written_runs.specs.Inner.PlannedFrames.{scope_in}
use Rattle.written_runs.specs.Inner.Setup.{Setup, first, second}
use Rattle.written_runs.specs.Inner.Standing.{apart, comparison}
use Rattle.written_runs.specs.Laws.Constructs.{fills_blank}
use Rattle.written_runs.specs.Laws.FieldConstructors.{FillsObjects, GoesOn, filled, filled_there, reference_of_constructor}
use Rattle.written_runs.specs.Laws.GivenValues.{FitTypes, fit_length, types_of}
use Rattle.written_runs.specs.Laws.Making.Asked.{MakingLaws}
use Rattle.written_runs.specs.Laws.Making.Entered.{IsEntered, entered_times, enters_all, is_entered, statics_second}
use Rattle.written_runs.specs.Laws.Making.Fields.{AreHeld, AreLoaded, loads_fields}
use Rattle.written_runs.specs.Laws.Making.Held.{HeldIn, HoldsMade, Midway, SavedEntries, Scene, held_now, midway_more, saved_more, saved_still}
use Rattle.written_runs.specs.Laws.Making.Left.{among, fewer_entered, fewer_left, is_apart, others_differ}
use Rattle.written_runs.specs.Laws.Making.New.{NewMade, new_made, with_new}
use Rattle.written_runs.specs.Laws.Making.Places.{fits_object}
use Rattle.written_runs.specs.Laws.Making.Steps.{Doing, Done, at_point, done_then, doubles, frame_of, item_is, point_for, pushes_null, stand_behind, stand_first, stores_unit}
use Rattle.written_runs.specs.Laws.Making.Stores.{midway_made, midway_object}
use Rattle.written_runs.specs.VirtualObjects.{TellsObject, Virtuals}
use Rattle.written_runs.specs.WrittenRuns.{IsReadyMethod}

-- ---- classes

-- a class of a first list is found in both
named_too_far : (name : Name) (ones others : List Header) (header : Header) → named name ones ≡ Some header → named name (ones ++ others) ≡ Some header
named_too_far name [] others header is = absurd cc
named_too_far name (one ∷ ones) others header is = by (bytes_eq name one.name) refl (named_too_far name ones others header) where
  by : (b : Bool) → bytes_eq name one.name ≡ b → (named name ones ≡ Some header → named name (ones ++ others) ≡ Some header)
      → named name (one ∷ (ones ++ others)) ≡ Some header
  by true e rest = rw (e) (sym (rw (e) refl) ∙ is)
  by false e rest = rw (e) (rest (sym (rw (e) refl) ∙ is))

statics_named : (u : Setup) {names more : Names} {one other : Memory} → NamesMore names more → SameStatics (first u) names [] one other
    → SameStatics (first u) more [] one other
statics_named u grows same = record {
  begun = same.begun;
  values = λ class field is. value_more grows (same.values class field is);
  alone = same.alone;
  unwritten = same.unwritten;
  unwritten_also = same.unwritten_also;
}

-- ---- the memories

-- the memories of the two runs, where the objects of some sites are made
abbrev pub SameLess : {u : Setup} {w : WrittenMethod} → Scene u w → Names → List ℕ → Memory → Type 0
SameLess {u = u} s names done memory =
    SameMemories (first u) (comparison u (left_of s.frame done s.virtuals) []).allocated (comparison u (left_of s.frame done s.virtuals) []).entered
    (apart (left_of s.frame done s.virtuals)) names [] s.memory memory

module _ {u : Setup} {w : WrittenMethod} (laws : MakingLaws u) (d : Doing u w) (s : Scene u w) (is_written : u.written d.at ≡ Some w)
    (saved : List Entry) (saved_values : List Value) where
  -- behind the make code of some sites
  pub record AreMade (names : Names) (made : List ℕ) (instrs : List WInstr) (place steps : ℕ) (memory : Memory) (units : Units) (stack : List Value)
      : Type 0 where
    pub more : Names
    pub grows : NamesMore names more
    pub later : Memory
    pub after : Units
    pub done : Done d instrs place steps memory later units after stack stack
    pub midway : Midway s more made (λ unit. ⊥) (λ of number. ⊥) after
    pub entries : SavedEntries w.flat more after saved saved_values
    pub memories : SameLess s more made later

  module _ (names : Names) (done : List ℕ) (place steps : ℕ) (memory : Memory) (units : Units) (stack : List Value) (told : VObject)
      (there : object_of s.state.objects told.site ≡ Some told) (unmade : has done told.site ≡ false)
      (named_done : (number site : ℕ) → slice_get told.fields number ≡ Some (Virt site) → IsTrue (has done site))
      (midway : Midway s names done (λ unit. ⊥) (λ of number. ⊥) units)
      (entries : SavedEntries w.flat names units saved saved_values)
      (memories : SameLess s names done memory) where
    abbrev t : TellsObject (first u) (scope_in u w) s.virtuals s.frame told
    t = s.tells.objects told.site told there

    module _ (stand : StandAt u w place (make_object w.flat told t.site)) where
      abbrev loads : List WInstr
      loads = load_fields_from told.site 0 t.site.fields told.fields

      abbrev ends : List WInstr
      ends = store kinds.Ref (object_unit told.site) ∷ enters told.site told.depth

      abbrev calls : List WInstr
      calls = plain (Const imms.Null) ∷ constructs t.site.class ∷ ends

      stand_dup : StandAt u w (place + 1) (plain (Shuffle DUP) ∷ (loads ++ calls))
      stand_dup = stand_behind (makes t.site.class ∷ []) (plain (Shuffle DUP) ∷ (loads ++ calls)) stand

      stand_loads : StandAt u w (place + 1 + 1) (loads ++ calls)
      stand_loads = stand_behind (plain (Shuffle DUP) ∷ []) (loads ++ calls) stand_dup

      abbrev after_loads : ℕ
      after_loads = place + 1 + 1 + length loads

      stand_calls : StandAt u w after_loads calls
      stand_calls = stand_behind loads calls stand_loads

      stand_constructs : StandAt u w (after_loads + 1) (constructs t.site.class ∷ ends)
      stand_constructs = stand_behind (plain (Const imms.Null) ∷ []) (constructs t.site.class ∷ ends) stand_calls

      stand_ends : StandAt u w (after_loads + 1 + 1) ends
      stand_ends = stand_behind (constructs t.site.class ∷ []) ends stand_constructs

      -- ---- the class

      is_number : folder_number (second u) t.site.class ≡ Some t.class
      is_number = same_number laws.same t.site.class ∙ t.of_folder

      ready : IsReadyMethod u.classes u.links d.at w
      ready = laws.is_setup.ready d.at w is_written

      is_site : IsSite u.classes w.flat t.site
      is_site = at_index (IsSite u.classes w.flat) w.flat.sites told.site t.site ready.sites.sites t.is_site

      makes_class : MakesClass u.classes u.links u.written t.site.class
      makes_class = record {
        at = d.at;
        one = w;
        is_written = is_written;
        number = place;
        item = item (makes t.site.class);
        is_item = item_is d stand;
        makes_it = refl;
      }

      below : (second u).links.below (name_of_class (second u) t.class) t.site.class ≡ true
      below =
          ap (λ (name : Name). (second u).links.below name t.site.class) (folder_name (second u) t.site.class t.class is_number)
          ∙ laws.alike.itself t.site.class

      of_number : (found : RunClass) × (slice_get (second u).classes t.class ≡ Some found)
      of_number = folder_class (second u) t.site.class t.class is_number

      fills : FillsObjects (second u) (instance_fields (headers_of u.classes) t.site.class) t.class
          (reference_of_constructor u.constructor t.site.class)
      fills =
          laws.constructs.fills t.site.class is_site.candidate.header t.class
          (named_too_far t.site.class (headers_of u.classes).folder (headers_of u.classes).library is_site.candidate.header is_site.candidate.found)
          (laws.proper t.site.class is_site.candidate) below (laws.is_setup.replaces_also.made t.site.class makes_class) of_number.0 of_number.1

      -- ---- the new object

      new : NewMade d (comparison u (left_of s.frame done s.virtuals) []).allocated (comparison u (left_of s.frame done s.virtuals) []).entered
          (apart (left_of s.frame done s.virtuals)) names s.memory memory t.site.class t.class place steps units stack
      new =
          new_made d is_number stand units stack steps laws.same laws.alike (s.begun t.has.number t.class t.virtual t.has.is_there t.shape) memories

      abbrev reference : ℕ
      reference = length new.begun.heap.objects

      abbrev blank : Object
      blank = record {
        shape = Folder t.class;
        values = blank_values (instance_fields (headers_in (second u)) (name_of_class (second u) t.class));
        monitor = 0;
      }

      abbrev made : Memory
      made = with_new u new.begun t.class

      is_blank : object_at made.heap reference ≡ Some blank
      is_blank = get_new new.begun.heap.objects blank

      no_name : IsNoName new.more reference
      no_name = λ at is. new_no_name new.memories.heaps at is

      doubled : Done d (plain (Shuffle DUP) ∷ []) (place + 1) new.done.then_steps made made units units (Ref reference ∷ stack)
          (Ref reference ∷ Ref reference ∷ stack)
      doubled = doubles d new.done.then_steps made units stack reference stand_dup

      -- ---- its fields

      before : Midway s new.more done (λ unit. ⊥) (λ of number. ⊥) units
      before = midway_more new.grows midway

      held : AreHeld d s new.more units told.site 0 told.fields t.virtual.object.values
      held = record {
        plain = λ number value slot is.
            let same : number ≡ 0 + number = omega arith in
            subst (λ (n : ℕ). HeldIn w.flat new.more units (field_unit told.site n) value) same
            (before.fields told.site number told t.virtual value there t.has slot is);
        virtual = λ number site slot. before.objects site (named_done number site slot);
      }

      loaded : AreLoaded d s new.more units told.site loads t.site.fields t.virtual.object.values (place + 1 + 1) doubled.then_steps made
          (Ref reference ∷ Ref reference ∷ stack)
      loaded =
          loads_fields d s new.more units told.site t.site.fields told.fields t.virtual.object.values (Ref reference ∷ Ref reference ∷ stack) 0 (place + 1 + 1)
          doubled.then_steps made t.fields (s.kept.kinds told.site t.site t.virtual t.is_site t.has) held (stand_first loads calls stand_loads)

      null_too : Done d (plain (Const imms.Null) ∷ []) after_loads loaded.done.then_steps made made units units
          (reverse loaded.given ++ (Ref reference ∷ Ref reference ∷ stack)) (Null ∷ (reverse loaded.given ++ (Ref reference ∷ Ref reference ∷ stack)))
      null_too =
          pushes_null d loaded.done.then_steps made units (reverse loaded.given ++ (Ref reference ∷ Ref reference ∷ stack)) stand_calls

      fit : FitTypes (types_of (instance_fields (headers_of u.classes) t.site.class)) loaded.given
      fit = subst (λ (types : List FieldType). FitTypes types loaded.given) is_site.fields loaded.fits

      as_many : length blank.values ≡ length loaded.given
      as_many =
          length-map (instance_fields (headers_in (second u)) (name_of_class (second u) t.class)) (λ (field : Member). blank_value field.desc)
          ∙ laws.blanks t.site.class t.class is_number
          ∙ sym (fit_length (instance_fields (headers_of u.classes) t.site.class) loaded.given fit)

      abbrev full : Memory
      full = filled made reference blank loaded.given

      called : GoesOn (second u) d.run d.others made full
          (frame_of d (after_loads + 1) units (Null ∷ (reverse loaded.given ++ (Ref reference ∷ Ref reference ∷ stack))))
          (frame_of d (after_loads + 1 + 1) units (Ref reference ∷ stack)) null_too.then_steps
      called =
          fills_blank fills d.run (frame_of d (after_loads + 1) units (Null ∷ (reverse loaded.given ++ (Ref reference ∷ Ref reference ∷ stack))))
          d.others made null_too.then_steps (point_for d (after_loads + 1) (constructs t.site.class)) _ loaded.given (Ref reference ∷ stack) reference
          blank d.goes (at_point d stand_constructs) refl refl fit is_blank refl as_many

      constructed : Done d (constructs t.site.class ∷ []) (after_loads + 1) null_too.then_steps made full units units
          (Null ∷ (reverse loaded.given ++ (Ref reference ∷ Ref reference ∷ stack))) (Ref reference ∷ stack)
      constructed = record { then_steps = called.then_steps; quietly = called.quietly }

      -- ---- its unit

      low : told.site < length w.flat.sites
      low = slice_get_within w.flat.sites told.site t.site t.is_site

      into : (after : Units) × (stored (unit_number w.flat (object_unit told.site)) (Ref reference) units ≡ Some after)
      into =
          stores (unit_number w.flat (object_unit told.site)) (Ref reference) units
          (let room = midway.room in let within = low in omega (arith, room, within))

      is : IsStored (unit_number w.flat (object_unit told.site)) (Ref reference) units into.0
      is = stored_is (unit_number w.flat (object_unit told.site)) (Ref reference) units into.0 into.1

      kept : Done d (store kinds.Ref (object_unit told.site) ∷ []) (after_loads + 1 + 1) constructed.then_steps full full units into.0
          (Ref reference ∷ stack) stack
      kept = stores_unit d kinds.Ref (object_unit told.site) constructed.then_steps full units into.0 stack (Ref reference) stand_ends into.1 refl

      -- ---- its monitor

      abbrev filled_one : Object
      filled_one = record blank { values = loaded.given }

      is_full : object_at full.heap reference ≡ Some filled_one
      is_full = filled_there made reference blank loaded.given is_blank

      abbrev last : Memory
      last = entered_times told.depth full reference

      locked : Done d (enters told.site told.depth) (after_loads + 1 + 1 + 1) kept.then_steps full last into.0 into.0 stack stack
      locked =
          enters_all d told.site into.0 reference is.here told.depth (after_loads + 1 + 1 + 1) kept.then_steps full stack filled_one is_full
          (stand_behind (store kinds.Ref (object_unit told.site) ∷ []) (enters told.site told.depth) stand_ends)

      all_done : Done d (make_object w.flat told t.site) place steps memory last units into.0 stack stack
      all_done =
          done_then d new.done (done_then d doubled (done_then d loaded.done (done_then d null_too (done_then d constructed
          (done_then d kept locked)))))

      -- ---- the memories

      abbrev left : Virtuals
      left = left_of s.frame done s.virtuals

      abbrev fewer : Virtuals
      fewer = left_of s.frame (told.site ∷ done) s.virtuals

      heaps : SameHeaps (apart left) new.more s.memory.heap full.heap
      heaps =
          second_changes (second_allocates new.memories.heaps (Folder t.class) blank.values) reference blank filled_one no_name is_blank

      statics : SameStatics (first u) new.more [] s.memory full
      statics =
          statics_second full.heap full.allocations full.entries (names_themselves new.more) new.memories.statics

      behind : IsEntered (first u) (apart left) new.more s.memory filled_one reference told.depth full.allocations full.entries last
      behind = is_entered told.depth full filled_one reference no_name heaps statics is_full

      stays : StaysApart new.more s.memory.heap (t.virtual.reference, t.virtual.object)
      stays =
          let number = is_apart s.frame told.site done s.virtuals t.virtual t.has unmade in
          at_index (StaysApart new.more s.memory.heap) (apart left) number.0 (t.virtual.reference, t.virtual.object) behind.heaps.stays number.1

      abbrev most : Names
      most = named_too new.more t.virtual.reference reference

      grows_too : NamesMore new.more most
      grows_too = named_too_more new.more t.virtual.reference reference stays.unnamed

      alike : SameObject most t.virtual.object (record filled_one { monitor = filled_one.monitor + told.depth })
      alike = record {
        shape = sym t.shape;
        values = values_more grows_too loaded.same;
        monitor = let m = t.monitor in omega (arith, m);
      }

      named_heaps : SameHeaps (apart fewer) most s.memory.heap last.heap
      named_heaps =
          name_made t.virtual.reference reference t.virtual.object (record filled_one { monitor = filled_one.monitor + told.depth }) (apart fewer)
          behind.heaps stays no_name behind.there alike (among s.frame told.site done s.virtuals t.virtual t.has unmade)
          (others_differ s.frame told.site done s.virtuals t.virtual t.has unmade s.are_apart)

      then_memories : SameLess s most (told.site ∷ done) last
      then_memories = record {
        heaps = named_heaps;
        statics = statics_named u grows_too behind.statics;
        allocations =
            let was = new.memories.allocations in
            let less = fewer_left s.frame told.site done s.virtuals t.virtual t.has unmade in
            let now = behind.allocated in
            omega (arith, was, less, now);
        entries =
            let was = new.memories.entries in
            let less = fewer_entered s.frame told.site done s.virtuals t.virtual t.has unmade in
            let now = behind.counted in
            let locks = t.monitor in
            omega (arith, was, less, now, locks);
      }

      holds : HoldsMade w.flat s.virtuals s.frame most into.0 (object_unit told.site) told.site
      holds = record {
        virtual = t.virtual;
        has_it = t.has;
        held = held_now is (fits_object low refl) (same_reference (named_here new.more t.virtual.reference reference));
      }

      -- the object of one site is made
      pub makes_one : AreMade names (told.site ∷ done) (make_object w.flat told t.site) place steps memory units stack
      makes_one = record {
        more = most;
        grows = more_and_more new.grows grows_too;
        later = last;
        after = into.0;
        done = all_done;
        midway = midway_made s told.site grows_too (midway_object s told.site reference before low unmade is) holds;
        entries =
            saved_more w.flat into.0 saved saved_values grows_too
            (saved_still w.flat new.more {other = object_unit told.site} saved saved_values is (fits_object low refl) (λ below also. tt)
            (saved_more w.flat units saved saved_values new.grows entries));
        memories = then_memories;
      }
