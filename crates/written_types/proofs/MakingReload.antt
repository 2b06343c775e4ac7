-- The stack behind make code: what stands below the lowest object that is made, and above it all entries that are plain now.
use Rattle.std.proofs.Common.{◌≡◌, ◌+◌, ◌≤◌, ℕ, suc, Bool, true, false, List, [], ◌∷◌, ◌++◌, map, slice_get, Some, refl, sym, ap, subst, ◌∙◌, arith}
use Rattle.std.specs.List.{AllByRecursion, flat_map}
use Rattle.std.proofs.lemmas.List.{append-nil, append_assoc}
use Rattle.class_model.specs.Frames.{depth}
use Rattle.class_model.specs.declared.descriptor.Kind.TheVariants as kinds
use Rattle.class_model.specs.declared.frame.VType.{VType}
use Rattle.class_model.specs.declared.frame.VType.TheVariants as types
use Rattle.class_tree.specs.Headers.{Headers, headers_of}
use Rattle.flow_code.specs.ReadTypes.{read_type}
use Rattle.flow_code.specs.declared.point.Site.{Site}
use Rattle.making_code.specs.Items.{WInstr, item, load}
use Rattle.making_code.specs.MakeCode.{entries_from, from_lowest, kind_of_type, load_entry}
use Rattle.making_code.specs.Units.{first_object_unit, first_scratch_unit, object_unit, scratch}
use Rattle.member_link.specs.Assignability.{IsAssignable}
use Rattle.member_link.specs.Rows.FrameAssignability.{AreAssignable}
use Rattle.virtual_state.specs.Sites.{has}
use Rattle.virtual_state.specs.Without.{made_plain}
use Rattle.virtual_state.specs.declared.slot.Slot.{Slot}
use Rattle.virtual_state.specs.declared.slot.Slot.TheVariants.{Plain, Virt, Unusable}
use Rattle.written_types.proofs.EdgeFrames.{by_item_assignable}
use Rattle.written_types.proofs.Given.{NoTops, NoTopsAbove}
use Rattle.written_types.proofs.MakingObjects.{and_carries}
use Rattle.written_types.proofs.MakingStack.{depth_both, entries_by_item, entry_type, saved_kind, saves_of}
use Rattle.written_types.proofs.MakingSteps.{load_carries}
use Rattle.written_types.proofs.NoThis.{NotThis}
use Rattle.written_types.specs.FitsTypes.{HaveTypes, IsOfType}
use Rattle.written_types.specs.Inner.CarriedFrames.{Carries, carries_none}
use Rattle.written_types.specs.Writing.{Writing}

module _ (w : Writing) (sites : List ℕ) (headers_same : w.host.headers ≡ headers_of w.s.classes) where
  abbrev made : List Slot → List Slot
  made slots = map (made_plain (has sites)) slots

  -- an object of a site may stand for the type that holds it
  pub object_fits : (type : VType) (site : ℕ) (of : IsOfType w.s site (read_type w.s.flat type))
      → IsAssignable w.host.headers (types.Object of.site.class) (entry_type w type)
  object_fits type site of =
      subst (λ (h : Headers). IsAssignable h (types.Object of.site.class) (entry_type w type)) (sym headers_same)
      (by_item_assignable w.form w.blocks of.assignable)

  -- ---- loading again

  pub record Reloaded (number place below : ℕ) (all : List VType) (slots : List Slot) (locals base : List VType) : Type 0 where
    pub new : List VType
    pub carries : Carries w number (map item (flat_map (load_entry sites) (entries_from place below all slots)))
        (record { locals = locals; stack = base }) (Some (record { locals = locals; stack = base ++ new }))
    pub fits : AreAssignable w.host.headers new (entries_by_item w all (made slots))

  nothing_more : (number : ℕ) (locals base : List VType)
      → Carries w number [] (record { locals = locals; stack = base }) (Some (record { locals = locals; stack = base ++ [] }))
  nothing_more number locals base =
      subst (λ (stack : List VType). Carries w number [] (record { locals = locals; stack = base }) (Some (record { locals = locals; stack = stack })))
      (sym (append-nil base)) (carries_none number (record { locals = locals; stack = base }))

  pub load_again : (number place below : ℕ) (all : List VType) (slots : List Slot) (locals base tops : List VType)
      → NoTops all slots
      → AreAssignable w.host.headers tops (entries_by_item w all slots)
      → HaveTypes w.s (map (read_type w.s.flat) all) slots
      → AllByRecursion (λ save. slice_get locals (first_scratch_unit w.s.flat + save.0) ≡ Some save.1) (saves_of below all slots tops)
      → ((site : ℕ) (one : Site) → has sites site ≡ true → slice_get w.s.flat.sites site ≡ Some one
      → slice_get locals (first_object_unit w.s.flat + site) ≡ Some (types.Object one.class))
      → Reloaded number place below all slots locals base
  load_again number place below [] [] locals base tops no_tops fits have saved there =
      record { new = []; carries = nothing_more number locals base; fits = tt }
  load_again number place below [] (slot ∷ slots) locals base tops no_tops fits have saved there = absurd have
  load_again number place below (type ∷ all) [] locals base tops no_tops fits have saved there = absurd have
  load_again number place below (type ∷ all) (Unusable ∷ slots) locals base tops no_tops fits have saved there =
      let rest = load_again number (suc place) (below + depth (type ∷ [])) all slots locals base tops no_tops.1 fits have.1 saved there in
      record { new = rest.new; carries = rest.carries; fits = rest.fits }
  load_again number place below (type ∷ all) (Plain ∷ slots) locals base [] no_tops fits have saved there = absurd fits
  load_again number place below (type ∷ all) (Plain ∷ slots) locals base (top ∷ tops) no_tops fits have saved there =
      let rest = load_again (suc number) (suc place) (below + depth (type ∷ [])) all slots locals (base ++ (top ∷ [])) tops no_tops.1 fits.1 have.1 saved.1
      there in
      record {
        new = top ∷ rest.new;
        carries =
            subst (λ (stack : List VType). Carries w number (map item (flat_map (load_entry sites) (entries_from place below (type ∷ all) (Plain ∷ slots))))
            (record { locals = locals; stack = base }) (Some (record { locals = locals; stack = stack }))) (append_assoc base (top ∷ []) rest.new)
            (and_carries w number (load (kind_of_type type) (scratch below))
            (flat_map (load_entry sites) (entries_from (suc place) (below + depth (type ∷ [])) all slots)) (record { locals = locals; stack = base })
            (record { locals = locals; stack = base ++ (top ∷ []) }) (record { locals = locals; stack = (base ++ (top ∷ [])) ++ rest.new })
            (load_carries w number (kind_of_type type) (scratch below) locals base top saved.0
            (saved_kind w w.host.headers type top (no_tops.0 refl) fits.0)) rest.carries);
        fits = (fits.0, rest.fits);
      }
  load_again number place below (type ∷ all) (Virt site ∷ slots) locals base tops no_tops fits have saved there =
      by (has sites site) refl
      (λ n stack. load_again n (suc place) (below + depth (type ∷ [])) all slots locals stack tops no_tops.1 fits have.1 saved there) where
        rest_instrs : List WInstr
        rest_instrs = flat_map (load_entry sites) (entries_from (suc place) (below + depth (type ∷ [])) all slots)

        object : VType
        object = types.Object have.0.site.class

        by : (b : Bool) → has sites site ≡ b
            → ((n : ℕ) (stack : List VType) → Reloaded n (suc place) (below + depth (type ∷ [])) all slots locals stack)
            → Reloaded number place below (type ∷ all) (Virt site ∷ slots) locals base
        by false apart below_it =
            let rest = below_it number base in
            let none : load_entry sites (record { place = place; below = below; kind = kind_of_type type; slot = Virt site }) ≡ [] = rw (apart) refl in
            let stays : made_plain (has sites) (Virt site) ≡ Virt site = rw (apart) refl in
            record {
              new = rest.new;
              carries = subst (λ (first : List WInstr). Carries w number (map item (first ++ rest_instrs)) (record { locals = locals; stack = base })
                  (Some (record { locals = locals; stack = base ++ rest.new }))) (sym none) rest.carries;
              fits = subst (λ (slot : Slot). AreAssignable w.host.headers rest.new (entries_by_item w (type ∷ all) (slot ∷ made slots))) (sym stays)
                  rest.fits;
            }
        by true taken below_it =
            let rest = below_it (suc number) (base ++ (object ∷ [])) in
            let one : load_entry sites (record { place = place; below = below; kind = kind_of_type type; slot = Virt site })
            ≡ load kinds.Ref (object_unit site) ∷ [] = rw (taken) refl in
            let plain_now : made_plain (has sites) (Virt site) ≡ Plain = rw (taken) refl in
            record {
              new = object ∷ rest.new;
              carries = subst (λ (first : List WInstr). Carries w number (map item (first ++ rest_instrs)) (record { locals = locals; stack = base })
                  (Some (record { locals = locals; stack = base ++ (object ∷ rest.new) }))) (sym one)
                  (subst (λ (stack : List VType). Carries w number (map item (load kinds.Ref (object_unit site) ∷ rest_instrs))
                  (record { locals = locals; stack = base }) (Some (record { locals = locals; stack = stack })))
                  (append_assoc base (object ∷ []) rest.new)
                  (and_carries w number (load kinds.Ref (object_unit site)) rest_instrs (record { locals = locals; stack = base })
                  (record { locals = locals; stack = base ++ (object ∷ []) })
                  (record { locals = locals; stack = (base ++ (object ∷ [])) ++ rest.new })
                  (load_carries w number kinds.Ref (object_unit site) locals base object (there site have.0.site taken have.0.there) tt)
                  rest.carries));
              fits = subst (λ (slot : Slot). AreAssignable w.host.headers (object ∷ rest.new) (entries_by_item w (type ∷ all) (slot ∷ made slots)))
                  (sym plain_now) (object_fits type site have.0, rest.fits);
            }

  -- ---- the lowest entry that is made

  pub record Lowest (place below : ℕ) (all : List VType) (slots : List Slot) (stack : List VType) : Type 0 where
    pub base : List VType
    pub tops : List VType
    pub is : stack ≡ base ++ tops
    pub low_place : ℕ
    pub low_below : ℕ
    pub low_types : List VType
    pub low_slots : List Slot
    pub entries : from_lowest sites (entries_from place below all slots) ≡ entries_from low_place low_below low_types low_slots
    pub fits : AreAssignable w.host.headers tops (entries_by_item w low_types low_slots)
    pub no_tops : NoTops low_types low_slots
    pub not_this : AllByRecursion (λ type. NotThis (entry_type w type)) low_types
    pub typed : HaveTypes w.s (map (read_type w.s.flat) low_types) low_slots
    pub room : low_below + depth low_types ≤ below + depth all
    pub back : (new : List VType)
        → AreAssignable w.host.headers new (entries_by_item w low_types (made low_slots))
        → AreAssignable w.host.headers (base ++ new) (entries_by_item w all (made slots))

  pub lowest : (place below : ℕ) (all : List VType) (slots : List Slot) (stack : List VType)
      → NoTopsAbove sites all slots
      → HaveTypes w.s (map (read_type w.s.flat) all) slots
      → AllByRecursion (λ type. NotThis (entry_type w type)) all
      → AreAssignable w.host.headers stack (entries_by_item w all slots)
      → Lowest place below all slots stack
  lowest place below [] [] [] above have nots fits = record {
    base = [];
    tops = [];
    is = refl;
    low_place = place;
    low_below = below;
    low_types = [];
    low_slots = [];
    entries = refl;
    fits = tt;
    no_tops = tt;
    not_this = tt;
    typed = tt;
    room = omega arith;
    back = λ new is. is;
  }
  lowest place below [] [] (top ∷ stack) above have nots fits = absurd fits
  lowest place below [] (slot ∷ slots) stack above have nots fits = absurd have
  lowest place below (type ∷ all) [] stack above have nots fits = absurd have
  lowest place below (type ∷ all) (Plain ∷ slots) [] above have nots fits = absurd fits
  lowest place below (type ∷ all) (Plain ∷ slots) (top ∷ stack) above have nots fits =
      let rest = lowest (suc place) (below + depth (type ∷ [])) all slots stack above.1 have.1 nots.1 fits.1 in
      let more = depth_both type all in
      let room = rest.room in
      record {
        base = top ∷ rest.base;
        tops = rest.tops;
        is = ap (λ (found : List VType). top ∷ found) rest.is;
        low_place = rest.low_place;
        low_below = rest.low_below;
        low_types = rest.low_types;
        low_slots = rest.low_slots;
        entries = rest.entries;
        fits = rest.fits;
        no_tops = rest.no_tops;
        not_this = rest.not_this;
        typed = rest.typed;
        room = omega (arith, more, room);
        back = λ new is. (fits.0, rest.back new is);
      }
  lowest place below (type ∷ all) (Unusable ∷ slots) stack above have nots fits =
      let rest = lowest (suc place) (below + depth (type ∷ [])) all slots stack above.1 have.1 nots.1 fits in
      let more = depth_both type all in
      let room = rest.room in
      record {
        base = rest.base;
        tops = rest.tops;
        is = rest.is;
        low_place = rest.low_place;
        low_below = rest.low_below;
        low_types = rest.low_types;
        low_slots = rest.low_slots;
        entries = rest.entries;
        fits = rest.fits;
        no_tops = rest.no_tops;
        not_this = rest.not_this;
        typed = rest.typed;
        room = omega (arith, more, room);
        back = rest.back;
      }
  lowest place below (type ∷ all) (Virt site ∷ slots) stack above have nots fits =
      by (has sites site) refl (lowest (suc place) (below + depth (type ∷ [])) all slots stack above.1 have.1 nots.1 fits) where
        by : (b : Bool) → has sites site ≡ b
            → Lowest (suc place) (below + depth (type ∷ [])) all slots stack
            → Lowest place below (type ∷ all) (Virt site ∷ slots) stack
        by true taken rest = record {
          base = [];
          tops = stack;
          is = refl;
          low_place = place;
          low_below = below;
          low_types = type ∷ all;
          low_slots = Virt site ∷ slots;
          entries = rw (taken) refl;
          fits = fits;
          no_tops = (λ plain. absurd cc, above.0 taken);
          not_this = nots;
          typed = have;
          room = omega arith;
          back = λ new is. is;
        }
        by false apart rest =
            let more = depth_both type all in
            let room = rest.room in
            let stays : made_plain (has sites) (Virt site) ≡ Virt site = rw (apart) refl in
            let skipped : from_lowest sites (entries_from place below (type ∷ all) (Virt site ∷ slots))
            ≡ from_lowest sites (entries_from (suc place) (below + depth (type ∷ [])) all slots) = rw (apart) refl in
            record {
              base = rest.base;
              tops = rest.tops;
              is = rest.is;
              low_place = rest.low_place;
              low_below = rest.low_below;
              low_types = rest.low_types;
              low_slots = rest.low_slots;
              entries = skipped ∙ rest.entries;
              fits = rest.fits;
              no_tops = rest.no_tops;
              not_this = rest.not_this;
              typed = rest.typed;
              room = omega (arith, more, room);
              back = λ new is.
                  subst (λ (slot : Slot). AreAssignable w.host.headers (rest.base ++ new) (entries_by_item w (type ∷ all) (slot ∷ made slots)))
                  (sym stays) (rest.back new is);
            }
