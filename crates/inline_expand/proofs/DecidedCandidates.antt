-- It is decided whether the objects of a class may be kept in local variables.
use Rattle.std.proofs.Common.{◌≡◌, ◌≢◌, ◌≤◌, ℕ, List, length, slice_get, Option, Some, None, IsTrue, IsFalse, refl, sym, ap, subst, inl, inr, arith}
use Rattle.std.proofs.lemmas.Option.{none-some, same_Some}
use Rattle.std.specs.List.{AllByRecursion}
use Rattle.class_model.specs.Descriptors.{parameter_units}
use Rattle.class_model.specs.Header.{header_of}
use Rattle.class_model.specs.Laws.Decisions.{Decision, both, denied, implied, is_false, is_true, mapped}
use Rattle.class_model.specs.Members.{ABSTRACT, FINAL, has}
use Rattle.class_model.specs.Names.{init}
use Rattle.class_model.specs.Pool.{constant_at}
use Rattle.class_model.specs.declared.class_file.ClassFile.{ClassFile}
use Rattle.class_model.specs.declared.class_file.MethodAt.{MethodAt}
use Rattle.class_model.specs.declared.instr.Instr.{Instr}
use Rattle.class_model.specs.declared.instr.Instr.TheVariants.{PutField}
use Rattle.class_model.specs.declared.instr.Placed.{Placed}
use Rattle.class_tree.specs.Headers.{Classes, Headers, Name, headers_of, named}
use Rattle.class_tree.specs.Hierarchy.{IsHierarchy}
use Rattle.class_tree.specs.Laws.Decided.{same_bytes}
use Rattle.class_tree.specs.Layouts.{chain}
use Rattle.class_tree.specs.Names.{is_interface}
use Rattle.expanded_code.specs.Candidates.{HasNoFinalizer, HasRoom, Initialises, IsCandidate, KeepsFinals, declares_finalizer}
use Rattle.expanded_code.specs.Laws.Searches.{HasOne, HasSome, all_decided, at_most, below_decided, each_below_decided, each_decided, if_decided, one_decided, some_decided, three}
use Rattle.expanded_code.specs.Quiet.{IsQuiet}
use Rattle.inline_expand.proofs.DecidedOpen.{FindsOneField}
use Rattle.inline_expand.proofs.DecidedStanding.{quiet_decided}
use Rattle.inline_expand.proofs.DecidedWords.{HasAnswers, same_reference}
use Rattle.inline_expand.proofs.SoundClasses.{finals_are, initialises_decided}
use Rattle.member_link.specs.Laws.Scopes.{scope_is_at}
use Rattle.inline_expand.specs.Inner.StoreWords.{IsStored}
use Rattle.member_link.specs.DeclaredMembers.{Declared, own_method}
use Rattle.member_link.specs.FieldConstructors.{HandlesNone, HasDimensions, HasFieldConstructor, IsFree, constructor_descriptor, constructor_reference, field_types, handled}
use Rattle.member_link.specs.Fields.{FindsField}
use Rattle.member_link.specs.References.{Reference}
use Rattle.member_link.specs.Scope.{Scope, instructions, scope_at}
use Rattle.member_link.specs.Signatures.{reference_of}

-- ---- field constructors

nothing : {A : Type 0} (found : Option A) → Decision (found ≡ None)
nothing None = inl refl
nothing (Some item) = inr (λ e. none-some item (sym e))

other_reference : (found : Option Reference) (member : Reference) → Decision (found ≢ Some member)
other_reference None member = inl (λ e. none-some member e)
other_reference (Some one) member = denied (mapped (λ (e : one ≡ member). ap (λ (r : Reference). Some r) e) (λ e. same_Some one member e) (same_reference one member))

module _ (classes : Classes) (class : Name) where
  free_decided : (dimensions : ℕ) → Decision (IsFree classes class dimensions)
  free_decided dimensions =
      mapped (λ h. record { undeclared = h.0; unhandled = h.1 }) (λ free. (free.undeclared, free.unhandled))
      (both (nothing (own_method (headers_of classes) class init (constructor_descriptor (headers_of classes) class dimensions)))
      (all_decided (HandlesNone (constructor_reference (headers_of classes) class dimensions)) (λ file. handles_none file) classes.folder)) where
        handles_none : (file : ClassFile) → Decision (HandlesNone (constructor_reference (headers_of classes) class dimensions) file)
        handles_none file =
            all_decided (λ constant. handled file.pool constant ≢ Some (constructor_reference (headers_of classes) class dimensions))
            (λ constant. other_reference (handled file.pool constant) (constructor_reference (headers_of classes) class dimensions)) file.pool

  dimensions_decided : (dimensions : ℕ) → Decision (HasDimensions classes class dimensions)
  dimensions_decided dimensions =
      mapped (λ h. record { some = h.0.0; few = h.0.1; free = h.1.0; fewest = λ fewer some low. h.1.1 fewer low some })
      (λ has. ((has.some, has.few), (has.free, λ fewer low some. has.fewest fewer some low)))
      (both (both (at_most 1 dimensions) (at_most dimensions 8))
      (both (free_decided dimensions)
      (each_below_decided (λ fewer. 1 ≤ fewer → ¬ IsFree classes class fewer) (λ fewer. implied (at_most 1 fewer) (denied (free_decided fewer))) dimensions)))

  constructor_decided : Decision (HasFieldConstructor classes class)
  constructor_decided =
      mapped (λ below. record { dimensions = below.number; has = below.holds.0; fits = below.holds.1 })
      (λ c. record { number = c.dimensions; below = let few = c.has.few in omega (arith, few); holds = (c.has, c.fits) })
      (below_decided (λ n. HasDimensions classes class n × (length (constructor_descriptor (headers_of classes) class n) ≤ 65535))
      (λ n. both (dimensions_decided n) (at_most (length (constructor_descriptor (headers_of classes) class n)) 65535)) 9)

  -- ---- one class of a chain

  room_of : (count : ClassFile → ℕ) (most : ℕ)
      → Decision ((file : ClassFile) (number : ℕ) → slice_get classes.folder number ≡ Some file → (header_of file).name ≡ class → count file ≤ most)
  room_of count most =
      mapped (λ all file number is own. all number file is own) (λ all number file is own. all file number is own)
      (each_decided classes.folder (λ number file. (header_of file).name ≡ class → count file ≤ most)
      (λ number file is. implied (same_bytes (header_of file).name class) (at_most (count file) most)))

  room_decided : Decision (HasRoom classes class)
  room_decided =
      mapped (λ h. record { constants = h.0; methods = h.1; constructor = h.2 }) (λ room. (room.constants, room.methods, room.constructor))
      (three (room_of (λ file. length file.pool) 64535) (room_of (λ file. length file.methods) 65534) constructor_decided)

  no_finalizer : Decision (HasNoFinalizer (headers_of classes) class)
  no_finalizer = if_decided (named class (headers_of classes).folder) (λ header. IsFalse (declares_finalizer header)) (λ header is. is_false (declares_finalizer header))

-- ---- stores into final fields

-- the constant of a store into an instance field
abbrev stored_index : Instr → Option ℕ
stored_index (PutField index) = Some index
stored_index other = None

stored_index_is : (instr : Instr) (index : ℕ) → stored_index instr ≡ Some index → instr ≡ PutField index
stored_index_is (PutField own) index is = ap PutField (same_Some own index is)
stored_index_is other index is = absurd (none-some index is)

index_stored : (instr : Instr) (index : ℕ) → instr ≡ PutField index → stored_index instr ≡ Some index
index_stored instr index is = ap stored_index is

module _ (classes : Classes) (answers : HasAnswers (headers_of classes)) (fields_once : FindsOneField) (class : Name) where
  -- it is a final field of the class, and the method no initialiser of it
  abbrev IsMisplaced : Scope → Declared → Type 0
  IsMisplaced s field = (field.class ≡ class) × IsTrue (has field.member.flags FINAL) × (¬ Initialises s class)

  -- the instruction stores into such a field
  abbrev StoresMisplaced : Scope → Placed → Type 0
  StoresMisplaced s placed =
      HasSome (stored_index placed.instr) (λ index. HasSome (reference_of s.class.pool (constant_at s.class.pool index)) (λ r. HasSome (answers.field r) (IsMisplaced s)))

  -- a method of the folder has such an instruction
  abbrev HasStore : MethodAt → Type 0
  HasStore at = HasSome (scope_at classes at) (λ s. HasOne (instructions s) (λ number placed. StoresMisplaced s placed))

  abbrev OneStores : Type 0
  OneStores = HasOne classes.folder (λ number file. HasOne file.methods (λ place method. HasStore (record { class = number; method = place })))

  has_store : (at : MethodAt) → Decision (HasStore at)
  has_store at =
      some_decided (scope_at classes at) (λ s. HasOne (instructions s) (λ number placed. StoresMisplaced s placed))
      (λ s is. one_decided (instructions s) (λ number placed. StoresMisplaced s placed)
      (λ number placed there. some_decided (stored_index placed.instr)
      (λ index. HasSome (reference_of s.class.pool (constant_at s.class.pool index)) (λ r. HasSome (answers.field r) (IsMisplaced s)))
      (λ index stores. some_decided (reference_of s.class.pool (constant_at s.class.pool index)) (λ r. HasSome (answers.field r) (IsMisplaced s))
      (λ r names. some_decided (answers.field r) (IsMisplaced s)
      (λ field found. three (same_bytes field.class class) (is_true (has field.member.flags FINAL)) (denied (initialises_decided s class)))))))

  one_stores : Decision OneStores
  one_stores =
      one_decided classes.folder (λ number file. HasOne file.methods (λ place method. HasStore (record { class = number; method = place })))
      (λ number file is. one_decided file.methods (λ place method. HasStore (record { class = number; method = place }))
      (λ place method there. has_store (record { class = number; method = place })))

  -- what is found so is what the definition says
  to_stored : OneStores → IsStored classes class
  to_stored one =
      let has = one.holds.holds in
      let store = has.holds.holds in
      let field = store.holds.holds in
      let parts = scope_is_at classes (record { class = one.number; method = one.holds.number }) has.item has.is in
      record {
        at = record { class = one.number; method = one.holds.number };
        scope = has.item;
        number = has.holds.number;
        placed = has.holds.item;
        field = field.item;
        is_scope = has.is;
        there = has.holds.is;
        stores = record {
          index = store.item;
          stores = stored_index_is has.holds.item.instr store.item store.is;
          reference = store.holds.item;
          names = store.holds.is;
          finds =
              let r = store.holds.item in
              subst (λ (h : Headers). FindsField h r.class r.name r.desc (Some field.item)) (sym parts.headers)
              (subst (λ (o : Option Declared). FindsField (headers_of classes) r.class r.name r.desc o) field.is (answers.field_is r));
        };
        own = field.holds.0;
        is_final = field.holds.1;
        other = field.holds.2;
      }

  from_stored : IsStored classes class → OneStores
  from_stored stored =
      let parts = scope_is_at classes stored.at stored.scope stored.is_scope in
      let r = stored.stores.reference in
      record {
        number = stored.at.class;
        item = stored.scope.class;
        is = parts.of_folder;
        holds = record {
          number = stored.at.method;
          item = stored.scope.method;
          is = parts.of_class;
          holds = record {
            item = stored.scope;
            is = stored.is_scope;
            holds = record {
              number = stored.number;
              item = stored.placed;
              is = stored.there;
              holds = record {
                item = stored.stores.index;
                is = index_stored stored.placed.instr stored.stores.index stored.stores.stores;
                holds = record {
                  item = r;
                  is = stored.stores.names;
                  holds = record {
                    item = stored.field;
                    is = fields_once (headers_of classes) r.class r.name r.desc (answers.field r) (Some stored.field) (answers.field_is r)
                        (subst (λ (h : Headers). FindsField h r.class r.name r.desc (Some stored.field)) parts.headers stored.stores.finds);
                    holds = (stored.own, stored.is_final, stored.other);
                  };
                };
              };
            };
          };
        };
      }

  stored_decided : Decision (IsStored classes class)
  stored_decided = mapped to_stored from_stored one_stores

-- ---- candidates

module _ (classes : Classes) (hierarchy : IsHierarchy (headers_of classes)) (answers : HasAnswers (headers_of classes)) (fields_once : FindsOneField) (class : Name) where
  abbrev names : List Name
  names = chain (headers_of classes) class

  abbrev IsFitClass : Type 0
  IsFitClass =
      (IsQuiet (headers_of classes) class
      × HasSome (named class (headers_of classes).folder) (λ header. IsFalse (has header.flags ABSTRACT) × IsFalse (is_interface header)))
      × (AllByRecursion (HasNoFinalizer (headers_of classes)) names × (parameter_units (field_types (headers_of classes) class) ≤ 64))

  fit_decided : Decision IsFitClass
  fit_decided =
      both
      (both (quiet_decided (headers_of classes) hierarchy class)
      (some_decided (named class (headers_of classes).folder) (λ header. IsFalse (has header.flags ABSTRACT) × IsFalse (is_interface header))
      (λ header is. both (is_false (has header.flags ABSTRACT)) (is_false (is_interface header)))))
      (both (all_decided (HasNoFinalizer (headers_of classes)) (λ name. no_finalizer classes name) names)
      (at_most (parameter_units (field_types (headers_of classes) class)) 64))

  finals_decided : Decision (KeepsFinals classes class)
  finals_decided =
      mapped (finals_are classes class).1 (finals_are classes class).0
      (all_decided (λ name. ¬ IsStored classes name) (λ name. denied (stored_decided classes answers fields_once name)) names)

  pub candidate_decided : Decision (IsCandidate classes class)
  candidate_decided =
      mapped (λ h. record {
        quiet = h.0.0.0;
        header = h.0.0.1.item;
        found = h.0.0.1.is;
        concrete = h.0.0.1.holds.0;
        no_interface = h.0.0.1.holds.1;
        no_finalizer = h.0.1.0;
        narrow = h.0.1.1;
        room = h.1;
        finals = h.2;
      }) (λ c. (
        ((c.quiet, record { item = c.header; is = c.found; holds = (c.concrete, c.no_interface) }), (c.no_finalizer, c.narrow)),
        c.room,
        c.finals,
      ))
      (three fit_decided (all_decided (HasRoom classes) (λ name. room_decided classes name) names) finals_decided)
