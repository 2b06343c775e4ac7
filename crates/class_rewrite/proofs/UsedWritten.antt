-- The fields that written code uses, as far as flags of theirs are cleared for that, are those that its emitted items use.
use Rattle.std.proofs.Common.{◌≡◌, ◌⊎◌, inl, inr, ℕ, List, bytes_eq, slice_get, Option, Some, None, option_and_then, option_map, refl, sym, ap, subst, ◌∙◌}
use Rattle.std.specs.List.{AllByRecursion, list_any}
use Rattle.std.proofs.lemmas.Option.{none-some, same_Some}
use Rattle.class_model.specs.Laws.Lists.{at_index}
use Rattle.class_model.specs.Pool.{Constants, constant_at}
use Rattle.class_model.specs.PoolChecks.{IsFieldConstant}
use Rattle.class_model.specs.declared.class_file.ClassFile.{ClassFile}
use Rattle.class_model.specs.declared.class_file.MethodAt.{MethodAt}
use Rattle.class_model.specs.declared.header.Header.{Header}
use Rattle.class_model.specs.declared.instr.Instr.{Instr}
use Rattle.class_model.specs.declared.instr.Instr.TheVariants.{GetField, PutField}
use Rattle.class_rewrite.proofs.FirstEntries.{file_starts, first_is_none}
use Rattle.class_rewrite.proofs.NeededConstants.{ItemMeant, written_meant}
use Rattle.class_rewrite.proofs.UsedFound.{FindsOne}
use Rattle.class_rewrite.proofs.UsedItems.{GrownLaws, Has, IsNamedIn, Use, emitted_from, from_form, gets, index_of, instr_of, own_reference, puts, to_form, use_back, use_of, used_so, uses, written_from}
use Rattle.class_rewrite.proofs.UsedItems as items_of_uses
use Rattle.class_rewrite.proofs.UsedLists.{fields_same}
use Rattle.class_rewrite.proofs.WrittenPoints.{Sort}
use Rattle.class_rewrite.proofs.WrittenSorts.{sorts_are}
use Rattle.class_rewrite.specs.Inner.Meanings.{AreItemsOf, IsMeant, IsReady, Meaning, rewriting, scope}
use Rattle.class_rewrite.specs.Inner.Outcomes.{AreFieldsOf, ClearsFinalHere, OpensPrivateHere}
use Rattle.class_rewrite.specs.Inner.UsedFields.{NamesField, OfSome, StoresFinal, UsesPrivate}
use Rattle.class_rewrite.specs.Inner.WrittenCodes.{one_of}
use Rattle.class_rewrite.specs.declared.outcome.FieldAt.{FieldAt}
use Rattle.class_tree.specs.Headers.{IsClassFile, Name, headers_of}
use Rattle.class_tree.specs.Layouts.{chain}
use Rattle.code_drafts.specs.Emits.{Writing}
use Rattle.code_layout.specs.declared.emitted.EmitItem.{EmitItem}
use Rattle.making_code.specs.Items.{WInstr, WItem, carried}
use Rattle.making_code.specs.Laws.AddedConstants.{Compares}
use Rattle.making_code.specs.Laws.GrownPools.{Begins, begins_itself, begins_through, grow_begins}
use Rattle.member_link.specs.DeclaredMembers.{Declared}
use Rattle.member_link.specs.Fields.{FindsField}
use Rattle.member_link.specs.Laws.Scopes.{scope_is_at}
use Rattle.member_link.specs.Machine.Links.{reference_to}
use Rattle.member_link.specs.References.{Reference}
use Rattle.member_link.specs.Signatures.{reference_of}
use Rattle.plan_flow.specs.PlanScope.{PlanScope, field_of, member_of}
use Rattle.plan_flow.specs.Written.Finish.{Finished}
use Rattle.plan_flow.specs.Written.Routes.{Routes}
use Rattle.plan_flow.specs.Written.WrittenCode.{Form, short, written_items}
use Rattle.plan_flow.specs.Written.WrittenConstants.{code_needs}
use Rattle.plan_flow.specs.Written.WrittenPrograms.{StoresField, UsesField, WrittenMethod, reads, stores, writes}
use Rattle.stackmap_emit.specs.FramedItems.{finished_by}

-- laws of the crates below
pub record UsedLaws : Type 0 where
  pub finds_one : FindsOne
  pub compares : Compares
  pub grown : GrownLaws

-- ---- instructions that use a field

module _ (s : PlanScope) (field : Reference) where
  pub record IsUse (instr : WInstr) : Type 0 where
    pub class : ℕ
    pub old : Use
    pub is : instr ≡ carried class (instr_of old)
    pub found : field_of s class (index_of old) ≡ Some field

  of_used : {instr : WInstr} → UsesField s field instr → IsUse instr
  of_used (writes class index is) = record { class = class; old = puts index; is = refl; found = is }
  of_used (reads class index is) = record { class = class; old = gets index; is = refl; found = is }

  used_by : (class : ℕ) (old : Use) → field_of s class (index_of old) ≡ Some field → UsesField s field (carried class (instr_of old))
  used_by class (puts index) is = writes class index is
  used_by class (gets index) is = reads class index is

  pub record IsStore (instr : WInstr) : Type 0 where
    pub class : ℕ
    pub index : ℕ
    pub is : instr ≡ carried class (PutField index)
    pub found : field_of s class index ≡ Some field

  of_stored : {instr : WInstr} → StoresField s field instr → IsStore instr
  of_stored (stores class index is) = record { class = class; index = index; is = refl; found = is }

put_old : (index other : ℕ) (old : Use) → puts index ≡ items_of_uses.at_index other old → (i : ℕ) × (old ≡ puts i)
put_old index other (puts i) is = (i, refl)
put_old index other (gets i) is = absurd (apart index other is) where
  apart : (one other : ℕ) → puts one ≡ gets other → ⊥
  apart one other e = cc e

-- an instruction that stores or reads
which : (instr : Instr) (index : ℕ) → (instr ≡ PutField index) ⊎ (instr ≡ GetField index) → (u : Use) × (instr ≡ instr_of u) × (index_of u ≡ index)
which instr index (inl put) = (puts index, put, refl)
which instr index (inr get) = (gets index, get, refl)

either : (instr : Instr) (u : Use) → instr ≡ instr_of u → (instr ≡ PutField (index_of u)) ⊎ (instr ≡ GetField (index_of u))
either instr (puts index) is = inl is
either instr (gets index) is = inr is

module _ (laws : UsedLaws) (of : Writing) (m : Meaning) (pool : Constants) (items : List EmitItem) (routes : Routes) (form : Form)
    (is_meant : IsMeant of m) (are : AreItemsOf of m routes pool items) (ready : IsReady of m) where
  abbrev s : PlanScope
  s = scope of m

  abbrev blocks : List Finished
  blocks = finished_by s routes

  abbrev file : ClassFile
  file = are.host.class

  at_file : slice_get of.classes.folder m.at.class ≡ Some file
  at_file = (scope_is_at of.classes m.at are.host are.is_host).of_folder

  read : IsClassFile file
  read = at_index IsClassFile of.classes.folder m.at.class file is_meant.folder.tree.folder at_file

  begins : Begins file.pool pool
  begins =
      begins_through file.pool are.before pool are.begins
      (grow_begins 64535 (code_needs s m.constructor (written_items short blocks)) are.before pool are.grows)

  first : constant_at pool 0 ≡ None
  first = first_is_none file.pool pool (file_starts file read) begins

  own_refers : (other : ClassFile) (index : ℕ) → slice_get s.classes.folder s.flat.host.class ≡ Some other → IsFieldConstant (constant_at other.pool index)
      → reference_of pool (constant_at pool index) ≡ reference_of other.pool (constant_at other.pool index)
  own_refers other index there =
      let same : file ≡ other =
      same_Some file other (sym at_file ∙ ap (λ (at : MethodAt). slice_get of.classes.folder at.class) (sym ready.own) ∙ there) in
      subst
      (λ (f : ClassFile). IsFieldConstant (constant_at f.pool index)
      → reference_of pool (constant_at pool index) ≡ reference_of f.pool (constant_at f.pool index))
      same (own_reference laws.grown m.links file read pool begins index)

  meant : AllByRecursion (ItemMeant s m.constructor pool) (written_items short blocks)
  meant = written_meant s m.constructor pool laws.compares 64535 pool (begins_itself pool) are.before short blocks are.grows

  sorts : AllByRecursion (λ (w : WItem). Sort s w.instr) (written_items short blocks)
  sorts = sorts_are s ready.host ready.code ready.carries short routes

  -- ---- fields

  to_field : (class index new : ℕ) → reference_of pool (constant_at pool new) ≡ member_of s class index
      → (field : Reference) → NamesField of.classes pool new field
      → field_of s class index ≡ Some field
  to_field class index new refers field names =
      let link = is_meant.links.field names.reference in
      let found : link.found ≡ Some names.found =
      laws.finds_one (headers_of of.classes) names.reference.class names.reference.name names.reference.desc link.found (Some names.found) link.finds names.finds in
      ap (option_and_then m.links.field) (sym refers ∙ names.refers) ∙ link.same ∙ ap (option_map reference_to) found ∙ ap Some names.same

  from_field : (class index new : ℕ) → reference_of pool (constant_at pool new) ≡ member_of s class index
      → (field : Reference) → field_of s class index ≡ Some field
      → NamesField of.classes pool new field
  from_field class index new refers field is = by (member_of s class index) refl where
    linked : (r : Reference) → member_of s class index ≡ Some r
        → (found : Option Declared) → FindsField (headers_of of.classes) r.class r.name r.desc found
        → option_map reference_to found ≡ Some field
        → NamesField of.classes pool new field
    linked r e None finds same = absurd (none-some field same)
    linked r e (Some found) finds same = record {
      reference = r;
      refers = refers ∙ e;
      found = found;
      finds = finds;
      same = same_Some (reference_to found) field same;
    }

    by : (found : Option Reference) → member_of s class index ≡ found → NamesField of.classes pool new field
    by None e = absurd (none-some field (sym (ap (option_and_then m.links.field) e) ∙ is))
    by (Some r) e =
        let link = is_meant.links.field r in
        linked r e link.found link.finds (sym link.same ∙ sym (ap (option_and_then m.links.field) e) ∙ is)

  -- ---- items

  abbrev Named : ℕ → Use → Use → Type 0
  Named class old new = IsNamedIn s m.constructor pool first own_refers class old new

  record Written (u : Use) : Type 0 where
    class : ℕ
    old : Use
    named : Named class old u
    has : Has class old (written_items form blocks)

  written : (k : ℕ) (item : EmitItem) → slice_get items k ≡ Some item → (u : Use) → item.instr ≡ instr_of u → Written u
  written k item is u uses_it =
      let w = written_from s m.constructor pool short blocks 0 items (written_items short blocks) are.items_are k item is in
      let used = uses s m.constructor pool first own_refers w.2.numbers w.0.instr
      (at_index (λ (x : WItem). Sort s x.instr) (written_items short blocks) k w.0 sorts w.1)
      (at_index (ItemMeant s m.constructor pool) (written_items short blocks) k w.0 meant w.1).instr
      u (ap use_of (sym w.2.is ∙ uses_it) ∙ use_back u) in
      record {
        class = used.class;
        old = used.old;
        named = used.named;
        has = to_form used.class used.old form blocks (record { place = k; one = w.0; there = w.1; is = used.is });
      }

  record Emitted (class : ℕ) (old : Use) : Type 0 where
    place : ℕ
    item : EmitItem
    is_item : slice_get items place ≡ Some item
    new : Use
    is : item.instr ≡ instr_of new
    named : Named class old new

  emitted : (class : ℕ) (old : Use) → Has class old (written_items form blocks) → Emitted class old
  emitted class old has =
      let h = from_form class old form blocks has in
      let e = emitted_from s m.constructor pool short blocks 0 items (written_items short blocks) are.items_are h.place h.one h.there in
      let used = used_so s m.constructor pool first own_refers e.2.numbers h.one.instr
      (at_index (λ (x : WItem). Sort s x.instr) (written_items short blocks) h.place h.one sorts h.there)
      (at_index (ItemMeant s m.constructor pool) (written_items short blocks) h.place h.one meant h.there).instr
      class old h.is in
      record { place = h.place; item = e.0; is_item = e.1; new = used.new; is = e.2.is ∙ used.is; named = used.named }

  -- ---- what is used

  abbrev other : WrittenMethod
  other = one_of of routes form

  clears : (class number : ℕ) → OfSome (StoresFinal of.classes of.flat pool) items class number → ClearsFinalHere (rewriting of m) other class number
  clears class number some =
      let index = some.holds.index in
      let n = some.holds.final.names in
      let site = some.holds.final.of_site in
      let w = written some.place some.item some.is_item (puts index) some.holds.is in
      let old = put_old index (index_of (puts index)) w.old w.named.kind in
      let refers = w.named.refers ∙ ap (λ (o : Use). member_of s w.class (index_of o)) old.1 in
      let header : n.is_field.header ≡ site.header = same_Some n.is_field.header site.header (sym n.is_field.of_folder ∙ site.of_folder) in
      let class_is : n.field.class ≡ site.header.name = ap (λ (r : Reference). r.class) n.is_field.named ∙ ap (λ (h : Header). h.name) header in
      record {
        field = n.field;
        member = some.holds.final.member;
        is_field = n.is_field;
        final = some.holds.final.final;
        of = site.of;
        site = site.site;
        is_site = site.is_site;
        of_chain = ap (λ (name : Name). list_any (bytes_eq name) (chain (headers_of of.classes) site.site.class)) class_is ∙ site.of_chain;
        place = w.has.place;
        item = w.has.one;
        is_item = w.has.there;
        stored = subst (StoresField s n.field) (sym (w.has.is ∙ ap (λ (o : Use). carried w.class (instr_of o)) old.1))
            (stores w.class old.0 (to_field w.class old.0 index refers n.field n.named));
      }

  cleared : (class number : ℕ) → ClearsFinalHere (rewriting of m) other class number → OfSome (StoresFinal of.classes of.flat pool) items class number
  cleared class number h =
      let store = of_stored s h.field h.stored in
      let e = emitted store.class (puts store.index) (record { place = h.place; one = h.item; there = h.is_item; is = store.is }) in
      record {
        place = e.place;
        item = e.item;
        is_item = e.is_item;
        holds = record {
          index = index_of e.new;
          is = e.is ∙ ap instr_of e.named.kind;
          final = record {
            member = h.member;
            names = record {
              field = h.field;
              named = from_field store.class store.index (index_of e.new) e.named.refers h.field store.found;
              is_field = h.is_field;
            };
            final = h.final;
            of_site = record {
              header = h.is_field.header;
              of_folder = h.is_field.of_folder;
              of = h.of;
              site = h.site;
              is_site = h.is_site;
              of_chain =
                  ap (λ (name : Name). list_any (bytes_eq name) (chain (headers_of of.classes) h.site.class))
                  (sym (ap (λ (r : Reference). r.class) h.is_field.named))
                  ∙ h.of_chain;
            };
          };
        };
      }

  opens : (class number : ℕ) → OfSome (UsesPrivate of.classes of.flat pool) items class number → OpensPrivateHere (rewriting of m) m.at other class number
  opens class number some =
      let n = some.holds.private.names in
      let u = which some.item.instr some.holds.index some.holds.is in
      let w = written some.place some.item some.is_item u.0 u.1 in
      let named : NamesField of.classes pool (index_of u.0) n.field = subst (λ (i : ℕ). NamesField of.classes pool i n.field) (sym u.2) n.named in
      record {
        field = n.field;
        member = some.holds.private.member;
        is_field = n.is_field;
        private = some.holds.private.private;
        other = λ same. some.holds.private.other (sym same ∙ ap (λ (at : MethodAt). at.class) (sym ready.own));
        place = w.has.place;
        item = w.has.one;
        is_item = w.has.there;
        used = subst (UsesField s n.field) (sym w.has.is)
            (used_by s n.field w.class w.old (to_field w.class (index_of w.old) (index_of u.0) w.named.refers n.field named));
      }

  opened : (class number : ℕ) → OpensPrivateHere (rewriting of m) m.at other class number → OfSome (UsesPrivate of.classes of.flat pool) items class number
  opened class number h =
      let use_there = of_used s h.field h.used in
      let e = emitted use_there.class use_there.old (record { place = h.place; one = h.item; there = h.is_item; is = use_there.is }) in
      record {
        place = e.place;
        item = e.item;
        is_item = e.is_item;
        holds = record {
          index = index_of e.new;
          is = either e.item.instr e.new e.is;
          private = record {
            member = h.member;
            names = record {
              field = h.field;
              named = from_field use_there.class (index_of use_there.old) (index_of e.new) e.named.refers h.field use_there.found;
              is_field = h.is_field;
            };
            private = h.private;
            other = λ same. h.other (ap (λ (at : MethodAt). at.class) (sym ready.own) ∙ sym same);
          };
        };
      }

  pub finals_are : (finals : List FieldAt) → AreFieldsOf (OfSome (StoresFinal of.classes of.flat pool) items) finals
      → AreFieldsOf (ClearsFinalHere (rewriting of m) other) finals
  finals_are finals are_finals = fields_same (OfSome (StoresFinal of.classes of.flat pool) items) (ClearsFinalHere (rewriting of m) other) finals clears cleared are_finals

  pub privates_are : (privates : List FieldAt) → AreFieldsOf (OfSome (UsesPrivate of.classes of.flat pool) items) privates
      → AreFieldsOf (OpensPrivateHere (rewriting of m) m.at other) privates
  privates_are privates are_privates =
      fields_same (OfSome (UsesPrivate of.classes of.flat pool) items) (OpensPrivateHere (rewriting of m) m.at other) privates opens opened are_privates
