-- What instructions name that are ready: fields that are found, and constants whose texts are there.
use Rattle.std.proofs.Common.{◌≡◌, ◌+◌, ℕ, zero, suc, List, [], ◌∷◌, length, slice_get, Option, Some, None, IsSome, option_and_then, option_map, refl, sym, ap, subst, ◌∙◌}
use Rattle.std.proofs.lemmas.Option.{none-some, same_Some}
use Rattle.class_model.specs.Checks.{AllHold}
use Rattle.class_model.specs.Header.{header_of}
use Rattle.class_model.specs.Laws.Checks.{first_holds, others_hold}
use Rattle.class_model.specs.Laws.ClassFiles.{parts_hold}
use Rattle.class_model.specs.Pool.{Constants, constant_at}
use Rattle.class_model.specs.PoolChecks.{IsClassAt, IsFieldConstant, class_at, class_name_of, constant_checks, entries_checks, utf8_at}
use Rattle.class_model.specs.Spelling.{constant_bytes}
use Rattle.class_model.specs.declared.class_file.ClassFile.{ClassFile}
use Rattle.class_model.specs.declared.header.Member.{Member}
use Rattle.class_model.specs.declared.instr.Instr.TheVariants.{GetField, PutField}
use Rattle.class_model.specs.declared.pool.Const.{Const}
use Rattle.class_model.specs.declared.pool.Const.TheVariants.{Class, Double, Fieldref, Float, Integer, InterfaceMethodref, InvokeDynamic, Long, MethodHandle, MethodType, Methodref, NameAndType, String, Utf8}
use Rattle.class_tree.specs.Headers.{Classes, Headers, IsClassFile, Name, headers_of}
use Rattle.class_tree.specs.Trees.{IsTree}
use Rattle.member_link.specs.Declarations.{site_of}
use Rattle.member_link.specs.DeclaredMembers.{Declared}
use Rattle.member_link.specs.Fields.{FindsField}
use Rattle.member_link.specs.Forms.{IsInstanceForm}
use Rattle.member_link.specs.Machine.Links.{AreLinksOf, reference_to}
use Rattle.member_link.specs.Machine.Programs.{Links}
use Rattle.member_link.specs.References.{Reference, reference_at}
use Rattle.member_link.specs.Signatures.{reference_of}
use Rattle.member_link.specs.Uses.{UseScope, asked_of_reference, field_use_checks, fieldref_use_checks}
use Rattle.same_runs.specs.Flats.{pool_of}
use Rattle.same_runs.specs.ReadyCode.{IsReadyInstr}
use Rattle.written_types.proofs.Standing.{all_at}

-- a look-up finds one field
abbrev pub FindsOne : Type 0
FindsOne =
    (headers : Headers) (class : Name) (name desc : List ℕ) (one other : Option Declared)
    → FindsField headers class name desc one
    → FindsField headers class name desc other
    → one ≡ other

-- ---- texts

record EntryHolds (major : ℕ) (pool : Constants) (constant : Const) : Type 0 where
  place : ℕ
  holds : AllHold (constant_checks major pool place constant)

entry_holds : (major : ℕ) (pool : Constants) (at : ℕ) (entries : Constants) (number : ℕ) (constant : Const)
    → AllHold (entries_checks major pool at entries)
    → slice_get entries number ≡ Some (Some constant)
    → EntryHolds major pool constant
entry_holds major pool at [] number constant all is = absurd (none-some (Some constant) is)
entry_holds major pool at (None ∷ entries) zero constant all is = absurd (none-some constant (same_Some None (Some constant) is))
entry_holds major pool at (None ∷ entries) (suc number) constant all is = entry_holds major pool at entries number constant all is
entry_holds major pool at (Some one ∷ entries) zero constant all is =
    record {
      place = at;
      holds = subst (λ (c : Const). AllHold (constant_checks major pool at c)) (same_Some one constant (same_Some (Some one) (Some constant) is))
          (first_holds (constant_checks major pool at one) (entries_checks major pool (at + length (constant_bytes one)) entries) all);
    }
entry_holds major pool at (Some one ∷ entries) (suc number) constant all is =
    entry_holds major pool (at + length (constant_bytes one)) entries number constant
    (others_hold (constant_checks major pool at one) (entries_checks major pool (at + length (constant_bytes one)) entries) all) is

slot_of : (pool : Constants) (index : ℕ) (constant : Const) → constant_at pool index ≡ Some constant → slice_get pool index ≡ Some (Some constant)
slot_of pool index constant = by (slice_get pool index) refl where
  by : (found : Option (Option Const)) → slice_get pool index ≡ found → constant_at pool index ≡ Some constant
      → slice_get pool index ≡ Some (Some constant)
  by None none is = absurd (none-some constant (rw (none) at is))
  by (Some None) some is = absurd (none-some constant (rw (some) at is))
  by (Some (Some one)) some is = some ∙ ap (λ (c : Const). Some (Some c)) (same_Some one constant (rw (some) at is))

some_of : {A : Type 0} (found : Option A) → IsSome found → (a : A) × (found ≡ Some a)
some_of None some = absurd cc
some_of (Some a) some = (a, refl)

module _ (classes : Classes) (tree : IsTree classes) where
  pool_holds : (class : ℕ) (file : ClassFile) → slice_get classes.folder class ≡ Some file
      → AllHold (entries_checks file.major file.pool 10 file.pool)
  pool_holds class file there =
      let read : IsClassFile file = all_at IsClassFile classes.folder class file tree.folder there in
      subst (λ (c : ClassFile). AllHold (entries_checks c.major c.pool 10 c.pool)) (sym read.is) (parts_hold read.cut read.holds).pool

  pub class_text : (class : ℕ) (file : ClassFile) (index text : ℕ) → slice_get classes.folder class ≡ Some file
      → constant_at file.pool index ≡ Some (Class text)
      → (name : Name) × (utf8_at file.pool text ≡ Some name)
  class_text class file index text there is =
      some_of (utf8_at file.pool text)
      (entry_holds file.major file.pool 10 file.pool index (Class text) (pool_holds class file there) (slot_of file.pool index (Class text) is)).holds.0

  pub string_text : (class : ℕ) (file : ClassFile) (index text : ℕ) → slice_get classes.folder class ≡ Some file
      → constant_at file.pool index ≡ Some (String text)
      → (bytes : List ℕ) × (utf8_at file.pool text ≡ Some bytes)
  string_text class file index text there is =
      some_of (utf8_at file.pool text)
      (entry_holds file.major file.pool 10 file.pool index (String text) (pool_holds class file there) (slot_of file.pool index (String text) is)).holds.0

  -- a Class constant names a class
  pub class_there : (class : ℕ) (file : ClassFile) (index : ℕ) → slice_get classes.folder class ≡ Some file → IsClassAt file.pool index
      → (name : Name) × (class_at file.pool index ≡ Some name)
  class_there class file index there is = by (constant_at file.pool index) refl is where
    by : (found : Option Const) → constant_at file.pool index ≡ found → IsSome (option_and_then class_name_of found)
        → (name : Name) × (class_at file.pool index ≡ Some name)
    by None none some = absurd cc
    by (Some (Class text)) at some = let named = class_text class file index text there at in (named.0, rw (at, named.1) refl)
    by (Some (Utf8 bytes)) at some = absurd cc
    by (Some (Integer number)) at some = absurd cc
    by (Some (Float bits)) at some = absurd cc
    by (Some (Long number)) at some = absurd cc
    by (Some (Double bits)) at some = absurd cc
    by (Some (String text)) at some = absurd cc
    by (Some (Fieldref owner member)) at some = absurd cc
    by (Some (Methodref owner member)) at some = absurd cc
    by (Some (InterfaceMethodref owner member)) at some = absurd cc
    by (Some (NameAndType name desc)) at some = absurd cc
    by (Some (MethodHandle kind reference)) at some = absurd cc
    by (Some (MethodType desc)) at some = absurd cc
    by (Some (InvokeDynamic bootstrap member)) at some = absurd cc

  pub same_file : (class : ℕ) (file : ClassFile) → slice_get classes.folder class ≡ Some file → pool_of classes class ≡ file.pool
  same_file class file there = rw there refl

  -- ---- fields

  module _ (links : Links) (are_links : AreLinksOf (headers_of classes) links) (one : FindsOne) where
    field_linked : (r : Reference) (member : Declared) → FindsField (headers_of classes) r.class r.name r.desc (Some member)
        → (field : Reference) × (links.field r ≡ Some field)
    field_linked r member finds =
        let link = are_links.field r in (
          reference_to member,
          link.same ∙ ap (option_map reference_to) (one (headers_of classes) r.class r.name r.desc link.found (Some member) link.finds finds),
        )

    -- a reference to a field that is ready
    field_found : (s : UseScope) → s.headers ≡ headers_of classes → (constant : Option Const) (r : Reference) → IsFieldConstant constant
        → reference_of s.pool constant ≡ Some r
        → AllHold (fieldref_use_checks s IsInstanceForm constant)
        → (field : Reference) × (links.field r ≡ Some field)
    field_found s same (Some (Fieldref owner member)) r may is holds = by (reference_at s.pool owner member) is holds where
      by : (found : Option Reference) → found ≡ Some r → AllHold (asked_of_reference (field_use_checks s IsInstanceForm) found)
          → (field : Reference) × (links.field r ≡ Some field)
      by None none all = absurd (none-some r none)
      by (Some other) some all =
          let found = all.1.1.0 in
          let own : other ≡ r = same_Some other r some in
          field_linked r found.0
          (subst (λ (x : Reference). FindsField (headers_of classes) x.class x.name x.desc (Some found.0)) own
          (subst (λ (h : Headers). FindsField h other.class other.name other.desc (Some found.0)) same found.1))
    field_found s same None r may is holds = absurd may
    field_found s same (Some (Utf8 text)) r may is holds = absurd may
    field_found s same (Some (Integer number)) r may is holds = absurd may
    field_found s same (Some (Float bits)) r may is holds = absurd may
    field_found s same (Some (Long number)) r may is holds = absurd may
    field_found s same (Some (Double bits)) r may is holds = absurd may
    field_found s same (Some (Class name)) r may is holds = absurd may
    field_found s same (Some (String text)) r may is holds = absurd may
    field_found s same (Some (Methodref owner member)) r may is holds = absurd may
    field_found s same (Some (InterfaceMethodref owner member)) r may is holds = absurd may
    field_found s same (Some (NameAndType name desc)) r may is holds = absurd may
    field_found s same (Some (MethodHandle kind reference)) r may is holds = absurd may
    field_found s same (Some (MethodType desc)) r may is holds = absurd may
    field_found s same (Some (InvokeDynamic bootstrap member)) r may is holds = absurd may

    no_member : Member
    no_member = record { flags = 0; name = []; desc = [] }

    scope_of_file : ClassFile → UseScope
    scope_of_file file = record { headers = headers_of classes; pool = file.pool; site = site_of (header_of file) no_member }

    pub get_found : (locals class index : ℕ) → IsReadyInstr classes locals class (GetField index) → (r : Reference)
        → reference_of (pool_of classes class) (constant_at (pool_of classes class) index) ≡ Some r
        → (field : Reference) × (links.field r ≡ Some field)
    unfolding scope_of_file
    get_found locals class index ready r is =
        field_found (scope_of_file ready.file) refl (constant_at ready.file.pool index) r ready.operand
        (subst (λ (pool : Constants). reference_of pool (constant_at pool index) ≡ Some r) (same_file class ready.file ready.there) is)
        (ready.linked no_member)

    pub put_found : (locals class index : ℕ) → IsReadyInstr classes locals class (PutField index) → (r : Reference)
        → reference_of (pool_of classes class) (constant_at (pool_of classes class) index) ≡ Some r
        → (field : Reference) × (links.field r ≡ Some field)
    unfolding scope_of_file
    put_found locals class index ready r is =
        field_found (scope_of_file ready.file) refl (constant_at ready.file.pool index) r ready.operand
        (subst (λ (pool : Constants). reference_of pool (constant_at pool index) ≡ Some r) (same_file class ready.file ready.there) is)
        (ready.linked no_member)
