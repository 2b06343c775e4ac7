-- Flat codes of hosts have a replacement: of each field it is decided which of its flags are cleared.
use Rattle.class_tree.specs.Layouts.{chain}
use Rattle.same_runs.specs.ClearedFields.{ClearsFinal, ConstantFinds, IsInstanceField, OpensPrivate, ReplacesByFlats, StoresInFlat, UsesField, UsesInFlat, reads_field, writes_field}
use Rattle.std.proofs.Common.{◌≡◌, ◌≢◌, ℕ, Bool, true, false, List, [], bytes_eq, slice_get, Option, Some, None, IsTrue, IsFalse, ◌⊎◌, ◌↔◌, ◌+◌, refl, sym, ap, subst, ◌∙◌, inl, inr}
use Rattle.std.specs.List.{list_any}
use Rattle.std.proofs.lemmas.Bool.{cases_eq}
use Rattle.std.proofs.lemmas.Option.{none-some, same_Some}
use Rattle.class_model.specs.Laws.Decisions.{Decision, both, denied, is_false, is_true, mapped}
use Rattle.class_model.specs.Members.{FINAL, PRIVATE, STATIC, has}
use Rattle.class_model.specs.Pool.{constant_at}
use Rattle.class_model.specs.declared.class_file.MethodAt.{MethodAt}
use Rattle.class_model.specs.declared.header.Header.{Header}
use Rattle.class_model.specs.declared.header.Member.{Member}
use Rattle.class_model.specs.declared.instr.Instr.TheVariants.{GetField, PutField}
use Rattle.class_tree.specs.Headers.{Classes, Headers, Name, headers_of}
use Rattle.class_tree.specs.Laws.Decided.{same_bytes, told, told_is}
use Rattle.expanded_code.specs.ExpandAnswers.{has_no_code}
use Rattle.expanded_code.specs.Laws.Searches.{HasOne, HasSome, one_decided, some_decided}
use Rattle.expanded_runs.proofs.Runs.CallTargets.{HasScope, scope_has}
use Rattle.expanded_runs.specs.ExpandedPrograms.{AreExpanded}
use Rattle.flow_code.specs.FlatCode.{FlatCode}
use Rattle.flow_code.specs.TypedFrames.{FolderFrames}
use Rattle.flow_code.specs.declared.point.FlatInstr.{FlatInstr}
use Rattle.flow_code.specs.declared.point.FlatInstr.TheVariants.{Of}
use Rattle.flow_code.specs.declared.point.Point.{Point}
use Rattle.member_link.specs.DeclaredMembers.{Declared, declared_by}
use Rattle.member_link.specs.Fields.{FindsField}
use Rattle.member_link.specs.Machine.Links.{AreLinksOf, IsLink}
use Rattle.member_link.specs.Machine.Programs.{Links}
use Rattle.member_link.specs.Machine.Replaced.{Replacement}
use Rattle.member_link.specs.References.{Reference}
use Rattle.member_link.specs.Scope.{Scope, scope_at}
use Rattle.member_link.specs.Signatures.{reference_of}
use Rattle.same_runs.specs.Flats.{Flats, flat_body, pool_of}

-- ---- fields that points use

-- the class and the index of the field that an instruction stores into, and that it reads or stores into
stored : FlatInstr → Option (ℕ × ℕ)
stored (Of class (PutField index)) = Some (class, index)
stored other = None

used : FlatInstr → Option (ℕ × ℕ)
used (Of class (GetField index)) = Some (class, index)
used (Of class (PutField index)) = Some (class, index)
used other = None

stored_is : (instr : FlatInstr) (field : ℕ × ℕ) → stored instr ≡ Some field → instr ≡ Of field.0 (PutField field.1)
unfolding stored
stored_is (Of class (PutField index)) field is = ap (λ (f : ℕ × ℕ). Of f.0 (PutField f.1)) (same_Some (class, index) field is)
stored_is other field is = absurd cc

used_is : (instr : FlatInstr) (field : ℕ × ℕ) → used instr ≡ Some field → (instr ≡ Of field.0 (GetField field.1)) ⊎ (instr ≡ Of field.0 (PutField field.1))
unfolding used
used_is (Of class (GetField index)) field is = inl (ap (λ (f : ℕ × ℕ). Of f.0 (GetField f.1)) (same_Some (class, index) field is))
used_is (Of class (PutField index)) field is = inr (ap (λ (f : ℕ × ℕ). Of f.0 (PutField f.1)) (same_Some (class, index) field is))
used_is other field is = absurd cc

is_stored : (instr : FlatInstr) (class index : ℕ) → instr ≡ Of class (PutField index) → stored instr ≡ Some (class, index)
unfolding stored
is_stored instr class index is = ap stored is

is_used : {point : Point} {class index : ℕ} → UsesField point class index → used point.instr ≡ Some (class, index)
unfolding used
is_used (reads_field class index is) = ap used is
is_used (writes_field class index is) = ap used is

uses_field : (point : Point) (field : ℕ × ℕ) → used point.instr ≡ Some field → UsesField point field.0 field.1
uses_field point field is = elim (used_is point.instr field is) [ inl reads ↦ reads_field field.0 field.1 reads | inr writes ↦ writes_field field.0 field.1 writes ]

-- what a look-up of a field finds at most
abbrev FindsOneField : Headers → Type 0
FindsOneField headers =
    (r : Reference) (one other : Option Declared) → FindsField headers r.class r.name r.desc one → FindsField headers r.class r.name r.desc other
    → one ≡ other

declared_of : Name → ℕ → List ℕ → List ℕ → Declared
declared_of class flags name desc = declared_by class (record { flags = flags; name = name; desc = desc })

same_parts : (one other : Declared) → one.class ≡ other.class → one.member.flags ≡ other.member.flags → one.member.name ≡ other.member.name
    → one.member.desc ≡ other.member.desc → one ≡ other
unfolding declared_of
same_parts one other class flags name desc =
    ap (λ c. declared_of c one.member.flags one.member.name one.member.desc) class
    ∙ ap (λ f. declared_of other.class f one.member.name one.member.desc) flags
    ∙ ap (λ n. declared_of other.class other.member.flags n one.member.desc) name
    ∙ ap (λ d. declared_of other.class other.member.flags other.member.name d) desc

same_declared : (one other : Declared) → Decision (one ≡ other)
same_declared one other =
    mapped (λ parts. same_parts one other parts.0.0 parts.0.1 parts.1.0 parts.1.1)
    (λ (e : one ≡ other).
    ((ap (λ (d : Declared). d.class) e, ap (λ (d : Declared). d.member.flags) e), (ap (λ (d : Declared). d.member.name) e, ap (λ (d : Declared). d.member.desc) e)))
    (both (both (same_bytes one.class other.class) (cases_eq one.member.flags other.member.flags))
    (both (same_bytes one.member.name other.member.name) (same_bytes one.member.desc other.member.desc)))

-- a site of a flat code is of a class at whose chain a field is declared
abbrev SiteAbove : Headers → Declared → FlatCode → Type 0
SiteAbove headers field flat = HasOne flat.sites (λ number site. IsTrue (list_any (bytes_eq field.class) (chain headers site.class)))

-- ---- flags

flags_of : Bool → Bool → ℕ
flags_of true true = FINAL + PRIVATE
flags_of true false = FINAL
flags_of false true = PRIVATE
flags_of false false = 0

final_told : (final private : Bool) → has (flags_of final private) FINAL ≡ final
unfolding flags_of
final_told true true = refl
final_told true false = refl
final_told false true = refl
final_told false false = refl

private_told : (final private : Bool) → has (flags_of final private) PRIVATE ≡ private
unfolding flags_of
private_told true true = refl
private_told true false = refl
private_told false true = refl
private_told false false = refl

told_as : {P : Type 0} (decision : Decision P) (flag : Bool) → flag ≡ told decision → IsTrue flag ↔ P
told_as decision flag is = (λ holds. (told_is decision).0 (sym is ∙ holds), λ holds. is ∙ (told_is decision).1 holds)

-- ---- the flat codes of a folder

module _ (classes : Classes) (links : Links) (are_links : AreLinksOf (headers_of classes) links) (finds_one : FindsOneField (headers_of classes)) (flats : Flats)
    (coded : (at : MethodAt) (flat : FlatCode) → flats at ≡ Some flat → (s : Scope) × (scope_at classes at ≡ Some s)) where
  abbrev headers : Headers
  headers = headers_of classes

  found_decided : (r : Reference) (field : Declared) → Decision (FindsField headers r.class r.name r.desc (Some field))
  found_decided r field = by link.found link.finds where
    link : IsLink (FindsField headers r.class r.name r.desc) (links.field r)
    link = are_links.field r

    by : (found : Option Declared) → FindsField headers r.class r.name r.desc found → Decision (FindsField headers r.class r.name r.desc (Some field))
    by None finds = inr (λ other. none-some field (finds_one r None (Some field) finds other))
    by (Some other) finds = mapped (λ same. subst (λ (d : Declared). FindsField headers r.class r.name r.desc (Some d)) same finds)
        (λ also. same_Some other field (finds_one r (Some other) (Some field) finds also)) (same_declared other field)

  finds_decided : (field : Declared) (named : ℕ × ℕ) → Decision (ConstantFinds classes named.0 named.1 field)
  finds_decided field named =
      mapped (λ some. record { reference = some.item; names = some.is; finds = some.holds }) (λ finds. record { item = finds.reference; is = finds.names; holds = finds.finds })
      (some_decided (reference_of (pool_of classes named.0) (constant_at (pool_of classes named.0) named.1)) (λ r. FindsField headers r.class r.name r.desc (Some field))
      (λ r is. found_decided r field))

  stores_decided : (flat : FlatCode) (field : Declared) → Decision (StoresInFlat classes flat field)
  stores_decided flat field =
      mapped (λ one. record {
        number = one.number;
        point = one.item;
        is = one.is;
        class = one.holds.item.0;
        index = one.holds.item.1;
        stores = stored_is one.item.instr one.holds.item one.holds.is;
        finds = one.holds.holds;
      }) (λ stores. record {
        number = stores.number;
        item = stores.point;
        is = stores.is;
        holds = record { item = (stores.class, stores.index); is = is_stored stores.point.instr stores.class stores.index stores.stores; holds = stores.finds };
      })
      (one_decided flat.points (λ number point. HasSome (stored point.instr) (λ named. ConstantFinds classes named.0 named.1 field))
      (λ number point is. some_decided (stored point.instr) (λ named. ConstantFinds classes named.0 named.1 field) (λ named there. finds_decided field named)))

  uses_decided : (flat : FlatCode) (field : Declared) → Decision (UsesInFlat classes flat field)
  uses_decided flat field =
      mapped (λ one. record {
        number = one.number;
        point = one.item;
        is = one.is;
        class = one.holds.item.0;
        index = one.holds.item.1;
        uses = uses_field one.item one.holds.item one.holds.is;
        finds = one.holds.holds;
      }) (λ uses. record {
        number = uses.number;
        item = uses.point;
        is = uses.is;
        holds = record { item = (uses.class, uses.index); is = is_used uses.uses; holds = uses.finds };
      })
      (one_decided flat.points (λ number point. HasSome (used point.instr) (λ named. ConstantFinds classes named.0 named.1 field))
      (λ number point is. some_decided (used point.instr) (λ named. ConstantFinds classes named.0 named.1 field) (λ named there. finds_decided field named)))

  -- ---- methods with flat code

  record HasFlat (P : MethodAt → FlatCode → Type 0) : Type 0 where
    at : MethodAt
    flat : FlatCode
    is : flats at ≡ Some flat
    holds : P at flat

  flat_decided : (P : MethodAt → FlatCode → Type 0) → ((at : MethodAt) (flat : FlatCode) → Decision (P at flat)) → Decision (HasFlat P)
  flat_decided P each =
      mapped (λ class.
      let method = class.holds in
      let flat = method.holds in
      record { at = record { class = class.number; method = method.number }; flat = flat.item; is = flat.is; holds = flat.holds })
      (λ has.
      let scope = coded has.at has.flat has.is in
      let stands : HasScope classes has.at scope.0 = scope_has classes has.at scope.0 scope.1 in
      record {
        number = has.at.class;
        item = stands.file;
        is = stands.is_file;
        holds = record { number = has.at.method; item = stands.method; is = stands.is_method; holds = record { item = has.flat; is = has.is; holds = has.holds } };
      })
      (one_decided classes.folder
      (λ class file. HasOne file.methods (λ method m. HasSome (flats (record { class = class; method = method })) (P (record { class = class; method = method }))))
      (λ class file is. one_decided file.methods (λ method m. HasSome (flats (record { class = class; method = method })) (P (record { class = class; method = method })))
      (λ method m there. some_decided (flats (record { class = class; method = method })) (P (record { class = class; method = method }))
      (λ flat found. each (record { class = class; method = method }) flat))))

  -- ---- flags of a field

  -- the instance field of these numbers, of which this holds
  record HasInstanceField (class number : ℕ) (P : Declared → Type 0) : Type 0 where
    field : Declared
    is_field : IsInstanceField headers class number field
    holds : P field

  -- the field that stands at these numbers
  record StandsThere (class number : ℕ) (header : Header) (member : Member) : Type 0 where
    of_folder : slice_get headers.folder class ≡ Some header
    declared : slice_get header.fields number ≡ Some member

  only_field : (class number : ℕ) (header : Header) (member : Member) → StandsThere class number header member → (field : Declared)
      → IsInstanceField headers class number field → field ≡ declared_by header.name member
  only_field class number header member there field is =
      let same : is.header ≡ header = same_Some is.header header (sym is.of_folder ∙ there.of_folder) in
      let own : field.member ≡ member = same_Some field.member member (sym is.declared ∙ ap (λ (h : Header). slice_get h.fields number) same ∙ there.declared) in
      ap (λ name. declared_by name field.member) (is.of_class ∙ ap (λ (h : Header). h.name) same) ∙ ap (declared_by header.name) own

  field_decided : (class number : ℕ) (P : Declared → Type 0) → ((field : Declared) → Decision (P field)) → Decision (HasInstanceField class number P)
  field_decided class number P each = by (slice_get headers.folder class) refl where
    by_member : (header : Header) → slice_get headers.folder class ≡ Some header → (found : Option Member) → slice_get header.fields number ≡ found
        → Decision (HasInstanceField class number P)
    by_member header of_folder None none = inr (λ stands.
        let same : stands.is_field.header ≡ header = same_Some stands.is_field.header header (sym stands.is_field.of_folder ∙ of_folder) in
        none-some stands.field.member (sym none ∙ ap (λ (h : Header). slice_get h.fields number) (sym same) ∙ stands.is_field.declared))
    by_member header of_folder (Some member) declared =
        let there : StandsThere class number header member = record { of_folder = of_folder; declared = declared } in
        mapped (λ holds. record {
          field = declared_by header.name member;
          is_field = record { header = header; of_folder = of_folder; declared = declared; of_class = refl; instance = holds.0 };
          holds = holds.1;
        }) (λ stands.
        let same = only_field class number header member there stands.field stands.is_field in
        (subst (λ (d : Declared). IsFalse (has d.member.flags STATIC)) same stands.is_field.instance, subst P same stands.holds))
        (both (is_false (has member.flags STATIC)) (each (declared_by header.name member)))

    by : (found : Option Header) → slice_get headers.folder class ≡ found → Decision (HasInstanceField class number P)
    by None none = inr (λ stands. none-some stands.is_field.header (sym none ∙ stands.is_field.of_folder))
    by (Some header) of_folder = by_member header of_folder (slice_get header.fields number) refl

  final_decided : (class number : ℕ) → Decision (ClearsFinal classes flats class number)
  final_decided class number =
      mapped (λ stands.
      let flat = stands.holds.1 in
      record {
        field = stands.field;
        is_field = stands.is_field;
        final = stands.holds.0;
        at = flat.at;
        flat = flat.flat;
        is_flat = flat.is;
        of = flat.holds.0.number;
        site = flat.holds.0.item;
        is_site = flat.holds.0.is;
        of_chain = flat.holds.0.holds;
        stored = flat.holds.1;
      }) (λ clears. record {
        field = clears.field;
        is_field = clears.is_field;
        holds = (
          clears.final,
          record {
            at = clears.at;
            flat = clears.flat;
            is = clears.is_flat;
            holds = (record { number = clears.of; item = clears.site; is = clears.is_site; holds = clears.of_chain }, clears.stored);
          },
        );
      })
      (field_decided class number (λ field. IsTrue (has field.member.flags FINAL) × HasFlat (λ at flat. SiteAbove headers field flat × StoresInFlat classes flat field))
      (λ field. both (is_true (has field.member.flags FINAL))
      (flat_decided (λ at flat. SiteAbove headers field flat × StoresInFlat classes flat field)
      (λ at flat. both (one_decided flat.sites (λ number site. IsTrue (list_any (bytes_eq field.class) (chain headers site.class)))
      (λ number site there. is_true (list_any (bytes_eq field.class) (chain headers site.class)))) (stores_decided flat field)))))

  private_decided : (class number : ℕ) → Decision (OpensPrivate classes flats class number)
  private_decided class number =
      mapped (λ stands.
      let flat = stands.holds.1 in
      record {
        field = stands.field;
        is_field = stands.is_field;
        private = stands.holds.0;
        at = flat.at;
        flat = flat.flat;
        is_flat = flat.is;
        other = flat.holds.0;
        used = flat.holds.1;
      }) (λ opens. record {
        field = opens.field;
        is_field = opens.is_field;
        holds = (opens.private, record { at = opens.at; flat = opens.flat; is = opens.is_flat; holds = (opens.other, opens.used) });
      })
      (field_decided class number (λ field. IsTrue (has field.member.flags PRIVATE) × HasFlat (λ at flat. (at.class ≢ class) × UsesInFlat classes flat field))
      (λ field. both (is_true (has field.member.flags PRIVATE))
      (flat_decided (λ at flat. (at.class ≢ class) × UsesInFlat classes flat field) (λ at flat. both (denied (cases_eq at.class class)) (uses_decided flat field)))))

  some_replacement : (r : Replacement) × ReplacesByFlats classes links flats r
  some_replacement = (
    record { body = flat_body classes links flats; cleared = λ class number. flags_of (told (final_decided class number)) (told (private_decided class number)); added = λ class. [] },
    record {
      bodies = λ at. refl;
      finals = λ class number. told_as (final_decided class number) _ (final_told (told (final_decided class number)) (told (private_decided class number)));
      privates = λ class number. told_as (private_decided class number) _ (private_told (told (final_decided class number)) (told (private_decided class number)));
      none_added = λ class. refl;
    },
  )

pub has_replacement : (classes : Classes) (typed : FolderFrames) (links : Links) (flats : Flats)
    → FindsOneField (headers_of classes) → AreLinksOf (headers_of classes) links → AreExpanded classes typed flats
    → (r : Replacement) × ReplacesByFlats classes links flats r
has_replacement classes typed links flats finds_one are_links expanded = some_replacement classes links are_links finds_one flats coded where
  coded : (at : MethodAt) (flat : FlatCode) → flats at ≡ Some flat → (s : Scope) × (scope_at classes at ≡ Some s)
  coded at flat is = by (scope_at classes at) refl where
    by : (scope : Option Scope) → scope_at classes at ≡ scope → (s : Scope) × (scope_at classes at ≡ Some s)
    by None none = absurd ((expanded at flat is).0 (has_no_code none))
    by (Some s) there = (s, there)
