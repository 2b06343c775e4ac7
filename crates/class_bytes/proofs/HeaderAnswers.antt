-- A header checked and kept part by part.
use Rattle.std.proofs.Common.{◌≡◌, ℕ, ◌+◌, ◌*◌, List, ◌++◌, length, map, Option, Some, Err, refl, subst}
use Rattle.class_model.specs.Answers.{Tells}
use Rattle.class_model.specs.Checks.{Check, AllHold, Fault}
use Rattle.class_model.specs.Laws.Answers.{goes_on, stops}
use Rattle.class_model.specs.Laws.Checks.{both_hold}
use Rattle.class_model.specs.Members.{class_name_checks, super_checks, interfaces_checks}
use Rattle.class_model.specs.Pool.{Constants}
use Rattle.class_model.specs.PoolChecks.{class_at}
use Rattle.class_model.specs.declared.fault.ClassFault.{ClassFault}
use Rattle.class_model.specs.declared.header.Header.{Header}
use Rattle.class_model.specs.declared.header.Member.{Member}
use Rattle.class_bytes.specs.Inner.HeaderParts.{members_checks, members_len, cut_header_checks, class_name_in, member_in, header_in}
use Rattle.class_bytes.specs.declared.header_checks.MemberKind.{MemberKind}
use Rattle.class_bytes.specs.declared.header_checks.MemberKind.TheVariants as kinds
use Rattle.class_bytes.specs.declared.header_cutting.CutHeader.{CutHeader}
use Rattle.class_bytes.specs.declared.header_cutting.MemberHead.{MemberHead}
use Rattle.class_bytes.proofs.HeaderMembers.{AreOwn}
use Rattle.class_bytes.proofs.ClassAttrs.{refused_too}

abbrev AreNames : Constants → List ℕ → List (List ℕ) → Type 0
AreNames pool indices names = names ≡ map (class_name_in pool) indices

-- what is told of members from a place on
abbrev RefusesMembers : MemberKind → Constants → ClassFault → ℕ → List MemberHead → Type 0
RefusesMembers kind pool e at members = Tells (members_checks kind pool at members) (AreOwn pool members (at + members_len members)) (Err e)

same_members : (kind : MemberKind) (pool : Constants) (e : ClassFault) (start at : ℕ) (some members : List MemberHead) → start ≡ at → some ≡ members → RefusesMembers kind pool e start some → RefusesMembers kind pool e at members
same_members kind pool e start at some members place same told =
    subst (λ (n : ℕ). RefusesMembers kind pool e n members) place (subst (λ (ms : List MemberHead). RefusesMembers kind pool e start ms) same told)

module _ (pool : Constants) (at : ℕ) (head : CutHeader) where
  abbrev pub fields_at : ℕ
  fields_at = at + 8 + 2 * length head.interfaces + 2

  abbrev pub methods_at : ℕ
  methods_at = fields_at + members_len head.fields + 2

  -- the parts
  abbrev names : List (Check Fault)
  names = class_name_checks pool (at + 2) head.this_class

  abbrev supers : List (Check Fault)
  supers = super_checks pool (at + 4) head.super_class

  abbrev interfaces : List (Check Fault)
  interfaces = interfaces_checks pool (at + 8) head.interfaces

  abbrev fields : List (Check Fault)
  fields = members_checks kinds.Field pool fields_at head.fields

  abbrev methods : List (Check Fault)
  methods = members_checks kinds.Method pool methods_at head.methods

  abbrev IsHeader : Header → Type 0
  IsHeader header = header ≡ header_in pool head

  module _ (name : AllHold names) (super : AllHold supers) where
    behind : (e : ClassFault) → Tells (interfaces ++ (fields ++ methods)) IsHeader (Err e) → Tells (cut_header_checks pool at head) IsHeader (Err e)
    behind e told = goes_on names (supers ++ (interfaces ++ (fields ++ methods))) IsHeader (Err e) name (goes_on supers (interfaces ++ (fields ++ methods)) IsHeader (Err e) super told)

    -- a part is refused
    pub interfaces_refused : (e : ClassFault) (indices : List ℕ) → indices ≡ head.interfaces → Tells (interfaces_checks pool (at + 8) indices) (AreNames pool indices) (Err e) → Tells (cut_header_checks pool at head) IsHeader (Err e)
    interfaces_refused e indices same told =
        behind e (stops interfaces (fields ++ methods) (AreNames pool head.interfaces) IsHeader e (subst (λ (xs : List ℕ). Tells (interfaces_checks pool (at + 8) xs) (AreNames pool xs) (Err e)) same told))

    module _ (interface : AllHold interfaces) where
      pub fields_refused : (e : ClassFault) (start : ℕ) (members : List MemberHead) → start ≡ fields_at → members ≡ head.fields
          → RefusesMembers kinds.Field pool e start members → Tells (cut_header_checks pool at head) IsHeader (Err e)
      fields_refused e start members place same told =
          let here = same_members kinds.Field pool e start fields_at members head.fields place same told in
          behind e (goes_on interfaces (fields ++ methods) IsHeader (Err e) interface (stops fields methods (AreOwn pool head.fields (fields_at + members_len head.fields)) IsHeader e here))

      pub methods_refused : AllHold fields → (e : ClassFault) (start : ℕ) (members : List MemberHead) → start ≡ methods_at → members ≡ head.methods
          → RefusesMembers kinds.Method pool e start members → Tells (cut_header_checks pool at head) IsHeader (Err e)
      methods_refused field e start members place same told =
          let here = same_members kinds.Method pool e start methods_at members head.methods place same told in
          let end = methods_at + members_len head.methods in
          behind e (goes_on interfaces (fields ++ methods) IsHeader (Err e) interface (goes_on fields methods IsHeader (Err e) field (refused_too methods (AreOwn pool head.methods end) IsHeader e here)))

      -- every part holds
      pub all_hold : AllHold fields → AllHold methods → AllHold (cut_header_checks pool at head)
      all_hold field method =
          both_hold names (supers ++ (interfaces ++ (fields ++ methods))) name
          (both_hold supers (interfaces ++ (fields ++ methods)) super (both_hold interfaces (fields ++ methods) interface (both_hold fields methods field method)))

  pub is_header : (name : List ℕ) (super : Option (List ℕ)) (all : List (List ℕ)) (own others : List Member) → class_at pool head.this_class ≡ Some name → super ≡ class_at pool head.super_class
      → all ≡ map (class_name_in pool) head.interfaces → own ≡ map (member_in pool) head.fields → others ≡ map (member_in pool) head.methods
      → IsHeader (record { name = name; flags = head.flags; super_name = super; interfaces = all; fields = own; methods = others })
  is_header name super all own others named above called one other = rw (named, above, called, one, other) refl
