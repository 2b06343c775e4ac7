use Rattle.std.specs.Prelude.{◌≡◌, ◌+◌, refl, ℕ, zero, suc, List, [], ◌∷◌, length, slice_get, Option, Some, None, IsSome}
use Rattle.std.proofs.Common.{ap, ◌∙◌, subst}
use Rattle.class_model.specs.Checks.{AllHold}
use Rattle.class_model.specs.Laws.Checks.{first_holds, others_hold}
use Rattle.class_model.specs.Pool.{Constants, constant_at}
use Rattle.class_model.specs.PoolChecks.{utf8_at, class_at, name_at, descriptor_at, IsClassAt, IsNameAndTypeAt, class_name_of, name_and_type_of, constant_checks, entries_checks}
use Rattle.class_model.specs.Spelling.{constant_bytes}
use Rattle.class_model.specs.declared.pool.Const.{Const}
use Rattle.class_model.specs.declared.pool.Const.TheVariants as consts
use Rattle.member_link.specs.References.{Reference, reference_at}
use Rattle.typed_programs.proofs.Folders.{some_of}

pub some_there : {A : Type 0} (o : Option A) → IsSome o → (a : A) × (o ≡ Some a)
some_there None is = cc
some_there (Some a) is = (a, refl)

pub entry_holds : (major : ℕ) (pool : Constants) (at : ℕ) (entries : Constants) → AllHold (entries_checks major pool at entries)
    → (n : ℕ) (c : Const) → slice_get entries n ≡ Some (Some c)
    → (place : ℕ) × AllHold (constant_checks major pool place c)
entry_holds major pool at [] all n c is = cc
entry_holds major pool at (None ∷ entries) all zero c is = cc
entry_holds major pool at (None ∷ entries) all (suc n) c is = entry_holds major pool at entries all n c is
entry_holds major pool at (Some d ∷ entries) all zero c is =
    let same : d ≡ c = some_of (some_of is) in (
      at,
      subst (λ (x : Const). AllHold (constant_checks major pool at x)) same
          (first_holds (constant_checks major pool at d) (entries_checks major pool (at + length (constant_bytes d)) entries) all),
    )
entry_holds major pool at (Some d ∷ entries) all (suc n) c is =
    entry_holds major pool (at + length (constant_bytes d)) entries
    (others_hold (constant_checks major pool at d) (entries_checks major pool (at + length (constant_bytes d)) entries) all) n c is

pub constant_holds : (major : ℕ) (pool : Constants) → AllHold (entries_checks major pool 10 pool) → (index : ℕ) (c : Const)
    → constant_at pool index ≡ Some c → (place : ℕ) × AllHold (constant_checks major pool place c)
constant_holds major pool all index c is = by (slice_get pool index) refl where
  by : (o : Option (Option Const)) → slice_get pool index ≡ o → (place : ℕ) × AllHold (constant_checks major pool place c)
  by None e = let no : None ≡ Some c = rw e at is in cc
  by (Some None) e = let no : None ≡ Some c = rw e at is in cc
  by (Some (Some d)) e =
      let same : d ≡ c = some_of (rw e at is) in
      entry_holds major pool 10 pool all index c (e ∙ ap (λ (x : Const). Some (Some x)) same)

abbrev pub HoldsEach : ℕ → Constants → Type 0
HoldsEach major pool = (index : ℕ) (c : Const) → constant_at pool index ≡ Some c → (place : ℕ)
    × AllHold (constant_checks major pool place c)

module _ (major : ℕ) (pool : Constants) (holds : HoldsEach major pool) where
  pub class_text : (index : ℕ) → IsClassAt pool index → (name : List ℕ) × (class_at pool index ≡ Some name)
  class_text index is = by (constant_at pool index) refl where
    by : (o : Option Const) → constant_at pool index ≡ o → (name : List ℕ) × (class_at pool index ≡ Some name)
    by (Some (consts.Class n)) e =
        let there = some_there (utf8_at pool n) (holds index (consts.Class n) e).1.0 in
        (there.0, rw e there.1)
    by None e = let no : IsSome {T = ℕ} None = rw e at is in cc
    by (Some c) e = let no : IsSome (class_name_of c) = rw e at is in cc

  pub record MemberText (index : ℕ) : Type 0 where
    pub name : List ℕ
    pub desc : List ℕ
    pub is_name : name_at pool index ≡ Some name
    pub is_desc : descriptor_at pool index ≡ Some desc

  pub member_text : (index : ℕ) → IsNameAndTypeAt pool index → MemberText index
  member_text index is = by (constant_at pool index) refl where
    by : (o : Option Const) → constant_at pool index ≡ o → MemberText index
    by (Some (consts.NameAndType n d)) e =
        let both = (holds index (consts.NameAndType n d) e).1.0 in
        let name = some_there (utf8_at pool n) both.0 in
        let desc = some_there (utf8_at pool d) both.1 in
        record { name = name.0; desc = desc.0; is_name = rw e name.1; is_desc = rw e desc.1 }
    by None e = let no : IsSome {T = ℕ × ℕ} None = rw e at is in cc
    by (Some c) e = let no : IsSome (name_and_type_of c) = rw e at is in cc

  pub record ReferenceText (class member : ℕ) : Type 0 where
    pub reference : Reference
    pub is : reference_at pool class member ≡ Some reference
    pub is_name : name_at pool member ≡ Some reference.name
    pub is_desc : descriptor_at pool member ≡ Some reference.desc

  pub reference_text : (class member : ℕ) → IsClassAt pool class → IsNameAndTypeAt pool member → ReferenceText class member
  reference_text class member of_class of_member =
      let c = class_text class of_class in
      let t = member_text member of_member in
      record {
        reference = record { class = c.0; name = t.name; desc = t.desc };
        is = rw c.1 (rw t.is_name (rw t.is_desc refl));
        is_name = t.is_name;
        is_desc = t.is_desc;
      }
