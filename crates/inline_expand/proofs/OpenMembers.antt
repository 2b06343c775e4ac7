-- Members that are accessible from a host's class.
use Rattle.std.proofs.Common.{◌≡◌, ◌↔◌, ◌⊎◌, ◌||◌, ℕ, Bool, Option, Some, None, IsSome, IsTrue, IsFalse, is_some, codes, refl, sym, ap, subst, ◌∙◌, inl, inr}
use Rattle.std.proofs.lemmas.Bool.{false≢true}
use Rattle.std.proofs.lemmas.Option.{same_Some}
use Rattle.class_model.specs.Members.{has, PRIVATE, PROTECTED, STATIC}
use Rattle.class_model.specs.Pool.{Constants, constant_at}
use Rattle.class_model.specs.declared.instr.Instr.{Instr}
use Rattle.class_model.specs.declared.instr.Instr.TheVariants.{GetField, GetStatic, PutField, PutStatic}
use Rattle.class_tree.specs.Headers.{Name, Headers, named}
use Rattle.class_tree.specs.Hierarchy.{IsHierarchy}
use Rattle.class_tree.specs.Order.{header_at, place_of}
use Rattle.class_tree.specs.Subtype.{IsArray}
use Rattle.class_tree.specs.declared.place.Place.{Place}
use Rattle.class_tree.specs.declared.place.Place.TheVariants.{Folder, Library}
use Rattle.expanded_code.specs.Callees.{IsOpenField, IsOpenFieldAt, IsOpenMethod, NamesOpen, clone_of_array, opened_field, package_field, package_method, public_field, public_method}
use Rattle.expanded_code.specs.Quiet.{IsOfFolder}
use Rattle.inline_expand.specs.Inner.Found.{IsFolderPlace}
use Rattle.inline_expand.specs.Inner.Open.{IsOpenToAll, WillBeOpened}
use Rattle.member_link.specs.DeclaredMembers.{Declared, is_package_access}
use Rattle.member_link.specs.Found.{IsFieldFound}
use Rattle.member_link.specs.Laws.FolderClasses.{folder_index, found_in_folder}
use Rattle.member_link.specs.Overriding.{package_of}
use Rattle.member_link.specs.References.{Reference}
use Rattle.member_link.specs.Scope.{Scope}
use Rattle.member_link.specs.Signatures.{reference_of}
use Rattle.member_link.specs.declared.found.Found.{Found}

-- ---- classes of the folder

some_of : {X : Type 0} (option : Option X) → IsSome option → (x : X) × (option ≡ Some x)
some_of None is = absurd cc
some_of (Some x) is = (x, refl)

-- a field that is found is one of the folder where its place is
pub folder_decides : (headers : Headers) → IsHierarchy headers → (found : Found) (field : Declared) → IsFieldFound headers found field → IsFolderPlace found.place ↔ IsOfFolder headers field.class
folder_decides headers hierarchy found field is = (to found.place refl, from)
  where
    place : place_of headers field.class ≡ Some found.place
    place = ap (place_of headers) (sym is.own_class) ∙ (hierarchy.of_place found.place is.header is.at).is_place

    to : (place : Place) → found.place ≡ place → IsFolderPlace place → IsOfFolder headers field.class
    to (Folder index) at folder =
        let named_own = found_in_folder headers hierarchy index is.header (ap (header_at headers) (sym at) ∙ is.at) in
        ap is_some (ap (λ (name : Name). named name headers.folder) (sym is.own_class) ∙ named_own)
    to (Library index) at folder = absurd folder

    from : IsOfFolder headers field.class → IsFolderPlace found.place
    from folder =
        let class = some_of (named field.class headers.folder) folder in
        let index = folder_index headers field.class class.0 class.1 in
        subst IsFolderPlace (same_Some (Folder index.0) found.place (sym index.2 ∙ place)) tt

-- ---- fields

-- one that is neither open to all nor open in its package is open where it will be opened
pub opened_decides :
    (headers : Headers)
    → IsHierarchy headers
    → (host : Name) (found : Found) (field : Declared)
    → IsFieldFound headers found field
    → ¬ IsOpenToAll field.member.flags
    → package_of host ≡ package_of field.class
    → IsFalse (is_package_access field.member || has field.member.flags PROTECTED)
    → WillBeOpened found ↔ IsOpenField headers host field
opened_decides headers hierarchy host found field is not_all same no_package = (to, from)
  where
    folder : IsFolderPlace found.place ↔ IsOfFolder headers field.class
    folder = folder_decides headers hierarchy found field is

    to : WillBeOpened found → IsOpenField headers host field
    to opened = opened_field (ap (λ (flags : ℕ). has flags PRIVATE) (sym is.same_flags) ∙ opened.is_private) (ap (λ (flags : ℕ). has flags STATIC) (sym is.same_flags) ∙ opened.of_instance) (folder.0 opened.of_folder) same

    from : IsOpenField headers host field → WillBeOpened found
    from (public_field is_public unprotected) = absurd (not_all (record { is_public = is_public; unprotected = unprotected }))
    from (package_field open_ same_package) = absurd (false≢true (sym no_package ∙ open_))
    from (opened_field is_private of_instance of_folder same_package) = record {
      is_private = ap (λ (flags : ℕ). has flags PRIVATE) is.same_flags ∙ is_private;
      of_instance = ap (λ (flags : ℕ). has flags STATIC) is.same_flags ∙ of_instance;
      of_folder = folder.1 of_folder;
    }

-- ---- methods

-- one that is neither open to all nor open in its package is open where it is the clone of an array
pub clone_decides :
    (host class : Name) (method : Declared)
    → ¬ IsOpenToAll method.member.flags
    → (IsTrue (is_package_access method.member || has method.member.flags PROTECTED) → package_of host ≡ package_of method.class → ⊥)
    → IsArray class
    → IsOpenMethod host class method ↔ (method.member.name ≡ codes "clone")
clone_decides host class method not_all no_package deep = (to, λ clone. clone_of_array deep clone)
  where
    to : IsOpenMethod host class method → method.member.name ≡ codes "clone"
    to (public_method is_public unprotected) = absurd (not_all (record { is_public = is_public; unprotected = unprotected }))
    to (package_method open_ same) = absurd (no_package open_ same)
    to (clone_of_array deep clone) = clone

-- ---- references

-- what holds of the one reference of a constant holds of each
pub of_reference :
    (IsOpen : Headers → Reference → Type 0) (s : Scope) (index : ℕ) (headers : Headers) (pool : Constants) (reference : Reference) (result : Bool)
    → headers ≡ s.headers
    → pool ≡ s.class.pool
    → Some reference ≡ reference_of pool (constant_at pool index)
    → IsTrue result ↔ IsOpen headers reference
    → IsTrue result ↔ ((other : Reference) → reference_of s.class.pool (constant_at s.class.pool index) ≡ Some other → IsOpen s.headers other)
of_reference IsOpen s index headers pool reference result same own read told = (
  λ passed other is. subst (IsOpen s.headers) (same_Some reference other (sym named_is ∙ is)) (subst (λ (h : Headers). IsOpen h reference) same (told.0 passed)),
  λ all. told.1 (subst (λ (h : Headers). IsOpen h reference) (sym same) (all reference named_is)),
)
  where
    named_is : reference_of s.class.pool (constant_at s.class.pool index) ≡ Some reference
    named_is = ap (λ (p : Constants). reference_of p (constant_at p index)) (sym own) ∙ sym read

-- ---- instructions

-- an instruction that names a field
pub names_field :
    (s : Scope) (host : Name) (index : ℕ) (instr : Instr) (result : Bool)
    → (instr ≡ GetStatic index) ⊎ ((instr ≡ PutStatic index) ⊎ ((instr ≡ GetField index) ⊎ (instr ≡ PutField index)))
    → IsTrue result ↔ IsOpenFieldAt s host index
    → IsTrue result ↔ NamesOpen s host instr
names_field s host index instr result (inl is) told = subst (λ (i : Instr). IsTrue result ↔ NamesOpen s host i) (sym is) told
names_field s host index instr result (inr (inl is)) told = subst (λ (i : Instr). IsTrue result ↔ NamesOpen s host i) (sym is) told
names_field s host index instr result (inr (inr (inl is))) told = subst (λ (i : Instr). IsTrue result ↔ NamesOpen s host i) (sym is) told
names_field s host index instr result (inr (inr (inr is))) told = subst (λ (i : Instr). IsTrue result ↔ NamesOpen s host i) (sym is) told
