-- Ends of final methods: by a key of a name and a descriptor, or of these and a package, the greatest number of a class that is
-- below one which declares such a method.
use Rattle.std.specs.Prelude.{◌≡◌, ◌≤◌, ◌<◌, ◌⊎◌, ℕ, List, take, length, nat_eq, bit_xor, slice_get, slice_index_or, Some, IsTrue, IsFalse}
use Rattle.std.specs.Hash.FoldHasher.{initial, write, finish}
use Rattle.std.specs.List.{All}
use Rattle.std.specs.Map.{lookup}
use Rattle.class_model.specs.Members.{has, FINAL}
use Rattle.class_model.specs.declared.header.Header.{Header}
use Rattle.class_model.specs.declared.header.Member.{Member}
use Rattle.class_tree.specs.Headers.{Name, Headers}
use Rattle.class_tree.specs.Names.{is_interface}
use Rattle.class_tree.specs.Order.{header_at}
use Rattle.class_tree.specs.declared.place.Place.TheVariants.{Folder}
use Rattle.member_link.specs.Declarations.{OverridesNoFinal}
use Rattle.member_link.specs.DeclaredMembers.{declared_by, is_inherited, is_open}
use Rattle.member_link.specs.Overriding.{package_of}
use Rattle.member_link.specs.declared.spans.Span.{Span}
use Rattle.member_link.specs.declared.spans.Spans.{Spans}

-- the bytes at the front of a text, which make its key
abbrev pub front : List ℕ → List ℕ
front text = take 1024 text

-- a key of a name and a descriptor
unfoldable pub texts_key : List ℕ → List ℕ → ℕ
texts_key name desc = finish (write (write initial (front name)) (front desc))

-- a key of a text
unfoldable pub text_key : List ℕ → ℕ
text_key text = finish (write initial text)

-- the key of the name and descriptor of a method
abbrev pub signature_key : Member → ℕ
signature_key member = texts_key member.name member.desc

-- the key of the package of a class
abbrev pub package_key : Name → ℕ
package_key class = text_key (package_of class)

-- the key of both
abbrev pub key_in : ℕ → Member → ℕ
key_in home member = bit_xor (signature_key member) home

-- the end of a key is at a number or behind it
pub record Reaches (ends : List (ℕ × ℕ)) (key number : ℕ) : Type 0 where
  pub end : ℕ
  pub is : lookup (nat_eq key) ends ≡ Some end
  pub far : number ≤ end

-- the ends that reached a number still do
pub record Grows (before after : List (ℕ × ℕ)) : Type 0 where
  pub kept : (key number : ℕ) → Reaches before key number → Reaches after key number

-- no end reaches a class of this package and span that has the name and descriptor of a method
pub record IsFree (ends : List (ℕ × ℕ)) (home : ℕ) (span : Span) (member : Member) : Type 0 where
  pub of_all : ¬ Reaches ends (signature_key member) span.first
  pub of_package : ¬ Reaches ends (key_in home member) span.first

-- what the ends say of a method of a class: where it is final they reach its span's end, and where it is public or protected
-- they do too unless none before reached it
pub record IsSweptFrom (before after : List (ℕ × ℕ)) (home : ℕ) (span : Span)
    (member : Member) : Type 0 where
  pub open_ : IsTrue (is_inherited member)
      → IsTrue (has member.flags FINAL)
      → IsTrue (is_open member)
      → Reaches after (signature_key member) span.last
  pub closed : IsTrue (is_inherited member)
      → IsTrue (has member.flags FINAL)
      → IsFalse (is_open member)
      → Reaches after (key_in home member) span.last
  pub through : IsTrue (is_inherited member)
      → IsTrue (is_open member)
      → IsFree before home span member ⊎ Reaches after (signature_key member) span.last

-- the same, where a method that no end reaches overrides no final method
pub record IsSwept (headers : Headers) (ends : List (ℕ × ℕ)) (class : Name) (span : Span)
    (member : Member) : Type 0 where
  pub open_ : IsTrue (is_inherited member)
      → IsTrue (has member.flags FINAL)
      → IsTrue (is_open member)
      → Reaches ends (signature_key member) span.last
  pub closed : IsTrue (is_inherited member)
      → IsTrue (has member.flags FINAL)
      → IsFalse (is_open member)
      → Reaches ends (key_in (package_key class) member) span.last
  pub through : IsTrue (is_inherited member)
      → IsTrue (is_open member)
      → OverridesNoFinal headers (declared_by class member)
      ⊎ Reaches ends (signature_key member) span.last

-- the methods at the front of a class, so many, override no final method
pub record AreKnownOf (headers : Headers) (header : Header) (known : ℕ) : Type 0 where
  pub each : (index : ℕ) (member : Member)
      → slice_get header.methods index ≡ Some member
      → index < known
      → OverridesNoFinal headers (declared_by header.name member)

-- so it is in each class of the folder
pub record AreKnown (headers : Headers) (known : List ℕ) : Type 0 where
  pub len : length known ≡ length headers.folder
  pub each : (index : ℕ) (header : Header)
      → header_at headers (Folder index) ≡ Some header
      → AreKnownOf headers header (slice_index_or known index 0)

-- the end of a method, if it is final, reaches a number
abbrev pub IsRaised : List (ℕ × ℕ) → ℕ → Member → Type 0
IsRaised ends end member = IsTrue (has member.flags FINAL) → Reaches ends (signature_key member) end

-- the ends of the final methods of the folder's interfaces reach a number
pub record AreRaised (headers : Headers) (ends : List (ℕ × ℕ)) (end : ℕ) : Type 0 where
  pub each : (index : ℕ) (header : Header)
      → header_at headers (Folder index) ≡ Some header
      → IsTrue (is_interface header)
      → All (IsRaised ends end) header.methods

-- the ends say so of the classes whose numbers are below this one
pub record AreSweptBelow (headers : Headers) (spans : Spans) (ends : List (ℕ × ℕ))
    (number : ℕ) : Type 0 where
  pub raised : AreRaised headers ends (length spans.indices.items)
  pub each : (index : ℕ) (header : Header) (span : Span)
      → header_at headers (Folder index) ≡ Some header
      → slice_get spans.of_classes.items index ≡ Some span
      → span.first < number
      → All (IsSwept headers ends header.name span) header.methods
