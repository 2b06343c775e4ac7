-- Overriding (JVM Specification SE 8, 5.4.5).
use Rattle.std.specs.Prelude.{◌≡◌, ◌≢◌, ◌==◌, not, ℕ, List, length, reverse, drop, take_while, IsTrue}
use Rattle.class_model.specs.Characters.{slash}
use Rattle.class_model.specs.Names.{init, clinit}
use Rattle.class_tree.specs.Headers.{Name, Headers}
use Rattle.class_tree.specs.Subtype.{IsBelow}
use Rattle.member_link.specs.DeclaredMembers.{Declared, IsMethod, is_inherited, is_package_access, is_open}

-- the name of a class behind its last slash, reversed
abbrev simple_reversed : Name → List ℕ
simple_reversed name = take_while (λ byte. not (byte == slash)) (reverse name)

-- the package of a class: its name up to the last slash (5.3)
abbrev pub package_of : Name → List ℕ
package_of name = reverse (drop (length (simple_reversed name)) (reverse name))

-- A method of a class below that of another, of its name and descriptor, neither private nor static; no initialiser.
pub record MayOverride (headers : Headers) (low high : Declared) : Type 0 where
  pub below : IsBelow headers low.class high.class
  pub same_name : low.member.name ≡ high.member.name
  pub same_desc : low.member.desc ≡ high.member.desc
  pub low_inherited : IsTrue (is_inherited low.member)
  pub high_inherited : IsTrue (is_inherited high.member)
  pub no_init : high.member.name ≢ init
  pub no_clinit : high.member.name ≢ clinit

-- It overrides one that is public or protected, one of package access in its own package, and what a method between
-- them overrides that it overrides itself.
pub data Overrides (headers : Headers) : Declared → Declared → Type 0 where
  overrides_open : (low high : Declared)
      → MayOverride headers low high
      → IsTrue (is_open high.member)
      → Overrides headers low high
  overrides_in_package : (low high : Declared)
      → MayOverride headers low high
      → IsTrue (is_package_access high.member)
      → package_of low.class ≡ package_of high.class
      → Overrides headers low high
  overrides_through : (low middle high : Declared)
      → MayOverride headers low high
      → IsMethod headers middle
      → Overrides headers low middle
      → Overrides headers middle high
      → Overrides headers low high
