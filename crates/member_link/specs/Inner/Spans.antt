-- Numbers of the folder's classes by which the classes below each, as superclasses lead to it, have the numbers behind its own.
use Rattle.std.specs.Prelude.{◌≡◌, ◌<◌, ◌≤◌, ℕ, slice_get, Some}
use Rattle.class_model.specs.declared.header.Header.{Header}
use Rattle.class_tree.specs.Headers.{Headers}
use Rattle.class_tree.specs.Hierarchy.{superclass_of}
use Rattle.class_tree.specs.Order.{header_at}
use Rattle.class_tree.specs.declared.place.Place.TheVariants.{Folder}
use Rattle.member_link.specs.declared.spans.Span.{Span}
use Rattle.member_link.specs.declared.spans.Spans.{Spans}

-- the span of a class is within that of its superclass, where that is one of the folder
pub record IsWithinSuper (headers : Headers) (spans : Spans) (index : ℕ) (span : Span) : Type 0 where
  pub within : (above : ℕ)
      → superclass_of headers (Folder index) ≡ Some (Folder above)
      → (high : Span)
      × (slice_get spans.of_classes.items above ≡ Some high)
      × (high.first < span.first)
      × (span.last ≤ high.last)

-- a class has a number of its own, in front of its span's end and within the span of its superclass
pub record IsSpan (headers : Headers) (spans : Spans) (index : ℕ) : Type 0 where
  pub span : Span
  pub is : slice_get spans.of_classes.items index ≡ Some span
  pub ordered : span.first ≤ span.last
  pub numbered : slice_get spans.indices.items span.first ≡ Some index
  pub super : IsWithinSuper headers spans index span

-- each class of the folder has
pub record AreSpans (headers : Headers) (spans : Spans) : Type 0 where
  pub each : (index : ℕ) (header : Header)
      → header_at headers (Folder index) ≡ Some header
      → IsSpan headers spans index
