-- Scopes among classes that have grown.
use Rattle.std.proofs.Common.{◌≡◌, ℕ, List, [], ◌∷◌, sym, ap, subst}
use Rattle.class_model.specs.Pool.{Constants}
use Rattle.class_model.specs.declared.frame.Frame.{Frame}
use Rattle.class_tree.specs.Laws.Alike.{alike_shapes, shapes}
use Rattle.member_link.specs.Bodies.{Body, BodyPoint, CodeItem, item_instr, item_null_test, item_row}
use Rattle.member_link.specs.RowScope.{RowScope}
use Rattle.type_rules.proofs.Grown.Bodies.{KeepPoints, KeepsBody}
use Rattle.type_rules.proofs.Grown.Headers.{grown_alike}
use Rattle.type_rules.proofs.Grown.Methods.{FindAlike, looks_up}
use Rattle.type_rules.proofs.Grown.Rows.{KeepsRow, asked_kept}
use Rattle.type_rules.proofs.Grown.Table.{ItemReadsSame, item_kept, reads_itself}
use Rattle.type_rules.specs.Grown.{AreGrownPoints, IsGrownBody, IsGrownScope}

module _ (old new : RowScope) (grown : IsGrownScope old new) where
  pub same_shape : shapes old.headers ≡ shapes new.headers
  same_shape = alike_shapes old.headers new.headers (grown_alike old.headers new.headers grown.headers)

  pub same_room : new.max_stack ≡ old.max_stack
  same_room = ap (λ (s : RowScope). s.max_stack) grown.rest

reads : (pool : Constants) (item : CodeItem) → ItemReadsSame pool pool item
reads pool (item_instr instr) = reads_itself pool instr
reads pool (item_null_test local) = tt

pub grown_item : FindAlike → (old new : RowScope) → IsGrownScope old new → (f : Frame) (at : ℕ) (item : CodeItem) → KeepsRow (item_row old f at item) (item_row new f at item)
grown_item find old new grown f at item =
    subst (λ (s : RowScope). KeepsRow (item_row old f at item) (item_row s f at item)) (sym grown.rest)
    (item_kept old new.headers new.own old.pool grown.headers grown.own (looks_up find old.headers new.headers grown.headers) f at item (reads old.pool item))

-- ---- bodies

points_grown : FindAlike → (olds news : List BodyPoint) → AreGrownPoints olds news → KeepPoints olds news
points_grown find [] [] grown = tt
points_grown find [] (new ∷ news) grown = absurd grown
points_grown find (old ∷ olds) [] grown = absurd grown
points_grown find (old ∷ olds) (new ∷ news) grown =
    let scope = grown.0.scope in (
      (
        record {
          shape = same_shape old.scope new.scope scope;
          room = same_room old.scope new.scope scope;
          row = λ f. asked_kept old.asks_access (grown_item find old.scope new.scope scope f old.place old.item);
        },
        grown.0.rest,
      ),
      points_grown find olds news grown.1,
    )

pub body_grown : FindAlike → (old new : Body) → IsGrownBody old new → KeepsBody old new
body_grown find old new grown = record {
  shape = same_shape old.scope new.scope grown.scope;
  entry = ap (λ (b : Body). b.entry) grown.rest;
  points = points_grown find old.points new.points grown.points;
  stated = λ place. ap (λ (b : Body). b.stated place) grown.rest;
  table = ap (λ (b : Body). b.table) grown.rest;
}
