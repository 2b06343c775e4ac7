-- Scopes with the parts of them that frames behind instructions depend on.
use Rattle.class_model.specs.Pool.{Constants}
use Rattle.class_tree.specs.Headers.{Name}
use Rattle.member_link.specs.RowScope.{RowScope}

-- a scope with this pool, in a class of this name
abbrev pub scope_with : RowScope → Constants → Name → RowScope
scope_with s pool own = record s { pool = pool; own = record s.own { name = own } }
