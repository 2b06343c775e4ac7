-- A class file whose references are resolved: the classes, its pool and its name.
use Rattle.class_model.specs.Pool.{Constants}
use Rattle.class_model.specs.declared.header.Member.{Member}
use Rattle.class_tree.specs.Headers.{Name, Headers}
use Rattle.member_link.specs.Uses.{UseScope}

pub record Resolved : Type 0 where
  pub headers : Headers
  pub pool : Constants
  pub from : Name

-- the references that stand in one of its methods
abbrev pub resolved_scope : Resolved → Member → UseScope
resolved_scope class method = record {
  headers = class.headers;
  pool = class.pool;
  site = record { class = class.from; member = method };
}
