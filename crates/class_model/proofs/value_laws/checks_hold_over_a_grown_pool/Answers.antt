use Rattle.std.specs.Prelude.{[], ◌++◌}
use Rattle.class_model.proofs.KeptCode.{content_kept}
use Rattle.class_model.proofs.KeptFrames.{table_kept}
use Rattle.class_model.proofs.KeptMembers.{fields_kept, methods_kept, class_attrs_kept}
use Rattle.class_model.proofs.KeptPools.{grown_keeps, entries_kept, class_name_kept}
use Rattle.class_model.proofs.value_laws.checks_hold_over_a_grown_pool.Goals as goal

pub returns-clause-constants : goal.returns-clause-constants
returns-clause-constants c major at from other pool more entries holds h = entries_kept (grown_keeps major pool more at holds) major from other entries h

pub returns-clause-class_name : goal.returns-clause-class_name
returns-clause-class_name c major at from other index pool more holds h = class_name_kept (grown_keeps major pool more at holds) from other index h

pub returns-clause-fields : goal.returns-clause-fields
returns-clause-fields c major at from other flags pool more fields holds h = fields_kept (grown_keeps major pool more at holds) flags [] from other fields tt h

pub returns-clause-methods : goal.returns-clause-methods
returns-clause-methods c home more at from other methods holds h = methods_kept home (home.pool ++ more) (grown_keeps home.major home.pool more at holds) [] from other methods tt h

pub returns-clause-code : goal.returns-clause-code
returns-clause-code c home more at from other method part holds name desc h =
    content_kept home (home.pool ++ more) (grown_keeps home.major home.pool more at holds) method (record { name = name; desc = desc }) from other part h

pub returns-clause-frames : goal.returns-clause-frames
returns-clause-frames c s more major at entry content frames holds e = (table_kept s (s.pool ++ more) (grown_keeps major s.pool more at holds) entry content).gives frames e

pub returns-clause-attrs : goal.returns-clause-attrs
returns-clause-attrs c major at from other pool more attrs holds h = class_attrs_kept (grown_keeps major pool more at holds) from other attrs h
