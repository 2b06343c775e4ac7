use Rattle.std.specs.Prelude.{[]}
use Rattle.class_model.proofs.KeptMembers.{fields_kept, methods_kept, class_attrs_kept}
use Rattle.class_model.proofs.KeptPools.{keeps_itself, entries_kept, class_name_kept, super_kept, interfaces_kept, dynamics_moved}
use Rattle.class_model.proofs.value_laws.checks_do_not_depend_on_places.Goals as goal

pub returns-clause-constants : goal.returns-clause-constants
returns-clause-constants c major at other pool entries h = entries_kept (keeps_itself pool) major at other entries h

pub returns-clause-class_name : goal.returns-clause-class_name
returns-clause-class_name c pool at other index h = class_name_kept (keeps_itself pool) at other index h

pub returns-clause-superclass : goal.returns-clause-superclass
returns-clause-superclass c pool at other index h = super_kept (keeps_itself pool) at other index h

pub returns-clause-interfaces : goal.returns-clause-interfaces
returns-clause-interfaces c pool at other indices h = interfaces_kept (keeps_itself pool) at other indices h

pub returns-clause-fields : goal.returns-clause-fields
returns-clause-fields c pool flags at other fields h = fields_kept (keeps_itself pool) flags [] at other fields tt h

pub returns-clause-methods : goal.returns-clause-methods
returns-clause-methods c home at other methods h = methods_kept home home.pool (keeps_itself home.pool) [] at other methods tt h

pub returns-clause-attrs : goal.returns-clause-attrs
returns-clause-attrs c pool at other attrs h = class_attrs_kept (keeps_itself pool) at other attrs h

pub returns-clause-dynamics : goal.returns-clause-dynamics
returns-clause-dynamics c = dynamics_moved
