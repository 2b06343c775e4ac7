use Rattle.std.proofs.Common.{Ok, Err}
use Rattle.std.proofs.lemmas.Result.{err_from_is_err_and}
use Rattle.class_tree.specs.Laws.Links.{refused, answered}
use Rattle.class_tree.specs.Names.{throwable, method_handle, method_type}
use Rattle.class_tree.specs.Steps.{is_method_handle, is_method_type}
use Rattle.class_tree.proofs.BaseChecks as parts
use Rattle.class_tree.proofs.LibraryNames.{in_library_is_there}
use Rattle.class_tree.proofs.base.check_base.Goals as goal

pub returns-in_err-check_names : goal.returns-in_err-check_names
returns-in_err-check_names c =
    let p = err_from_is_err_and c.from_residual.result c.from_residual.ensures.1 in
    let headers = c.args.headers.now in
    let folder = c.args.folder.now in
    let left = parts.at_names headers folder c.requires.folder in
    rw (p.1, p.2) (refused (parts.names_checks headers) (parts.from_object headers folder) _ left c.in_err-check_names.ensures)

pub returns-in_err-check_object : goal.returns-in_err-check_object
returns-in_err-check_object c =
    let p = err_from_is_err_and c.from_residual-in_err-check_object.result c.from_residual-in_err-check_object.ensures.1 in
    let headers = c.args.headers.now in
    let folder = c.args.folder.now in
    let left = parts.at_object headers folder c.requires.folder c.in_ok-check_names.ensures in
    rw (p.1, p.2) (refused (parts.object_checks headers) (parts.from_throwables headers folder) _ left c.in_err-check_object.ensures)

pub check_throwables-requires-clause-there : goal.check_throwables-requires-clause-there
check_throwables-requires-clause-there c =
    in_library_is_there c.args.headers.now throwable (parts.throwable_in_library c.args.headers.now c.in_ok-check_names.ensures)

pub returns-in_err-check_throwables : goal.returns-in_err-check_throwables
returns-in_err-check_throwables c =
    let p = err_from_is_err_and c.from_residual-in_err-check_throwables.result c.from_residual-in_err-check_throwables.ensures.1 in
    let headers = c.args.headers.now in
    let folder = c.args.folder.now in
    let left = parts.at_throwables headers folder c.requires.folder c.in_ok-check_names.ensures c.in_ok-check_object.ensures in
    rw (p.1, p.2) (refused (parts.throwables_checks headers) (parts.from_interfaces headers folder) _ left c.in_err-check_throwables.ensures)

pub returns-in_err-check_interfaces : goal.returns-in_err-check_interfaces
returns-in_err-check_interfaces c =
    let p = err_from_is_err_and c.from_residual-in_err-check_interfaces.result c.from_residual-in_err-check_interfaces.ensures.1 in
    let headers = c.args.headers.now in
    let folder = c.args.folder.now in
    let left = parts.at_interfaces headers folder c.requires.folder c.in_ok-check_names.ensures c.in_ok-check_object.ensures c.in_ok-check_throwables.ensures in
    rw (p.1, p.2) (refused (parts.interfaces_checks headers) (parts.from_handles headers folder) _ left c.in_err-check_interfaces.ensures)

pub returns-in_err-check_need : goal.returns-in_err-check_need
returns-in_err-check_need c =
    let p = err_from_is_err_and c.from_residual-in_err-check_need.result c.from_residual-in_err-check_need.ensures.1 in
    let headers = c.args.headers.now in
    let folder = c.args.folder.now in
    let told = parts.need_told headers folder is_method_handle method_handle c.needs_of-constants.result.method_handle (Err c.in_err-check_need.field-0.0) c.needs_of-constants.ensures.method_handle c.in_err-check_need.ensures in
    let left = parts.at_handles headers folder c.requires.folder c.in_ok-check_names.ensures c.in_ok-check_object.ensures c.in_ok-check_throwables.ensures c.in_ok-check_interfaces.ensures in
    rw (p.1, p.2) (refused (parts.handle_checks headers folder) (parts.type_checks headers folder) _ left told)

pub returns : goal.returns
returns c =
    let headers = c.args.headers.now in
    let folder = c.args.folder.now in
    let handles = parts.need_told headers folder is_method_handle method_handle c.needs_of-constants.result.method_handle (Ok tt) c.needs_of-constants.ensures.method_handle c.in_ok-check_need.ensures in
    let told = parts.need_told headers folder is_method_type method_type c.needs_of-constants.result.method_type c.check_need-2.result c.needs_of-constants.ensures.method_type c.check_need-2.ensures in
    let left = parts.at_types headers folder c.requires.folder c.in_ok-check_names.ensures c.in_ok-check_object.ensures c.in_ok-check_throwables.ensures c.in_ok-check_interfaces.ensures handles in
    answered _ left told
