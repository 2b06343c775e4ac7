use Rattle.std.proofs.Common.{◌≡◌, ◌∙◌, length, true, Ok, Err, ap, sym, subst, arith}
use Rattle.std.proofs.lemmas.Result.{err_from_is_err_and}
use Rattle.class_model.specs.Answers.{Takes}
use Rattle.class_model.specs.ClassOf.{entered}
use Rattle.class_model.specs.Cutting.{IsBytes, Rest, Version, version_at, uncut}
use Rattle.class_model.specs.Laws.Cuts.{are_bytes, IsBytes-parts}
use Rattle.class_model.specs.Pool.{Constants}
use Rattle.class_model.specs.Spelling.{pool_bytes}
use Rattle.class_bytes.specs.Counts.{FitsCounts}
use Rattle.class_bytes.specs.Inner.Cut.{version_of, class_of}
use Rattle.class_bytes.proofs.CutBytes.{version_left}
use Rattle.class_bytes.proofs.Fits.{class_fits}
use Rattle.class_bytes.proofs.WholeFiles.{head_refused, pool_refused, body_refused, check_refused, is_cut, is_class, class_len}
use Rattle.class_bytes.proofs.reading.read_class.Goals as goal
use Rattle.class_bytes.proofs.reading.read_class.Goals.{In_ok-version}

pub returns-in_err-version-clause-told : goal.returns-in_err-version-clause-told
returns-in_err-version-clause-told c =
    let p = err_from_is_err_and c.from_residual.result c.from_residual.ensures.1 in
    let cut = subst (λ (rest : Rest). Takes {X = Version} (version_at rest) c.cut_version.new.cursor (Err c.in_err-version.field-0.0)) c.new-cursor.ensures c.in_err-version.ensures in
    rw (p.1, p.2) (head_refused c.args.bytes.now c.cut_version.new.cursor c.in_err-version.field-0.0 cut)

head : (c : In_ok-version) → version_at (uncut c.args.bytes.now) ≡ Ok (version_of c.in_ok-version.version, c.cut_version.new.cursor)
head c = ap version_at (sym c.new-cursor.ensures) ∙ c.in_ok-version.ensures

pub returns-then-not-is_read-clause-told : goal.returns-then-not-is_read-clause-told
returns-then-not-is_read-clause-told c = record {
  rest = c.cut_version.new.cursor;
  head = head (goal.at.returns-then-not-is_read-clause-told c).In_ok-version;
  other = λ is. let e : c.is_read.result ≡ true = c.is_read.ensures.1 is in absurd cc;
}

pub returns-in_err-raw-clause-told : goal.returns-in_err-raw-clause-told
returns-in_err-raw-clause-told c =
    let at = goal.at.returns-in_err-raw-clause-told c in
    let p = err_from_is_err_and c.from_residual-in_err-raw.result c.from_residual-in_err-raw.ensures.1 in
    rw (p.1, p.2)
    (pool_refused c.args.bytes.now (version_of c.in_ok-version.version) c.cut_version.new.cursor (head at.In_ok-version) (c.is_read.ensures.0 c.if-not-is_read.false) c.cut_pool.new.cursor c.in_err-raw.field-0.0 c.in_err-raw.ensures.taken)

pub returns-in_err-body-clause-told : goal.returns-in_err-body-clause-told
returns-in_err-body-clause-told c =
    let at = goal.at.returns-in_err-body-clause-told c in
    let p = err_from_is_err_and c.from_residual-in_err-body.result c.from_residual-in_err-body.ensures.1 in
    rw (p.1, p.2)
    (body_refused c.args.bytes.now (version_of c.in_ok-version.version) c.cut_version.new.cursor (head at.In_ok-version) (c.is_read.ensures.0 c.if-not-is_read.false) c.in_ok-raw.raw c.cut_pool.new.cursor c.in_ok-raw.ensures.taken
    c.in_err-body.field-0.0 (c.in_err-body.ensures c.in_ok-raw.raw))

-- ---- what was cut

pub check_class-requires-clause-place : goal.check_class-requires-clause-place
check_class-requires-clause-place c =
    let version = version_of c.in_ok-version.version in
    let bytes = are_bytes c.args.bytes.now (λ i. omega (arith, c.type_inv.bytes i)) in
    let at = goal.at.check_class-requires-clause-place c in
    let whole = is_cut c.args.bytes.now version c.cut_version.new.cursor (head at.In_ok-version) (c.is_read.ensures.0 c.if-not-is_read.false) c.in_ok-raw.raw c.cut_pool.new.cursor c.in_ok-raw.ensures.taken
    (class_of c.in_ok-raw.raw c.in_ok-body.body) (c.in_ok-body.ensures c.in_ok-raw.raw) in
    let eight = (c.a_cut_class_is_spelled.ensures c.args.bytes.now version c.cut_version.new.cursor (class_of c.in_ok-raw.raw c.in_ok-body.body) bytes (head at.In_ok-version) whole).1 in
    let ends = (c.a_cut_pool_is_spelled.ensures version.major c.cut_version.new.cursor c.cut_pool.new.cursor c.in_ok-raw.raw (version_left c.args.bytes.now (version, c.cut_version.new.cursor) bytes (head at.In_ok-version)) c.in_ok-raw.ensures.taken).1 in
    omega (arith, c.at-flags_at.ensures.place, eight, ends)

pub check_class-requires-clause-room : goal.check_class-requires-clause-room
check_class-requires-clause-room c =
    let version = version_of c.in_ok-version.version in
    let class = class_of c.in_ok-raw.raw c.in_ok-body.body in
    let bytes = are_bytes c.args.bytes.now (λ i. omega (arith, c.type_inv.bytes i)) in
    let at = goal.at.check_class-requires-clause-room c in
    let cut = is_cut c.args.bytes.now version c.cut_version.new.cursor (head at.In_ok-version) (c.is_read.ensures.0 c.if-not-is_read.false) c.in_ok-raw.raw c.cut_pool.new.cursor c.in_ok-raw.ensures.taken class (c.in_ok-body.ensures c.in_ok-raw.raw) in
    let spelled = c.a_cut_class_is_spelled.ensures c.args.bytes.now version c.cut_version.new.cursor class bytes (head at.In_ok-version) cut in
    let ends = (c.a_cut_pool_is_spelled.ensures version.major c.cut_version.new.cursor c.cut_pool.new.cursor c.in_ok-raw.raw (version_left c.args.bytes.now (version, c.cut_version.new.cursor) bytes (head at.In_ok-version)) c.in_ok-raw.ensures.taken).1 in
    omega (arith, c.at-flags_at.ensures.place, spelled.1, ends, ap length spelled.0, class_len class)

pub returns-in_err-pool-clause-told : goal.returns-in_err-pool-clause-told
returns-in_err-pool-clause-told c =
    let class = class_of c.in_ok-raw.raw c.in_ok-body.body in
    let at = goal.at.returns-in_err-pool-clause-told c in
    let p = err_from_is_err_and c.from_residual-in_err-pool.result c.from_residual-in_err-pool.ensures.1 in
    rw (p.1, p.2)
    (check_refused c.args.bytes.now (version_of c.in_ok-version.version) c.cut_version.new.cursor (head at.In_ok-version) (c.is_read.ensures.0 c.if-not-is_read.false) c.in_ok-raw.raw c.cut_pool.new.cursor c.in_ok-raw.ensures.taken
    class (c.in_ok-body.ensures c.in_ok-raw.raw) (λ (pool : Constants). pool ≡ c.in_ok-raw.raw) c.in_err-pool.field-0.0 c.in_err-pool.ensures)

pub returns-clause-told : goal.returns-clause-told
returns-clause-told c =
    let class = class_of c.in_ok-raw.raw c.in_ok-body.body in
    let at = goal.at.returns-clause-told c in
    let same = c.in_ok-enter.ensures ∙ ap (λ (pool : Constants). entered (class_of pool c.in_ok-body.body)) c.in_ok-pool.ensures.1 in
    is_class c.args.bytes.now (version_of c.in_ok-version.version) c.cut_version.new.cursor (head at.In_ok-version) (c.is_read.ensures.0 c.if-not-is_read.false) c.in_ok-raw.raw c.cut_pool.new.cursor c.in_ok-raw.ensures.taken
    class (c.in_ok-body.ensures c.in_ok-raw.raw) c.in_ok-pool.ensures.0 c.in_ok-enter.field-0 same

pub returns-clause-spelled : goal.returns-clause-spelled
returns-clause-spelled c =
    let bytes = are_bytes c.args.bytes.now (λ i. omega (arith, c.type_inv.bytes i)) in
    let class = class_of c.in_ok-raw.raw c.in_ok-body.body in
    let at = goal.at.returns-clause-spelled c in
    let same = c.in_ok-enter.ensures ∙ ap (λ (pool : Constants). entered (class_of pool c.in_ok-body.body)) c.in_ok-pool.ensures.1 in
    let read =
    is_class c.args.bytes.now (version_of c.in_ok-version.version) c.cut_version.new.cursor (head at.In_ok-version) (c.is_read.ensures.0 c.if-not-is_read.false) c.in_ok-raw.raw c.cut_pool.new.cursor c.in_ok-raw.ensures.taken
    class (c.in_ok-body.ensures c.in_ok-raw.raw) c.in_ok-pool.ensures.0 c.in_ok-enter.field-0 same in
    c.a_class_file_is_spelled.ensures c.args.bytes.now c.in_ok-enter.field-0 bytes read

pub returns-clause-fits : goal.returns-clause-fits
returns-clause-fits c =
    let version = version_of c.in_ok-version.version in
    let bytes = are_bytes c.args.bytes.now (λ i. omega (arith, c.type_inv.bytes i)) in
    let at = goal.at.returns-clause-fits c in
    let left = version_left c.args.bytes.now (version, c.cut_version.new.cursor) bytes (head at.In_ok-version) in
    let spelled = (c.a_cut_pool_is_spelled.ensures version.major c.cut_version.new.cursor c.cut_pool.new.cursor c.in_ok-raw.raw left c.in_ok-raw.ensures.taken).0 in
    let behind = (IsBytes-parts (pool_bytes c.in_ok-raw.raw) c.cut_pool.new.cursor.bytes (subst IsBytes spelled left)).1 in
    let class = class_of c.in_ok-raw.raw c.in_ok-body.body in
    let same = c.in_ok-enter.ensures ∙ ap (λ (pool : Constants). entered (class_of pool c.in_ok-body.body)) c.in_ok-pool.ensures.1 in
    subst FitsCounts (sym same) (class_fits version c.in_ok-raw.raw c.cut_pool.new.cursor class behind (c.in_ok-body.ensures c.in_ok-raw.raw))
