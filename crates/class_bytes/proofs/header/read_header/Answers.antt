use Rattle.std.proofs.Common.{◌≡◌, ◌+◌, ◌≤◌, ◌∙◌, ℕ, length, true, Ok, Err, ap, sym, subst, arith}
use Rattle.std.proofs.lemmas.Result.{err_from_is_err_and}
use Rattle.class_model.specs.Answers.{Takes, Tells}
use Rattle.class_model.specs.Cutting.{Rest, Version, version_at, uncut}
use Rattle.class_model.specs.Laws.Cuts.{are_bytes}
use Rattle.class_model.specs.declared.header.Header.{Header}
use Rattle.class_bytes.specs.Inner.Cut.{version_of}
use Rattle.class_bytes.specs.Inner.HeaderParts.{header_len, cut_header_checks, header_in}
use Rattle.class_bytes.proofs.CutBytes.{version_left}
use Rattle.class_bytes.proofs.HeaderFiles.{flags_place, head_refused, pool_refused, body_refused, of, is_cut, within, text_refused, told}
use Rattle.class_bytes.proofs.HeaderSame.{flags_at}
use Rattle.class_bytes.proofs.header.read_header.Goals as goal
use Rattle.class_bytes.proofs.header.read_header.Goals.{In_ok-version, After-a_cut_class_is_spelled}

-- ---- refusals before the checks

pub returns-in_err-version : goal.returns-in_err-version
returns-in_err-version c =
    let p = err_from_is_err_and c.from_residual.result c.from_residual.ensures.1 in
    let cut = subst (λ (rest : Rest). Takes {X = Version} (version_at rest) c.cut_version.new.cursor (Err c.in_err-version.field-0.0)) c.new-cursor.ensures c.in_err-version.ensures in
    rw (p.1, p.2) (head_refused c.args.bytes.now c.cut_version.new.cursor c.in_err-version.field-0.0 cut)

begins : (c : In_ok-version) → version_at (uncut c.args.bytes.now) ≡ Ok (version_of c.in_ok-version.version, c.cut_version.new.cursor)
begins c = ap version_at (sym c.new-cursor.ensures) ∙ c.in_ok-version.ensures

pub returns-then-not-is_library_version : goal.returns-then-not-is_library_version
returns-then-not-is_library_version c = record {
  rest = c.cut_version.new.cursor;
  head = begins (goal.at.returns-then-not-is_library_version c).In_ok-version;
  other = λ is. let e : c.is_library_version.result ≡ true = c.is_library_version.ensures.1 is in absurd cc;
}

pub returns-in_err-raw : goal.returns-in_err-raw
returns-in_err-raw c =
    let at = goal.at.returns-in_err-raw c in
    let p = err_from_is_err_and c.from_residual-in_err-raw.result c.from_residual-in_err-raw.ensures.1 in
    rw (p.1, p.2)
    (pool_refused c.args.bytes.now (version_of c.in_ok-version.version) c.cut_version.new.cursor (begins at.In_ok-version) (c.is_library_version.ensures.0 c.if-not-is_library_version.false) c.cut_pool.new.cursor c.in_err-raw.field-0.0 c.in_err-raw.ensures.taken)

pub returns-in_err-head : goal.returns-in_err-head
returns-in_err-head c =
    let at = goal.at.returns-in_err-head c in
    let p = err_from_is_err_and c.from_residual-in_err-head.result c.from_residual-in_err-head.ensures.1 in
    rw (p.1, p.2)
    (body_refused c.args.bytes.now (version_of c.in_ok-version.version) c.cut_version.new.cursor (begins at.In_ok-version) (c.is_library_version.ensures.0 c.if-not-is_library_version.false) c.in_ok-raw.raw c.cut_pool.new.cursor c.in_ok-raw.ensures.taken c.in_err-head.field-0.0 c.in_err-head.ensures)

-- ---- what was cut

-- where the flags stand, and that the header stands within the bytes
stands : (c : After-a_cut_class_is_spelled) → (c.at-flags_at.result ≡ flags_at c.in_ok-raw.raw) × (flags_at c.in_ok-raw.raw + header_len c.in_ok-head.head ≤ length c.args.bytes.now)
stands c =
    let at = goal.at.After-a_cut_class_is_spelled c in
    let version = version_of c.in_ok-version.version in
    let bytes = are_bytes c.args.bytes.now (λ i. omega (arith, c.type_inv.bytes i)) in
    let first = begins at.In_ok-version in
    let is = c.is_library_version.ensures.0 c.if-not-is_library_version.false in
    let whole = of c.args.bytes.now version c.cut_version.new.cursor first is c.in_ok-raw.raw c.cut_pool.new.cursor c.in_ok-raw.ensures.taken c.in_ok-head.head c.in_ok-head.ensures in
    let cut = is_cut c.args.bytes.now version c.cut_version.new.cursor first is c.in_ok-raw.raw c.cut_pool.new.cursor c.in_ok-raw.ensures.taken c.in_ok-head.head c.in_ok-head.ensures in
    let spelled = c.a_cut_class_is_spelled.ensures c.args.bytes.now version c.cut_version.new.cursor whole.class bytes first cut in
    let left = version_left c.args.bytes.now (version, c.cut_version.new.cursor) bytes first in
    let ends = (c.a_cut_pool_is_spelled.ensures version.major c.cut_version.new.cursor c.cut_pool.new.cursor c.in_ok-raw.raw left c.in_ok-raw.ensures.taken).1 in (
      c.at-flags_at.ensures.place ∙ flags_place c.in_ok-raw.raw c.cut_version.new.cursor c.cut_pool.new.cursor spelled.1 ends,
      within c.args.bytes.now version c.cut_version.new.cursor first is c.in_ok-raw.raw c.cut_pool.new.cursor c.in_ok-raw.ensures.taken c.in_ok-head.head c.in_ok-head.ensures spelled.0,
    )

pub check_texts-requires : goal.check_texts-requires
check_texts-requires c = let k = stands (goal.at.check_texts-requires c).After-a_cut_class_is_spelled in omega (arith, k.1)

pub own_header-requires-clause-room : goal.own_header-requires-clause-room
own_header-requires-clause-room c = let k = stands (goal.at.own_header-requires-clause-room c).After-a_cut_class_is_spelled in omega (arith, k.0, k.1)

-- ---- checks

pub returns-in_err-check_texts : goal.returns-in_err-check_texts
returns-in_err-check_texts c =
    let at = goal.at.returns-in_err-check_texts c in
    let p = err_from_is_err_and c.from_residual-in_err-check_texts.result c.from_residual-in_err-check_texts.ensures.1 in
    rw (p.1, p.2)
    (text_refused c.args.bytes.now (version_of c.in_ok-version.version) c.cut_version.new.cursor (begins at.In_ok-version) (c.is_library_version.ensures.0 c.if-not-is_library_version.false) c.in_ok-raw.raw c.cut_pool.new.cursor c.in_ok-raw.ensures.taken
    c.in_ok-head.head c.in_ok-head.ensures c.in_err-check_texts.field-0.0 c.in_err-check_texts.ensures.told)

pub returns : goal.returns
returns c =
    let at = goal.at.returns c in
    let place = (stands at.After-a_cut_class_is_spelled).0 in
    let head = c.in_ok-head.head in
    let pool = c.in_ok-raw.raw in
    let asked = λ (n : ℕ). Tells (cut_header_checks pool n head) (λ (header : Header). header ≡ header_in pool head) c.own_header.result in
    told c.args.bytes.now (version_of c.in_ok-version.version) c.cut_version.new.cursor (begins at.In_ok-version) (c.is_library_version.ensures.0 c.if-not-is_library_version.false) pool c.cut_pool.new.cursor c.in_ok-raw.ensures.taken
    head c.in_ok-head.ensures c.in_ok-check_texts.ensures.told.0 c.own_header.result (subst asked place c.own_header.ensures)
