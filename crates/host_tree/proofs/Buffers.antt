-- The bytes that a read put behind those of a vector.
use Rattle.std.proofs.Common.{◌≡◌, ℕ, ◌+◌, ◌≤◌, List, ◌++◌, length, take, drop, Option, sym, ap, subst, ◌∙◌, append_assoc, arith, length-take, length-append, drop_at, take-take}
use Rattle.std.proofs.lemmas.List.{take-append-le, take_all, drop-take}
use Rattle.std.specs.Io.{StartsWith, appended_bytes}
use Rattle.std.specs.Io.KnownBytes.{Consumes}

-- the vector is cut behind the count bytes that were read at start, within its room
appended : (start count room : ℕ) (now buffer post tail : List ℕ) → start ≤ length now → count ≤ length buffer → start + count ≤ room → drop start (take (start + count) (take room ((take start now ++ (buffer ++ post)) ++ tail))) ≡ take count buffer
appended start count room now buffer post tail fits count_fits room_fits =
    let front : length (take start now) ≡ start = simp length-take (omega arith) in
    let rest = (buffer ++ post) ++ tail in
    let whole = take start now ++ rest in
    let within : count ≤ length (buffer ++ post) = simp length-append (omega arith) in
    ap (drop start) (take-take (start + count) room _ room_fits) ∙ drop-take start count _ ∙ ap (λ z. take count (drop start z)) (append_assoc (take start now) (buffer ++ post) tail) ∙ ap (take count) (drop_at (take start now) rest start front) ∙ take-append-le count (buffer ++ post) tail within ∙ take-append-le count buffer post count_fits

-- ---- a vector that grew, took what was read at its old end, and was cut behind that

pub record Cut (start count room : ℕ) (old now buffer new : List ℕ) : Type 0 where
  pub post : List ℕ
  pub tail : List ℕ
  pub start_is : start ≡ length old
  pub read : count ≤ length buffer
  pub fits : start + count ≤ room
  pub new_is : new ≡ take (start + count) (take room ((take start now ++ (buffer ++ post)) ++ tail))

-- what it had stands in front
pub kept : (start count room size : ℕ) (old more grown now buffer new : List ℕ) → Cut start count room old now buffer new → start ≤ size → now ≡ grown → grown ≡ take size old ++ more → StartsWith new old
kept start count room size old more grown now buffer new cut larger now_is grown_is =
    let start_is : start ≡ length old = cut.start_is in
    let room_fits : start + count ≤ room = cut.fits in
    let whole : now ≡ old ++ more = now_is ∙ grown_is ∙ ap (λ z. z ++ more) (take_all size old (omega arith)) in
    let fits : start ≤ length now = rw (whole, length-append) (omega arith) in
    let front : length (take start now) ≡ start = simp length-take (omega arith) in
    let read = take start now ++ (buffer ++ cut.post) in
    let long : start ≤ length read = simp length-append (omega arith) in
    let in_front : take start (take (start + count) (take room (read ++ cut.tail))) ≡ take start now =
    take-take start (start + count) (take room (read ++ cut.tail)) (omega arith) ∙ take-take start room (read ++ cut.tail) (omega arith) ∙ take-append-le start read cut.tail long
    ∙ take-append-le start (take start now) (buffer ++ cut.post) (omega arith) ∙ take-take start start now (omega arith) in
    let before : take start now ≡ old = ap (take start) whole ∙ take-append-le start old more (omega arith) ∙ take_all start old (omega arith) in
    ap (λ n. take n new) (sym start_is) ∙ ap (take start) cut.new_is ∙ in_front ∙ before

-- what was read stands behind it
pub taken : (before after : Option (List ℕ)) (start count room : ℕ) (old now buffer new : List ℕ) → Cut start count room old now buffer new → start ≤ length now → Consumes before after (take count buffer) → Consumes before after (appended_bytes old new)
taken before after start count room old now buffer new cut fits consumed =
    let bytes : appended_bytes old new ≡ take count buffer =
    ap (λ n. drop n new) (sym cut.start_is) ∙ ap (drop start) cut.new_is ∙ appended start count room now buffer cut.post cut.tail fits cut.read cut.fits in
    subst (Consumes before after) (sym bytes) consumed
