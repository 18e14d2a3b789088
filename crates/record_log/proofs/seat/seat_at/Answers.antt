use Rattle.std.proofs.Common.{◌≡◌, ◌<◌, ◌∷◌, ℕ, ◌^◌, Bool, cond, List, length, take, drop, Option, Some, None, sym, ◌∙◌, ap, subst, arith, length-drop}
use Rattle.std.specs.Prelude.{IfNone}
use Rattle.std.specs.Int.{byte_len}
use Rattle.codes.specs.Codes.{Taken}
use Rattle.record_log.specs.Pieces.{width, read_number}
use Rattle.record_log.specs.Kinds.{is_long, width_of, limit_of}
use Rattle.record_log.specs.Seats.{IsFront}
use Rattle.record_log.proofs.Heads.{head_of_front, number_was, number_short, none_empty, none_cut, none_room, none_lens, laid}
use Rattle.record_log.proofs.seat.seat_at.Goals as goal

if_none : {T : Type 0} (o : Option T) (P : Type 0) → P → IfNone o P
if_none None P p = p
if_none (Some x) P p = tt

-- by the kind's width
by_kind : (long : Bool) (kind : ℕ) (bytes : List ℕ) (t : Taken ℕ) → long ≡ is_long kind
    → t ≡ read_number (width long) bytes → read_number (width_of kind) bytes ≡ t
by_kind long kind bytes t is read = ap (λ (b : Bool). read_number (width b) bytes) (sym is) ∙ sym read

limit_by : (long : Bool) (kind n : ℕ) → long ≡ is_long kind → n < cond long (2 ^ 64) (2 ^ 32)
    → n < limit_of kind
limit_by long kind n is short = subst (λ (b : Bool). n < cond b (2 ^ 64) (2 ^ 32)) is short

-- the head is the front of the bytes
front_of : (head bytes tail : List ℕ) (kind at room : ℕ) → IsFront head bytes at room
    → head ≡ kind ∷ tail → kind ∷ tail ≡ take (length (kind ∷ tail)) (drop at bytes)
front_of head bytes tail kind at room x is = sym is ∙ x.front ∙ ap (λ (l : List ℕ). take (length l) (drop at bytes)) is

pub returns-in_err-kind-clause-none : goal.returns-in_err-kind-clause-none
returns-in_err-kind-clause-none c = if_none c.from_residual.result _ (λ before bytes x. none_empty before (drop c.args.at bytes) (omega (arith, c.in_err-kind.ensures.cases, c.requires, x.len, length-drop c.args.at bytes)))

pub returns-in_err-key_len-clause-none : goal.returns-in_err-key_len-clause-none
returns-in_err-key_len-clause-none c = if_none c.from_residual-in_err-key_len.result _ (λ before bytes x.
    let kind = c.in_ok-kind.kind.now in
    let tail = c.in_ok-kind.tail.now in
    let is = c.in_ok-kind.ensures.cases.0 in
    let short : length tail < byte_len (width_of kind) = number_short (width_of kind) tail (by_kind _ kind tail _ c.is_long.ensures c.in_err-key_len.ensures.value) in
    none_cut before (drop c.args.at bytes) kind tail (front_of c.args.head.now bytes tail kind c.args.at c.args.room x is) (omega (arith, c.requires, ap length is, x.len, length-drop c.args.at bytes)) (omega (arith, short)))

pub returns-in_err-value_len-clause-none : goal.returns-in_err-value_len-clause-none
returns-in_err-value_len-clause-none c = if_none c.from_residual-in_err-value_len.result _ (λ before bytes x.
    let kind = c.in_ok-kind.kind.now in
    let tail = c.in_ok-kind.tail.now in
    let is = c.in_ok-kind.ensures.cases.0 in
    let w = width_of kind in
    let first = number_was w tail c.in_ok-key_len.key_len c.in_ok-key_len.rest.now (by_kind _ kind tail _ c.is_long.ensures c.in_ok-key_len.ensures.value) in
    let short : length c.in_ok-key_len.rest.now < byte_len w = number_short w c.in_ok-key_len.rest.now (by_kind _ kind c.in_ok-key_len.rest.now _ c.is_long-2.ensures c.in_err-value_len.ensures.value) in
    none_cut before (drop c.args.at bytes) kind tail (front_of c.args.head.now bytes tail kind c.args.at c.args.room x is) (omega (arith, c.requires, ap length is, x.len, length-drop c.args.at bytes)) (omega (arith, short, ap length first.behind, length-drop (byte_len w) tail)))

pub returns-then-not-lens_fit-clause-none : goal.returns-then-not-lens_fit-clause-none
returns-then-not-lens_fit-clause-none c before bytes x =
    let kind = c.in_ok-kind.kind.now in
    let tail = c.in_ok-kind.tail.now in
    let front = front_of c.args.head.now bytes tail kind c.args.at c.args.room x c.in_ok-kind.ensures.cases.0 in
    let h = head_of_front (drop c.args.at bytes) kind c.in_ok-key_len.key_len c.in_ok-value_len.value_len tail c.in_ok-key_len.rest.now c.in_ok-value_len.field-0-1.now front (by_kind _ kind tail _ c.is_long.ensures c.in_ok-key_len.ensures.value) (by_kind _ kind c.in_ok-key_len.rest.now _ c.is_long-2.ensures c.in_ok-value_len.ensures.value) in
    none_lens before (drop c.args.at bytes) kind c.in_ok-key_len.key_len c.in_ok-value_len.value_len h (sym c.lens_fit.ensures ∙ c.if-not-lens_fit.true)

pub returns-then-size-room-clause-none : goal.returns-then-size-room-clause-none
returns-then-size-room-clause-none c before bytes x =
    let kind = c.in_ok-kind.kind.now in
    let tail = c.in_ok-kind.tail.now in
    let front = front_of c.args.head.now bytes tail kind c.args.at c.args.room x c.in_ok-kind.ensures.cases.0 in
    let h = head_of_front (drop c.args.at bytes) kind c.in_ok-key_len.key_len c.in_ok-value_len.value_len tail c.in_ok-key_len.rest.now c.in_ok-value_len.field-0-1.now front (by_kind _ kind tail _ c.is_long.ensures c.in_ok-key_len.ensures.value) (by_kind _ kind c.in_ok-key_len.rest.now _ c.is_long-2.ensures c.in_ok-value_len.ensures.value) in
    none_room before (drop c.args.at bytes) kind c.in_ok-key_len.key_len c.in_ok-value_len.value_len h (omega (arith, c.if-size-room.true, c.saturating_add-size.ensures, c.saturating_add.ensures, c.head_of.ensures, x.len, length-drop c.args.at bytes))

pub returns-clause-some : goal.returns-clause-some
returns-clause-some c bytes x =
    let kind = c.in_ok-kind.kind.now in
    let tail = c.in_ok-kind.tail.now in
    let front = front_of c.args.head.now bytes tail kind c.args.at c.args.room x c.in_ok-kind.ensures.cases.0 in
    let h = head_of_front (drop c.args.at bytes) kind c.in_ok-key_len.key_len c.in_ok-value_len.value_len tail c.in_ok-key_len.rest.now c.in_ok-value_len.field-0-1.now front (by_kind _ kind tail _ c.is_long.ensures c.in_ok-key_len.ensures.value) (by_kind _ kind c.in_ok-key_len.rest.now _ c.is_long-2.ensures c.in_ok-value_len.ensures.value) in
    laid bytes c.args.at c.args.room kind c.in_ok-key_len.key_len c.in_ok-value_len.value_len x.len h (omega (arith, c.if-size-room.false, c.saturating_add-size.ensures, c.saturating_add.ensures, c.head_of.ensures, c.ranges.room)) (sym c.lens_fit.ensures ∙ c.if-not-lens_fit.false) (limit_by _ kind c.in_ok-key_len.key_len c.is_long.ensures c.in_ok-key_len.ensures.short) (limit_by _ kind c.in_ok-value_len.value_len c.is_long-2.ensures c.in_ok-value_len.ensures.short)
