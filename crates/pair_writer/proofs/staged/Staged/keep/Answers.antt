use Rattle.std.proofs.Common.{◌≡◌, ◌+◌, ◌∷◌, ◌++◌, [], List, ℕ, Option, None, length, ap, sym, refl, ◌∙◌, arith}
use denote.Bor.{Bor}
use Rattle.std.proofs.lemmas.List.{append-nil, length-map}
use Rattle.record_log.specs.Kinds.{Entry}
use Rattle.blob_pool.specs.declared.pool.Pool.{Pool}
use Rattle.blob_pool.specs.Contents.{contents_of}
use Rattle.blob_pool.specs.Pool.{first_of, blob}
use Rattle.blob_pool.specs.Known.{known_in, count_in, IsPoolOf}
use Rattle.pair_writer.specs.declared.staged.Staged.{Staged}
use Rattle.blob_pool.specs.Laws.{contents_in}
use Rattle.blob_pool.specs.First.{first_is}
use Rattle.pair_writer.specs.Staged.{entries, staged_count}
use Rattle.pair_writer.proofs.Keeping.{IsKeptAs, kept_before, kept_among, kept_new}
use Rattle.pair_writer.proofs.staged.Staged.keep.Goals as goal

-- ---- where the log keeps the bytes

pub returns-in-Some-clause-number : goal.returns-in-Some-clause-number
returns-in-Some-clause-number g c told =
    (kept_before (known_in c.args.log.now) (entries c.args.self.now) c.args.bytes.now c.in-Some.number (sym (c.in_ok-number.ensures.found told) ∙ c.in-Some.is)).number

pub returns-in-Some-clause-frames : goal.returns-in-Some-clause-frames
returns-in-Some-clause-frames g c told =
    let es = entries c.args.self.now in
    let kept = kept_before (known_in c.args.log.now) es c.args.bytes.now c.in-Some.number (sym (c.in_ok-number.ensures.found told) ∙ c.in-Some.is) in
    sym (append-nil es) ∙ ap (λ (l : List Entry). es ++ l) kept.new

-- ---- where a staged content is the bytes

pub overflow_add-result : goal.overflow_add-result
overflow_add-result g c =
    let self = c.args.self.now in
    let lt = (first_is (entries self) c.args.bytes.now c.in-Some-find.number (sym c.find.ensures ∙ c.in-Some-find.is)).1 in
    omega (arith, lt, ap length self.held.contents_are, length-map self.contents.bytes.items (λ (b : Bor (List ℕ)). b.now), self.contents.bytes.ok, c.args.pool.now.places.ok, c.count.ensures)

pub returns-in-Some-find-clause-number : goal.returns-in-Some-find-clause-number
returns-in-Some-find-clause-number g c told =
    let fs = known_in c.args.log.now in
    let n = c.count.result + c.in-Some-find.number in
    let none = sym (c.in_ok-number.ensures.found told) ∙ c.in_default.is in
    let count : n ≡ length (contents_of fs) + c.in-Some-find.number = omega (arith, contents_in c.args.pool.now fs (c.requires.pool.told told), c.count.ensures) in
    (kept_among fs (entries c.args.self.now) c.args.bytes.now c.in-Some-find.number n none (sym c.find.ensures ∙ c.in-Some-find.is) count).number

pub returns-in-Some-find-clause-frames : goal.returns-in-Some-find-clause-frames
returns-in-Some-find-clause-frames g c told =
    let fs = known_in c.args.log.now in
    let es = entries c.args.self.now in
    let n = c.count.result + c.in-Some-find.number in
    let none = sym (c.in_ok-number.ensures.found told) ∙ c.in_default.is in
    let count : n ≡ length (contents_of fs) + c.in-Some-find.number = omega (arith, contents_in c.args.pool.now fs (c.requires.pool.told told), c.count.ensures) in
    let kept = kept_among fs es c.args.bytes.now c.in-Some-find.number n none (sym c.find.ensures ∙ c.in-Some-find.is) count in
    sym (append-nil es) ∙ ap (λ (l : List Entry). es ++ l) kept.new

-- ---- where there is none

new_is : (pool : Pool) (staged : Staged) (fs : List Entry) (bytes : List ℕ) (count more n : ℕ) (found : Option ℕ) → IsPoolOf pool fs
    → found ≡ first_of (entries staged) bytes → found ≡ None → first_of fs bytes ≡ None
    → count ≡ count_in pool → more ≡ staged_count staged → n ≡ count + more
    → IsKeptAs (fs ++ entries staged) (fs ++ (entries staged ++ blob bytes ∷ [])) bytes n (blob bytes ∷ [])
new_is pool staged fs bytes count more n found known found_is none nowhere count_is more_is is =
    kept_new fs (entries staged) bytes n nowhere (sym found_is ∙ none)
    (omega (arith, is, count_is, more_is, contents_in pool fs known, ap length staged.held.contents_are, length-map staged.contents.bytes.items (λ (b : Bor (List ℕ)). b.now)))

pub returns-clause-number : goal.returns-clause-number
returns-clause-number g c told =
    let fs = known_in c.args.log.now in
    let nowhere = sym (c.in_ok-number.ensures.found told) ∙ c.in_default.is in
    let new = new_is c.args.pool.now c.args.self.now fs c.args.bytes.now c.count-2.result c.contents.result (c.count-2.result + c.contents.result) c.find.result (c.requires.pool.told told) c.find.ensures c.in_default-find.is nowhere c.count-2.ensures c.contents.ensures refl in
    ap (λ (l : List Entry). first_of (fs ++ l) c.args.bytes.now) c.in_ok-push_content.ensures ∙ new.number

pub returns-clause-frames : goal.returns-clause-frames
returns-clause-frames g c told =
    let fs = known_in c.args.log.now in
    let nowhere = sym (c.in_ok-number.ensures.found told) ∙ c.in_default.is in
    let new = new_is c.args.pool.now c.args.self.now fs c.args.bytes.now c.count-2.result c.contents.result (c.count-2.result + c.contents.result) c.find.result (c.requires.pool.told told) c.find.ensures c.in_default-find.is nowhere c.count-2.ensures c.contents.ensures refl in
    c.in_ok-push_content.ensures ∙ ap (λ (l : List Entry). entries c.args.self.now ++ l) new.new
