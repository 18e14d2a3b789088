-- Sets, word by word.
use Rattle.std.proofs.Common.{◌≡◌, ◌≢◌, ◌==◌, ◌≤◌, ◌∙◌, ◌⊎◌, length, drop, ℕ, Bool, true, false, List, [], ◌∷◌, ◌++◌, Option, Some, None, Result, Ok, Err, inl, inr, refl, sym, ap, arith, append_assoc, append-nil}
use Rattle.std.proofs.lemmas.Bool.Decides.{nat_tests}
use Rattle.std.proofs.lemmas.List.{drop_all}
use Rattle.std.specs.List.{slice_split}
use Rattle.std.specs.Prelude.{⊤, OnOk, IfErr, if◌then◌else◌}
use Rattle.npm_range.specs.declared.comparator.Operator.{Operator}
use Rattle.npm_range.specs.declared.error.RangeErr.{RangeErr}
use Rattle.npm_range.specs.declared.error.RangeErr.TheVariants.{NotARange, OutOfMemory}
use Rattle.npm_range.specs.declared.range.Reader.{Reader}
use Rattle.npm_range.specs.Limits.{Bound}
use Rattle.npm_range.specs.Grammar.{both, comparator, comparators, is_alone, operator_at, or_exactly, set, version, words, words_of}
use Rattle.npm_range.specs.Reading.{Reads, reads_on}
use Rattle.npm_range.specs.Refusal.{MayRefuse}

both-assoc : (a b c : Option (List Bound)) → both a (both b c) ≡ both (both a b) c
both-assoc None b c = refl
both-assoc (Some x) None c = refl
both-assoc (Some x) (Some y) None = refl
both-assoc (Some x) (Some y) (Some z) = ap Some (sym (append_assoc x y z))

-- an empty word counts for nothing
skips-empty : (waiting : Option Operator) (more : List (List ℕ)) → comparators waiting ([] ∷ more) ≡ comparators waiting more
skips-empty None more = refl
skips-empty (Some found) more = refl

pub reads-empty : (reader : Reader) → Reads reader ([] ∷ []) (Ok tt) reader
unfolding Reads reads_on
reads-empty reader = λ more. ap (λ x. both (Some reader.bounds.items) x) (skips-empty reader.waiting more)

-- a word that gives a comparator
pub reads-taken : (old new : Reader) (word text : List ℕ) (found : Operator) (result : Result ⊤ RangeErr)
    → ((more : List (List ℕ)) → comparators old.waiting (word ∷ more) ≡ both (comparator found (version text)) (comparators None more))
    → OnOk result ((new.waiting ≡ None) × (both (Some old.bounds.items) (comparator found (version text)) ≡ Some new.bounds.items))
    → IfErr result (MayRefuse (version text)) → Reads old (word ∷ []) result new
unfolding Reads reads_on
reads-taken old new word text found (Ok u) said taken refused =
    λ more. rw (said more, taken.0) (both-assoc (Some old.bounds.items) (comparator found (version text)) (comparators None more) ∙ ap (λ x. both x (comparators None more)) taken.1)
reads-taken old new word text found (Err e) said taken (inl memory) = inl memory
reads-taken old new word text found (Err e) said taken (inr none) = inr (none.0, λ more. rw (said more, none.1) refl)

-- with an operator that waits
said-waiting : (found : Operator) (word : List ℕ) (more : List (List ℕ)) → (length word == 0) ≡ false → comparators (Some found) (word ∷ more) ≡ both (comparator found (version word)) (comparators None more)
said-waiting found [] more some = cc
said-waiting found (b ∷ word) more some = refl

pub reads-waiting : (old new : Reader) (word : List ℕ) (found : Operator) (result : Result ⊤ RangeErr) → (length word == 0) ≡ false → old.waiting ≡ Some found
    → OnOk result ((new.waiting ≡ None) × (both (Some old.bounds.items) (comparator found (version word)) ≡ Some new.bounds.items))
    → IfErr result (MayRefuse (version word)) → Reads old (word ∷ []) result new
reads-waiting old new word found result some waits taken refused = reads-taken old new word word found result (λ more. rw waits (said-waiting found word more some)) taken refused

-- an operator by itself
said-alone : (word : List ℕ) (more : List (List ℕ)) → (length word == 0) ≡ false → is_alone (operator_at word) ≡ true → comparators None (word ∷ more) ≡ comparators (operator_at word).0 more
said-alone [] more some e = cc
said-alone (b ∷ word) more some e = rw e refl

pub reads-alone : (old new : Reader) (word : List ℕ) → (length word == 0) ≡ false → old.waiting ≡ None → is_alone (operator_at word) ≡ true
    → new.waiting ≡ (operator_at word).0 → new.bounds.items ≡ old.bounds.items → Reads old (word ∷ []) (Ok tt) new
unfolding Reads reads_on
reads-alone old new word some waits e waiting same = λ more. rw (waits, waiting, same) (ap (λ x. both (Some old.bounds.items) x) (said-alone word more some e))

-- an operator, or none, before its version
said-before : (word : List ℕ) (more : List (List ℕ)) → (length word == 0) ≡ false → is_alone (operator_at word) ≡ false
    → comparators None (word ∷ more) ≡ both (comparator (or_exactly (operator_at word).0) (version (operator_at word).1)) (comparators None more)
said-before [] more some alone = cc
said-before (b ∷ word) more some alone = rw alone refl

pub reads-before : (old new : Reader) (word text : List ℕ) (found : Operator) (result : Result ⊤ RangeErr) → (length word == 0) ≡ false → old.waiting ≡ None → is_alone (operator_at word) ≡ false
    → found ≡ or_exactly (operator_at word).0 → text ≡ (operator_at word).1
    → OnOk result ((new.waiting ≡ None) × (both (Some old.bounds.items) (comparator found (version text)) ≡ Some new.bounds.items))
    → IfErr result (MayRefuse (version text)) → Reads old (word ∷ []) result new
reads-before old new word text found result some waits alone e f taken refused =
    reads-taken old new word text found result (λ more. rw (waits, e, f) (said-before word more some alone)) taken refused

pub nothing : {X : Type 0} (xs : List X) → (length xs == 0) ≡ true → xs ≡ []
nothing [] h = refl
nothing (x ∷ xs) h = absurd (grind (arith, nat_tests, h))

-- one turn of a walk over words
pub reads-more : (first old new : Reader) (all : List (List ℕ)) (left : List (List ℕ)) (word : List ℕ) (later : List (List ℕ)) → left ≡ word ∷ later
    → ((more : List (List ℕ)) → reads_on first (all ++ more) ≡ reads_on old (left ++ more)) → Reads old (word ∷ []) (Ok tt) new
    → (more : List (List ℕ)) → reads_on first (all ++ more) ≡ reads_on new (later ++ more)
unfolding Reads
reads-more first old new all left word later e h taken more = h more ∙ rw e (taken (later ++ more))

-- the turn at which it is refused
pub reads-refused : (first old new last : Reader) (all left : List (List ℕ)) (word : List ℕ) (later : List (List ℕ)) (e : RangeErr) → left ≡ word ∷ later
    → ((more : List (List ℕ)) → reads_on first (all ++ more) ≡ reads_on old (left ++ more)) → Reads old (word ∷ []) (Err e) new → Reads first all (Err e) last
unfolding Reads
reads-refused first old new last all left word later e same h (inl memory) = inl memory
reads-refused first old new last all left word later e same h (inr none) = inr (none.0, λ more. h more ∙ rw same (none.1 (later ++ more)))

-- and its end
pub reads-done : (first last : Reader) (all : List (List ℕ)) (n : ℕ) → length all ≤ n → ((more : List (List ℕ)) → reads_on first (all ++ more) ≡ reads_on last (drop n all ++ more)) → Reads first all (Ok tt) last
unfolding Reads
reads-done first last all n over h = λ more. h more ∙ rw (drop_all n all over) refl

-- ---- the words of a text, piece by piece

after_nothing : (later : Option (List Bound)) → both (Some []) later ≡ later
after_nothing None = refl
after_nothing (Some later) = refl

pub set-first : (text : List ℕ) (reader : Reader) → reader.waiting ≡ None → reader.bounds.items ≡ [] → set text ≡ reads_on reader (words text)
unfolding set reads_on
set-first text reader waits empty = rw (waits, empty) (sym (after_nothing (comparators None (words text))))

pub set-more : (text : List ℕ) (old new : Reader) (left later : List (List ℕ)) (piece : List ℕ) → left ≡ piece ∷ later → set text ≡ reads_on old (words_of left)
    → Reads old (slice_split (λ b. b == 9) piece) (Ok tt) new → set text ≡ reads_on new (words_of later)
unfolding Reads
set-more text old new left later piece e h taken = h ∙ rw e (taken (words_of later))

pub set-refused : (text : List ℕ) (old new : Reader) (left later : List (List ℕ)) (piece : List ℕ) (e : RangeErr) → left ≡ piece ∷ later → set text ≡ reads_on old (words_of left)
    → Reads old (slice_split (λ b. b == 9) piece) (Err e) new → MayRefuse (set text) e
unfolding Reads
set-refused text old new left later piece e same h (inl memory) = inl memory
set-refused text old new left later piece e same h (inr none) = inr (none.0, h ∙ rw same (none.1 (words_of later)))

pub set-done : (text : List ℕ) (last : Reader) (pieces : List (List ℕ)) (n : ℕ) → length pieces ≤ n → set text ≡ reads_on last (words_of (drop n pieces)) → last.waiting ≡ None → set text ≡ Some last.bounds.items
unfolding reads_on
set-done text last pieces n over h waits = h ∙ rw (drop_all n pieces over, waits) (ap Some (append-nil last.bounds.items))

pub set-waits : (text : List ℕ) (last : Reader) (pieces : List (List ℕ)) (n : ℕ) (found : Operator) → length pieces ≤ n → set text ≡ reads_on last (words_of (drop n pieces)) → last.waiting ≡ Some found → set text ≡ None
unfolding reads_on
set-waits text last pieces n found over h waits = h ∙ rw (drop_all n pieces over, waits) refl
