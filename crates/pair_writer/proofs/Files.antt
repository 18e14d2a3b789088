-- The list of files in a key, member by member.
use Rattle.std.proofs.Common.{◌≡◌, ℕ, zero, suc, ◌+◌, ◌-◌, ◌<◌, Bool, true, false, cond, List, [], ◌∷◌, ◌++◌, length, take, drop, Option, Some, None, refl, sym, ◌∙◌, ap, arith, length-append}
use Rattle.std.specs.Prelude.{◌&&◌, bytes_eq, IsSome}
use Rattle.std.proofs.lemmas.Slice.Eq.{bytes_eq-Decides}
use Rattle.codes.specs.Views.{taken_by}
use Rattle.std.proofs.lemmas.Bool.{and_parts}
use Rattle.codes.specs.Codes.{Taken, took, then_read, word, read_word, read_str, read_items, read_both, read_list}
use Rattle.codes.specs.Reading.{items_step}
use Rattle.pair_frames.specs.declared.limits.TheConstants.{MAGIC_BYTES}
use Rattle.pair_frames.specs.Runs.{NamedBytes, file_runs, read_files, list_runs, key_magic, key_runs}
use Rattle.pair_frames.specs.Runs.Run.{Plain}
use Rattle.pair_writer.specs.Lists.{is_taken, lists_files}
use Rattle.pair_writer.specs.FileTexts.{bytes_read}

-- a path and the bytes of its file
abbrev pub read_named : List ℕ → Taken NamedBytes
read_named bytes = read_both read_str read_str bytes

-- ---- where a list stands

-- these are the members so far, and the others are to be read from the rest
pub record IsListed (key : List ℕ) (count i : ℕ) (rest : List ℕ) (files : List NamedBytes)
    : Type 0 where
  pub many : length files ≡ i
  pub is : read_files (drop MAGIC_BYTES key) ≡ read_items read_named files (count - i) rest

pub listed_none : (key : List ℕ) (count : ℕ) (first : List ℕ)
    → read_word (drop MAGIC_BYTES key) ≡ took count first → IsListed key count 0 first []
unfolding read_files read_list
listed_none key count first is = record {
  many = refl;
  is =
      ap (λ (t : Taken ℕ). then_read t (λ n rest. read_items read_named [] n rest)) is
      ∙ ap (λ (n : ℕ). read_items read_named [] n first) (omega arith);
}

-- where a member is to come, there is one
first_by : (n : ℕ) (files : List NamedBytes) (rest : List ℕ) (t : Taken (List ℕ)) → 0 < n
    → read_str rest ≡ t → is_taken (read_items read_named files n rest) ≡ true
    → is_taken t ≡ true
unfolding read_both
first_by zero files rest t some found taken = absurd (omega arith)
first_by (suc n) files rest (Some p) some found taken = refl
first_by (suc n) files rest None some found taken =
    let more = λ (x : List ℕ) (r : List ℕ). then_read (read_str r) (λ y end. took (x, y) end) in
    let next = λ (f : NamedBytes) (r : List ℕ). read_items read_named (files ++ f ∷ []) n r in
    sym (ap (λ (t : Taken (List ℕ)). is_taken (then_read (then_read t more) next)) found) ∙ taken

second_by : (n : ℕ) (files : List NamedBytes) (rest name behind : List ℕ) (t : Taken (List ℕ))
    → 0 < n → read_str rest ≡ took name behind → read_str behind ≡ t
    → is_taken (read_items read_named files n rest) ≡ true → is_taken t ≡ true
unfolding read_both
second_by zero files rest name behind t some first found taken = absurd (omega arith)
second_by (suc n) files rest name behind (Some p) some first found taken = refl
second_by (suc n) files rest name behind None some first found taken =
    let more = λ (x : List ℕ) (r : List ℕ). then_read (read_str r) (λ y end. took (x, y) end) in
    let next = λ (f : NamedBytes) (r : List ℕ). read_items read_named (files ++ f ∷ []) n r in
    sym (
    ap (λ (t : Taken (List ℕ)). is_taken (then_read (then_read t more) next)) first
    ∙ ap (λ (t : Taken (List ℕ)). is_taken (then_read (then_read t (λ y end. took (name, y) end)) next)) found
    )
    ∙ taken

abbrev pub Lists : List ℕ → Type 0
Lists key = lists_files key ≡ true

taken_items : (key : List ℕ) (count i : ℕ) (rest : List ℕ) (files : List NamedBytes) → Lists key
    → IsListed key count i rest files
    → is_taken (read_items read_named files (count - i) rest) ≡ true
taken_items key count i rest files lists x =
    sym (ap is_taken x.is)
    ∙ (and_parts (bytes_eq (take MAGIC_BYTES key) key_magic) _ lists).1

pub name_there : (key : List ℕ) (count i : ℕ) (rest : List ℕ) (files : List NamedBytes)
    → Lists key → IsListed key count i rest files → i < count → is_taken (read_str rest) ≡ true
name_there key count i rest files lists x lt =
    first_by (count - i) files rest (read_str rest) (omega arith) refl
    (taken_items key count i rest files lists x)

pub bytes_there : (key : List ℕ) (count i : ℕ) (rest name behind : List ℕ)
    (files : List NamedBytes) → Lists key → IsListed key count i rest files → i < count
    → read_str rest ≡ took name behind → is_taken (read_str behind) ≡ true
bytes_there key count i rest name behind files lists x lt first =
    second_by (count - i) files rest name behind (read_str behind) (omega arith) first refl
    (taken_items key count i rest files lists x)

named_is : (rest name behind bytes more : List ℕ) → read_str rest ≡ took name behind
    → read_str behind ≡ took bytes more → read_named rest ≡ took (name, bytes) more
unfolding read_both
named_is rest name behind bytes more first second =
    ap (λ (t : Taken (List ℕ)). then_read t (λ x r. then_read (read_str r) (λ y end. took (x, y) end))) first
    ∙ ap (λ (t : Taken (List ℕ)). then_read t (λ y end. took (name, y) end)) second

pub listed_next : (key : List ℕ) (count i : ℕ) (rest name behind bytes more : List ℕ)
    (files : List NamedBytes) → IsListed key count i rest files → i < count
    → read_str rest ≡ took name behind → read_str behind ≡ took bytes more
    → IsListed key count (i + 1) more (files ++ (name, bytes) ∷ [])
listed_next key count i rest name behind bytes more files x lt first second = record {
  many = omega (arith, x.many, length-append files ((name, bytes) ∷ []));
  is =
      x.is
      ∙ items_step read_named files (files ++ (name, bytes) ∷ []) (count - i) (count - (i + 1)) rest
      more (name, bytes) (omega arith) (named_is rest name behind bytes more first second) refl;
}

-- ---- the runs

list_key : (key : List ℕ) (t : Taken (List NamedBytes)) → Lists key
    → read_files (drop MAGIC_BYTES key) ≡ t → key_runs key ≡ list_runs key key_magic t
unfolding key_runs
list_key key t lists is =
    ap (λ (b : Bool). cond b (list_runs key key_magic (read_files (drop MAGIC_BYTES key))) (Plain key ∷ []))
    (and_parts (bytes_eq (take MAGIC_BYTES key) key_magic) _ lists).0
    ∙ ap (list_runs key key_magic) is

pub listed_runs : (key : List ℕ) (count i : ℕ) (rest : List ℕ) (files : List NamedBytes)
    → Lists key → IsListed key count i rest files → i ≡ count
    → key_runs key ≡ Plain (key_magic ++ word count) ∷ (file_runs files ++ Plain rest ∷ [])
listed_runs key count i rest files lists x all =
    let none : count - i ≡ 0 = omega (arith, all) in
    let many : length files ≡ count = omega (arith, x.many, all) in
    list_key key (took files rest) lists
    (x.is ∙ ap (λ (n : ℕ). read_items read_named files n rest) none)
    ∙ ap (λ (n : ℕ). Plain (key_magic ++ word n) ∷ (file_runs files ++ Plain rest ∷ [])) many

plain_by : (b : Bool) (key : List ℕ) (t : Taken (List NamedBytes)) → (b && is_taken t) ≡ false
    → cond b (list_runs key key_magic t) (Plain key ∷ []) ≡ Plain key ∷ []
plain_by true key (Some p) none = absurd cc
plain_by true key None none = refl
plain_by false key t none = refl

pub plain_runs : (key : List ℕ) → lists_files key ≡ false → key_runs key ≡ Plain key ∷ []
unfolding key_runs
plain_runs key none =
    plain_by (bytes_eq (take MAGIC_BYTES key) key_magic) key (read_files (drop MAGIC_BYTES key)) none

-- the file that was read, where its bytes and what follows it are known
pub read_some : (t : Taken NamedBytes) (bytes more : List ℕ) → took bytes more ≡ bytes_read t
    → (file : NamedBytes) × (t ≡ took file more) × (file.1 ≡ bytes)
read_some None bytes more is = absurd cc
read_some (Some p) bytes more is =
    let same : (bytes, more) ≡ (p.0.1, p.1) = cc in (
      p.0,
      ap (λ (q : List ℕ × List ℕ). Some (p.0, q.1)) (sym same),
      ap (λ (q : List ℕ × List ℕ). q.0) (sym same),
    )

-- no file was read, so no list of files is
none_read : (t : Taken NamedBytes) → None ≡ bytes_read t → t ≡ None
none_read None none = refl
none_read (Some p) none = absurd cc

pub items_none : (n : ℕ) (files : List NamedBytes) (rest : List ℕ) → 0 < n
    → None ≡ bytes_read (read_named rest) → read_items read_named files n rest ≡ None
items_none zero files rest some none = absurd (omega arith)
items_none (suc n) files rest some none =
    ap (λ (t : Taken NamedBytes). then_read t (λ f more. read_items read_named (files ++ f ∷ []) n more))
    (none_read (read_named rest) none)

count_by : (bytes : List ℕ) (t : Taken ℕ) → read_word bytes ≡ t
    → is_taken (read_files bytes) ≡ true → is_taken t ≡ true
unfolding read_files read_list
count_by bytes (Some p) found taken = refl
count_by bytes None found taken =
    sym (ap (λ (t : Taken ℕ). is_taken (then_read t (λ n rest. read_items read_named [] n rest))) found) ∙ taken

pub count_there : (key : List ℕ) → Lists key
    → is_taken (read_word (drop MAGIC_BYTES key)) ≡ true
count_there key lists =
    count_by (drop MAGIC_BYTES key) (read_word (drop MAGIC_BYTES key)) refl
    (and_parts (bytes_eq (take MAGIC_BYTES key) key_magic) _ lists).1

pub magic_there : (key : List ℕ) → Lists key → take MAGIC_BYTES key ≡ key_magic
magic_there key lists =
    (bytes_eq-Decides (take MAGIC_BYTES key) key_magic).0
    (and_parts (bytes_eq (take MAGIC_BYTES key) key_magic) _ lists).0

-- ---- what Rust hands out

pub took_is : {P A : Type 0} (value : P → A) (rest : P → List ℕ) (o : Option P) (p : P)
    (t : Taken A) → taken_by value rest o ≡ t → o ≡ Some p → t ≡ took (value p) (rest p)
took_is value rest o p t seen is = sym seen ∙ ap (taken_by value rest) is

pub some_of : {P A : Type 0} (value : P → A) (rest : P → List ℕ) (o : Option P) (t : Taken A)
    → taken_by value rest o ≡ t → is_taken t ≡ true → IsSome o
some_of value rest (Some p) t seen taken = refl
some_of value rest None t seen taken = let none = ap is_taken seen in absurd cc
