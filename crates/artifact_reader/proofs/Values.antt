-- Values by the parts of their texts.
use Rattle.std.proofs.Common.{◌≡◌, ℕ, List, [], Option, Some, None, ◌∙◌, ap}
use Rattle.rel_path.specs.Paths.{Path}
use Rattle.codes.specs.Codes.{Taken, then_read, read_bytes, read_word, read_str, read_items, read_list, read_both}
use Rattle.codes.specs.Reading.{then_is}
use Rattle.cache_api.specs.Artifacts.{File}
use Rattle.cache_api.specs.Reading.{path_in, then_rest, read_path, read_file, read_files}

-- where the first of two readers reads nothing
none_first : {A B : Type 0} (t : Taken A) (next : A → List ℕ → Taken B) → t ≡ None → then_read t next ≡ None
none_first {A} t next none = ap (λ (u : Taken A). then_read u next) none

pub str_none : (bytes : List ℕ) → read_word bytes ≡ None → read_str bytes ≡ None
unfolding read_str
str_none bytes e = none_first (read_word bytes) read_bytes e

pub str_as : (bytes : List ℕ) (n : ℕ) (rest : List ℕ) (t : Taken (List ℕ)) → read_word bytes ≡ Some (n, rest) → read_bytes n rest ≡ t → read_str bytes ≡ t
unfolding read_str
str_as bytes n rest t e more = then_is (read_word bytes) read_bytes n rest e ∙ more

path_as : (bytes text rest : List ℕ) (o : Option Path) → read_str bytes ≡ Some (text, rest) → path_in text ≡ o → read_path bytes ≡ then_rest o rest
unfolding read_path
path_as bytes text rest o e is = then_is (read_str bytes) (λ x more. then_rest (path_in x) more) text rest e ∙ ap (λ (p : Option Path). then_rest p rest) is

pub path_none : (bytes : List ℕ) → read_str bytes ≡ None → read_path bytes ≡ None
unfolding read_path
path_none bytes e = none_first (read_str bytes) (λ x more. then_rest (path_in x) more) e

pub path_bad : (bytes text rest : List ℕ) → read_str bytes ≡ Some (text, rest) → path_in text ≡ None → read_path bytes ≡ None
path_bad bytes text rest e bad = path_as bytes text rest None e bad

pub path_good : (bytes text rest : List ℕ) (path : Path) → read_str bytes ≡ Some (text, rest) → path_in text ≡ Some path → read_path bytes ≡ Some (path, rest)
path_good bytes text rest path e good = path_as bytes text rest (Some path) e good

module _ {A B : Type 0} (a : List ℕ → Taken A) (b : List ℕ → Taken B) where
  pub both_none : (bytes : List ℕ) → a bytes ≡ None → read_both a b bytes ≡ None
  unfolding read_both
  both_none bytes e = none_first (a bytes) (λ x rest. then_read (b rest) (λ y more. Some ((x, y), more))) e

  pub both_short : (bytes : List ℕ) (x : A) (rest : List ℕ) → a bytes ≡ Some (x, rest) → b rest ≡ None → read_both a b bytes ≡ None
  unfolding read_both
  both_short bytes x rest e none = then_is (a bytes) (λ x rest. then_read (b rest) (λ y more. Some ((x, y), more))) x rest e ∙ none_first (b rest) (λ y more. Some ((x, y), more)) none

  pub both_some : (bytes : List ℕ) (x : A) (rest : List ℕ) (y : B) (more : List ℕ) → a bytes ≡ Some (x, rest) → b rest ≡ Some (y, more) → read_both a b bytes ≡ Some ((x, y), more)
  unfolding read_both
  both_some bytes x rest y more e f = then_is (a bytes) (λ x rest. then_read (b rest) (λ y more. Some ((x, y), more))) x rest e ∙ then_is (b rest) (λ y more. Some ((x, y), more)) y more f

pub file_as : (bytes : List ℕ) (t : Taken File) → read_both read_path read_str bytes ≡ t → read_file bytes ≡ t
unfolding read_file
file_as bytes t e = e

pub files_none : (bytes : List ℕ) → read_word bytes ≡ None → read_files bytes ≡ None
unfolding read_files read_list
files_none bytes e = none_first (read_word bytes) (λ n rest. read_items read_file [] n rest) e

pub files_as : (bytes : List ℕ) (n : ℕ) (rest : List ℕ) (t : Taken (List File)) → read_word bytes ≡ Some (n, rest) → read_items read_file [] n rest ≡ t → read_files bytes ≡ t
unfolding read_files read_list
files_as bytes n rest t e more = then_is (read_word bytes) (λ n rest. read_items read_file [] n rest) n rest e ∙ more
